-- The first file that has the same name as a file before it: by its index, and as a loop finds it.
use Rattle.std.proofs.Common.{◌≡◌, ℕ, ◌+◌, ◌<◌, ◌≤◌, ◌∙◌, ap, sym, refl, Bool, true, false, List, [], ◌∷◌, ◌++◌, length, take, drop, get_or, append_assoc, Some, None, Option, cond, ◌||◌, nat_cmp, if◌then◌else◌}
use Rattle.std.proofs.Math.Seq.{take-append_seam}
use Rattle.std.proofs.lemmas.List.{drop_more, drop_all, length-append, take_more}
use Rattle.std.proofs.lemmas.List.Folds.{list_any-append}
use Rattle.std.proofs.lemmas.Map.Text.{is_eq-slice_cmp}
use Rattle.std.specs.Cmp.Lexicographic.{slice_cmp}
use Rattle.std.specs.List.{list_any, range_with_len, slice_get}
use Rattle.std.specs.Option.{option_or}
use Rattle.std.specs.Ordering.{is_eq}
use Rattle.std.specs.Str.{bytes_eq}
use Rattle.parset.specs.Choosing.{first_found, only_if}
use Rattle.parset.specs.SharedNames.{has_name, repeated_at, repeated_name}
use Rattle.parset.specs.declared.bodies.description.Desc.{Desc}

-- the first of these files that has the same name as a file before it, including
-- the files in `before`
abbrev pub repeated_from : List Desc → List Desc → Option Desc
repeated_from before [] = None
repeated_from before (file ∷ files) =
    if list_any (has_name file.name) before then Some file else repeated_from (before ++ file ∷ []) files

slice_get_seam : {X : Type 0} (before : List X) (x : X) (after : List X) → slice_get (before ++ x ∷ after) (length before) ≡ Some x
slice_get_seam [] x after = refl
slice_get_seam (y ∷ ys) x after = slice_get_seam ys x after

repeated_at-seam : (before : List Desc) (file : Desc) (files : List Desc)
    → repeated_at (before ++ file ∷ files) (length before) ≡ (if list_any (has_name file.name) before then Some file else None)
repeated_at-seam before file files =
    ap (only_if (λ f. list_any (has_name f.name) (take (length before) (before ++ file ∷ files)))) (slice_get_seam before file files)
    ∙ ap (λ xs. if list_any (has_name file.name) xs then Some file else None) (take-append_seam before (file ∷ files))

or_else : {X : Type 0} (b : Bool) (x : X) (rest : Option X) → option_or (if b then Some x else None) rest ≡ (if b then Some x else rest)
or_else true x rest = refl
or_else false x rest = refl

from_places : (before files : List Desc)
    → first_found (repeated_at (before ++ files)) (range_with_len (length before) (length files)) ≡ repeated_from before files
from_places before [] = refl
from_places before (file ∷ files) =
    let all = before ++ file ∷ files in
    let later : first_found (repeated_at all) (range_with_len (length before + 1) (length files)) ≡ repeated_from (before ++ file ∷ []) files =
    ap (λ xs. first_found (repeated_at xs) (range_with_len (length before + 1) (length files))) (sym (append_assoc before (file ∷ []) files))
    ∙ ap (λ n. first_found (repeated_at ((before ++ file ∷ []) ++ files)) (range_with_len n (length files))) (sym (length-append before (file ∷ [])))
    ∙ from_places (before ++ file ∷ []) files in
    ap (λ o. option_or o (first_found (repeated_at all) (range_with_len (length before + 1) (length files)))) (repeated_at-seam before file files)
    ∙ ap (option_or (if list_any (has_name file.name) before then Some file else None)) later
    ∙ or_else (list_any (has_name file.name) before) file (repeated_from (before ++ file ∷ []) files)

pub repeated_name-from : (files : List Desc) → repeated_name files ≡ repeated_from [] files
unfolding repeated_name
repeated_name-from files = from_places [] files

-- ---- one file after another
pub repeated_here : (files : List Desc) (i : ℕ) (d : Desc) → i < length files
    → list_any (has_name (get_or files i d).name) (take i files) ≡ true
    → repeated_from (take i files) (drop i files) ≡ Some (get_or files i d)
repeated_here files i d h e =
    ap (repeated_from (take i files)) (drop_more files i d h) ∙ rw e

pub repeated_later : (files : List Desc) (i : ℕ) (d : Desc) → i < length files
    → list_any (has_name (get_or files i d).name) (take i files) ≡ false
    → repeated_from (take i files) (drop i files) ≡ repeated_from (take (i + 1) files) (drop (i + 1) files)
repeated_later files i d h e =
    ap (repeated_from (take i files)) (drop_more files i d h)
    ∙ (rw e (ap (λ before. repeated_from before (drop (i + 1) files)) (sym (take_more files i d h))))

pub repeated_nowhere : (files : List Desc) (i : ℕ) → length files ≤ i → repeated_from (take i files) (drop i files) ≡ None
repeated_nowhere files i h = ap (repeated_from (take i files)) (drop_all i files h)

either_way : (b a : Bool) → cond b true a ≡ (a || (b || false))
either_way true true = refl
either_way true false = refl
either_way false true = refl
either_way false false = refl

-- after one more file, the set of names has a name exactly if one of the first i + 1 files has it
pub name_more : (files : List Desc) (i : ℕ) (file : Desc) → i < length files → file ≡ get_or files i file
    → (name : List ℕ) (before after : Bool) → before ≡ list_any (has_name name) (take i files)
    → after ≡ cond (is_eq (slice_cmp nat_cmp file.name name)) true before
    → after ≡ list_any (has_name name) (take (i + 1) files)
name_more files i file h is name before after e f =
    f ∙ (ap (λ b. cond b true before) (is_eq-slice_cmp file.name name)
    ∙ (ap (λ a. cond (bytes_eq file.name name) true a) e
    ∙ (either_way (bytes_eq file.name name) (list_any (has_name name) (take i files))
    ∙ (ap (λ (x : Desc). list_any (has_name name) (take i files) || (bytes_eq x.name name || false)) is
    ∙ sym (ap (list_any (has_name name)) (take_more files i file h) ∙ list_any-append (has_name name) (take i files) (get_or files i file ∷ []))))))
