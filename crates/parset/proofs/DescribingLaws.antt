-- The descriptions of files, one after another, and the names of the files.
use Rattle.std.proofs.Common.{◌≡◌, ℕ, ◌+◌, ◌<◌, ◌≤◌, ◌∙◌, ap, sym, refl, Bool, true, false, List, [], ◌∷◌, ◌++◌, length, drop, get_or, append_assoc, map, Some, None, Ok, Err, Result, Option, cond, nat_lt, suc, ⊎_elim}
use Rattle.std.specs.Option.{ok_or, option_or}
use Rattle.std.proofs.lemmas.Bool.{cases_Bool}
use Rattle.std.proofs.lemmas.List.Elements.{All-cons, All-nil, All-same}
use Rattle.parfield.specs.Chain.{◌>>=◌}
use Rattle.parset.proofs.IdLaws.{same_id}
use Rattle.std.specs.Str.{bytes_eq}
use Rattle.std.proofs.lemmas.List.{append-nil, drop_more, drop_all}
use Rattle.parfield.specs.declared.hash16.Hash16.{Hash16}
use Rattle.parsalvage.specs.declared.kept.Kept.{Kept}
use Rattle.std.specs.Prelude.{option_map}
use Rattle.parset.specs.BodyAnswers.{answer_of}
use Rattle.parset.specs.Limits.{slice_limit}
use Rattle.parset.specs.Choosing.{AreDescribed, file_description_of, first_found, only_if}
use Rattle.parset.specs.PacketFields.{usable_description}
use Rattle.parset.specs.RecoverySet.{descriptions_of, names_checked, slices_checked}
use Rattle.parset.specs.SharedNames.{repeated_name}
use Rattle.parset.specs.Slices.{slice_total}
use Rattle.parset.specs.declared.bodies.description.Desc.{Desc}
use Rattle.parset.specs.declared.recovery_set.SetFault.{SetFault}
use Rattle.parset.specs.declared.recovery_set.SetFault.TheVariants.{NameTwice, NoDesc, TooManySlices}

-- the result for other files, with these files put in front
abbrev pub appended : List Desc → Result (List Desc) SetFault → Result (List Desc) SetFault
appended files others = others >>= λ more. Ok (files ++ more)

-- a file in front of the others may as well be counted among the files before
regrouped : (files : List Desc) (file : Desc) (others : Result (List Desc) SetFault)
    → appended files (others >>= λ more. Ok (file ∷ more)) ≡ appended (files ++ file ∷ []) others
regrouped files file (Ok more) = ap Ok (sym (append_assoc files (file ∷ []) more))
regrouped files file (Err fault) = refl

pub described_more : (own : List Kept) (ids : List Hash16) (i : ℕ) (d : Hash16) (files : List Desc) (file : Desc) → i < length ids
    → file_description_of (get_or ids i d) own ≡ Some file
    → appended files (descriptions_of own (drop i ids)) ≡ appended (files ++ file ∷ []) (descriptions_of own (drop (i + 1) ids))
unfolding descriptions_of
described_more own ids i d files file h found =
    let id = get_or ids i d in let rest = descriptions_of own (drop (i + 1) ids) in
    ap (λ xs. appended files (descriptions_of own xs)) (drop_more ids i d h)
    ∙ (ap (λ o. appended files (ok_or o (NoDesc id) >>= λ first. rest >>= λ more. Ok (first ∷ more))) found
    ∙ regrouped files file rest)

pub described_none : (own : List Kept) (ids : List Hash16) (i : ℕ) (d : Hash16) (files : List Desc) → i < length ids
    → file_description_of (get_or ids i d) own ≡ None
    → appended files (descriptions_of own (drop i ids)) ≡ Err (NoDesc (get_or ids i d))
unfolding descriptions_of
described_none own ids i d files h found =
    let id = get_or ids i d in let rest = descriptions_of own (drop (i + 1) ids) in
    ap (λ xs. appended files (descriptions_of own xs)) (drop_more ids i d h)
    ∙ ap (λ o. appended files (ok_or o (NoDesc id) >>= λ first. rest >>= λ more. Ok (first ∷ more))) found

pub described_all : (own : List Kept) (ids : List Hash16) (i : ℕ) (files : List Desc) → length ids ≤ i
    → appended files (descriptions_of own (drop i ids)) ≡ Ok files
unfolding descriptions_of
described_all own ids i files h =
    ap (λ xs. appended files (descriptions_of own xs)) (drop_all i ids h) ∙ ap Ok (append-nil files)

-- ---- what is described first
-- a thing that was found first by a test passes that test
or_passes : {T : Type 0} (p : T → Bool) (o rest : Option T) (t : T) → option_or (only_if p o) rest ≡ Some t
    → (rest ≡ Some t → p t ≡ true) → p t ≡ true
or_passes p None rest t e k = k e
or_passes p (Some y) rest t e k =
    ⊎_elim
    (λ yes. let same : Some y ≡ Some t = ap (λ b. option_or (cond b (Some y) None) rest) (sym yes) ∙ e in
    let is : y ≡ t = cc in ap p (sym is) ∙ yes)
    (λ no. k (ap (λ b. option_or (cond b (Some y) None) rest) (sym no) ∙ e))
    (cases_Bool (p y))

first_found_satisfies : {X T : Type 0} (p : T → Bool) (find : X → Option T) (xs : List X) (t : T)
    → first_found (λ x. only_if p (find x)) xs ≡ Some t → p t ≡ true
first_found_satisfies p find [] t e = cc
first_found_satisfies p find (x ∷ xs) t e =
    or_passes p (find x) (first_found (λ y. only_if p (find y)) xs) t e (first_found_satisfies p find xs t)

described_id : (own : List Kept) (id : Hash16) (file : Desc) → file_description_of id own ≡ Some file → file.id ≡ id
described_id own id file e = same_id file.id id (first_found_satisfies (λ d. bytes_eq d.id.0 id.0) (λ k. usable_description k.kind k.body) own file e)

described_itself : (own : List Kept) (id : Hash16) (file : Desc) → file_description_of id own ≡ Some file
    → file_description_of file.id own ≡ Some file
described_itself own id file e =
    ap (λ i. file_description_of i own) (described_id own id file e) ∙ e

-- an ID and the IDs after it all have a description: the first file and the files after it
record Step (o : Option Desc) (r : Result (List Desc) SetFault) (files : List Desc) : Type 0 where
  file : Desc
  more : List Desc
  found : o ≡ Some file
  others : r ≡ Ok more
  all : files ≡ file ∷ more

step_of : (id : Hash16) (o : Option Desc) (r : Result (List Desc) SetFault) (files : List Desc)
    → (ok_or o (NoDesc id) >>= λ file. r >>= λ more. Ok (file ∷ more)) ≡ Ok files → Step o r files
step_of id None r files e = absurd (cc)
step_of id (Some file) (Err fault) files e = absurd (cc)
step_of id (Some file) (Ok more) files e = record { file = file; more = more; found = refl; others = refl; all = cc }

pub all_described : (own : List Kept) (ids : List Hash16) (files : List Desc) → descriptions_of own ids ≡ Ok files
    → AreDescribed own files
unfolding descriptions_of
all_described own [] files e =
    let P : Desc → Type 0 = λ file. file_description_of file.id own ≡ Some file in
    let none : files ≡ [] = cc in All-same P files [] none (All-nil P)
all_described own (id ∷ ids) files e =
    let P : Desc → Type 0 = λ file. file_description_of file.id own ≡ Some file in
    let s = step_of id (file_description_of id own) (descriptions_of own ids) files e in
    All-same P files (s.file ∷ s.more) s.all (All-cons P s.file s.more (described_itself own id s.file s.found) (all_described own ids s.more s.others))

-- the number of descriptions is the number of IDs
pub length-described : (own : List Kept) (ids : List Hash16) (files : List Desc) → descriptions_of own ids ≡ Ok files → length files ≡ length ids
unfolding descriptions_of
length-described own [] files e = let none : files ≡ [] = cc in ap length none
length-described own (id ∷ ids) files e =
    let s = step_of id (file_description_of id own) (descriptions_of own ids) files e in
    ap length s.all ∙ ap suc (length-described own ids s.more s.others)

-- the descriptions have the IDs in the same order
pub ids_described : (own : List Kept) (ids : List Hash16) (files : List Desc) → descriptions_of own ids ≡ Ok files → map (λ file. file.id) files ≡ ids
unfolding descriptions_of
ids_described own [] files e = let none : files ≡ [] = cc in ap (map (λ file. file.id)) none
ids_described own (id ∷ ids) files e =
    let s = step_of id (file_description_of id own) (descriptions_of own ids) files e in
    ap (map (λ file. file.id)) s.all
    ∙ (ap (λ i. i ∷ map (λ file. file.id) s.more) (described_id own id s.file s.found)
    ∙ ap (λ is. id ∷ is) (ids_described own ids s.more s.others))

-- ---- the checks return the files that they were given
names_same : (found : Option SetFault) (files named : List Desc) → answer_of found files ≡ Ok named → named ≡ files
names_same None files named e = cc
names_same (Some fault) files named e = absurd (cc)

checked_same : (many : Bool) (files few : List Desc) → cond many (Err TooManySlices) (Ok files) ≡ Ok few → few ≡ files
checked_same true files few e = absurd (cc)
checked_same false files few e = cc

pub names_checked_same : (files named : List Desc) → names_checked files ≡ Ok named → named ≡ files
names_checked_same files named e = names_same (option_map (λ file. NameTwice file.id) (repeated_name files)) files named e

pub slices_checked_same : (size : ℕ) (files few : List Desc) → slices_checked size files ≡ Ok few → few ≡ files
slices_checked_same size files few e = checked_same (nat_lt slice_limit (slice_total size files)) files few e
