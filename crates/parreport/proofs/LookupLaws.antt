-- The lookups of scanned files, after one more file was put in.
use Rattle.std.proofs.Common.{◌≡◌, ℕ, ◌+◌, ◌<◌, ◌≤◌, ◌==◌, ◌&&◌, ◌||◌, ◌++◌, ◌∙◌, nat_lt, not, Bool, true, false, List, [], ◌∷◌, Option, Some, None, length, take, get_or, ap, sym, refl, cond, unwrap_or, min, position, length-append, arith}
use Rattle.std.specs.BTreeMap as tree
use Rattle.std.specs.BTreeSet as sorted
use Rattle.std.specs.BTreeMap.{BTreeMap}
use Rattle.std.specs.BTreeSet.{BTreeSet}
use Rattle.std.specs.Cmp.Lexicographic.{slice_cmp}
use Rattle.std.specs.List.{list_any, zip, position_or_len}
use Rattle.std.specs.Option.{option_or}
use Rattle.std.specs.Str.{bytes_eq}
use Rattle.std.specs.Ordering.{nat_cmp, ordering_then, is_eq}
use Rattle.std.specs.declared.cmp.Ordering.{Ordering}
use Rattle.std.specs.declared.cmp.Ordering.TheVariants.{Less, Equal, Greater}
use Rattle.std.proofs.lemmas.Bool.{eqb-true}
use Rattle.std.proofs.lemmas.Bool.Decides.{nat_tests}
use Rattle.std.proofs.lemmas.List.{take_all, take_more, length-take-le}
use Rattle.std.proofs.lemmas.List.Sums.{prefix_len-le-length}
use Rattle.std.proofs.lemmas.List.Folds.{list_any_more, position_or_len_push}
use Rattle.std.proofs.lemmas.Slice.Zip.{length-zip, get_or-zip}
use Rattle.std.proofs.lemmas.Map.Text.{is_eq-slice_cmp}
use denote.Ref.{Bor}
use Rattle.parfield.specs.HashOrder.{id_cmp, bytes_eq-reversed}
use Rattle.parfield.specs.declared.hash16.Hash16.{Hash16}
use Rattle.parset.proofs.IdLaws.{same_id}
use Rattle.parset.specs.declared.recovery_set.SetFile.{SetFile}
use Rattle.parreport.proofs.LengthLaws.{there_after}
use Rattle.parreport.specs.Lookups.{content_cmp, length_and_md5_of, first_at, has_name_of, has_both_of, looked_up_state_of}
use Rattle.parplan.specs.declared.command.Scanned.{Scanned}
use Rattle.parreport.specs.States.{has_content_of, shows_content_of, shows_both, is_name_of, checked_state_of}
use Rattle.parreport.specs.declared.states.contents.LengthAndMd5.{LengthAndMd5}
use Rattle.parreport.specs.declared.states.lookups.Lookups.{Lookups}

-- ---- the order of the keys
both_equal : (a b : Ordering) → is_eq (ordering_then a b) ≡ (is_eq a && is_eq b)
both_equal Less b = refl
both_equal Equal b = refl
both_equal Greater b = refl

as_tested : (b c : Bool) → cond b true false ≡ (c || false) → b ≡ c
as_tested true true h = h
as_tested true false h = h
as_tested false true h = h
as_tested false false h = h

same_content : (file : SetFile) (content : LengthAndMd5) → is_eq (content_cmp content (length_and_md5_of file)) ≡ has_content_of file content
same_content file content =
    let length_is = as_tested (is_eq (nat_cmp content.length file.length)) (content.length == file.length) (there_after content.length file.length false) in
    both_equal (nat_cmp content.length file.length) (id_cmp content.whole file.whole)
    ∙ (ap (λ b. b && is_eq (id_cmp content.whole file.whole)) length_is
    ∙ ap (λ b. (content.length == file.length) && b) (sym (bytes_eq-reversed content.whole.0 file.whole.0)))

both_true : (a b : Bool) → (a && b) ≡ true → (a ≡ true) × (b ≡ true)
both_true true true h = (refl, refl)
both_true true false h = (refl, h)
both_true false b h = (h, cc h)

equal_content : (file : SetFile) (content : LengthAndMd5) → has_content_of file content ≡ true → content ≡ length_and_md5_of file
equal_content file content h =
    let both = both_true (content.length == file.length) (bytes_eq content.whole.0 file.whole.0) h in
    let one = λ (n : ℕ) (hash : Hash16). let r : LengthAndMd5 = record { length = n; whole = hash } in r in
    ap (λ n. one n content.whole) (eqb-true content.length file.length both.0) ∙ ap (one file.length) (same_id content.whole file.whole both.1)

-- ---- sets
with_one : (same there : Bool) → cond same true there ≡ (there || same)
with_one true true = refl
with_one true false = refl
with_one false true = refl
with_one false false = refl

-- a name was put in
pub name_added : (names now : BTreeSet (Bor (List ℕ))) (name : Bor (List ℕ))
    → sorted.Updates (λ x y. slice_cmp nat_cmp x.now y.now) names now name true
    → (file : SetFile) → has_name_of now file ≡ (has_name_of names file || is_name_of file name.now)
name_added names now name put file =
    put.0 (record { ref_ptr = (0, 0); now = file.name })
    ∙ (with_one (is_eq (slice_cmp nat_cmp name.now file.name)) (has_name_of names file)
    ∙ ap (λ b. has_name_of names file || b) (is_eq-slice_cmp name.now file.name))

-- a content with a name was put in
pub both_added : (both now : BTreeSet (LengthAndMd5 × Bor (List ℕ))) (content : LengthAndMd5) (name : Bor (List ℕ))
    → sorted.Updates (λ x y. ordering_then (content_cmp x.0 y.0) (slice_cmp nat_cmp x.1.now y.1.now)) both now (content, name) true
    → (file : SetFile) → has_both_of now file ≡ (has_both_of both file || (has_content_of file content && is_name_of file name.now))
both_added both now content name put file =
    let whole = content_cmp content (length_and_md5_of file) in let named = slice_cmp nat_cmp name.now file.name in
    put.0 (length_and_md5_of file, record { ref_ptr = (0, 0); now = file.name })
    ∙ (with_one (is_eq (ordering_then whole named)) (has_both_of both file)
    ∙ (ap (λ b. has_both_of both file || b) (both_equal whole named)
    ∙ (ap (λ b. has_both_of both file || (b && is_eq named)) (same_content file content)
    ∙ ap (λ b. has_both_of both file || (has_content_of file content && b)) (is_eq-slice_cmp name.now file.name))))

-- ---- the map
kept_first : (old : Option ℕ) (number : ℕ) → Some (unwrap_or old number) ≡ option_or old (Some number)
kept_first None number = refl
kept_first (Some first) number = refl

kept_other : (old : Option ℕ) → old ≡ option_or old None
kept_other None = refl
kept_other (Some first) = refl

first_if : (same : Bool) (there old : Option ℕ) (number : ℕ) → (same ≡ true → there ≡ old)
    → cond same (Some (unwrap_or there number)) old ≡ option_or old (cond same (Some number) None)
first_if true there old number h = ap (λ o. Some (unwrap_or o number)) (h refl) ∙ kept_first old number
first_if false there old number h = kept_other old

-- a number was put in for a content, which keeps the number that it has
pub first_added : (firsts now : BTreeMap LengthAndMd5 ℕ) (content : LengthAndMd5) (number kept : ℕ)
    → tree.Updates content_cmp firsts now content (Some kept) → kept ≡ unwrap_or (tree.get content_cmp firsts content) number
    → (file : SetFile) → first_at now file ≡ option_or (first_at firsts file) (cond (has_content_of file content) (Some number) None)
first_added firsts now content number kept put is file =
    let same = has_content_of file content in let there = tree.get content_cmp firsts in
    put.0 (length_and_md5_of file)
    ∙ (ap (λ b. cond b (Some kept) (first_at firsts file)) (same_content file content)
    ∙ (ap (λ n. cond same (Some n) (first_at firsts file)) is
    ∙ first_if same (there content) (first_at firsts file) number (λ h. ap there (equal_content file content h))))

-- ---- one more file
pushed : (first n : ℕ) (passes : Bool) → first ≤ n
    → cond (nat_lt (cond (first == n) (n + cond passes 0 1) first) (n + 1)) (Some (cond (first == n) (n + cond passes 0 1) first)) None
    ≡ option_or (cond (nat_lt first n) (Some first) None) (cond passes (Some n) None)
pushed first n true within = grind (arith, nat_tests)
pushed first n false within = grind (arith, nat_tests)

position-push : {A : Type 0} (p : A → Bool) (xs : List A) (x : A)
    → position p (xs ++ x ∷ []) ≡ option_or (position p xs) (cond (p x) (Some (length xs)) None)
position-push p xs x =
    let n = length xs in let first = position_or_len p xs in
    ap (λ k. cond (nat_lt k (length (xs ++ x ∷ []))) (Some k) None) (position_or_len_push p xs x)
    ∙ (ap (λ m. cond (nat_lt (cond (first == n) (n + cond (p x) 0 1) first) m) (Some (cond (first == n) (n + cond (p x) 0 1) first)) None)
    (length-append xs (x ∷ []))
    ∙ pushed first n (p x) (prefix_len-le-length (λ y. not (p y)) xs))

-- the number of the first element that passes a test, after one more element
pub position-more : {A : Type 0} (p : A → Bool) (xs : List A) (n : ℕ) (d : A) → n < length xs
    → position p (take (n + 1) xs) ≡ option_or (position p (take n xs)) (cond (p (get_or xs n d)) (Some n) None)
position-more p xs n d here =
    ap (position p) (take_more xs n d here)
    ∙ (position-push p (take n xs) (get_or xs n d)
    ∙ ap (λ m. option_or (position p (take n xs)) (cond (p (get_or xs n d)) (Some m) None)) (length-take-le n xs (omega arith)))

-- whether some pair passes a test, after one more pair
pub list_any-zip_more : {A B : Type 0} (p : A × B → Bool) (xs : List A) (ys : List B) (n : ℕ) (x : A) (y : B) → n < length xs → n < length ys
    → x ≡ get_or xs n x → y ≡ get_or ys n y
    → list_any p (take (n + 1) (zip xs ys)) ≡ (list_any p (take n (zip xs ys)) || p (x, y))
list_any-zip_more p xs ys n x y here there x_is y_is =
    let within : n < length (zip xs ys) = omega (arith, length-zip xs ys) in
    list_any_more p (zip xs ys) n (x, y) within
    ∙ (ap (λ pair. list_any p (take n (zip xs ys)) || p pair) (get_or-zip xs ys n (x, y) here there)
    ∙ (ap (λ one. list_any p (take n (zip xs ys)) || p (one, get_or ys n y)) (sym x_is)
    ∙ ap (λ one. list_any p (take n (zip xs ys)) || p (x, one)) (sym y_is)))

-- all pairs
pub take-zip_all : {A B : Type 0} (xs : List A) (ys : List B) (n : ℕ) → n ≡ min (length xs) (length ys) → take n (zip xs ys) ≡ zip xs ys
take-zip_all xs ys n all = take_all n (zip xs ys) (omega (arith, length-zip xs ys))

-- ---- the state of a file
pub looked_up_same : (lookups : Lookups) (files : List Scanned) (contents : List (Option LengthAndMd5))
    → ((file : SetFile) → first_at lookups.firsts file ≡ position (shows_content_of file) contents)
    → ((file : SetFile) → has_name_of lookups.names file ≡ list_any (λ one. is_name_of file one.name) files)
    → ((file : SetFile) → has_both_of lookups.both file ≡ list_any (shows_both file) (zip files contents))
    → (file : SetFile) → looked_up_state_of lookups file ≡ checked_state_of files contents file
looked_up_same lookups files contents firsts names both file =
    let first = firsts file in let named = names file in let whole = both file in cc
