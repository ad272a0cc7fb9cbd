-- No two files of a recovery set have one name.
use Rattle.std.proofs.Common.{◌≡◌, ◌∙◌, ℕ, Bool, false, cond, ◌||◌, List, [], ◌∷◌, ◌++◌, Option, Some, None, Ok, ap, append_assoc, bytes_eq, map, subst, sym, refl, ⊎_elim}
use Rattle.std.specs.BTreeMap.{BTreeMap}
use Rattle.std.specs.List.{IsDistinct, list_any}
use Rattle.std.proofs.lemmas.Bool.{cases_Bool}
use Rattle.std.proofs.lemmas.Cmp.{nat_list_eq_equiv}
use Rattle.std.proofs.lemmas.List.{append-nil, map-append}
use Rattle.std.proofs.lemmas.Map.Keys.{IsDistinct-push}
use Rattle.parfield.specs.declared.hash16.Hash16.{Hash16}
use Rattle.parset.specs.SharedNames.{has_name, repeated_name}
use Rattle.parset.specs.RecoverySet.{names_checked, slices_checked}
use Rattle.parset.specs.Slices.{file_views, set_file_of}
use Rattle.std.specs.Prelude.{option_map}
use Rattle.parset.specs.BodyAnswers.{answer_of}
use Rattle.parset.specs.declared.recovery_set.SetFault.TheVariants.{NameTwice}
use Rattle.parset.proofs.SharedNameLaws.{repeated_from, repeated_name-from}
use Rattle.parset.specs.declared.bodies.checksums.Ifsc.{Ifsc}
use Rattle.parset.specs.declared.bodies.description.Desc.{Desc}
use Rattle.parset.proofs.DescribingLaws.{slices_checked_same, names_checked_same}

-- the names of files, in order
abbrev names_of : List Desc → List (List ℕ)
names_of files = map (λ file. file.name) files

name_among : (name : List ℕ) (files : List Desc) → list_any (bytes_eq name) (names_of files) ≡ list_any (has_name name) files
name_among name [] = refl
name_among name (file ∷ files) =
    ap (λ b. b || list_any (bytes_eq name) (names_of files)) (nat_list_eq_equiv.symm name file.name)
    ∙ ap (λ b. bytes_eq file.name name || b) (name_among name files)

one_more : (before : List Desc) (file : Desc) → IsDistinct bytes_eq (names_of before) → list_any (has_name file.name) before ≡ false
    → IsDistinct bytes_eq (names_of (before ++ file ∷ []))
one_more before file d e =
    subst (IsDistinct bytes_eq) (sym (map-append (λ f. f.name) before (file ∷ [])))
    (IsDistinct-push nat_list_eq_equiv (names_of before) file.name d (name_among file.name before ∙ e))

distinct_with : (before files : List Desc) → IsDistinct bytes_eq (names_of before) → repeated_from before files ≡ None
    → IsDistinct bytes_eq (names_of (before ++ files))
distinct_with before [] d e = subst (λ files. IsDistinct bytes_eq (names_of files)) (sym (append-nil before)) d
distinct_with before (file ∷ files) d e =
    let next : Bool → Option Desc = λ b. cond b (Some file) (repeated_from (before ++ file ∷ []) files) in
    let Distinct : List Desc → Type 0 = λ all. IsDistinct bytes_eq (names_of all) in
    ⊎_elim
    (λ yes. let some : Some file ≡ None = sym (ap next yes) ∙ e in absurd (cc))
    (λ no. subst Distinct (append_assoc before (file ∷ []) files)
    (distinct_with (before ++ file ∷ []) files (one_more before file d no) (sym (ap next no) ∙ e)))
    (cases_Bool (list_any (has_name file.name) before))

none_repeated : (found : Option Desc) (files named : List Desc)
    → answer_of (option_map (λ file. NameTwice file.id) found) files ≡ Ok named → found ≡ None
none_repeated None files named e = refl
none_repeated (Some file) files named e = absurd (cc)

names_differ : (files named : List Desc) → names_checked files ≡ Ok named → IsDistinct bytes_eq (names_of files)
unfolding IsDistinct
names_differ files named e = distinct_with [] files tt (sym (repeated_name-from files) ∙ none_repeated (repeated_name files) files named e)

pub files_differ : (size : ℕ) (described named files : List Desc) → names_checked described ≡ Ok named → slices_checked size named ≡ Ok files
    → IsDistinct bytes_eq (names_of files)
files_differ size described named files n s =
    let same : files ≡ described = slices_checked_same size named files s ∙ names_checked_same described named n in
    subst (λ all. IsDistinct bytes_eq (names_of all)) (sym same) (names_differ described named n)

-- the set shows the names of the described files, in the same order
pub shown_names : (found : BTreeMap Hash16 Ifsc) (files : List Desc) → map (λ f. f.name) (map set_file_of (file_views found files)) ≡ names_of files
shown_names found [] = refl
shown_names found (file ∷ files) = ap (λ all. file.name ∷ all) (shown_names found files)
