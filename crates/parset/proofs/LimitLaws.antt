-- The limits of the files that usable File Description packets describe.
use Rattle.std.proofs.Common.{◌≡◌, ℕ, ◌%◌, ◌<◌, ◌≤◌, ◌==◌, ◌||◌, not, ⊎_elim, Bool, true, false, cond, List, [], ◌∷◌, length, map, Option, Some, None, arith, bytes_eq, refl, subst, nat_lt, nat_le}
use Rattle.std.specs.BTreeMap.{BTreeMap}
use Rattle.std.specs.List.{All, list_any}
use Rattle.std.proofs.lemmas.Bool.{or_parts}
use Rattle.std.proofs.lemmas.Bool.Decides.{nat_tests}
use Rattle.std.proofs.lemmas.List.Elements.{All-cons, All-head, All-nil, All-tail}
use Rattle.parfield.specs.declared.hash16.Hash16.{Hash16}
use Rattle.parfield.specs.declared.kind.Kind.{Kind}
use Rattle.parfield.specs.declared.kind.Kind.TheVariants as kind
use Rattle.parsalvage.specs.declared.kept.Kept.{Kept}
use Rattle.parsalvage.specs.declared.kept.KeptBody.{KeptBody}
use Rattle.parsalvage.specs.declared.kept.KeptBody.TheVariants.{Whole}
use Rattle.parset.specs.Limits.{file_length_limit, name_limit}
use Rattle.parset.specs.Bodies.{description_of, file_length_field, name_of}
use Rattle.parset.specs.Choosing.{AreDescribed, file_description_of, only_if}
use Rattle.parset.specs.PacketFields.{usable_description, usable_fields}
use Rattle.parset.specs.Reasons.{description_reason, is_over_limit, is_wrong_name}
use Rattle.parset.specs.SetLimits.{HasFileLimits}
use Rattle.parset.specs.Slices.{file_views, set_file_of}
use Rattle.parset.specs.declared.bodies.aside.Aside.{Aside}
use Rattle.parset.specs.declared.bodies.aside.Aside.TheVariants.{Name, OverLimit, WrongLength}
use Rattle.parset.specs.declared.bodies.checksums.Ifsc.{Ifsc}
use Rattle.parset.specs.declared.bodies.description.Desc.{Desc}
use Rattle.parset.specs.declared.recovery_set.SetFile.{SetFile}
use Rattle.parset.proofs.FileLaws.{viewed}
use Rattle.parset.proofs.MainLaws.{first_is, third_and_fourth}

below_limit : (limit n : ℕ) → nat_le limit n ≡ false → n < limit
below_limit limit n e = grind (arith, nat_tests)

no_zero : (name : List ℕ) → list_any (λ b. b == 0) name ≡ false → All (λ b. 0 < b) name
no_zero [] e = All-nil (λ b. 0 < b)
no_zero (b ∷ bs) e =
    let both = or_parts (b == 0) (list_any (λ x. x == 0) bs) e in
    let above : 0 < b = grind (arith, nat_tests) in
    All-cons (λ x. 0 < x) b bs above (no_zero bs both.1)

name_limits : (name : List ℕ) → is_wrong_name name ≡ false → (0 < length name) × (length name ≤ name_limit) × All (λ b. 0 < b) name
unfolding is_wrong_name
name_limits name e =
    let a = or_parts (length name == 0) (nat_lt name_limit (length name) || list_any (λ b. b == 0) name) e in
    let b = or_parts (nat_lt name_limit (length name)) (list_any (λ b. b == 0) name) a.1 in
    let some : 0 < length name = grind (arith, nat_tests) in
    let few : length name ≤ name_limit = grind (arith, nat_tests) in
    (some, few, no_zero name b.1)

body_limits : (body : List ℕ) → description_reason body ≡ None → HasFileLimits (file_length_field body) (name_of body)
unfolding description_reason
body_limits body e =
    let both = third_and_fourth (is_over_limit body, OverLimit) (nat_lt (length body) 56 || not (length body % 4 == 0), WrongLength)
    (is_wrong_name (name_of body), Name) (nat_le file_length_limit (file_length_field body), OverLimit) [] e in
    let name = name_limits (name_of body) both.0 in
    record {
      short = below_limit file_length_limit (file_length_field body) both.1;
      named = name.0;
      name_fits = name.1;
      no_zero = name.2;
    }

abbrev IsDescribedWithin : Desc → Type 0
IsDescribedWithin file = HasFileLimits file.length file.name

usable_limits : (body : List ℕ) (o : Option Aside) (file : Desc) → description_reason body ≡ o → usable_fields o (description_of body) ≡ Some file → IsDescribedWithin file
usable_limits body (Some why) file r e = absurd (cc)
usable_limits body None file r e =
    let is : description_of body ≡ file = cc in subst IsDescribedWithin is (body_limits body r)

description_limits : (k : Kind) (b : KeptBody) (file : Desc) → usable_description k b ≡ Some file → IsDescribedWithin file
description_limits kind.FileDesc (Whole body) file e = usable_limits body (description_reason body) file refl e
description_limits _ _ file e = absurd (cc)

-- a thing that passes a test is the thing that was found
passed : {T : Type 0} (b : Bool) (x t : T) → cond b (Some x) None ≡ Some t → Some x ≡ Some t
passed true x t e = e
passed false x t e = absurd (cc)

pub passed_is : {T : Type 0} (p : T → Bool) (o : Option T) (t : T) → only_if p o ≡ Some t → o ≡ Some t
passed_is p None t e = absurd (cc)
passed_is p (Some x) t e = passed (p x) x t e

found_limits : (id : Hash16) (own : List Kept) (file : Desc) → file_description_of id own ≡ Some file → IsDescribedWithin file
found_limits id [] file e = absurd (cc)
found_limits id (k ∷ own) file e =
    ⊎_elim
    (λ here. description_limits k.kind k.body file (passed_is (λ d. bytes_eq d.id.0 id.0) (usable_description k.kind k.body) file here))
    (λ later. found_limits id own file later)
    (first_is (only_if (λ d. bytes_eq d.id.0 id.0) (usable_description k.kind k.body)) (file_description_of id own) file e)

abbrev pub IsShownWithin : SetFile → Type 0
IsShownWithin file = HasFileLimits file.length file.name

pub files_within : (own : List Kept) (found : BTreeMap Hash16 Ifsc) (files : List Desc)
    → AreDescribed own files
    → All IsShownWithin (map set_file_of (file_views found files))
files_within own found [] h = All-nil IsShownWithin
files_within own found (file ∷ files) h =
    let Described : Desc → Type 0 = λ f. file_description_of f.id own ≡ Some f in
    All-cons IsShownWithin (set_file_of (viewed found file)) (map set_file_of (file_views found files))
    (found_limits file.id own file (All-head Described file files h)) (files_within own found files (All-tail Described file files h))
