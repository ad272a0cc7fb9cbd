-- The limits of a usable Main packet.
use Rattle.std.proofs.Common.{◌≡◌, ℕ, ◌+◌, ◌%◌, ◌≤◌, ⊎_elim, Bool, true, false, not, List, [], ◌∷◌, Option, Some, None, ap, arith, bytes_eq, cond, drop, length, length-drop, length-take, refl, subst, take, ◌==◌, ◌||◌, nat_lt, ◌⊎◌, inl, inr}
use Rattle.std.proofs.lemmas.Bool.Decides.{nat_tests}
use Rattle.std.specs.Option.{option_map, option_or}
use Rattle.std.proofs.lemmas.Bool.{or_parts}
use Rattle.parfield.specs.declared.hash16.Hash16.{Hash16}
use Rattle.parfield.specs.declared.kind.Kind.{Kind}
use Rattle.parfield.specs.declared.kind.Kind.TheVariants as kind
use Rattle.parsalvage.specs.declared.kept.Kept.{Kept}
use Rattle.parsalvage.specs.declared.kept.KeptBody.{KeptBody}
use Rattle.parsalvage.specs.declared.kept.KeptBody.TheVariants.{Whole}
use Rattle.parset.specs.Limits.{file_limit, slice_size_limit}
use Rattle.parset.specs.Bodies.{file_count_field, file_ids_of, main_of, slice_size_field}
use Rattle.parsalvage.specs.Kept.{is_chosen}
use Rattle.parset.specs.Choosing.{chosen_main_of, first_main_of}
use Rattle.parset.specs.PacketFields.{usable_main, usable_fields}
use Rattle.parset.specs.Reasons.{first_reason, has_repeat, has_wrong_main_length, has_wrong_size, is_large_main, is_over_limit, main_reason}
use Rattle.parfield.specs.Md5.{md5}
use Rattle.parset.specs.declared.bodies.aside.Aside.TheVariants.{IdTwice, OverLimit, SetId, SliceSize, WrongLength}
use Rattle.parset.specs.SetLimits.{IsWithinLimits}
use Rattle.parset.specs.declared.bodies.aside.Aside.{Aside}
use Rattle.parset.specs.declared.bodies.main_packet.Main.{Main}
use Rattle.parset.proofs.RisingLaws.{front_has_no_repeat}

-- if there is no reason, the first line doesn't apply, and no later line does
pub line_of : (b : Bool) (why : Aside) (rest : Option Aside) → cond b (Some why) rest ≡ None → (b ≡ false) × (rest ≡ None)
line_of true why rest e = absurd (cc)
line_of false why rest e = (refl, e)

pub third_and_fourth : (a b c d : Bool × Aside) (rest : List (Bool × Aside)) → first_reason (a ∷ b ∷ c ∷ d ∷ rest) ≡ None → (c.0 ≡ false) × (d.0 ≡ false)
third_and_fourth a b c d rest e =
    let two = (line_of a.0 a.1 (first_reason (b ∷ c ∷ d ∷ rest)) e).1 in
    let three = (line_of b.0 b.1 (first_reason (c ∷ d ∷ rest)) two).1 in
    let at = line_of c.0 c.1 (first_reason (d ∷ rest)) three in
    (at.0, (line_of d.0 d.1 (first_reason rest) at.1).0)

fifth : (a b c d g : Bool × Aside) (rest : List (Bool × Aside)) → first_reason (a ∷ b ∷ c ∷ d ∷ g ∷ rest) ≡ None → g.0 ≡ false
fifth a b c d g rest e =
    let two = (line_of a.0 a.1 (first_reason (b ∷ c ∷ d ∷ g ∷ rest)) e).1 in
    (third_and_fourth b c d g rest two).1

size_bounds : (size ids : ℕ) → (size == 0 || not (size % 4 == 0)) ≡ false → (nat_lt slice_size_limit size || nat_lt file_limit ids) ≡ false
    → (4 ≤ size) × (size ≤ slice_size_limit) × (ids ≤ file_limit) × (size % 4 ≡ 0)
size_bounds size ids h k =
    let a = or_parts (size == 0) (not (size % 4 == 0)) h in let b = or_parts (nat_lt slice_size_limit size) (nat_lt file_limit ids) k in
    let least : 4 ≤ size = grind (arith, nat_tests) in
    let small : size ≤ slice_size_limit = grind (arith, nat_tests) in
    let few : ids ≤ file_limit = grind (arith, nat_tests) in
    let multiple : size % 4 ≡ 0 = grind (arith, nat_tests) in
    (least, small, few, multiple)

body_bounds : (body : List ℕ) (set : Hash16) → main_reason body set ≡ None
    → (4 ≤ slice_size_field body) × (slice_size_field body ≤ slice_size_limit) × (length (file_ids_of body) ≤ file_limit) × (slice_size_field body % 4 ≡ 0)
unfolding main_reason
body_bounds body set e =
    let both = third_and_fourth (is_over_limit body, OverLimit) (has_wrong_main_length body, WrongLength) (has_wrong_size body, SliceSize) (is_large_main body, OverLimit)
    ((has_repeat (file_ids_of body), IdTwice) ∷ (not (bytes_eq (md5 body) set.0), SetId) ∷ []) e in
    size_bounds (slice_size_field body) (length (file_ids_of body)) both.0 both.1

-- two parts of a list of IDs have no more IDs than the list
parts : {X : Type 0} (n : ℕ) (xs : List X) → length (take n xs) + length (drop n xs) ≤ length xs
parts n xs = omega (arith, length-take n xs, length-drop n xs)

body_repeats : (body : List ℕ) (set : Hash16) → main_reason body set ≡ None → has_repeat (file_ids_of body) ≡ false
unfolding main_reason
body_repeats body set e =
    fifth (is_over_limit body, OverLimit) (has_wrong_main_length body, WrongLength) (has_wrong_size body, SliceSize) (is_large_main body, OverLimit)
    (has_repeat (file_ids_of body), IdTwice) ((not (bytes_eq (md5 body) set.0), SetId) ∷ []) e

usable_bounds : (body : List ℕ) (set : Hash16) (o : Option Aside) (main : Main) → main_reason body set ≡ o → usable_fields o (main_of body) ≡ Some main → IsWithinLimits main
usable_bounds body set (Some why) main r e = absurd (cc)
usable_bounds body set None main r e =
    let b = body_bounds body set r in
    let is : main_of body ≡ main = cc in
    subst IsWithinLimits is (record {
      least = b.0;
      greatest = b.1;
      multiple = b.3;
      few = omega (arith, parts (file_count_field body) (file_ids_of body), b.2);
      once = front_has_no_repeat (file_count_field body) (file_ids_of body) (body_repeats body set r);
    })

main_bounds : (k : Kind) (b : KeptBody) (set : Hash16) (main : Main) → usable_main k b set ≡ Some main → IsWithinLimits main
main_bounds kind.Main (Whole body) set main e = usable_bounds body set (main_reason body set) main refl e
main_bounds _ _ set main e = absurd (cc)

chosen_bounds : (k : Kept) (chosen : Bool) (o : Option Main) (id : Hash16) (main : Main) → usable_main k.kind k.body k.set ≡ o
    → cond chosen (option_map {U = Hash16 × Main} (λ fields. (k.set, fields)) o) None ≡ Some (id, main) → IsWithinLimits main
chosen_bounds k false o id main is e = absurd (cc)
chosen_bounds k true None id main is e = absurd (cc)
chosen_bounds k true (Some fields) id main is e =
    let pair : (k.set, fields) ≡ (id, main) = cc in let same : fields ≡ main = ap (λ (p : Hash16 × Main). p.1) pair in subst IsWithinLimits same (main_bounds k.kind k.body k.set fields is)

-- the first thing that is found comes from the first packet or from a later one
pub first_is : {T : Type 0} (o rest : Option T) (t : T) → option_or o rest ≡ Some t → (o ≡ Some t) ⊎ (rest ≡ Some t)
first_is None rest t e = inr e
first_is (Some x) rest t e = inl e

pub first_main_bounds : (choice : Option Hash16) (packets : List Kept) (id : Hash16) (main : Main)
    → first_main_of choice packets ≡ Some (id, main) → IsWithinLimits main
first_main_bounds choice [] id main e = absurd (cc)
first_main_bounds choice (k ∷ packets) id main e =
    ⊎_elim
    (λ here. chosen_bounds k (is_chosen choice k) (usable_main k.kind k.body k.set) id main refl here)
    (λ later. first_main_bounds choice packets id main later)
    (first_is (chosen_main_of choice k) (first_main_of choice packets) (id, main) e)
