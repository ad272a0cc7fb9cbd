-- The exponents that usable packets have, as a list of flags.
use Rattle.std.proofs.Common.{subst, ◌≡◌, ℕ, ◌+◌, ◌<◌, ◌≤◌, ◌∙◌, ◌||◌, ◌==◌, ⊎_elim, Bool, true, false, List, [], ◌∷◌, length, get_or, set, map, take, Some, None, not, ◌-◌, is_some, nat_lt, count_by, ap, refl, sym, get_or-set_other, if◌then◌else◌, arith}
use Rattle.std.specs.List.{list_any, range_with_len}
use Rattle.std.proofs.lemmas.Bool.{cases_eq, eq-eqb, ltb-false, ne_eqb, or_right}
use Rattle.std.proofs.lemmas.List.FromFn.{length-range_with_len}
use Rattle.std.proofs.lemmas.List.Sums.{count_by-le-length, sum_by-cons}
use Rattle.std.proofs.lemmas.List.Folds.{list_any-append}
use Rattle.std.proofs.lemmas.Grind.{get_or-set_at}
use Rattle.std.proofs.Math.Bool.{or-false}
use Rattle.parfield.specs.declared.kind.Kind.{Kind}
use Rattle.parfield.specs.declared.kind.Kind.TheVariants as kind
use Rattle.parsalvage.specs.declared.kept.Kept.{Kept}
use Rattle.parsalvage.specs.declared.kept.KeptBody.{KeptBody}
use Rattle.parsalvage.specs.Kept.{held_front_of, held_length_of}
use Rattle.parset.specs.Limits.{exponent_limit}
use Rattle.parset.specs.Bodies.{exponent_of}
use Rattle.parset.specs.Choosing.{all_exponents, exponent_count_of, has_exponent, only_if}
use Rattle.parset.specs.PacketFields.{usable_exponent, usable_fields}
use Rattle.parset.specs.Reasons.{first_reason, slice_reason}
use Rattle.parset.specs.declared.bodies.aside.Aside.TheVariants.{OverLimit, WrongLength}
use Rattle.parset.proofs.ChoosingLaws.{map_take_at}

-- ---- the exponent of a usable packet is below the limit
usable_below : (wrong over : Bool) (n e : ℕ) → nat_lt exponent_limit n ≡ over
    → usable_fields (first_reason ((wrong, WrongLength) ∷ (over, OverLimit) ∷ [])) n ≡ Some e → e < exponent_limit + 1
usable_below true over n e test h = cc
usable_below false true n e test h = cc
usable_below false false n e test h = let low = ltb-false exponent_limit n test in let same : n ≡ e = cc in omega arith

usable_exponent_below : (size : ℕ) (kind : Kind) (body : KeptBody) (e : ℕ) → usable_exponent size kind body ≡ Some e → e < exponent_limit + 1
unfolding slice_reason
usable_exponent_below size kind.RecvSlic body e h =
    usable_below (nat_lt (held_length_of body) 4 || not (held_length_of body - 4 == size)) _ (exponent_of (held_front_of body)) e refl h
usable_exponent_below size _ _ e h = cc

pub exponent_below : (size : ℕ) (k : Kept) (e : ℕ) → Some e ≡ usable_exponent size k.kind k.body → e < exponent_limit + 1
exponent_below size k e h = usable_exponent_below size k.kind k.body e (sym h)

-- ---- one packet more is read
any_more : {X Y : Type 0} (p : X → Bool) (g : Y → X) (ys : List Y) (i : ℕ) (y : Y) → i < length ys → y ≡ get_or ys i y
    → list_any p (map g (take (i + 1) ys)) ≡ (list_any p (map g (take i ys)) || p (g y))
any_more p g ys i y below item =
    ap (list_any p) (map_take_at g ys i y below item) ∙ list_any-append p (map g (take i ys)) (g y ∷ [])
    ∙ ap (λ b. list_any p (map g (take i ys)) || b) (or-false (p (g y)))

flag_set : (flags : List Bool) (e q : ℕ) (before : Bool) → e < length flags → get_or flags q false ≡ before
    → get_or (set flags e true) q false ≡ (before || is_some (only_if (λ x. x == q) (Some e)))
flag_set flags e q before below so_far =
    ⊎_elim
    (λ same. get_or-set_at flags e q true false same below
    ∙ sym (or_right before _ (ap (λ b. is_some (if b then Some e else None)) (eq-eqb e q (sym same)))))
    (λ other. get_or-set_other flags e q true false other ∙ so_far ∙ sym (or-false before)
    ∙ ap (λ b. before || is_some (if b then Some e else None)) (sym (ne_eqb e q (λ same. other (sym same)))))
    (cases_eq q e)

pub seen_more : {Y : Type 0} (size : ℕ) (g : Y → Kept) (ys : List Y) (i : ℕ) (y : Y) (flags : List Bool) (e q : ℕ)
    → i < length ys → y ≡ get_or ys i y → e < length flags → Some e ≡ usable_exponent size (g y).kind (g y).body
    → get_or flags q false ≡ list_any (has_exponent size q) (map g (take i ys))
    → get_or (set flags e true) q false ≡ list_any (has_exponent size q) (map g (take (i + 1) ys))
seen_more size g ys i y flags e q below item fits some so_far =
    let before = list_any (has_exponent size q) (map g (take i ys)) in
    flag_set flags e q before fits so_far
    ∙ ap (λ o. before || is_some (only_if (λ x. x == q) o)) some
    ∙ sym (any_more (has_exponent size q) g ys i y below item)

pub seen_same : {Y : Type 0} (size : ℕ) (g : Y → Kept) (ys : List Y) (i : ℕ) (y : Y) (q : ℕ) (before : Bool)
    → i < length ys → y ≡ get_or ys i y → None ≡ usable_exponent size (g y).kind (g y).body
    → before ≡ list_any (has_exponent size q) (map g (take i ys))
    → before ≡ list_any (has_exponent size q) (map g (take (i + 1) ys))
seen_same size g ys i y q before below item none so_far =
    so_far ∙ sym (or-false (list_any (has_exponent size q) (map g (take i ys))))
    ∙ ap (λ o. list_any (has_exponent size q) (map g (take i ys)) || is_some (only_if (λ x. x == q) o)) none
    ∙ sym (any_more (has_exponent size q) g ys i y below item)

-- ---- the number of flags that are set
pub count_by-map : {X : Type 0} (p : X → Bool) (xs : List X) → count_by (λ b. b) (map p xs) ≡ count_by p xs
count_by-map p [] = refl
count_by-map p (x ∷ xs) =
    sum_by-cons (λ b. if b then 1 else 0) (p x) (map p xs) ∙ ap (λ n. (if p x then 1 else 0) + n) (count_by-map p xs)
    ∙ sym (sum_by-cons (λ y. if p y then 1 else 0) x xs)

count_below : (p : ℕ → Bool) (n : ℕ) → count_by p (range_with_len 0 n) ≤ n
count_below p n = omega (arith, count_by-le-length p (range_with_len 0 n), length-range_with_len 0 n)

exponents-le : (p : ℕ → Bool) → count_by p all_exponents ≤ exponent_limit + 1
unfolding all_exponents
exponents-le p = count_below p (exponent_limit + 1)

pub seen-le : (p : ℕ → Bool) → count_by (λ b. b) (map p all_exponents) ≤ exponent_limit + 1
seen-le p = subst (λ n. n ≤ exponent_limit + 1) (sym (count_by-map p all_exponents)) (exponents-le p)

pub exponents_within : (size : ℕ) (own : List Kept) → exponent_count_of size own ≤ exponent_limit + 1
exponents_within size own = exponents-le (λ e. list_any (has_exponent size e) own)
