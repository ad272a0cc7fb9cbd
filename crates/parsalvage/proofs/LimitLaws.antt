-- How many bytes may be read for the offsets at which the magic is, one stretch of
-- a file after another.
use Rattle.std.proofs.Common.{◌≡◌, ◌≤◌, ◌+◌, ◌*◌, ◌∙◌, ℕ, Bool, true, cond, List, [], ◌∷◌, ◌++◌, drop, filter, sum_by, ap, refl, arith}
use Rattle.std.proofs.lemmas.Bool.{cond-true}
use Rattle.std.proofs.lemmas.List.{length-append}
use Rattle.std.proofs.lemmas.List.Elements.{filter-append}
use Rattle.std.proofs.lemmas.List.Sums.{sum_by-cons, sum_by-append}
use Rattle.parfield.specs.Packet.{length_field}
use Rattle.parsalvage.specs.MagicPlaces.{is_magic_at, is_framed_at, framed_size, framed_length, places_limit, magic_places_between, limit_between}
use Rattle.parsalvage.proofs.RangeLaws.{filter_between, filter_one}

places_limit-append : (bytes xs ys : List ℕ) → places_limit bytes (xs ++ ys) ≡ places_limit bytes xs + places_limit bytes ys
places_limit-append bytes xs ys =
    let size : List ℕ → ℕ = sum_by (λ at. length_field (drop at bytes)) in
    let sums : framed_length bytes (xs ++ ys) ≡ framed_length bytes xs + framed_length bytes ys
    = ap size (filter-append (is_framed_at bytes) xs ys)
    ∙ sum_by-append (λ at. length_field (drop at bytes)) (filter (is_framed_at bytes) xs) (filter (is_framed_at bytes) ys) in
    omega (arith, sums, length-append xs ys)

pub limit_between-split : (bytes : List ℕ) (a b c : ℕ) → a ≤ b → b ≤ c
    → limit_between bytes a c ≡ limit_between bytes a b + limit_between bytes b c
unfolding limit_between
limit_between-split bytes a b c low high =
    ap (places_limit bytes) (filter_between (is_magic_at bytes) a b c low high)
    ∙ places_limit-append bytes (magic_places_between bytes a b) (magic_places_between bytes b c)

sum_by_one : (f : ℕ → ℕ) (b : Bool) (x : ℕ) → sum_by f (cond b (x ∷ []) []) ≡ cond b (f x) 0
sum_by_one f true x = let one = sum_by-cons f x [] in omega (arith, one)
sum_by_one f Bool.false x = refl

-- the bound for one offset at which the magic is
pub limit_between-one : (bytes : List ℕ) (at : ℕ) → is_magic_at bytes at ≡ true
    → limit_between bytes at (at + 1) ≡ 64 + 2 * framed_size (drop at bytes)
unfolding limit_between
limit_between-one bytes at is =
    let one : magic_places_between bytes at (at + 1) ≡ at ∷ []
    = filter_one (is_magic_at bytes) at ∙ cond-true (is_magic_at bytes at) (at ∷ []) [] is in
    let size : framed_length bytes (at ∷ []) ≡ framed_size (drop at bytes)
    = sum_by_one (λ at. length_field (drop at bytes)) (is_framed_at bytes at) at in
    ap (places_limit bytes) one ∙ omega (arith, size)
