-- Reading little-endian bytes as a number: the standard library's `little_number` gives the
-- number of `le_value`.
use Rattle.std.proofs.Common.{◌≡◌, ℕ, zero, suc, ◌+◌, ◌-◌, ◌*◌, ◌<◌, ◌≤◌, ◌∙◌, List, length, length-drop, take, drop, ap, refl, arith, slice_index}
use Rattle.std.specs.List.{slice_range}
use Rattle.std.proofs.Math.Seq.{drop-cons}
use Rattle.std.proofs.lemmas.List.{take_all, length-take-le}
use Rattle.byteorder.specs.Endian.{little_from, little_number}
use Rattle.parfield.specs.Bytes.{le_value}

pub little_from-le_value : (i n : ℕ) (xs : List ℕ) → i + n ≤ length xs → little_from i n xs ≡ le_value (take n (drop i xs))
unfolding le_value
little_from-le_value i zero xs h = refl
little_from-le_value i (suc n) xs h =
    let here : i < length xs = omega arith in
    let rec : little_from (suc i) n xs ≡ le_value (take n (drop (suc i) xs)) = little_from-le_value (suc i) n xs (omega arith) in
    rw (drop-cons xs i 0 here) (ap (λ (v : ℕ). slice_index xs i + 256 * v) rec)

-- a list of n bytes, all of which are read
pub little_number-le_value : (n : ℕ) (xs : List ℕ) → length xs ≡ n → little_number n xs ≡ le_value xs
little_number-le_value n xs h = little_from-le_value 0 n xs (omega arith) ∙ ap le_value (take_all n xs (omega arith))

-- a field of n bytes within other bytes
pub little_number-slice_range : (n : ℕ) (bytes : List ℕ) (at : ℕ) → at + n ≤ length bytes
    → little_number n (slice_range bytes at (at + n)) ≡ le_value (slice_range bytes at (at + n))
little_number-slice_range n bytes at h =
    let room : (at + n) - at ≤ length (drop at bytes) = omega (arith, length-drop at bytes) in
    let whole : length (slice_range bytes at (at + n)) ≡ (at + n) - at = length-take-le ((at + n) - at) (drop at bytes) room in
    little_number-le_value n (slice_range bytes at (at + n)) (omega arith)
