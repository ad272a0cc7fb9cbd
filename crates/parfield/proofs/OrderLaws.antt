-- IDs have the same order as their little-endian numbers.
use Rattle.std.proofs.Common.{◌≡◌, ℕ, ◌+◌, ◌*◌, ◌<◌, ◌∙◌, List, [], ◌∷◌, ◌++◌, length, reverse, suc, zero, ap, refl, sym, arith, Ordering, Less, Equal, Greater}
use Rattle.std.specs.Ordering.{nat_cmp, ordering_then}
use Rattle.std.specs.Cmp.Lexicographic.{slice_cmp}
use Rattle.std.specs.Int.{byte_worth, from_le_bytes, sum_through, w128}
use Rattle.std.specs.Prelude.{◌^◌, slice_index, take}
use Rattle.std.proofs.lemmas.List.{length-take-le}
use Rattle.std.proofs.Math.Nat.{pow-succ'}
use Rattle.std.proofs.Math.Seq.{take-length, take-suc}
use Rattle.std.proofs.lemmas.List.{reverse-append, length-reverse}
use Rattle.std.proofs.lemmas.Bool.Decides.{nat_tests}
use Rattle.parfield.specs.Bytes.{le_value}
use Rattle.parfield.specs.HashOrder.{AreBytes}

then-assoc : (a b c : Ordering) → ordering_then (ordering_then a b) c ≡ ordering_then a (ordering_then b c)
then-assoc Less b c = refl
then-assoc Equal b c = refl
then-assoc Greater b c = refl

then-equal : (a : Ordering) → ordering_then a Equal ≡ a
then-equal Less = refl
then-equal Equal = refl
then-equal Greater = refl

-- two lists of one length, with one more element at the end of each: it decides only
-- if the lists are equal
slice_cmp-snoc : (xs ys : List ℕ) (x y : ℕ) → length xs ≡ length ys
    → slice_cmp nat_cmp (xs ++ x ∷ []) (ys ++ y ∷ []) ≡ ordering_then (slice_cmp nat_cmp xs ys) (nat_cmp x y)
slice_cmp-snoc [] [] x y h = then-equal (nat_cmp x y)
slice_cmp-snoc [] (b ∷ ys) x y h = absurd (omega arith)
slice_cmp-snoc (a ∷ xs) [] x y h = absurd (omega arith)
slice_cmp-snoc (a ∷ xs) (b ∷ ys) x y h =
    let same : length xs ≡ length ys = omega arith in
    ap (λ r. ordering_then (nat_cmp a b) r) (slice_cmp-snoc xs ys x y same)
    ∙ sym (then-assoc (nat_cmp a b) (slice_cmp nat_cmp xs ys) (nat_cmp x y))

-- two numbers compare by their higher digits first (v and w), and then by the lowest digit
-- (x and y), in base 256
digits_cmp : (x y v w : ℕ) → x < 256 → y < 256 → ordering_then (nat_cmp v w) (nat_cmp x y) ≡ nat_cmp (x + 256 * v) (y + 256 * w)
digits_cmp x y v w hx hy = grind (arith, nat_tests)

pub reversed_cmp : (xs ys : List ℕ) → length xs ≡ length ys → AreBytes xs → AreBytes ys
    → slice_cmp nat_cmp (reverse xs) (reverse ys) ≡ nat_cmp (le_value xs) (le_value ys)
unfolding le_value
reversed_cmp [] [] h p q = refl
reversed_cmp [] (y ∷ ys) h p q = absurd (omega arith)
reversed_cmp (x ∷ xs) [] h p q = absurd (omega arith)
reversed_cmp (x ∷ xs) (y ∷ ys) h p q =
    let same : length xs ≡ length ys = omega arith in
    let turned : length (reverse xs) ≡ length (reverse ys) = length-reverse xs ∙ (same ∙ sym (length-reverse ys)) in
    ap (λ zs. slice_cmp nat_cmp zs (reverse (y ∷ ys))) (reverse-append (x ∷ []) xs)
    ∙ (ap (λ zs. slice_cmp nat_cmp (reverse xs ++ x ∷ []) zs) (reverse-append (y ∷ []) ys)
    ∙ (slice_cmp-snoc (reverse xs) (reverse ys) x y turned
    ∙ (ap (λ r. ordering_then r (nat_cmp x y)) (reversed_cmp xs ys same p.1 q.1) ∙ digits_cmp x y (le_value xs) (le_value ys) p.0 q.0)))

-- one more byte at the end of a list counts 256 to the power of the list's length
value_snoc : (xs : List ℕ) (y : ℕ) → le_value (xs ++ y ∷ []) ≡ le_value xs + y * 256 ^ length xs
unfolding le_value
value_snoc [] y = grind (arith)
value_snoc (x ∷ xs) y =
    let more = value_snoc xs y in
    let far : 256 ^ suc (length xs) ≡ 256 * 256 ^ length xs = pow-succ' 256 (length xs) in
    let worth : y * (256 * 256 ^ length xs) ≡ 256 * (y * 256 ^ length xs) = grind (arith) in
    let there : y * 256 ^ suc (length xs) ≡ 256 * (y * 256 ^ length xs) = ap (λ n. y * n) far ∙ worth in
    ap (λ n. x + 256 * n) more ∙ omega (arith, there)

worth_value : (i b : ℕ) → byte_worth i b ≡ b * 256 ^ i
worth_value zero b = omega arith
worth_value (suc i) b = refl

-- the bytes up to number n, each times its power of 256, add up to the number that these bytes make
sum_value : (n : ℕ) (xs : List ℕ) → n < length xs
    → sum_through (λ i. byte_worth i (slice_index xs i)) n ≡ le_value (take (suc n) xs)
unfolding le_value
sum_value zero [] h = absurd (omega arith)
sum_value zero (x ∷ xs) h = omega arith
sum_value (suc n) xs h =
    let before : n < length xs = omega arith in
    let size : length (take (suc n) xs) ≡ suc n = length-take-le (suc n) xs (omega arith) in
    let longer : take (suc (suc n)) xs ≡ take (suc n) xs ++ slice_index xs (suc n) ∷ [] = take-suc xs (suc n) 0 h in
    ap (λ m. m + byte_worth (suc n) (slice_index xs (suc n))) (sum_value n xs before)
    ∙ sym (ap le_value longer ∙ (value_snoc (take (suc n) xs) (slice_index xs (suc n)) ∙ ap (λ k. le_value (take (suc n) xs) + slice_index xs (suc n) * 256 ^ k) size))

-- the standard library's reading of sixteen bytes as a number
read_value : (xs : List ℕ) → length xs ≡ 16 → from_le_bytes w128 xs ≡ le_value xs
read_value xs h =
    let within : 15 < length xs = omega arith in
    sum_value 15 xs within ∙ ap le_value (ap (λ n. take n xs) (sym h) ∙ take-length xs)

bytes_at : (xs : List ℕ) → ((i : ℕ) → slice_index xs i < 256) → AreBytes xs
bytes_at [] fits = tt
bytes_at (x ∷ xs) fits = (fits 0, bytes_at xs (λ i. fits (suc i)))

-- two IDs compare as numbers as their bytes compare from the last one on: what
-- `cmp_as_numbers` computes
pub read_cmp : (xs ys : List ℕ) → length xs ≡ length ys → length xs ≡ 16
    → ((i : ℕ) → slice_index xs i < 256) × ((i : ℕ) → slice_index ys i < 256)
    → nat_cmp (from_le_bytes w128 xs) (from_le_bytes w128 ys) ≡ slice_cmp nat_cmp (reverse xs) (reverse ys)
read_cmp xs ys same size fit =
    ap (λ n. nat_cmp n (from_le_bytes w128 ys)) (read_value xs size)
    ∙ (ap (λ n. nat_cmp (le_value xs) n) (read_value ys (sym same ∙ size))
    ∙ sym (reversed_cmp xs ys same (bytes_at xs fit.0) (bytes_at ys fit.1)))
