-- The 32 lower-case digits of an ID: reading them gives the ID, and an ID is written in no other
-- way.
use Rattle.std.proofs.Common.{◌≡◌, ℕ, zero, suc, ◌+◌, ◌*◌, ◌/◌, ◌%◌, ◌<◌, ◌==◌, ◌&&◌, ◌||◌, Bool, true, not, inl, inr, List, [], ◌∷◌, length, slice_index, Option, Some, None, unwrap_or, Result, Ok, Err, refl, sym, ap, ◌∙◌, arith}
use Rattle.std.specs.List.{All, list_all}
use Rattle.std.specs.Result.{result_unwrap_or}
use Rattle.std.proofs.lemmas.Bool.{and_parts, cases_Bool, cases_lt, eqb-true}
use Rattle.std.proofs.lemmas.Bool.Decides.{nat_tests}
use Rattle.std.proofs.lemmas.List.Elements.{All-from_get_or, All-head, All-tail}
use Rattle.hex.specs.Hex.{IsBytes, decode_pairs, decode_sized, digit_or_error, encode_lower, encode_with, hex_digit_value, lower_digits, pair_value, value_at, ◌>>=◌}
use Rattle.hex.specs.declared.error.FromHexError.{FromHexError}
use Rattle.hex.proofs.HexLemmas.{decode_of-encode_lower, decode_of-ok, decode_sized-ok, decode_sized-twice, length-encode_with}
use Rattle.hex.proofs.Pairs.{decode_sized-pairs}
use Rattle.parfield.specs.Hash16.{decoded_hash_of}
use Rattle.parfield.specs.declared.hash16.Hash16.{Hash16}
use Rattle.parfind.specs.CursorText.{parsed_hash, is_lower_digit, IsHash}

-- ---- the table of digits

-- whether a test passes at each number below n
abbrev all_below : (ℕ → Bool) → ℕ → Bool
all_below test zero = true
all_below test (suc n) = test n && all_below test n

all_below-at : (test : ℕ → Bool) (n k : ℕ) → all_below test n ≡ true → k < n → test k ≡ true
all_below-at test zero k h below = absurd (omega arith)
all_below-at test (suc n) k h below =
    let parts = and_parts (test n) (all_below test n) h in
    elim (cases_lt k n) [
      | inl less ↦ all_below-at test n k parts.1 less
      | inr top ↦
          let e : k ≡ n = omega arith in
          rw e parts.0
    ]

-- each digit of the table is in lower case
lower_at : (d : ℕ) → d < 16 → is_lower_digit (slice_index lower_digits d) ≡ true
lower_at d below = all_below-at (λ k. is_lower_digit (slice_index lower_digits k)) 16 d refl below

-- whether a lower-case digit is the one that the table has for its value
abbrev is_own_digit : ℕ → Bool
is_own_digit c =
    not (is_lower_digit c)
    || slice_index lower_digits (unwrap_or (hex_digit_value c) 99) == c

lower_small : (c : ℕ) → is_lower_digit c ≡ true → c < 128
lower_small c h = grind (arith, nat_tests)

digit_of_value : (c v : ℕ) → is_lower_digit c ≡ true → hex_digit_value c ≡ Some v
    → slice_index lower_digits v ≡ c
digit_of_value c v lower value =
    let told = all_below-at is_own_digit 128 c refl (lower_small c lower) in
    eqb-true (slice_index lower_digits v) c (rw (lower, value) at told)

value_small : (c v : ℕ) → hex_digit_value c ≡ Some v → v < 16
value_small c v h = grind (arith)

-- ---- the digits of bytes

abbrev value_or : Result ℕ FromHexError → ℕ
value_or r = result_unwrap_or r 0

abbrev bytes_or : Result (List ℕ) FromHexError → List ℕ
bytes_or r = result_unwrap_or r []

bind_ok : {A B : Type 0} (r : Result A FromHexError) (f : A → Result B FromHexError) (y : B)
    → (r >>= f) ≡ Ok y → (x : A) × (r ≡ Ok x) × (f x ≡ Ok y)
bind_ok (Ok x) f y h = (x, refl, h)
bind_ok (Err e) f y h = cc h

digit_ok : (c i : ℕ) (found : Option ℕ) (v : ℕ) → digit_or_error c i found ≡ Ok v → found ≡ Some v
digit_ok c i (Some w) v h = ap Some (ap value_or h)
digit_ok c i None v h = cc h

-- bytes that were read from lower-case digits are written with these digits
encode_with-decoded : (i : ℕ) (s bytes : List ℕ) → decode_pairs i s ≡ Ok bytes
    → list_all is_lower_digit s ≡ true → encode_with lower_digits bytes ≡ s
unfolding decode_pairs encode_with
encode_with-decoded i [] bytes h lower =
    let e : [] ≡ bytes = ap bytes_or h in
    rw (← e) refl
encode_with-decoded i (a ∷ []) bytes h lower = cc h
encode_with-decoded i (a ∷ b ∷ rest) bytes h lower =
    let pair = bind_ok (pair_value a b i) _ bytes h in
    let high = bind_ok (value_at a i) _ pair.0 pair.1 in
    let low = bind_ok (value_at b (i + 1)) _ pair.0 high.2 in
    let tail = bind_ok (decode_pairs (i + 2) rest) _ bytes pair.2 in
    let p =
    and_parts (is_lower_digit a) (is_lower_digit b && list_all is_lower_digit rest) lower in
    let q = and_parts (is_lower_digit b) (list_all is_lower_digit rest) p.1 in
    let value_a = digit_ok a i (hex_digit_value a) high.0 high.1 in
    let value_b = digit_ok b (i + 1) (hex_digit_value b) low.0 low.1 in
    let byte : high.0 * 16 + low.0 ≡ pair.0 = ap value_or low.2 in
    let whole : pair.0 ∷ tail.0 ≡ bytes = ap bytes_or tail.2 in
    let small_a = value_small a high.0 value_a in
    let small_b = value_small b low.0 value_b in
    let first : pair.0 / 16 ≡ high.0 = omega arith in
    let second : pair.0 % 16 ≡ low.0 = omega arith in
    let digit_a = digit_of_value a high.0 p.0 value_a in
    let digit_b = digit_of_value b low.0 q.0 value_b in
    let others = encode_with-decoded (i + 2) rest tail.0 tail.1 q.1 in
    rw (← whole) (rw (first, second, digit_a, digit_b, others) refl)

lower_bytes : (xs : List ℕ) → IsBytes xs
    → list_all is_lower_digit (encode_with lower_digits xs) ≡ true
unfolding encode_with
lower_bytes [] h = refl
lower_bytes (b ∷ rest) h =
    let fits : b < 256 = h 0 in
    rw (lower_at (b / 16) (omega arith), lower_at (b % 16) (omega arith))
    (lower_bytes rest (λ k. h (suc k)))

-- ---- the digits of an ID

decoded : (r : Result (List ℕ) FromHexError) (id : Hash16) → decoded_hash_of r ≡ Some id → r ≡ Ok id.0
decoded (Ok bytes) id h = ap (λ (o : Option Hash16). Ok (unwrap_or o (record { 0 = bytes })).0) h
decoded (Err fault) id h = cc h

-- if a text is read as an ID, it is the ID's digits
pub encode_lower-parsed_hash : (s : List ℕ) (id : Hash16) → parsed_hash s ≡ Some id
    → (s ≡ encode_lower id.0) × IsHash id
encode_lower-parsed_hash s id h =
    elim (cases_Bool (list_all is_lower_digit s)) [
      | inr other ↦ cc (rw other at h)
      | inl lower ↦
          let read = decoded (decode_sized s 16) id (rw lower at h) in
          let long = decode_sized-ok s 16 id.0 read in
          let even = sym (decode_sized-pairs s 16 (omega arith) (omega arith)) in
          let ok = decode_of-ok s id.0 (sym (decode_sized-twice s 16 long) ∙ read) in (
            sym (encode_with-decoded 0 s id.0 (even ∙ read) lower),
            record {
              sixteen = omega (arith, ok.2);
              bytes = All-from_get_or (λ byte. byte < 256) id.0 0 (λ k _. ok.3 k);
            },
          )
    ]

IsBytes-id : (xs : List ℕ) → All (λ byte. byte < 256) xs → IsBytes xs
IsBytes-id [] h k = omega arith
IsBytes-id (x ∷ xs) h zero = All-head (λ byte. byte < 256) x xs h
IsBytes-id (x ∷ xs) h (suc k) = IsBytes-id xs (All-tail (λ byte. byte < 256) x xs h) k

pub lower-encode_lower : (id : Hash16) → IsHash id
    → list_all is_lower_digit (encode_lower id.0) ≡ true
lower-encode_lower id h = lower_bytes id.0 (IsBytes-id id.0 h.bytes)

-- reading an ID's digits gives the ID
pub parsed_hash-encode_lower : (id : Hash16) → IsHash id → parsed_hash (encode_lower id.0) ≡ Some id
parsed_hash-encode_lower id h =
    let long : length (encode_lower id.0) ≡ 2 * 16 =
    omega (arith, length-encode_with lower_digits id.0, h.sixteen) in
    let read = decode_sized-twice (encode_lower id.0) 16 long
    ∙ decode_of-encode_lower id.0 (IsBytes-id id.0 h.bytes) in
    rw (lower-encode_lower id h) (ap decoded_hash_of read)
