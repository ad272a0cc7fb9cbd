-- A header that is read by itself, without the bytes that follow it.
use Rattle.std.proofs.Common.{◌≡◌, ◌<◌, ◌≤◌, ◌+◌, ◌-◌, ◌&&◌, ◌==◌, ◌%◌, ◌∙◌, ℕ, Bool, true, false, List, length, take, drop, ap, sym, arith, nat_le, ⊎_elim}
use Rattle.std.specs.List.{slice_range}
use Rattle.std.specs.Str.{bytes_eq}
use Rattle.std.proofs.lemmas.List.{drop-take, take-take, length-take-le}
use Rattle.std.proofs.lemmas.Bool.{cases_Bool, le-leb, leb-true, and_from, and_parts}
use Rattle.md5.specs.Md5.{md5}
use Rattle.parfield.specs.Packet.{has_header, header_of, length_field, begins_packet, magic_bytes}
use Rattle.parfield.specs.Bytes.{le_value}
use Rattle.parfield.specs.Kind.{kind_of}
use Rattle.parfield.specs.declared.headers.Header.{Header}
use Rattle.parsalvage.specs.MagicPlaces.{begins_framed}

-- a range that lies in the first n bytes is the same in all bytes
pub slice_range-take : (n i j : ℕ) (xs : List ℕ) → i ≤ n → j ≤ n → slice_range (take n xs) i j ≡ slice_range xs i j
slice_range-take n i j xs begins ends =
    let split : n ≡ i + (n - i) = omega arith in
    ap (λ (m : ℕ). take (j - i) (drop i (take m xs))) split
    ∙ (ap (λ (ys : List ℕ). take (j - i) ys) (drop-take i (n - i) xs)
    ∙ take-take (j - i) (n - i) (drop i xs) (omega arith))

is_header_of : ℕ → List ℕ → List ℕ → Bool
is_header_of n magic field = nat_le 64 n && (bytes_eq magic magic_bytes && (nat_le 64 (le_value field) && le_value field % 4 == 0))

header_from : List ℕ → List ℕ → List ℕ → List ℕ → Header
header_from field hash set kind = record {
  length = le_value field;
  hash = record { 0 = hash };
  set = record { 0 = set };
  kind = kind_of kind;
}

module _ (rest : List ℕ) (long : 64 ≤ length rest) where
  pub has_header-front : has_header (take 64 rest) ≡ has_header rest
  unfolding is_header_of
  has_header-front =
      let size : length (take 64 rest) ≡ 64 = length-take-le 64 rest long in
      let enough : nat_le 64 (length (take 64 rest)) ≡ nat_le 64 (length rest)
      = le-leb 64 (length (take 64 rest)) (omega (arith, size)) ∙ sym (le-leb 64 (length rest) long) in
      let magic = slice_range-take 64 0 8 rest (omega arith) (omega arith) in
      let field = slice_range-take 64 8 16 rest (omega arith) (omega arith) in
      ap (λ (b : Bool). b && (bytes_eq (slice_range (take 64 rest) 0 8) magic_bytes && (nat_le 64 (length_field (take 64 rest)) && length_field (take 64 rest) % 4 == 0))) enough
      ∙ (ap (λ (xs : List ℕ). is_header_of (length rest) xs (slice_range (take 64 rest) 8 16)) magic
      ∙ ap (λ (xs : List ℕ). is_header_of (length rest) (slice_range rest 0 8) xs) field)

  pub header_of-front : header_of (take 64 rest) ≡ header_of rest
  unfolding header_from
  header_of-front =
      let field = slice_range-take 64 8 16 rest (omega arith) (omega arith) in
      let hash = slice_range-take 64 16 32 rest (omega arith) (omega arith) in
      let set = slice_range-take 64 32 48 rest (omega arith) (omega arith) in
      let kind = slice_range-take 64 48 64 rest (omega arith) (omega arith) in
      ap (λ (xs : List ℕ). header_from xs (slice_range (take 64 rest) 16 32) (slice_range (take 64 rest) 32 48) (slice_range (take 64 rest) 48 64)) field
      ∙ (ap (λ (xs : List ℕ). header_from (slice_range rest 8 16) xs (slice_range (take 64 rest) 32 48) (slice_range (take 64 rest) 48 64)) hash
      ∙ (ap (λ (xs : List ℕ). header_from (slice_range rest 8 16) (slice_range rest 16 32) xs (slice_range (take 64 rest) 48 64)) set
      ∙ ap (λ (xs : List ℕ). header_from (slice_range rest 8 16) (slice_range rest 16 32) (slice_range rest 32 48) xs) kind))

-- the first 64 bytes were read, and here they are called `front`
module _ (rest front : List ℕ) (read : front ≡ take 64 rest) (long : 64 ≤ length rest) where
  header_same : has_header front ≡ has_header rest
  header_same = ap has_header read ∙ has_header-front rest long

  pub fields_same : header_of front ≡ header_of rest
  fields_same = ap header_of read ∙ header_of-front rest long

  length_same : (head : Header) → head ≡ header_of front → head.length ≡ length_field rest
  length_same head is = ap (λ (h : Header). h.length) (is ∙ fields_same)

  pub framed_yes : (head : Header) → true ≡ has_header front → head ≡ header_of front → head.length ≤ length rest
      → true ≡ begins_framed rest
  framed_yes head has is fits =
      sym (and_from _ _ (sym header_same ∙ sym has) (le-leb _ _ (omega (arith, length_same head is))))

  pub framed_no_header : false ≡ has_header front → false ≡ begins_framed rest
  framed_no_header none =
      sym (ap (λ (b : Bool). b && nat_le (length_field rest) (length rest)) (sym header_same ∙ sym none))

  pub framed_too_long : (head : Header) → head ≡ header_of front → length rest < head.length → false ≡ begins_framed rest
  framed_too_long head is short =
      sym (⊎_elim (λ yes.
      let parts = and_parts (has_header rest) (nat_le (length_field rest) (length rest)) yes in
      let fits = leb-true _ _ parts.1 in absurd (omega (arith, fits, length_same head is)))
      (λ no. no) (cases_Bool (begins_framed rest)))

-- if the bytes have a header and are long enough, they begin with a packet exactly
-- if the hash is right
pub packet_framed : (rest : List ℕ) → true ≡ begins_framed rest
    → begins_packet rest ≡ bytes_eq (md5 (slice_range rest 32 (length_field rest))) (slice_range rest 16 32)
packet_framed rest framed =
    let parts = and_parts (has_header rest) (nat_le (length_field rest) (length rest)) (sym framed) in
    let tail : Bool = bytes_eq (md5 (slice_range rest 32 (length_field rest))) (slice_range rest 16 32) in
    ap (λ (b : Bool). b && (nat_le (length_field rest) (length rest) && tail)) parts.0
    ∙ ap (λ (b : Bool). b && tail) parts.1

-- the same with a hash that was computed from the packet's bytes from offset 32 to its end
pub packet_hashed : (rest : List ℕ) (hash : List ℕ) (same : Bool) → true ≡ begins_framed rest
    → hash ≡ md5 (slice_range rest 32 (length_field rest)) → same ≡ bytes_eq hash (slice_range rest 16 32)
    → same ≡ begins_packet rest
packet_hashed rest hash same framed is test =
    test ∙ (ap (λ (h : List ℕ). bytes_eq h (slice_range rest 16 32)) is ∙ sym (packet_framed rest framed))
