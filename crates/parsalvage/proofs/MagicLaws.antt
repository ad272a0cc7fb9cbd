-- Two occurrences of the magic never overlap, so a search that doesn't look for
-- overlaps finds each.
use Rattle.std.proofs.Common.{◌≡◌, ◌<◌, ◌≤◌, ◌+◌, ◌∙◌, ℕ, zero, suc, Bool, IsTrue, true, false, cond, List, [], ◌∷◌, length, drop, map, filter, ap, refl, sym, arith, slice_index, ⊎_elim, length-drop, subst, ◌-◌, nat_le, add-one}
use Rattle.std.specs.List.{range_with_len}
use Rattle.std.proofs.lemmas.Bool.{cases_Bool, cond-true, cond-false, false≢true, and_parts, and_from, leb-true, le-leb}
use Rattle.std.specs.List.{slice_range}
use Rattle.std.specs.Str.{bytes_eq}
use Rattle.memchr.specs.Find.{OccursAt, occurs_at, matches_from, matches}
use Rattle.memchr.proofs.lemmas.MatchLemmas.{OccursAt-true}
use Rattle.parfield.specs.Packet.{magic_bytes, has_header}
use Rattle.parsalvage.specs.MagicPlaces.{is_magic_at, magic_places_between}
use Rattle.parsalvage.specs.Packets.{is_packet_at, packet_found_at, packets_of}

-- if two occurrences overlapped, the magic would repeat itself, which it doesn't
repeats : (bytes : List ℕ) (i k j : ℕ) → OccursAt bytes magic_bytes i → OccursAt bytes magic_bytes (i + k)
    → k + j < 8 → slice_index magic_bytes (k + j) ≡ slice_index magic_bytes j
repeats bytes i k j first second within =
    let place : i + (k + j) ≡ (i + k) + j = omega arith in
    sym (first.reads (k + j) within) ∙ (ap (slice_index bytes) place ∙ second.reads j (omega arith))

pub magic_apart : (bytes : List ℕ) (i k : ℕ) → OccursAt bytes magic_bytes i → OccursAt bytes magic_bytes (i + k)
    → 0 < k → k < 8 → ⊥
magic_apart bytes i zero a b low high = omega arith
magic_apart bytes i (suc zero) a b low high = let e : 65 ≡ 80 = repeats bytes i 1 0 a b (omega arith) in omega (arith, e)
magic_apart bytes i (suc (suc zero)) a b low high = let e : 82 ≡ 80 = repeats bytes i 2 0 a b (omega arith) in omega (arith, e)
magic_apart bytes i (suc (suc (suc zero))) a b low high = let e : 50 ≡ 80 = repeats bytes i 3 0 a b (omega arith) in omega (arith, e)
magic_apart bytes i (suc (suc (suc (suc zero)))) a b low high = let e : 0 ≡ 80 = repeats bytes i 4 0 a b (omega arith) in omega (arith, e)
magic_apart bytes i (suc (suc (suc (suc (suc zero))))) a b low high = let e : 75 ≡ 65 = repeats bytes i 5 1 a b (omega arith) in omega (arith, e)
magic_apart bytes i (suc (suc (suc (suc (suc (suc zero)))))) a b low high = let e : 75 ≡ 80 = repeats bytes i 6 0 a b (omega arith) in omega (arith, e)
magic_apart bytes i (suc (suc (suc (suc (suc (suc (suc zero))))))) a b low high = let e : 84 ≡ 80 = repeats bytes i 7 0 a b (omega arith) in omega (arith, e)
magic_apart bytes i (suc (suc (suc (suc (suc (suc (suc (suc k)))))))) a b low high = omega arith

overlap_not : (bytes : List ℕ) (a b : ℕ) → is_magic_at bytes a ≡ true → is_magic_at bytes b ≡ true
    → a < b → ¬ (b < a + 8)
overlap_not bytes a b first second later within =
    let place : b ≡ a + (b - a) = omega arith in
    let again : OccursAt bytes magic_bytes (a + (b - a))
    = subst (OccursAt bytes magic_bytes) place (OccursAt-true bytes magic_bytes b second) in
    magic_apart bytes a (b - a) (OccursAt-true bytes magic_bytes a first) again (omega arith) (omega arith)

pub magics_apart : (bytes : List ℕ) (a b : ℕ) → IsTrue (is_magic_at bytes a) → IsTrue (is_magic_at bytes b)
    → a < b → a + 8 ≤ b
magics_apart bytes a b first second later =
    let far = overlap_not bytes a b first second later in omega (arith, far)

cond_same : {X : Type 0} (b : Bool) (x y u v : X) → (b ≡ true → x ≡ u) → (b ≡ false → y ≡ v) → cond b x y ≡ cond b u v
cond_same true x y u v at_true at_false = at_true refl
cond_same false x y u v at_true at_false = at_false refl

-- if the first `skip` offsets have no occurrence, the matches that don't
-- overlap are all occurrences
pub matches_from-all : (bytes : List ℕ) (skip i n : ℕ)
    → ((k : ℕ) → i ≤ k → k < i + skip → ¬ OccursAt bytes magic_bytes k)
    → matches_from bytes magic_bytes skip i n ≡ filter (occurs_at bytes magic_bytes) (range_with_len i n)
unfolding matches_from
matches_from-all bytes zero i zero none = refl
matches_from-all bytes (suc skip) i zero none = refl
matches_from-all bytes zero i (suc n) none =
    cond_same (occurs_at bytes magic_bytes i) _ _ _ _
    (λ here. ap (λ xs. i ∷ xs) (matches_from-all bytes 7 (i + 1) n
    (λ k low high occurs.
    let place : k ≡ i + (k - i) = omega arith in
    let again : OccursAt bytes magic_bytes (i + (k - i)) = subst (OccursAt bytes magic_bytes) place occurs in
    magic_apart bytes i (k - i) (OccursAt-true bytes magic_bytes i here) again (omega arith) (omega arith))))
    (λ gone. matches_from-all bytes 0 (i + 1) n (λ k low high. omega arith))
matches_from-all bytes (suc skip) i (suc n) none =
    let gone : occurs_at bytes magic_bytes i ≡ false
    = ⊎_elim (λ yes. absurd (none i (omega arith) (omega arith) (OccursAt-true bytes magic_bytes i yes))) (λ no. no) (cases_Bool (occurs_at bytes magic_bytes i)) in
    matches_from-all bytes skip (i + 1) n (λ k low high. none k (omega arith) (omega arith))
    ∙ sym (cond-false _ _ _ gone)

pub matches-all : (bytes : List ℕ)
    → matches bytes magic_bytes 0 ≡ filter (occurs_at bytes magic_bytes) (range_with_len 0 (length bytes + 1))
matches-all bytes =
    let count : length bytes + 1 - 0 ≡ length bytes + 1 = omega arith in
    ap (matches_from bytes magic_bytes 0 0) count ∙ matches_from-all bytes 0 0 (length bytes + 1) (λ k low high. omega arith)

-- filtering by a weaker test first and then by a stronger one is filtering by the stronger one
pub filter_narrowed : {X : Type 0} (strong weak : X → Bool) → ((x : X) → strong x ≡ true → weak x ≡ true)
    → (xs : List X) → filter strong (filter weak xs) ≡ filter strong xs
filter_narrowed strong weak implies [] = refl
filter_narrowed strong weak implies (x ∷ xs) =
    let rest = filter_narrowed strong weak implies xs in
    ⊎_elim
    (λ yes. ap (filter strong) (cond-true (weak x) _ _ yes) ∙ ap (λ ys. cond (strong x) (x ∷ ys) ys) rest)
    (λ no.
    let fails : strong x ≡ false
    = ⊎_elim (λ t. absurd (false≢true (sym no ∙ implies x t))) (λ f. f) (cases_Bool (strong x)) in
    ap (filter strong) (cond-false (weak x) _ _ no) ∙ (rest ∙ sym (cond-false (strong x) _ _ fails)))
    (cases_Bool (weak x))

-- if the last offset doesn't pass the test, it may be left out
pub filter_range_last : (p : ℕ → Bool) (a n : ℕ) → p (a + n) ≡ false
    → filter p (range_with_len a (suc n)) ≡ filter p (range_with_len a n)
filter_range_last p a zero fails =
    let place : a ≡ a + 0 = omega arith in cond-false (p a) _ _ (ap p place ∙ fails)
filter_range_last p a (suc n) fails =
    let place : (a + 1) + n ≡ a + suc n = omega arith in
    ap (λ ys. cond (p a) (a ∷ ys) ys) (filter_range_last p (a + 1) n (ap p place ∙ fails))

no_magic_at_end : (bytes : List ℕ) → is_magic_at bytes (0 + length bytes) ≡ false
no_magic_at_end bytes =
    ⊎_elim (λ yes. absurd (omega (arith, (OccursAt-true bytes magic_bytes _ yes).fits)))
    (λ no. no) (cases_Bool (is_magic_at bytes (0 + length bytes)))

pub matches-places : (bytes : List ℕ) → matches bytes magic_bytes 0 ≡ magic_places_between bytes 0 (length bytes)
matches-places bytes =
    let more : length bytes + 1 ≡ suc (length bytes) = add-one (length bytes) in
    let count : length bytes ≡ length bytes - 0 = omega arith in
    matches-all bytes
    ∙ (ap (λ n. filter (is_magic_at bytes) (range_with_len 0 n)) more
    ∙ (filter_range_last (is_magic_at bytes) 0 (length bytes) (no_magic_at_end bytes)
    ∙ ap (λ n. filter (is_magic_at bytes) (range_with_len 0 n)) count))

-- each packet begins with the magic
pub packet_has_magic : (bytes : List ℕ) (at : ℕ) → is_packet_at bytes at ≡ true → occurs_at bytes magic_bytes at ≡ true
packet_has_magic bytes at is =
    let header = (and_parts (has_header (drop at bytes)) _ is).0 in
    let parts = and_parts (nat_le 64 (length (drop at bytes))) _ header in
    let long : 64 ≤ length (drop at bytes) = leb-true _ _ parts.0 in
    let magic = (and_parts (bytes_eq (slice_range (drop at bytes) 0 8) magic_bytes) _ parts.1).0 in
    and_from _ _ (le-leb _ _ (omega (arith, length-drop at bytes))) magic

no_packet_at_end : (bytes : List ℕ) → is_packet_at bytes (0 + length bytes) ≡ false
no_packet_at_end bytes =
    ⊎_elim (λ yes.
    let occurs = OccursAt-true bytes magic_bytes _ (packet_has_magic bytes _ yes) in
    absurd (omega (arith, occurs.fits)))
    (λ no. no) (cases_Bool (is_packet_at bytes (0 + length bytes)))

-- the packets at the offsets that such a search finds are all packets
pub packets_at_matches : (bytes : List ℕ)
    → map (packet_found_at bytes) (filter (is_packet_at bytes) (matches bytes magic_bytes 0)) ≡ packets_of bytes
unfolding packets_of
packets_at_matches bytes =
    let p = is_packet_at bytes in
    let more : length bytes + 1 ≡ suc (length bytes) = add-one (length bytes) in
    ap (λ xs. map (packet_found_at bytes) xs)
    (ap (filter p) (matches-all bytes)
    ∙ (filter_narrowed p (occurs_at bytes magic_bytes) (packet_has_magic bytes) (range_with_len 0 (length bytes + 1))
    ∙ (ap (λ n. filter p (range_with_len 0 n)) more
    ∙ filter_range_last p 0 (length bytes) (no_packet_at_end bytes))))
