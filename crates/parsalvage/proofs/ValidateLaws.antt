-- The facts that are known at an offset after its header was read, and then after
-- its hash was computed.
use Rattle.std.proofs.Common.{nat_le, ◌≡◌, ◌≤◌, ◌+◌, ◌-◌, ◌∙◌, ℕ, Bool, true, false, List, length, take, drop, ap, sym, arith, ⊎_elim}
use Rattle.std.specs.List.{slice_range}
use Rattle.std.specs.Str.{bytes_eq}
use Rattle.std.proofs.lemmas.List.{drop-drop}
use Rattle.std.proofs.lemmas.Bool.{cond-true, and_from, and_parts, cases_Bool, false≢true}
use Rattle.md5.specs.Md5.{md5}
use Rattle.parfield.specs.Packet.{has_header, header_of, length_field, begins_packet}
use Rattle.parfield.specs.declared.headers.Header.{Header}
use Rattle.parshelf.specs.Shelf.{ShelfState, ReadsAs, file_of, bytes_at}
use Rattle.parshelf.specs.declared.shelves.reading.ReadFault.{ReadFault}
use Rattle.parsalvage.specs.MagicPlaces.{begins_framed, framed_size}
use Rattle.parsalvage.proofs.FrontLaws.{packet_hashed}
use Rattle.parsalvage.proofs.HandLaws.{Handed, FaultsAfter, FitsWithin, Hands-more, FaultsAfter-more}

pub framed_size-framed : (rest : List ℕ) → true ≡ begins_framed rest → framed_size rest ≡ length_field rest
framed_size-framed rest framed = cond-true (begins_framed rest) (length_field rest) 0 (sym framed)

module _ (s t : ShelfState) (file at : ℕ) (head : Header)
    (framed : (files : List (List ℕ)) → ReadsAs t files → true ≡ begins_framed (drop at (file_of files file)))
    (fields : (files : List (List ℕ)) → ReadsAs t files → head ≡ header_of (drop at (file_of files file)))
    (read : Handed s t file (λ _. 64)) where
  sized : (files : List (List ℕ)) → ReadsAs t files → head.length ≡ length_field (drop at (file_of files file))
  sized files reads = ap (λ (h : Header). h.length) (fields files reads)

  cost : FitsWithin t file (λ _. 64 + (head.length - 32)) (λ bytes. 64 + framed_size (drop at bytes))
  cost files reads = omega (arith, sized files reads, framed_size-framed (drop at (file_of files file)) (framed files reads))

  pub validated_hands : (u : ShelfState) → Handed t u file (λ _. head.length - 32)
      → Handed s u file (λ bytes. 64 + framed_size (drop at bytes))
  validated_hands u hashed = Hands-more s t u file _ _ _ read hashed cost

  pub validated_fault : (u : ShelfState) (fault : ReadFault) → FaultsAfter t u file (λ _. head.length - 32) fault
      → FaultsAfter s u file (λ bytes. 64 + framed_size (drop at bytes)) fault
  validated_fault u fault hashing = FaultsAfter-more s t u file _ _ _ fault read hashing cost

  -- the bytes that are hashed but lie before `end` are in the chunk, so they aren't read
  rest_cost : (end : ℕ) → 64 ≤ head.length
      → FitsWithin t file (λ _. 64 + (at + 32 + (head.length - 32) - end)) (λ bytes. 64 + (at + framed_size (drop at bytes) - end))
  rest_cost end long files reads =
      omega (arith, long, sized files reads, framed_size-framed (drop at (file_of files file)) (framed files reads))

  pub validated_rest : (u : ShelfState) (end : ℕ) → 64 ≤ head.length → Handed t u file (λ _. at + 32 + (head.length - 32) - end)
      → Handed s u file (λ bytes. 64 + (at + framed_size (drop at bytes) - end))
  validated_rest u end long hashed = Hands-more s t u file _ _ _ read hashed (rest_cost end long)

  pub validated_rest_fault : (u : ShelfState) (end : ℕ) (fault : ReadFault) → 64 ≤ head.length
      → FaultsAfter t u file (λ _. at + 32 + (head.length - 32) - end) fault
      → FaultsAfter s u file (λ bytes. 64 + (at + framed_size (drop at bytes) - end)) fault
  validated_rest_fault u end fault long hashing = FaultsAfter-more s t u file _ _ _ fault read hashing (rest_cost end long)

  pub validated_packet : (files : List (List ℕ)) → ReadsAs t files → (hash : List ℕ) (same : Bool)
      → hash ≡ md5 (bytes_at files file (at + 32) (head.length - 32))
      → same ≡ bytes_eq hash head.hash.0 → same ≡ begins_packet (drop at (file_of files file))
  validated_packet files reads hash same hashed test =
      let bytes : List ℕ = file_of files file in
      let n : ℕ = length_field (drop at bytes) in
      let part : bytes_at files file (at + 32) (head.length - 32) ≡ slice_range (drop at bytes) 32 n
      = ap (λ (m : ℕ). take (m - 32) (drop (at + 32) bytes)) (sized files reads)
      ∙ ap (λ (xs : List ℕ). take (n - 32) xs) (sym (drop-drop 32 at bytes)) in
      packet_hashed (drop at bytes) hash same (framed files reads) (hashed ∙ ap md5 part)
      (test ∙ ap (λ (h : Header). bytes_eq hash h.hash.0) (fields files reads))

-- a packet has a header, and the bytes are long enough for it
packet_is_framed : (rest : List ℕ) → begins_packet rest ≡ true → begins_framed rest ≡ true
packet_is_framed rest is =
    let parts = and_parts (has_header rest) _ is in
    let more = and_parts (nat_le (length_field rest) (length rest)) _ parts.1 in
    and_from _ _ parts.0 more.0

pub framed_packet : (rest : List ℕ) → begins_packet rest ≡ true → framed_size rest ≡ length_field rest
framed_packet rest is = framed_size-framed rest (sym (packet_is_framed rest is))

pub unframed_no_packet : (rest : List ℕ) → false ≡ begins_framed rest → false ≡ begins_packet rest
unframed_no_packet rest none =
    sym (⊎_elim (λ yes. absurd (false≢true (none ∙ packet_is_framed rest yes))) (λ no. no) (cases_Bool (begins_packet rest)))
