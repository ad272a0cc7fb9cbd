-- The search of a chunk of a file, one offset of the magic after another.
use Rattle.std.proofs.Common.{◌≡◌, ◌≢◌, ◌≤◌, ◌+◌, ◌*◌, ◌-◌, ◌∙◌, ℕ, true, false, List, [], ◌∷◌, length, slice_index, take, drop, filter, ap, sym, subst, arith, IsTrue, ⊎_elim, length-drop}
use Rattle.std.specs.List.{range_with_len}
use Rattle.std.proofs.lemmas.Bool.{cases_Bool, cases_lt, false≢true}
use Rattle.std.proofs.lemmas.List.{drop-take, take-take, drop-drop, length-take}
use Rattle.memchr.specs.Find.{occurs_at, matches}
use Rattle.memchr.proofs.lemmas.MatchLemmas.{OccursAt-true, occurs_at-true, OccursAt-part, OccursAt-from_part}
use Rattle.parfield.specs.Packet.{magic_bytes}
use Rattle.parshelf.specs.Shelf.{ShelfState, ReadsAs, file_of}
use Rattle.parsalvage.specs.declared.salvage_fault.SalvageFault.{SalvageFault}
use Rattle.parsalvage.specs.declared.file_scan.FileScan.{FileScan}
use Rattle.parsalvage.specs.Packets.{is_packet_at, packet_found_at, packets_of}
use Rattle.parsalvage.specs.Pieces.{IsPiece}
use Rattle.parsalvage.specs.MagicPlaces.{is_magic_at, framed_size, limit_between}
use Rattle.parsalvage.specs.FileScans.{LiesIn, FindsBelow}
use Rattle.parsalvage.proofs.HandLaws.{Handed, StopsAfter, FitsWithin, Hands-none, Hands-more, Hands-lengths, StopsAfter-more}
use Rattle.parsalvage.proofs.LimitLaws.{limit_between-split, limit_between-one}
use Rattle.parsalvage.proofs.MagicLaws.{matches-all, packet_has_magic}
use Rattle.parsalvage.proofs.ScanLaws.{LiesIn-later, FoundBelow-none, no_packet_late}
use Rattle.parsalvage.proofs.RangeLaws.{nothing_mapped, PassesFirst, passes_first, passes_none}

-- if there is a packet at an offset, the list of packets isn't empty
pub some_packet : (bytes : List ℕ) (at : ℕ) → IsTrue (is_packet_at bytes at) → packets_of bytes ≢ []
unfolding packets_of
some_packet bytes at is none =
    let nothing : filter (is_packet_at bytes) (range_with_len 0 (length bytes)) ≡ []
    = nothing_mapped (packet_found_at bytes) _ none in
    ⊎_elim
    (λ inside. false≢true (sym (passes_none (is_packet_at bytes) 0 (length bytes) nothing at (omega arith) (omega (arith, inside))) ∙ is))
    (λ late. false≢true (sym (no_packet_late bytes at (omega (arith, late))) ∙ is))
    (cases_lt at (length bytes))

-- the magic is in the chunk exactly at the offsets at which the file has it
module _ (bytes : List ℕ) (base : ℕ) (window : List ℕ) (piece : IsPiece bytes base window) where
  inside : length window ≤ length bytes - base
  inside = omega (arith, ap length piece, length-take (length window) (drop base bytes), length-drop base bytes)

  part_same : (k : ℕ) → k + 8 ≤ length window → take 8 (drop k window) ≡ take 8 (drop (base + k) bytes)
  part_same k fits =
      let split : length window ≡ k + (length window - k) = omega arith in
      ap (λ (xs : List ℕ). take 8 (drop k xs)) piece
      ∙ (ap (λ (n : ℕ). take 8 (drop k (take n (drop base bytes)))) split
      ∙ (ap (take 8) (drop-take k (length window - k) (drop base bytes))
      ∙ (take-take 8 (length window - k) (drop k (drop base bytes)) (omega arith)
      ∙ ap (take 8) (drop-drop k base bytes))))

  pub magic_in_file : (k : ℕ) → k + 8 ≤ length window → occurs_at window magic_bytes k ≡ true → is_magic_at bytes (base + k) ≡ true
  magic_in_file k fits is =
      occurs_at-true bytes magic_bytes (base + k) (OccursAt-from_part bytes magic_bytes (base + k) (omega (arith, inside))
      (sym (part_same k fits) ∙ OccursAt-part window magic_bytes k (OccursAt-true window magic_bytes k is)))

  no_packet_without : (k : ℕ) → base ≤ k → (k - base) + 8 ≤ length window → occurs_at window magic_bytes (k - base) ≡ false → is_packet_at bytes k ≡ false
  no_packet_without k low fits none =
      let place : base + (k - base) ≡ k = omega arith in
      ⊎_elim
      (λ is.
      let magic = OccursAt-true bytes magic_bytes k (packet_has_magic bytes k is) in
      let there : take 8 (drop (k - base) window) ≡ magic_bytes
      = part_same (k - base) fits ∙ (ap (λ (n : ℕ). take 8 (drop n bytes)) place ∙ OccursAt-part bytes magic_bytes k magic) in
      absurd (false≢true (sym none ∙ occurs_at-true window magic_bytes (k - base) (OccursAt-from_part window magic_bytes (k - base) fits there))))
      (λ not. not) (cases_Bool (is_packet_at bytes k))

-- how far the search of a chunk has come: the offsets of the magic that are left, and the
-- packets found so far
pub record Left : Type 0 where
  pub shelf : ShelfState
  pub places : List ℕ
  pub found : FileScan

-- the offsets of the chunk before `next` were searched
pub record SearchedTo (s : ShelfState) (file base : ℕ) (window : List ℕ) (left : Left) : Type 0 where
  pub next : ℕ
  pub low : base ≤ next
  pub high : next ≤ base + (length window - 7)
  pub places_are : left.places ≡ filter (occurs_at window magic_bytes) (range_with_len (next - base) ((length window + 1) - (next - base)))
  pub lies : LiesIn (slice_index s.lengths file) next left.found
  pub packets : FindsBelow left.shelf file next left.found
  pub hands : Handed s left.shelf file (λ bytes. limit_between bytes base next)

pub SearchedTo-start : (s : ShelfState) (file base : ℕ) (window : List ℕ) (found : FileScan) → LiesIn (slice_index s.lengths file) base found
    → FindsBelow s file base found
    → SearchedTo s file base window (record { shelf = s; places = matches window magic_bytes 0; found = found })
SearchedTo-start s file base window found lies packets = record {
  next = base;
  low = omega arith;
  high = omega arith;
  places_are =
      let zero : base - base ≡ 0 = omega arith in
      let all : length window + 1 ≡ (length window + 1) - 0 = omega arith in
      matches-all window ∙ ap (λ (n : ℕ). filter (occurs_at window magic_bytes) (range_with_len 0 n)) all ∙ sym (ap (λ (n : ℕ). filter (occurs_at window magic_bytes) (range_with_len n ((length window + 1) - n))) zero);
  lies = lies;
  packets = packets;
  hands = Hands-none s file _;
}

-- the search of the first offset that is left
module _ (s t : ShelfState) (file base : ℕ) (window : List ℕ) (place : ℕ) (later : List ℕ) (found : FileScan)
    (piece : (files : List (List ℕ)) → ReadsAs s files → IsPiece (file_of files file) base window)
    (so_far : SearchedTo s file base window (record { shelf = t; places = place ∷ later; found = found })) where
  first : PassesFirst (occurs_at window magic_bytes) (so_far.next - base) ((length window + 1) - (so_far.next - base)) place later
  first = passes_first _ _ _ place later (sym so_far.places_are)

  pub place_fits : place + 8 ≤ length window
  place_fits = (OccursAt-true window magic_bytes place first.passes).fits

  behind : so_far.next ≤ base + place
  behind = omega (arith, first.low, so_far.low)

  same_length : slice_index t.lengths file ≡ slice_index s.lengths file
  same_length = ap (λ (lengths : List ℕ). slice_index lengths file) (Hands-lengths s t file _ so_far.hands)

  pub place_within : base + length window ≤ slice_index s.lengths file → base + place ≤ slice_index t.lengths file
  place_within within = omega (arith, same_length, place_fits, within)

  piece_now : (files : List (List ℕ)) → ReadsAs t files → IsPiece (file_of files file) base window
  piece_now files reads = piece files (so_far.hands.0.older files reads)

  pub lies_before : LiesIn (slice_index t.lengths file) (base + place) found
  lies_before =
      subst (λ (size : ℕ). LiesIn size (base + place) found) (sym same_length)
      (LiesIn-later (slice_index s.lengths file) so_far.next (base + place) found so_far.lies behind)

  pub packets_before : FindsBelow t file (base + place) found
  packets_before files reads =
      FoundBelow-none file so_far.next (base + place) (file_of files file) found (so_far.packets files reads) behind
      (λ k low high. no_packet_without (file_of files file) base window (piece_now files reads) k (omega (arith, low, so_far.low)) (omega (arith, high, place_fits))
      (first.none (k - base) (omega (arith, low, so_far.low)) (omega (arith, high, low, so_far.low))))

  cost : FitsWithin t file (λ bytes. limit_between bytes base so_far.next + (64 + 2 * framed_size (drop (base + place) bytes)))
      (λ bytes. limit_between bytes base ((base + place) + 1))
  cost files reads =
      let magic = magic_in_file (file_of files file) base window (piece_now files reads) place place_fits first.passes in
      let one = limit_between-one (file_of files file) (base + place) magic in
      let whole = limit_between-split (file_of files file) base so_far.next ((base + place) + 1) so_far.low (omega (arith, behind)) in
      let rest = limit_between-split (file_of files file) so_far.next (base + place) ((base + place) + 1) behind (omega arith) in
      omega (arith, one, whole, rest)

  pub SearchedTo-next : (u : ShelfState) (more : FileScan) → LiesIn (slice_index t.lengths file) ((base + place) + 1) more
      → FindsBelow u file ((base + place) + 1) more
      → Handed t u file (λ bytes. 64 + 2 * framed_size (drop (base + place) bytes))
      → SearchedTo s file base window (record { shelf = u; places = later; found = more })
  SearchedTo-next u more lies packets hands = record {
    next = (base + place) + 1;
    low = omega arith;
    high = omega (arith, place_fits);
    places_are =
        let begin : place + 1 ≡ ((base + place) + 1) - base = omega arith in
        let count : (so_far.next - base) + ((length window + 1) - (so_far.next - base)) ≡ length window + 1
        = omega (arith, so_far.low, so_far.high) in
        first.later_are
        ∙ (ap (λ (n : ℕ). filter (occurs_at window magic_bytes) (range_with_len (place + 1) (n - (place + 1)))) count
        ∙ ap (λ (n : ℕ). filter (occurs_at window magic_bytes) (range_with_len n ((length window + 1) - n))) begin);
    lies = subst (λ (size : ℕ). LiesIn size ((base + place) + 1) more) same_length lies;
    packets = packets;
    hands = Hands-more s t u file _ _ _ so_far.hands hands cost;
  }

  pub SearchedTo-fault : (u : ShelfState) (fault : SalvageFault)
      → StopsAfter t u file (λ bytes. 64 + 2 * framed_size (drop (base + place) bytes)) fault
      → StopsAfter s u file (λ bytes. limit_between bytes base (base + (length window - 7))) fault
  SearchedTo-fault u fault faults =
      StopsAfter-more s t u file _ _ _ fault so_far.hands faults
      (λ files reads.
      let all = limit_between-split (file_of files file) base ((base + place) + 1) (base + (length window - 7)) (omega arith) (omega (arith, place_fits)) in
      omega (arith, cost files reads, all))

-- no offset is left, so the chunk is searched
module _ (s t : ShelfState) (file base : ℕ) (window : List ℕ) (found : FileScan)
    (piece : (files : List (List ℕ)) → ReadsAs s files → IsPiece (file_of files file) base window)
    (all : SearchedTo s file base window (record { shelf = t; places = []; found = found })) where
  pub lies_after : LiesIn (slice_index s.lengths file) (base + (length window - 7)) found
  lies_after = LiesIn-later (slice_index s.lengths file) all.next (base + (length window - 7)) found all.lies all.high

  pub packets_after : FindsBelow t file (base + (length window - 7)) found
  packets_after files reads =
      let is_piece = piece files (all.hands.0.older files reads) in
      FoundBelow-none file all.next (base + (length window - 7)) (file_of files file) found (all.packets files reads) all.high
      (λ k low high. no_packet_without (file_of files file) base window is_piece k (omega (arith, low, all.low)) (omega (arith, high, low, all.low))
      (passes_none (occurs_at window magic_bytes) (all.next - base) ((length window + 1) - (all.next - base)) (sym all.places_are) (k - base)
      (omega (arith, low, all.low)) (omega (arith, high, low, all.low))))

  pub hands_after : Handed s t file (λ bytes. limit_between bytes base (base + (length window - 7)))
  hands_after =
      Hands-more s t t file _ (λ _. 0) _ all.hands (Hands-none t file (λ _. 0))
      (λ files reads.
      let rest = limit_between-split (file_of files file) base all.next (base + (length window - 7)) all.low all.high in
      omega (arith, rest))
