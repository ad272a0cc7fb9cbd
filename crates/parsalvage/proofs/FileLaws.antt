-- The search of a file, one chunk after another.
use Rattle.std.proofs.Common.{◌≡◌, ◌<◌, ◌≤◌, ◌+◌, ◌-◌, ◌∙◌, ℕ, List, [], length, take, drop, map, slice_index, ap, refl, sym, subst, arith, length-drop}
use Rattle.std.proofs.Math.Seq.{paste}
use Rattle.std.proofs.lemmas.List.{drop-take, take-take, drop-drop, length-take-le}
use Rattle.std.proofs.lemmas.List.Edits.{take-paste}
use Rattle.std.proofs.lemmas.List.Elements.{All-nil}
use Rattle.parshelf.specs.Shelf.{ShelfState, ReadsAs, file_of, bytes_at}
use Rattle.parshelf.proofs.ShelfLaws.{length-file_of}
use Rattle.parshelf.specs.Reads.{ReadsOnly, FaultsIn, HandsOver, HandsAtMost}
use Rattle.parshelf.specs.declared.shelves.reading.ReadFault.{ReadFault}
use Rattle.parshelf.proofs.PieceLaws.{read_more}
use Rattle.parsalvage.specs.declared.salvage_fault.SalvageFault.{SalvageFault}
use Rattle.parsalvage.specs.declared.file_scan.FileScan.{FileScan}
use Rattle.parsalvage.specs.Pieces.{IsPiece}
use Rattle.parsalvage.specs.MagicPlaces.{limit_between, salvage_limit}
use Rattle.parsalvage.specs.FileScans.{LiesIn, FindsBelow}
use Rattle.parsalvage.proofs.HandLaws.{Handed, FaultsAfter, StopsAfter, Hands-none, Hands-from, Hands-more, Hands-lengths, StopsAfter-more, FaultsAfter-more, FaultsAfter-within}
use Rattle.parsalvage.proofs.LimitLaws.{limit_between-split}
use Rattle.parsalvage.proofs.ScanLaws.{LiesIn-later, FoundBelow-none, no_packet_late, packets_between-zero}
use Rattle.parsalvage.proofs.BodyLaws.{run_none}
use Rattle.parsalvage.specs.Kept.{kept_packet}
use borrow.Rule.Slice.PartMut.{put_mid, same_len_mid}

-- how far the search of a file has come: the window has the first `held` bytes of the chunk that
-- begins at offset `base`
pub record Progress : Type 0 where
  pub shelf : ShelfState
  pub base : ℕ
  pub held : ℕ
  pub window : List ℕ
  pub found : FileScan

-- all offsets below `base` were searched, and the first bytes of the chunk that
-- begins there were read
pub record FileSearched (s : ShelfState) (file : ℕ) (now : Progress) : Type 0 where
  pub room : now.held ≤ length now.window
  pub hands : Handed s now.shelf file (λ bytes. (now.base + now.held) + limit_between bytes 0 now.base)
  pub lies : LiesIn (slice_index s.lengths file) now.base now.found
  pub packets : FindsBelow now.shelf file now.base now.found
  pub front : (files : List (List ℕ)) → ReadsAs now.shelf files
      → take now.held now.window ≡ take now.held (drop now.base (file_of files file))

pub FileSearched-start : (s : ShelfState) (file : ℕ) (window : List ℕ) (found : FileScan) → found.packets.items ≡ []
    → found.bodies.bytes.items ≡ [] → found.bodies.start ≡ 0 → found.bodies.end ≡ 0
    → FileSearched s file (record { shelf = s; base = 0; held = 0; window = window; found = found })
FileSearched-start s file window found no_packets no_bytes start_is end_is = record {
  room = omega arith;
  hands = Hands-none s file _;
  lies = record {
    store = record { rising = omega arith; fits = omega arith; short = rw no_bytes (omega arith); within = omega arith };
    begins = omega arith;
    held = rw no_packets (All-nil _);
    rising = rw no_packets (λ k within. absurd (omega arith));
    before = rw no_packets (All-nil _);
    within = rw no_packets (All-nil _);
  };
  packets = λ files reads. record {
    run = rw (start_is, end_is) (run_none (file_of files file) found.bodies.bytes.items 0);
    packets = rw no_packets (sym (ap (map (kept_packet file)) (packets_between-zero (file_of files file))));
  };
  front = λ files reads. refl;
}

-- the next chunk: the bytes of it that the window had, followed by those that were read into
-- the rest of the window
module _ (s : ShelfState) (file : ℕ) (now : Progress) (so_far : FileSearched s file now)
    (size : ℕ) (part : List ℕ) (more : now.held ≤ size) (room : size ≤ length now.window)
    (filled : length part ≡ length (take (size - now.held) (drop now.held now.window))) where
  count : length (take (size - now.held) (drop now.held now.window)) ≡ size - now.held
  count = length-take-le (size - now.held) (drop now.held now.window) (omega (arith, more, room, length-drop now.held now.window))

  abbrev pub with_piece : ShelfState → Progress
  with_piece u = record { shelf = u; base = now.base; held = size; window = put_mid now.held (size - now.held) now.window part; found = now.found }

  pub FileSearched-read : (u : ShelfState)
      → ReadsOnly now.shelf u × HandsOver now.shelf u file (length (take (size - now.held) (drop now.held now.window)))
      → ((files : List (List ℕ)) → ReadsAs u files
      → part ≡ bytes_at files file (now.base + now.held) (length (take (size - now.held) (drop now.held now.window))))
      → FileSearched s file (with_piece u)
  FileSearched-read u over bytes_are = record {
    room = omega (arith, room, same_len_mid now.held (size - now.held) now.window part filled);
    hands =
        Hands-more s now.shelf u file _ (λ _. size - now.held) _ so_far.hands
        (Hands-from now.shelf u file _ (λ _. size - now.held) over (λ files reads. omega (arith, count))) (λ files reads. omega (arith, more));
    lies = so_far.lies;
    packets = λ files reads. so_far.packets files (over.0.older files reads);
    front = λ files reads.
        let bytes : List ℕ = file_of files file in
        let all : now.held + (size - now.held) ≡ size = omega (arith, more) in
        let next : take (size - now.held) part ≡ take (size - now.held) (drop (now.base + now.held) bytes)
        = ap (take (size - now.held)) (bytes_are files reads ∙ ap (λ (n : ℕ). take n (drop (now.base + now.held) bytes)) count)
        ∙ take-take (size - now.held) (size - now.held) (drop (now.base + now.held) bytes) (omega arith) in
        let joined = read_more now.window part bytes now.held (size - now.held) (size - now.held) now.base so_far.room
        (omega (arith, filled, count)) (so_far.front files (over.0.older files reads)) next in
        ap (λ (n : ℕ). take n (put_mid now.held (size - now.held) now.window part)) (sym all)
        ∙ (joined ∙ ap (λ (n : ℕ). take n (drop now.base bytes)) all);
  }

-- the window has a whole chunk
module _ (s : ShelfState) (file : ℕ) (now : Progress) (so_far : FileSearched s file now) (some : 7 ≤ now.held) where
  whole : length (take now.held now.window) ≡ now.held
  whole = length-take-le now.held now.window so_far.room

  pub piece_is : (files : List (List ℕ)) → ReadsAs now.shelf files → IsPiece (file_of files file) now.base (take now.held now.window)
  piece_is files reads =
      so_far.front files reads ∙ ap (λ (n : ℕ). take n (drop now.base (file_of files file))) (sym whole)

  -- the offset up to which the chunk is searched: packets that begin in its last seven bytes are
  -- left to the next chunk
  end_is : now.base + (length (take now.held now.window) - 7) ≡ now.base + (now.held - 7)
  end_is = omega (arith, whole)

  limits : (bytes : List ℕ) → ((now.base + now.held) + limit_between bytes 0 now.base)
      + limit_between bytes now.base (now.base + (length (take now.held now.window) - 7))
      ≡ ((now.base + (now.held - 7)) + 7) + limit_between bytes 0 (now.base + (now.held - 7))
  limits bytes =
      let here = ap (limit_between bytes now.base) end_is in
      let all = limit_between-split bytes 0 now.base (now.base + (now.held - 7)) (omega arith) (omega arith) in
      omega (arith, some, here, all)

  pub FileSearched-next : (v : ShelfState) (found : FileScan) (moved : List ℕ) → length moved ≡ length now.window
      → moved ≡ paste now.window 0 (drop (now.held - 7) now.window) (now.held - (now.held - 7))
      → LiesIn (slice_index now.shelf.lengths file) (now.base + (length (take now.held now.window) - 7)) found
      → FindsBelow v file (now.base + (length (take now.held now.window) - 7)) found
      → Handed now.shelf v file (λ bytes. limit_between bytes now.base (now.base + (length (take now.held now.window) - 7)))
      → FileSearched s file (record { shelf = v; base = now.base + (now.held - 7); held = 7; window = moved; found = found })
  FileSearched-next v found moved long moved_is lies packets hands = record {
    room = omega (arith, some, long, so_far.room);
    hands = Hands-more s now.shelf v file _ _ _ so_far.hands hands (λ files reads. omega (arith, limits (file_of files file)));
    lies = subst (λ (n : ℕ). LiesIn (slice_index s.lengths file) n found) end_is
        (subst (λ (lengths : List ℕ). LiesIn (slice_index lengths file) (now.base + (length (take now.held now.window) - 7)) found)
        (Hands-lengths s now.shelf file _ so_far.hands) lies);
    packets = subst (λ (n : ℕ). FindsBelow v file n found) end_is packets;
    front = λ files reads.
        let bytes : List ℕ = file_of files file in
        let seven : now.held - (now.held - 7) ≡ 7 = omega (arith, some) in
        let tail : now.held ≡ (now.held - 7) + 7 = omega (arith, some) in
        let begins : take 7 moved ≡ take 7 (drop (now.held - 7) now.window)
        = ap (take 7) (moved_is ∙ ap (paste now.window 0 (drop (now.held - 7) now.window)) seven)
        ∙ take-paste now.window 0 (drop (now.held - 7) now.window) 7 (omega arith)
        (omega (arith, some, so_far.room, length-drop (now.held - 7) now.window)) in
        begins ∙ (sym (drop-take (now.held - 7) 7 now.window)
        ∙ (ap (λ (n : ℕ). drop (now.held - 7) (take n now.window)) (sym tail)
        ∙ (ap (drop (now.held - 7)) (so_far.front files (hands.0.older files reads))
        ∙ (ap (λ (n : ℕ). drop (now.held - 7) (take n (drop now.base bytes))) tail
        ∙ (drop-take (now.held - 7) 7 (drop now.base bytes)
        ∙ ap (take 7) (drop-drop (now.held - 7) now.base bytes))))));
  }

  pub FileSearched-fault : (v : ShelfState) (fault : SalvageFault) → now.base + now.held ≤ slice_index s.lengths file
      → StopsAfter now.shelf v file (λ bytes. limit_between bytes now.base (now.base + (length (take now.held now.window) - 7))) fault
      → StopsAfter s v file salvage_limit fault
  FileSearched-fault v fault within faults =
      StopsAfter-more s now.shelf v file _ _ _ fault so_far.hands faults
      (λ files reads.
      let bytes : List ℕ = file_of files file in
      let long = length-file_of s files file (so_far.hands.0.older files reads) in
      let all = limit_between-split bytes 0 (now.base + (now.held - 7)) (length bytes) (omega arith) (omega (arith, within, long)) in
      omega (arith, some, limits bytes, all, within, long))

-- if the read of a chunk failed, the search fails with that fault, within its
-- limit on the bytes read
pub FileSearched-unread : (s : ShelfState) (file : ℕ) (now : Progress) (u : ShelfState) (n : ℕ) (fault : ReadFault) → FileSearched s file now
    → (now.base + now.held) + n ≤ slice_index s.lengths file
    → FaultsIn now.shelf u file fault × HandsAtMost now.shelf u file n → FaultsAfter s u file salvage_limit fault
FileSearched-unread s file now u n fault so_far within fails =
    FaultsAfter-more s now.shelf u file _ (λ _. n) _ fault so_far.hands
    (FaultsAfter-within now.shelf u file n (λ _. n) fault fails (λ files reads. omega arith))
    (λ files reads.
    let long = length-file_of s files file (so_far.hands.0.older files reads) in
    let all = limit_between-split (file_of files file) 0 now.base (length (file_of files file)) (omega arith) (omega (arith, within, long)) in
    omega (arith, within, long, all))

-- if fewer bytes are left than a header has, the file is searched to its end
module _ (s : ShelfState) (file : ℕ) (now : Progress) (so_far : FileSearched s file now)
    (low : now.base + now.held ≤ slice_index s.lengths file) (last : slice_index s.lengths file < now.base + 64) where
  pub hands_whole : Handed s now.shelf file salvage_limit
  hands_whole =
      Hands-more s now.shelf now.shelf file _ (λ _. 0) _ so_far.hands (Hands-none now.shelf file (λ _. 0))
      (λ files reads.
      let long = length-file_of s files file (so_far.hands.0.older files reads) in
      let all = limit_between-split (file_of files file) 0 now.base (length (file_of files file)) (omega arith) (omega (arith, low, long)) in
      omega (arith, low, all, long))

  pub lies_whole : LiesIn (slice_index s.lengths file) (slice_index s.lengths file) now.found
  lies_whole = LiesIn-later (slice_index s.lengths file) now.base (slice_index s.lengths file) now.found so_far.lies (omega (arith, low))

  pub packets_whole : FindsBelow now.shelf file (slice_index s.lengths file) now.found
  packets_whole files reads =
      let long = length-file_of s files file (so_far.hands.0.older files reads) in
      FoundBelow-none file now.base (slice_index s.lengths file) (file_of files file) now.found (so_far.packets files reads) (omega (arith, low))
      (λ k from up. no_packet_late (file_of files file) k (omega (arith, from, last, long)))
