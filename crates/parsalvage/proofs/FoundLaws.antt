-- All packets of a file, after it was searched to its end.
use Rattle.std.proofs.Common.{◌≡◌, ◌≤◌, ◌+◌, ◌-◌, ◌∙◌, ℕ, List, [], length, map, filter, ap, sym, subst, refl, arith, All}
use Rattle.std.specs.List.{range_with_len}
use Rattle.std.specs.List.Sorted.{IsStrictlyIncreasing}
use Rattle.std.proofs.lemmas.List.Elements.{All-map}
use Rattle.std.proofs.lemmas.Simd.{map-map}
use Rattle.parsalvage.specs.Packets.{is_packet_at, packet_found_at, packets_of}
use Rattle.parsalvage.specs.Kept.{kept_packet, kept_of_file}
use Rattle.parsalvage.specs.Leaves.{LieInFile}
use Rattle.parsalvage.specs.FileScans.{kept_packet_from, packets_between, LiesIn, FoundBelow}
use Rattle.parsalvage.specs.declared.kept.Kept.{Kept}
use Rattle.parsalvage.specs.declared.stored.StoredPacket.{StoredPacket}
use Rattle.parsalvage.specs.declared.file_scan.FileScan.{FileScan}
use Rattle.parsalvage.proofs.RangeLaws.{nothing_mapped}

packets_between-all : (bytes : List ℕ) → packets_between bytes 0 (length bytes) ≡ packets_of bytes
unfolding packets_between packets_of
packets_between-all bytes =
    let all : length bytes - 0 ≡ length bytes = omega arith in
    ap (λ (n : ℕ). map (packet_found_at bytes) (filter (is_packet_at bytes) (range_with_len 0 n))) all

pub found_all : (file size : ℕ) (bytes : List ℕ) (found : FileScan) → FoundBelow file bytes size found → length bytes ≡ size
    → map (kept_packet_from file found.bodies.bytes.items) found.packets.items ≡ kept_of_file file bytes
found_all file size bytes found all long =
    all.packets ∙ ap (map (kept_packet file)) (ap (packets_between bytes 0) (sym long) ∙ packets_between-all bytes)

pub found_none : (file size : ℕ) (bytes : List ℕ) (found : FileScan) → FoundBelow file bytes size found → length bytes ≡ size
    → packets_of bytes ≡ [] → found.packets.items ≡ []
found_none file size bytes found all long none =
    nothing_mapped (kept_packet_from file found.bodies.bytes.items) found.packets.items
    (found_all file size bytes found all long ∙ ap (map (kept_packet file)) none)

-- the packets that were found are kept with their offsets, which are increasing and inside the file
pub found_inside : (file size : ℕ) (found : FileScan) (kept : List Kept) → LiesIn size size found
    → kept ≡ map (kept_packet_from file found.bodies.bytes.items) found.packets.items → LieInFile file size kept
found_inside file size found kept lies is =
    let view : StoredPacket → Kept = kept_packet_from file found.bodies.bytes.items in
    let offsets : map (λ (k : Kept). k.at) kept ≡ map (λ (n : StoredPacket). n.at) found.packets.items
    = ap (map (λ (k : Kept). k.at)) is ∙ map-map (λ (k : Kept). k.at) (kept_packet_from file found.bodies.bytes.items) found.packets.items in record {
      own = subst (All (λ (k : Kept). k.file ≡ file)) (sym is)
          (All-map (λ (k : Kept). k.file ≡ file) (kept_packet_from file found.bodies.bytes.items) found.packets.items (λ k d low. refl));
      rising = subst IsStrictlyIncreasing (sym offsets) lies.rising;
      within = subst (All (λ (k : Kept). k.at + k.length ≤ size)) (sym is)
          (All-map (λ (k : Kept). k.at + k.length ≤ size) (kept_packet_from file found.bodies.bytes.items) found.packets.items lies.within);
    }
