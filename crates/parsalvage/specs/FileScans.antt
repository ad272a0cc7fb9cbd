-- The packets that a search has found: their headers, and the places of their bodies in one store.
use Rattle.std.specs.Prelude.{◌≡◌, ℕ, ◌+◌, ◌-◌, ◌<◌, ◌≤◌, List, All, drop, take, map, filter, length}
use Rattle.std.specs.List.{range_with_len}
use Rattle.std.specs.List.Sorted.{IsStrictlyIncreasing}
use Rattle.parfield.specs.Packet.{FoundPacket}
use Rattle.parshelf.specs.Shelf.{ShelfState, ReadsAs, file_of}
use Rattle.parsalvage.specs.Packets.{is_packet_at, packet_found_at}
use Rattle.parsalvage.specs.BodyStores.{IsStore, HoldsRun}
use Rattle.parsalvage.specs.Kept.{kept_packet}
use Rattle.parsalvage.specs.declared.kept.Kept.{Kept}
use Rattle.parsalvage.specs.declared.kept.KeptBody.{KeptBody}
use Rattle.parsalvage.specs.declared.kept.KeptBody.TheVariants as kept
use Rattle.parsalvage.specs.declared.stored.StoredBody.{StoredBody}
use Rattle.parsalvage.specs.declared.stored.StoredBody.TheVariants.{Whole, Front}
use Rattle.parsalvage.specs.declared.stored.StoredPacket.{StoredPacket}
use Rattle.parsalvage.specs.declared.file_scan.FileScan.{FileScan}

-- a body as it is kept, its bytes taken from the store
abbrev pub kept_body_from : List ℕ → StoredBody → KeptBody
kept_body_from store (Whole place size) = kept.Whole (take size (drop place store))
kept_body_from store (Front first len) = kept.Front first len

-- the bytes of a body are inside a store of this size
abbrev pub FitsStore : ℕ → StoredBody → Type 0
FitsStore size (Whole place count) = place + count ≤ size
FitsStore size (Front first len) = Unit {0}

-- a stored packet of this file, as it is kept
abbrev pub kept_packet_from : ℕ → List ℕ → StoredPacket → Kept
kept_packet_from file store packet = record {
  file = file;
  at = packet.at;
  length = packet.length;
  set = packet.set;
  kind = packet.kind;
  body = kept_body_from store packet.body;
}

-- the packets that begin at offsets from a up to b, in increasing order
unfoldable pub packets_between : List ℕ → ℕ → ℕ → List FoundPacket
packets_between bytes a b =
    map (packet_found_at bytes) (filter (is_packet_at bytes) (range_with_len a (b - a)))

-- packets that begin below the offset `below` of a file of `size` bytes, in increasing order of
-- offset, and their bodies in a store
pub record LiesIn (size below : ℕ) (found : FileScan) : Type 0 where
  pub store : IsStore size found.bodies
  pub begins : found.bodies.start < below + 64
  pub held : All (λ n. FitsStore (length found.bodies.bytes.items) n.body) found.packets.items
  pub rising : IsStrictlyIncreasing (map (λ n. n.at) found.packets.items)
  pub before : All (λ n. n.at < below) found.packets.items
  pub within : All (λ n. n.at + n.length ≤ size) found.packets.items

-- all packets of a file that begin below this offset are found
pub record FoundBelow (file : ℕ) (bytes : List ℕ) (below : ℕ) (found : FileScan) : Type 0 where
  pub run : HoldsRun bytes found.bodies
  pub packets : map (kept_packet_from file found.bodies.bytes.items) found.packets.items
      ≡ map (kept_packet file) (packets_between bytes 0 below)

-- the same for this file of any files that are consistent with the reads
abbrev pub FindsBelow : ShelfState → ℕ → ℕ → FileScan → Type 0
FindsBelow shelf file below found =
    (files : List (List ℕ)) → ReadsAs shelf files
    → FoundBelow file (file_of files file) below found
