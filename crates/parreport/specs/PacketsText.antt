-- The text of `packets`.
use Rattle.std.specs.Prelude.{ℕ, List, [], ◌++◌, filter, length, Option, slice_index_or}
use Rattle.std.specs.List.{flat_map}
use Rattle.parfield.specs.declared.hash16.Hash16.{Hash16}
use Rattle.parsalvage.specs.Kept.{is_chosen}
use Rattle.parsalvage.specs.declared.kept.Kept.{Kept}
use Rattle.parreport.specs.Lines.{packet_line, count_line}

-- the packets that are asked for: those of one set, or all
abbrev pub chosen_of : Option Hash16 → List Kept → List Kept
chosen_of choice packets = filter (is_chosen choice) packets

-- the line of a packet in files of these names
abbrev pub kept_line : List (List ℕ) → Kept → List ℕ
kept_line names packet = packet_line (slice_index_or names packet.file []) packet

-- a line for each packet that is asked for, and one with their number
unfoldable pub packets_text : List (List ℕ) → Option Hash16 → List Kept → List ℕ
packets_text names choice packets =
    flat_map (kept_line names) (chosen_of choice packets)
    ++ count_line (length (chosen_of choice packets))
