-- The contents of the packets of a recovery set. Each thing is taken from the first
-- usable packet that has it.
use Rattle.std.specs.Prelude.{ℕ, ◌+◌, ◌==◌, ◌&&◌, Bool, not, List, [], ◌∷◌, length, filter}
use Rattle.std.specs.Prelude.{◌≡◌, count_by, Option, Some, None, is_some, option_map, if◌then◌else◌}
use Rattle.std.specs.List.{All, filter_map, list_any, range_with_len}
use Rattle.std.specs.Option.{option_or}
use Rattle.std.specs.Str.{bytes_eq}
use Rattle.parfield.specs.declared.hash16.Hash16.{Hash16}
use Rattle.parsalvage.specs.Kept.{is_chosen}
use Rattle.parsalvage.specs.declared.kept.Kept.{Kept}
use Rattle.parset.specs.Limits.{exponent_limit}
use Rattle.parset.specs.PacketFields.{usable_main, usable_description, usable_checksums}
use Rattle.parset.specs.PacketFields.{usable_exponent, usable_creator_text, reason_of}
use Rattle.parset.specs.declared.bodies.checksums.Ifsc.{Ifsc}
use Rattle.parset.specs.declared.bodies.description.Desc.{Desc}
use Rattle.parset.specs.declared.bodies.main_packet.Main.{Main}
use Rattle.parset.specs.declared.recovery_set.SetAside.{SetAside}

-- the first thing that `find` finds in a list
abbrev pub first_found : {X T : Type 0} → (X → Option T) → List X → Option T
first_found find [] = None
first_found find (x ∷ xs) = option_or (find x) (first_found find xs)

-- a thing that was found, if it passes a test
abbrev pub only_if : {T : Type 0} → (T → Bool) → Option T → Option T
only_if passes None = None
only_if passes (Some x) = if passes x then Some x else None

-- the packets that have this recovery set ID
abbrev pub set_packets_of : Hash16 → List Kept → List Kept
set_packets_of set packets = filter (λ k. bytes_eq k.set.0 set.0) packets

-- the set ID and the fields of a packet, if it is a usable Main packet of the chosen set (of any
-- set if none is chosen)
abbrev pub chosen_main_of : Option Hash16 → Kept → Option (Hash16 × Main)
chosen_main_of choice k =
    if is_chosen choice k
    then option_map (λ fields. (k.set, fields)) (usable_main k.kind k.body k.set)
    else None

-- the set ID and the fields of the first usable Main packet of the chosen set (of any
-- set if none is chosen)
abbrev pub first_main_of : Option Hash16 → List Kept → Option (Hash16 × Main)
first_main_of choice packets = first_found (chosen_main_of choice) packets

-- the fields of the first usable FileDesc packet that has this file ID
abbrev pub file_description_of : Hash16 → List Kept → Option Desc
file_description_of id packets =
    first_found
    (λ k. only_if (λ d. bytes_eq d.id.0 id.0) (usable_description k.kind k.body)) packets

-- each of these files is described as the first usable FileDesc packet of its ID describes it
abbrev pub AreDescribed : List Kept → List Desc → Type 0
AreDescribed packets files = All (λ file. file_description_of file.id packets ≡ Some file) files

-- the fields of the first usable IFSC packet that has this file ID and checksums for
-- this number of slices
abbrev pub file_sums_of : Hash16 → ℕ → List Kept → Option Ifsc
file_sums_of id count packets =
    first_found (λ k. only_if (λ c. bytes_eq c.id.0 id.0 && length c.sums == count)
    (usable_checksums k.kind k.body)) packets

-- the packet is a RecvSlic packet that is usable with this slice size, and has this exponent
abbrev pub has_exponent : ℕ → ℕ → Kept → Bool
has_exponent size exponent k =
    is_some (only_if (λ e. e == exponent) (usable_exponent size k.kind k.body))

-- the exponents that are allowed, from 0 on
unfoldable pub all_exponents : List ℕ
all_exponents = range_with_len 0 (exponent_limit + 1)

-- how many distinct exponents the usable RecvSlic packets have
abbrev pub exponent_count_of : ℕ → List Kept → ℕ
exponent_count_of size packets =
    count_by (λ e. list_any (has_exponent size e) packets) all_exponents

-- the text of a packet, if it is a usable Creator packet and the text isn't empty
abbrev pub creator_of : Kept → Option (List ℕ)
creator_of k = only_if (λ text. not (length text == 0)) (usable_creator_text k.kind k.body)

-- the first text of a usable Creator packet that isn't empty
abbrev pub first_creator_of : List Kept → Option (List ℕ)
first_creator_of packets = first_found creator_of packets

-- a packet that is rejected, by its file and its offset, with the reason
abbrev pub aside_of : ℕ → Kept → Option SetAside
aside_of size k =
    option_map (λ why. record { file = k.file; at = k.at; reason = why })
    (reason_of size k.kind k.body k.set)

-- the rejected packets with their reasons, in the order of the packets
abbrev pub asides_of : ℕ → List Kept → List SetAside
asides_of size packets = filter_map (aside_of size) packets
