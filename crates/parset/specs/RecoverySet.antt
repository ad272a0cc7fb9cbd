-- The recovery set that kept packets describe (PAR2 2.0: Main, File Description and Input File
-- Slice Checksum packet).
use Rattle.std.specs.Prelude.{option_map, ℕ, List, [], ◌∷◌, length, Option}
use Rattle.std.specs.Prelude.{if◌then◌else◌, ◌≡◌, ◌+◌, ◌≤◌, map, Result, Ok, Err, ⊤, nat_lt}
use Rattle.std.specs.List.{IsDistinct, flat_map}
use Rattle.std.specs.List.Sorted.{IsStrictlySortedBy}
use Rattle.std.specs.Option.{ok_or}
use Rattle.std.specs.Ordering.{is_lt}
use Rattle.std.specs.Str.{bytes_eq}
use Rattle.parfield.specs.Chain.{◌>>=◌}
use Rattle.parfield.specs.HashOrder.{id_cmp}
use Rattle.parfield.specs.declared.hash16.Hash16.{Hash16}
use Rattle.parsalvage.specs.declared.kept.Kept.{Kept}
use Rattle.parset.specs.Choosing.{set_packets_of, first_main_of, file_description_of, AreDescribed}
use Rattle.parset.specs.Choosing.{exponent_count_of, first_creator_of, asides_of}
use Rattle.parset.specs.BodyAnswers.{answer_of}
use Rattle.parset.specs.Limits.{file_limit, slice_limit}
use Rattle.parset.specs.SharedNames.{repeated_name}
use Rattle.parset.specs.Slices.{slice_total, FileView, file_view_from, set_file_of, slices_of_file}
use Rattle.parset.specs.declared.bodies.description.Desc.{Desc}
use Rattle.parset.specs.declared.bodies.main_packet.Main.{Main}
use Rattle.parset.specs.declared.recovery_set.SetAside.{SetAside}
use Rattle.parset.specs.declared.recovery_set.SetFault.{SetFault}
use Rattle.parset.specs.declared.recovery_set.SetFault.TheVariants.{NoMain, NoDesc, NameTwice}
use Rattle.parset.specs.declared.recovery_set.SetFault.TheVariants.{TooManySlices, Memory}
use Rattle.parset.specs.declared.recovery_set.SetFile.{SetFile}
use Rattle.parset.specs.declared.recovery_set.SetSlice.{SetSlice}

-- sorted IDs with one more ID, put in its place
unfoldable pub insertion_of : Hash16 → List Hash16 → List Hash16
insertion_of id [] = id ∷ []
insertion_of id (x ∷ xs) = if is_lt (id_cmp x id) then x ∷ insertion_of id xs else id ∷ x ∷ xs

-- the IDs, sorted
unfoldable pub ids_in_order : List Hash16 → List Hash16
ids_in_order [] = []
ids_in_order (id ∷ ids) = insertion_of id (ids_in_order ids)

-- the descriptions of the files that have these IDs, in order, or the first ID
-- that has no description
unfoldable pub descriptions_of : List Kept → List Hash16 → Result (List Desc) SetFault
descriptions_of packets [] = Ok []
descriptions_of packets (id ∷ ids) = do
  found ← ok_or (file_description_of id packets) (NoDesc id)
  others ← descriptions_of packets ids
  Ok (found ∷ others)

-- a recovery set as contracts see it
pub record SetView : Type 0 where
  pub id : Hash16
  pub size : ℕ
  pub files : List SetFile
  pub slices : List SetSlice
  pub others : ℕ
  pub have : ℕ
  pub creator : Option (List ℕ)
  pub aside : List SetAside

-- the files, if no two have the same name; else the first ID whose name an earlier file has
abbrev pub names_checked : List Desc → Result (List Desc) SetFault
names_checked files =
    answer_of (option_map (λ file. NameTwice file.id) (repeated_name files)) files

-- the files, if they have no more slices than a recovery set may have
abbrev pub slices_checked : ℕ → List Desc → Result (List Desc) SetFault
slices_checked size files =
    if nat_lt slice_limit (slice_total size files) then Err TooManySlices else Ok files

-- these are the files of the set of this Main packet, as the packets of the set describe them
pub record AreSetFiles (main : Main) (packets : List Kept) (files : List Desc) : Type 0 where
  pub few : length files + length main.others ≤ file_limit
  pub few_slices : slice_total main.size files ≤ slice_limit
  pub described : AreDescribed packets files
  pub names : IsDistinct bytes_eq (map (λ file. file.name) files)
  pub rising : IsStrictlySortedBy id_cmp (map (λ file. file.id) files)

-- the recovery set that has this ID, this Main packet and these files; the other parts come from
-- the packets of the set
abbrev pub set_of_files : Hash16 → Main → List Kept → List FileView → SetView
set_of_files id main packets files = record {
  id = id;
  size = main.size;
  files = map set_file_of files;
  slices = flat_map (slices_of_file main.size) files;
  others = length main.others;
  have = exponent_count_of main.size packets;
  creator = first_creator_of packets;
  aside = asides_of main.size packets;
}

-- the recovery set of this Main packet, according to the packets of the set, or the first
-- reason why there is none
unfoldable pub set_of_main : Hash16 → Main → List Kept → Result SetView SetFault
set_of_main id main packets = do
  described ← descriptions_of packets (ids_in_order main.recovery)
  named ← names_checked described
  files ← slices_checked main.size named
  Ok (set_of_files id main packets (map (file_view_from main.size packets) files))

-- the recovery set of these packets (of the chosen ID, if one is chosen), or the first
-- reason why there is none
unfoldable pub set_of : List Kept → Option Hash16 → Result SetView SetFault
set_of packets choice = do
  main ← ok_or (first_main_of choice packets) NoMain
  set_of_main main.0 main.1 (set_packets_of main.0 packets)

-- the result is what was made: this set or this reason; or it is that memory was refused
abbrev pub AnswersSet : {T : Type 0} → Result T SetFault → Result T SetFault → Type 0
AnswersSet made (Err Memory) = ⊤
AnswersSet made answer = made ≡ answer
