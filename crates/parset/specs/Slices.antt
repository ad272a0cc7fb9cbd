-- The slices of the files of a recovery set.
use Rattle.std.specs.Prelude.{ℕ, List, Option, Some, is_some, ◌≡◌, ◌-◌, ◌*◌, map, sum_by, min}
use Rattle.std.specs.Prelude.{slice_get}
use Rattle.std.specs.BTreeMap.{BTreeMap, get}
use Rattle.std.specs.Int.{div_ceil}
use Rattle.std.specs.List.{range_with_len, All, flat_map}
use Rattle.std.specs.Option.{option_and_then}
use Rattle.parfield.specs.HashOrder.{id_cmp}
use Rattle.parfield.specs.declared.hash16.Hash16.{Hash16}
use Rattle.parsalvage.specs.declared.kept.Kept.{Kept}
use Rattle.parset.specs.Choosing.{file_sums_of}
use Rattle.parset.specs.declared.bodies.checksums.Ifsc.{Ifsc}
use Rattle.parset.specs.declared.bodies.description.Desc.{Desc}
use Rattle.parset.specs.declared.recovery_set.SetFile.{SetFile}
use Rattle.parset.specs.declared.recovery_set.SetSlice.{SetSlice}

-- how many slices of this size a file of n bytes has; the last may be shorter
abbrev pub slice_count : ℕ → ℕ → ℕ
slice_count size n = div_ceil n size

-- how many slices the files have together
abbrev pub slice_total : ℕ → List Desc → ℕ
slice_total size files = sum_by (λ file. slice_count size file.length) files

-- the map has the number of slices of each file at its ID. This is said only of files whose length
-- follows from their ID, since the map has one number for each ID
abbrev pub HasCounts : ℕ → BTreeMap Hash16 ℕ → List Desc → Type 0
HasCounts size counts files =
    (lengths : Hash16 → ℕ) → All (λ file. file.length ≡ lengths file.id) files
    → All (λ file. get id_cmp counts file.id ≡ Some (slice_count size file.length)) files

-- a file with the checksums of its slices, if they are known
pub record FileView : Type 0 where
  pub file : Desc
  pub sums : Option Ifsc

-- a file with these checksums
abbrev pub file_view : Desc → Option Ifsc → FileView
file_view file sums = record { file = file; sums = sums }

-- each file with the checksums that the map has at its ID
abbrev pub file_views : BTreeMap Hash16 Ifsc → List Desc → List FileView
file_views found files = map (λ file. file_view file (get id_cmp found file.id)) files

-- a file with the checksums of the first IFSC packet that has as many as the file has slices
abbrev pub file_view_from : ℕ → List Kept → Desc → FileView
file_view_from size packets file =
    file_view file (file_sums_of file.id (slice_count size file.length) packets)

-- a file as a recovery set shows it
abbrev pub set_file_of : FileView → SetFile
set_file_of v = record {
  id = v.file.id;
  name = v.file.name;
  length = v.file.length;
  whole = v.file.whole;
  known = is_some v.sums;
}

-- slice number j of a file, counted from 0
abbrev pub slice_of : ℕ → FileView → ℕ → SetSlice
slice_of size v j = record {
  id = v.file.id;
  number = j;
  length = min size (v.file.length - j * size);
  sums = option_and_then (λ c. slice_get c.sums j) v.sums;
}

-- the slices of a file, in order
abbrev pub slices_of_file : ℕ → FileView → List SetSlice
slices_of_file size v = map (slice_of size v) (range_with_len 0 (slice_count size v.file.length))

-- the file ID and the number of each slice of a file, in order
abbrev pub numbers_of_file : ℕ → SetFile → List (Hash16 × ℕ)
numbers_of_file size f = map (λ j. (f.id, j)) (range_with_len 0 (slice_count size f.length))

-- the slices have the IDs and the numbers of the slices of these files, in order
unfoldable pub AreNumbered : ℕ → List SetFile → List SetSlice → Type 0
AreNumbered size files slices =
    map (λ s. (s.id, s.number)) slices ≡ flat_map (numbers_of_file size) files
