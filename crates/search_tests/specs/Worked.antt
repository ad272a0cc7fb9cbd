-- Worked searches, to which the words that count are applied.
use Rattle.std.specs.Prelude.{ℕ, List, [], ◌∷◌, codes, replicate, Some}
use Rattle.parset.specs.declared.recovery_set.SetSlice.{SetSlice}
use Rattle.parwindow.specs.Index.{slice_set_of}
use Rattle.parfind.specs.Sightings.{Scan}
use Rattle.parfind.specs.Sought.{sought_of}
use Rattle.parfind.specs.declared.tracks.mode.Mode.{Mode}
use Rattle.parfind.specs.declared.tracks.mode.Mode.TheVariants.{Plain}

-- returns a slice of `own` bytes with this CRC-32; its ID, its number and its MD5 don't matter here
abbrev pub slice_with : ℕ → ℕ → SetSlice
slice_with own crc = record {
  id = record { 0 = replicate 16 0 };
  number = 0;
  length = own;
  sums = Some (record { 0 = replicate 16 0 }, crc);
}

-- returns a search for slices in one file
abbrev pub scan_with : Mode → List SetSlice → List ℕ → Scan
scan_with mode slices file =
    record { sought = sought_of (slice_set_of 4 slices) mode; contents = file ∷ [] }

-- the slices `abcd` and `efgh`, in a file in which each occurs once
abbrev pub two_slices : Scan
two_slices =
    scan_with Plain (slice_with 4 3984772369 ∷ slice_with 4 137591733 ∷ []) (codes "XXabcdefgh")

-- two equal slices of four zeros, in six zeros
abbrev pub equal_slices : Scan
equal_slices =
    scan_with Plain (slice_with 4 558161692 ∷ slice_with 4 558161692 ∷ []) (replicate 6 0)

-- the slices `ab`, `abcd` and `a` of three files, in a file `abcd`
abbrev pub three_lengths : Mode → Scan
three_lengths mode = scan_with mode
    (slice_with 2 3918352436 ∷ slice_with 4 3984772369 ∷ slice_with 1 2732478330 ∷ [])
    (codes "abcd")
