-- A survey with tails has two rounds: the first one looks for full-length slices, and for short
-- ones at the offsets at which they are expected; the second one looks for the short slices that
-- are left.
use Rattle.std.specs.Prelude.{◌≡◌, ◌==◌, ℕ, ◌||◌, filter, not, nat_lt, Bool, true, false, List, length, Result, Ok, Err}
use Rattle.std.specs.List.{list_any}
use Rattle.parset.specs.declared.recovery_set.SetSlice.{SetSlice}
use Rattle.parwindow.specs.Index.{SliceSet, slice_passes, tails_of}
use Rattle.parwindow.specs.WaitingTails.{WaitingState}
use Rattle.parwindow.specs.Missing.{found_at, missing_set}
use Rattle.parfind.specs.Sightings.{Scan}
use Rattle.parfind.specs.Surveys.{FindsNoOther, is_sighted}

-- whether slice n has fewer bytes of its file than the slice size, or whether it has that number
abbrev pub is_short : SliceSet → ℕ → Bool
is_short set n = slice_passes set.slices (λ (s : SetSlice). nat_lt s.length set.slice_size) n

abbrev pub is_full : SliceSet → ℕ → Bool
is_full set n = slice_passes set.slices (λ (s : SetSlice). not (nat_lt s.length set.slice_size)) n

-- the slices that are left out: the short ones if the flag is true, else the full-length ones
abbrev pub leaves_out : SliceSet → Bool → ℕ → Bool
leaves_out set true n = is_short set n
leaves_out set false n = is_full set n

-- `part` is the set without the checksums of the slices that are found or pass a test
pub record IsWithout (set : SliceSet) (found : List Bool) (test : ℕ → Bool) (part : SliceSet) : Type 0 where
  pub lost : List Bool
  pub each : length lost ≡ length set.slices
  pub lost_is : (n : ℕ) → found_at lost n ≡ (found_at found n || test n)
  pub part_is : part ≡ missing_set set lost

-- each full-length slice that has a sighting is found; any other slice that is found was found
-- before or has a sighting, too
pub record FindsFull (scan : Scan) (was now : List Bool) : Type 0 where
  pub no_other : FindsNoOther scan was now
  pub full : (n : ℕ) → is_full scan.sought.set n ≡ true → is_sighted scan n ≡ true → found_at now n ≡ true

-- what a first round finds: without an error, the slices above; after an error, no slice that has
-- no sighting and wasn't found before
abbrev pub FirstFinds : {A E : Type 0} → Scan → List Bool → List Bool → Result A E → Type 0
FirstFinds scan was now (Ok answer) = FindsFull scan was now
FirstFinds scan was now (Err fault) = FindsNoOther scan was now

-- each short slice that has a sighting is found; any other slice that is found was found before or
-- has a sighting, too
pub record FindsShort (scan : Scan) (was now : List Bool) : Type 0 where
  pub no_other : FindsNoOther scan was now
  pub short : (n : ℕ) → is_full scan.sought.set n ≡ false → is_sighted scan n ≡ true → found_at now n ≡ true

-- what a second round finds: without an error, the slices above; after an error, no slice that has
-- no sighting and wasn't found before
abbrev pub SecondFinds : {A E : Type 0} → Scan → List Bool → List Bool → Result A E → Type 0
SecondFinds scan was now (Ok answer) = FindsShort scan was now
SecondFinds scan was now (Err fault) = FindsNoOther scan was now

-- the tails (lengths of short slices) are for windows of the slice size, and those of them that
-- slices of the set have are all short-slice lengths of the set
pub record WaitsFor (set : SliceSet) (tails : WaitingState) : Type 0 where
  pub sized : tails.size ≡ set.slice_size
  pub lengths_are : filter (λ own. list_any (λ tail. tail == own) (tails_of set)) tails.lengths
      ≡ tails_of set
