-- Short slices that are looked for right after the slice before them, and at offsets at which a
-- file may begin.
use Rattle.std.specs.Prelude.{◌≡◌, ℕ, ◌⊎◌, Bool, true, List, [], Option, is_none}
use Rattle.std.specs.Option.{unwrap_or}
use Rattle.parshelf.specs.Shelf.{ShelfState, ReadsAs}
use Rattle.parwindow.specs.Index.{SliceSet, set_has_fit, slice_passes}
use Rattle.parwindow.specs.Missing.{found_at}
use Rattle.parfind.specs.declared.tracks.mode.Mode.TheVariants.{Tails}
use Rattle.parfind.specs.Fitting.{is_fitting_compared}
use Rattle.parfind.specs.Sought.{sought_of}
use Rattle.parfind.specs.Steps.{scan_of}
use Rattle.parfind.specs.Surveys.{is_sighted}

-- the set whose short slices are looked for, and a flag for each slice by its number: whether it
-- was seen. There are no flags if no slice is expected anywhere
pub record ShortState : Type 0 where
  pub set : SliceSet
  pub seen : Option (List Bool)

-- whether no slice is expected anywhere
abbrev pub is_strict : ShortState → Bool
is_strict short = is_none short.seen

-- the flags, or an empty list if there are none
abbrev pub flags_of : Option (List Bool) → List Bool
flags_of seen = unwrap_or seen []

-- a slice that is seen now was seen before, or has the checksums of the bytes of this window that
-- are compared for it with tails, and fits into what is left of the file
pub record SeesMore (window : List ℕ) (left : ℕ) (old new : ShortState) : Type 0 where
  pub set_is : new.set ≡ old.set
  pub strict_is : is_strict new ≡ is_strict old
  pub seen_is : (n : ℕ) → found_at (flags_of new.seen) n ≡ true
      → (found_at (flags_of old.seen) n ≡ true)
      ⊎ (slice_passes old.set.slices (is_fitting_compared Tails window left) n ≡ true)

-- a slice that is seen now was seen before, or has a sighting with tails, in any files that are
-- consistent with the reads so far
pub record SeesSighted (shelf : ShelfState) (old new : ShortState) : Type 0 where
  pub set_is : new.set ≡ old.set
  pub strict_is : is_strict new ≡ is_strict old
  pub seen_is : (files : List (List ℕ)) → ReadsAs shelf files → (n : ℕ)
      → found_at (flags_of new.seen) n ≡ true
      → (found_at (flags_of old.seen) n ≡ true)
      ⊎ (is_sighted (scan_of (sought_of old.set Tails) files) n ≡ true)

-- if a slice of one set fits into what is left of a file, so does a slice of the other set
abbrev pub FitsAlso : SliceSet → SliceSet → Type 0
FitsAlso part all = (left : ℕ) → set_has_fit part left ≡ true → set_has_fit all left ≡ true
