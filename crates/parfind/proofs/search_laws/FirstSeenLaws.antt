-- The slices that a finder sees at a place at which its full window is.
use Rattle.std.proofs.Common.{◌≡◌, ◌≢◌, ℕ, zero, suc, ◌+◌, ◌<◌, ◌≤◌, List, length, slice_index, refl, ap, ◌∙◌, arith, Option, Some, None}
use Rattle.std.specs.Option.{unwrap_or}
use Rattle.parshelf.specs.Shelf.{ShelfState, ReadsAs, file_of}
use Rattle.parshelf.proofs.ShelfLaws.{length-file_of}
use Rattle.parwindow.specs.Index.{SliceSet, slice_passes}
use Rattle.parwindow.specs.Least.{IsLeastFrom}
use Rattle.parwindow.specs.Window.{window_at}
use Rattle.parfind.specs.Fitting.{is_fitting_compared}
use Rattle.parfind.specs.Tracks.{HaveNoComparedCrc}
use Rattle.parfind.proofs.track_laws.NextBytesLaws.{whole_window}
use Rattle.parfind.specs.Finders.{FinderState, BelongsTo, StandsAt, sought_for}
use Rattle.parfind.specs.Moves.{IsWithin}
use Rattle.parfind.specs.Sightings.{is_slice_seen}
use Rattle.parfind.proofs.place_laws.SeenLaws.{first_seen}

module _ (f : FinderState) (set : SliceSet) (s : ShelfState) (belongs : BelongsTo f set s) (files : List (List ℕ)) (reads : ReadsAs s files) where
  -- a full window is the window at its track's place
  pub window_at_track : length f.window.content ≡ f.window.capacity
      → f.window.content ≡ window_at set.slice_size (file_of files f.track.file) f.track.window_offset
  window_at_track full =
      whole_window (file_of files f.track.file) set.slice_size f.track.window_offset f.window.content (full ∙ belongs.made.sized) (belongs.tied.content files reads)

  module _ (stands : StandsAt f.track f.cursor) where
    -- it is the window at the cursor's place, too
    pub window_there : length f.window.content ≡ f.window.capacity
        → f.window.content ≡ window_at set.slice_size (file_of files f.cursor.file) f.cursor.offset
    window_there full =
        window_at_track full ∙ ap (λ (n : ℕ). window_at set.slice_size (file_of files n) f.track.window_offset) stands.file_is
        ∙ ap (window_at set.slice_size (file_of files f.cursor.file)) stands.offset_is

    -- the first slice that has the window's checksums and fits is the first that is seen at the
    -- place
    pub look_seen : length f.window.content ≡ f.window.capacity → (left : ℕ) → f.cursor.offset < slice_index s.lengths f.cursor.file
        → f.cursor.offset + left ≡ slice_index s.lengths f.cursor.file → (found : Option ℕ)
        → IsLeastFrom (slice_passes set.slices (is_fitting_compared f.mode f.window.content left)) f.cursor.slice found
        → IsLeastFrom (is_slice_seen (sought_for set f) (file_of files f.cursor.file) f.cursor.offset) f.cursor.slice found
    look_seen full left inside all found least =
        let file : List ℕ = file_of files f.cursor.file in
        let whole : length file ≡ slice_index s.lengths f.cursor.file = length-file_of s files f.cursor.file reads in
        first_seen (sought_for set f) file f.cursor.offset left f.window.content (omega (arith, whole)) (omega (arith, whole))
        (window_there full) f.cursor.slice found least

    -- the windows that are passed are those after the cursor's place
    pub none_there : (n : ℕ) → HaveNoComparedCrc (sought_for set f) (file_of files f.track.file) f.track.window_offset n
        → HaveNoComparedCrc (sought_for set f) (file_of files f.cursor.file) f.cursor.offset n
    none_there n none = rw (← stands.file_is, ← stands.offset_is) none

-- a number is within the budget that is left if it isn't greater than that, or than any limit if
-- there is no budget
pub within_left : (left : Option ℕ) (n most : ℕ) → n ≤ unwrap_or left most → IsWithin n left
within_left None n most less = tt
within_left (Some m) n most less = less

pub one_within : (left : Option ℕ) → left ≢ Some 0 → IsWithin 1 left
one_within None some = tt
one_within (Some zero) some = absurd (some refl)
one_within (Some (suc n)) some = omega arith
