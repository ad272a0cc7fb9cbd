-- A survey within a turn of its loop: its state before the window is filled, after that, and after
-- the slices seen in it were noted and it slid on.
use Rattle.std.proofs.Common.{◌≡◌, ℕ, ◌<◌, Bool, true, List, length, ◌∙◌, Option}
use Rattle.parfind.specs.Expecting.{ShortState, is_strict}
use Rattle.parshelf.specs.Shelf.{ShelfState, Older}
use Rattle.parwindow.specs.Index.{SliceSet, slice_passes}
use Rattle.parwindow.specs.Window.{WindowState}
use Rattle.parfind.specs.Fetched.{ReadsUpTo}
use Rattle.parfind.specs.Fitting.{is_fitting_compared}
use Rattle.parfind.specs.Noting.{FindsMore, TakesDigests}
use Rattle.parfind.specs.Marks.{count_missing}
use Rattle.parfind.specs.Sought.{Sought, sought_of}
use Rattle.parfind.specs.NextPlace.{rest_of}
use Rattle.parfind.specs.Surveying.{SurveyState}
use Rattle.parfind.specs.declared.tracks.track.Track.{Track}
use Rattle.parfind.specs.Tracks.{IsTied, SameTrack, cursor_of_track, fetched_of}
use Rattle.parfind.proofs.survey_laws.PartLaws.{part_sized}
use Rattle.parfind.proofs.survey_laws.SurveyedSoFarLaws.{SurveySoFar, IsNextMissing}

-- a slice isn't settled, if the survey is strict (it expects no slice anywhere), and `left` bytes
-- of the file are left
pub record Missing
    (short : ShortState) (sought : Sought) (part : SliceSet) (old now : SurveyState) (missing : ℕ) (exhausted : List (Option ℕ)) (left : ℕ) : Type 0 where
  pub so_far : SurveySoFar short sought part old now missing exhausted
  pub open_is : is_strict short ≡ true → missing < length now.found
  pub each : length now.found ≡ length old.found
  pub each_slice : length old.found ≡ length sought.set.slices
  pub capacity_is : old.window.capacity ≡ sought.set.slice_size
  pub counted : now.track.file < length now.shelf.lengths
  pub left_is : left ≡ rest_of now.shelf.lengths (cursor_of_track now.track)

pub missing_left : (short : ShortState) (sought : Sought) (part : SliceSet) (old now : SurveyState) (missing : ℕ) (exhausted : List (Option ℕ)) (left : ℕ)
    → SurveySoFar short sought part old now missing exhausted → (is_strict short ≡ true → missing < length now.found) → length now.found ≡ length old.found
    → length old.found ≡ length sought.set.slices → now.track.file < length now.shelf.lengths
    → left ≡ rest_of now.shelf.lengths (cursor_of_track now.track) → Missing short sought part old now missing exhausted left
missing_left short sought part old now missing exhausted left so_far open_ each each_slice counted left_is = record {
  so_far = so_far;
  open_is = open_;
  each = each;
  each_slice = each_slice;
  capacity_is = let made = so_far.made in made.sized ∙ part_sized sought.set now.found part so_far.part_is;
  counted = counted;
  left_is = left_is;
}

-- bytes were read into the window
pub record ReadOn (now filled : SurveyState) : Type 0 where
  pub found_is : filled.found ≡ now.found
  pub older : Older now.shelf filled.shelf
  pub tied : IsTied filled.shelf filled.window filled.track
  pub window_is : filled.window ≡ record now.window { content = filled.window.content }
  pub same : SameTrack now.track filled.track
  pub hands : ReadsUpTo now.shelf filled.shelf (fetched_of now.track) (fetched_of filled.track)

-- the slices that are seen in the full window were noted, and the next slice that isn't settled was
-- looked for
pub record ComparedAt
    (short : ShortState) (sought : Sought) (part : SliceSet) (filled : SurveyState) (left : ℕ) (w : WindowState) (more : List Bool) (missing last : ℕ) : Type 0 where
  pub full : length filled.window.content ≡ filled.window.capacity
  pub some : 0 < left
  pub each : length more ≡ length filled.found
  pub found : FindsMore (slice_passes part.slices (is_fitting_compared sought.mode filled.window.content left)) filled.found more
  pub window_is : w ≡ record filled.window { digests = w.digests }
  pub takes : is_strict short ≡ true → TakesDigests (count_missing (sought_of part sought.mode) filled.found filled.window.content left) filled.window w
  pub next : IsNextMissing sought.set more missing last

-- the window slid on, or a read failed
pub record SlidOn (filled : SurveyState) (w : WindowState) (t : ShelfState) (v : WindowState) (a : Track) : Type 0 where
  pub older : Older filled.shelf t
  pub tied : IsTied t v a
  pub window_is : v ≡ record w { content = v.content }
  pub file_is : a.file ≡ filled.track.file
  pub hands : ReadsUpTo filled.shelf t (fetched_of filled.track) (fetched_of a)
