use Rattle.std.proofs.Common.{◌*◌, ◌-◌, ◌≡◌, true, false, length, slice_index}
use Rattle.parwindow.specs.Index.{set_has_fit}
use Rattle.parwindow.specs.Missing.{missing_set}
use Rattle.parfind.specs.Expecting.{SeesSighted, is_strict}
use Rattle.parfind.specs.Smaller.{part_of}
use Rattle.parfind.specs.Surveying.{survey_at}
use Rattle.parfind.specs.Waiting.{is_waiting}
use Rattle.parfind.proofs.survey_laws.SurveyedSoFarLaws.{SurveySoFar}
use Rattle.parfind.proofs.surveys.walk.survey_files.Given as goal

abbrev pub invariant-places : goal.invariant-places
invariant-places g l = record {
  so_far : SurveySoFar l.fn.short l.sought (part_of l.sought.set l.smaller.index)
      (survey_at (g.H.Shelf.state l.fn.shelf) l.fn.window l.fn.found l.fn.track)
      (survey_at (g.H.Shelf.state l.shelf) l.window l.found l.track) l.missing l.exhausted.crcs;
  seen : SeesSighted (g.H.Shelf.state l.shelf) l.fn.short l.short;
  still : is_strict l.fn.short ≡ true → is_waiting l.expected ≡ false;
  fits : is_waiting l.expected ≡ true
      → set_has_fit (missing_set l.fn.short.set l.fn.found) (slice_index (g.H.Shelf.state l.fn.shelf).lengths l.track.file) ≡ true;
  none : is_strict l.fn.short ≡ true → l.waits ≡ false;
  files : l.waits ≡ true → set_has_fit (missing_set l.fn.short.set l.fn.found) l.fn.short.set.slice_size ≡ true;
}

-- the files that are left, and the bytes of this one: no file has 2 ^ 63 bytes or more
abbrev pub decreases-places : goal.decreases-places
decreases-places g l = (length (g.H.Shelf.state l.shelf).lengths - l.track.file) * 9223372036854775808 - l.track.window_offset
