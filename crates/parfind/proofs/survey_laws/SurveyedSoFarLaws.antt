-- A survey on its way over the files: the invariant of its loop, which holds at the beginning and
-- implies the clauses at the end.
use Rattle.std.proofs.Common.{◌≡◌, ℕ, ◌<◌, ◌≤◌, ◌⊎◌, Bool, true, false, List, [], length, replicate, refl, sym, ap, ◌∙◌, subst, arith, Option, None, Ok, inl, inr, slice_index}
use Rattle.parfind.specs.Expecting.{ShortState, is_strict}
use Rattle.parshelf.specs.Reads.{ReadsOnly}
use Rattle.parshelf.proofs.ReadLaws.{ReadsOnly-refl}
use Rattle.parset.specs.Limits.{slice_size_limit}
use Rattle.parfind.specs.Smaller.{IsPart, part_of}
use Rattle.parfind.specs.Sought.{Sought, IsWindowFor, sought_of}
use Rattle.parwindow.specs.Window.{WindowState}
use Rattle.parfind.specs.declared.tracks.mode.Mode.{Mode}
use Rattle.parfind.specs.declared.tracks.mode.Mode.TheVariants.{Plain, Tails}
use Rattle.parfind.specs.Noting.{AreExhausted}
use Rattle.parfind.specs.NextPlace.{rest_of}
use Rattle.parfind.specs.Surveying.{SurveyState, Surveyed, SurveyEnds}
use Rattle.parfind.specs.Surveys.{AreAllSettled, is_settled}
use Rattle.parwindow.specs.Index.{SliceSet}
use Rattle.parfind.specs.Tracks.{IsTied, IsUnread, cursor_of_track}
use Rattle.parfind.proofs.search_laws.MoveWindowLaws.{unread_tied}
use Rattle.parfind.proofs.survey_laws.ExhaustedLaws.{exhausted_none}
use Rattle.parfind.proofs.survey_laws.PartLaws.{part_sized}
use Rattle.parfind.proofs.survey_laws.SurveyedLaws.{surveyed_none, not_all}

-- what is true of a survey before each turn of its loop: it searches with `part` of the set, looks
-- for slices from number `missing` on, and for no slice with one of the exhausted CRC-32s
pub record SurveySoFar (short : ShortState) (sought : Sought) (part : SliceSet) (old now : SurveyState) (missing : ℕ) (exhausted : List (Option ℕ)) : Type 0 where
  pub part_is : IsPart sought.set now.found part
  pub made : IsWindowFor (sought_of part sought.mode) old.window
  pub reads : ReadsOnly old.shelf now.shelf
  pub tied : IsTied now.shelf now.window now.track
  pub inside : now.track.file < length now.shelf.lengths → now.track.window_offset ≤ slice_index now.shelf.lengths now.track.file
  pub within : missing ≤ length now.found
  pub first : missing < length now.found → is_settled sought.set now.found missing ≡ false
  pub settled : (n : ℕ) → n < missing → is_settled sought.set now.found n ≡ true
  pub exhausted_is : AreExhausted (sought_of part sought.mode) now.found (rest_of now.shelf.lengths (cursor_of_track now.track)) exhausted
  pub none : is_strict short ≡ true → AreAllSettled sought.set old.found → now.shelf ≡ old.shelf
  pub window_is : now.window ≡ record old.window { content = now.window.content; digests = now.window.digests }
  pub surveyed : Surveyed short sought old now (cursor_of_track now.track)

-- `missing` is the next slice that isn't settled, or the number of all slices
pub record IsNextMissing (set : SliceSet) (marks : List Bool) (from missing : ℕ) : Type 0 where
  pub within : missing ≤ length marks
  pub first : missing < length marks → is_settled set marks missing ≡ false
  pub settled : (n : ℕ) → from ≤ n → n < missing → is_settled set marks n ≡ true

pub begins : (short : ShortState) (sought : Sought) (part : SliceSet) (old : SurveyState) (missing : ℕ) → IsPart sought.set old.found part
    → IsWindowFor (sought_of part sought.mode) old.window → old.window.capacity ≤ slice_size_limit → old.window.content ≡ [] → IsUnread 0 0 old.track
    → IsNextMissing sought.set old.found 0 missing → SurveySoFar short sought part old old missing (replicate 257 None)
begins short sought part old missing is made few empty unread next = record {
  part_is = is;
  made = made;
  reads = ReadsOnly-refl old.shelf;
  tied = unread_tied old.shelf old.window old.window 0 0 old.track (omega arith) few unread
      (ap (λ (xs : List ℕ). record old.window { content = xs }) empty);
  inside = λ _. omega (arith, unread.offset_is);
  within = next.within;
  first = next.first;
  settled = λ n less. next.settled n (omega arith) less;
  exhausted_is = exhausted_none (sought_of part sought.mode) old.found (rest_of old.shelf.lengths (cursor_of_track old.track)) 257;
  none = λ _ _. refl;
  window_is = refl;
  surveyed = surveyed_none short sought old unread;
}

-- a window that is made for one part is made for another, unless shorter lengths are compared
made_part : (set : SliceSet) (found : List Bool) (mode : Mode) (part smaller : SliceSet) (w : WindowState) → IsPart set found part → IsPart set found smaller
    → (mode ≡ Tails → smaller ≡ part) → IsWindowFor (sought_of part mode) w → IsWindowFor (sought_of smaller mode) w
made_part set found Plain part smaller w was is same made = record {
  sized = made.sized ∙ part_sized set found part was ∙ sym (part_sized set found smaller is);
  tails_are = λ e. cc;
  few = omega arith;
}
made_part set found Tails part smaller w was is same made = subst (λ (s : SliceSet). IsWindowFor (sought_of s Tails) w) (sym (same refl)) made

-- the survey goes on with another part, if one was made
pub shrunk : (short : ShortState) (sought : Sought) (before after : Option SliceSet) (old now : SurveyState) (missing : ℕ) (exhausted crcs : List (Option ℕ))
    → SurveySoFar short sought (part_of sought.set before) old now missing exhausted → IsPart sought.set now.found (part_of sought.set after)
    → (sought.mode ≡ Tails → after ≡ before) → (crcs ≡ replicate 257 None) ⊎ ((crcs ≡ exhausted) × (after ≡ before))
    → SurveySoFar short sought (part_of sought.set after) old now missing crcs
shrunk short sought before after old now missing exhausted crcs so_far is same which = record {
  part_is = is;
  made = made_part sought.set now.found sought.mode (part_of sought.set before) (part_of sought.set after) old.window so_far.part_is is
      (λ tails. ap (part_of sought.set) (same tails)) so_far.made;
  reads = so_far.reads;
  tied = so_far.tied;
  inside = so_far.inside;
  within = so_far.within;
  first = so_far.first;
  settled = so_far.settled;
  exhausted_is =
      let left : ℕ = rest_of now.shelf.lengths (cursor_of_track now.track) in
      elim which [
        | inl none ↦ rw none (exhausted_none (sought_of (part_of sought.set after) sought.mode) now.found left 257)
        | inr kept ↦ rw (kept.0, kept.1) so_far.exhausted_is
      ];
  none = so_far.none;
  window_is = so_far.window_is;
  surveyed = so_far.surveyed;
}

-- the survey ends if each slice is settled or all files are passed
pub ends_all : (short : ShortState) (sought : Sought) (part : SliceSet) (old now : SurveyState) (missing : ℕ) (exhausted : List (Option ℕ))
    → SurveySoFar short sought part old now missing exhausted
    → (length now.found ≤ missing) ⊎ (length old.shelf.lengths ≤ now.track.file) → SurveyEnds short sought old now (Ok tt)
ends_all short sought part old now missing exhausted so_far all = record {
  cursor = cursor_of_track now.track;
  surveyed = so_far.surveyed;
  first = refl;
  file_is = refl;
  none = so_far.none;
  all = elim all [
    | inl over ↦ inl (λ n less. so_far.settled n (omega arith))
    | inr past ↦ inr past
  ];
}

-- if a slice isn't settled now, not every slice was settled at the beginning
pub never_all : (short : ShortState) (sought : Sought) (part : SliceSet) (old now : SurveyState) (missing : ℕ) (exhausted : List (Option ℕ))
    → SurveySoFar short sought part old now missing exhausted
    → missing < length now.found → length now.found ≡ length old.found → AreAllSettled sought.set old.found → ⊥
never_all short sought part old now missing exhausted so_far some each all =
    not_all short sought old now (cursor_of_track now.track) so_far.surveyed missing (omega (arith, some, each)) (so_far.first some) all
