-- A survey looks into a full window with the index that it borrows: the slices that it finds there,
-- and whether a slice that was missing at the beginning fits.
use Rattle.std.proofs.Common.{◌≡◌, ℕ, ◌-◌, ◌^◌, ◌<◌, ◌≤◌, Bool, true, false, nat_le, List, length, sym, ap, ◌∙◌, subst, arith, Option, slice_index}
use Rattle.std.proofs.lemmas.Bool.{false_from_ne_true, le-leb, leb-true}
use Rattle.parfind.specs.Expecting.{ShortState, is_strict}
use Rattle.parwindow.specs.Index.{SliceSet, set_has_fit, slice_passes}
use Rattle.parwindow.specs.Missing.{missing_set}
use Rattle.parwindow.specs.Window.{WindowState}
use Rattle.parfind.specs.Fitting.{is_fitting_compared}
use Rattle.parfind.specs.Marks.{count_missing}
use Rattle.parfind.specs.Noting.{FindsMore, TakesDigests}
use Rattle.parfind.specs.Smaller.{part_of}
use Rattle.parfind.specs.Sought.{Sought, IsWindowFor, sought_of}
use Rattle.parfind.specs.Surveying.{SurveyState}
use Rattle.parfind.proofs.survey_laws.SurveyStates.{ComparedAt, Missing}
use Rattle.parfind.proofs.survey_laws.SurveyGoesOnLaws.{made_same}
use Rattle.parfind.proofs.survey_laws.SurveyedSoFarLaws.{IsNextMissing}

-- whether a slice that was missing at the beginning fits into what is left of a file, given the
-- least length of these slices
module _ (short : ShortState) (sought : Sought) (part : SliceSet) (old now : SurveyState) (missing : ℕ) (exhausted : List (Option ℕ)) (left least : ℕ)
    (at : Missing short sought part old now missing exhausted left)
    (is : (left : ℕ) → left < 2 ^ 64 - 1 → set_has_fit (missing_set sought.set old.found) left ≡ nat_le least left)
    (below : slice_index now.shelf.lengths now.track.file < 2 ^ 63) where
  small : left < 2 ^ 64 - 1
  small = omega (arith, at.left_is)

  pub fits_left : least ≤ left → set_has_fit (missing_set sought.set old.found) left ≡ true
  fits_left most = is left small ∙ le-leb least left most

  pub unfit_left : left < least → set_has_fit (missing_set sought.set old.found) left ≡ false
  unfit_left less = false_from_ne_true (set_has_fit (missing_set sought.set old.found) left) (λ h.
      let most : least ≤ left = leb-true least left (sym (is left small) ∙ h) in absurd (omega arith))

-- the index that is borrowed has a part of the whole set
module _ (sought inner : Sought) (given : SliceSet) (smaller : Option SliceSet) (view : inner ≡ sought) (lent : given ≡ part_of inner.set smaller) where
  pub part_lent : given ≡ part_of sought.set smaller
  part_lent = lent ∙ ap (λ (s : Sought). part_of s.set smaller) view

  pub part_sought : sought_of given inner.mode ≡ sought_of (part_of sought.set smaller) sought.mode
  part_sought = ap (λ (s : SliceSet). sought_of s inner.mode) part_lent ∙ ap (λ (s : Sought). sought_of (part_of sought.set smaller) s.mode) view

  -- with it, the slices are found that are seen in the window
  pub compared_at : (short : ShortState) (filled : SurveyState) (left : ℕ) (w : WindowState) (more : List Bool) (missing last : ℕ)
      → length filled.window.content ≡ filled.window.capacity → 0 < left → length more ≡ length filled.found
      → FindsMore (slice_passes given.slices (is_fitting_compared inner.mode filled.window.content left)) filled.found more
      → w ≡ record filled.window { digests = w.digests }
      → (is_strict short ≡ true → TakesDigests (count_missing (sought_of given inner.mode) filled.found filled.window.content left) filled.window w)
      → IsNextMissing sought.set more missing last → ComparedAt short sought (part_of sought.set smaller) filled left w more missing last
  compared_at short filled left w more missing last full some each found window takes next = record {
    full = full;
    some = some;
    each = each;
    found = subst (λ (s : Sought). FindsMore (slice_passes s.set.slices (is_fitting_compared s.mode filled.window.content left)) filled.found more)
        part_sought found;
    window_is = window;
    takes = λ is. subst (λ (s : Sought). TakesDigests (count_missing s filled.found filled.window.content left) filled.window w) part_sought (takes is);
    next = next;
  }

-- a window that is made for a part stays so while it is filled and digests are taken of it
module _ (sought : Sought) (u v w : WindowState) (before : v ≡ record u { content = v.content; digests = v.digests })
    (fill : w ≡ record v { content = w.content }) (made : IsWindowFor sought u) where
  capacity : w.capacity ≡ u.capacity
  capacity = ap (λ (x : WindowState). x.capacity) fill ∙ ap (λ (x : WindowState). x.capacity) before

  tails : w.tails ≡ u.tails
  tails = ap (λ (x : WindowState). x.tails) fill ∙ ap (λ (x : WindowState). x.tails) before

  pub made_filled : IsWindowFor sought w
  made_filled = made_same sought u w capacity tails made

  pub made_noted : (x : WindowState) → x ≡ record w { digests = x.digests } → IsWindowFor sought x
  made_noted x is =
      made_same sought u x (ap (λ (y : WindowState). y.capacity) is ∙ capacity) (ap (λ (y : WindowState). y.tails) is ∙ tails) made
