-- How far a survey has read: little further than its place, and nothing of files into which no
-- slice fits.
use Rattle.std.proofs.Common.{◌≡◌, ℕ, ◌≤◌, true, false, List, sym, ap, ◌∙◌, arith, inl, inr, slice_index}
use Rattle.std.proofs.lemmas.Bool.{cases_eq, cases_lt}
use Rattle.parshelf.specs.Shelf.{ShelfState}
use Rattle.parwindow.specs.Index.{SliceSet, set_has_fit}
use Rattle.parwindow.specs.Window.{WindowState}
use Rattle.parfind.specs.declared.cursors.cursor.Cursor.{Cursor}
use Rattle.parfind.specs.declared.tracks.track.Track.{Track}
use Rattle.parfind.specs.Fetched.{Place, HandsUpTo}
use Rattle.parfind.specs.Tracks.{IsTied, fetched_of}
use Rattle.parfind.proofs.track_laws.FetchedLaws.{upto-before, upto-after}
use Rattle.parfind.specs.OnePass.{IsNear}
use Rattle.parfind.proofs.place_laws.UnfitPlaceLaws.{fits_more}

-- a window reads its file at most up to a window and 4,096 bytes after its place, so after any
-- later cursor
pub tied_near : (u : ShelfState) (w : WindowState) (t : Track) (size : ℕ) (c : Cursor) → IsTied u w t → w.capacity ≡ size
    → t.file ≡ c.file → t.window_offset ≤ c.offset → IsNear size (fetched_of t) c
tied_near u w t size c tied sized file held = record {
  file_is = omega arith;
  offset_is = λ _. omega (arith, tied.not_ahead, tied.within, tied.buffer_fits);
}

-- while a file into which a slice fits is read, nothing is read of files into which none fits
pub others_unread : (set : SliceSet) (lengths a b : List ℕ) (p q : Place) (left : ℕ) → p.file ≡ q.file → HandsUpTo lengths a b p q
    → set_has_fit set left ≡ true → left ≤ slice_index lengths p.file
    → (f : ℕ) → set_has_fit set (slice_index lengths f) ≡ false → slice_index b f ≤ slice_index a f
others_unread set lengths a b p q left same hands fits room f none = elim (cases_eq f p.file) [
  | inl here ↦
      let file : set_has_fit set (slice_index lengths f) ≡ true = fits_more set left (slice_index lengths f) (omega (arith, ap (λ (k : ℕ). slice_index lengths k) here)) fits in
      let both : true ≡ false = sym file ∙ none in cc
  | inr other ↦ elim (cases_lt f p.file) [
    | inl before ↦ omega (arith, hands.handed f, upto-before lengths p f before, upto-before lengths q f (omega arith))
    | inr past ↦ omega (arith, hands.handed f, upto-after lengths p f (omega arith), upto-after lengths q f (omega arith))
  ]
]

pub near_further : (size : ℕ) (q : Place) (c d : Cursor) → c.file ≤ d.file → (c.file ≡ d.file → c.offset ≤ d.offset) → IsNear size q c → IsNear size q d
near_further size q c d file offset near = record {
  file_is = omega (arith, near.file_is);
  offset_is = λ same.
      let files : c.file ≡ d.file = omega (arith, near.file_is) in
      omega (arith, offset files, near.offset_is (omega arith));
}
