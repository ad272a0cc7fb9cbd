-- How much a call of a search reads and hashes, whatever it returns.
use Rattle.std.proofs.Common.{◌≡◌, ℕ, ◌+◌, ◌≤◌, List, sym, ap, ◌∙◌, arith, Result}
use Rattle.parshelf.specs.Shelf.{ShelfState, ReadsAs}
use Rattle.parshelf.specs.declared.shelves.reading.ReadFault.{ReadFault}
use Rattle.parwindow.specs.Index.{SliceSet}
use Rattle.parfind.specs.Fetched.{Place}
use Rattle.parfind.specs.Finders.{FinderState, BelongsTo, GoesAlong, search_of, sought_for}
use Rattle.parfind.specs.Marks.{marks}
use Rattle.parfind.specs.OnePass.{CallReads, IsNear}
use Rattle.parfind.specs.Places.{cursor_past, place_at}
use Rattle.parfind.specs.Steps.{scan_of}
use Rattle.parfind.specs.Tracks.{cursor_of_track}
use Rattle.parfind.proofs.search_laws.BelongsLaws.{few_until}
use Rattle.parfind.proofs.track_laws.LaterShelfLaws.{later_read}
use Rattle.parfind.proofs.place_laws.CursorOrderLaws.{From}

-- files are read only a little further than the cursor: a window and 4,096 bytes
near_cursor : (f : FinderState) (set : SliceSet) (s : ShelfState) → BelongsTo f set s → IsNear set.slice_size f.fetched f.cursor
near_cursor f set s belongs =
    let file : f.fetched.file ≡ f.track.file = ap (λ (p : Place). p.file) belongs.fetched_is in
    let offset : f.fetched.offset ≡ f.track.buffer_offset + f.track.buffer_len = ap (λ (p : Place). p.offset) belongs.fetched_is in
    let t = belongs.tied in
    record {
      file_is = omega (arith, file, belongs.not_ahead);
      offset_is = λ same. omega (arith, offset, belongs.not_past (sym file ∙ same), t.not_ahead, t.within, t.buffer_fits, belongs.made.sized);
    }

-- the clause `reads` of a call, whatever it returns
pub reads_near : {A : Type 0} (set : SliceSet) (s t : ShelfState) (f g : FinderState) (answer : Result A ReadFault)
    → GoesAlong s t f g answer → BelongsTo g set t → CallReads set.slice_size (search_of s f) (search_of t g)
reads_near set s t f g answer along belongs = record {
  lengths_are = let later = later_read s t g.cursor.file answer along.shelf in later.lengths;
  reads = along.reads;
  near = near_cursor g set t belongs;
}

-- the clause `digests` of a call: no more digests were taken than there are marks up to the cursor
pub few_digests : (f : FinderState) (set : SliceSet) (s : ShelfState) → BelongsTo f set s → (files : List (List ℕ)) → ReadsAs s files
    → f.digests ≤ marks (scan_of (sought_for set f) files) f.opening f.cursor
few_digests f set s belongs files reads =
    let past : From (cursor_past (place_at (cursor_of_track f.track))) (cursor_past (place_at f.cursor)) = record {
      by_file = belongs.not_ahead;
      by_offset = λ same. omega (arith, belongs.not_past same);
      by_slice = λ _ _. omega arith;
    } in
    let next : From (cursor_of_track f.track) (cursor_past (place_at f.cursor)) = record {
      by_file = belongs.not_ahead;
      by_offset = λ same. omega (arith, belongs.not_past same);
      by_slice = λ _ _. omega arith;
    } in
    omega (arith, belongs.digests_are, few_until f set s belongs files reads (cursor_past (place_at f.cursor)) next (λ _. past))
