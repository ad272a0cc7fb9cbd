-- A finder that was just opened belongs to its set and shelf.
use Rattle.std.proofs.Common.{◌≡◌, ◌<◌, ◌≤◌, ◌^◌, List, length, replicate, refl, ap, ◌∙◌, arith, Option, None, rules, ℕ, sym, subst}
use Rattle.parfield.specs.declared.hash16.Hash16.{Hash16}
use Rattle.parset.specs.Limits.{slice_size_limit}
use Rattle.parshelf.specs.Shelf.{ShelfState, file_of}
use Rattle.parwindow.specs.Index.{SliceSet}
use Rattle.parwindow.specs.Window.{WindowState, empty_window}
use Rattle.parfind.specs.declared.cursors.cursor.Cursor.{Cursor}
use Rattle.parfind.specs.declared.tracks.mode.Mode.{Mode}
use Rattle.parfind.specs.declared.tracks.track.Track.{Track}
use Rattle.parfind.specs.Finders.{BelongsTo}
use Rattle.parfind.specs.KeptDigests.{kept_count}
use Rattle.parfind.specs.Places.{place_start}
use Rattle.parfind.specs.Sought.{HasFewTails, compared_lengths, sought_of, shorter_lengths}
use Rattle.parfind.specs.Tracks.{IsUnread, cursor_of_track, fetched_of}
use Rattle.parfind.proofs.track_laws.KeptDigestLaws.{count_none, keeps_none}
use Rattle.parfind.proofs.place_laws.CursorOrderLaws.{is_from-true}
use Rattle.parfind.proofs.track_laws.NextBytesLaws.{no_bytes}
use Rattle.parfind.proofs.searches.finder.Finder.open.Goals as goal

-- it belongs, since its window is empty, nothing is read and no digest is kept
pub opens_belongs : (set : SliceSet) (s : ShelfState) (at : Cursor) (mode : Mode) (t : Track) (kept : List (Option Hash16))
    → at.offset < 2 ^ 64 → set.slice_size ≤ slice_size_limit → HasFewTails (sought_of set mode) → IsUnread at.file at.offset t
    → kept ≡ replicate (length (compared_lengths (sought_of set mode))) None
    → let w : WindowState = empty_window set.slice_size (shorter_lengths mode set) in
    BelongsTo (record {
      cursor = at;
      opening = at;
      fetched = fetched_of t;
      digests = w.digests;
      mode = mode;
      window = w;
      track = t;
      kept = kept;
    }) set s
opens_belongs set s at mode t kept small few tails unread none =
    let w : WindowState = empty_window set.slice_size (shorter_lengths mode set) in
    let zero : kept_count kept ≡ 0 = ap kept_count none ∙ count_none (length (compared_lengths (sought_of set mode))) in
    record {
      made = record { sized = refl; tails_are = λ is. ap (λ (m : Mode). shorter_lengths m set) is; few = tails };
      keeps = rw none (keeps_none (sought_of set mode) w);
      kept_there = λ some. absurd (omega (arith, some, zero));
      tied = record {
        within = omega arith;
        few = few;
        buffer_fits = omega (arith, unread.buffer_len_is);
        small = omega (arith, small, unread.buffer_offset_is, unread.buffer_len_is);
        not_ahead = omega (arith, unread.buffer_offset_is, unread.offset_is);
        reached = λ _. omega (arith, unread.buffer_offset_is, unread.offset_is, unread.buffer_len_is);
        content = λ files _. no_bytes (file_of files t.file) t.window_offset;
        ahead = λ files _. rw unread.buffer_len_is (no_bytes (file_of files t.file) t.buffer_offset);
      };
      not_ahead = omega (arith, unread.file_is);
      not_past = λ _. omega (arith, unread.offset_is);
      here = λ _ _. unread.offset_is;
      fetched_is = refl;
      digests_are = refl;
      onward = is_from-true (place_start at) (cursor_of_track t) (record {
        by_file = omega (arith, unread.file_is);
        by_offset = λ _. omega (arith, unread.offset_is);
        by_slice = λ _ _. omega arith;
      });
      counted = λ _ _. omega arith;
    }

pub returns-clause-belongs : goal.returns-clause-belongs
returns-clause-belongs g c =
    let set : SliceSet = c.args.index.now in
    let s : ShelfState = g.H.Shelf.state c.args.shelf.now in
    let lengths : c.shorter_lengths-tails.result.now ≡ shorter_lengths c.args.mode set = c.shorter_lengths-tails.ensures.all in
    let few : HasFewTails (sought_of set c.args.mode) = c.has_too_many_tails.ensures.few c.if-has_too_many_tails.false in
    let is : c.in_ok-window.window ≡ empty_window set.slice_size (shorter_lengths c.args.mode set) =
    c.in_ok-window.ensures ∙ ap (λ (n : ℕ). empty_window n c.shorter_lengths-tails.result.now) c.size.ensures.size
    ∙ ap (empty_window set.slice_size) lengths in
    let small : c.args.at.offset < 2 ^ 64 = search rules in
    subst (λ (w : WindowState). BelongsTo (record {
      cursor = c.args.at;
      opening = c.args.at;
      fetched = fetched_of c.new.result;
      digests = w.digests;
      mode = c.args.mode;
      window = w;
      track = c.new.result;
      kept = c.in_ok-new.field-0.kept.items;
    }) set s) (sym is)
    (opens_belongs set s c.args.at c.args.mode c.new.result c.in_ok-new.field-0.kept.items small
    c.size.ensures.set.greatest_size few c.new.ensures c.in_ok-new.ensures)
