use Rattle.std.proofs.lemmas.Grind.{common_steps}
use Rattle.std.proofs.Common.{◌≡◌, slice_index, ap, sym, ◌∙◌, subst, arith}
use Rattle.parshelf.specs.Shelf.{ShelfState}
use Rattle.std.proofs.lemmas.Result.{err_from_is_err_and}
use Rattle.parshelf.proofs.ReadLaws.{ReadsOnly_more, FaultsIn_more}
use Rattle.parwindow.specs.Window.{WindowState}
use Rattle.parfind.specs.Tracks.{IsTied, fetched_of}
use Rattle.parfind.proofs.track_laws.FetchedLaws.{hands_more}
use Rattle.parfind.proofs.track_laws.FillLaws.{tied_more, kept_window}
use Rattle.parfind.proofs.tracks.track.Track.fill.Goals as goal

pub loop-self-preserved : goal.loop-self-preserved
loop-self-preserved g c =
    let s : ShelfState = g.H.Shelf.state c.args.shelf.now in
    let mid : ShelfState = g.H.Shelf.state c.loop-self.shelf in
    let new : ShelfState = g.H.Shelf.state c.ensure_next_byte.new.shelf in
    let v : WindowState = c.loop-self.window in
    let t = c.ensure_next_byte.new.self in
    let so_far = c.loop-self.invariant in
    let r = c.in_ok-ensure_next_byte.ensures in
    let file_end : c.length.result ≡ slice_index new.lengths t.file = c.length.ensures.value in
    let lengths : mid.lengths ≡ s.lengths = ap (λ (u : ShelfState). u.lengths) so_far.only.counts in
    record {
      tied = subst (λ (w : WindowState). IsTied new w t) (sym c.extend.ensures)
          (tied_more new v t r.tied
          c.next_bytes-bytes.result.now (rw file_end at c.next_bytes-bytes.ensures.bytes) (λ before. c.next_bytes-bytes.ensures.hand (rw file_end before))
          c.next_bytes-bytes.ensures.some (omega (arith, c.next_bytes-bytes.ensures.within, c.size.ensures, c.len.ensures.len, r.tied.within)));
      same = record {
        file_is = r.same.file_is ∙ so_far.same.file_is;
        offset_is = r.same.offset_is ∙ so_far.same.offset_is;
      };
      window_is = kept_window c.args.window.now v c.extend.new.self _ so_far.window_is c.extend.ensures;
      only = ReadsOnly_more s mid new so_far.only r.shelf;
      reads = hands_more s.lengths s.handed mid.handed new.handed (fetched_of c.args.self.now) (fetched_of c.loop-self.self) (fetched_of t)
          so_far.reads (rw lengths at r.reads);
    }

pub returns-in_err-ensure_next_byte-clause-tied : goal.returns-in_err-ensure_next_byte-clause-tied
returns-in_err-ensure_next_byte-clause-tied g c = grind (arith, common_steps) steps 100000

pub returns-in_err-ensure_next_byte-clause-full : goal.returns-in_err-ensure_next_byte-clause-full
returns-in_err-ensure_next_byte-clause-full g c = grind (arith, common_steps) steps 100000

pub returns-in_err-ensure_next_byte-clause-same : goal.returns-in_err-ensure_next_byte-clause-same
returns-in_err-ensure_next_byte-clause-same g c = grind (arith, common_steps) steps 100000

pub returns-in_err-ensure_next_byte-clause-window : goal.returns-in_err-ensure_next_byte-clause-window
returns-in_err-ensure_next_byte-clause-window g c = grind (arith, common_steps) steps 100000

pub returns-clause-tied : goal.returns-clause-tied
returns-clause-tied g c = grind (arith, common_steps) steps 100000

pub returns-clause-full : goal.returns-clause-full
returns-clause-full g c = grind (arith, common_steps) steps 100000

pub returns-clause-same : goal.returns-clause-same
returns-clause-same g c = grind (arith, common_steps) steps 100000

pub returns-clause-window : goal.returns-clause-window
returns-clause-window g c = grind (arith, common_steps) steps 100000

pub returns-clause-reads : goal.returns-clause-reads
returns-clause-reads g c = grind (arith, common_steps) steps 100000

pub returns-clause-shelf : goal.returns-clause-shelf
returns-clause-shelf g c = grind (arith, common_steps) steps 100000

pub loop-self-init : goal.loop-self-init
loop-self-init g c = grind (arith, common_steps) steps 100000

pub ensure_next_byte-requires-clause-file : goal.ensure_next_byte-requires-clause-file
ensure_next_byte-requires-clause-file g c = grind (arith, common_steps) steps 100000

pub ensure_next_byte-requires-clause-inside : goal.ensure_next_byte-requires-clause-inside
ensure_next_byte-requires-clause-inside g c = grind (arith, common_steps) steps 100000

pub ensure_next_byte-requires-clause-tied : goal.ensure_next_byte-requires-clause-tied
ensure_next_byte-requires-clause-tied g c = grind (arith, common_steps) steps 100000

pub returns-in_err-ensure_next_byte-clause-shelf : goal.returns-in_err-ensure_next_byte-clause-shelf
returns-in_err-ensure_next_byte-clause-shelf g c =
    let so_far = c.loop-self.invariant in
    let failed = err_from_is_err_and c.from_residual.result c.from_residual.ensures.1 in
    rw (failed.1, failed.2)
    (FaultsIn_more (g.H.Shelf.state c.args.shelf.now) (g.H.Shelf.state c.loop-self.shelf) (g.H.Shelf.state c.ensure_next_byte.new.shelf)
    c.args.self.now.file c.in_err-ensure_next_byte.field-0.0 so_far.only (rw so_far.same.file_is at c.in_err-ensure_next_byte.ensures.shelf))

pub overflow_sub-room : goal.overflow_sub-room
overflow_sub-room g c = grind (arith, common_steps) steps 100000

pub next_bytes-bytes-requires-clause-some : goal.next_bytes-bytes-requires-clause-some
next_bytes-bytes-requires-clause-some g c = grind (arith, common_steps) steps 100000

pub next_bytes-bytes-requires-clause-small : goal.next_bytes-bytes-requires-clause-small
next_bytes-bytes-requires-clause-small g c = grind (arith, common_steps) steps 400000

pub next_bytes-bytes-requires-clause-fits : goal.next_bytes-bytes-requires-clause-fits
next_bytes-bytes-requires-clause-fits g c = grind (arith, common_steps) steps 100000

pub next_bytes-bytes-requires-clause-not_ahead : goal.next_bytes-bytes-requires-clause-not_ahead
next_bytes-bytes-requires-clause-not_ahead g c = grind (arith, common_steps) steps 100000

pub next_bytes-bytes-requires-clause-next : goal.next_bytes-bytes-requires-clause-next
next_bytes-bytes-requires-clause-next g c = grind (arith, common_steps) steps 400000

pub extend-requires : goal.extend-requires
extend-requires g c = grind (arith, common_steps) steps 100000
