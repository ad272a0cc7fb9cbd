use Rattle.std.proofs.lemmas.Result.{err_from_is_err_and}
use Rattle.std.proofs.lemmas.Grind.{common_steps}
use Rattle.std.proofs.Common.{◌≡◌, ℕ, ◌+◌, slice_index, sym, subst, arith}
use Rattle.parshelf.specs.Shelf.{ShelfState, file_of}
use Rattle.parwindow.specs.Window.{WindowState}
use Rattle.parfind.specs.Tracks.{IsTied, HaveNoComparedCrc}
use Rattle.parfind.specs.Sought.{sought_of}
use Rattle.parfind.proofs.track_laws.FillLaws.{tied_on, none_on}
use Rattle.parfind.proofs.tracks.track.Track.slide_until_crc.Goals as goal

pub returns-clause-tied : goal.returns-clause-tied
returns-clause-tied g c =
    let new : ShelfState = g.H.Shelf.state c.ensure_next_byte.new.shelf in
    let w : WindowState = c.args.window.now in
    let t = c.ensure_next_byte.new.self in
    let r = c.in_ok-ensure_next_byte.ensures in
    let n : ℕ = c.push_until-count.result in
    let file_end : c.length-file_end.result ≡ slice_index new.lengths t.file = c.length-file_end.ensures.value in
    subst (λ (v : WindowState). IsTied new v (record t { window_offset = t.window_offset + n })) (sym c.push_until-count.ensures.content)
    (tied_on new w t r.tied
    c.next_bytes-bytes.result.now (rw file_end at c.next_bytes-bytes.ensures.bytes) (λ before. c.next_bytes-bytes.ensures.hand (rw file_end before)) n c.push_until-count.ensures.until.within)

pub returns-clause-none : goal.returns-clause-none
returns-clause-none g c = λ mode made files reads.
    let new : ShelfState = g.H.Shelf.state c.ensure_next_byte.new.shelf in
    let w : WindowState = c.args.window.now in
    let t = c.ensure_next_byte.new.self in
    let r = c.in_ok-ensure_next_byte.ensures in
    let n : ℕ = c.push_until-count.result in
    let file_end : c.length-file_end.result ≡ slice_index new.lengths t.file = c.length-file_end.ensures.value in
    let none : HaveNoComparedCrc (sought_of c.args.index.now mode) (file_of files t.file) t.window_offset n =
    none_on new w t r.tied
    c.next_bytes-bytes.result.now (rw file_end at c.next_bytes-bytes.ensures.bytes) (λ before. c.next_bytes-bytes.ensures.hand (rw file_end before))
    c.args.index.now mode n c.size-size.ensures.set made c.requires.full c.push_until-count.ensures.until files reads in
    rw (r.same.file_is, r.same.offset_is) at none

pub returns-in_err-ensure_next_byte-clause-tied : goal.returns-in_err-ensure_next_byte-clause-tied
returns-in_err-ensure_next_byte-clause-tied g c = grind (arith, common_steps) steps 100000

pub returns-in_err-ensure_next_byte-clause-window : goal.returns-in_err-ensure_next_byte-clause-window
returns-in_err-ensure_next_byte-clause-window g c = grind (arith, common_steps) steps 100000

pub returns-in_err-ensure_next_byte-clause-same : goal.returns-in_err-ensure_next_byte-clause-same
returns-in_err-ensure_next_byte-clause-same g c = grind (arith, common_steps) steps 100000

pub returns-in_err-ensure_next_byte-clause-reads : goal.returns-in_err-ensure_next_byte-clause-reads
returns-in_err-ensure_next_byte-clause-reads g c = grind (arith, common_steps) steps 100000

pub returns-in_err-ensure_next_byte-clause-shelf : goal.returns-in_err-ensure_next_byte-clause-shelf
returns-in_err-ensure_next_byte-clause-shelf g c =
    let failed = err_from_is_err_and c.from_residual.result c.from_residual.ensures.1 in
    rw (failed.1, failed.2) (grind (arith, common_steps))

pub returns-clause-window : goal.returns-clause-window
returns-clause-window g c = grind (arith, common_steps) steps 100000

pub returns-clause-passes : goal.returns-clause-passes
returns-clause-passes g c = grind (arith, common_steps) steps 400000

pub returns-clause-stays : goal.returns-clause-stays
returns-clause-stays g c = grind (arith, common_steps) steps 100000

pub returns-clause-same : goal.returns-clause-same
returns-clause-same g c = grind (arith, common_steps) steps 100000

pub returns-clause-reads : goal.returns-clause-reads
returns-clause-reads g c = grind (arith, common_steps) steps 100000

pub returns-clause-shelf : goal.returns-clause-shelf
returns-clause-shelf g c = grind (arith, common_steps) steps 100000

pub ensure_next_byte-requires-clause-file : goal.ensure_next_byte-requires-clause-file
ensure_next_byte-requires-clause-file g c = grind (arith, common_steps) steps 100000

pub ensure_next_byte-requires-clause-inside : goal.ensure_next_byte-requires-clause-inside
ensure_next_byte-requires-clause-inside g c = grind (arith, common_steps) steps 100000

pub ensure_next_byte-requires-clause-tied : goal.ensure_next_byte-requires-clause-tied
ensure_next_byte-requires-clause-tied g c = grind (arith, common_steps) steps 100000

pub returns-in_err-ensure_next_byte-clause-passes : goal.returns-in_err-ensure_next_byte-clause-passes
returns-in_err-ensure_next_byte-clause-passes g c = grind (arith, common_steps) steps 100000

pub returns-in_err-ensure_next_byte-clause-none : goal.returns-in_err-ensure_next_byte-clause-none
returns-in_err-ensure_next_byte-clause-none g c = λ mode made files reads.
    let failed = err_from_is_err_and c.from_residual.result c.from_residual.ensures.1 in
    rw failed.1 tt

pub returns-in_err-ensure_next_byte-clause-stays : goal.returns-in_err-ensure_next_byte-clause-stays
returns-in_err-ensure_next_byte-clause-stays g c = grind (arith, common_steps) steps 100000

pub overflow_sub-file_end : goal.overflow_sub-file_end
overflow_sub-file_end g c = grind (arith, common_steps) steps 100000

pub next_bytes-bytes-requires-clause-some : goal.next_bytes-bytes-requires-clause-some
next_bytes-bytes-requires-clause-some g c = grind (arith, common_steps) steps 100000

pub next_bytes-bytes-requires-clause-small : goal.next_bytes-bytes-requires-clause-small
next_bytes-bytes-requires-clause-small g c = grind (arith, common_steps) steps 400000

pub next_bytes-bytes-requires-clause-fits : goal.next_bytes-bytes-requires-clause-fits
next_bytes-bytes-requires-clause-fits g c = grind (arith, common_steps) steps 100000

pub next_bytes-bytes-requires-clause-not_ahead : goal.next_bytes-bytes-requires-clause-not_ahead
next_bytes-bytes-requires-clause-not_ahead g c = grind (arith, common_steps) steps 100000

pub next_bytes-bytes-requires-clause-next : goal.next_bytes-bytes-requires-clause-next
next_bytes-bytes-requires-clause-next g c = grind (arith, common_steps) steps 400000

pub push_until-count-requires : goal.push_until-count-requires
push_until-count-requires g c = grind (arith, common_steps) steps 100000

pub overflow_add-self : goal.overflow_add-self
overflow_add-self g c = grind (arith, common_steps) steps 100000
