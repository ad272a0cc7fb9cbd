use Rattle.std.proofs.lemmas.Grind.{common_steps}
use Rattle.std.proofs.Common.{◌+◌, ◌≤◌, arith, length, refl, rules}
use Rattle.std.proofs.lemmas.List.{length-take-le, take-append-le}
use Rattle.parshelf.specs.Shelf.{ShelfState}
use Rattle.parshelf.proofs.ShelfLaws.{FaultsIn-failed}
use Rattle.parfind.proofs.track_laws.FetchedLaws.{hands_read}
use Rattle.parfind.proofs.track_laws.RefillLaws.{refills, refill_reads, refill_bytes, refill_ends}
use Rattle.parfind.proofs.tracks.track.Track.refill.Goals as goal

pub returns-in-Ok-clause-reads : goal.returns-in-Ok-clause-reads
returns-in-Ok-clause-reads g c =
    let s : ShelfState = g.H.Shelf.state c.args.shelf.now in
    let t = c.args.self.now in
    let hands = refills _ _ _ _ _ c.read_at.new.buf c.in-Ok.count (omega (arith, c.in-Ok.ensures.bound))
    c.in-Ok.ensures.ok (omega (arith, c.in-Ok.count-test.1)) in
    hands_read s.lengths s.handed (g.H.Shelf.state c.read_at.new.self).handed t.file (t.buffer_offset + t.buffer_len) c.in-Ok.count
    hands.handed
    (λ some. omega (arith, c.in-Ok.ensures.bound, c.length-file_end.ensures.value, c.min-size.ensures))

pub returns-in-Err-clause-on : goal.returns-in-Err-clause-on
returns-in-Err-clause-on g c = record {
  same = record { file_is = refl; offset_is = refl };
  buffer_offset_is = refl;
  buffer_fits = omega arith;
  small = search rules;
}

pub returns-in-Ok-eq0-clause-some : goal.returns-in-Ok-eq0-clause-some
returns-in-Ok-eq0-clause-some g c = search rules steps 300000

pub returns-in-Ok-eq0-clause-on : goal.returns-in-Ok-eq0-clause-on
returns-in-Ok-eq0-clause-on g c = grind (arith, common_steps) steps 100000

pub returns-in-Ok-eq0-clause-bytes : goal.returns-in-Ok-eq0-clause-bytes
returns-in-Ok-eq0-clause-bytes g c = grind (arith, common_steps) steps 100000

pub returns-in-Ok-eq0-clause-reads : goal.returns-in-Ok-eq0-clause-reads
returns-in-Ok-eq0-clause-reads g c = grind (arith, common_steps) steps 1500000

pub returns-in-Ok-eq0-clause-shelf : goal.returns-in-Ok-eq0-clause-shelf
returns-in-Ok-eq0-clause-shelf g c =
    let fits : c.min-size.result ≤ length c.args.self.now.bytes = grind (arith, common_steps) steps 100000 in
    let room = length-take-le c.min-size.result c.args.self.now.bytes fits in
    refill_ends _ _ _ _ _ c.read_at.new.buf c.in-Ok-eq0.field-0 (omega (arith, c.in-Ok-eq0.ensures.bound))
    c.in-Ok-eq0.ensures.ok c.requires.file (omega (arith, c.in-Ok-eq0.field-0-test))
    (omega (arith, room, c.min-size.ensures, c.length-file_end.ensures.value, c.requires.more))
    (omega (arith, c.requires.more))

pub returns-in-Ok-clause-on : goal.returns-in-Ok-clause-on
returns-in-Ok-clause-on g c = grind (arith, common_steps) steps 100000

pub returns-in-Ok-clause-some : goal.returns-in-Ok-clause-some
returns-in-Ok-clause-some g c = grind (arith, common_steps) steps 100000

pub returns-in-Ok-clause-bytes : goal.returns-in-Ok-clause-bytes
returns-in-Ok-clause-bytes g c = λ files reads.
    let has = refill_bytes _ _ _ _ _ c.read_at.new.buf c.in-Ok.count (omega (arith, c.in-Ok.ensures.bound))
    c.in-Ok.ensures.ok (omega (arith, c.in-Ok.count-test.1)) files reads in
    rw (take-append-le c.in-Ok.count c.read_at.new.buf _ (omega (arith, c.in-Ok.ensures.bound))) has

pub returns-in-Ok-clause-shelf : goal.returns-in-Ok-clause-shelf
returns-in-Ok-clause-shelf g c =
    refill_reads _ _ _ _ _ c.read_at.new.buf c.in-Ok.count (omega (arith, c.in-Ok.ensures.bound))
    c.in-Ok.ensures.ok (omega (arith, c.in-Ok.count-test.1))

pub returns-in-Err-clause-some : goal.returns-in-Err-clause-some
returns-in-Err-clause-some g c = grind (arith, common_steps) steps 100000

pub returns-in-Err-clause-bytes : goal.returns-in-Err-clause-bytes
returns-in-Err-clause-bytes g c = grind (arith, common_steps) steps 100000

pub returns-in-Err-clause-reads : goal.returns-in-Err-clause-reads
returns-in-Err-clause-reads g c = grind (arith, common_steps) steps 100000

pub returns-in-Err-clause-shelf : goal.returns-in-Err-clause-shelf
returns-in-Err-clause-shelf g c = FaultsIn-failed _ _ _ c.requires.file c.in-Err.ensures.failed

pub overflow_add-self : goal.overflow_add-self
overflow_add-self g c = grind (arith, common_steps) steps 100000

pub overflow_sub-file_end : goal.overflow_sub-file_end
overflow_sub-file_end g c = grind (arith, common_steps) steps 100000

pub slice_bounds-read_at-end : goal.slice_bounds-read_at-end
slice_bounds-read_at-end g c = grind (arith, common_steps) steps 100000
