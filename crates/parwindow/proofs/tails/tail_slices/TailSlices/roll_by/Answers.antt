use Rattle.std.proofs.Common.{◌+◌, ◌<◌, IsTrue, length, sym, arith, length-append}
use Rattle.parwindow.specs.Ahead.{window_bytes, is_tail_register, own_register}
use Rattle.parwindow.specs.Places.{registers_of}
use Rattle.parwindow.proofs.tail_laws.PlacesLaws.{ended_at, stops_after}
use Rattle.parwindow.proofs.tail_laws.RollAlongLaws.{piece_at}
use Rattle.parwindow.proofs.tails.tail_slices.TailSlices.roll_by.Goals as goal

pub returns-then-ends-limit : goal.returns-then-ends-limit
returns-then-ends-limit c =
    let tail = c.args.self.now.tail.now in
    let places = c.args.places.now in
    let s = places.stream in
    let along = c.requires.along in
    let ends = c.piece_from-ends.result.now in
    stops_after (λ register. IsTrue (is_tail_register c.args.self.now.index.now tail register))
    (own_register tail.length (window_bytes s) s.bytes.now) _ c.args.limit c.roll_to.result
    (omega arith)
    (ended_at along.start tail.length c.args.limit (window_bytes s) s.bytes.now
    (registers_of places.registers) places.fronts.registers ends c.requires.tail.shorter
    c.requires.within (omega (arith, along.few, c.requires.within)) along.runs places.are
    (λ i below. sym (piece_at ends (registers_of places.registers) (tail.length + 1) i
    c.piece_from-ends.ensures.piece (omega arith))))
    c.roll_to.ensures

pub returns-else-ends-limit : goal.returns-else-ends-limit
returns-else-ends-limit c =
    let tail = c.args.self.now.tail.now in
    let places = c.args.places.now in
    let s = places.stream in
    let along = c.requires.along in
    let shorter : tail.length < length (window_bytes s) = c.requires.tail.shorter in
    stops_after (λ register. IsTrue (is_tail_register c.args.self.now.index.now tail register))
    (own_register tail.length (window_bytes s) s.bytes.now) _ c.args.limit
    c.roll_to-else-ends-limit.result (omega arith)
    (ended_at along.start tail.length c.args.limit (window_bytes s) s.bytes.now
    (registers_of places.registers) places.fronts.registers c.copied.result c.requires.tail.shorter
    c.requires.within (omega (arith, along.few, c.requires.within)) along.runs places.are
    (λ i below. c.copied.ensures i (omega (arith, along.few, c.requires.within, below))
    (omega (arith, along.runs.long, shorter, below, c.requires.within, length-append (window_bytes s) s.bytes.now))))
    c.roll_to-else-ends-limit.ensures
