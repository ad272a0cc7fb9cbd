use Rattle.std.proofs.Common.{◌∙◌, ◌<◌, length, arith}
use Rattle.std.proofs.lemmas.List.{get_or_default}
use Rattle.parwindow.specs.Ahead.{window_bytes}
use Rattle.parwindow.proofs.tail_laws.LookAheadLaws.{look_each, look_more}
use Rattle.parwindow.proofs.tails.ahead.look_ahead.Goals as goal

pub loop-k-preserved : goal.loop-k-preserved
loop-k-preserved c =
    let index = c.args.index.now in
    let s = c.args.stream.now in
    let now = c.loop-k.tails in
    let after = c.set_ahead.new.tails in
    let k = c.loop-k.k in
    let tail = c.new.result.tail.now in
    let below : k < length now = omega arith in
    let more = look_more index (window_bytes s) s.bytes.now now after k c.set_ahead.ensures.same
    tail c.loop-k.passed c.passed-passed.result c.roll_ahead-roll.result below
    (c.new.ensures.tail ∙ get_or_default now k c.index-tails-k.result tail below)
    c.set_ahead.ensures.others c.set_ahead.ensures.ahead (omega arith)
    (rw (← c.new.ensures.index) c.roll_ahead-roll.ensures) c.passed-passed.ensures
    c.loop-k.invariant.past in
    record {
      lengths = c.set_ahead.ensures.lengths ∙ c.loop-k.invariant.lengths;
      each = look_each index (window_bytes s) s.bytes.now now after k c.set_ahead.ensures.same
          (length (window_bytes s)) c.set_ahead.ensures.lengths c.loop-k.invariant.each;
      within = omega (arith, more.0);
      past = more.1;
    }
