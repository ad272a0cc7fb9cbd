use Rattle.std.proofs.lemmas.Grind.{common_steps}
use Rattle.std.proofs.Common.{◌≡◌, ◌+◌, length, drop, arith, true, false, ap, sym, ◌∙◌}
use Rattle.std.proofs.lemmas.Result.{err_from_is_err_and}
use Rattle.std.specs.List.{flat_map}
use Rattle.parsalvage.specs.Kept.{is_chosen}
use Rattle.parreport.specs.PacketsText.{chosen_of, kept_line}
use Rattle.parreport.proofs.ListingLaws.{takes_chosen, leaves_other}
use Rattle.parreport.proofs.WriterLaws.{writes_line, stops_line}
use Rattle.parreport.proofs.text.packets.lines.write_chosen.Goals as goal
use Rattle.parreport.proofs.text.packets.lines.write_chosen.Goals.{then-is_chosen+in_ok-write_packet, else-is_chosen}

pub returns-in_err-write_packet-clause-lines : goal.returns-in_err-write_packet-clause-lines
returns-in_err-write_packet-clause-lines g c =
    let xs = c.args.packets.now in let i = c.loop-packet.packet-index in let x = c.packet-item.result in
    let choice = c.args.choice in
    let is : is_chosen choice x ≡ true = sym c.is_chosen.ensures ∙ c.if-is_chosen.true in
    let first = takes_chosen (is_chosen choice) xs i x c.loop-packet-test.true c.packet-item.is is in
    let line = kept_line c.args.names.now in
    let stopped = rw c.packet_name.ensures at c.in_err-write_packet.ensures in
    let failed = err_from_is_err_and c.from_residual.result c.from_residual.ensures.1 in
    rw (failed.1, failed.2)
    (stops_line g.W.Sink.state line (chosen_of choice (drop i xs)) x (chosen_of choice (drop (i + 1) xs)) first
    c.args.writer.now c.loop-packet.writer c.write_packet.new.writer (flat_map line (chosen_of choice xs)) c.loop-packet.invariant.lines _ stopped)

pub loop-packet-preserved : goal.loop-packet-preserved
loop-packet-preserved g c =
    let xs = c.args.packets.now in let i = c.loop-packet.packet-index in let x = c.packet-item.result in
    let choice = c.args.choice in
    let before = c.loop-packet.invariant in
    elim c.if-is_chosen.branch [
      | then-is_chosen+in_ok-write_packet w ↦
          let is : is_chosen choice x ≡ true = sym c.is_chosen.ensures ∙ w.if-is_chosen.true in
          let first = takes_chosen (is_chosen choice) xs i x c.loop-packet-test.true c.packet-item.is is in
          let one = ap length first in
          let wrote = rw w.packet_name.ensures at w.in_ok-write_packet.ensures in
          rw (w.writer-is, w.count-is) (record {
            lines = writes_line g.W.Sink.state (kept_line c.args.names.now) (chosen_of choice (drop i xs)) x (chosen_of choice (drop (i + 1) xs)) first
                _ _ _ _ before.lines _ wrote;
            counted = omega (arith, before.counted, one);
            few = omega (arith, before.few);
          })
      | else-is_chosen w ↦
          let is : is_chosen choice x ≡ false = sym c.is_chosen.ensures ∙ w.if-is_chosen.false in
          let same = leaves_other (is_chosen choice) xs i x c.loop-packet-test.true c.packet-item.is is in
          rw (w.writer-is, w.count-is) (record {
            lines = rw same at before.lines;
            counted = rw same at before.counted;
            few = omega (arith, before.few);
          })
    ]

pub loop-packet-init : goal.loop-packet-init
loop-packet-init g c = grind (arith, common_steps)

pub returns-in_err-write_packet-clause-count : goal.returns-in_err-write_packet-clause-count
returns-in_err-write_packet-clause-count g c = grind (arith, common_steps)

pub returns-clause-count : goal.returns-clause-count
returns-clause-count g c = grind (arith, common_steps)

pub returns-clause-lines : goal.returns-clause-lines
returns-clause-lines g c = grind (arith, common_steps)
