use Rattle.std.proofs.Common.{◌≡◌, ◌+◌, ◌∙◌, get_or, set, ap, arith, fold}
use Rattle.std.proofs.lemmas.List.{take_all}
use Rattle.parwindow.specs.Crc32.{register_after}
use Rattle.parwindow.specs.Running.{run_register}
use Rattle.parwindow.proofs.crc_laws.ZeroRunLaws.{fills_more}
use Rattle.parwindow.proofs.tail_laws.RunningLaws.{coming_all, coming_more}
use Rattle.parwindow.proofs.tails.running.Running.coming.Goals as goal

pub loop-i-preserved : goal.loop-i-preserved
loop-i-preserved c =
    let start = c.args.self.now.last in
    let bytes = c.args.bytes.now in
    let i = c.loop-i.i in
    let register = c.loop-i.register in
    let held = c.loop-i.invariant in
    let two : i + 1 + 1 ≡ i + 2 = omega arith in
    let next : register_after register (get_or bytes i 0) ≡ run_register start bytes (i + 1) =
    ap (λ r. register_after r (get_or bytes i 0)) held.here
    ∙ coming_more start bytes i (omega arith) in
    let one = fills_more (run_register start bytes) 512 c.loop-i.registers i register held.filled.0
    (omega (arith, c.requires)) held.here held.filled.1 in
    let both = fills_more (run_register start bytes) 512 (set c.loop-i.registers i register) (i + 1)
    c.after_byte.result one.0 (omega (arith, c.requires)) (c.after_byte.ensures ∙ next) one.1 in
    record {
      within = omega arith;
      filled = rw two at both;
      here = c.after_two-register.ensures
          ∙ ap (λ r. register_after r (get_or bytes (i + 1) 0)) next
          ∙ coming_more start bytes (i + 1) (omega arith)
          ∙ ap (run_register start bytes) two;
    }

pub returns-then-i-bytes-clause-before : goal.returns-then-i-bytes-clause-before
returns-then-i-bytes-clause-before c =
    let held = c.loop-i.invariant in
    coming_all c.args.self.now.last c.loop-i.i c.args.bytes.now c.loop-i.registers
    (omega (arith, held.filled.0, c.requires)) c.if-i-bytes.true held.filled.1

pub returns-then-i-bytes-clause-last : goal.returns-then-i-bytes-clause-last
returns-then-i-bytes-clause-last c =
    c.loop-i.invariant.here
    ∙ ap (fold register_after c.args.self.now.last)
    (take_all c.loop-i.i c.args.bytes.now (omega (arith, c.if-i-bytes.true)))

pub returns-clause-before : goal.returns-clause-before
returns-clause-before c =
    let start = c.args.self.now.last in
    let bytes = c.args.bytes.now in
    let i = c.loop-i.i in
    let held = c.loop-i.invariant in
    let one = fills_more (run_register start bytes) 512 c.loop-i.registers i c.loop-i.register
    held.filled.0 (omega (arith, c.requires)) held.here held.filled.1 in
    coming_all start (i + 1) bytes (set c.loop-i.registers i c.loop-i.register)
    (omega (arith, one.0, c.requires)) (omega arith) one.1

pub returns-clause-last : goal.returns-clause-last
returns-clause-last c =
    let start = c.args.self.now.last in
    let bytes = c.args.bytes.now in
    let i = c.loop-i.i in
    c.after_byte-last.ensures
    ∙ ap (λ r. register_after r (get_or bytes i 0)) c.loop-i.invariant.here
    ∙ coming_more start bytes i (omega arith)
    ∙ ap (fold register_after start) (take_all (i + 1) bytes (omega arith))
