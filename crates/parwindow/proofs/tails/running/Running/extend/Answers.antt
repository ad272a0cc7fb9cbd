use Rattle.std.proofs.Common.{refl}
use Rattle.parwindow.proofs.tail_laws.RunningLaws.{run_keeps}
use Rattle.parwindow.proofs.tails.running.Running.extend.Goals as goal

pub returns : goal.returns
returns c = λ size content bytes was comes last.
    run_keeps size content bytes c.args.registers.now c.args.self.now _ was comes last
    (rw c.extend_from_slice.ensures refl) (rw c.extend_from_slice.ensures refl)
