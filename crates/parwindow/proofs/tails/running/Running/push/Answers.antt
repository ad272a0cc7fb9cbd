use Rattle.std.proofs.Common.{◌∷◌, [], refl}
use Rattle.parwindow.proofs.tail_laws.RunningLaws.{run_keeps, runs_one}
use Rattle.parwindow.proofs.tails.running.Running.push.Goals as goal

pub returns : goal.returns
returns c = λ size content was.
    let old = c.args.self.now in
    run_keeps size content (c.args.byte ∷ []) (old.last ∷ []) old _ was
    (runs_one old.last c.args.byte) c.after_byte-self.ensures
    (rw c.push_back.ensures.items refl) (rw c.push_back.ensures.items refl)
