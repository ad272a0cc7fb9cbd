use Rattle.std.proofs.Common.{ℕ, ◌-◌, List, length, take, drop, fold, ap, ◌∙◌}
use Rattle.parwindow.specs.Crc32.{register_after}
use Rattle.parwindow.proofs.tail_laws.NextTailLaws.{register_on}
use Rattle.parwindow.proofs.window.Window.after_front.Goals as goal

pub returns : goal.returns
returns c =
    let front : List ℕ = c.first.result.0.now in
    let back : List ℕ = c.first.result.1.now in
    let m = c.min-in_front.result in
    let n = c.min-in_back.result in
    c.after_bytes.ensures ∙ ap (λ r. fold register_after r (take (length back - n) (drop n back))) c.after_bytes-middle.ensures
    ∙ register_on front back (take c.args.end c.args.self.now.content) c.args.done m n c.args.register c.first.ensures c.min-in_front.ensures
    c.min-in_back.ensures
