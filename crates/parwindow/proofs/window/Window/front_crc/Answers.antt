use Rattle.std.proofs.Common.{◌≡◌, ◌+◌, take, fold, sym, ap, ◌∙◌, arith}
use Rattle.std.proofs.lemmas.List.Sums.{fold-append}
use Rattle.parwindow.specs.Crc32.{register_after, register_of}
use Rattle.parwindow.proofs.tail_laws.TailContentLaws.{tail_crc_is}
use Rattle.parwindow.proofs.window.Window.front_crc.Goals as goal

pub returns : goal.returns
unfolding register_of
returns c =
    let w = c.args.self.now in
    let front = c.first.result.0.now in
    let back = c.first.result.1.now in
    let rolled : c.after_bytes-register.result ≡ register_of (take c.args.own w.content) =
    c.after_bytes-register.ensures ∙ ap (λ r. fold register_after r back) c.after_bytes.ensures
    ∙ sym (fold-append register_after 0xFFFFFFFF front back) ∙ ap (fold register_after 0xFFFFFFFF) c.first.ensures in
    let room : c.args.own + c.new-zeros.result.len ≡ w.capacity = omega (arith, c.new-zeros.ensures, c.size.ensures) in
    rw c.apply.ensures
    (tail_crc_is w.content w.capacity c.args.own c.new-zeros.result.len c.after_bytes-register.result rolled room)
