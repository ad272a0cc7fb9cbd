use Rattle.std.proofs.Common.{◌≡◌, ◌≢◌, ◌∙◌, ◌<◌, get_or, get_or-set_other, length, take, ap, refl, sym, arith}
use Rattle.std.proofs.lemmas.List.{get_or_default}
use Rattle.parwindow.specs.Crc32.{register_of}
use Rattle.parwindow.specs.declared.tails.tail.Tail.{Tail}
use Rattle.parwindow.proofs.tail_laws.PushTailsLaws.{lengths_more, moved_more}
use Rattle.parwindow.proofs.tails.ahead.go_ahead.Goals as goal

pub loop-k-preserved : goal.loop-k-preserved
loop-k-preserved c =
    let tails = c.loop-k.tails in
    let k = c.loop-k.k in
    let e = c.index-tails-k-in-loop-k.result in
    let held = c.loop-k.invariant in
    let below : k < length tails = omega arith in
    let inside : k < length c.args.tails.now = omega arith in
    let here : get_or tails k e ≡ get_or c.args.tails.now k e = held.rest k e (omega arith) in
    record {
      lengths = lengths_more tails k _ e below refl ∙ held.lengths;
      rest = λ j d up.
          let ne : j ≢ k = omega arith in
          rw get_or-set_other (held.rest j d (omega arith));
      each = λ size before after are ahead. moved_more tails k _ e below refl size before after refl
          (ap (λ (t : Tail). t.ahead) (get_or_default tails k c.index-tails-k.result e below ∙ here)
          ∙ ahead k e inside
          ∙ sym (ap (λ (t : Tail). register_of (take t.length after)) here))
          (held.each size before after are ahead);
    }

pub returns-clause-each : goal.returns-clause-each
returns-clause-each c = λ size before after are ahead k d below.
    (c.loop-k.invariant.each size before after are ahead).moved k d (omega (arith, below))
