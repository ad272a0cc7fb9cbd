use Rattle.std.proofs.Common.{◌<◌, ◌&&◌, nat_le, sym, ap, ◌∙◌, arith}
use Rattle.std.specs.List.{find}
use Rattle.std.proofs.lemmas.List.{take_all}
use Rattle.std.proofs.lemmas.List.Elements.{All-get_or}
use Rattle.parwindow.specs.Tails.{is_tail_slice}
use Rattle.parwindow.proofs.tail_laws.NextTailLaws.{next_early, next_found, next_init, next_missed}
use Rattle.parwindow.proofs.window.Window.next_tail.Goals.{else-own-from-via-then-own-from+else-is_tail_of, else-own-from-via-else-own-from}
use Rattle.parwindow.proofs.window.Window.next_tail.Goals as goal

pub loop-k-init : goal.loop-k-init
loop-k-init c =
    next_init c.args.index.now c.args.self.now.content c.args.from
    c.tail_lengths-lengths.result.now c.tail_lengths-lengths.ensures.tails

pub is_tail_of-requires : goal.is_tail_of-requires
is_tail_of-requires c =
    let own = All-get_or (λ own. (0 < own) × (own < c.args.index.now.slice_size))
    c.tail_lengths-lengths.result.now c.loop-k.k 0 c.loop-k-test.true
    c.tail_lengths-lengths.ensures.tails.within in
    own.1

pub returns-then-is_tail_of-clause-within : goal.returns-then-is_tail_of-clause-within
returns-then-is_tail_of-clause-within c =
    let own = All-get_or (λ own. (0 < own) × (own < c.args.index.now.slice_size))
    c.tail_lengths-lengths.result.now c.loop-k.k 0 c.loop-k-test.true
    c.tail_lengths-lengths.ensures.tails.within in
    (c.if-own-from.true, own.1)

pub returns-then-is_tail_of-clause-first : goal.returns-then-is_tail_of-clause-first
returns-then-is_tail_of-clause-first c =
    let l = c.loop-k in
    rw (c.requires, ← c.tail_lengths-lengths.ensures.all)
    (next_found c.args.index.now c.args.self.now.content c.args.from
    c.tail_lengths-lengths.result.now c.tail_lengths-lengths.ensures.tails l.k l.done l.register
    c.after_front-register.result l.invariant c.loop-k-test.true c.after_front-register.ensures
    c.if-own-from.true (sym c.is_tail_of.ensures ∙ c.if-is_tail_of.true))

pub loop-k-preserved : goal.loop-k-preserved
loop-k-preserved c =
    let set = c.args.index.now in
    let content = c.args.self.now.content in
    let lengths = c.tail_lengths-lengths.result.now in
    let are = c.tail_lengths-lengths.ensures.tails in
    let l = c.loop-k in
    elim c.else-own-from.branch [
      | else-own-from-via-then-own-from+else-is_tail_of w ↦
          next_missed set content c.args.from lengths are l.k l.done l.register
          c.after_front-register.result l.invariant c.loop-k-test.true
          c.after_front-register.ensures (sym w.is_tail_of.ensures ∙ w.if-is_tail_of.false)
      | else-own-from-via-else-own-from w ↦
          next_early set content c.args.from lengths are l.k l.done l.register
          c.after_front-register.result l.invariant c.loop-k-test.true
          c.after_front-register.ensures w.if-own-from.false
    ]

pub returns-clause-first : goal.returns-clause-first
returns-clause-first c =
    let l = c.loop-k in
    let lengths = c.tail_lengths-lengths.result.now in
    rw (c.requires, ← c.tail_lengths-lengths.ensures.all)
    (sym (ap (find (λ own. nat_le c.args.from own
    && is_tail_slice c.args.index.now c.args.index.now.slice_size c.args.self.now.content own))
    (sym (take_all l.k lengths (omega (arith, c.loop-k-test.false)))) ∙ l.invariant.none))
