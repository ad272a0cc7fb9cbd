use Rattle.std.proofs.lemmas.Grind.{common_steps}
use Rattle.std.proofs.Common.{◌∙◌, ◌++◌, [], ap, sym, arith}
use Rattle.std.specs.List.{cons_option}
use Rattle.parset.specs.Choosing.{aside_of}
use Rattle.parset.proofs.ChoosingLaws.{filter_map_more, filter_map_same}
use Rattle.parset.proofs.choosing.asides.Goals as goal
use Rattle.parset.proofs.choosing.asides.Goals.{in-Some+in_ok-push, in_default}

pub loop-kept-preserved : goal.loop-kept-preserved
loop-kept-preserved c =
    let own = c.args.own.now in let i = c.loop-kept.kept-index in let k = c.kept-item.result in let before = c.loop-kept.asides.items in
    elim c.match-branch-2.branch [
      | in-Some+in_ok-push w ↦
          ap (λ v. v.items) w.asides-is ∙ w.in_ok-push.ensures.items
          ∙ ap (λ o. before ++ cons_option o []) (sym w.in-Some.is ∙ c.in_ok-aside.ensures.aside)
          ∙ filter_map_more (aside_of c.args.size) (λ k. k.now) own i k before c.loop-kept-test.true c.kept-item.is c.loop-kept.invariant
      | in_default w ↦
          ap (λ v. v.items) w.asides-is
          ∙ filter_map_same (aside_of c.args.size) (λ k. k.now) own i k before c.loop-kept-test.true c.kept-item.is c.loop-kept.invariant
          (sym w.in_default.is ∙ c.in_ok-aside.ensures.aside)
    ]

pub returns : goal.returns
returns c = grind (arith, common_steps)
