use Rattle.std.proofs.Common.{◌≡◌, ◌+◌, ◌<◌, false, ◌∙◌, ap, map, length, sym, get_or, vec_len}
use Rattle.std.specs.List.{list_any}
use Rattle.std.proofs.lemmas.List.{get_or-replicate, take_all}
use Rattle.std.proofs.lemmas.List.FromFn.{fill_by_all}
use Rattle.parset.specs.Choosing.{all_exponents, has_exponent}
use Rattle.parset.specs.Limits.{exponent_limit}
use Rattle.parset.proofs.ExponentLaws.{exponent_below, seen_more, seen_same}
use Rattle.parset.proofs.choosing.seen_exponents.Goals as goal
use Rattle.parset.proofs.choosing.seen_exponents.Goals.{in-Some, in_default}

pub loop-kept-init : goal.loop-kept-init
loop-kept-init c = record {
  all = c.in_ok-seen.ensures.len;
  each = λ e below. ap (λ flags. get_or flags e false) (c.in_ok-seen.ensures.items_if_clones_equal (λ y same. same)) ∙ get_or-replicate (exponent_limit + 1) e false false below;
}

pub index_mut-requires : goal.index_mut-requires
index_mut-requires c =
    let below = exponent_below c.args.size c.kept-item.result.now c.in-Some.exponent c.in-Some.ensures in
    rw c.loop-kept.invariant.all below

pub loop-kept-preserved : goal.loop-kept-preserved
loop-kept-preserved c =
    let own = c.args.own.now in let i = c.loop-kept.kept-index in let k = c.kept-item.result in let before = c.loop-kept.invariant in
    elim c.match-read_exponent.branch [
      | in-Some w ↦
          let below = exponent_below c.args.size k.now w.in-Some.exponent w.in-Some.ensures in
          let size : length c.loop-kept.seen.items ≡ exponent_limit + 1 = sym c.loop-kept.seen.ok.0 ∙ before.all in
          let fits : w.in-Some.exponent < length c.loop-kept.seen.items = rw size below in
          record {
            all = ap vec_len w.seen-is ∙ before.all;
            each = λ e low. ap (λ v. get_or v.items e false) w.seen-is
                ∙ seen_more c.args.size (λ k. k.now) own i k c.loop-kept.seen.items w.in-Some.exponent e
                c.loop-kept-test.true c.kept-item.is fits w.in-Some.ensures (before.each e low);
          }
      | in_default w ↦ record {
        all = ap vec_len w.seen-is ∙ before.all;
        each = λ e low. ap (λ v. get_or v.items e false) w.seen-is
            ∙ seen_same c.args.size (λ k. k.now) own i k e _ c.loop-kept-test.true c.kept-item.is w.in_default.ensures (before.each e low);
      }
    ]

pub returns : goal.returns
unfolding all_exponents
returns c =
    fill_by_all _ c.loop-kept.seen.items (exponent_limit + 1) false (sym c.loop-kept.seen.ok.0 ∙ c.loop-kept.invariant.all)
    (λ e below. c.loop-kept.invariant.each e below
    ∙ ap (λ ks. list_any (has_exponent c.args.size e) (map (λ k. k.now) ks)) (take_all c.loop-kept.kept-index c.args.own.now c.loop-kept-test.false))
