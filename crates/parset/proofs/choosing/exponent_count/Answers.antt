use Rattle.std.proofs.lemmas.Grind.{common_steps}
use Rattle.std.proofs.Common.{Bor, ℕ, ◌≡◌, ◌∙◌, map, count_by, ap, arith}
use Rattle.std.specs.List.{list_any}
use Rattle.parsalvage.specs.declared.kept.Kept.{Kept}
use Rattle.parset.specs.Choosing.{all_exponents, has_exponent}
use Rattle.parset.proofs.ExponentLaws.{count_by-map, seen-le}
use Rattle.parset.proofs.choosing.exponent_count.Goals as goal

pub overflow_cast-result : goal.overflow_cast-result
overflow_cast-result c =
    let seen = λ (e : ℕ). list_any (has_exponent c.args.size e) (map (λ (k : Bor Kept). k.now) c.args.own.now) in
    let counted : c.set_flags.result ≡ count_by (λ b. b) (map seen all_exponents) =
    c.set_flags.ensures ∙ ap (count_by (λ b. b)) (c.as_slice.ensures.value ∙ c.in_ok-seen.ensures) in
    omega (arith, seen-le seen)

pub returns : goal.returns
returns c =
    let seen = λ (e : ℕ). list_any (has_exponent c.args.size e) (map (λ (k : Bor Kept). k.now) c.args.own.now) in
    c.set_flags.ensures ∙ ap (count_by (λ b. b)) (c.as_slice.ensures.value ∙ c.in_ok-seen.ensures) ∙ count_by-map seen all_exponents

pub returns-in_err-seen : goal.returns-in_err-seen
returns-in_err-seen c = grind (arith, common_steps) steps 100000
