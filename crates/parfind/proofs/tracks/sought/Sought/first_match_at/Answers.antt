use Rattle.std.proofs.Common.{◌≡◌, ◌≤◌, ◌<◌, ◌∙◌, sym, ap, arith}
use Rattle.std.proofs.lemmas.Bool.{le-leb, lt-leb}
use Rattle.parfind.specs.Fitting.{is_fitting_match}
use Rattle.parfind.specs.Sought.{Sought}
use Rattle.parfind.proofs.track_laws.ComparedLaws.{compared_plain, compared_tails, own_first, own_none}
use Rattle.parfind.proofs.tracks.sought.Sought.first_match_at.Goals as goal

pub returns-in-Plain-clause-first : goal.returns-in-Plain-clause-first
returns-in-Plain-clause-first c =
    let set = c.args.self.now.set in
    let set_is : c.self.inside.index.now ≡ set = ap (λ (s : Sought). s.set) c.self.view_is in
    let mode_is = sym (ap (λ (s : Sought). s.mode) c.self.view_is) ∙ c.in-Plain.is in
    rw (compared_plain set c.args.self.now.mode c.args.k (is_fitting_match c.args.sums c.args.left) mode_is c.requires)
    (rw set_is at c.first_fitting_match.ensures.first)

pub returns-then-own-left-clause-first : goal.returns-then-own-left-clause-first
returns-then-own-left-clause-first c =
    let set = c.args.self.now.set in
    let set_is : c.self.inside.index.now ≡ set = ap (λ (s : Sought). s.set) c.self.view_is in
    let mode_is = sym (ap (λ (s : Sought). s.mode) c.self.view_is) ∙ c.in-Tails.is in
    let own = c.length_at-own.result in
    let fits : own ≤ c.args.left = omega (arith, c.if-own-left.true) in
    rw (← c.length_at-own.ensures, compared_tails set c.args.self.now.mode own (is_fitting_match c.args.sums c.args.left) mode_is)
    (own_first set.slices c.args.sums own c.args.left c.args.first c.next_match_of-found.result (le-leb own c.args.left fits)
    (rw set_is at c.next_match_of-found.ensures.found))

pub returns-else-own-left-clause-first : goal.returns-else-own-left-clause-first
returns-else-own-left-clause-first c =
    let set = c.args.self.now.set in
    let mode_is = sym (ap (λ (s : Sought). s.mode) c.self.view_is) ∙ c.in-Tails.is in
    let own = c.length_at-own.result in
    let passes : c.args.left < own = omega (arith, c.if-own-left.false) in
    rw (← c.length_at-own.ensures, compared_tails set c.args.self.now.mode own (is_fitting_match c.args.sums c.args.left) mode_is)
    (own_none set.slices c.args.sums own c.args.left c.args.first (lt-leb own c.args.left passes))
