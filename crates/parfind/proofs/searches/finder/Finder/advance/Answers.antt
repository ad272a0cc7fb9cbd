use Rattle.std.proofs.Common.{rules, ◌≡◌, ℕ, sym, ◌∙◌, Some, Ok, Err}
use Rattle.std.proofs.lemmas.Result.{err_from_is_err_and}
use Rattle.parshelf.specs.Shelf.{ShelfState}
use Rattle.parfind.specs.Finders.{sought_for}
use Rattle.parfind.specs.Sought.{Sought}
use Rattle.parfind.specs.declared.searches.finder.Visit.TheVariants.{Hit, End}
use Rattle.parfind.proofs.search_laws.StepLaws.{budget_left, leaves_some, none_left}
use Rattle.parfind.proofs.search_laws.TryPlaceLaws.{none_so_far, tried_ends, tried_is, tried_passes, tried_spends}
use Rattle.parfind.proofs.searches.finder.Finder.advance.Goals as goal

pub loop-sighting-init : goal.loop-sighting-init
loop-sighting-init g c = record {
  belongs = c.requires.belongs;
  so_far = none_so_far (sought_for c.args.index.now c.args.self.now) c.args.budget c.requires.budget (g.H.Shelf.state c.args.shelf.now) c.args.self.now;
}

pub try_place-requires-clause-left : goal.try_place-requires-clause-left
try_place-requires-clause-left g c =
    let so_far = c.loop-sighting.invariant.so_far in
    leaves_some c.args.budget c.loop-sighting.left so_far.count so_far.leaves

pub returns-in-Hit : goal.returns-in-Hit
returns-in-Hit g c =
    let sought : Sought = sought_for c.args.index.now c.args.self.now in
    let old : ShelfState = g.H.Shelf.state c.args.shelf.now in
    let l = c.loop-sighting in
    let mid : ShelfState = g.H.Shelf.state l.shelf in
    let t = c.try_place.new in
    let new : ShelfState = g.H.Shelf.state t.shelf in
    let r = c.in_ok-sighting.ensures in
    let tried = tried_is sought l.left mid new l.self t.self _ _ c.in-Hit.is
    (record { sees = rw l.invariant.so_far.along.mode_is at r.sees; moves = r.moves; advances = r.advances; within = r.within; along = r.along }) in
    let made = tried_ends sought c.args.budget l.left old mid new c.args.self.now l.self t.self l.invariant.so_far (Ok (Hit c.in-Hit.sighting)) (λ e. cc) tried in
    record { belongs = r.belongs; answer = made.answer; moves = made.moves; advances = made.advances; along = made.along }

pub returns-in-End : goal.returns-in-End
returns-in-End g c =
    let sought : Sought = sought_for c.args.index.now c.args.self.now in
    let old : ShelfState = g.H.Shelf.state c.args.shelf.now in
    let l = c.loop-sighting in
    let mid : ShelfState = g.H.Shelf.state l.shelf in
    let t = c.try_place.new in
    let new : ShelfState = g.H.Shelf.state t.shelf in
    let r = c.in_ok-sighting.ensures in
    let tried = tried_is sought l.left mid new l.self t.self _ _ c.in-End.is
    (record { sees = rw l.invariant.so_far.along.mode_is at r.sees; moves = r.moves; advances = r.advances; within = r.within; along = r.along }) in
    let made = tried_ends sought c.args.budget l.left old mid new c.args.self.now l.self t.self l.invariant.so_far (Ok End) (λ e. cc) tried in
    record { belongs = r.belongs; answer = made.answer; moves = made.moves; advances = made.advances; along = made.along }

pub returns-in_err-sighting : goal.returns-in_err-sighting
returns-in_err-sighting g c =
    let sought : Sought = sought_for c.args.index.now c.args.self.now in
    let old : ShelfState = g.H.Shelf.state c.args.shelf.now in
    let l = c.loop-sighting in
    let mid : ShelfState = g.H.Shelf.state l.shelf in
    let t = c.try_place.new in
    let new : ShelfState = g.H.Shelf.state t.shelf in
    let r = c.in_err-sighting.ensures in
    let fault = c.in_err-sighting.field-0.0 in
    let made = tried_ends sought c.args.budget l.left old mid new c.args.self.now l.self t.self l.invariant.so_far (Err fault) (λ e. cc)
    (record { sees = rw l.invariant.so_far.along.mode_is at r.sees; moves = r.moves; advances = r.advances; within = r.within; along = r.along }) in
    let failed = err_from_is_err_and c.from_residual.result c.from_residual.ensures.1 in
    rw (failed.1, failed.2)
    (record { belongs = r.belongs; answer = made.answer; moves = made.moves; advances = made.advances; along = made.along })

pub returns-then-eq : goal.returns-then-eq
returns-then-eq g c =
    let sought : Sought = sought_for c.args.index.now c.args.self.now in
    let old : ShelfState = g.H.Shelf.state c.args.shelf.now in
    let l = c.loop-sighting in
    let mid : ShelfState = g.H.Shelf.state l.shelf in
    let t = c.try_place.new in
    let new : ShelfState = g.H.Shelf.state t.shelf in
    let r = c.in_ok-sighting.ensures in
    let tried = tried_is sought l.left mid new l.self t.self _ _ c.in-Passed.is
    (record { sees = rw l.invariant.so_far.along.mode_is at r.sees; moves = r.moves; advances = r.advances; within = r.within; along = r.along }) in
    let m : ℕ = c.in-Passed.count in
    let none : budget_left l.left m ≡ Some 0 =
    sym c.budget_left-left.ensures ∙ none_left c.budget_left-left.result (sym c.eq.ensures ∙ c.if-eq.true) in
    let made = tried_spends sought c.args.budget l.left old mid new c.args.self.now l.self t.self l.invariant.so_far m none tried in
    record { belongs = r.belongs; answer = made.answer; moves = made.moves; advances = made.advances; along = made.along }

pub loop-sighting-preserved : goal.loop-sighting-preserved
loop-sighting-preserved g c =
    let sought : Sought = sought_for c.args.index.now c.args.self.now in
    let old : ShelfState = g.H.Shelf.state c.args.shelf.now in
    let l = c.loop-sighting in
    let mid : ShelfState = g.H.Shelf.state l.shelf in
    let t = c.try_place.new in
    let new : ShelfState = g.H.Shelf.state t.shelf in
    let r = c.in_ok-sighting.ensures in
    let tried = tried_is sought l.left mid new l.self t.self _ _ c.in-Passed.is
    (record { sees = rw l.invariant.so_far.along.mode_is at r.sees; moves = r.moves; advances = r.advances; within = r.within; along = r.along }) in
    let m : ℕ = c.in-Passed.count in
    let some : budget_left l.left m ≡ Some 0 → ⊥ = search rules in
    record {
      belongs = r.belongs;
      so_far = rw c.budget_left-left.ensures
          (tried_passes sought c.args.budget l.left old mid new c.args.self.now l.self t.self l.invariant.so_far m some tried);
    }
