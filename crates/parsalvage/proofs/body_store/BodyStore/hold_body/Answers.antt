use Rattle.std.proofs.Common.{◌≡◌, ◌-◌, ◌∙◌, ap, sym, length, take, drop, length-drop, arith, rules}
use Rattle.std.proofs.lemmas.List.{length-take-le}
use Rattle.std.proofs.lemmas.Grind.{common_steps}
use Rattle.parsalvage.specs.Kept.{kept_body}
use Rattle.parsalvage.proofs.KeptLaws.{kept_whole}
use Rattle.parsalvage.proofs.body_store.BodyStore.hold_body.Goals as goal

pub hold-requires-clause-within : goal.hold-requires-clause-within
hold-requires-clause-within g c = grind (arith, common_steps) steps 100000

pub hold-requires-clause-later : goal.hold-requires-clause-later
hold-requires-clause-later g c = grind (arith, common_steps) steps 100000

pub hold-requires-clause-store : goal.hold-requires-clause-store
hold-requires-clause-store g c = grind (arith, common_steps) steps 100000

pub hold-requires-clause-piece : goal.hold-requires-clause-piece
hold-requires-clause-piece g c = grind (arith, common_steps) steps 100000

pub hold-requires-clause-run : goal.hold-requires-clause-run
hold-requires-clause-run g c = grind (arith, common_steps) steps 100000

pub returns-in_err-place-clause-store : goal.returns-in_err-place-clause-store
returns-in_err-place-clause-store g c = grind (arith, common_steps) steps 100000

pub returns-in_err-place-clause-begins : goal.returns-in_err-place-clause-begins
returns-in_err-place-clause-begins g c = grind (arith, common_steps) steps 100000

pub returns-in_err-place-clause-fits : goal.returns-in_err-place-clause-fits
returns-in_err-place-clause-fits g c = grind (arith, common_steps) steps 100000

pub returns-in_err-place-clause-keeps : goal.returns-in_err-place-clause-keeps
returns-in_err-place-clause-keeps g c = grind (arith, common_steps) steps 100000

pub returns-in_err-place-clause-run : goal.returns-in_err-place-clause-run
returns-in_err-place-clause-run g c = grind (arith, common_steps) steps 400000

pub returns-in_err-place-clause-body : goal.returns-in_err-place-clause-body
returns-in_err-place-clause-body g c = grind (arith, common_steps) steps 100000

pub returns-in_err-place-clause-leaves : goal.returns-in_err-place-clause-leaves
returns-in_err-place-clause-leaves g c = grind (arith, common_steps) steps 100000

pub returns-then-is_whole-clause-store : goal.returns-then-is_whole-clause-store
returns-then-is_whole-clause-store g c = grind (arith, common_steps) steps 100000

pub returns-then-is_whole-clause-begins : goal.returns-then-is_whole-clause-begins
returns-then-is_whole-clause-begins g c = grind (arith, common_steps) steps 100000

pub returns-then-is_whole-clause-fits : goal.returns-then-is_whole-clause-fits
returns-then-is_whole-clause-fits g c = grind (arith, common_steps) steps 100000

pub returns-then-is_whole-clause-keeps : goal.returns-then-is_whole-clause-keeps
returns-then-is_whole-clause-keeps g c = grind (arith, common_steps) steps 100000

pub returns-then-is_whole-clause-run : goal.returns-then-is_whole-clause-run
returns-then-is_whole-clause-run g c = grind (arith, common_steps) steps 100000

pub returns-then-is_whole-clause-body : goal.returns-then-is_whole-clause-body
returns-then-is_whole-clause-body g c = λ files reads.
    let part = c.in_ok-place.ensures.part files reads in
    let long : length (take (c.args.head.length - 64) (drop c.in_ok-place.place c.hold.new.self.bytes.items)) ≡ c.args.head.length - 64
    = length-take-le _ _ (omega (arith, c.in_ok-place.ensures.fits, length-drop c.in_ok-place.place c.hold.new.self.bytes.items)) in
    sym (kept_whole c.args.head.kind _ (c.args.head.length - 64) long (rw c.if-is_whole.true at c.is_whole.ensures)) ∙ ap (kept_body c.args.head.kind) part

pub returns-then-is_whole-clause-leaves : goal.returns-then-is_whole-clause-leaves
returns-then-is_whole-clause-leaves g c = grind (arith, common_steps) steps 100000

pub read_front-requires-clause-within : goal.read_front-requires-clause-within
read_front-requires-clause-within g c = grind (arith, common_steps) steps 100000

pub read_front-requires-clause-piece : goal.read_front-requires-clause-piece
read_front-requires-clause-piece g c = grind (arith, common_steps) steps 100000

pub returns-in_err-first-clause-store : goal.returns-in_err-first-clause-store
returns-in_err-first-clause-store g c = grind (arith, common_steps) steps 100000

pub returns-in_err-first-clause-begins : goal.returns-in_err-first-clause-begins
returns-in_err-first-clause-begins g c = grind (arith, common_steps) steps 100000

pub returns-in_err-first-clause-fits : goal.returns-in_err-first-clause-fits
returns-in_err-first-clause-fits g c = grind (arith, common_steps) steps 100000

pub returns-in_err-first-clause-keeps : goal.returns-in_err-first-clause-keeps
returns-in_err-first-clause-keeps g c = grind (arith, common_steps) steps 100000

pub returns-in_err-first-clause-run : goal.returns-in_err-first-clause-run
returns-in_err-first-clause-run g c = grind (arith, common_steps) steps 100000

pub returns-in_err-first-clause-body : goal.returns-in_err-first-clause-body
returns-in_err-first-clause-body g c = grind (arith, common_steps) steps 100000

pub returns-in_err-first-clause-leaves : goal.returns-in_err-first-clause-leaves
returns-in_err-first-clause-leaves g c = grind (arith, common_steps) steps 400000

pub returns-clause-store : goal.returns-clause-store
returns-clause-store g c = grind (arith, common_steps) steps 100000

pub returns-clause-begins : goal.returns-clause-begins
returns-clause-begins g c = grind (arith, common_steps) steps 100000

pub returns-clause-fits : goal.returns-clause-fits
returns-clause-fits g c = grind (arith, common_steps) steps 100000

pub returns-clause-keeps : goal.returns-clause-keeps
returns-clause-keeps g c = grind (arith, common_steps) steps 100000

pub returns-clause-run : goal.returns-clause-run
returns-clause-run g c = λ files reads. c.requires.run files (c.in_ok-first.ensures.leaves.0.older files reads)

pub returns-clause-leaves : goal.returns-clause-leaves
returns-clause-leaves g c = grind (arith, common_steps) steps 100000

pub returns-clause-body : goal.returns-clause-body
returns-clause-body g c = grind (arith, common_steps, g.met.H.Shelf.well_formed)

pub overflow_add-from : goal.overflow_add-from
overflow_add-from g c = search rules steps 300000

pub overflow_sub-size : goal.overflow_sub-size
overflow_sub-size g c = grind (arith, common_steps) steps 100000
