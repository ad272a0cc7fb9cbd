use Rattle.std.proofs.lemmas.Grind.{common_steps}
use Rattle.std.proofs.Common.{◌≡◌, ◌+◌, List, [], ◌∷◌, ◌++◌, drop, ap, ◌∙◌, arith, rules, subst, Some, None}
use Rattle.std.specs.List.{Contains}
use Rattle.std.proofs.lemmas.List.Elements.{Contains-get_or}
use Rattle.parfind.specs.Sought.{Sought, sought_of}
use Rattle.parshelf.specs.Shelf.{ShelfState}
use Rattle.parfind.specs.declared.drives.calls.Call.{Call}
use Rattle.parfind.specs.declared.drives.calls.Call.TheVariants as call
use Rattle.parfind.specs.declared.drives.calls.Answer.{Answer}
use Rattle.parfind.proofs.drive_laws.DriveLaws.{asks_step, asks_next, drive_steps, drive_reopens, drive_stops, drive_ends, next_call, drop_all}
use Rattle.parfind.proofs.drives.driver.drive.Goals as goal
use Rattle.parfind.proofs.drives.driver.drive.Goals.{in-Step, in-Next, in-Reopen+in-Ok}

pub loop-call-preserved : goal.loop-call-preserved
loop-call-preserved g c =
    let sought : Sought = sought_of c.args.index.now c.args.mode in
    let old : ShelfState = g.H.Shelf.state c.args.shelf.now in
    let s : ShelfState = g.H.Shelf.state c.loop-call.shelf in
    let calls = c.args.calls.now in
    let i = c.loop-call.call-index in
    let later : List Call = drop (i + 1) calls in
    let xs : List Answer = c.loop-call.answers.items in
    let before = c.loop-call.invariant in
    let added = c.put-in-loop-call.ensures.items in
    elim c.match-call.branch [
      | in-Step w ↦
          let n = w.in-Step.budget in
          let r = w.step.ensures in
          rw (w.shelf-is, w.finder-is) (record {
            belongs = r.belongs;
            room = omega (arith, before.room, c.put-in-loop-call.ensures.capacity);
            count = omega (arith, before.count, c.put-in-loop-call.ensures.len);
            so_far = drive_steps sought old s (g.H.Shelf.state w.step.new.shelf) c.args.start c.loop-call.finder w.step.new.self calls later
                (call.Step n) (Some n) w.step.result xs c.put-in-loop-call.new.answers.items (asks_step n) (g.met.H.Shelf.well_formed c.loop-call.shelf)
                (rw (next_call calls i (call.Step n) _ c.loop-call-test.true w.in-Step.is) at before.so_far)
                (record { answer = rw before.so_far.mode_is at r.answer; moves = r.moves; advances = r.advances; along = r.along }) r.reads
                (added ∙ ap (λ (x : Answer). xs ++ x ∷ []) (search (rules, w.answer-is)));
          })
      | in-Next w ↦
          let r = w.next.ensures in
          rw (w.shelf-is, w.finder-is) (record {
            belongs = r.belongs;
            room = omega (arith, before.room, c.put-in-loop-call.ensures.capacity);
            count = omega (arith, before.count, c.put-in-loop-call.ensures.len);
            so_far = drive_steps sought old s (g.H.Shelf.state w.next.new.shelf) c.args.start c.loop-call.finder w.next.new.self calls later
                call.Next None w.next.result xs c.put-in-loop-call.new.answers.items asks_next (g.met.H.Shelf.well_formed c.loop-call.shelf)
                (rw (next_call calls i call.Next _ c.loop-call-test.true w.in-Next.is) at before.so_far)
                (record { answer = rw before.so_far.mode_is at r.answer; moves = r.moves; advances = r.advances; along = r.along }) r.reads
                (added ∙ ap (λ (x : Answer). xs ++ x ∷ []) (search (rules, w.answer-is)));
          })
      | in-Reopen+in-Ok w ↦
          let r = w.in-Ok.ensures in
          let there : Contains calls call.Reopen =
          subst (Contains calls) w.in-Reopen.is (Contains-get_or calls i _ c.loop-call-test.true) in
          rw (w.shelf-is, w.finder-is) (record {
            belongs = r.belongs;
            room = omega (arith, before.room, c.put-in-loop-call.ensures.capacity);
            count = omega (arith, before.count, c.put-in-loop-call.ensures.len);
            so_far = drive_reopens sought old s c.args.start c.loop-call.finder w.in-Ok.next calls later xs
                c.put-in-loop-call.new.answers.items there
                (rw (next_call calls i call.Reopen _ c.loop-call-test.true w.in-Reopen.is) at before.so_far)
                (r.cursor ∙ w.cursor-at.ensures) r.mode (added ∙ ap (λ (x : Answer). xs ++ x ∷ []) (search (rules, w.answer-is)));
          })
    ]

pub returns-in-Err : goal.returns-in-Err
returns-in-Err g c =
    let sought : Sought = sought_of c.args.index.now c.args.mode in
    let old : ShelfState = g.H.Shelf.state c.args.shelf.now in
    let s : ShelfState = g.H.Shelf.state c.loop-call.shelf in
    let calls = c.args.calls.now in
    let i = c.loop-call.call-index in
    let there : Contains calls call.Reopen =
    subst (Contains calls) c.in-Reopen.is (Contains-get_or calls i _ c.loop-call-test.true) in
    let so_far = drive_stops sought old s c.args.start c.loop-call.finder calls (drop (i + 1) calls) c.loop-call.answers.items
    c.put.new.answers.items there
    (rw (next_call calls i call.Reopen _ c.loop-call-test.true c.in-Reopen.is) at c.loop-call.invariant.so_far)
    c.put.ensures.items in
    let e = c.drive_of.ensures in
    let gave = drive_ends sought old s c.args.start c.drive_of.result.cursor c.loop-call.finder calls c.put.new.answers.items
    so_far (e.cursor ∙ c.cursor-at.ensures) in
    rw e.answers (record {
      answer = gave.answer;
      each = gave.each;
      onward = gave.onward;
      told = gave.told;
      untouched = tt;
      tails = c.in_ok-finder.ensures.tails;
      reads = gave.reads;
    })

pub returns : goal.returns
returns g c =
    let sought : Sought = sought_of c.args.index.now c.args.mode in
    let old : ShelfState = g.H.Shelf.state c.args.shelf.now in
    let s : ShelfState = g.H.Shelf.state c.loop-call.shelf in
    let calls = c.args.calls.now in
    let i = c.loop-call.call-index in
    let so_far = rw (drop_all calls i c.loop-call-test.false) at c.loop-call.invariant.so_far in
    let e = c.drive_of-2.ensures in
    let gave = drive_ends sought old s c.args.start c.drive_of-2.result.cursor c.loop-call.finder calls c.loop-call.answers.items
    so_far (e.cursor ∙ c.cursor.ensures) in
    let told : c.drive_of-2.result.answers ≡ c.loop-call.answers.items = search (rules, e.answers) in
    rw told (record {
      answer = gave.answer;
      each = gave.each;
      onward = gave.onward;
      told = gave.told;
      untouched = tt;
      tails = c.in_ok-finder.ensures.tails;
      reads = gave.reads;
    })

pub loop-call-init : goal.loop-call-init
loop-call-init g c = grind (arith, common_steps) steps 1500000

pub offset_bounds-calls-call-index : goal.offset_bounds-calls-call-index
offset_bounds-calls-call-index g c = grind (arith, common_steps) steps 400000

pub step-requires-clause-budget : goal.step-requires-clause-budget
step-requires-clause-budget g c = grind (arith, common_steps) steps 1500000

pub step-requires-clause-belongs : goal.step-requires-clause-belongs
step-requires-clause-belongs g c = c.loop-call.invariant.belongs

pub put-requires : goal.put-requires
put-requires g c = grind (arith, common_steps) steps 400000

pub put-requires-in-loop-call : goal.put-requires-in-loop-call
put-requires-in-loop-call g c = grind (arith, common_steps) steps 100000
