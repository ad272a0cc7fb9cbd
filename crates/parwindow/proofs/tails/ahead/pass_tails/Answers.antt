use Rattle.std.proofs.Common.{◌≡◌, ◌∙◌, true, false, length, sym}
use Rattle.parwindow.specs.Ahead.{window_bytes}
use Rattle.parwindow.specs.Until.{pushed_content}
use Rattle.parwindow.proofs.window_laws.PushPastLaws.{are_ahead, no_tail}
use Rattle.parwindow.proofs.tails.ahead.pass_tails.Goals.{in-Some, in-None}
use Rattle.parwindow.proofs.tails.ahead.pass_tails.Goals as goal

pub returns-clause-all : goal.returns-clause-all
returns-clause-all c = λ all.
    let s = c.args.stream.now in
    let content = window_bytes s in
    let after = pushed_content content s.bytes.now (length s.bytes.now) in
    elim c.match-running.branch [
      | in-Some w ↦
          c.go_ahead.ensures.each (length content) content after
          (rw w.tails-is w.look_and_run-passed.ensures.each)
          (are_ahead c.args.index.now content s.bytes.now c.match-running.tails
          (rw w.tails-is (w.look_and_run-passed.ensures.passed (sym w.passed-is ∙ all))))
      | in-None w ↦
          c.go_ahead.ensures.each (length content) content after
          (rw w.tails-is w.look_ahead-passed.ensures.each)
          (are_ahead c.args.index.now content s.bytes.now c.match-running.tails
          (rw w.tails-is (w.look_ahead-passed.ensures.passed (sym w.passed-is ∙ all))))
    ]

pub returns-clause-none : goal.returns-clause-none
returns-clause-none c = λ all k some few hit.
    let s = c.args.stream.now in
    let content = window_bytes s in
    let had = rw c.go_ahead.ensures.lengths at hit in
    elim c.match-running.branch [
      | in-Some w ↦
          let no = no_tail c.args.index.now (length content) k content s.bytes.now
          c.match-running.tails (rw w.tails-is w.look_and_run-passed.ensures.each)
          (rw w.tails-is (w.look_and_run-passed.ensures.passed (sym w.passed-is ∙ all))) some few in
          let wrong : true ≡ false = sym had ∙ no in
          cc
      | in-None w ↦
          let no = no_tail c.args.index.now (length content) k content s.bytes.now
          c.match-running.tails (rw w.tails-is w.look_ahead-passed.ensures.each)
          (rw w.tails-is (w.look_ahead-passed.ensures.passed (sym w.passed-is ∙ all))) some few in
          let wrong : true ≡ false = sym had ∙ no in
          cc
    ]
