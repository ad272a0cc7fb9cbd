use Rattle.std.proofs.Common.{length, take}
use Rattle.parwindow.specs.Ahead.{window_bytes}
use Rattle.parwindow.proofs.tail_laws.RunningLaws.{runs_on}
use Rattle.parwindow.proofs.tails.ahead.look_and_run.Goals as goal

pub look_ahead-passed-requires-else-work-lt-LEAST_WORK-clause-places :
    goal.look_ahead-passed-requires-else-work-lt-LEAST_WORK-clause-places
look_ahead-passed-requires-else-work-lt-LEAST_WORK-clause-places c =
    let s = c.args.stream.now in
    let run = c.requires.running in (
      c.new-places.ensures.stream,
      record {
        start = run.start;
        few = rw c.new-places.ensures.stream c.requires.few;
        runs = rw (c.new-places.ensures.stream, c.new-places.ensures.registers, c.as_slices.ensures)
            (runs_on run.start (window_bytes s) s.bytes.now c.args.running.now.before.items
            (take (length s.bytes.now) c.coming-coming.result.registers) run.before
            (rw run.last at c.coming-coming.ensures.before));
      },
    )
