use Rattle.std.proofs.Common.{◌≡◌, ◌-◌, Some}
use Rattle.parfind.specs.Expecting.{SeesMore}
use Rattle.parfind.proofs.surveys.short.Short.look_for_files.Given as goal

abbrev pub invariant-loop-own : goal.invariant-loop-own
invariant-loop-own l = record {
  window : l.window ≡ record l.fn.window { digests = l.window.digests };
  seen : SeesMore l.fn.window.content l.left l.fn.self (record { set = l.fn.self.set; seen = Some l.seen.items });
}

abbrev pub decreases-loop-own : goal.decreases-loop-own
decreases-loop-own l = l.fn.self.set.slice_size - l.from
