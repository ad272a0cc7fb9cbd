use Rattle.std.proofs.Common.{◌≡◌, drop}
use Rattle.parset.specs.Choosing.{first_main_of}
use Rattle.parset.proofs.choosing.first_main.Given as goal

-- no packet before this one is a usable Main packet of the chosen set, so the packets that are
-- left have the first one
abbrev pub invariant-loop-kept : goal.invariant-loop-kept
invariant-loop-kept l = first_main_of l.choice (drop l.kept-index l.packets) ≡ first_main_of l.choice l.packets
