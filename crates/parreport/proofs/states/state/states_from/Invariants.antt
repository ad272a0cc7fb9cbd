use Rattle.std.proofs.Common.{◌≡◌, map, take}
use Rattle.parreport.specs.Lookups.{looked_up_state_of}
use Rattle.parreport.proofs.states.state.states_from.Given as goal

-- the states of the files so far
abbrev pub invariant-loop-file : goal.invariant-loop-file
invariant-loop-file l = l.states.items ≡ map (looked_up_state_of l.lookups) (take l.file-index l.set_files)
