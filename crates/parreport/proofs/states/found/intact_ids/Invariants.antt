use Rattle.std.proofs.Common.{◌≡◌, ◌&&◌, ◌||◌, drop, map}
use Rattle.std.specs.BTreeSet.{contains}
use Rattle.std.specs.List.{list_any}
use Rattle.std.specs.Str.{bytes_eq}
use Rattle.parfield.specs.HashOrder.{id_cmp}
use Rattle.parfield.specs.declared.hash16.Hash16.{Hash16}
use Rattle.parset.specs.declared.recovery_set.SetFile.{SetFile}
use Rattle.parreport.specs.declared.states.state.State.{State}
use Rattle.parreport.specs.States.{is_intact}
use Rattle.parreport.proofs.states.found.intact_ids.Given as goal

-- a whole file has an ID exactly if it is in the set, or if a whole file that is left has it
abbrev pub invariant-loop-index : goal.invariant-loop-index
invariant-loop-index l =
    (state_at : SetFile → State) → l.states ≡ map state_at l.files → (id : Hash16)
    → (contains id_cmp l.whole id || list_any (λ file. bytes_eq file.id.0 id.0 && is_intact (state_at file)) (drop l.index l.files))
    ≡ list_any (λ file. bytes_eq file.id.0 id.0 && is_intact (state_at file)) l.files
