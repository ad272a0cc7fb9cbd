-- When a search can't be started because its short slices have too many different lengths.
use Rattle.std.specs.Prelude.{Result, Ok, Err}
use Rattle.parfind.specs.Sought.{Sought, HasFewTails}
use Rattle.parfind.specs.declared.searches.start_fault.StartFault.{StartFault}
use Rattle.parfind.specs.declared.searches.start_fault.StartFault.TheVariants.{TooManyTails, Memory}

-- a call that starts a search returns `TooManyTails` exactly if more than 256 short-slice lengths
-- are compared
abbrev pub TellsTails : {A : Type 0} → Sought → Result A StartFault → Type 0
TellsTails sought (Ok answer) = HasFewTails sought
TellsTails sought (Err TooManyTails) = ¬ HasFewTails sought
TellsTails sought (Err Memory) = HasFewTails sought
