-- A set as it is searched: the mode, and whether the set has too many short-slice lengths for it.
use Rattle.std.specs.Prelude.{Bool, true, false, nat_lt, length}
use Rattle.parset.specs.RecoverySet.{SetView}
use Rattle.parwindow.specs.Index.{slice_set_of}
use Rattle.parwindow.specs.Window.{tail_limit}
use Rattle.parfind.specs.Sought.{Sought, sought_of, shorter_lengths}
use Rattle.parfind.specs.declared.tracks.mode.Mode.{Mode}
use Rattle.parfind.specs.declared.tracks.mode.Mode.TheVariants.{Plain, Tails}

-- the mode of a command, with `--tails` or without
abbrev pub mode_of : Bool → Mode
mode_of true = Tails
mode_of false = Plain

-- the slices of a set, compared in this mode
abbrev pub set_sought_of : SetView → Mode → Sought
set_sought_of set mode = sought_of (slice_set_of set.size set.slices) mode

-- whether more than 256 short-slice lengths would be compared
abbrev pub has_too_many_tails : Sought → Bool
has_too_many_tails sought = nat_lt tail_limit (length (shorter_lengths sought.mode sought.set))
