-- The short slices that a survey looks for, as contracts see them.
use Rattle.std.specs.Option.{option_map}
use Rattle.parfind.specs.Expecting.{ShortState}
use Rattle.parfind.specs.declared.surveys.short.Short.TheInside.{Inside}

-- the set and the flags of `Short`, without its other fields
abbrev pub short_view : Inside → ShortState
short_view s = record { set = s.all.now; seen = option_map (λ flags. flags.items) s.seen }
