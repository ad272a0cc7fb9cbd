-- Whether slices are expected at later offsets of a file.
use Rattle.std.specs.Prelude.{Bool, nat_lt}
use Rattle.parfind.specs.declared.surveys.expected.Expected.{Expected}

-- whether at least one slice is expected
abbrev pub is_waiting : Expected → Bool
is_waiting expected = nat_lt 0 expected.count
