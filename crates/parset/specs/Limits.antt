-- The limits of this project on packet bodies and on recovery sets.
use Rattle.std.specs.Prelude.{ℕ, ◌^◌}

-- the largest slice size, in bytes (256 MiB)
abbrev pub slice_size_limit : ℕ
slice_size_limit = 268435456

-- the most files that a Main packet may list, the non-recovery files included
abbrev pub file_limit : ℕ
file_limit = 32768

-- the most slices that all files may have together
abbrev pub slice_limit : ℕ
slice_limit = 32768

-- the most bytes that a name may have
abbrev pub name_limit : ℕ
name_limit = 4096

-- the least file length that is too large
abbrev pub file_length_limit : ℕ
file_length_limit = 2 ^ 63

-- the largest exponent that a recovery slice may have
abbrev pub exponent_limit : ℕ
exponent_limit = 65534
