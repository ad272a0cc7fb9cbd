-- The order in which files are searched: by file, then by offset, then by slice.
use Rattle.std.specs.Prelude.{◌+◌, ◌==◌, ◌||◌, ◌&&◌, nat_lt, not, Bool}
use Rattle.parfind.specs.declared.cursors.cursor.Cursor.{Cursor}
use Rattle.parfind.specs.declared.cursors.sighting.Sighting.{Sighting}

-- whether cursor a is before cursor b
abbrev pub is_before : Cursor → Cursor → Bool
is_before a b =
    nat_lt a.file b.file || (a.file == b.file
    && (nat_lt a.offset b.offset || (a.offset == b.offset && nat_lt a.slice b.slice)))

-- whether cursor b is not before cursor a
abbrev pub is_from : Cursor → Cursor → Bool
is_from a b = not (is_before b a)

-- the first of all cursors
abbrev pub origin : Cursor
origin = record { file = 0; offset = 0; slice = 0 }

-- the cursor at a sighting
abbrev pub cursor_of : Sighting → Cursor
cursor_of x = record { file = x.file; offset = x.offset; slice = x.slice }

-- the cursor just after a sighting
abbrev pub cursor_after : Sighting → Cursor
cursor_after x = record { file = x.file; offset = x.offset; slice = x.slice + 1 }
