-- The places at which slices are looked for: each offset of each scanned file.
use Rattle.std.specs.Prelude.{ℕ, ◌+◌, List, length, map, slice_index, filter}
use Rattle.std.specs.List.{flat_map, range_with_len}
use Rattle.parfind.specs.declared.cursors.cursor.Cursor.{Cursor}
use Rattle.parfind.specs.declared.cursors.sighting.Sighting.{Sighting}
use Rattle.parfind.specs.Order.{is_before, is_from}
use Rattle.parfind.specs.Fetched.{Place}

-- the cursor at a place, before all slices
abbrev pub cursor_at : Place → Cursor
cursor_at p = record { file = p.file; offset = p.offset; slice = 0 }

-- the cursor just after a place
abbrev pub cursor_past : Place → Cursor
cursor_past p = record { file = p.file; offset = p.offset + 1; slice = 0 }

-- the place of a cursor, whatever its slice
abbrev pub place_at : Cursor → Place
place_at c = record { file = c.file; offset = c.offset }

-- the place of a sighting
abbrev pub place_of : Sighting → Place
place_of x = record { file = x.file; offset = x.offset }

-- a cursor with slice number 0, so that it is before all slices of its offset
abbrev pub place_start : Cursor → Cursor
place_start c = record c { slice = 0 }

-- the places of one file, by its number; `lengths` are those of all files
abbrev pub places_of_file : List ℕ → ℕ → List Place
places_of_file lengths file =
    map (λ offset. record { file = file; offset = offset })
    (range_with_len 0 (slice_index lengths file))

-- all places, by file and then by offset
unfoldable pub places_of : List ℕ → List Place
places_of lengths = flat_map (places_of_file lengths) (range_with_len 0 (length lengths))

-- the places that are not before the file and offset of a cursor
abbrev pub places_ahead : List ℕ → Cursor → List Place
places_ahead lengths c = filter (λ p. is_from (place_start c) (cursor_at p)) (places_of lengths)

-- those of them that are before the file and offset of another cursor
abbrev pub places_between : List ℕ → Cursor → Cursor → List Place
places_between lengths c d =
    filter (λ p. is_before (cursor_at p) (place_start d)) (places_ahead lengths c)
