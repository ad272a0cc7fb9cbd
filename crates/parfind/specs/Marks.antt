-- Marks: a mark is a place and a compared length at which the window has the CRC-32 of a slice of
-- that compared length (a CRC match). A search takes no more digests (MD5s) than there are marks.
use Rattle.std.specs.Prelude.{ℕ, ◌-◌, Bool, List, length, map, filter}
use Rattle.std.specs.List.{sum_by}
use Rattle.parwindow.specs.Crc32.{crc_of}
use Rattle.parwindow.specs.Missing.{has_unfound, has_fit_crc_of}
use Rattle.parwindow.specs.Window.{window_at}
use Rattle.parfind.specs.declared.cursors.cursor.Cursor.{Cursor}
use Rattle.parfind.specs.Fetched.{Place}
use Rattle.parfind.specs.Places.{cursor_past, place_at, places_of, places_between}
use Rattle.parfind.specs.Sightings.{Scan, content_of}
use Rattle.parfind.specs.Sought.{Sought, count_compared, is_compared, compared_bytes, compared_lengths}

-- the window at a place
abbrev pub window_of : Scan → Place → List ℕ
window_of scan p = window_at scan.sought.set.slice_size (content_of scan p.file) p.offset

-- the number of marks at a place: of compared lengths at which its window has the CRC-32 of a slice
-- whose checksums are known
abbrev pub marks_at : Scan → Place → ℕ
marks_at scan p = count_compared scan.sought (window_of scan p)

-- the number of marks from the file and offset of a cursor on and before those of another
abbrev pub marked_between : Scan → Cursor → Cursor → ℕ
marked_between scan c d =
    sum_by (marks_at scan) (places_between (map length scan.contents) c d)

-- the number of marks from the file and offset of a cursor up to those of another, both included
abbrev pub marks : Scan → Cursor → Cursor → ℕ
marks scan c d = marked_between scan c (cursor_past (place_at d))

-- whether the first `own` bytes of the window, filled up with zeros, have the CRC-32 of a slice
-- whose compared length is `own`, whose checksums are known, which fits into the `left` bytes of
-- the file and isn't found
abbrev pub has_compared_missing : Sought → List Bool → List ℕ → ℕ → ℕ → Bool
has_compared_missing sought found window left own =
    has_unfound sought.set.slices found
    (is_compared sought own (has_fit_crc_of (crc_of (compared_bytes window own)) left))

-- the number of compared lengths at which the window has the CRC-32 of a slice that fits and isn't
-- found
abbrev pub count_missing : Sought → List Bool → List ℕ → ℕ → ℕ
count_missing sought found window left =
    length (filter (has_compared_missing sought found window left) (compared_lengths sought))

-- this number for the window of a place and for what is left of the file there
abbrev pub missing_at : Scan → List Bool → Place → ℕ
missing_at scan found p =
    count_missing scan.sought found (window_of scan p)
    (length (content_of scan p.file) - p.offset)

-- the sum of these numbers over all places
abbrev pub missing_count : Scan → List Bool → ℕ
missing_count scan found =
    sum_by (missing_at scan found) (places_of (map length scan.contents))
