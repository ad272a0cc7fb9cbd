-- Sightings, the matches of a search: slices of the set at offsets of scanned files (PAR2 2.0,
-- Input File Slice Checksum).
use Rattle.std.specs.Prelude.{◌≡◌, ℕ, ◌+◌, ◌&&◌, nat_lt, nat_le, Bool, List, [], ◌∷◌, ◌++◌, length, map, filter, slice_index_or, AllPairs, IsTrue}
use Rattle.std.specs.List.{flat_map, range_with_len}
use Rattle.parset.specs.declared.recovery_set.SetSlice.{SetSlice}
use Rattle.parwindow.specs.Index.{SliceSet, slice_passes, has_sums, sums_of}
use Rattle.parwindow.specs.Window.{window_at}
use Rattle.parfind.specs.declared.cursors.cursor.Cursor.{Cursor}
use Rattle.parfind.specs.declared.cursors.sighting.Sighting.{Sighting}
use Rattle.parfind.specs.Order.{is_before, is_from, origin, cursor_of, cursor_after}
use Rattle.parfind.specs.Fetched.{Place}
use Rattle.parfind.specs.Places.{places_of}
use Rattle.parfind.specs.Sought.{Sought, compared_window}
use Rattle.parfind.specs.declared.tracks.mode.Mode.{Mode}

-- a search: what is looked for, and the contents of the scanned files
pub record Scan : Type 0 where
  pub sought : Sought
  pub contents : List (List ℕ)

-- the content of a scanned file
abbrev pub content_of : Scan → ℕ → List ℕ
content_of scan file = slice_index_or scan.contents file []

-- whether a slice is seen at an offset of a file: the offset and the slice's unpadded length lie
-- inside the file, and the bytes of the window that are compared, filled up with zeros, have both
-- checksums of the slice
abbrev pub is_seen : Mode → ℕ → List ℕ → ℕ → SetSlice → Bool
is_seen mode size file offset slice =
    nat_lt offset (length file) && (nat_le (offset + slice.length) (length file)
    && has_sums (sums_of (compared_window mode (window_at size file offset) slice)) slice)

-- whether the set has a slice n, and it is seen at an offset of a file
abbrev pub is_slice_seen : Sought → List ℕ → ℕ → ℕ → Bool
is_slice_seen sought file offset n =
    slice_passes sought.set.slices (is_seen sought.mode sought.set.slice_size file offset) n

-- whether this slice is seen at this offset of this file
abbrev pub is_sighting : Scan → Sighting → Bool
is_sighting scan x = is_slice_seen scan.sought (content_of scan x.file) x.offset x.slice

-- one place with each slice of the set, seen there or not
abbrev pub triples_at : SliceSet → Place → List Sighting
triples_at set p =
    map (λ n. record { file = p.file; offset = p.offset; slice = n })
    (range_with_len 0 (length set.slices))

-- each place of files of these lengths with each slice of the set, seen there or not, in order
abbrev pub triples_of : SliceSet → List ℕ → List Sighting
triples_of set lengths = flat_map (triples_at set) (places_of lengths)

-- all sightings, by file, then by offset, then by slice
unfoldable pub sightings_of : Scan → List Sighting
sightings_of scan = filter (is_sighting scan) (triples_of scan.sought.set (map length scan.contents))

-- the sightings that are not before a cursor
abbrev pub sightings_from : Scan → Cursor → List Sighting
sightings_from scan c = filter (λ x. is_from c (cursor_of x)) (sightings_of scan)

-- the sightings from one cursor on that are before another cursor
abbrev pub sightings_between : Scan → Cursor → Cursor → List Sighting
sightings_between scan c d = filter (λ x. is_before (cursor_of x) d) (sightings_from scan c)

-- the sightings are in strictly rising order, so none appears twice
abbrev pub SightingsRise : Type 0
SightingsRise =
    (scan : Scan)
    → AllPairs (λ x y. IsTrue (is_before (cursor_of x) (cursor_of y))) (sightings_of scan)

-- the sightings from the first of all cursors on are all sightings
abbrev pub AllFromOrigin : Type 0
AllFromOrigin = (scan : Scan) → sightings_from scan origin ≡ sightings_of scan

-- the sightings after the first one from a cursor on are those from the cursor just after it
abbrev pub RestFollows : Type 0
RestFollows =
    (scan : Scan) (c : Cursor) (x : Sighting) (xs : List Sighting)
    → sightings_from scan c ≡ x ∷ xs → xs ≡ sightings_from scan (cursor_after x)

-- the sightings between a first and a second cursor, followed by those between the second and a
-- third, are those between the first and the third
abbrev pub BetweenJoins : Type 0
BetweenJoins =
    (scan : Scan) (a b c : Cursor) → IsTrue (is_from a b) → IsTrue (is_from b c)
    → sightings_between scan a b ++ sightings_between scan b c ≡ sightings_between scan a c
