-- The two modes compared: the plain mode compares the whole window for each slice.
use Rattle.std.specs.Prelude.{◌≡◌, ℕ, ◌+◌, ◌-◌, ◌&&◌, nat_lt, nat_le, Bool, List, length, map, filter, drop, replicate}
use Rattle.parset.specs.declared.recovery_set.SetSlice.{SetSlice}
use Rattle.parwindow.specs.Crc32.{crc_of}
use Rattle.parwindow.specs.Index.{SliceSet, has_sums, set_has_crc, sums_of}
use Rattle.parwindow.specs.Missing.{set_has_missing}
use Rattle.parwindow.specs.Window.{window_at}
use Rattle.parfind.specs.declared.cursors.cursor.Cursor.{Cursor}
use Rattle.parfind.specs.declared.tracks.mode.Mode.TheVariants.{Plain, Tails}
use Rattle.parfind.specs.Marks.{marked_between, missing_count, window_of}
use Rattle.parfind.specs.Places.{places_of, places_between}
use Rattle.parfind.specs.Sightings.{Scan, content_of, is_seen}
use Rattle.parfind.specs.Sought.{sought_of}

-- in the plain mode, a slice is seen if the whole window has both its checksums, and it fits into
-- the file there
abbrev pub PlainSees : Type 0
PlainSees =
    (size : ℕ) (file : List ℕ) (offset : ℕ) (slice : SetSlice)
    → is_seen Plain size file offset slice
    ≡ (nat_lt offset (length file) && (nat_le (offset + slice.length) (length file)
    && has_sums (sums_of (window_at size file offset)) slice))

-- a search in the plain mode
abbrev pub plain_scan : SliceSet → List (List ℕ) → Scan
plain_scan set contents = record { sought = sought_of set Plain; contents = contents }

-- in the plain mode, the number of marks is the number of places whose window has the CRC-32 of a
-- slice
abbrev pub PlainMarks : Type 0
PlainMarks =
    (set : SliceSet) (contents : List (List ℕ)) (c d : Cursor)
    → let scan : Scan = plain_scan set contents in
    marked_between scan c d
    ≡ length (filter (λ p. set_has_crc set (crc_of (window_of scan p)))
    (places_between (map length contents) c d))

-- in the plain mode, a survey's `missing_count` is the number of places whose window has the CRC-32
-- of a slice that fits there and isn't found
abbrev pub PlainMisses : Type 0
PlainMisses =
    (set : SliceSet) (contents : List (List ℕ)) (found : List Bool)
    → let scan : Scan = plain_scan set contents in
    missing_count scan found
    ≡ length (filter (λ p. set_has_missing set found (crc_of (window_of scan p))
    (length (content_of scan p.file) - p.offset)) (places_of (map length contents)))

-- if only zeros follow a slice's unpadded length in the window, both modes see the slice there, or
-- neither does
abbrev pub ModesAgree : Type 0
ModesAgree =
    (size : ℕ) (file : List ℕ) (offset : ℕ) (slice : SetSlice)
    → drop slice.length (window_at size file offset) ≡ replicate (size - slice.length) 0
    → is_seen Tails size file offset slice ≡ is_seen Plain size file offset slice
