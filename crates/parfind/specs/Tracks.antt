-- Tracks: a track is a window's way along a file, and the bytes that were read ahead of the window.
use Rattle.std.specs.Prelude.{◌≡◌, ℕ, ◌+◌, ◌<◌, ◌≤◌, ◌^◌, List, length, take, slice_index}
use Rattle.parshelf.specs.Shelf.{ShelfState, ReadsAs, file_of}
use Rattle.parset.specs.Limits.{slice_size_limit}
use Rattle.parwindow.specs.Window.{WindowState, window_at}
use Rattle.parfind.specs.declared.cursors.cursor.Cursor.{Cursor}
use Rattle.parfind.specs.declared.tracks.track.Track.{Track}
use Rattle.parfind.specs.Fetched.{Place, ahead_limit}
use Rattle.parfind.specs.Sought.{Sought, HasNoComparedCrc}

-- the bytes are those of a file from an offset on, and zeros past the file's end
pub record HasBytes (file : List ℕ) (offset : ℕ) (bytes : List ℕ) : Type 0 where
  pub each : (i : ℕ) → i < length bytes → slice_index bytes i ≡ slice_index file (offset + i)

-- the offset of the byte that the window takes next
abbrev pub next_offset : WindowState → Track → ℕ
next_offset w t = t.window_offset + length w.content

-- the place up to which files were read: the end of the bytes that were read last
abbrev pub fetched_of : Track → Place
fetched_of t = record { file = t.file; offset = t.buffer_offset + t.buffer_len }

-- the cursor at the window's place, before all slices
abbrev pub cursor_of_track : Track → Cursor
cursor_of_track t = record { file = t.file; offset = t.window_offset; slice = 0 }

-- the track goes along a file of a shelf: the window's next byte, if the file has one, was read, or
-- is the next to be read; and the window and the bytes that were read last have the bytes of the
-- file, in any files that are consistent with the reads so far
pub record IsTied (s : ShelfState) (w : WindowState) (t : Track) : Type 0 where
  pub within : length w.content ≤ w.capacity
  pub few : w.capacity ≤ slice_size_limit
  pub buffer_fits : t.buffer_len ≤ ahead_limit
  pub small : t.buffer_offset + t.buffer_len < 2 ^ 64
  pub not_ahead : t.buffer_offset ≤ t.window_offset + length w.content
  pub reached :
      t.window_offset + length w.content < slice_index s.lengths t.file
      → t.window_offset + length w.content ≤ t.buffer_offset + t.buffer_len
  pub content : (files : List (List ℕ)) → ReadsAs s files
      → HasBytes (file_of files t.file) t.window_offset w.content
  pub ahead : (files : List (List ℕ)) → ReadsAs s files
      → HasBytes (file_of files t.file) t.buffer_offset (take t.buffer_len t.bytes)

-- the window is at an offset of a file, and nothing was read for it yet
pub record IsUnread (file offset : ℕ) (t : Track) : Type 0 where
  pub file_is : t.file ≡ file
  pub offset_is : t.window_offset ≡ offset
  pub buffer_offset_is : t.buffer_offset ≡ offset
  pub buffer_len_is : t.buffer_len ≡ 0

-- both tracks are along the same file, and their windows are at the same offset
pub record SameTrack (a b : Track) : Type 0 where
  pub file_is : b.file ≡ a.file
  pub offset_is : b.window_offset ≡ a.window_offset

-- the end of the bytes that were read last in track a is the beginning of those in track b; the
-- window hasn't moved
pub record IsReadOn (a b : Track) : Type 0 where
  pub same : SameTrack a b
  pub buffer_offset_is : b.buffer_offset ≡ a.buffer_offset + a.buffer_len
  pub buffer_fits : b.buffer_len ≤ ahead_limit
  pub small : b.buffer_offset + b.buffer_len < 2 ^ 64

-- the piece has the bytes that the window takes next, in any file of this length whose bytes were
-- read ahead
abbrev pub AreNextBytes : WindowState → Track → ℕ → List ℕ → Type 0
AreNextBytes w t size piece =
    (file : List ℕ) → length file ≡ size → HasBytes file t.buffer_offset (take t.buffer_len t.bytes)
    → HasBytes file (t.window_offset + length w.content) piece

-- at no offset after the given one and less than n bytes after it, the compared bytes of the window
-- have the CRC-32 of a slice
abbrev pub HaveNoComparedCrc : Sought → List ℕ → ℕ → ℕ → Type 0
HaveNoComparedCrc sought file offset n =
    (k : ℕ) → 0 < k → k < n
    → HasNoComparedCrc sought (window_at sought.set.slice_size file (offset + k))

-- what a call that passes n places does: it moves the window n bytes on. These are at least one, at
-- most `most`, and not past the end of the file, which has `size` bytes
pub record Passes (size : ℕ) (a b : Track) (most n : ℕ) : Type 0 where
  pub some : 0 < n
  pub within : n ≤ most
  pub inside : a.window_offset + n ≤ size
  pub offset_is : b.window_offset ≡ a.window_offset + n
