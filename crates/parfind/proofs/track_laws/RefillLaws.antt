-- The result of one read of a track: some bytes of its file, none before the file's noted length,
-- or a failure.
use Rattle.std.proofs.Common.{◌≡◌, ℕ, ◌+◌, ◌<◌, ◌≤◌, List, length, take, slice_index, ◌∙◌, arith}
use Rattle.std.proofs.lemmas.List.{length-take-le}
use Rattle.parshelf.specs.Shelf.{ShelfState, ReadsAs, after_read, file_of}
use Rattle.parshelf.specs.Reads.{ReadsOnly, FaultsIn, HandsOver}
use Rattle.parshelf.specs.declared.shelves.reading.ReadFault.TheVariants.{Ended}
use Rattle.parshelf.proofs.ShelfLaws.{ReadsOnly-read, HandsOver-read, FaultsIn-ended, read_told_some}
use Rattle.parwindow.specs.Window.{WindowState}
use Rattle.parfind.specs.declared.tracks.track.Track.{Track}
use Rattle.parfind.specs.Tracks.{HasBytes, IsReadOn, IsTied, next_offset}
use Rattle.parfind.proofs.track_laws.LaterShelfLaws.{Later}
use Rattle.parfind.proofs.track_laws.NextBytesLaws.{read_bytes}

module _ (s t : ShelfState) (file offset room : ℕ) (buf : List ℕ) (n : ℕ) (fits : n ≤ length buf) (read : t ≡ after_read s file offset room (take n buf)) where
  length_read : length (take n buf) ≡ n
  length_read = length-take-le n buf fits

  pub refills : 0 < n → HandsOver s t file n
  refills some = rw length_read at (HandsOver-read s t file offset room (take n buf) (omega (arith, length_read)) read)

  pub refill_reads : 0 < n → ReadsOnly s t
  refill_reads some = ReadsOnly-read s t file offset room (take n buf) (omega (arith, length_read)) read

  pub refill_bytes : 0 < n → (files : List (List ℕ)) → ReadsAs t files → HasBytes (file_of files file) offset (take n buf)
  refill_bytes some files reads =
      let told = read_told_some s t file offset room (take n buf) (omega (arith, length_read)) read files reads in
      read_bytes (file_of files file) offset n buf fits (rw length_read at told.bytes)

  pub refill_ends : file < length s.lengths → n ≡ 0 → 0 < room → offset < slice_index s.lengths file → FaultsIn s t file Ended
  refill_ends there none given before =
      let zero : length (take n buf) ≡ 0 = length_read ∙ none in
      FaultsIn-ended s t file offset room (take n buf) there zero given before read

-- if the bytes that were read ahead are used up and the file has more, the track still goes along
-- its file after the next read
pub tied_refilled : (s t : ShelfState) (w : WindowState) (a b : Track) → IsTied s w a → IsReadOn a b → Later s t
    → next_offset w a < slice_index s.lengths a.file → a.buffer_offset + a.buffer_len ≤ next_offset w a
    → ((files : List (List ℕ)) → ReadsAs t files → HasBytes (file_of files a.file) b.buffer_offset (take b.buffer_len b.bytes)) → IsTied t w b
tied_refilled s t w a b tied on later inside over bytes =
    let same = on.same in record {
      within = tied.within;
      few = tied.few;
      buffer_fits = on.buffer_fits;
      small = on.small;
      not_ahead = omega (arith, over, on.buffer_offset_is, same.offset_is);
      reached = λ _. omega (arith, tied.reached inside, on.buffer_offset_is, same.offset_is);
      content = λ files reads. rw (same.file_is, same.offset_is) (tied.content files (later.older files reads));
      ahead = λ files reads. rw same.file_is (bytes files reads);
    }
