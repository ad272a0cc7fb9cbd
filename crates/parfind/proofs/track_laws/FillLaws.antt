-- A window that goes along a file: bytes are appended to it, and a full one moves on.
use Rattle.std.proofs.Common.{◌≡◌, ℕ, ◌+◌, ◌<◌, ◌≤◌, ◌==◌, true, eqb, eq-eqb, List, ◌++◌, length, get_or, slice_get, slice_index, refl, ap, ◌∙◌, arith, inl, inr, Some, length-append}
use Rattle.std.specs.Prelude.{Contains}
use Rattle.std.proofs.lemmas.Bool.{and_from, cases_lt, or_left, or_right}
use Rattle.std.proofs.lemmas.List.Folds.{list_any-from_Any}
use Rattle.std.proofs.lemmas.Option.{slice_get-get_or}
use Rattle.parset.specs.declared.recovery_set.SetSlice.{SetSlice}
use Rattle.parshelf.specs.Shelf.{ShelfState, ReadsAs, file_of}
use Rattle.parshelf.proofs.ShelfLaws.{length-file_of}
use Rattle.parwindow.specs.Crc32.{crc_of}
use Rattle.parwindow.specs.Index.{SliceSet, IsSliceSet, has_own, has_known_crc, has_known_sums, set_has_crc, set_has_own_crc, tails_of}
use Rattle.parwindow.specs.Until.{pushed_content, pushed_window, has_tail_slice, is_at_slice, PushesUntil}
use Rattle.parwindow.specs.Window.{WindowState, tail_content, window_at, zero_filled}
use Rattle.parwindow.proofs.tail_laws.TailContentLaws.{zeros_fill}
use Rattle.parfind.specs.Sought.{sought_of, compared_window, HasNoComparedCrc, IsWindowFor}
use Rattle.parfind.specs.declared.tracks.mode.Mode.{Mode}
use Rattle.parfind.specs.declared.tracks.mode.Mode.TheVariants.{Plain, Tails}
use Rattle.parfind.specs.declared.tracks.track.Track.{Track}
use Rattle.parfind.specs.Tracks.{HasBytes, IsTied, HaveNoComparedCrc, AreNextBytes, next_offset}
use Rattle.parfind.proofs.track_laws.EachLengthLaws.{known_some, own_within, tail_there}
use Rattle.parfind.proofs.place_laws.FittingLaws.{passing_has}
use Rattle.parfind.proofs.track_laws.NextBytesLaws.{more_bytes, slid_bytes, length-pushed_content, whole_window}

-- if only the bytes of a window changed, twice, only its bytes changed
pub kept_window : (u v w : WindowState) (bytes : List ℕ) → v ≡ record u { content = v.content } → w ≡ record v { content = bytes }
    → w ≡ record u { content = w.content }
kept_window u v w bytes before next =
    let capacity : w.capacity ≡ u.capacity = ap (λ (x : WindowState). x.capacity) next ∙ ap (λ (x : WindowState). x.capacity) before in
    let tails : w.tails ≡ u.tails = ap (λ (x : WindowState). x.tails) next ∙ ap (λ (x : WindowState). x.tails) before in
    let digests : w.digests ≡ u.digests = ap (λ (x : WindowState). x.digests) next ∙ ap (λ (x : WindowState). x.digests) before in
    ap (λ (n : ℕ). record w { capacity = n }) capacity ∙ ap (λ (ns : List ℕ). record w { capacity = u.capacity; tails = ns }) tails
    ∙ ap (λ (n : ℕ). record u { content = w.content; digests = n }) digests

-- if a full window doesn't have the CRC-32 of a slice, none of its compared parts has it
module _ (set : SliceSet) (w : WindowState) (full : length w.content ≡ w.capacity) (never : is_at_slice set w ≡ true → ⊥) where
  no_whole : (n : ℕ) (slice : SetSlice) → slice_get set.slices n ≡ Some slice
      → has_known_crc (crc_of (zero_filled (length w.content) (length w.content) w.content)) slice ≡ true → ⊥
  no_whole n slice at has =
      let whole : zero_filled (length w.content) (length w.content) w.content ≡ w.content = zeros_fill.whole (length w.content) w.content refl in
      never (or_right (has_tail_slice set w) (set_has_crc set (crc_of w.content))
      (passing_has (has_known_crc (crc_of w.content)) set.slices n slice at (rw whole at has)))

  no_tail : (n : ℕ) (slice : SetSlice) → slice_get set.slices n ≡ Some slice → Contains w.tails slice.length
      → has_known_crc (crc_of (zero_filled (length w.content) slice.length w.content)) slice ≡ true → ⊥
  no_tail n slice at there has =
      let crc : ℕ = crc_of (tail_content w slice.length) in
      let known : has_known_crc crc slice ≡ true = rw full at has in
      let some : set_has_own_crc set crc slice.length ≡ true =
      passing_has (has_own slice.length (has_known_crc crc)) set.slices n slice at
      (and_from (eqb slice.length slice.length) (has_known_crc crc slice) (eq-eqb slice.length slice.length refl) known) in
      never (or_left (has_tail_slice set w) (set_has_crc set (crc_of w.content))
      (list_any-from_Any (λ own. set_has_own_crc set (crc_of (tail_content w own)) own) w.tails (there.0, slice.length, there.1, there.2, some)))

no_compared_at : (set : SliceSet) (mode : Mode) (w : WindowState) → IsSliceSet set → IsWindowFor (sought_of set mode) w
    → length w.content ≡ w.capacity → (is_at_slice set w ≡ true → ⊥) → (n : ℕ) (slice : SetSlice) → slice_get set.slices n ≡ Some slice
    → has_known_crc (crc_of (compared_window mode w.content slice)) slice ≡ true → ⊥
no_compared_at set Plain w good made full never n slice at has = no_whole set w full never n slice at has
no_compared_at set Tails w good made full never n slice at has =
    let own = own_within set good n slice at in
    let known : has_known_sums slice ≡ true =
    known_some (λ known. known.1 == crc_of (compared_window Tails w.content slice)) slice.sums has in
    elim (cases_lt slice.length set.slice_size) [
      | inl short ↦
          let there : Contains (tails_of set) slice.length = tail_there set n slice at known own.0 short in
          no_tail set w full never n slice at (rw (made.tails_are refl) there) has
      | inr whole ↦
          let same : slice.length ≡ length w.content = omega (arith, own.1, full, made.sized) in
          no_whole set w full never n slice at (rw same at has)
    ]

no_compared : (set : SliceSet) (mode : Mode) (w : WindowState) → IsSliceSet set → IsWindowFor (sought_of set mode) w
    → length w.content ≡ w.capacity → (is_at_slice set w ≡ true → ⊥) → HasNoComparedCrc (sought_of set mode) w.content
no_compared set mode w good made full never n default below =
    no_compared_at set mode w good made full never n (get_or set.slices n default) (slice_get-get_or set.slices n default below)

module _ (s : ShelfState) (w : WindowState) (t : Track) (tied : IsTied s w t) (piece : List ℕ)
    (is_piece : AreNextBytes w t (slice_index s.lengths t.file) piece)
    (hand : next_offset w t < slice_index s.lengths t.file → next_offset w t + length piece ≤ t.buffer_offset + t.buffer_len) where
  comes_next : (files : List (List ℕ)) → ReadsAs s files → HasBytes (file_of files t.file) (next_offset w t) piece
  comes_next files reads = is_piece (file_of files t.file) (length-file_of s files t.file reads) (tied.ahead files reads)

  -- the track still goes along its file after bytes are appended to a window that is being filled
  pub tied_more : 0 < length piece → length w.content + length piece ≤ w.capacity → IsTied s (record w { content = w.content ++ piece }) t
  tied_more some room =
      let longer : length (w.content ++ piece) ≡ length w.content + length piece = length-append w.content piece in
      record {
        within = omega arith;
        few = tied.few;
        buffer_fits = tied.buffer_fits;
        small = tied.small;
        not_ahead = omega (arith, tied.not_ahead);
        reached = λ before. omega (arith, hand (omega arith));
        content = λ files reads.
            more_bytes (file_of files t.file) t.window_offset w.content piece (tied.content files reads) (comes_next files reads);
        ahead = tied.ahead;
      }

  -- the track still goes along its file after a full window moved on by k bytes
  module _ (k : ℕ) (fits : k ≤ length piece) where
    slid_has : (files : List (List ℕ)) → ReadsAs s files → HasBytes (file_of files t.file) (t.window_offset + k) (pushed_content w.content piece k)
    slid_has files reads =
        slid_bytes (file_of files t.file) t.window_offset k w.content piece fits (tied.content files reads) (comes_next files reads)

    pub tied_on : IsTied s (record w { content = pushed_content w.content piece k }) (record t { window_offset = t.window_offset + k })
    tied_on =
        let same : length (pushed_content w.content piece k) ≡ length w.content = length-pushed_content w.content piece k fits in
        record {
          within = omega (arith, tied.within);
          few = tied.few;
          buffer_fits = tied.buffer_fits;
          small = tied.small;
          not_ahead = omega (arith, tied.not_ahead);
          reached = λ before. omega (arith, hand (omega arith));
          content = slid_has;
          ahead = tied.ahead;
        }

  -- the windows on the way don't have the CRC-32 of a slice
  pub none_on : (set : SliceSet) (mode : Mode) (n : ℕ) → IsSliceSet set → IsWindowFor (sought_of set mode) w → length w.content ≡ w.capacity
      → PushesUntil set w piece n → (files : List (List ℕ)) → ReadsAs s files
      → HaveNoComparedCrc (sought_of set mode) (file_of files t.file) t.window_offset n
  none_on set mode n good made full until files reads k some less =
      let file : List ℕ = file_of files t.file in
      let fits : k ≤ length piece = omega (arith, until.within) in
      let same : length (pushed_content w.content piece k) ≡ length w.content = length-pushed_content w.content piece k fits in
      let whole : pushed_content w.content piece k ≡ window_at set.slice_size file (t.window_offset + k) =
      whole_window file set.slice_size (t.window_offset + k) (pushed_content w.content piece k)
      (same ∙ full ∙ made.sized) (slid_has k fits files reads) in
      let none : HasNoComparedCrc (sought_of set mode) (pushed_content w.content piece k) =
      no_compared set mode (pushed_window w piece k) good (record { sized = made.sized; tails_are = made.tails_are; few = made.few }) (same ∙ full)
      (until.before k some less) in
      rw whole at none
