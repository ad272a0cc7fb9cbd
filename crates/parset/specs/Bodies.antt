-- Fields of packet bodies (PAR2 2.0: Main, File Description, Input File Slice Checksum, Recovery
-- Slice and Creator packet).
use Rattle.std.specs.Prelude.{ℕ, ◌-◌, ◌/◌, ◌==◌, List, length, take, drop, map, slice_range}
use Rattle.std.specs.List.{suffix_len}
use Rattle.std.specs.Simd.{first_chunks}
use Rattle.parfield.specs.Bytes.{le_value}
use Rattle.parfield.specs.declared.hash16.Hash16.{Hash16}
use Rattle.parset.specs.declared.bodies.main_packet.Main.{Main}
use Rattle.parset.specs.declared.bodies.description.Desc.{Desc}
use Rattle.parset.specs.declared.bodies.checksums.Ifsc.{Ifsc}

-- bytes cut into pieces of one width, in order; a rest that is shorter is left out
abbrev pub pieces_of : ℕ → List ℕ → List (List ℕ)
pieces_of width bytes = first_chunks width (length bytes / width) bytes

-- sixteen bytes as a hash
abbrev pub hash_of : List ℕ → Hash16
hash_of bytes = record { 0 = bytes }

-- bytes without the zero bytes at their end
unfoldable pub without_end_zeros : List ℕ → List ℕ
without_end_zeros bytes = take (length bytes - suffix_len (λ b. b == 0) bytes) bytes

-- the slice size that a Main body names, in its bytes 0 to 7
unfoldable pub slice_size_field : List ℕ → ℕ
slice_size_field body = le_value (slice_range body 0 8)

-- how many files the recovery set has, in bytes 8 to 11 of a Main body
unfoldable pub file_count_field : List ℕ → ℕ
file_count_field body = le_value (slice_range body 8 12)

-- all file IDs of a Main body; the files of the recovery set come first
unfoldable pub file_ids_of : List ℕ → List Hash16
file_ids_of body = map hash_of (pieces_of 16 (drop 12 body))

-- the file IDs of the recovery set, in a Main body
abbrev pub recovery_ids_of : List ℕ → List Hash16
recovery_ids_of body = take (file_count_field body) (file_ids_of body)

-- the file IDs of the non-recovery files, in a Main body
abbrev pub other_ids_of : List ℕ → List Hash16
other_ids_of body = drop (file_count_field body) (file_ids_of body)

-- the fields of a Main body
abbrev pub main_of : List ℕ → Main
main_of body = record {
  size = slice_size_field body;
  recovery = recovery_ids_of body;
  others = other_ids_of body;
}

-- the length of the file that a File Description body describes, in its bytes 48 to 55
unfoldable pub file_length_field : List ℕ → ℕ
file_length_field body = le_value (slice_range body 48 56)

-- the name of the file in a File Description body: it begins at byte 56, and zero bytes fill it up
unfoldable pub name_of : List ℕ → List ℕ
name_of body = without_end_zeros (drop 56 body)

-- the fields of a File Description body
abbrev pub description_of : List ℕ → Desc
description_of body = record {
  id = hash_of (slice_range body 0 16);
  whole = hash_of (slice_range body 16 32);
  front = hash_of (slice_range body 32 48);
  length = file_length_field body;
  name = name_of body;
}

-- the checksums of a slice in twenty bytes: its MD5 and its CRC-32
abbrev pub pair_of : List ℕ → Hash16 × ℕ
pair_of bytes = (hash_of (slice_range bytes 0 16), le_value (slice_range bytes 16 20))

-- the checksums in an Input File Slice Checksum body, from byte 16 on, in the order of the slices
unfoldable pub pairs_of : List ℕ → List (Hash16 × ℕ)
pairs_of body = map pair_of (pieces_of 20 (drop 16 body))

-- the fields of an Input File Slice Checksum body
abbrev pub checksums_of : List ℕ → Ifsc
checksums_of body = record {
  id = hash_of (slice_range body 0 16);
  sums = pairs_of body;
}

-- the exponent of a Recovery Slice body, which is the number in its first four bytes
unfoldable pub exponent_of : List ℕ → ℕ
exponent_of first = le_value first

-- the text of a Creator body, which zero bytes fill up
unfoldable pub creator_text_of : List ℕ → List ℕ
creator_text_of body = without_end_zeros body
