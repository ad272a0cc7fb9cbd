-- The slices of files: their number, the length of each, and their numbering.
use Rattle.std.proofs.Common.{◌≡◌, ℕ, ◌+◌, ◌-◌, ◌*◌, ◌<◌, ◌≤◌, ◌∙◌, List, [], ◌∷◌, ◌++◌, arith, length, length-append, map, min, refl, ap, subst, sym, zero-add}
use Rattle.std.specs.BTreeMap.{BTreeMap}
use Rattle.std.specs.List.{All, flat_map, range_with_len}
use Rattle.std.proofs.lemmas.List.{length-map, map-append}
use Rattle.std.proofs.lemmas.List.Elements.{All-append, All-nil}
use Rattle.std.proofs.lemmas.List.FromFn.{get_or-map-range_with_len, length-map-range_with_len}
use Rattle.std.proofs.lemmas.List.Sums.{sum_by-cons}
use Rattle.std.proofs.lemmas.Nat.{div-add-mod'}
use Rattle.std.proofs.lemmas.Simd.{map-map}
use Rattle.std.proofs.Math.Nat.{mul-le-mul_right}
use Rattle.parfield.specs.declared.hash16.Hash16.{Hash16}
use Rattle.parset.specs.Slices.{AreNumbered, FileView, file_views, numbers_of_file, set_file_of, slice_count, slice_of, slice_total, slices_of_file}
use Rattle.parset.specs.declared.bodies.checksums.Ifsc.{Ifsc}
use Rattle.parset.specs.declared.bodies.description.Desc.{Desc}
use Rattle.parset.specs.declared.recovery_set.SetFile.{SetFile}
use Rattle.parset.specs.declared.recovery_set.SetSlice.{SetSlice}
use Rattle.parset.proofs.FileLaws.{viewed}

pub length-shown : (found : BTreeMap Hash16 Ifsc) (files : List Desc) → length (map set_file_of (file_views found files)) ≡ length files
length-shown found files = length-map (file_views found files) set_file_of ∙ length-map files (viewed found)

length-slices_of_file : (size : ℕ) (v : FileView) → length (slices_of_file size v) ≡ slice_count size v.file.length
length-slices_of_file size v = length-map-range_with_len (slice_of size v) 0 (slice_count size v.file.length)

pub length-slices : (size : ℕ) (found : BTreeMap Hash16 Ifsc) (files : List Desc)
    → length (flat_map (slices_of_file size) (file_views found files)) ≡ slice_total size files
length-slices size found [] = refl
length-slices size found (file ∷ files) =
    let v = viewed found file in
    omega (
      arith,
      length-append (slices_of_file size v) (flat_map (slices_of_file size) (file_views found files)),
      length-slices_of_file size v,
      length-slices size found files,
      sum_by-cons (λ (f : Desc). slice_count size f.length) file files,
    )

-- ---- the length of a slice
abbrev pub HasLength : ℕ → SetSlice → Type 0
HasLength size slice = (0 < slice.length) × (slice.length ≤ size)

-- each slice begins inside its file
begins_within : (size n j : ℕ) → 0 < size → j < slice_count size n → j * size < n
begins_within size n j h k = grind (arith, div-add-mod' (n + (size - 1)) size, mul-le-mul_right)

slice_length : (size n j : ℕ) → 0 < size → j < slice_count size n → (0 < min size (n - j * size)) × (min size (n - j * size) ≤ size)
slice_length size n j h k = let b = begins_within size n j h k in (omega arith, omega arith)

slices_of_file_within : (size : ℕ) → 0 < size → (v : FileView) → All (HasLength size) (slices_of_file size v)
slices_of_file_within size h v = λ k d below.
    let count = slice_count size v.file.length in
    let k-below : k < count = omega (arith, length-slices_of_file size v) in
    subst (HasLength size) (sym (get_or-map-range_with_len (slice_of size v) 0 count k k d k-below (zero-add k))) (slice_length size v.file.length k h k-below)

pub slices_within : (size : ℕ) → 0 < size → (found : BTreeMap Hash16 Ifsc) (files : List Desc)
    → All (HasLength size) (flat_map (slices_of_file size) (file_views found files))
slices_within size h found [] = All-nil (HasLength size)
slices_within size h found (file ∷ files) =
    All-append (HasLength size) (slices_of_file size (viewed found file)) (flat_map (slices_of_file size) (file_views found files))
    (slices_of_file_within size h (viewed found file)) (slices_within size h found files)

-- ---- the slices are numbered file by file
abbrev number_of : SetSlice → Hash16 × ℕ
number_of s = (s.id, s.number)

numbered_file : (size : ℕ) (v : FileView) → map number_of (slices_of_file size v) ≡ numbers_of_file size (set_file_of v)
numbered_file size v = map-map number_of (slice_of size v) (range_with_len 0 (slice_count size v.file.length))

numbered_views : (size : ℕ) (views : List FileView)
    → map number_of (flat_map (slices_of_file size) views) ≡ flat_map (numbers_of_file size) (map set_file_of views)
numbered_views size [] = refl
numbered_views size (v ∷ views) =
    map-append number_of (slices_of_file size v) (flat_map (slices_of_file size) views)
    ∙ (ap (λ xs. xs ++ map number_of (flat_map (slices_of_file size) views)) (numbered_file size v)
    ∙ ap (λ xs. numbers_of_file size (set_file_of v) ++ xs) (numbered_views size views))

pub numbered_slices : (size : ℕ) (views : List FileView) (files : List SetFile) (slices : List SetSlice)
    → files ≡ map set_file_of views → slices ≡ flat_map (slices_of_file size) views → AreNumbered size files slices
unfolding AreNumbered
numbered_slices size views files slices f s =
    ap (map number_of) s ∙ (numbered_views size views ∙ sym (ap (flat_map (numbers_of_file size)) f))
