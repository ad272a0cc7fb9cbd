-- In the plain mode, the compared bytes of a window are all of them.
use Rattle.std.proofs.Common.{◌≡◌, ℕ, ◌+◌, ◌-◌, Bool, cond, List, [], ◌∷◌, filter, length, nat_lt, nat_le, ◌&&◌, refl, sym, ap, ◌∙◌, arith, inl, inr}
use Rattle.std.specs.List.{list_any, sum_by}
use Rattle.std.proofs.lemmas.Bool.{cases_Bool, eq-eqb}
use Rattle.std.proofs.lemmas.List.Sums.{sum_by-cons}
use Rattle.parset.specs.declared.recovery_set.SetSlice.{SetSlice}
use Rattle.parwindow.specs.Crc32.{crc_of}
use Rattle.parwindow.specs.Index.{SliceSet, has_known_crc, has_sums, set_has_crc, sums_of}
use Rattle.parwindow.specs.Missing.{has_fit_crc_of, has_unfound, set_has_missing}
use Rattle.parwindow.specs.Window.{window_at, zero_filled}
use Rattle.parwindow.proofs.tail_laws.TailContentLaws.{zeros_fill}
use Rattle.parfind.specs.declared.tracks.mode.Mode.TheVariants.{Plain, Tails}
use Rattle.parfind.specs.Fetched.{Place}
use Rattle.parfind.specs.Marks.{has_compared_missing, marks_at, missing_at, window_of}
use Rattle.parfind.specs.PlainMode.{PlainSees, PlainMarks, PlainMisses, ModesAgree, plain_scan}
use Rattle.parfind.specs.Places.{places_of, places_between}
use Rattle.parfind.specs.Sightings.{Scan, content_of}
use Rattle.parfind.specs.Sought.{has_compared_crc, is_compared, compared_window, sought_of}
use Rattle.parfind.proofs.track_laws.NextBytesLaws.{length-window_at}
use Rattle.parfind.proofs.searches.laws.mode_law.Goals as goal

-- a window that is filled up to its own length stays as it is
whole_compared : (size : ℕ) (file : List ℕ) (offset : ℕ) → zero_filled (length (window_at size file offset)) size (window_at size file offset)
    ≡ window_at size file offset
whole_compared size file offset =
    let n : length (window_at size file offset) ≡ size = length-window_at file size offset in
    ap (λ (k : ℕ). zero_filled k size (window_at size file offset)) n ∙ zeros_fill.whole size (window_at size file offset) n

-- so the compared window of each slice is the whole window
whole_window_compared : (size : ℕ) (file : List ℕ) (offset : ℕ) (slice : SetSlice)
    → compared_window Plain (window_at size file offset) slice ≡ window_at size file offset
whole_window_compared size file offset slice =
    zeros_fill.whole (length (window_at size file offset)) (window_at size file offset) refl

pub plain_sees : PlainSees
plain_sees size file offset slice =
    ap (λ (bytes : List ℕ). nat_lt offset (length file) && (nat_le (offset + slice.length) (length file) && has_sums (sums_of bytes) slice))
    (whole_window_compared size file offset slice)

pub modes_agree : ModesAgree
modes_agree size file offset slice zeros =
    let w : List ℕ = window_at size file offset in
    let n : length w ≡ size = length-window_at file size offset in
    let own : compared_window Tails w slice ≡ w =
    ap (λ (k : ℕ). zero_filled k slice.length w) n ∙ zeros_fill.zeros size slice.length w n zeros in
    ap (λ (bytes : List ℕ). nat_lt offset (length file) && (nat_le (offset + slice.length) (length file) && has_sums (sums_of bytes) slice))
    (own ∙ sym (whole_window_compared size file offset slice))

-- 1 or 0, so that a filter's length is a sum
abbrev one_of : Bool → ℕ
one_of b = cond b 1 0

sum_of_ones : {A : Type 0} (f : A → ℕ) (p : A → Bool) → ((x : A) → f x ≡ one_of (p x)) → (xs : List A) → sum_by f xs ≡ length (filter p xs)
sum_of_ones f p same [] = refl
sum_of_ones f p same (x ∷ xs) = elim (cases_Bool (p x)) [
  | inl h ↦
      let first : f x ≡ 1 = same x ∙ ap one_of h in
      rw h (omega (arith, sum_by-cons f x xs, first, sum_of_ones f p same xs))
  | inr h ↦
      let first : f x ≡ 0 = same x ∙ ap one_of h in
      rw h (omega (arith, sum_by-cons f x xs, first, sum_of_ones f p same xs))
]

one_passes : (p : ℕ → Bool) (n : ℕ) → length (filter p (n ∷ [])) ≡ one_of (p n)
one_passes p n = elim (cases_Bool (p n)) [
  | inl h ↦ rw h refl
  | inr h ↦ rw h refl
]

-- the whole window is compared for each slice
same_compared : (set : SliceSet) (test : SetSlice → Bool) → is_compared (sought_of set Plain) set.slice_size test ≡ test
same_compared set test = ap {B = SetSlice → Bool} (λ (b : Bool) (slice : SetSlice). b && test slice) (eq-eqb set.slice_size set.slice_size refl)

any_compared : (set : SliceSet) (test : SetSlice → Bool) (slices : List SetSlice)
    → list_any (is_compared (sought_of set Plain) set.slice_size test) slices ≡ list_any test slices
any_compared set test slices = ap (λ (p : SetSlice → Bool). list_any p slices) (same_compared set test)

pub plain_marks : PlainMarks
plain_marks set contents c d =
    let scan : Scan = plain_scan set contents in
    let test : Place → Bool = λ p. set_has_crc set (crc_of (window_of scan p)) in
    let here : (p : Place) → has_compared_crc (sought_of set Plain) (window_of scan p) set.slice_size ≡ test p = λ p.
    any_compared set (has_known_crc (crc_of (zero_filled (length (window_of scan p)) set.slice_size (window_of scan p)))) set.slices
    ∙ ap (λ (bytes : List ℕ). set_has_crc set (crc_of bytes)) (whole_compared set.slice_size (content_of scan p.file) p.offset) in
    let one : (p : Place) → marks_at scan p ≡ one_of (test p) = λ p.
    one_passes (has_compared_crc (sought_of set Plain) (window_of scan p)) set.slice_size ∙ ap one_of (here p) in
    sum_of_ones (marks_at scan) test one (places_between _ c d)

pub plain_misses : PlainMisses
plain_misses set contents found =
    let scan : Scan = plain_scan set contents in
    let left : Place → ℕ = λ p. length (content_of scan p.file) - p.offset in
    let test : Place → Bool = λ p. set_has_missing set found (crc_of (window_of scan p)) (left p) in
    let here : (p : Place) → has_compared_missing (sought_of set Plain) found (window_of scan p) (left p) set.slice_size ≡ test p = λ p.
    ap (has_unfound set.slices found)
    (same_compared set (has_fit_crc_of (crc_of (zero_filled (length (window_of scan p)) set.slice_size (window_of scan p))) (left p)))
    ∙ ap (λ (bytes : List ℕ). set_has_missing set found (crc_of bytes) (left p)) (whole_compared set.slice_size (content_of scan p.file) p.offset) in
    let one : (p : Place) → missing_at scan found p ≡ one_of (test p) = λ p.
    one_passes (has_compared_missing (sought_of set Plain) found (window_of scan p) (left p)) set.slice_size ∙ ap one_of (here p) in
    sum_of_ones (missing_at scan found) test one (places_of _)

pub returns : goal.returns
returns c = record {
  sees = plain_sees;
  marks = plain_marks;
  misses = plain_misses;
  agree = modes_agree;
}
