-- Bytes of a file from an offset on, with zeros past its end: parts of them, more of them, and
-- whole windows.
use Rattle.std.proofs.Common.{◌≡◌, ℕ, ◌+◌, ◌-◌, ◌<◌, ◌≤◌, List, [], ◌++◌, length, take, drop, replicate, get_or, get_or-take, get_or-drop, slice_index, refl, sym, ap, ◌∙◌, subst, arith, length-drop, length-append, inl, inr}
use Rattle.std.proofs.lemmas.Bool.{cases_lt}
use Rattle.std.proofs.lemmas.List.{length-take-le, length-replicate, get_or_past, get_or-replicate, get_or_append_left, get_or-append_right, ext_get_or, drop-take}
use Rattle.parwindow.specs.Until.{pushed_content}
use Rattle.parwindow.specs.Window.{window_at}
use Rattle.parfind.specs.Tracks.{HasBytes}

-- each entry of a list of zeros is 0, and so is one past the end of a list, by default
get_or-zeros : (n k : ℕ) → get_or (replicate {A = ℕ} n 0) k 0 ≡ 0
get_or-zeros n k = elim (cases_lt k n) [
  | inl less ↦ get_or-replicate n k 0 0 less
  | inr past ↦ get_or_past (replicate {A = ℕ} n 0) k 0 (omega (arith, length-replicate {A = ℕ} n 0))
]

get_or-padded : (bytes : List ℕ) (n k : ℕ) → get_or (bytes ++ replicate n 0) k 0 ≡ get_or bytes k 0
get_or-padded bytes n k = elim (cases_lt k (length bytes)) [
  | inl less ↦ get_or_append_left bytes (replicate n 0) 0 k less
  | inr past ↦
      get_or-append_right bytes (replicate n 0) (length bytes) k 0 refl past
      ∙ get_or-zeros n (k - length bytes) ∙ sym (get_or_past bytes k 0 past)
]

module _ (file : List ℕ) where
  pub no_bytes : (offset : ℕ) → HasBytes file offset []
  no_bytes offset = record { each = λ i less. absurd (omega arith) }

  pub front_bytes : (offset n : ℕ) (bytes : List ℕ) → n ≤ length bytes → HasBytes file offset bytes → HasBytes file offset (take n bytes)
  front_bytes offset n bytes fits has = record {
    each = λ i less.
        let within : i < n = omega (arith, length-take-le n bytes fits) in
        get_or-take n bytes i 0 within ∙ has.each i (omega arith);
  }

  pub rest_bytes : (offset n : ℕ) (bytes : List ℕ) → HasBytes file offset bytes → HasBytes file (offset + n) (drop n bytes)
  rest_bytes offset n bytes has = record {
    each = λ i less.
        let within : n + i < length bytes = omega (arith, length-drop n bytes) in
        let place : offset + (n + i) ≡ offset + n + i = omega arith in
        get_or-drop n bytes i 0 ∙ has.each (n + i) within ∙ ap (λ (k : ℕ). slice_index file k) place;
  }

  pub more_bytes : (offset : ℕ) (xs ys : List ℕ) → HasBytes file offset xs → HasBytes file (offset + length xs) ys
      → HasBytes file offset (xs ++ ys)
  more_bytes offset xs ys first next = record {
    each = λ i less. elim (cases_lt i (length xs)) [
      | inl front ↦ get_or_append_left xs ys 0 i front ∙ first.each i front
      | inr over ↦
          let within : i - length xs < length ys = omega (arith, length-append xs ys) in
          let place : offset + length xs + (i - length xs) ≡ offset + i = omega arith in
          get_or-append_right xs ys (length xs) i 0 refl over ∙ next.each (i - length xs) within
          ∙ ap (λ (k : ℕ). slice_index file k) place
    ];
  }

  pub zero_bytes : (offset n : ℕ) → length file ≤ offset → HasBytes file offset (replicate n 0)
  zero_bytes offset n past = record {
    each = λ i less. get_or-zeros n i ∙ sym (get_or_past file (offset + i) 0 (omega arith));
  }

  -- bytes that a read returned are those of the file
  pub read_bytes : (offset n : ℕ) (bytes : List ℕ) → n ≤ length bytes → take n bytes ≡ take n (drop offset file)
      → HasBytes file offset (take n bytes)
  read_bytes offset n bytes fits same = record {
    each = λ i less.
        let within : i < n = omega (arith, length-take-le n bytes fits) in
        ap (λ (xs : List ℕ). slice_index xs i) same ∙ get_or-take n (drop offset file) i 0 within ∙ get_or-drop offset file i 0;
  }

  -- a window into which bytes were pushed has the bytes of the file from a later offset on
  pub slid_bytes : (offset k : ℕ) (content bytes : List ℕ) → k ≤ length bytes → HasBytes file offset content
      → HasBytes file (offset + length content) bytes → HasBytes file (offset + k) (pushed_content content bytes k)
  slid_bytes offset k content bytes fits has next =
      rest_bytes offset k (content ++ take k bytes)
      (more_bytes offset content (take k bytes) has (front_bytes (offset + length content) k bytes fits next))

  -- a window of an offset has the window's size, and bytes of that number that are the file's from
  -- the offset on are this window
  pub length-window_at : (size offset : ℕ) → length (window_at size file offset) ≡ size
  length-window_at size offset =
      length-take-le size (drop offset file ++ replicate size 0)
      (omega (arith, length-append (drop offset file) (replicate size 0), length-replicate {A = ℕ} size 0))

  pub whole_window : (size offset : ℕ) (bytes : List ℕ) → length bytes ≡ size → HasBytes file offset bytes → bytes ≡ window_at size file offset
  whole_window size offset bytes full has =
      ext_get_or 0 bytes (window_at size file offset) (full ∙ sym (length-window_at size offset))
      (λ i less.
      let within : i < size = omega arith in
      has.each i less
      ∙ sym (get_or-take size (drop offset file ++ replicate size 0) i 0 within ∙ get_or-padded (drop offset file) size i ∙ get_or-drop offset file i 0))

pub length-pushed_content : (content bytes : List ℕ) (k : ℕ) → k ≤ length bytes → length (pushed_content content bytes k) ≡ length content
length-pushed_content content bytes k fits =
    omega (arith, length-drop k (content ++ take k bytes), length-append content (take k bytes), length-take-le k bytes fits)

-- of bytes that were read ahead, those from an offset on are the file's
pub hand_bytes : (file : List ℕ) (base end at : ℕ) (bytes : List ℕ) → base ≤ at → at ≤ base + end → HasBytes file base (take end bytes)
    → HasBytes file at (take (end - (at - base)) (drop (at - base) bytes))
hand_bytes file base end at bytes from within has =
    let n : ℕ = at - base in
    let place : base + n ≡ at = omega arith in
    let split : n + (end - n) ≡ end = omega arith in
    let rest : drop n (take end bytes) ≡ take (end - n) (drop n bytes) =
    ap (λ (k : ℕ). drop n (take k bytes)) (sym split) ∙ drop-take n (end - n) bytes in
    subst (λ (k : ℕ). HasBytes file k (take (end - n) (drop n bytes))) place
    (subst (HasBytes file (base + n)) rest (rest_bytes file base n (take end bytes) has))
