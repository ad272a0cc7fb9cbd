-- Whether the slice of an entry isn't found, and its length is between two bounds.
use Rattle.std.proofs.Common.{◌≡◌, ℕ, ◌<◌, ◌≤◌, Bool, true, false, not, nat_le, List, length, get_or, sym, ◌∙◌, arith}
use Rattle.std.proofs.lemmas.Bool.{and_parts, and_from, le-leb, leb-true, false_from_ne_true, not-true, not_from_false}
use Rattle.std.proofs.lemmas.List.{get_or_default}
use Rattle.std.proofs.lemmas.Option.{slice_get-get_or}
use Rattle.parset.specs.declared.recovery_set.SetSlice.{SetSlice}
use Rattle.parwindow.specs.declared.slices.entries.Entry.{Entry}
use Rattle.parwindow.specs.Entries.{is_between, is_open}
use Rattle.parwindow.specs.Index.{slice_passes}
use Rattle.parwindow.specs.Missing.{found_at}

-- a length between two bounds passes the test
pub between : (least most : ℕ) (s : SetSlice) → least ≤ s.length → s.length ≤ most
    → is_between least most s ≡ true
between least most s above below =
    and_from (nat_le least s.length) (nat_le s.length most) (le-leb least s.length above)
    (le-leb s.length most below)

below_least : (least most : ℕ) (s : SetSlice) → s.length < least
    → is_between least most s ≡ false
below_least least most s less =
    false_from_ne_true (is_between least most s) (λ h.
    absurd (omega (
      arith,
      less,
      leb-true least s.length
          (and_parts (nat_le least s.length) (nat_le s.length most) h).0,
    )))

above_most : (least most : ℕ) (s : SetSlice) → most < s.length
    → is_between least most s ≡ false
above_most least most s more =
    false_from_ne_true (is_between least most s) (λ h.
    absurd (omega (
      arith,
      more,
      leb-true s.length most
          (and_parts (nat_le least s.length) (nat_le s.length most) h).1,
    )))

-- whether the slice of an entry passes a test and isn't found
module _ (slices : List SetSlice) (found : List Bool) (e : Entry)
    (there : e.slice < length slices) (each : length found ≡ length slices) where
  found_is : (b : Bool) → found_at found e.slice ≡ get_or found e.slice b
  found_is b = get_or_default found e.slice false b (omega arith)

  open_at : (test : SetSlice → Bool) (d : SetSlice) (b : Bool) → get_or found e.slice b ≡ false
      → test (get_or slices e.slice d) ≡ true → is_open slices found test e ≡ true
  open_at test d b none passes =
      rw (slice_get-get_or slices e.slice d there)
      (and_from (test (get_or slices e.slice d)) (not (found_at found e.slice)) passes
      (not_from_false (found_at found e.slice) (found_is b ∙ none)))

  pub shut_found : (test : SetSlice → Bool) (b : Bool) → get_or found e.slice b ≡ true
      → is_open slices found test e ≡ false
  shut_found test b marked =
      false_from_ne_true (is_open slices found test e) (λ h.
      let parts = and_parts (slice_passes slices test e.slice) (not (found_at found e.slice)) h in
      let both : true ≡ false = sym marked ∙ sym (found_is b)
      ∙ not-true (found_at found e.slice) parts.1 in cc)

  shut_failed : (test : SetSlice → Bool) (d : SetSlice)
      → test (get_or slices e.slice d) ≡ false → is_open slices found test e ≡ false
  shut_failed test d fails =
      false_from_ne_true (is_open slices found test e) (λ h.
      let parts = and_parts (slice_passes slices test e.slice) (not (found_at found e.slice)) h in
      let passes : test (get_or slices e.slice d) ≡ true =
      rw (slice_get-get_or slices e.slice d there) at parts.0 in
      let wrong : true ≡ false = sym passes ∙ fails in cc)

  pub open_between : (least most : ℕ) (d : SetSlice) (b : Bool) → get_or found e.slice b ≡ false
      → least ≤ (get_or slices e.slice d).length → (get_or slices e.slice d).length ≤ most
      → is_open slices found (is_between least most) e ≡ true
  open_between least most d b none above below =
      open_at (is_between least most) d b none
      (between least most (get_or slices e.slice d) above below)

  pub shut_below : (least most : ℕ) (d : SetSlice) → (get_or slices e.slice d).length < least
      → is_open slices found (is_between least most) e ≡ false
  shut_below least most d less =
      shut_failed (is_between least most) d (below_least least most (get_or slices e.slice d) less)

  pub shut_above : (least most : ℕ) (d : SetSlice) → most < (get_or slices e.slice d).length
      → is_open slices found (is_between least most) e ≡ false
  shut_above least most d more =
      shut_failed (is_between least most) d (above_most least most (get_or slices e.slice d) more)
