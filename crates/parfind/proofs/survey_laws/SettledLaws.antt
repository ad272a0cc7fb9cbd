-- Slices whose checksums are not known: no search finds them.
use Rattle.std.proofs.Common.{◌≡◌, ℕ, ◌∙◌, ◌&&◌, ◌||◌, ◌==◌, not, Bool, true, false, List, [], ◌∷◌, Option, None, Some, length, map, ap, sym, refl, cond, slice_get, inl, inr, is_some, bytes_eq}
use Rattle.std.specs.Prelude.{filter}
use Rattle.std.specs.List.{list_any}
use Rattle.std.specs.Option.{option_map_or}
use Rattle.std.proofs.lemmas.Bool.{cases_Bool, eqb-true, or_cases}
use Rattle.parset.specs.declared.recovery_set.SetSlice.{SetSlice}
use Rattle.parwindow.specs.Index.{has_known_sums, slice_passes, sums_of}
use Rattle.parwindow.specs.Missing.{found_at}
use Rattle.parwindow.specs.Window.{window_at}
use Rattle.parfind.specs.Sought.{compared_window}
use Rattle.parfind.specs.declared.tracks.mode.Mode.{Mode}
use Rattle.parfind.specs.Sightings.{Scan, content_of, is_seen, is_sighting, sightings_of, triples_of}
use Rattle.parfind.specs.Surveys.{is_sighted, lacks_sums, AreAllSettled, FindsSighted}

none_of : {A : Type 0} (p q : A → Bool) → ((x : A) → q x ≡ true → p x ≡ false) → (xs : List A) → list_any q (filter p xs) ≡ false
none_of p q never [] = refl
none_of p q never (x ∷ xs) = elim (cases_Bool (q x)) [
  | inl is ↦ ap (λ b. list_any q (cond b (x ∷ filter p xs) (filter p xs))) (never x is) ∙ none_of p q never xs
  | inr other ↦ elim (cases_Bool (p x)) [
    | inl passes ↦ ap (λ b. list_any q (cond b (x ∷ filter p xs) (filter p xs))) passes
        ∙ (ap (λ b. b || list_any q (filter p xs)) other ∙ none_of p q never xs)
    | inr fails ↦ ap (λ b. list_any q (cond b (x ∷ filter p xs) (filter p xs))) fails ∙ none_of p q never xs
  ]
]

no_sums : {A : Type 0} (test : A → Bool) (sums : Option A) → is_some sums ≡ false → option_map_or test sums false ≡ false
no_sums test None e = refl
no_sums test (Some known) e = cc

never_all : (a b c : Bool) → c ≡ false → (a && (b && c)) ≡ false
never_all false b c e = refl
never_all true false c e = refl
never_all true true c e = e

from_not : (b : Bool) → not b ≡ true → b ≡ false
from_not true e = cc
from_not false e = refl

no_seen : (mode : Mode) (size : ℕ) (file : List ℕ) (offset : ℕ) (slice : Option SetSlice) → option_map_or has_known_sums slice false ≡ false
    → option_map_or (is_seen mode size file offset) slice false ≡ false
no_seen mode size file offset None e = refl
no_seen mode size file offset (Some slice) e =
    let sums = sums_of (compared_window mode (window_at size file offset) slice) in
    never_all _ _ _ (no_sums (λ known. known.1 == sums.1 && bytes_eq known.0.0 sums.0.0) slice.sums e)

-- a slice whose checksums are not known has no sighting
pub unknown_unseen : (scan : Scan) (n : ℕ) → lacks_sums scan.sought.set n ≡ true → is_sighted scan n ≡ false
unfolding sightings_of
unknown_unseen scan n lacks =
    none_of (is_sighting scan) (λ x. x.slice == n) (λ x same.
    ap (slice_passes scan.sought.set.slices (is_seen scan.sought.mode scan.sought.set.slice_size (content_of scan x.file) x.offset)) (eqb-true x.slice n same)
    ∙ no_seen scan.sought.mode scan.sought.set.slice_size (content_of scan x.file) x.offset (slice_get scan.sought.set.slices n)
    (from_not _ lacks))
    (triples_of scan.sought.set (map length scan.contents))

or_unseen : (mark seen : Bool) → mark ≡ true → mark ≡ (mark || seen)
or_unseen true seen is = refl
or_unseen false seen is = cc

or_none : (mark seen : Bool) → seen ≡ false → mark ≡ (mark || seen)
or_none true seen none = refl
or_none false seen none = sym none

-- if each slice is settled, a survey that finds no further one has found each that has a sighting
pub settled_sighted : (scan : Scan) (marks : List Bool) → AreAllSettled scan.sought.set marks → FindsSighted scan marks marks
settled_sighted scan marks all n there = elim (or_cases (found_at marks n) (lacks_sums scan.sought.set n) (all n there)) [
  | inl marked ↦ or_unseen (found_at marks n) (is_sighted scan n) marked
  | inr lacks ↦ or_none (found_at marks n) (is_sighted scan n) (unknown_unseen scan n lacks)
]
