-- A try of the next place is a step with a budget of one place: its move, and the sightings that it
-- sees.
use Rattle.std.proofs.Common.{◌≤◌, refl, arith, false, ◌≡◌, ℕ, List, [], ◌∷◌, length, map, sym, subst, Some, None}
use Rattle.parshelf.specs.Shelf.{file_of}
use Rattle.parfind.specs.Sought.{Sought}
use Rattle.parwindow.specs.Least.{IsLeastFrom}
use Rattle.parfind.specs.declared.cursors.cursor.Cursor.{Cursor}
use Rattle.parfind.specs.declared.cursors.sighting.Sighting.{Sighting}
use Rattle.parfind.specs.Order.{is_from, cursor_of, cursor_after}
use Rattle.parfind.specs.Places.{cursor_at, cursor_past, place_start, places_of, places_ahead, place_at}
use Rattle.parfind.specs.Moves.{end_of, greater_of, HitsWithin, PassesAll, ComesToEnd, StaysWithin}
use Rattle.parfind.specs.Sightings.{is_slice_seen, sightings_from, sightings_between}
use Rattle.parfind.specs.Steps.{scan_of, lengths_of}
use Rattle.parfind.specs.NextPlace.{IsNextPlace, NoPlaceFrom}
use Rattle.std.proofs.lemmas.Bool.{false_from_ne_true}
use Rattle.parfind.proofs.place_laws.CursorOrderLaws.{From, From-by_test, is_from-true, From-trans}
use Rattle.parfind.proofs.place_laws.ItemLaws.{Each-from_has, filter_none}
use Rattle.parfind.proofs.place_laws.PlaceLaws.{place_at_place, ahead_of_start, next_over, next_ahead}
use Rattle.parfind.proofs.place_laws.SightingsBetweenLaws.{next_unseen, end_unseen, past_unseen, hit_seen}

-- the sightings that it sees, in files of these lengths

module _ (sought : Sought) (files : List (List ℕ)) (lengths : List ℕ) (same : map length files ≡ lengths) where
  module _ (c : Cursor) where
    pub visit_ended : NoPlaceFrom lengths c → sightings_from (scan_of sought files) c ≡ []
    visit_ended none = end_unseen (scan_of sought files) c (subst (λ (ns : List ℕ). NoPlaceFrom ns c) (sym same) none)

    module _ (d : Cursor) (next : IsNextPlace lengths c d) where
      next_of_scan : IsNextPlace (lengths_of (scan_of sought files)) c d
      next_of_scan = subst (λ (ns : List ℕ). IsNextPlace ns c d) (sym same) next

      pub visit_hit : (n : ℕ) → IsLeastFrom (is_slice_seen sought (file_of files d.file) d.offset) d.slice (Some n)
          → let x : Sighting = record { file = d.file; offset = d.offset; slice = n } in
          sightings_from (scan_of sought files) c ≡ x ∷ sightings_from (scan_of sought files) (cursor_after x)
      visit_hit n first = hit_seen (scan_of sought files) c d n next_of_scan first

      pub visit_past : IsLeastFrom (is_slice_seen sought (file_of files d.file) d.offset) d.slice None
          → sightings_between (scan_of sought files) c (cursor_past (place_at d)) ≡ []
      visit_past none = past_unseen (scan_of sought files) c d next_of_scan none

      pub visit_stopped : sightings_between (scan_of sought files) c d ≡ []
      visit_stopped = next_unseen (scan_of sought files) c d next_of_scan

-- its move, whatever the reads return

module _ (lengths : List ℕ) (c d : Cursor) (next : IsNextPlace lengths c d) where
  pub visit_hits : (n : ℕ) → d.slice ≤ n
      → let x : Sighting = record { file = d.file; offset = d.offset; slice = n } in
      HitsWithin lengths (Some 1) c x (cursor_after x)
  visit_hits n low =
      let x : Sighting = record { file = d.file; offset = d.offset; slice = n } in
      let to : From d (cursor_of x) = record { by_file = omega arith; by_offset = λ _. omega arith; by_slice = λ _ _. low } in
      record {
        onward = is_from-true c (cursor_of x) (From-trans c d (cursor_of x) (From-by_test c d next.onward) to);
        near = rw (next_ahead lengths c d next) (0, omega arith, refl);
        after = refl;
      }

  pub visit_passes : PassesAll lengths 1 c (cursor_past (place_at d))
  visit_passes = record {
    some = omega arith;
    last = place_at d;
    nth = rw (next_ahead lengths c d next) refl;
    after = refl;
  }

  pub visit_stays : StaysWithin lengths (Some 1) c d
  visit_stays = record { onward = next.onward; near = rw (next_over lengths c d next) (omega arith) }

pub visit_ends : (lengths : List ℕ) (c d : Cursor) → NoPlaceFrom lengths c → d ≡ greater_of c (end_of lengths)
    → ComesToEnd lengths (Some 1) c d
visit_ends lengths c d none is =
    let nothing : places_ahead lengths c ≡ [] =
    filter_none (λ p. is_from (place_start c) (cursor_at p)) (places_of lengths)
    (Each-from_has (λ p. is_from (place_start c) (cursor_at p) ≡ false) (places_of lengths)
    (λ p has. false_from_ne_true _ (λ after.
    let at : Cursor = record { file = p.file; offset = p.offset; slice = c.slice } in
    let on : From c at = ahead_of_start c p (From-by_test (place_start c) (cursor_at p) after) in
    none at (is_from-true c at on) (place_at_place lengths p has)))) in
    record { few = rw nothing (omega arith); after = is }
