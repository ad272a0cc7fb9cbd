-- The slices that have a sighting before a cursor.
use Rattle.std.proofs.Common.{◌≡◌, ℕ, ◌+◌, ◌<◌, ◌≤◌, Bool, true, false, ◌||◌, ◌&&◌, ◌==◌, List, [], length, refl, sym, ◌∙◌, subst, arith, inl, inr}
use Rattle.std.proofs.lemmas.Bool.{cases_Bool, cases_lt, eq-eqb, eqb-true, or_cases, or_parts, or_left, or_right, and_parts, and_from}
use Rattle.parfind.specs.declared.cursors.cursor.Cursor.{Cursor}
use Rattle.parfind.specs.declared.cursors.sighting.Sighting.{Sighting}
use Rattle.parfind.specs.Order.{is_before, cursor_of, origin}
use Rattle.parfind.specs.Fetched.{Place}
use Rattle.parfind.specs.Places.{cursor_past, place_at}
use Rattle.parfind.specs.Sightings.{Scan, content_of, is_slice_seen, sightings_of, sightings_between}
use Rattle.parfind.specs.Steps.{lengths_of}
use Rattle.parfind.specs.Surveys.{is_sighted, is_sighted_before, lacks_sums, AllSightedBy}
use Rattle.parwindow.specs.Missing.{found_at}
use Rattle.parfind.proofs.place_laws.CursorOrderLaws.{Before, From, Before-by_test, From-by_not_before, is_before-true, is_from-true, Before-From, not_both}
use Rattle.parfind.proofs.place_laws.ItemLaws.{Has, Has-filter}
use Rattle.parfind.proofs.survey_laws.NotedLaws.{same_truth, any_has, has_any}
use Rattle.parfind.proofs.search_laws.StepMovesLaws.{counted_of}
use Rattle.parfind.proofs.place_laws.PlaceLaws.{sighting_seen, sighting_at_place, Has-sightings_of, From-past}
use Rattle.parfind.proofs.place_laws.SeenLaws.{seen_there}

-- x is a sighting of slice n before a cursor
pub record IsOneBefore (scan : Scan) (c : Cursor) (n : ℕ) (x : Sighting) : Type 0 where
  pub has : Has (sightings_of scan) x
  pub slice_is : x.slice ≡ n
  pub before : Before (cursor_of x) c

module _ (scan : Scan) where
  pub sighted_one : (c : Cursor) (n : ℕ) → is_sighted_before scan c n ≡ true → (x : Sighting) × IsOneBefore scan c n x
  sighted_one c n h =
      let some = any_has (λ x. x.slice == n && is_before (cursor_of x) c) (sightings_of scan) h in
      let parts = and_parts _ _ some.2 in
      (some.0, record { has = some.1; slice_is = eqb-true some.0.slice n parts.0; before = Before-by_test (cursor_of some.0) c parts.1 })

  pub one_sighted : (c : Cursor) (n : ℕ) (x : Sighting) → IsOneBefore scan c n x → is_sighted_before scan c n ≡ true
  one_sighted c n x one =
      has_any (λ y. y.slice == n && is_before (cursor_of y) c) (sightings_of scan) x one.has
      (and_from _ _ (eq-eqb x.slice n one.slice_is) (is_before-true (cursor_of x) c one.before))

  -- a slice that has a sighting before a cursor has one before each later cursor
  pub sighted_on : (c d : Cursor) → From c d → (n : ℕ) → is_sighted_before scan c n ≡ true → is_sighted_before scan d n ≡ true
  sighted_on c d on n h =
      let one = sighted_one c n h in
      one_sighted d n one.0 (record { has = one.1.has; slice_is = one.1.slice_is; before = Before-From (cursor_of one.0) c d one.1.before on })

  -- if no sighting lies between two cursors, the same slices have one before each of them
  module _ (c d : Cursor) (on : From c d) (none : sightings_between scan c d ≡ []) where
    late : (x : Sighting) → Has (sightings_of scan) x → Before (cursor_of x) d → Before (cursor_of x) c
    late x has before = elim (cases_Bool (is_before (cursor_of x) c)) [
      | inl h ↦ Before-by_test (cursor_of x) c h
      | inr h ↦
          let from : From c (cursor_of x) = From-by_not_before (cursor_of x) c h in
          let between : Has (sightings_between scan c d) x =
          Has-filter (λ y. is_before (cursor_of y) d) _ x (Has-filter (λ y. _) (sightings_of scan) x has (is_from-true c (cursor_of x) from))
          (is_before-true (cursor_of x) d before) in
          absurd (subst (λ (xs : List Sighting). Has xs x) none between)
    ]

    pub none_more : (n : ℕ) → is_sighted_before scan c n ≡ is_sighted_before scan d n
    none_more n = same_truth _ _
        (sighted_on c d on n)
        (λ h. let one = sighted_one d n h in
        one_sighted c n one.0 (record { has = one.1.has; slice_is = one.1.slice_is; before = late one.0 one.1.has one.1.before }))

  -- past a place, the slices that are seen at it have a sighting before the cursor, besides those
  -- that had one
  module _ (c : Cursor) (first : c.slice ≡ 0) (counted : c.file < length scan.contents) where
    abbrev pub seen_here : ℕ → Bool
    seen_here n = is_slice_seen scan.sought (content_of scan c.file) c.offset n

    here_or_before : (x : Sighting) → From c (cursor_of x) → Before (cursor_of x) (cursor_past (place_at c))
        → (x.file ≡ c.file) × (x.offset ≡ c.offset)
    here_or_before x from before =
        let file : x.file ≡ c.file = omega (arith, from.by_file, before.by_file) in
        let most : x.offset ≤ c.offset + 1 = before.by_offset file in (
          file,
          elim (cases_lt c.offset x.offset) [
            | inl less ↦ absurd (omega (arith, before.by_slice file (omega arith)))
            | inr more ↦ omega (arith, from.by_offset (sym file))
          ],
        )

    same_seen : (x : Sighting) (n : ℕ) → x.file ≡ c.file → x.offset ≡ c.offset → x.slice ≡ n
        → is_slice_seen scan.sought (content_of scan x.file) x.offset x.slice ≡ true → seen_here n ≡ true
    same_seen x n file offset slice seen = rw (file, offset, slice) at seen

    pub here_more : (n : ℕ) → (is_sighted_before scan c n || seen_here n)
        ≡ is_sighted_before scan (cursor_past (place_at c)) n
    here_more n = same_truth _ _
        (λ h. elim (or_cases _ _ h) [
          | inl sooner ↦
              let one = sighted_one c n sooner in
              one_sighted (cursor_past (place_at c)) n one.0 (record {
                has = one.1.has;
                slice_is = one.1.slice_is;
                before = Before-From (cursor_of one.0) c (cursor_past (place_at c)) one.1.before (From-past c);
              })
          | inr seen ↦
              let x : Sighting = record { file = c.file; offset = c.offset; slice = n } in
              one_sighted (cursor_past (place_at c)) n x (record {
                has = Has-sightings_of scan x counted (seen_there scan.sought (content_of scan c.file) c.offset n seen) seen;
                slice_is = refl;
                before = record { by_file = omega arith; by_offset = λ _. omega arith; by_slice = λ _ e. absurd (omega arith) };
              })
        ])
        (λ h. let one = sighted_one (cursor_past (place_at c)) n h in
        elim (cases_Bool (is_before (cursor_of one.0) c)) [
          | inl sooner ↦ or_left (is_sighted_before scan c n) (seen_here n) (one_sighted c n one.0 (record {
            has = one.1.has;
            slice_is = one.1.slice_is;
            before = Before-by_test (cursor_of one.0) c sooner;
          }))
          | inr later ↦
              let here = here_or_before one.0 (From-by_not_before (cursor_of one.0) c later) one.1.before in
              let seen : is_slice_seen scan.sought (content_of scan one.0.file) one.0.offset one.0.slice ≡ true = sighting_seen scan one.0 one.1.has in
              or_right (is_sighted_before scan c n) (seen_here n) (same_seen one.0 n here.0 here.1 one.1.slice_is seen)
        ])

  -- no slice has a sighting before the first cursor, and each one that has a sighting has one
  -- before the end of all files
  pub none_first : (n : ℕ) → is_sighted_before scan origin n ≡ false
  none_first n = elim (cases_Bool (is_sighted_before scan origin n)) [
    | inl h ↦
        let one = sighted_one origin n h in
        absurd (not_both (cursor_of one.0) origin one.1.before
        (record { by_file = omega arith; by_offset = λ _. omega arith; by_slice = λ _ _. omega arith }))
    | inr h ↦ h
  ]

  pub before_sighted : (c : Cursor) (n : ℕ) → is_sighted_before scan c n ≡ true → is_sighted scan n ≡ true
  before_sighted c n h =
      let one = sighted_one c n h in
      has_any (λ x. x.slice == n) (sightings_of scan) one.0 one.1.has (eq-eqb one.0.slice n one.1.slice_is)

  pub all_before : (c : Cursor) → length (lengths_of scan) ≤ c.file → (n : ℕ) → is_sighted_before scan c n ≡ is_sighted scan n
  all_before c past n = same_truth _ _ (before_sighted c n) (λ h.
      let some = any_has (λ x. x.slice == n) (sightings_of scan) h in
      let counted : some.0.file < length (lengths_of scan) =
      counted_of (lengths_of scan) some.0.file some.0.offset (sighting_at_place scan some.0 some.1) in
      one_sighted c n some.0 (record {
        has = some.1;
        slice_is = eqb-true some.0.slice n some.2;
        before = record { by_file = omega arith; by_offset = λ e. absurd (omega arith); by_slice = λ e _. absurd (omega arith) };
      }))

  -- the place by which each slice is found isn't before a cursor by which some slice isn't found
  -- yet
  pub still_missing : (was : List Bool) (c : Cursor) (m : ℕ) (p : Place) → m < length was
      → lacks_sums scan.sought.set m ≡ false → (found_at was m || is_sighted_before scan c m) ≡ false → AllSightedBy scan was p
      → (c.file ≤ p.file) × (c.file ≡ p.file → c.offset ≤ p.offset)
  still_missing was c m p within known open_ all =
      let parts = or_parts (found_at was m) (is_sighted_before scan c m) open_ in
      elim (or_cases (found_at was m || lacks_sums scan.sought.set m) (is_sighted_before scan (cursor_past p) m) (all m within)) [
        | inl settled ↦ elim (or_cases (found_at was m) (lacks_sums scan.sought.set m) settled) [
          | inl marked ↦ absurd (let both : true ≡ false = sym marked ∙ parts.0 in cc)
          | inr unknown ↦ absurd (let both : true ≡ false = sym unknown ∙ known in cc)
        ]
        | inr found ↦
            let one = sighted_one (cursor_past p) m found in
            elim (cases_Bool (is_before (cursor_of one.0) c)) [
              | inl sooner ↦ absurd (
                  let has : is_sighted_before scan c m ≡ true = one_sighted c m one.0 (record {
                    has = one.1.has;
                    slice_is = one.1.slice_is;
                    before = Before-by_test (cursor_of one.0) c sooner;
                  }) in
                  let both : true ≡ false = sym has ∙ parts.1 in cc
                  )
              | inr later ↦
                  let from : From c (cursor_of one.0) = From-by_not_before (cursor_of one.0) c later in
                  let before = one.1.before in (
                    omega (arith, from.by_file, before.by_file),
                    λ same.
                        let file : one.0.file ≡ p.file = omega (arith, from.by_file, before.by_file) in
                        elim (cases_lt p.offset one.0.offset) [
                          | inl less ↦ absurd (omega (arith, before.by_slice file (omega (arith, before.by_offset file))))
                          | inr more ↦ omega (arith, from.by_offset (same ∙ sym file))
                        ],
                  )
            ]
      ]
