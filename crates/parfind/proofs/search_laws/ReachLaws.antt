-- How many bytes of each file all calls since an opening read.
use Rattle.std.proofs.Common.{◌≡◌, ℕ, ◌+◌, ◌-◌, ◌<◌, ◌≤◌, ◌⊎◌, true, false, List, [], ◌∷◌, nat_lt, nat_eq, sym, subst, arith, slice_index, inl, inr}
use Rattle.std.proofs.lemmas.Bool.{cases_lt, cases_eq, lt-ltb, le-ltb, eq-eqb, ne_eqb}
use Rattle.parfind.specs.Fetched.{Place, HandsUpTo, ReadsUpTo}
use Rattle.parfind.proofs.track_laws.FetchedLaws.{upto-before, upto-here, upto-after, upto-most, hands_none, hands_more}
use Rattle.parfind.specs.Places.{place_at}
use Rattle.parfind.specs.Points.{SearchState}
use Rattle.parfind.specs.OnePass.{IsNear, CallsRead, entry_of, room_of, ReachAddsUp}

reaches : (size : ℕ) (old new : SearchState) (calls : List SearchState) → CallsRead size old calls new
    → ReadsUpTo old.shelf new.shelf old.fetched new.fetched × ((new ≡ old) ⊎ IsNear size new.fetched new.cursor)
reaches size old new [] same =
    (subst (λ (s : SearchState). ReadsUpTo old.shelf s.shelf old.fetched s.fetched) (sym same) (hands_none old.shelf.lengths old.shelf.handed old.fetched), inl same)
reaches size old new (next ∷ others) calls =
    let later = reaches size next new others calls.1 in
    let reads : HandsUpTo old.shelf.lengths next.shelf.handed new.shelf.handed next.fetched new.fetched = rw calls.0.lengths_are at later.0 in (
      hands_more old.shelf.lengths old.shelf.handed next.shelf.handed new.shelf.handed old.fetched next.fetched new.fetched calls.0.reads reads,
      elim later.1 [
        | inl same ↦ inr (subst (λ (s : SearchState). IsNear size s.fetched s.cursor) (sym same) calls.0.near)
        | inr near ↦ inr near
      ],
    )

module _ (size : ℕ) (old new : SearchState) (start : old.fetched ≡ place_at old.cursor)
    (reads : ReadsUpTo old.shelf new.shelf old.fetched new.fetched) where
  from_start : HandsUpTo old.shelf.lengths old.shelf.handed new.shelf.handed (place_at old.cursor) new.fetched
  from_start = rw start at reads

  within_room : (f : ℕ) → slice_index new.shelf.handed f ≤ slice_index old.shelf.handed f + room_of old.shelf.lengths old.cursor f
  within_room f =
      let lengths : List ℕ = old.shelf.lengths in
      let p : Place = place_at old.cursor in
      let q : Place = new.fetched in
      let most = from_start.handed f in
      elim (cases_lt f old.cursor.file) [
        | inl before ↦
            let e : nat_lt f old.cursor.file ≡ true = lt-ltb f old.cursor.file before in
            rw e (omega (arith, most, upto-before lengths p f before, upto-most lengths q f))
        | inr past ↦
            let e : nat_lt f old.cursor.file ≡ false = le-ltb f old.cursor.file past in
            elim (cases_eq f old.cursor.file) [
              | inl here ↦
                  let k : nat_eq f old.cursor.file ≡ true = eq-eqb f old.cursor.file here in
                  rw (e, k) (omega (arith, most, upto-here lengths p f here, upto-most lengths q f))
              | inr other ↦
                  let k : nat_eq f old.cursor.file ≡ false = ne_eqb f old.cursor.file other in
                  rw (e, k) (omega (arith, most, upto-most lengths q f))
            ]
      ]

  module _ (near : IsNear size new.fetched new.cursor) where
    none_after : (f : ℕ) → new.cursor.file < f → slice_index new.shelf.handed f ≤ slice_index old.shelf.handed f
    none_after f later =
        omega (arith, from_start.handed f, upto-after old.shelf.lengths new.fetched f (omega (arith, near.file_is)))

    near_cursor : slice_index new.shelf.handed new.cursor.file ≤ slice_index old.shelf.handed new.cursor.file
        + (new.cursor.offset - entry_of old.cursor new.cursor.file + size + 4096)
    near_cursor =
        let lengths : List ℕ = old.shelf.lengths in
        let p : Place = place_at old.cursor in
        let q : Place = new.fetched in
        let f : ℕ = new.cursor.file in
        let most = from_start.handed f in
        elim (cases_eq q.file f) [
          | inl same ↦
              let here = upto-here lengths q f (sym same) in
              let at = near.offset_is same in
              elim (cases_eq f old.cursor.file) [
                | inl e ↦
                    let k : nat_eq f old.cursor.file ≡ true = eq-eqb f old.cursor.file e in
                    rw k (omega (arith, most, here, at, upto-here lengths p f e))
                | inr other ↦
                    let k : nat_eq f old.cursor.file ≡ false = ne_eqb f old.cursor.file other in
                    rw k (omega (arith, most, here, at))
              ]
          | inr other ↦
              let none = upto-after lengths q f (omega (arith, near.file_is)) in
              omega (arith, most, none)
        ]

pub reach_adds_up : ReachAddsUp
reach_adds_up size opened now calls start called =
    let all = reaches size opened now calls called in
    elim all.1 [
      | inl same ↦ record {
        room = within_room size opened now start all.0;
        none = λ f later. rw same (omega arith);
        near = rw same (omega arith);
      }
      | inr near ↦ record {
        room = within_room size opened now start all.0;
        none = none_after size opened now start all.0 near;
        near = near_cursor size opened now start all.0 near;
      }
    ]
