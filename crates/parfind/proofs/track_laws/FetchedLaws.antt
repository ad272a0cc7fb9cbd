-- How far files are read, and how many of their bytes reads return, over one read after another.
use Rattle.std.proofs.Common.{◌≡◌, ℕ, ◌+◌, ◌<◌, ◌≤◌, true, false, List, min, nat_lt, nat_eq, refl, arith, slice_index, inl, inr}
use Rattle.std.proofs.lemmas.Bool.{cases_lt, cases_eq, lt-ltb, le-ltb, eq-eqb, ne_eqb}
use Rattle.parfield.specs.Added.{added_at, slice_index-added_at_other}
use Rattle.parshelf.proofs.ReadLaws.{added_at-most}
use Rattle.parfind.specs.Fetched.{Place, upto, HandsUpTo}

module _ (lengths : List ℕ) (p : Place) (f : ℕ) where
  pub upto-before : f < p.file → upto lengths p f ≡ slice_index lengths f
  upto-before h = let e : nat_lt f p.file ≡ true = lt-ltb f p.file h in rw e refl

  pub upto-here : f ≡ p.file → upto lengths p f ≡ min p.offset (slice_index lengths f)
  upto-here h =
      let e : nat_lt f p.file ≡ false = le-ltb f p.file (omega arith) in
      let k : nat_eq f p.file ≡ true = eq-eqb f p.file h in
      rw (e, k) refl

  pub upto-after : p.file < f → upto lengths p f ≡ 0
  upto-after h =
      let e : nat_lt f p.file ≡ false = le-ltb f p.file (omega arith) in
      let k : nat_eq f p.file ≡ false = ne_eqb f p.file (omega arith) in
      rw (e, k) refl

  pub upto-most : upto lengths p f ≤ slice_index lengths f
  upto-most = elim (cases_lt f p.file) [
    | inl before ↦ omega (arith, upto-before before)
    | inr past ↦ elim (cases_eq f p.file) [
      | inl here ↦ omega (arith, upto-here here)
      | inr other ↦ omega (arith, upto-after (omega arith))
    ]
  ]

-- a place in a later file has no fewer bytes before it
pub upto-rises : (lengths : List ℕ) (p q : Place) (f : ℕ) → p.file < q.file → upto lengths p f ≤ upto lengths q f
upto-rises lengths p q f h = elim (cases_lt f q.file) [
  | inl before ↦ omega (arith, upto-before lengths q f before, upto-most lengths p f)
  | inr past ↦ omega (arith, upto-after lengths p f (omega arith))
]

-- a read that returns no byte, or no read at all
pub hands_none : (lengths handed : List ℕ) (p : Place) → HandsUpTo lengths handed handed p p
hands_none lengths handed p = record {
  file_onward = omega arith;
  onward = λ _. omega arith;
  handed = λ f. omega arith;
}

-- a read of a file moves the place on by the bytes that it returned
pub hands_read : (lengths before after : List ℕ) (file offset n : ℕ) → after ≡ added_at before file n
    → (0 < n → offset + n ≤ slice_index lengths file)
    → HandsUpTo lengths before after (record { file = file; offset = offset }) (record { file = file; offset = offset + n })
hands_read lengths before after file offset n same within =
    let p : Place = record { file = file; offset = offset } in
    let q : Place = record { file = file; offset = offset + n } in
    record {
      file_onward = omega arith;
      onward = λ _. omega arith;
      handed = λ f. rw same (elim (cases_eq f file) [
        | inl here ↦ rw here (elim (cases_lt 0 n) [
          | inl some ↦ omega (arith, within some, added_at-most before file n, upto-here lengths p file refl, upto-here lengths q file refl)
          | inr none ↦ omega (arith, added_at-most before file n, upto-here lengths p file refl, upto-here lengths q file refl)
        ])
        | inr other ↦ rw (slice_index-added_at_other before file n f other) (elim (cases_lt f file) [
          | inl less ↦ omega (arith, upto-before lengths p f less, upto-before lengths q f less)
          | inr more ↦ omega (arith, upto-after lengths p f (omega arith), upto-after lengths q f (omega arith))
        ])
      ]);
    }

-- entering a later file reads nothing
pub hands_enter : (lengths handed : List ℕ) (p q : Place) → p.file < q.file → HandsUpTo lengths handed handed p q
hands_enter lengths handed p q later = record {
  file_onward = omega arith;
  onward = λ same. absurd (omega arith);
  handed = λ f. omega (arith, upto-rises lengths p q f later);
}

-- two such steps, one after the other, are one
pub hands_more : (lengths a b c : List ℕ) (p q r : Place) → HandsUpTo lengths a b p q → HandsUpTo lengths b c q r → HandsUpTo lengths a c p r
hands_more lengths a b c p q r first next = record {
  file_onward = omega (arith, first.file_onward, next.file_onward);
  onward = λ same. omega (
    arith,
    first.onward (omega (arith, first.file_onward, next.file_onward)),
    next.onward (omega (arith, first.file_onward, next.file_onward)),
  );
  handed = λ f. omega (arith, first.handed f, next.handed f);
}
