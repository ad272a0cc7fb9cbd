-- The order of cursors, stated as facts about numbers, with which the provers of arithmetic can
-- work.
use Rattle.std.proofs.Common.{◌≡◌, ◌<◌, ◌≤◌, true, false, arith, sym, inl, inr}
use Rattle.std.proofs.lemmas.Bool.{ltb-true, ltb-false, eqb-true, eqb-false, not-true, not_from_true, not_from_false, and_parts, or_cases, or_parts, and_cases, true_from_ne_false, false_from_ne_true}
use Rattle.parfind.specs.declared.cursors.cursor.Cursor.{Cursor}
use Rattle.parfind.specs.declared.cursors.sighting.Sighting.{Sighting}
use Rattle.parfind.specs.Order.{is_before, is_from, cursor_of, cursor_after}

-- cursor a is before cursor b
pub record Before (a b : Cursor) : Type 0 where
  pub by_file : a.file ≤ b.file
  pub by_offset : a.file ≡ b.file → a.offset ≤ b.offset
  pub by_slice : a.file ≡ b.file → a.offset ≡ b.offset → a.slice < b.slice

-- cursor b is not before cursor a
pub record From (a b : Cursor) : Type 0 where
  pub by_file : a.file ≤ b.file
  pub by_offset : a.file ≡ b.file → a.offset ≤ b.offset
  pub by_slice : a.file ≡ b.file → a.offset ≡ b.offset → a.slice ≤ b.slice

-- the tests `is_before` and `is_from` say the same as these facts

pub Before-by_test : (a b : Cursor) → is_before a b ≡ true → Before a b
Before-by_test a b h = elim (or_cases _ _ h) [
  | inl p ↦
      let lt = ltb-true a.file b.file p in
      record { by_file = omega (arith, lt); by_offset = omega (arith, lt); by_slice = omega (arith, lt) }
  | inr q ↦
      let parts = and_parts _ _ q in
      let same = eqb-true a.file b.file parts.0 in
      elim (or_cases _ _ parts.1) [
        | inl p ↦
            let lt = ltb-true a.offset b.offset p in
            record { by_file = omega (arith, same); by_offset = omega (arith, lt); by_slice = omega (arith, lt) }
        | inr r ↦
            let parts' = and_parts _ _ r in
            let same' = eqb-true a.offset b.offset parts'.0 in
            let lt = ltb-true a.slice b.slice parts'.1 in
            record { by_file = omega (arith, same); by_offset = omega (arith, same'); by_slice = omega (arith, lt) }
      ]
]

pub From-by_not_before : (a b : Cursor) → is_before a b ≡ false → From b a
From-by_not_before a b h =
    let parts = or_parts _ _ h in
    record {
      by_file = ltb-false a.file b.file parts.0;
      by_offset = λ same. elim (and_cases _ _ parts.1) [
        | inl p ↦ absurd (eqb-false a.file b.file p (sym same))
        | inr q ↦ ltb-false a.offset b.offset (or_parts _ _ q).0
      ];
      by_slice = λ same same'. elim (and_cases _ _ parts.1) [
        | inl p ↦ absurd (eqb-false a.file b.file p (sym same))
        | inr q ↦ elim (and_cases _ _ (or_parts _ _ q).1) [
          | inl r ↦ absurd (eqb-false a.offset b.offset r (sym same'))
          | inr r ↦ ltb-false a.slice b.slice r
        ]
      ];
    }

pub not_both : (a b : Cursor) → Before a b → From b a → ⊥
not_both a b p q =
    let same : a.file ≡ b.file = omega arith in
    let same' : a.offset ≡ b.offset = omega (arith, p.by_offset same, q.by_offset (sym same)) in
    omega (arith, p.by_slice same same', q.by_slice (sym same) (sym same'))

pub is_before-true : (a b : Cursor) → Before a b → is_before a b ≡ true
is_before-true a b h = true_from_ne_false (is_before a b) (λ e. not_both a b h (From-by_not_before a b e))

pub is_before-false : (a b : Cursor) → From b a → is_before a b ≡ false
is_before-false a b h = false_from_ne_true (is_before a b) (λ e. not_both a b (Before-by_test a b e) h)

pub From-by_test : (a b : Cursor) → is_from a b ≡ true → From a b
From-by_test a b h = From-by_not_before b a (not-true _ h)

pub is_from-true : (a b : Cursor) → From a b → is_from a b ≡ true
is_from-true a b h = not_from_false _ (is_before-false b a h)

pub is_from-false : (a b : Cursor) → Before b a → is_from a b ≡ false
is_from-false a b h = not_from_true _ (is_before-true b a h)

-- the order is reflexive and transitive

pub From-refl : (a : Cursor) → From a a
From-refl a = record { by_file = omega arith; by_offset = omega arith; by_slice = omega arith }

pub From-trans : (a b c : Cursor) → From a b → From b c → From a c
From-trans a b c p q = record { by_file = omega arith; by_offset = omega arith; by_slice = omega arith }

pub Before-From : (a b c : Cursor) → Before a b → From b c → Before a c
Before-From a b c p q = record { by_file = omega arith; by_offset = omega arith; by_slice = omega arith }

pub From-before : (a b : Cursor) → Before a b → From a b
From-before a b p = record { by_file = omega arith; by_offset = omega arith; by_slice = omega arith }

-- no cursor lies between a sighting and the cursor after it

pub Before-after : (x : Sighting) → Before (cursor_of x) (cursor_after x)
Before-after x = record { by_file = omega arith; by_offset = omega arith; by_slice = omega arith }

pub From-after : (x : Sighting) (c : Cursor) → Before (cursor_of x) c → From (cursor_after x) c
From-after x c p = record { by_file = omega arith; by_offset = omega arith; by_slice = omega arith }
