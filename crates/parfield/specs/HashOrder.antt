-- The order of IDs: they compare as little-endian numbers, so the last byte weighs most.
use Rattle.std.specs.Prelude.{◌≡◌, ◌<◌, ℕ, List, [], ◌∷◌, length, reverse}
use Rattle.std.proofs.Common.{sym, ap, ◌∙◌}
use Rattle.std.specs.Bool.{Decides}
use Rattle.std.specs.Cmp.Lexicographic.{slice_cmp}
use Rattle.std.specs.Ordering.{nat_cmp, is_eq}
use Rattle.std.specs.Str.{bytes_eq}
use Rattle.std.specs.declared.cmp.Ordering.{Ordering}
use Rattle.parfield.specs.Bytes.{le_value}
use Rattle.parfield.specs.declared.hash16.Hash16.{Hash16}
use Rattle.std.proofs.lemmas.Bool.Decides.{same_from_decides}
use Rattle.std.proofs.lemmas.List.{reverse-reverse}
use Rattle.std.proofs.lemmas.Map.Text.{is_eq-slice_cmp}
use Rattle.std.proofs.lemmas.Slice.Eq.{bytes_eq-Decides}

-- the order of two IDs: their bytes are compared from the last one on
abbrev pub id_cmp : Hash16 → Hash16 → Ordering
id_cmp a b = slice_cmp nat_cmp (reverse a.0) (reverse b.0)

-- each number is below 256
abbrev pub AreBytes : List ℕ → Type 0
AreBytes [] = Unit {0}
AreBytes (x ∷ xs) = (x < 256) × AreBytes xs

-- any two IDs compare as their little-endian numbers do
abbrev pub IdsFollowNumbers : Type 0
IdsFollowNumbers = (a b : Hash16) → length a.0 ≡ length b.0 → AreBytes a.0 → AreBytes b.0 → id_cmp a b ≡ nat_cmp (le_value a.0) (le_value b.0)

reversed_Decides : (xs ys : List ℕ) → Decides (bytes_eq (reverse xs) (reverse ys)) (xs ≡ ys)
reversed_Decides xs ys =
    let there = bytes_eq-Decides (reverse xs) (reverse ys) in (
      λ same. sym (reverse-reverse xs) ∙ (ap reverse (there.0 same) ∙ reverse-reverse ys),
      λ e. there.1 (ap reverse e),
    )

-- two lists of bytes are equal exactly if they are when they are compared from the last byte on
pub bytes_eq-reversed : (xs ys : List ℕ) → bytes_eq xs ys ≡ is_eq (slice_cmp nat_cmp (reverse xs) (reverse ys))
bytes_eq-reversed xs ys =
    same_from_decides (bytes_eq xs ys) (bytes_eq (reverse xs) (reverse ys)) (bytes_eq-Decides xs ys) (reversed_Decides xs ys)
    ∙ sym (is_eq-slice_cmp (reverse xs) (reverse ys))
