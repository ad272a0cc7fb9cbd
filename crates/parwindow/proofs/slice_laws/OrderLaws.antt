-- The order of entries: an entry between two that have the same checksums has them too.
use Rattle.std.proofs.Common.{◌≡◌, ℕ, List, [], ◌∷◌, refl, sym, ap, ap₂, ◌∙◌, Ordering, Less, Equal, Greater}
use Rattle.std.specs.Ordering.{nat_cmp, then_cmp, ordering_then, ordering_reverse}
use Rattle.std.specs.Cmp.{IsTotalOrder}
use Rattle.std.specs.Cmp.Lexicographic.{slice_cmp}
use Rattle.std.proofs.lemmas.Cmp.{ranked, nat_cmp_total, nat_list_cmp_total, then_total, on_total, tied_back}
use Rattle.parwindow.specs.declared.slices.entries.Entry.{Entry}
use Rattle.parwindow.specs.Entries.{entry_cmp}

pub entry_cmp_total : IsTotalOrder entry_cmp
entry_cmp_total = then_total (on_total (λ (e : Entry). e.crc) nat_cmp_total)
    (then_total (on_total (λ (e : Entry). e.digest) nat_list_cmp_total)
    (on_total (λ (e : Entry). e.slice) nat_cmp_total))

pub nat_cmp-equal : (x y : ℕ) → nat_cmp x y ≡ Equal → x ≡ y
nat_cmp-equal x y h = ranked x y Equal (sym h)

then_equal : (a b : Ordering) → ordering_then a b ≡ Equal → (a ≡ Equal) × (b ≡ Equal)
then_equal Less b h = cc
then_equal Equal b h = (refl, h)
then_equal Greater b h = cc

pub slice_cmp-equal : (xs ys : List ℕ) → slice_cmp nat_cmp xs ys ≡ Equal → xs ≡ ys
slice_cmp-equal [] [] h = refl
slice_cmp-equal [] (y ∷ ys) h = cc
slice_cmp-equal (x ∷ xs) [] h = cc
slice_cmp-equal (x ∷ xs) (y ∷ ys) h =
    let parts = then_equal (nat_cmp x y) (slice_cmp nat_cmp xs ys) h in
    ap₂ (λ (a : ℕ) (l : List ℕ). a ∷ l) (nat_cmp-equal x y parts.0) (slice_cmp-equal xs ys parts.1)

module _ {K : Type 0} (R S : K → K → Ordering) (o : IsTotalOrder R) (e t x : K)
    (tied : R x t ≡ Equal) where
  middle : (r : Ordering) → R e t ≡ r → (ordering_then r (S e t) ≡ Less → ⊥)
      → (then_cmp R S x e ≡ Less → ⊥)
      → (R e t ≡ Equal) × (S e t ≡ Less → ⊥) × (S x e ≡ Less → ⊥)
  middle Less is above below = absurd (above refl)
  middle Equal is above below =
      let back : R x e ≡ Equal = o.congr x t e tied ∙ tied_back o e t is in
      (is, above, λ less. below (rw back less))
  middle Greater is above below =
      let back : R x e ≡ Less = o.congr x t e tied ∙ o.antisymm t e ∙ ap ordering_reverse is in
      absurd (below (rw back refl))

  pub squeezed : (then_cmp R S e t ≡ Less → ⊥) → (then_cmp R S x e ≡ Less → ⊥)
      → (R e t ≡ Equal) × (S e t ≡ Less → ⊥) × (S x e ≡ Less → ⊥)
  squeezed above below = middle (R e t) refl above below
