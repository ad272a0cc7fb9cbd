-- A digest is taken of a window and kept; nothing else of the window changes.
use Rattle.std.proofs.Common.{◌≡◌, ℕ, zero, suc, ◌+◌, ◌<◌, List, [], ◌∷◌, length, slice_set, slice_index_or, sym, ap, subst, ◌∙◌, arith, Option, None, Some}
use Rattle.parfield.specs.declared.hash16.Hash16.{Hash16}
use Rattle.parwindow.specs.Window.{WindowState}
use Rattle.parfind.specs.KeptDigests.{KeepsDigests, IsFullFor, kept_count}
use Rattle.parfind.specs.Sought.{Sought}

-- one more digest is kept
kept_more : (kept : List (Option Hash16)) (k : ℕ) (digest : Hash16) → k < length kept → slice_index_or kept k None ≡ None
    → kept_count (slice_set kept k (Some digest)) ≡ kept_count kept + 1
kept_more [] k digest below none = absurd (omega arith)
kept_more (x ∷ xs) zero digest below none = rw none (omega arith)
kept_more (None ∷ xs) (suc k) digest below none = kept_more xs k digest (omega arith) none
kept_more (Some y ∷ xs) (suc k) digest below none = omega (arith, kept_more xs k digest (omega arith) none)

pub looks_more : (v w : WindowState) (kept : List (Option Hash16)) (k : ℕ) (digest : Hash16) → k < length kept
    → slice_index_or kept k None ≡ None → w ≡ record v { digests = v.digests + 1 } → KeepsDigests v kept w (slice_set kept k (Some digest))
looks_more v w kept k digest below none takes =
    let more : kept_count (slice_set kept k (Some digest)) ≡ kept_count kept + 1 = kept_more kept k digest below none in
    let one : w.digests ≡ v.digests + 1 = ap (λ (x : WindowState). x.digests) takes in
    record {
      window_is = takes ∙ ap (λ (n : ℕ). record v { digests = n }) (sym one);
      counted = omega (arith, more, one);
      kept = omega (arith, more);
    }

-- digests that are taken after others are kept, too
pub looks_on : (u v w : WindowState) (first second third : List (Option Hash16)) → KeepsDigests u first v second → KeepsDigests v second w third
    → KeepsDigests u first w third
looks_on u v w first second third before next = record {
  window_is = next.window_is ∙ ap (λ (x : WindowState). record x { digests = w.digests }) before.window_is;
  counted = omega (arith, before.counted, next.counted);
  kept = omega (arith, before.kept, next.kept);
}

pub full_digests : (sought : Sought) (v w : WindowState) (n : ℕ) → w ≡ record v { digests = n } → IsFullFor sought v → IsFullFor sought w
full_digests sought v w n takes full =
    subst (λ (x : WindowState). IsFullFor sought x) (sym takes)
    (record { made = record { sized = full.made.sized; tails_are = full.made.tails_are; few = full.made.few }; full = full.full })
