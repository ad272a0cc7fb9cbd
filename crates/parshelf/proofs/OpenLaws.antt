-- Files that are opened one after another, at the paths of a list.
use Rattle.std.proofs.Common.{◌≡◌, ℕ, zero, suc, ◌+◌, List, [], ◌∷◌, ◌++◌, map, take, Some, sym, ap, ◌∙◌, arith}
use Rattle.std.specs.List.{slice_get}
use Rattle.std.proofs.lemmas.List.{map-append}
use Rattle.std.proofs.lemmas.Option.{none-some, same_Some}

take_next : (xs : List (List ℕ)) (n : ℕ) (x : List ℕ) → slice_get xs n ≡ Some x → take (suc n) xs ≡ take n xs ++ x ∷ []
take_next [] n x at = absurd (none-some x at)
take_next (y ∷ ys) zero x at = ap (λ (z : List ℕ). z ∷ []) (same_Some y x at)
take_next (y ∷ ys) (suc n) x at = ap (λ (zs : List (List ℕ)). y ∷ zs) (take_next ys n x at)

-- if the files opened so far are at the first n paths, then after one more they
-- are at the first n + 1
pub opened_next : {A : Type 0} (path_of : A → List ℕ) (files : List A) (file : A) (paths : List (List ℕ)) (n : ℕ)
    → map path_of files ≡ take n paths → slice_get paths n ≡ Some (path_of file)
    → map path_of (files ++ file ∷ []) ≡ take (n + 1) paths
opened_next path_of files file paths n so_far next =
    let more : n + 1 ≡ suc n = omega arith in
    map-append path_of files (file ∷ []) ∙ ap (λ (xs : List (List ℕ)). xs ++ path_of file ∷ []) so_far
    ∙ sym (take_next paths n (path_of file) next) ∙ ap (λ (k : ℕ). take k paths) (sym more)
