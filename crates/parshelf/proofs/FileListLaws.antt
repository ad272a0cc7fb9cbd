-- The bytes that a file-list fingerprint is the MD5 of, file by file.
use Rattle.std.proofs.Common.{◌≡◌, ℕ, zero, suc, ◌+◌, List, [], ◌∷◌, ◌++◌, take, Some, sym, ap, ◌∙◌, arith}
use Rattle.std.specs.List.{flat_map, slice_get, zip}
use Rattle.std.proofs.lemmas.List.{append-nil, append_assoc}
use Rattle.parshelf.specs.FileList.{list_bytes, listed_file}

-- the bytes that are hashed for a list and one file more
list_bytes_next : (names : List (List ℕ)) (lengths : List ℕ) (file : List ℕ × ℕ) (n : ℕ)
    → slice_get names n ≡ Some file.0 → slice_get lengths n ≡ Some file.1
    → list_bytes (take (suc n) names) lengths ≡ list_bytes (take n names) lengths ++ listed_file file
unfolding list_bytes
list_bytes_next [] lengths file n named long = cc named
list_bytes_next (x ∷ xs) [] file n named long = cc long
list_bytes_next (x ∷ xs) (y ∷ ys) file zero named long =
    let name : x ≡ file.0 = cc named in
    let size : y ≡ file.1 = cc long in
    rw (name, size) (append-nil (listed_file file))
list_bytes_next (x ∷ xs) (y ∷ ys) file (suc n) named long =
    ap (λ (bytes : List ℕ). listed_file (x, y) ++ bytes) (list_bytes_next xs ys file n named long)
    ∙ sym (append_assoc (listed_file (x, y)) (flat_map listed_file (zip (take n xs) ys)) (listed_file file))

-- the same, with the number of files as a loop counts it
pub list_bytes-next : (names : List (List ℕ)) (lengths : List ℕ) (file : List ℕ × ℕ) (n : ℕ)
    → slice_get names n ≡ Some file.0 → slice_get lengths n ≡ Some file.1
    → list_bytes (take (n + 1) names) lengths ≡ list_bytes (take n names) lengths ++ listed_file file
list_bytes-next names lengths file n named long =
    let more : n + 1 ≡ suc n = omega arith in
    rw more (list_bytes_next names lengths file n named long)
