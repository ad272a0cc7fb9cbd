-- The packets of files, one after another.
use Rattle.std.proofs.Common.{◌≡◌, ◌<◌, ◌+◌, ◌∙◌, ℕ, List, [], ◌∷◌, ◌++◌, length, take, ap, sym, arith, append_assoc, append-nil}
use Rattle.std.proofs.lemmas.List.{length-map, take_more, take_all, length-take-le}
use Rattle.parshelf.specs.Shelf.{ShelfState, ReadsAs, file_of}
use Rattle.parshelf.specs.Reads.{ReadsOnly}
use Rattle.parsalvage.specs.Kept.{kept_of_file, kept_from, kept_of_files}
use Rattle.parsalvage.specs.declared.kept.Kept.{Kept}

-- the packets of a list of files and one more
pub kept_from-append : (first : ℕ) (files : List (List ℕ)) (bytes : List ℕ)
    → kept_from first (files ++ bytes ∷ []) ≡ kept_from first files ++ kept_of_file (first + length files) bytes
kept_from-append first [] bytes =
    let same : first ≡ first + 0 = omega arith in append-nil (kept_of_file first bytes) ∙ ap (λ n. kept_of_file n bytes) same
kept_from-append first (file ∷ files) bytes =
    let same : (first + 1) + length files ≡ first + length (file ∷ files) = omega arith in
    ap (λ xs. kept_of_file first file ++ xs) (kept_from-append (first + 1) files bytes)
    ∙ (ap (λ n. kept_of_file first file ++ (kept_from (first + 1) files ++ kept_of_file n bytes)) same
    ∙ sym (append_assoc (kept_of_file first file) (kept_from (first + 1) files) (kept_of_file (first + length (file ∷ files)) bytes)))

-- there is a file for each length, in any files that are consistent with the reads
pub files_sized : (s : ShelfState) (files : List (List ℕ)) → ReadsAs s files → length files ≡ length s.lengths
files_sized s files reads = sym (length-map files length) ∙ ap length reads.lengths

-- the packets of the files before this one, followed by those of this one, are those of the files
-- up to it
pub kept_of_files-more : (s now new : ShelfState) (file : ℕ) (kept more : List Kept) → file < length s.lengths → ReadsOnly s now → ReadsOnly now new
    → ((files : List (List ℕ)) → ReadsAs now files → kept ≡ kept_of_files (take file files))
    → ((files : List (List ℕ)) → ReadsAs new files → more ≡ kept_of_file file (file_of files file))
    → (files : List (List ℕ)) → ReadsAs new files → kept ++ more ≡ kept_of_files (take (file + 1) files)
kept_of_files-more s now new file kept more there before next so_far one files reads =
    let sized = files_sized s files (before.older files (next.older files reads)) in
    let has : file < length files = omega arith in
    let front = take file files in
    let counted : length front ≡ file = length-take-le file files (omega arith) in
    let number : file ≡ 0 + length front = omega arith in
    let bytes = file_of files file in
    ap (λ (xs : List Kept). xs ++ more) (so_far files (next.older files reads))
    ∙ (ap (λ (xs : List Kept). kept_of_files front ++ xs) (one files reads ∙ ap (λ n. kept_of_file n bytes) number)
    ∙ (sym (kept_from-append 0 front bytes) ∙ ap kept_of_files (sym (take_more files file [] has))))

pub kept_of_files-all : (s now : ShelfState) (n : ℕ) (kept : List Kept) → n ≡ length s.lengths → ReadsOnly s now
    → ((files : List (List ℕ)) → ReadsAs now files → kept ≡ kept_of_files (take n files))
    → (files : List (List ℕ)) → ReadsAs now files → kept ≡ kept_of_files files
kept_of_files-all s now n kept all before so_far files reads =
    let sized = files_sized s files (before.older files reads) in
    so_far files reads ∙ ap kept_of_files (take_all n files (omega arith))
