-- How many bytes are read while the files that may be files of the set are read whole, one after
-- another.
use Rattle.std.proofs.Common.{◌≡◌, ◌≢◌, ◌<◌, ◌≤◌, ◌+◌, ℕ, List, [], ◌∷◌, ◌++◌, Option, None, Some, true, false, cond, length, map, take, slice_index, ap, sym, arith, ◌∙◌}
use Rattle.std.proofs.lemmas.List.{take_more, take_all, map-append}
use Rattle.parfield.specs.Md5.{md5}
use Rattle.parfield.specs.declared.hash16.Hash16.{Hash16}
use Rattle.parset.specs.declared.recovery_set.SetFile.{SetFile}
use Rattle.parshelf.specs.Shelf.{ShelfState, ReadsAs, file_of}
use Rattle.parshelf.specs.Reads.{ReadsOnly, HandsAtMost}
use Rattle.parreport.specs.Contents.{ReadsCandidates, checked_length_of}
use Rattle.parreport.specs.States.{has_length, checked_of, length_and_md5}
use Rattle.parreport.specs.declared.states.contents.LengthAndMd5.{LengthAndMd5}
use Rattle.parshelf.proofs.ShelfLaws.{length-file_of}
use Rattle.parshelf.proofs.ReadLaws.{HandsAtMost_wider}
use Rattle.parreport.proofs.CostLaws.{HandsUntil, until_more, until_all}
use Rattle.parreport.proofs.SalvageLaws.{files_sized}

-- if some file of the set has a file's length, all of its bytes are read for its MD5
pub asked_whole : (files : List SetFile) (n : ℕ) → has_length files n ≡ true → checked_length_of files n ≡ n
asked_whole files n there = ap (λ b. cond b n 0) there

-- at most what is asked for of each file before this one, and nothing of the others
abbrev pub HandsBefore : List SetFile → ShelfState → ShelfState → ℕ → Type 0
HandsBefore files old new file = HandsUntil (λ k. checked_length_of files (slice_index old.lengths k)) old new file

pub HandsBefore-suc : (files : List SetFile) (old now new : ShelfState) (file : ℕ) → ReadsOnly old now → HandsBefore files old now file
    → HandsAtMost now new file (checked_length_of files (slice_index now.lengths file)) → HandsBefore files old new (file + 1)
HandsBefore-suc files old now new file reads before one =
    let same : checked_length_of files (slice_index now.lengths file) ≡ checked_length_of files (slice_index old.lengths file)
    = ap (λ (s : ShelfState). checked_length_of files (slice_index s.lengths file)) reads.counts in
    until_more (λ k. checked_length_of files (slice_index old.lengths k)) old now new file before
    (HandsAtMost_wider now new file _ _ one (omega (arith, same)))

pub ReadsCandidates-more : (files : List SetFile) (old now new : ShelfState) (file : ℕ) → ReadsOnly old now → HandsBefore files old now file
    → HandsAtMost now new file (checked_length_of files (slice_index now.lengths file)) → ReadsCandidates files old new
ReadsCandidates-more files old now new file reads before one =
    until_all (λ k. checked_length_of files (slice_index old.lengths k)) old new (file + 1)
    (HandsBefore-suc files old now new file reads before one)

-- ---- the checks of files, by length and MD5

-- the check of a file that is read whole gives its length and its MD5
pub checked_some : (files : List SetFile) (s : ShelfState) (scanned : List (List ℕ)) (file n : ℕ) (whole : Hash16) → ReadsAs s scanned
    → n ≡ slice_index s.lengths file → has_length files n ≡ true → whole.0 ≡ md5 (file_of scanned file)
    → Some (record { length = n; whole = whole }) ≡ checked_of files (file_of scanned file)
checked_some files s scanned file n whole reads is asked hashed =
    let sized : n ≡ length (file_of scanned file) = is ∙ sym (length-file_of s scanned file reads) in
    let there : has_length files (length (file_of scanned file)) ≡ true = ap (has_length files) (sym sized) ∙ asked in
    ap (λ k. let one : LengthAndMd5 = record { length = k; whole = whole } in Some one) sized
    ∙ (ap (λ bytes. let one : LengthAndMd5 = record { length = length (file_of scanned file); whole = record { 0 = bytes } } in Some one) hashed
    ∙ ap (λ b. cond b (Some (length_and_md5 (file_of scanned file))) None) (sym there))

-- the check of any other file gives nothing
pub checked_none : (files : List SetFile) (s : ShelfState) (scanned : List (List ℕ)) (file n : ℕ) → ReadsAs s scanned
    → n ≡ slice_index s.lengths file → has_length files n ≡ false → None ≡ checked_of files (file_of scanned file)
checked_none files s scanned file n reads is other =
    let sized : n ≡ length (file_of scanned file) = is ∙ sym (length-file_of s scanned file reads) in
    let absent : has_length files (length (file_of scanned file)) ≡ false = ap (has_length files) (sym sized) ∙ other in
    ap (λ b. cond b (Some (length_and_md5 (file_of scanned file))) None) (sym absent)

-- the checks of the files before this one, and then that of this one
pub checked-more : (files : List SetFile) (old now new : ShelfState) (file : ℕ) (before : List (Option LengthAndMd5)) (one : Option LengthAndMd5)
    → file < length old.lengths → ReadsOnly old now → ReadsOnly now new
    → ((scanned : List (List ℕ)) → ReadsAs now scanned → before ≡ map (checked_of files) (take file scanned))
    → ((scanned : List (List ℕ)) → ReadsAs new scanned → one ≡ checked_of files (file_of scanned file))
    → (scanned : List (List ℕ)) → ReadsAs new scanned → before ++ one ∷ [] ≡ map (checked_of files) (take (file + 1) scanned)
checked-more files old now new file before one there first next so_far this scanned reads =
    let has : file < length scanned = omega (arith, there, files_sized old scanned (first.older scanned (next.older scanned reads))) in
    let front = take file scanned in
    ap (λ (xs : List (Option LengthAndMd5)). xs ++ one ∷ []) (so_far scanned (next.older scanned reads))
    ∙ (ap (λ (x : Option LengthAndMd5). map (checked_of files) front ++ x ∷ []) (this scanned reads)
    ∙ (sym (map-append (checked_of files) front (file_of scanned file ∷ [])) ∙ ap (map (checked_of files)) (sym (take_more scanned file [] has))))

pub checked-all : (files : List SetFile) (old now : ShelfState) (n : ℕ) (before : List (Option LengthAndMd5)) → n ≡ length old.lengths → ReadsOnly old now
    → ((scanned : List (List ℕ)) → ReadsAs now scanned → before ≡ map (checked_of files) (take n scanned))
    → (scanned : List (List ℕ)) → ReadsAs now scanned → before ≡ map (checked_of files) scanned
checked-all files old now n before all first so_far scanned reads =
    let sized = files_sized old scanned (first.older scanned reads) in
    so_far scanned reads ∙ ap (map (checked_of files)) (take_all n scanned (omega arith))
