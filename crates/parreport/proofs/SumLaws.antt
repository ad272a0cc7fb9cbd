-- The slices of whole files are noted as found before a search, and it finds no slice without
-- checksums.
use Rattle.std.proofs.Common.{◌≡◌, ℕ, ◌<◌, ◌∙◌, ◌||◌, not, Bool, false, List, [], Option, None, Some, length, map, get_or, ap, sym, refl, arith, slice_get, slice_index, IsTrue, is_none, is_some, zero-add}
use Rattle.std.specs.Prelude.{All}
use Rattle.std.specs.BTreeSet.{BTreeSet, contains}
use Rattle.std.specs.List.{enumerate_from}
use Rattle.std.specs.Option.{option_map_or}
use Rattle.std.proofs.lemmas.Option.{slice_get-get_or}
use Rattle.std.proofs.lemmas.List.{ext_get_or, get_or-map, length-map}
use Rattle.std.proofs.lemmas.List.FromFn.{get_or-enumerate_from, length-enumerate_from}
use Rattle.parfield.specs.HashOrder.{id_cmp}
use Rattle.parfield.specs.declared.hash16.Hash16.{Hash16}
use Rattle.parset.specs.declared.recovery_set.SetSlice.{SetSlice}
use Rattle.parset.specs.RecoverySet.{SetView}
use Rattle.parshelf.specs.Shelf.{ShelfState}
use Rattle.parwindow.specs.Index.{SliceSet, has_known_sums}
use Rattle.parfind.specs.Sightings.{Scan}
use Rattle.parfind.specs.Surveys.{is_sighted, lacks_sums, AreAllSettled, FindsSighted}
use Rattle.parwindow.specs.Missing.{found_at}
use Rattle.parreport.specs.Contents.{ReadsCandidates}
use Rattle.parreport.specs.Findings.{is_in_intact_file, is_in_whole_file, needs_no_search, NeedsNoSearch}
use Rattle.parreport.specs.States.{NamedFile}

no_slice : SetSlice
no_slice = record { id = record { 0 = [] }; number = 0; length = 0; sums = None }

-- the flags before the search
mark_before : (whole : BTreeSet Hash16) (slices : List SetSlice) (was : List Bool) (k : ℕ) → k < length slices
    → was ≡ map (is_in_whole_file whole) slices → found_at was k ≡ is_in_whole_file whole (get_or slices k no_slice)
mark_before whole slices was k here before =
    ap (λ marks. found_at marks k) before ∙ get_or-map (is_in_whole_file whole) slices k no_slice false here

-- the flags after the search
pub found_found : (whole : BTreeSet Hash16) (scan : Scan) (was now : List Bool) → was ≡ map (is_in_whole_file whole) scan.sought.set.slices
    → length now ≡ length scan.sought.set.slices → FindsSighted scan was now
    → now ≡ map (λ slice. contains id_cmp whole slice.1.id || is_sighted scan slice.0) (enumerate_from 0 scan.sought.set.slices)
found_found whole scan was now before sized marked =
    let slices = scan.sought.set.slices in
    let f = λ (slice : ℕ × SetSlice). contains id_cmp whole slice.1.id || is_sighted scan slice.0 in
    let numbered = length-enumerate_from 0 slices in
    let counted = length-map (enumerate_from 0 slices) f in
    ext_get_or false now (map f (enumerate_from 0 slices)) (omega arith) (λ k within.
    let here : k < length slices = omega arith in
    let there : k < length (enumerate_from 0 slices) = omega arith in
    marked k within
    ∙ (ap (λ b. b || is_sighted scan k) (mark_before whole slices was k here before)
    ∙ sym (get_or-map f (enumerate_from 0 slices) k (k, no_slice) false there
    ∙ (ap f (get_or-enumerate_from 0 slices k (k, no_slice) here) ∙ ap (λ n. contains id_cmp whole (get_or slices k no_slice).id || is_sighted scan n) (zero-add k)))))

none_known : (sums : Option (Hash16 × ℕ)) → not (is_some sums) ≡ is_none sums
none_known None = refl
none_known (Some known) = refl

-- if no slice needs a search, each is settled before it
pub all_settled : (whole : BTreeSet Hash16) (set : SliceSet) (was : List Bool) → was ≡ map (is_in_whole_file whole) set.slices
    → All (λ slice. IsTrue (needs_no_search whole slice)) set.slices → AreAllSettled set was
all_settled whole set was before all k within =
    let slices = set.slices in
    let sized = length-map slices (is_in_whole_file whole) in
    let here : k < length slices = omega (arith, within, ap length before, sized) in
    let slice = get_or slices k no_slice in
    let there : slice_get slices k ≡ Some slice = slice_get-get_or slices k no_slice here in
    ap (λ b. b || lacks_sums set k) (mark_before whole slices was k here before)
    ∙ (ap (λ one. is_in_whole_file whole slice || not (option_map_or has_known_sums one false)) there
    ∙ (ap (λ b. is_in_whole_file whole slice || b) (none_known slice.sums) ∙ all k no_slice here))

-- if no slice needs a search, it reads nothing beyond the checks of files
pub unsearched : (set : SetView) (scanned : List NamedFile) (whole : BTreeSet Hash16) (old mid new : ShelfState)
    → ReadsCandidates set.files old mid → (All (λ slice. IsTrue (needs_no_search whole slice)) set.slices → new ≡ mid)
    → ((id : Hash16) → contains id_cmp whole id ≡ is_in_intact_file set scanned id)
    → NeedsNoSearch set scanned → ReadsCandidates set.files old new
unsearched set scanned whole old mid new asked none by_id needs = λ file.
    let kept = none (λ k d within.
    ap (λ b. b || is_none (get_or set.slices k d).sums) (by_id (get_or set.slices k d).id) ∙ needs k d within) in
    omega (arith, ap (λ (s : ShelfState). slice_index s.handed file) kept, asked file)
