-- The findings in the scanned files, given their names, lengths and MD5s, and the flags of a
-- survey.
use Rattle.std.proofs.Common.{◌≡◌, ℕ, ◌+◌, ◌<◌, ◌∙◌, ◌&&◌, ◌||◌, not, Bool, false, List, [], ◌∷◌, ◌++◌, Option, None, length, map, drop, take, get_or, position, ap, sym, refl, cond, append-nil, arith, nat_lt, Some}
use Rattle.std.specs.BTreeSet.{BTreeSet, contains}
use Rattle.std.specs.List.{list_any, zip, enumerate_from, prefix_len}
use Rattle.std.proofs.lemmas.List.{ext_get_or, get_or-map, drop_all, length-map, take_all}
use Rattle.parfield.specs.HashOrder.{id_cmp}
use Rattle.parfield.specs.declared.hash16.Hash16.{Hash16}
use Rattle.parshelf.specs.Shelf.{ShelfState, ReadsAs}
use Rattle.parset.specs.RecoverySet.{SetView}
use Rattle.parset.specs.declared.recovery_set.SetFile.{SetFile}
use Rattle.parset.specs.declared.recovery_set.SetSlice.{SetSlice}
use Rattle.parfind.specs.Surveys.{is_sighted}
use Rattle.parfind.specs.declared.tracks.mode.Mode.{Mode}
use Rattle.parreport.specs.Names.{names_of}
use Rattle.parreport.specs.States.{named_files, length_and_md5, checked_of, has_content_of, shows_content_of, shows_both, is_content_of, is_name_of, checked_state_of, state_of}
use Rattle.parreport.specs.Findings.{is_in_intact_file, findings_of, set_scan_of}
use Rattle.parplan.specs.declared.command.Scanned.{Scanned}
use Rattle.parreport.specs.declared.states.contents.LengthAndMd5.{LengthAndMd5}
use Rattle.parreport.specs.declared.states.findings.Findings.{Findings}
use Rattle.parreport.specs.declared.states.state.State.{State}
use Rattle.parreport.specs.declared.states.state.State.TheVariants.{Missing}
use Rattle.parreport.proofs.LengthLaws.{shown_asked}

-- ---- names and contents
-- there is a content for each name
pub contents_sized : (s : ShelfState) (files : List Scanned) (contents : List (List ℕ)) → length s.lengths ≡ length files → ReadsAs s contents
    → length contents ≡ length files
contents_sized s files contents names reads = sym (length-map contents length) ∙ (ap length reads.lengths ∙ names)

pub map-content : (files : List Scanned) (contents : List (List ℕ)) → length contents ≡ length files
    → map (λ one. one.content) (named_files files contents) ≡ contents
map-content [] [] e = refl
map-content [] (content ∷ contents) e = absurd (omega arith)
map-content (file ∷ files) [] e = refl
map-content (file ∷ files) (content ∷ contents) e = ap (λ xs. content ∷ xs) (map-content files contents (omega arith))

pub map-name : (files : List Scanned) (contents : List (List ℕ)) → length contents ≡ length files
    → map (λ one. one.name) (named_files files contents) ≡ names_of files
map-name [] contents e = refl
map-name (file ∷ files) [] e = absurd (omega arith)
map-name (file ∷ files) (content ∷ contents) e = ap (λ xs. file.name ∷ xs) (map-name files contents (omega arith))

-- ---- the state of a file
-- the check of bytes shows the content of this file of the set exactly if they have it
abbrev Shows : List SetFile → SetFile → Type 0
Shows own file = (bytes : List ℕ) → shows_content_of file (checked_of own bytes) ≡ has_content_of file (length_and_md5 bytes)

complete_same : (own : List SetFile) (file : SetFile) (files : List Scanned) (contents : List (List ℕ)) → Shows own file
    → list_any (shows_both file) (zip files (map (checked_of own) contents))
    ≡ list_any (λ one. is_content_of file one && is_name_of file one.name) (named_files files contents)
complete_same own file [] contents shows = refl
complete_same own file (one ∷ files) [] shows = refl
complete_same own file (one ∷ files) (content ∷ contents) shows =
    ap (λ b. (b && is_name_of file one.name) || list_any (shows_both file) (zip files (map (checked_of own) contents))) (shows content)
    ∙ ap (λ b. (has_content_of file (length_and_md5 content) && is_name_of file one.name) || b) (complete_same own file files contents shows)

named_same : (file : SetFile) (files : List Scanned) (contents : List (List ℕ)) → length contents ≡ length files
    → list_any (λ one. is_name_of file one.name) files ≡ list_any (λ one. is_name_of file one.name) (named_files files contents)
named_same file [] contents e = refl
named_same file (one ∷ files) [] e = absurd (omega arith)
named_same file (one ∷ files) (content ∷ contents) e = ap (λ b. is_name_of file one.name || b) (named_same file files contents (omega arith))

places_same : (own : List SetFile) (file : SetFile) (files : List Scanned) (contents : List (List ℕ)) → Shows own file → length contents ≡ length files
    → prefix_len (λ c. not (shows_content_of file c)) (map (checked_of own) contents)
    ≡ prefix_len (λ one. not (is_content_of file one)) (named_files files contents)
places_same own file [] [] shows e = refl
places_same own file [] (content ∷ contents) shows e = absurd (omega arith)
places_same own file (one ∷ files) [] shows e = refl
places_same own file (one ∷ files) (content ∷ contents) shows e =
    ap (λ b. cond (not b) (1 + prefix_len (λ c. not (shows_content_of file c)) (map (checked_of own) contents)) 0) (shows content)
    ∙ ap (λ n. cond (not (has_content_of file (length_and_md5 content))) (1 + n) 0) (places_same own file files contents shows (omega arith))

position_same : (own : List SetFile) (file : SetFile) (files : List Scanned) (contents : List (List ℕ)) → Shows own file → length contents ≡ length files
    → position (shows_content_of file) (map (checked_of own) contents) ≡ position (is_content_of file) (named_files files contents)
position_same own file files contents shows e =
    let lengths : length (map (checked_of own) contents) ≡ length (named_files files contents)
    = length-map contents (checked_of own) ∙ (ap length (sym (map-content files contents e)) ∙ length-map (named_files files contents) (λ one. one.content)) in
    ap (λ n. cond (nat_lt n (length (map (checked_of own) contents))) (Some n) None) (places_same own file files contents shows e)
    ∙ ap (λ n. cond (nat_lt (prefix_len (λ one. not (is_content_of file one)) (named_files files contents)) n)
    (Some (prefix_len (λ one. not (is_content_of file one)) (named_files files contents))) None) lengths

checked_state_of-state_of : (own : List SetFile) (files : List Scanned) (contents : List (List ℕ)) → length contents ≡ length files → (file : SetFile)
    → Shows own file → checked_state_of files (map (checked_of own) contents) file ≡ state_of (named_files files contents) file
unfolding state_of
checked_state_of-state_of own files contents e file shows =
    let whole = complete_same own file files contents shows in
    let first = position_same own file files contents shows e in
    let named = named_same file files contents e in cc

-- maps of functions that agree on each element are the same
pub map-same : {A B : Type 0} (f g : A → B) → ((x : A) → f x ≡ g x) → (xs : List A) → map f xs ≡ map g xs
map-same f g same [] = refl
map-same f g same (x ∷ xs) = ap (λ y. y ∷ map f xs) (same x) ∙ ap (λ ys. g x ∷ ys) (map-same f g same xs)

-- the states of all files of the set, given the checks of the contents, are those in the scanned
-- files
states_same : (files : List Scanned) (contents : List (List ℕ)) (own : List SetFile) → length contents ≡ length files
    → map (checked_state_of files (map (checked_of own) contents)) own ≡ map (state_of (named_files files contents)) own
states_same files contents own sized =
    let by = checked_state_of files (map (checked_of own) contents) in let of = state_of (named_files files contents) in
    let d : SetFile = record { id = record { 0 = [] }; length = 0; whole = record { 0 = [] }; name = []; known = false } in
    let each = length-map own by in let other = length-map own of in
    ext_get_or Missing (map by own) (map of own) (omega arith) (λ k within.
    let here : k < length own = omega arith in
    get_or-map by own k d Missing here
    ∙ (checked_state_of-state_of own files contents sized (get_or own k d) (shown_asked own k d here) ∙ sym (get_or-map of own k d Missing here)))

-- the same for the checks that were read
pub states_read : (files : List Scanned) (contents : List (List ℕ)) (read : List (Option LengthAndMd5)) (asked own : List SetFile) (states : List State)
    → length contents ≡ length files → states ≡ map (checked_state_of files read) asked → read ≡ map (checked_of own) contents → asked ≡ own
    → states ≡ map (state_of (named_files files contents)) own
states_read files contents read asked own states sized by_read whole same =
    by_read ∙ (ap (λ cs. map (checked_state_of files cs) asked) whole
    ∙ (ap (map (checked_state_of files (map (checked_of own) contents))) same ∙ states_same files contents own sized))

-- ---- the flags of a survey
-- flags that were written back at the beginning of a list of the same length are the whole list
pub take-all_back : (n : ℕ) (now was : List Bool) → length now ≡ length was → n ≡ length was → take n (now ++ drop (length now) was) ≡ now
take-all_back n now was same all =
    let none : drop (length now) was ≡ [] = drop_all (length now) was (omega arith) in
    ap (λ rest. take n (now ++ rest)) none ∙ (ap (take n) (append-nil now) ∙ take_all n now (omega arith))

-- ---- all findings
pub findings_made : (set : SetView) (mode : Mode) (files : List Scanned) (contents : List (List ℕ)) (states : List State) (found : List Bool) (whole : BTreeSet Hash16)
    → length contents ≡ length files
    → states ≡ map (state_of (named_files files contents)) set.files
    → ((id : Hash16) → contains id_cmp whole id ≡ is_in_intact_file set (named_files files contents) id)
    → found ≡ map (λ slice. contains id_cmp whole slice.1.id || is_sighted (set_scan_of set mode contents) slice.0) (enumerate_from 0 set.slices)
    → record { states = states; found = found } ≡ findings_of set mode (named_files files contents)
findings_made set mode files contents states found whole sized by_state by_id by_mark =
    let scanned = named_files files contents in
    let scan = set_scan_of set mode in
    let found_are : found ≡ (findings_of set mode scanned).found
    = by_mark ∙ map-same _ _ (λ (slice : ℕ × SetSlice). ap (λ b. b || is_sighted (scan contents) slice.0) (by_id slice.1.id)
    ∙ ap (λ cs. is_in_intact_file set scanned slice.1.id || is_sighted (scan cs) slice.0) (sym (map-content files contents sized))) (enumerate_from 0 set.slices) in
    ap (λ (xs : List State). let r : Findings = record { states = xs; found = found } in r) by_state
    ∙ ap (λ (xs : List Bool). let r : Findings = record { states = map (state_of scanned) set.files; found = xs } in r) found_are
