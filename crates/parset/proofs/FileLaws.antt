-- Files with the checksums of their slices, one file after another.
use Rattle.std.proofs.Common.{◌≡◌, ℕ, ◌+◌, ◌<◌, ◌∙◌, ap, sym, List, [], ◌∷◌, ◌++◌, length, take, get_or, map, refl, Some, cond, Bool, Option, arith, subst, ⊎_elim}
use Rattle.std.proofs.lemmas.Bool.{cases_Bool}
use Rattle.std.proofs.lemmas.Cmp.{tied_itself}
use Rattle.parset.proofs.IdLaws.{id_cmp_total, same_from_eq}
use Rattle.std.specs.List.{All}
use Rattle.std.specs.Option.{option_map_or}
use Rattle.std.specs.Ordering.{is_eq}
use Rattle.std.proofs.lemmas.List.Elements.{All-get_or, All-head, All-more, All-tail, All-take, All-weaker}
use Rattle.parsalvage.specs.declared.kept.Kept.{Kept}
use Rattle.parset.specs.Choosing.{AreDescribed, asides_of, exponent_count_of, file_description_of, file_sums_of, first_creator_of}
use Rattle.std.specs.BTreeMap.{BTreeMap, get}
use Rattle.std.specs.List.{flat_map}
use Rattle.std.proofs.lemmas.List.{flat_map_more, get_or-take, length-take, map-append, map_more, take-take}
use Rattle.parfield.specs.HashOrder.{id_cmp}
use Rattle.parfield.specs.declared.hash16.Hash16.{Hash16}
use Rattle.parset.specs.RecoverySet.{SetView, set_of_files}
use Rattle.parset.specs.Slices.{FileView, HasCounts, set_file_of, slices_of_file, file_view, file_views, slice_count, file_view_from}
use Rattle.parset.specs.declared.bodies.checksums.Ifsc.{Ifsc}
use Rattle.parset.specs.declared.bodies.description.Desc.{Desc}
use Rattle.parset.specs.declared.bodies.main_packet.Main.{Main}
use Rattle.parset.specs.declared.recovery_set.SetAside.{SetAside}
use Rattle.parset.specs.declared.recovery_set.SetFile.{SetFile}
use Rattle.parset.specs.declared.recovery_set.SetSlice.{SetSlice}

-- a file with the checksums that a map has at its ID
abbrev pub viewed : BTreeMap Hash16 Ifsc → Desc → FileView
viewed found file = file_view file (get id_cmp found file.id)

views_more : (found : BTreeMap Hash16 Ifsc) (files : List Desc) (i : ℕ) (file : Desc) → i < length files → file ≡ get_or files i file
    → file_views found (take (i + 1) files) ≡ file_views found (take i files) ++ viewed found file ∷ []
views_more found files i file h is =
    map_more (viewed found) files i file h ∙ ap (λ x. file_views found (take i files) ++ viewed found x ∷ []) (sym is)

pub map_views_more : {X : Type 0} (f : FileView → X) (found : BTreeMap Hash16 Ifsc) (files : List Desc) (i : ℕ) (file : Desc)
    → i < length files → file ≡ get_or files i file
    → map f (file_views found (take (i + 1) files)) ≡ map f (file_views found (take i files)) ++ f (viewed found file) ∷ []
map_views_more f found files i file h is =
    ap (map f) (views_more found files i file h is) ∙ map-append f (file_views found (take i files)) (viewed found file ∷ [])

pub flat_map_views_more : {X : Type 0} (f : FileView → List X) (found : BTreeMap Hash16 Ifsc) (files : List Desc) (i : ℕ) (file : Desc)
    → i < length files → file ≡ get_or files i file
    → flat_map f (file_views found (take (i + 1) files)) ≡ flat_map f (file_views found (take i files)) ++ f (viewed found file)
flat_map_views_more f found files i file h is =
    ap (flat_map f) (views_more found files i file h is) ∙ sym (flat_map_more f [] (file_views found (take i files)) (viewed found file))

-- ---- counts of slices by ID
-- the counts stay right when one more file is added, even if its ID is in the map already
count_kept : (size : ℕ) (counts new : BTreeMap Hash16 ℕ) (file : Desc)
    → ((id : Hash16) → get id_cmp new id ≡ cond (is_eq (id_cmp file.id id)) (Some (slice_count size file.length)) (get id_cmp counts id))
    → (lengths : Hash16 → ℕ) → file.length ≡ lengths file.id
    → (other : Desc) → other.length ≡ lengths other.id → get id_cmp counts other.id ≡ Some (slice_count size other.length)
    → get id_cmp new other.id ≡ Some (slice_count size other.length)
count_kept size counts new file new-is lengths told other other-told old =
    let found : Bool → Option ℕ = λ b. cond b (Some (slice_count size file.length)) (get id_cmp counts other.id) in
    ⊎_elim
    (λ yes. let same : file.length ≡ other.length = told ∙ (ap lengths (same_from_eq file.id other.id yes) ∙ sym other-told) in
    new-is other.id ∙ (ap found yes ∙ ap (λ n. Some (slice_count size n)) same))
    (λ no. new-is other.id ∙ (ap found no ∙ old))
    (cases_Bool (is_eq (id_cmp file.id other.id)))

pub counts_more : (size : ℕ) (counts new : BTreeMap Hash16 ℕ) (files : List Desc) (i : ℕ) (file : Desc) → i < length files → file ≡ get_or files i file
    → ((id : Hash16) → get id_cmp new id ≡ cond (is_eq (id_cmp file.id id)) (Some (slice_count size file.length)) (get id_cmp counts id))
    → HasCounts size counts (take i files) → HasCounts size new (take (i + 1) files)
counts_more size counts new files i file h is new-is old = λ lengths same.
    let T : Desc → Type 0 = λ f. f.length ≡ lengths f.id in
    let P : Desc → Type 0 = λ f. get id_cmp new f.id ≡ Some (slice_count size f.length) in
    let before : All T (take i files) = subst (All T) (take-take i (i + 1) files (omega arith)) (All-take T i (take (i + 1) files) same) in
    let at : T (get_or (take (i + 1) files) i file) = All-get_or T (take (i + 1) files) i file (omega (arith, length-take (i + 1) files)) same in
    let told : T file = subst T (sym is) (subst T (get_or-take (i + 1) files i file (omega arith)) at) in
    let kept : All P (take i files) = λ k d below. count_kept size counts new file new-is lengths told (get_or (take i files) k d) (before k d below) (old lengths before k d below) in
    let here : P file = new-is file.id ∙ ap (λ o. cond (is_eq o) (Some (slice_count size file.length)) (get id_cmp counts file.id)) (tied_itself id_cmp_total file.id) in
    All-more P files i file h kept (subst P is here)

-- ---- checksums of files
pub views_are : (size : ℕ) (own : List Kept) (counts : BTreeMap Hash16 ℕ) (found : BTreeMap Hash16 Ifsc) (files : List Desc)
    → ((id : Hash16) (count : ℕ) → get id_cmp counts id ≡ Some count → get id_cmp found id ≡ file_sums_of id count own)
    → All (λ file. get id_cmp counts file.id ≡ Some (slice_count size file.length)) files
    → file_views found files ≡ map (file_view_from size own) files
views_are size own counts found [] sums all = refl
views_are size own counts found (x ∷ xs) sums all =
    let P : Desc → Type 0 = λ file. get id_cmp counts file.id ≡ Some (slice_count size file.length) in
    ap (λ o. file_view x o ∷ file_views found xs) (sums x.id (slice_count size x.length) (All-head P x xs all))
    ∙ ap (λ vs. file_view_from size own x ∷ vs) (views_are size own counts found xs sums (All-tail P x xs all))

-- the length that the packets give for a file
abbrev pub told_length : List Kept → Hash16 → ℕ
told_length own id = option_map_or (λ d. d.length) (file_description_of id own) 0

pub all_told : (own : List Kept) (files : List Desc) → AreDescribed own files
    → All (λ file. file.length ≡ told_length own file.id) files
all_told own files all =
    All-weaker (λ file. file_description_of file.id own ≡ Some file) (λ file. file.length ≡ told_length own file.id)
    (λ file e. sym (ap (λ o. option_map_or (λ (d : Desc). d.length) o 0) e)) files all

-- a set whose parts are these is the set that `set_of_files` defines
pub set_of_files_is : (id : Hash16) (main : Main) (own : List Kept) (views : List FileView)
    → (files : List SetFile) (slices : List SetSlice) (others have : ℕ) (creator : Option (List ℕ)) (aside : List SetAside)
    → files ≡ map set_file_of views → slices ≡ flat_map (slices_of_file main.size) views → others ≡ length main.others
    → have ≡ exponent_count_of main.size own → creator ≡ first_creator_of own → aside ≡ asides_of main.size own
    → (let set : SetView = record { id = id; size = main.size; files = files; slices = slices; others = others; have = have; creator = creator; aside = aside } in set)
    ≡ set_of_files id main own views
set_of_files_is id main own views files slices others have creator aside a b c d e f = cc
