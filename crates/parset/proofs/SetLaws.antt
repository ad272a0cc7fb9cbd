-- A recovery set step by step: the first fault is the result, and else the next step follows.
use Rattle.std.proofs.Common.{◌≡◌, ◌≤◌, ◌∙◌, ℕ, Bool, true, false, Err, List, Ok, Option, Result, Some, None, ap, arith, cond, length, map, nat_lt, refl, subst, sym}
use Rattle.std.specs.List.Sorted.{IsStrictlySortedBy}
use Rattle.std.specs.Option.{ok_or}
use Rattle.std.proofs.lemmas.Bool.Decides.{nat_tests}
use Rattle.parfield.specs.Chain.{◌>>=◌}
use Rattle.parfield.specs.HashOrder.{id_cmp}
use Rattle.parfield.specs.declared.hash16.Hash16.{Hash16}
use Rattle.parsalvage.specs.declared.kept.Kept.{Kept}
use Rattle.parset.specs.Choosing.{AreDescribed, first_main_of, set_packets_of}
use Rattle.parset.specs.RecoverySet.{AnswersSet, AreSetFiles, SetView, descriptions_of, ids_in_order, names_checked, set_of_main, set_of, set_of_files, slices_checked}
use Rattle.parset.specs.Limits.{slice_limit}
use Rattle.parset.specs.SetLimits.{IsWithinLimits}
use Rattle.parset.specs.Slices.{file_view_from, slice_total}
use Rattle.parset.specs.declared.bodies.description.Desc.{Desc}
use Rattle.parset.specs.declared.bodies.main_packet.Main.{Main}
use Rattle.parset.specs.declared.recovery_set.SetFault.{SetFault}
use Rattle.parset.specs.declared.recovery_set.SetFault.TheVariants.{NoMain, TooManySlices}
use Rattle.parset.proofs.IdLaws.{length-ids_in_order}
use Rattle.parset.proofs.NameLaws.{files_differ}
use Rattle.parset.proofs.RisingLaws.{rising_ids}
use Rattle.parset.proofs.ChainLaws.{answer_goes_on, fault_returned}
use Rattle.parset.proofs.DescribingLaws.{all_described, ids_described, length-described, names_checked_same, slices_checked_same}

-- the steps that follow after the files are counted, after their names are checked, and
-- after they are described
abbrev after_files : Hash16 → Main → List Kept → List Desc → Result SetView SetFault
after_files id main own files = Ok (set_of_files id main own (map (file_view_from main.size own) files))

abbrev after_names : Hash16 → Main → List Kept → List Desc → Result SetView SetFault
after_names id main own named = slices_checked main.size named >>= after_files id main own

abbrev after_descriptions : Hash16 → Main → List Kept → List Desc → Result SetView SetFault
after_descriptions id main own described = names_checked described >>= after_names id main own

-- the result is the fault that `?` returned
abbrev pub Returns : Result SetView SetFault → SetFault → Type 0
Returns r e = (y : SetFault) × (r ≡ Err y) × (y ≡ e)

pub not_described : (id : Hash16) (main : Main) (own : List Kept) (ids : List Hash16) (r : Result SetView SetFault) (e : SetFault) → ids ≡ ids_in_order main.recovery
    → Returns r e → AnswersSet (descriptions_of own ids) (Err e) → AnswersSet (set_of_main id main own) r
unfolding set_of_main
not_described id main own ids r e is y h =
    fault_returned (descriptions_of own (ids_in_order main.recovery)) (after_descriptions id main own) r e y
    (subst (λ is'. AnswersSet (descriptions_of own is') (Err e)) is h)

pub not_named : (id : Hash16) (main : Main) (own : List Kept) (ids : List Hash16) (described : List Desc) (r : Result SetView SetFault) (e : SetFault)
    → ids ≡ ids_in_order main.recovery → descriptions_of own ids ≡ Ok described
    → Returns r e → AnswersSet (names_checked described) (Err e) → AnswersSet (set_of_main id main own) r
unfolding set_of_main
not_named id main own ids described r e is d y h =
    answer_goes_on (descriptions_of own (ids_in_order main.recovery)) (after_descriptions id main own) described r (ap (descriptions_of own) (sym is) ∙ d)
    (fault_returned (names_checked described) (after_names id main own) r e y h)

pub not_few : (id : Hash16) (main : Main) (own : List Kept) (ids : List Hash16) (described named : List Desc) (r : Result SetView SetFault) (e : SetFault)
    → ids ≡ ids_in_order main.recovery → descriptions_of own ids ≡ Ok described → names_checked described ≡ Ok named
    → Returns r e → AnswersSet (slices_checked main.size named) (Err e) → AnswersSet (set_of_main id main own) r
unfolding set_of_main
not_few id main own ids described named r e is d n y h =
    answer_goes_on (descriptions_of own (ids_in_order main.recovery)) (after_descriptions id main own) described r (ap (descriptions_of own) (sym is) ∙ d)
    (answer_goes_on (names_checked described) (after_names id main own) named r n
    (fault_returned (slices_checked main.size named) (after_files id main own) r e y h))

-- ---- the files of a set
-- the steps from a Main packet to the files of its set
pub record FindsFiles (main : Main) (own : List Kept) (files : List Desc) : Type 0 where
  pub described : List Desc
  pub named : List Desc
  pub described_is : descriptions_of own (ids_in_order main.recovery) ≡ Ok described
  pub named_is : names_checked described ≡ Ok named
  pub files_is : slices_checked main.size named ≡ Ok files

pub files_by_ids : (main : Main) (own : List Kept) (ids : List Hash16) (described named files : List Desc)
    → ids ≡ ids_in_order main.recovery → descriptions_of own ids ≡ Ok described → names_checked described ≡ Ok named
    → slices_checked main.size named ≡ Ok files → FindsFiles main own files
files_by_ids main own ids described named files is d n s = record {
  described = described;
  named = named;
  described_is = ap (descriptions_of own) (sym is) ∙ d;
  named_is = n;
  files_is = s;
}

pub set_made : (id : Hash16) (main : Main) (own : List Kept) (files : List Desc) → FindsFiles main own files
    → set_of_main id main own ≡ Ok (set_of_files id main own (map (file_view_from main.size own) files))
unfolding set_of_main
set_made id main own files f =
    ap (λ m. m >>= after_descriptions id main own) f.described_is
    ∙ (ap (λ m. m >>= after_names id main own) f.named_is ∙ ap (λ m. m >>= after_files id main own) f.files_is)

few_by : (many : Bool) (limit total : ℕ) (files few : List Desc) → nat_lt limit total ≡ many
    → cond many (Err TooManySlices) (Ok files) ≡ Ok few → total ≤ limit
few_by true limit total files few test e = absurd (cc)
few_by false limit total files few test e = grind (arith, nat_tests)

-- files that passed the test have no more slices than the limit
few_slices_of : (size : ℕ) (files few : List Desc) → slices_checked size files ≡ Ok few → slice_total size few ≤ slice_limit
few_slices_of size files few e =
    subst (λ all. slice_total size all ≤ slice_limit) (sym (slices_checked_same size files few e))
    (few_by (nat_lt slice_limit (slice_total size files)) slice_limit (slice_total size files) files few refl e)

pub files_found : (main : Main) (own : List Kept) (files : List Desc) → IsWithinLimits main → FindsFiles main own files → AreSetFiles main own files
files_found main own files limits f =
    let ids = ids_in_order main.recovery in
    let same : files ≡ f.described = slices_checked_same main.size f.named files f.files_is ∙ names_checked_same f.described f.named f.named_is in
    let many : length files ≡ length main.recovery =
    ap length same ∙ (length-described own ids f.described f.described_is ∙ length-ids_in_order main.recovery) in
    record {
      few = omega (arith, many, limits.few);
      few_slices = few_slices_of main.size f.named files f.files_is;
      described = subst (AreDescribed own) (sym same) (all_described own ids f.described f.described_is);
      names = files_differ main.size f.described f.named files f.named_is f.files_is;
      rising =
          subst (IsStrictlySortedBy id_cmp) (sym (ap (map (λ file. file.id)) same ∙ ids_described own ids f.described f.described_is))
          (rising_ids main.recovery limits.once);
    }

-- ---- the step that finds the Main packet
pub no_main : (choice : Option Hash16) (packets : List Kept) → first_main_of choice packets ≡ None → set_of packets choice ≡ Err NoMain
unfolding set_of
no_main choice packets none =
    ap (λ o. ok_or o NoMain >>= λ main. set_of_main main.0 main.1 (set_packets_of main.0 packets)) none

pub with_main : (choice : Option Hash16) (packets : List Kept) (id : Hash16) (main : Main) (own : List Kept) (r : Result SetView SetFault)
    → first_main_of choice packets ≡ Some (id, main) → own ≡ set_packets_of id packets → AnswersSet (set_of_main id main own) r → AnswersSet (set_of packets choice) r
unfolding set_of
with_main choice packets id main own r found is h =
    let goes_on : Option (Hash16 × Main) → Result SetView SetFault = λ o. ok_or o NoMain >>= λ m. set_of_main m.0 m.1 (set_packets_of m.0 packets) in
    subst (λ o. AnswersSet (goes_on o) r) (sym found) (subst (λ k. AnswersSet (set_of_main id main k) r) is h)
