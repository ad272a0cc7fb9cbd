-- The entries that have a CRC-32.
use Rattle.std.proofs.Common.{◌≡◌, ℕ, List, eq-eqb, refl}
use Rattle.std.specs.Prelude.{All, Contains}
use Rattle.std.specs.List.{filter}
use Rattle.std.proofs.lemmas.Bool.{eqb-true}
use Rattle.std.proofs.lemmas.List.Elements.{All-contains, All-contains_itself, All-filter, filter_passes}
use Rattle.parset.specs.declared.recovery_set.SetSlice.{SetSlice}
use Rattle.parwindow.specs.declared.slices.entries.Entry.{Entry}
use Rattle.parwindow.specs.Entries.{entry_has_crc, HasAllOf, IsEntryOf, IsIndexOf}
use Rattle.parwindow.proofs.ListLaws.{contains_filter}
use Rattle.parwindow.proofs.slice_laws.SearchLaws.{entry_of}

-- `found` has exactly the entries that have this CRC-32
pub record AreWithCrc (entries : List Entry) (crc : ℕ) (found : List Entry) : Type 0 where
  pub sound : All (λ e. Contains entries e × (e.crc ≡ crc)) found
  pub complete : (e : Entry) → Contains entries e → e.crc ≡ crc → Contains found e

pub with_crc : (entries : List Entry) (c : ℕ) → AreWithCrc entries c (filter (entry_has_crc c) entries)
with_crc entries c = record {
  sound = λ k d within. (
    All-filter (entry_has_crc c) (λ (e : Entry). Contains entries e) entries
        (All-contains_itself entries) k d within,
    eqb-true _ c (filter_passes (entry_has_crc c) entries k d within),
  );
  complete = λ e there is. contains_filter (entry_has_crc c) entries e (eq-eqb e.crc c is) there.0
      there.1 there.2;
}

-- for each slice that has this CRC-32 and an MD5, they have its entry
pub has_all : (slices : List SetSlice) (entries found : List Entry) (c : ℕ) (d : List ℕ)
    → IsIndexOf slices entries → AreWithCrc entries c found → HasAllOf slices c d found
has_all slices entries found c d ix are = record {
  sound = λ k e within.
      All-contains (IsEntryOf slices) entries _ ix.sound (are.sound k e within).0;
  complete = λ n has. are.complete (entry_of c d n) (ix.complete n c d has) refl;
}
