-- A shelf before and after reads.
use Rattle.std.proofs.Common.{◌≡◌, ℕ, refl, ap, Result, Ok, Err}
use Rattle.parshelf.specs.Shelf.{ShelfState, Older}
use Rattle.parshelf.specs.Reads.{ReadsOnly, FaultsIn, ReadsFile}
use Rattle.parshelf.specs.declared.shelves.reading.ReadFault.{ReadFault}
use Rattle.parshelf.specs.declared.shelves.reading.ReadFault.TheVariants.{Failed, Ended}
use Rattle.parshelf.proofs.ShelfLaws.{Older-refl}

-- paths, lengths and fixed files are the same, and files that are consistent with all reads are
-- consistent with the earlier ones
pub record Later (s t : ShelfState) : Type 0 where
  pub paths : t.paths ≡ s.paths
  pub lengths : t.lengths ≡ s.lengths
  pub fixed : t.fixed ≡ s.fixed
  pub older : Older s t

pub later_same : (s : ShelfState) → Later s s
later_same s = record { paths = refl; lengths = refl; fixed = refl; older = Older-refl s }

pub later_only : (s t : ShelfState) → ReadsOnly s t → Later s t
later_only s t reads = record {
  paths = ap (λ (u : ShelfState). u.paths) reads.counts;
  lengths = ap (λ (u : ShelfState). u.lengths) reads.counts;
  fixed = ap (λ (u : ShelfState). u.fixed) reads.counts;
  older = reads.older;
}

pub later_fault : (s t : ShelfState) (file : ℕ) (fault : ReadFault) → FaultsIn s t file fault → Later s t
later_fault s t file Failed faults = record {
  paths = ap (λ (u : ShelfState). u.paths) faults.counts;
  lengths = ap (λ (u : ShelfState). u.lengths) faults.counts;
  fixed = ap (λ (u : ShelfState). u.fixed) faults.counts;
  older = faults.older;
}
later_fault s t file Ended faults = record {
  paths = ap (λ (u : ShelfState). u.paths) faults.counts;
  lengths = ap (λ (u : ShelfState). u.lengths) faults.counts;
  fixed = ap (λ (u : ShelfState). u.fixed) faults.counts;
  older = faults.older;
}

pub later_read : {A : Type 0} (s t : ShelfState) (file : ℕ) (answer : Result A ReadFault) → ReadsFile file s t answer → Later s t
later_read s t file (Ok x) reads = later_only s t reads
later_read s t file (Err fault) faults = later_fault s t file fault faults
