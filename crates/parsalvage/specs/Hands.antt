-- How many bytes of a file are handed to a call: a limit that depends on the bytes of the file.
use Rattle.std.specs.Prelude.{◌≤◌, ℕ, List, Result}
use Rattle.parshelf.specs.Shelf.{ShelfState, ReadsAs, file_of}
use Rattle.parshelf.specs.Reads.{HandsOver, ReadsFile}
use Rattle.parshelf.specs.declared.shelves.reading.ReadFault.{ReadFault}
use Rattle.parsalvage.specs.Leaves.{LeavesShelf}
use Rattle.parsalvage.specs.declared.salvage_fault.SalvageFault.{SalvageFault}

-- some bytes of this file were handed over, and none of another file; if files are consistent with
-- the reads, no more than the limit that follows from the bytes of this file
pub record Hands (old new : ShelfState) (file : ℕ) (limit : List ℕ → ℕ) : Type 0 where
  pub count : ℕ
  pub after : HandsOver old new file count
  pub within : (files : List (List ℕ)) → ReadsAs new files → count ≤ limit (file_of files file)

-- the changes that a call makes that reads this file, within the limit that follows from its bytes
abbrev pub ReadsAtMost : {A : Type 0} → (List ℕ → ℕ) → ℕ → ShelfState → ShelfState
    → Result A ReadFault → Type 0
ReadsAtMost limit file old new result = ReadsFile file old new result × Hands old new file limit

-- the same of a call that also takes memory
abbrev pub SalvagesAtMost : {A : Type 0} → (List ℕ → ℕ) → ℕ → ShelfState → ShelfState
    → Result A SalvageFault → Type 0
SalvagesAtMost limit file old new result = LeavesShelf file old new result × Hands old new file limit
