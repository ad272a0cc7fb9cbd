-- The store of the packet bodies of a file: one list of bytes, no longer than the file. Bodies that
-- overlap make a run, which is a part of the file without a gap; a run has each byte once.
use Rattle.std.specs.Prelude.{◌≡◌, ◌≤◌, ◌+◌, ◌-◌, ℕ, List, length, take, drop}
use Rattle.parshelf.specs.Shelf.{ShelfState, ReadsAs, file_of}
use Rattle.parsalvage.specs.declared.body_store.BodyStore.{BodyStore}

-- a store for a file of `size` bytes: it has the whole last run, from `start` up to `end` of the
-- file, and in all no more bytes than the file has before `end`
pub record IsStore (size : ℕ) (bodies : BodyStore) : Type 0 where
  pub rising : bodies.start ≤ bodies.end
  pub fits : bodies.end ≤ bodies.start + length bodies.bytes.items
  pub short : length bodies.bytes.items ≤ bodies.end
  pub within : bodies.end ≤ size

-- the store ends with the bytes of the last run
abbrev pub HoldsRun : List ℕ → BodyStore → Type 0
HoldsRun file bodies =
    drop (length bodies.bytes.items - (bodies.end - bodies.start)) bodies.bytes.items
    ≡ take (bodies.end - bodies.start) (drop bodies.start file)

-- the same for this file of any files that are consistent with the reads
abbrev pub HoldsRunOf : ShelfState → ℕ → BodyStore → Type 0
HoldsRunOf shelf file bodies =
    (files : List (List ℕ)) → ReadsAs shelf files → HoldsRun (file_of files file) bodies
