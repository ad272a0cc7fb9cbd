-- A finder and its shelf over calls, one after another.
use Rattle.std.proofs.Common.{◌≡◌, ℕ, ◌∙◌, ap, arith, Result, Ok, Err}
use Rattle.parshelf.specs.Shelf.{ShelfState}
use Rattle.parshelf.specs.Reads.{ReadsOnly, ReadsFile}
use Rattle.parshelf.specs.declared.shelves.reading.ReadFault.{ReadFault}
use Rattle.parshelf.proofs.ReadLaws.{ReadsOnly-refl, ReadsOnly_more, FaultsIn_more}
use Rattle.parfind.specs.Finders.{FinderState, GoesAlong}
use Rattle.parfind.proofs.track_laws.FetchedLaws.{hands_none, hands_more}

-- if a call comes after calls that only read, its clause about the shelf holds from the first of
-- them on
pub reads_before : {A : Type 0} (old mid new : ShelfState) (file : ℕ) (answer : Result A ReadFault) → ReadsOnly old mid
    → ReadsFile file mid new answer → ReadsFile file old new answer
reads_before old mid new file (Ok x) reads more = ReadsOnly_more old mid new reads more
reads_before old mid new file (Err fault) reads more = FaultsIn_more old mid new file fault reads more

-- a call that reads nothing and takes no digest goes along
pub goes_still : {A : Type 0} (s : ShelfState) (f g : FinderState) (x : A) → g.fetched ≡ f.fetched → g.opening ≡ f.opening
    → g.mode ≡ f.mode → g.digests ≡ f.digests → GoesAlong s s f g (Ok x)
goes_still s f g x fetched opening mode digests = record {
  shelf = ReadsOnly-refl s;
  reads = rw fetched (hands_none s.lengths s.handed f.fetched);
  opening_is = opening;
  mode_is = mode;
  no_fewer = omega (arith, digests);
}

-- a call without an error, followed by another one, goes along like one call
pub goes_more : {A B : Type 0} (s mid t : ShelfState) (f g h : FinderState) (x : A) (answer : Result B ReadFault)
    → GoesAlong s mid f g (Ok x) → GoesAlong mid t g h answer → GoesAlong s t f h answer
goes_more s mid t f g h x answer first next = record {
  shelf = reads_before s mid t h.cursor.file answer first.shelf next.shelf;
  reads = hands_more s.lengths s.handed mid.handed t.handed f.fetched g.fetched h.fetched first.reads
      (rw (ap (λ (u : ShelfState). u.lengths) first.shelf.counts) at next.reads);
  opening_is = next.opening_is ∙ first.opening_is;
  mode_is = next.mode_is ∙ first.mode_is;
  no_fewer = omega (arith, first.no_fewer, next.no_fewer);
}

-- the value of a result without an error makes no difference
pub goes_as : {A B : Type 0} (s t : ShelfState) (f g : FinderState) (x : A) (y : B) → GoesAlong s t f g (Ok x) → GoesAlong s t f g (Ok y)
goes_as s t f g x y along = record {
  shelf = along.shelf;
  reads = along.reads;
  opening_is = along.opening_is;
  mode_is = along.mode_is;
  no_fewer = along.no_fewer;
}
