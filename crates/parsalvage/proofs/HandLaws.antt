-- One call that reads after another, each within a bound of what the file holds.
use Rattle.std.proofs.Common.{◌≡◌, ◌≢◌, ◌≤◌, ◌+◌, ◌∙◌, ℕ, List, ap, arith, Result, Ok, Err}
use Rattle.parshelf.specs.Shelf.{ShelfState, ReadsAs, Older, file_of}
use Rattle.parshelf.specs.Reads.{ReadsOnly, FaultsIn, HandsOver, HandsAtMost, ReadsPart}
use Rattle.parshelf.specs.declared.shelves.reading.ReadFault.{ReadFault}
use Rattle.parshelf.proofs.ShelfLaws.{HandsOver-none, HandsOver_more}
use Rattle.parshelf.proofs.ReadLaws.{ReadsOnly-refl, ReadsOnly_more, FaultsIn_more}
use Rattle.parsalvage.specs.declared.salvage_fault.SalvageFault.{SalvageFault}
use Rattle.parsalvage.specs.declared.salvage_fault.SalvageFault.TheVariants.{Read, Memory}
use Rattle.parsalvage.specs.Leaves.{FaultLeaves}
use Rattle.parsalvage.specs.Hands.{Hands, ReadsAtMost, SalvagesAtMost}

-- one limit is at most the other, by the bytes of this file of any files that read like this
abbrev pub FitsWithin : ShelfState → ℕ → (List ℕ → ℕ) → (List ℕ → ℕ) → Type 0
FitsWithin s file n limit =
    (files : List (List ℕ)) → ReadsAs s files → n (file_of files file) ≤ limit (file_of files file)

-- what calls changed that read this file within a limit: no fault, a read fault, a fault of a salvage

abbrev pub Handed : ShelfState → ShelfState → ℕ → (List ℕ → ℕ) → Type 0
Handed s t file limit = ReadsOnly s t × Hands s t file limit

abbrev pub FaultsAfter : ShelfState → ShelfState → ℕ → (List ℕ → ℕ) → ReadFault → Type 0
FaultsAfter s t file limit fault = FaultsIn s t file fault × Hands s t file limit

abbrev pub StopsAfter : ShelfState → ShelfState → ℕ → (List ℕ → ℕ) → SalvageFault → Type 0
StopsAfter s t file limit fault = FaultLeaves s t file fault × Hands s t file limit

pub Hands-none : (s : ShelfState) (file : ℕ) (limit : List ℕ → ℕ) → Handed s s file limit
Hands-none s file limit = (
  ReadsOnly-refl s,
  record { count = 0; after = HandsOver-none s file; within = λ files reads. omega arith },
)

pub Hands-from : (s t : ShelfState) (file n : ℕ) (limit : List ℕ → ℕ) → ReadsOnly s t × HandsOver s t file n
    → FitsWithin t file (λ _. n) limit → Handed s t file limit
Hands-from s t file n limit over fits = (over.0, record { count = n; after = over.1; within = fits })

pub Hands-lengths : (s t : ShelfState) (file : ℕ) (limit : List ℕ → ℕ) → Handed s t file limit → t.lengths ≡ s.lengths
Hands-lengths s t file limit h = ap (λ (v : ShelfState). v.lengths) h.0.counts

-- the bytes of one call and then of another
both_handed : (s t u : ShelfState) (file : ℕ) (m n limit : List ℕ → ℕ) → Older t u → Hands s t file m → Hands t u file n
    → FitsWithin t file (λ bytes. m bytes + n bytes) limit → Hands s u file limit
both_handed s t u file m n limit older a b fits = record {
  count = a.count + b.count;
  after = HandsOver_more s t u file a.count b.count a.after b.after;
  within = λ files reads.
      let was = older files reads in omega (arith, fits files was, a.within files was, b.within files reads);
}

pub Hands-more : (s t u : ShelfState) (file : ℕ) (m n limit : List ℕ → ℕ) → Handed s t file m → Handed t u file n
    → FitsWithin t file (λ bytes. m bytes + n bytes) limit → Handed s u file limit
Hands-more s t u file m n limit a b fits = (
  ReadsOnly_more s t u a.0 b.0,
  both_handed s t u file m n limit b.0.older a.1 b.1 fits,
)

pub FaultsAfter-more : (s t u : ShelfState) (file : ℕ) (m n limit : List ℕ → ℕ) (fault : ReadFault) → Handed s t file m
    → FaultsAfter t u file n fault → FitsWithin t file (λ bytes. m bytes + n bytes) limit → FaultsAfter s u file limit fault
FaultsAfter-more s t u file m n limit fault a b fits = (
  FaultsIn_more s t u file fault a.0 b.0,
  both_handed s t u file m n limit b.0.older a.1 b.1 fits,
)

-- a call that stays within a bound stays within a greater one

pub Hands-wider : (s t : ShelfState) (file : ℕ) (n limit : List ℕ → ℕ) → Handed s t file n → FitsWithin s file n limit → Handed s t file limit
Hands-wider s t file n limit h fits = Hands-more s s t file (λ _. 0) n limit (Hands-none s file (λ _. 0)) h (λ files reads. omega (arith, fits files reads))

pub FaultsAfter-wider : (s t : ShelfState) (file : ℕ) (n limit : List ℕ → ℕ) (fault : ReadFault) → FaultsAfter s t file n fault
    → FitsWithin s file n limit → FaultsAfter s t file limit fault
FaultsAfter-wider s t file n limit fault h fits = FaultsAfter-more s s t file (λ _. 0) n limit fault (Hands-none s file (λ _. 0)) h (λ files reads. omega (arith, fits files reads))

pub FaultsAfter-within : (s t : ShelfState) (file n : ℕ) (limit : List ℕ → ℕ) (fault : ReadFault)
    → FaultsIn s t file fault × HandsAtMost s t file n
    → FitsWithin t file (λ _. n) limit → FaultsAfter s t file limit fault
FaultsAfter-within s t file n limit fault h fits = (
  h.0,
  record {
    count = h.1.count;
    after = h.1.after;
    within = λ files reads. omega (arith, fits files reads, h.1.within);
  },
)

pub StopsAfter-more : (s t u : ShelfState) (file : ℕ) (m n limit : List ℕ → ℕ) (fault : SalvageFault) → Handed s t file m
    → StopsAfter t u file n fault → FitsWithin t file (λ bytes. m bytes + n bytes) limit → StopsAfter s u file limit fault
StopsAfter-more s t u file m n limit (Read why) a b fits = FaultsAfter-more s t u file m n limit why a b fits
StopsAfter-more s t u file m n limit Memory a b fits = Hands-more s t u file m n limit a b fits

pub StopsAfter-wider : (s t : ShelfState) (file : ℕ) (n limit : List ℕ → ℕ) (fault : SalvageFault) → StopsAfter s t file n fault
    → FitsWithin s file n limit → StopsAfter s t file limit fault
StopsAfter-wider s t file n limit fault h fits =
    StopsAfter-more s s t file (λ _. 0) n limit fault (Hands-none s file (λ _. 0)) h (λ files reads. omega (arith, fits files reads))

-- a call that reads a part of n bytes stays within any bound that is at least n
pub ReadsAtMost-from : {A : Type 0} (s t : ShelfState) (file n : ℕ) (limit : List ℕ → ℕ) (result : Result A ReadFault)
    → ReadsPart file n s t result → FitsWithin t file (λ _. n) limit
    → ReadsAtMost limit file s t result
ReadsAtMost-from s t file n limit (Ok done) part fits = Hands-from s t file n limit part fits
ReadsAtMost-from s t file n limit (Err why) part fits = FaultsAfter-within s t file n limit why part fits

-- a call that comes after others stays within the sum of the bounds
pub SalvagesAtMost-more : {A : Type 0} (s t u : ShelfState) (file : ℕ) (m n limit : List ℕ → ℕ) (result : Result A SalvageFault)
    → Handed s t file m → SalvagesAtMost n file t u result → FitsWithin t file (λ bytes. m bytes + n bytes) limit
    → SalvagesAtMost limit file s u result
SalvagesAtMost-more s t u file m n limit (Ok done) a b fits = Hands-more s t u file m n limit a b fits
SalvagesAtMost-more s t u file m n limit (Err why) a b fits = StopsAfter-more s t u file m n limit why a b fits

pub FaultLeaves_older : (s t : ShelfState) (file : ℕ) (fault : SalvageFault) → FaultLeaves s t file fault → Older s t
FaultLeaves_older s t file (Read why) stops = stops.older
FaultLeaves_older s t file Memory stops = stops.older

pub SalvagesAtMost-older : {A : Type 0} (s t : ShelfState) (file : ℕ) (limit : List ℕ → ℕ) (result : Result A SalvageFault)
    → SalvagesAtMost limit file s t result → Older s t
SalvagesAtMost-older s t file limit (Ok done) h = h.0.older
SalvagesAtMost-older s t file limit (Err why) h = FaultLeaves_older s t file why h.0

-- how many bytes were handed over, by files that read like this
pub Hands-counted : (s t : ShelfState) (file : ℕ) (limit : List ℕ → ℕ) → Hands s t file limit
    → (files : List (List ℕ)) → ReadsAs t files → HandsAtMost s t file (limit (file_of files file))
Hands-counted s t file limit h files reads = record {
  count = h.count;
  within = h.within files reads;
  after = h.after;
}

-- the same fault in another result
pub not_memory : {A B : Type 0} (why : SalvageFault) (a : Result A SalvageFault) (b : Result B SalvageFault) → a ≡ Err why → b ≡ Err why
    → a ≢ Err Memory → b ≢ Err Memory
not_memory why a b a_is b_is not is =
    let wanted : why ≡ Memory = cc in not (a_is ∙ ap Err wanted)
