-- The digests that are kept of a window: their number, and the compared lengths that they belong
-- to.
use Rattle.std.proofs.Common.{◌≡◌, ℕ, zero, suc, ◌<◌, ◌≤◌, Bool, true, List, [], ◌∷◌, filter, length, replicate, is_some, slice_index, slice_index_or, refl, sym, ap, ◌∙◌, subst, arith, Option, None, Some, IfSome, inl, inr}
use Rattle.std.proofs.lemmas.Bool.{cases_Bool, cases_lt}
use Rattle.std.proofs.lemmas.List.{get_or_past, get_or-replicate, length-replicate}
use Rattle.parfield.specs.declared.hash16.Hash16.{Hash16}
use Rattle.parwindow.specs.Window.{WindowState}
use Rattle.parfind.specs.declared.tracks.track.Track.{Track}
use Rattle.parfind.specs.KeptDigests.{IsDigestOf, Keeps, kept_count}
use Rattle.parfind.specs.Sought.{Sought, count_compared, has_compared_crc, compared_lengths}
use Rattle.parfind.specs.Tracks.{IsTied, SameTrack, cursor_of_track}
use Rattle.parshelf.specs.Shelf.{ShelfState}

-- no more entries are kept than lengths pass a test, if the length of each one that is kept does
few_some : {A : Type 0} (p : ℕ → Bool) (xs : List (Option A)) (ns : List ℕ) → length xs ≡ length ns
    → ((k : ℕ) → k < length xs → IfSome (slice_index_or xs k None) (λ _. p (slice_index ns k) ≡ true))
    → length (filter is_some xs) ≤ length (filter p ns)
few_some p [] ns same each = omega arith
few_some p (x ∷ xs) [] same each = absurd (omega arith)
few_some p (None ∷ xs) (n ∷ ns) same each =
    let rest = few_some p xs ns (omega arith) (λ k less. each (suc k) (omega arith)) in
    elim (cases_Bool (p n)) [
      | inl passes ↦ rw passes (omega (arith, rest))
      | inr fails ↦ rw fails rest
    ]
few_some p (Some x ∷ xs) (n ∷ ns) same each =
    let rest = few_some p xs ns (omega arith) (λ k less. each (suc k) (omega arith)) in
    let passes : p n ≡ true = each 0 (omega arith) in
    rw passes (omega (arith, rest))

-- if the number of entries that are kept isn't 0, there is one
some_kept : {A : Type 0} (xs : List (Option A)) → 0 < length (filter is_some xs)
    → (k : ℕ) × (k < length xs) × ((x : A) × (slice_index_or xs k None ≡ Some x))
some_kept [] some = absurd (omega arith)
some_kept (Some x ∷ xs) some = (0, omega arith, (x, refl))
some_kept (None ∷ xs) some =
    let later = some_kept xs some in
    (suc later.0, omega (arith, later.1), later.2)

if_some : {A : Type 0} (P Q : A → Type 0) → ((x : A) → P x → Q x) → (o : Option A) → IfSome o P → IfSome o Q
if_some P Q weaker None h = tt
if_some P Q weaker (Some x) h = weaker x h

module _ (sought : Sought) (w : WindowState) (kept : List (Option Hash16)) (keeps : Keeps sought w kept) where
  pub few_kept : kept_count kept ≤ count_compared sought w.content
  few_kept =
      few_some (has_compared_crc sought w.content) kept (compared_lengths sought) keeps.room
      (λ k less. if_some (IsDigestOf sought w (slice_index (compared_lengths sought) k))
      (λ _. has_compared_crc sought w.content (slice_index (compared_lengths sought) k) ≡ true)
      (λ d is. is.marked) (slice_index_or kept k None) (keeps.each k less))

  pub kept_full : 0 < kept_count kept → length w.content ≡ w.capacity
  kept_full some =
      let one = some_kept kept some in
      let own : ℕ = slice_index (compared_lengths sought) one.0 in
      let is : IsDigestOf sought w own one.2.0 =
      subst (λ (o : Option Hash16). IfSome o (IsDigestOf sought w own)) one.2.1 (keeps.each one.0 one.1) in
      is.full

-- an empty list of entries keeps none
pub count_none : (n : ℕ) → kept_count (replicate n None) ≡ 0
count_none zero = refl
count_none (suc n) = count_none n

pub keeps_none : (sought : Sought) (w : WindowState) → Keeps sought w (replicate (length (compared_lengths sought)) None)
keeps_none sought w = record {
  room = length-replicate {A = Option Hash16} (length (compared_lengths sought)) None;
  each = λ k less.
      let n : ℕ = length (compared_lengths sought) in
      let within : k < n = omega (arith, length-replicate {A = Option Hash16} n None) in
      let none : slice_index_or (replicate {A = Option Hash16} n None) k None ≡ None = get_or-replicate {A = Option Hash16} n k None None within in
      subst (λ (o : Option Hash16). IfSome o (IsDigestOf sought w (slice_index (compared_lengths sought) k))) (sym none) tt;
}

-- a track whose window hasn't moved has the same cursor
pub same_cursor : (a b : Track) → SameTrack a b → cursor_of_track b ≡ cursor_of_track a
same_cursor a b same =
    ap (λ (f : ℕ). record { file = f; offset = b.window_offset; slice = 0 }) same.file_is
    ∙ ap (λ (o : ℕ). record { file = a.file; offset = o; slice = 0 }) same.offset_is

-- a file that has bytes exists
pub inside_counted : (lengths : List ℕ) (file offset : ℕ) → offset < slice_index lengths file → file < length lengths
inside_counted lengths file offset inside = elim (cases_lt file (length lengths)) [
  | inl less ↦ less
  | inr past ↦ absurd (omega (arith, get_or_past lengths file 0 past))
]

-- a track still goes along its file after a digest was taken
pub tied_digest : (s : ShelfState) (w y : WindowState) (t : Track) (n : ℕ) → IsTied s w t → y ≡ record w { digests = n } → IsTied s y t
tied_digest s w y t n tied takes =
    subst (λ (x : WindowState). IsTied s x t) (sym takes) (record {
      within = tied.within;
      few = tied.few;
      buffer_fits = tied.buffer_fits;
      small = tied.small;
      not_ahead = tied.not_ahead;
      reached = tied.reached;
      content = tied.content;
      ahead = tied.ahead;
    })
