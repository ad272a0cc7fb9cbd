-- Several bytes are appended to a window that has space for them.
use Rattle.std.proofs.Common.{◌≡◌, ℕ, ◌+◌, ◌-◌, ◌<◌, ◌≤◌, false, List, [], ◌∷◌, ◌++◌, length, take, get_or, fold, nat_eq, sym, ap, ◌∙◌, arith, append_assoc, length-append, length-take}
use Rattle.std.proofs.lemmas.Bool.Decides.{nat_tests}
use Rattle.std.proofs.lemmas.List.{take_more, take_all, append-nil}
use Rattle.std.proofs.lemmas.List.Sums.{fold-append}
use Rattle.std.specs.Prelude.{All}
use Rattle.circular_buffer.specs.Buffer.{keep_last}
use Rattle.parwindow.specs.Crc32.{register_after, register_of}
use Rattle.parwindow.specs.Tails.{tail_lengths_of}
use Rattle.parwindow.specs.Window.{WindowState, content_after}
use Rattle.parwindow.specs.declared.tails.tail.Tail.{Tail}

-- no byte falls out
pub keep_last-piece : (items bytes : List ℕ) (cap : ℕ) → length items + length bytes ≤ cap
    → keep_last cap (items ++ bytes) ≡ items ++ bytes
keep_last-piece items bytes cap room =
    let none : length (items ++ bytes) - cap ≡ 0 = omega (arith, length-append items bytes) in
    rw none

-- the register takes in all bytes
pub register_of-piece : (items bytes : List ℕ)
    → fold register_after (register_of items) bytes ≡ register_of (items ++ bytes)
unfolding register_of
register_of-piece items bytes = sym (fold-append register_after 0xFFFFFFFF items bytes)

-- if there is no tail, any fact holds for each
pub each_of_none : (P : Tail → Type 0) (tails : List Tail) → tail_lengths_of tails ≡ [] → All P tails
each_of_none P [] none = λ i t below. absurd (omega arith)
each_of_none P (t ∷ tails) none = cc

-- a window after the first i bytes were appended
abbrev pub extended : WindowState → List ℕ → ℕ → WindowState
extended w bytes i = record w { content = w.content ++ take i bytes }

pub extended_none : (w : WindowState) (bytes : List ℕ) → w ≡ extended w bytes 0
extended_none w bytes = ap (λ xs. record w { content = xs }) (sym (append-nil w.content))

pub extended_all : (w : WindowState) (bytes : List ℕ)
    → extended w bytes (length bytes) ≡ record w { content = w.content ++ bytes }
extended_all w bytes = ap (λ xs. record w { content = w.content ++ xs })
    (take_all (length bytes) bytes (omega arith))

-- pushing one byte more appends it, as long as there is space
pub extended_more : (w now after : WindowState) (bytes : List ℕ) (i : ℕ)
    → length w.content + length bytes ≤ w.capacity → i < length bytes → now ≡ extended w bytes i
    → after ≡ record now { content = content_after now (get_or bytes i 0) }
    → after ≡ extended w bytes (i + 1)
extended_more w now after bytes i room less here is =
    let few : length (w.content ++ take i bytes) < w.capacity =
    omega (arith, length-append w.content (take i bytes), length-take i bytes) in
    let no : nat_eq (length (w.content ++ take i bytes)) w.capacity ≡ false =
    grind (arith, nat_tests) in
    is ∙ rw (here, no) (ap (λ xs. record w { content = xs })
    (append_assoc w.content (take i bytes) (get_or bytes i 0 ∷ [])
    ∙ ap (λ l. w.content ++ l) (sym (take_more bytes i 0 less))))
