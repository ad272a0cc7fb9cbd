-- Lists that are written in blocks, part after part.
use Rattle.std.proofs.Common.{◌≡◌, ◌<◌, ◌+◌, ◌∙◌, ℕ, Bool, true, false, List, [], ◌∷◌, ◌++◌, length, drop, filter, get_or, Result, Ok, Err, IfErr, ap, sym, subst, append-nil, arith, if◌then◌else◌}
use Rattle.std.proofs.lemmas.Bool.{leb-false}
use Rattle.std.proofs.lemmas.List.{drop_more}
use Rattle.std.specs.List.{zip}
use Rattle.parreport.proofs.BlockLaws.{IsBuffered_ends, IsBuffered_more, IsBuffered_refused, WrotePrefix_front, WrotePrefix_silent}
use Rattle.parreport.specs.Blocks.{block, IsBuffered, StopsIn}
use Rattle.parshelf.specs.SinkState.{SinkState, FailsAfterPrefix}
use Rattle.parreport.proofs.CountLaws.{zip-drop_more}
use Rattle.parplan.specs.declared.command.Command.TheVariants as command
use Rattle.parreport.specs.Outcomes.{Answers, may_follow_text, written}
use Rattle.parreport.specs.declared.status.Status.{Status}
use Rattle.parreport.specs.declared.faults.RunFault.{RunFault}
use Rattle.parreport.specs.declared.faults.RunFault.TheVariants as fault

-- if writing stopped in a part, it stopped in the whole text
pub StopsIn_later : (why : RunFault) (a b c : SinkState) (text waiting part rest : List ℕ) → IsBuffered a b text (waiting ++ (part ++ rest))
    → StopsIn why b c (waiting ++ part) → StopsIn why a c text
StopsIn_later fault.Write a b c text waiting part rest before breaks = IsBuffered_refused a b c text waiting part rest before breaks
StopsIn_later fault.Memory a b c text waiting part rest before breaks = record {
  waiting = breaks.waiting ++ rest;
  buffered = IsBuffered_more a b c text waiting part rest breaks.waiting before breaks.buffered;
}
StopsIn_later (fault.Read packet file cause) a b c text waiting part rest before breaks = absurd breaks
StopsIn_later (fault.Set cause) a b c text waiting part rest before breaks = absurd breaks
StopsIn_later fault.OtherSet a b c text waiting part rest before breaks = absurd breaks
StopsIn_later fault.OtherList a b c text waiting part rest before breaks = absurd breaks
StopsIn_later fault.TooManyTails a b c text waiting part rest before breaks = absurd breaks

-- the answer of a list in which writing stopped is that error
pub breaks_answer : (why : RunFault) (a c : SinkState) (text : List ℕ) (answer : Result Status RunFault) → StopsIn why a c text
    → Answers (record { text = text; answer = answer }) (Err why) a c
breaks_answer fault.Write a c text answer breaks = breaks
breaks_answer fault.Memory a c text answer breaks = WrotePrefix_front a c text breaks
breaks_answer (fault.Read packet file cause) a c text answer breaks = absurd breaks
breaks_answer (fault.Set cause) a c text answer breaks = absurd breaks
breaks_answer fault.OtherSet a c text answer breaks = absurd breaks
breaks_answer fault.OtherList a c text answer breaks = absurd breaks
breaks_answer fault.TooManyTails a c text answer breaks = absurd breaks

-- if writing stopped in the text of `verify` before a block of it, nothing was written
pub breaks_silent : (why : RunFault) (quiet : ℕ) (tails : Bool) (a c : SinkState) (text : List ℕ) → StopsIn why a c text
    → may_follow_text (command.Verify quiet tails) (written a c) why ≡ false → c ≡ a
breaks_silent fault.Write quiet tails a c text breaks silent = absurd (cc)
breaks_silent fault.Memory quiet tails a c text breaks silent =
    WrotePrefix_silent a c text breaks (omega (arith, leb-false block (written a c) silent))
breaks_silent (fault.Read packet file cause) quiet tails a c text breaks silent = absurd breaks
breaks_silent (fault.Set cause) quiet tails a c text breaks silent = absurd breaks
breaks_silent fault.OtherSet quiet tails a c text breaks silent = absurd breaks
breaks_silent fault.OtherList quiet tails a c text breaks silent = absurd breaks
breaks_silent fault.TooManyTails quiet tails a c text breaks silent = absurd breaks

-- at the end, the bytes that waited were written, or the sink failed in them
pub listed_ends : (result : Result Status RunFault) (answer : Result Status RunFault) (a b c : SinkState) (text waiting : List ℕ) → IsBuffered a b text waiting
    → Answers (record { text = waiting; answer = answer }) result b c → IfErr result (λ why. why ≡ fault.Write)
    → Answers (record { text = text; answer = answer }) result a c
listed_ends (Ok status) answer a b c text waiting before (is, all) write = (is, IsBuffered_ends a b c text waiting before all)
listed_ends (Err why) answer a b c text waiting before after write =
    let refuses : FailsAfterPrefix b c waiting = subst (λ w. Answers (record { text = waiting; answer = answer }) (Err w) b c) write after in
    subst (λ w. Answers (record { text = text; answer = answer }) (Err w) a c) (sym write)
    (IsBuffered_refused a b c text waiting [] [] (subst (λ ys. IsBuffered a b text ys) (sym (append-nil waiting)) before)
    (subst (λ ys. FailsAfterPrefix b c ys) (sym (append-nil waiting)) refuses))

-- ---- lines, one after the other
pub rest_more : {X : Type 0} (xs : List X) (i : ℕ) (x : X) → i < length xs → x ≡ get_or xs i x → drop i xs ≡ x ∷ drop (i + 1) xs
rest_more xs i x below item = drop_more xs i x below ∙ ap (λ y. y ∷ drop (i + 1) xs) (sym item)

-- two lists side by side
pub pairs_more : {X Y : Type 0} (xs : List X) (ys : List Y) (i : ℕ) (x : X) (y : Y) → i < length xs → i < length ys → x ≡ get_or xs i x
    → zip (drop i xs) (drop i ys) ≡ (x, get_or ys i y) ∷ zip (drop (i + 1) xs) (drop (i + 1) ys)
pairs_more xs ys i x y here there item =
    zip-drop_more xs ys i x y here there ∙ ap (λ z. (z, get_or ys i y) ∷ zip (drop (i + 1) xs) (drop (i + 1) ys)) (sym item)

chosen_more : {X : Type 0} (p : X → Bool) (xs : List X) (i : ℕ) (x : X) → i < length xs → x ≡ get_or xs i x
    → filter p (drop i xs) ≡ (if p x then x ∷ filter p (drop (i + 1) xs) else filter p (drop (i + 1) xs))
chosen_more p xs i x below item = ap (filter p) (rest_more xs i x below item)

pub takes_chosen : {X : Type 0} (p : X → Bool) (xs : List X) (i : ℕ) (x : X) → i < length xs → x ≡ get_or xs i x → p x ≡ true
    → filter p (drop i xs) ≡ x ∷ filter p (drop (i + 1) xs)
takes_chosen p xs i x below item is =
    chosen_more p xs i x below item ∙ ap (λ b. if b then x ∷ filter p (drop (i + 1) xs) else filter p (drop (i + 1) xs)) is

pub leaves_other : {X : Type 0} (p : X → Bool) (xs : List X) (i : ℕ) (x : X) → i < length xs → x ≡ get_or xs i x → p x ≡ false
    → filter p (drop i xs) ≡ filter p (drop (i + 1) xs)
leaves_other p xs i x below item is =
    chosen_more p xs i x below item ∙ ap (λ b. if b then x ∷ filter p (drop (i + 1) xs) else filter p (drop (i + 1) xs)) is
