use Rattle.std.proofs.Common.{◌≡◌, ◌≢◌, ◌∙◌, ◌++◌, ℕ, Bool, true, false, List, length, drop, nat_eq, ap, refl}
use Rattle.std.specs.List.{starts_with}
use Rattle.std.proofs.lemmas.Bool.Decides.{Decides-eqb}
use Rattle.std.proofs.lemmas.Slice.Eq.{starts_is}
use Rattle.parplan.specs.FileWords.{without_prefix}
use Rattle.parplan.proofs.words.files.stripped.Goals as goal

not_true : (b : Bool) → (b ≡ true → ⊥) → b ≡ false
not_true true h = absurd (h refl)
not_true false h = refl

begins : (prefix word : List ℕ) (n : ℕ) (rest : List ℕ) → n ≡ length prefix → word ≡ prefix ++ drop n word → rest ≡ drop n word
    → rest ≡ without_prefix prefix word
unfolding without_prefix
begins prefix word n rest is whole e =
    let starts : starts_with nat_eq word prefix ≡ true = (starts_is Decides-eqb word prefix _ refl).1 _ whole in
    rw starts (e ∙ ap (λ k. drop k word) is)

begins_not : (prefix word : List ℕ) → ((rest : List ℕ) → word ≢ prefix ++ rest) → word ≡ without_prefix prefix word
unfolding without_prefix
begins_not prefix word h =
    let starts : starts_with nat_eq word prefix ≡ false = not_true _ (λ e. h _ ((starts_is Decides-eqb word prefix _ refl).0 e)) in
    rw starts refl

pub returns-in-Some : goal.returns-in-Some
returns-in-Some c =
    let cases = c.in-Some.ensures.cases in
    begins c.args.prefix.now c.args.word.now cases.0 _ cases.1.0 cases.1.1 cases.2

pub returns-in-None : goal.returns-in-None
returns-in-None c = begins_not c.args.prefix.now c.args.word.now c.in-None.ensures.cases
