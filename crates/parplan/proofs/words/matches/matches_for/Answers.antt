use Rattle.std.proofs.Common.{◌≡◌, ◌⊎◌, ◌∙◌, List, [], ◌∷◌, Ok, Err, ap, inl, inr, refl, true, sym}
use Rattle.clap.specs.Words.{App, Row, Text, kind_of}
use Rattle.clap.specs.Faults.{fault_of, is_simple_and_free}
use Rattle.clap.specs.Simple.{is_simple, matches_of}
use Rattle.clap.specs.Kinds.{IsAmong, Kinds}
use Rattle.clap.specs.declared.error.kind.ErrorKind.{ErrorKind}
use Rattle.clap.specs.declared.error.kind.ErrorKind.TheVariants.{OutOfMemory}
use Rattle.parplan.specs.Grammar.{grammar_of}
use Rattle.parplan.specs.Matches.{faults_given, rows_given, verb_rows_of, taken_rows, plan_fault_of}
use Rattle.parplan.specs.declared.command.PlanFault.TheVariants.{Memory, Usage}
use Rattle.parplan.specs.declared.words.grammar.Verb.{Verb}
use Rattle.parplan.proofs.GrammarLaws.{is_simple-grammar_of, is_simple_and_free-grammar_of}
use Rattle.parplan.proofs.words.matches.matches_for.Goals as goal

memory_or_usage : (k : ErrorKind) → (plan_fault_of k ≡ Memory) ⊎ (plan_fault_of k ≡ Usage)
memory_or_usage OutOfMemory = inl refl
memory_or_usage _ = inr refl

-- if an error is one of the faults, the arguments are refused as wrong usage
refused_by : (k : ErrorKind) (kinds : Kinds) (rows : List Row) → IsAmong k kinds → taken_rows kinds rows ≡ Err Usage
refused_by k [] rows among = absurd among
refused_by k (x ∷ xs) rows among = refl

-- facts that clap's contracts give about an app that is the verb's command line
module _ (verb : Verb) (words : List Text) (a : App) (is : a ≡ grammar_of verb) where
  simple : is_simple a ≡ true
  simple = ap is_simple is ∙ is_simple-grammar_of verb

  free : is_simple_and_free a ≡ true
  free = ap is_simple_and_free is ∙ is_simple_and_free-grammar_of verb

  taken : (rows : List Row) → (is_simple_and_free a ≡ true → fault_of a words ≡ []) → (is_simple a ≡ true → rows ≡ matches_of a words)
      → verb_rows_of verb words ≡ Ok rows
  unfolding faults_given rows_given
  taken rows kinds matches =
      let none : fault_of (grammar_of verb) words ≡ [] = ap (λ b. fault_of b words) (sym is) ∙ kinds free in
      let same : matches_of (grammar_of verb) words ≡ rows = ap (λ b. matches_of b words) (sym is) ∙ sym (matches simple) in
      ap (λ faults. taken_rows faults (matches_of (grammar_of verb) words)) none ∙ ap Ok same

  refused : (k : ErrorKind) → (is_simple_and_free a ≡ true → (k ≡ OutOfMemory) ⊎ IsAmong k (fault_of a words))
      → (plan_fault_of k ≡ Memory) ⊎ (verb_rows_of verb words ≡ Err (plan_fault_of k))
  unfolding faults_given rows_given
  refused k kinds = elim (kinds free) [
    | inl memory ↦ inl (ap plan_fault_of memory)
    | inr among ↦ elim (memory_or_usage k) [
      | inl memory ↦ inl memory
      | inr usage ↦ inr (ap (λ b. taken_rows (fault_of b words) (matches_of (grammar_of verb) words)) (sym is)
          ∙ refused_by k (fault_of a words) _ among ∙ ap Err (sym usage))
    ]
  ]

pub returns-in-Ok : goal.returns-in-Ok
returns-in-Ok c = record {
  rows = taken c.args.verb _ _ c.in_ok-command_line.ensures _ c.in-Ok.ensures.kinds (λ e. (c.in-Ok.ensures.matches e).0);
  fault = tt;
}

pub returns-in-Err : goal.returns-in-Err
returns-in-Err c = record {
  rows = tt;
  fault = rw c.fault.ensures (refused c.args.verb _ _ c.in_ok-command_line.ensures (kind_of c.in-Err.error) c.in-Err.ensures.kinds);
}
