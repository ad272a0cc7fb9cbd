-- The matches and errors that `clap` finds in arguments. The first argument names the verb
-- and isn't looked at.
use Rattle.std.specs.Prelude.{List, [], ◌∷◌, Result, Ok, Err}
use Rattle.clap.specs.Faults.{fault_of}
use Rattle.clap.specs.Kinds.{Kinds}
use Rattle.clap.specs.Simple.{matches_of}
use Rattle.clap.specs.Walk.{Row, Text}
use Rattle.clap.specs.declared.error.kind.ErrorKind.{ErrorKind}
use Rattle.clap.specs.declared.error.kind.ErrorKind.TheVariants.{OutOfMemory}
use Rattle.parplan.specs.Grammar.{grammar_of}
use Rattle.parplan.specs.declared.command.PlanFault.{PlanFault}
use Rattle.parplan.specs.declared.command.PlanFault.TheVariants.{Memory, Usage}
use Rattle.parplan.specs.declared.words.grammar.Verb.{Verb}

-- the kinds of error that clap's definition finds in the arguments
unfoldable pub faults_given : Verb → List Text → Kinds
faults_given verb words = fault_of (grammar_of verb) words

-- the matches that clap's definition finds in the arguments: each option or
-- argument with its values
unfoldable pub rows_given : Verb → List Text → List Row
rows_given verb words = matches_of (grammar_of verb) words

-- the matches, if there is no error; else wrong usage
abbrev pub taken_rows : Kinds → List Row → Result (List Row) PlanFault
taken_rows [] rows = Ok rows
taken_rows (fault ∷ faults) rows = Err Usage

-- the matches in the arguments of a verb, if clap's definition finds no error in them
abbrev pub verb_rows_of : Verb → List Text → Result (List Row) PlanFault
verb_rows_of verb words = taken_rows (faults_given verb words) (rows_given verb words)

-- the plan's error for an error of clap
abbrev pub plan_fault_of : ErrorKind → PlanFault
plan_fault_of OutOfMemory = Memory
plan_fault_of _ = Usage
