-- The four command lines, as commands of `clap`, the library that reads arguments.
use Rattle.std.specs.Prelude.{codes, Some, true}
use Rattle.clap.specs.Simple.{App, new_app, new_rule, on_top, with_rule}
use Rattle.clap.specs.Walk.{Rule, Text}
use Rattle.clap.specs.declared.builder.action.ArgAction.TheVariants.{Set, SetTrue, Append, Count}
use Rattle.parplan.specs.declared.words.grammar.Verb.{Verb}
use Rattle.parplan.specs.declared.words.grammar.Verb.TheVariants as verb

-- an option `--name` that has a value
abbrev pub option_rule : Text → Rule
option_rule name = record (new_rule name) { long = Some name; action = Some Set }

-- the option `-B DIR` or `--base DIR` (66 is `B`)
abbrev pub base_rule : Rule
base_rule = record (option_rule (codes "base")) { short = Some 66 }

-- the argument FILES: one file or more
abbrev pub files_rule : Rule
files_rule = record (new_rule (codes "files")) { required = true; action = Some Append }

-- the flag `-q`, which may be repeated (113 is `q`)
abbrev pub quiet_rule : Rule
quiet_rule = record (new_rule (codes "quiet")) { short = Some 113; action = Some Count }

-- the flag `--tails`, which may be given once
abbrev pub tails_rule : Rule
tails_rule =
    record (new_rule (codes "tails")) { long = Some (codes "tails"); action = Some SetTrue }

-- a command line without arguments; `--help` isn't one of its options
abbrev pub empty_grammar : App
empty_grammar = on_top (λ s. record s { disable_help_flag = true }) (new_app (codes "parv"))

-- the options and arguments that all four commands have
abbrev pub shared_grammar : App
shared_grammar =
    with_rule (with_rule (with_rule empty_grammar (option_rule (codes "set"))) base_rule) files_rule

-- the command line of a verb
abbrev pub grammar_of : Verb → App
grammar_of verb.Packets = shared_grammar
grammar_of verb.Set = shared_grammar
grammar_of verb.Find =
    with_rule (with_rule (with_rule shared_grammar (option_rule (codes "limit")))
    (option_rule (codes "cursor"))) tails_rule
grammar_of verb.Verify = with_rule (with_rule shared_grammar quiet_rule) tails_rule
