-- The command and the values of its options, according to clap's matches.
use Rattle.std.specs.Prelude.{ℕ, ◌==◌, Bool, false, min, List, length, Option, Some, None, Result, Ok, Err, if◌then◌else◌, codes}
use Rattle.std.specs.Option.{option_map_or}
use Rattle.std.specs.Str.{bytes_eq}
use Rattle.clap.specs.Walk.{Row, first_of, count_of}
use Rattle.parfield.specs.Chain.{◌>>=◌}
use Rattle.parfield.specs.Hash16.{hex_hash_of}
use Rattle.parfield.specs.declared.hash16.Hash16.{Hash16}
use Rattle.parfind.specs.declared.cursors.cursor_text.CursorText.{CursorText}
use Rattle.parfind.specs.CursorText.{cursor_text_of}
use Rattle.parplan.specs.Limit.{limit_of}
use Rattle.parplan.specs.declared.command.Command.{Command}
use Rattle.parplan.specs.declared.command.Command.TheVariants as command
use Rattle.parplan.specs.declared.command.PlanFault.{PlanFault}
use Rattle.parplan.specs.declared.command.PlanFault.TheVariants.{Value}
use Rattle.parplan.specs.declared.words.grammar.Verb.{Verb}
use Rattle.parplan.specs.declared.words.grammar.Verb.TheVariants as verb

-- the value that was read from an option's text; an error if the text has none
abbrev pub value_needed : {A : Type 0} → Option A → Result (Option A) PlanFault
value_needed None = Err Value
value_needed (Some value) = Ok (Some value)

-- the value of an option that may be left out; an error if it is there and its text can't be read
abbrev pub option_value_of :
    {A : Type 0} → (List ℕ → Option A) → Option (List ℕ) → Result (Option A) PlanFault
option_value_of read None = Ok None
option_value_of read (Some text) = value_needed (read text)

-- the folder DIR, a text that is not empty
abbrev pub dir_of : List ℕ → Option (List ℕ)
dir_of text = if length text == 0 then None else Some text

-- the set ID of `--set HEX`
abbrev pub set_option_of : List Row → Result (Option Hash16) PlanFault
set_option_of rows = option_value_of hex_hash_of (first_of (codes "set") rows)

-- the folder of `-B DIR`
abbrev pub base_option_of : List Row → Result (Option (List ℕ)) PlanFault
base_option_of rows = option_value_of dir_of (first_of (codes "base") rows)

-- the limit of `--limit N`
abbrev pub limit_option_of : List Row → Result (Option ℕ) PlanFault
limit_option_of rows = option_value_of limit_of (first_of (codes "limit") rows)

-- the parts of the cursor's text in `--cursor TEXT`
abbrev pub cursor_option_of : List Row → Result (Option CursorText) PlanFault
cursor_option_of rows = option_value_of cursor_text_of (first_of (codes "cursor") rows)

-- how often `-q` is given; more than 2 counts as 2
abbrev pub quiet_of : List Row → ℕ
quiet_of rows = min (count_of (codes "quiet") rows) 2

-- whether `--tails` is given: clap gives a flag the value `true` if it is there, and else `false`
abbrev pub has_tails : List Row → Bool
has_tails rows =
    option_map_or (λ text. bytes_eq text (codes "true")) (first_of (codes "tails") rows) false

-- the command of a verb, with the options that only this command has
abbrev pub command_of : Verb → List Row → Result Command PlanFault
command_of verb.Packets rows = Ok command.Packets
command_of verb.Set rows = Ok command.Set
command_of verb.Find rows = do
  limit ← limit_option_of rows
  cursor ← cursor_option_of rows
  Ok (command.Find limit cursor (has_tails rows))
command_of verb.Verify rows = Ok (command.Verify (quiet_of rows) (has_tails rows))
