-- The plan of the arguments of a command line.
use Rattle.std.specs.Prelude.{◌≡◌, ◌⊎◌, ℕ, ◌==◌, List, [], ◌∷◌, length, map, filter, Option, Some, None, Result, Ok, Err, MatchResult, if◌then◌else◌, nat_lt, ⊤, codes}
use Rattle.std.specs.Str.{bytes_eq}
use Rattle.clap.specs.Walk.{Row, all_of}
use Rattle.parfield.specs.Chain.{◌>>=◌}
use Rattle.parshelf.specs.Disk.{open_file_limit}
use Rattle.parplan.specs.FileWords.{is_packet_file, is_scanned_file, scanned_as, base_prefix}
use Rattle.parplan.specs.Matches.{faults_given, verb_rows_of}
use Rattle.parplan.specs.Options.{command_of, set_option_of, base_option_of}
use Rattle.parplan.specs.declared.command.Plan.{Plan}
use Rattle.parplan.specs.declared.command.PlanFault.{PlanFault}
use Rattle.parplan.specs.declared.command.PlanFault.TheVariants.{Usage, Value, NoPacketFile, Memory}
use Rattle.parplan.specs.declared.words.grammar.Verb.{Verb}
use Rattle.parplan.specs.declared.words.grammar.Verb.TheVariants as verb

-- the verb that an argument names
abbrev pub verb_of : List ℕ → Result Verb PlanFault
verb_of word =
    if bytes_eq word (codes "packets") then Ok verb.Packets
    else if bytes_eq word (codes "set") then Ok verb.Set
    else if bytes_eq word (codes "find") then Ok verb.Find
    else if bytes_eq word (codes "verify") then Ok verb.Verify
    else Err Usage

-- the verb that the first argument names
abbrev pub first_verb_of : List (List ℕ) → Result Verb PlanFault
first_verb_of [] = Err Usage
first_verb_of (word ∷ words) = verb_of word

-- the files that were given: at least one, and no more than may be opened
abbrev pub some_files_of : Option (List (List ℕ)) → Result (List (List ℕ)) PlanFault
some_files_of None = Err NoPacketFile
some_files_of (Some files) = if nat_lt open_file_limit (length files) then Err Value else Ok files

-- the files that the argument FILES names
abbrev pub file_names_of : List Row → Result (List (List ℕ)) PlanFault
file_names_of rows = some_files_of (all_of (codes "files") rows)

-- the packet files among these files, of which there must be at least one
abbrev pub packet_files_of : List (List ℕ) → Result (List (List ℕ)) PlanFault
packet_files_of files =
    if length (filter is_packet_file files) == 0 then Err NoPacketFile
    else Ok (filter is_packet_file files)

-- the plan of a verb and of the matches in its arguments
abbrev pub plan_of_rows : Verb → List Row → Result Plan PlanFault
plan_of_rows verb rows = do
  command ← command_of verb rows
  set ← set_option_of rows
  base ← base_option_of rows
  files ← file_names_of rows
  packets ← packet_files_of files
  Ok (record {
    command = command;
    set = set;
    packets = packets;
    scanned = map (scanned_as (base_prefix base)) (filter is_scanned_file files);
  })

-- the plan of the arguments, or the first error in them
abbrev pub plan_of : List (List ℕ) → Result Plan PlanFault
plan_of words = do
  verb ← first_verb_of words
  rows ← verb_rows_of verb words
  plan_of_rows verb rows

-- the result is this plan or this error, or it is that memory was refused
abbrev pub AnswersPlan : Result Plan PlanFault → Result Plan PlanFault → Type 0
AnswersPlan planned result =
    MatchResult result (λ plan. planned ≡ Ok plan)
    (λ fault. (fault ≡ Memory) ⊎ (planned ≡ Err fault))

-- the first argument names a verb, and clap's definition finds no error in the arguments
abbrev pub IsTaken : List (List ℕ) → Type 0
IsTaken words = (verb : Verb) × (first_verb_of words ≡ Ok verb) × (faults_given verb words ≡ [])

-- the result says whether the arguments are taken: they aren't if it is wrong usage, and they are
-- if it is anything else, except that memory was refused
abbrev pub TellsTaken : List (List ℕ) → Result Plan PlanFault → Type 0
TellsTaken words (Ok plan) = IsTaken words
TellsTaken words (Err Usage) = ¬ (IsTaken words)
TellsTaken words (Err Value) = IsTaken words
TellsTaken words (Err NoPacketFile) = IsTaken words
TellsTaken words (Err Memory) = ⊤
