-- The command line of each verb is one of the simple commands that clap's definitions are about.
use Rattle.std.proofs.Common.{◌≡◌, true, refl}
use Rattle.clap.specs.Faults.{is_simple_and_free}
use Rattle.clap.specs.Simple.{is_simple}
use Rattle.parplan.specs.Grammar.{grammar_of}
use Rattle.parplan.specs.declared.words.grammar.Verb.{Verb}
use Rattle.parplan.specs.declared.words.grammar.Verb.TheVariants.{Packets, Set, Find, Verify}

pub is_simple-grammar_of : (verb : Verb) → is_simple (grammar_of verb) ≡ true
is_simple-grammar_of Packets = refl
is_simple-grammar_of Set = refl
is_simple-grammar_of Find = refl
is_simple-grammar_of Verify = refl

pub is_simple_and_free-grammar_of : (verb : Verb) → is_simple_and_free (grammar_of verb) ≡ true
is_simple_and_free-grammar_of Packets = refl
is_simple_and_free-grammar_of Set = refl
is_simple_and_free-grammar_of Find = refl
is_simple_and_free-grammar_of Verify = refl
