-- The maps and sets in which scanned files are looked up for each file of a recovery set: by their
-- lengths and MD5s, and by their names.
use Rattle.std.specs.Prelude.{ℕ, Bool, List, Option, if◌then◌else◌}
use Rattle.std.specs.BTreeMap as tree
use Rattle.std.specs.BTreeSet as sorted
use Rattle.std.specs.BTreeMap.{BTreeMap}
use Rattle.std.specs.BTreeSet.{BTreeSet}
use Rattle.std.specs.Cmp.Lexicographic.{slice_cmp}
use Rattle.std.specs.declared.cmp.Ordering.{Ordering}
use Rattle.std.specs.Ordering.{nat_cmp, ordering_then, on, then_cmp}
use denote.Ref.{Bor}
use Rattle.parfield.specs.HashOrder.{id_cmp}
use Rattle.parset.specs.declared.recovery_set.SetFile.{SetFile}
use Rattle.parreport.specs.declared.states.contents.LengthAndMd5.{LengthAndMd5}
use Rattle.parreport.specs.declared.states.lookups.Lookups.{Lookups}
use Rattle.parreport.specs.declared.states.state.State.{State}
use Rattle.parreport.specs.declared.states.state.State.TheVariants.{Complete}
use Rattle.parreport.specs.States.{incomplete_state_of}

-- the order of lengths with MD5s: by length, then by MD5
abbrev pub content_cmp : LengthAndMd5 → LengthAndMd5 → Ordering
content_cmp = then_cmp (on (λ one. one.length) nat_cmp) (on (λ one. one.whole) id_cmp)

-- the length and the MD5 of a file of the set
abbrev pub length_and_md5_of : SetFile → LengthAndMd5
length_and_md5_of file = record { length = file.length; whole = file.whole }

-- the order between the name of a file of the set and another name
abbrev pub file_name_cmp : SetFile → Bor (List ℕ) → Ordering
file_name_cmp file name = slice_cmp nat_cmp file.name name.now

-- the number that a map has for the length and the MD5 of a file of the set
abbrev pub first_at : BTreeMap LengthAndMd5 ℕ → SetFile → Option ℕ
first_at firsts file = tree.get content_cmp firsts (length_and_md5_of file)

-- whether a set of names has the name of a file of the set
abbrev pub has_name_of : BTreeSet (Bor (List ℕ)) → SetFile → Bool
has_name_of names file = sorted.contains_by (file_name_cmp file) names

-- whether a set has the length, the MD5 and the name of a file of the set in one entry
abbrev pub has_both_of : BTreeSet (LengthAndMd5 × Bor (List ℕ)) → SetFile → Bool
has_both_of both file =
    sorted.contains_by (λ one. ordering_then
    (content_cmp (length_and_md5_of file) one.0) (file_name_cmp file one.1)) both

-- the state of a file of the set that the lookups give
abbrev pub looked_up_state_of : Lookups → SetFile → State
looked_up_state_of lookups file =
    if has_both_of lookups.both file then Complete
    else incomplete_state_of (first_at lookups.firsts file) (has_name_of lookups.names file)
