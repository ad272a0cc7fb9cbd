use Rattle.std.proofs.Common.{refl}
use Rattle.parwindow.specs.Crc32.{crc_of, register_of, register_after, crc_steps, crc_step}
use Rattle.parfind.specs.Places.{places_of}
use Rattle.search_tests.proofs.tests.searches.counting.marks_law.Goals as goal

pub returns-clause-two : goal.returns-clause-two
unfolding crc_of register_of register_after crc_steps crc_step places_of
returns-clause-two c = refl

pub returns-clause-equal : goal.returns-clause-equal
unfolding crc_of register_of register_after crc_steps crc_step places_of
returns-clause-equal c = refl

pub returns-clause-tails : goal.returns-clause-tails
unfolding crc_of register_of register_after crc_steps crc_step places_of
returns-clause-tails c = refl

pub returns-clause-there : goal.returns-clause-there
unfolding crc_of register_of register_after crc_steps crc_step places_of
returns-clause-there c = refl

pub returns-clause-plain : goal.returns-clause-plain
unfolding crc_of register_of register_after crc_steps crc_step places_of
returns-clause-plain c = refl
