use Rattle.std.proofs.Common.{refl}
use Rattle.parwindow.specs.Crc32.{crc_of, register_of, register_after, crc_steps, crc_step}
use Rattle.parfind.specs.Places.{places_of}
use Rattle.search_tests.proofs.tests.searches.counting.missing_lengths_law.Goals as goal

pub returns-clause-none : goal.returns-clause-none
unfolding crc_of register_of register_after crc_steps crc_step places_of
returns-clause-none c = refl

pub returns-clause-one : goal.returns-clause-one
unfolding crc_of register_of register_after crc_steps crc_step places_of
returns-clause-one c = refl

pub returns-clause-two : goal.returns-clause-two
unfolding crc_of register_of register_after crc_steps crc_step places_of
returns-clause-two c = refl

pub returns-clause-all : goal.returns-clause-all
unfolding crc_of register_of register_after crc_steps crc_step places_of
returns-clause-all c = refl

pub returns-clause-plain : goal.returns-clause-plain
unfolding crc_of register_of register_after crc_steps crc_step places_of
returns-clause-plain c = refl
