use Rattle.std.proofs.Common.{refl}
use Rattle.parwindow.specs.Crc32.{crc_of, register_of, register_after, crc_steps, crc_step}
use Rattle.parfind.specs.Places.{places_of}
use Rattle.search_tests.proofs.tests.searches.counting.missing_law.Goals as goal

pub returns-clause-none : goal.returns-clause-none
unfolding crc_of register_of register_after crc_steps crc_step places_of
returns-clause-none c = refl

pub returns-clause-one : goal.returns-clause-one
unfolding crc_of register_of register_after crc_steps crc_step places_of
returns-clause-one c = refl

pub returns-clause-all : goal.returns-clause-all
unfolding crc_of register_of register_after crc_steps crc_step places_of
returns-clause-all c = refl

pub returns-clause-equal : goal.returns-clause-equal
unfolding crc_of register_of register_after crc_steps crc_step places_of
returns-clause-equal c = refl

pub returns-clause-both : goal.returns-clause-both
unfolding crc_of register_of register_after crc_steps crc_step places_of
returns-clause-both c = refl
