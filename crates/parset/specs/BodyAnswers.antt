-- The results that a reader of a packet body may return.
use Rattle.std.specs.Prelude.{◌≡◌, Option, Some, None, Result, Ok, Err}
use Rattle.parset.specs.declared.bodies.aside.Aside.{Aside}
use Rattle.parset.specs.declared.bodies.aside.BodyFault.{BodyFault}
use Rattle.parset.specs.declared.bodies.aside.BodyFault.TheVariants as faults

-- the fields of a body if there is no reason against it, else that reason
abbrev pub answer_of : {T E : Type 0} → Option E → T → Result T E
answer_of None fields = Ok fields
answer_of (Some reason) fields = Err reason

-- a reader returned the fields, or the first reason why the body is not usable, or that memory
-- was refused. The last is possible only if no early reason applies, which is one that can be
-- tested without memory
abbrev pub AnswersBodyAfter :
    {T : Type 0} → Option Aside → Option Aside → T → Result T BodyFault → Type 0
AnswersBodyAfter early reason fields (Ok found) = (reason ≡ None) × (found ≡ fields)
AnswersBodyAfter early reason fields (Err (faults.Aside why)) = reason ≡ Some why
AnswersBodyAfter early reason fields (Err faults.Memory) = early ≡ None

-- the same of a reader that tests all its reasons without memory
abbrev pub AnswersBody : {T : Type 0} → Option Aside → T → Result T BodyFault → Type 0
AnswersBody reason fields answer = AnswersBodyAfter reason reason fields answer
