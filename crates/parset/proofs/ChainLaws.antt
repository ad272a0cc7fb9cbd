-- Results in a chain: the first fault is the result of the whole chain.
use Rattle.std.proofs.Common.{◌≡◌, ◌∙◌, Err, Ok, Result, ap, subst, sym}
use Rattle.parfield.specs.Chain.{◌>>=◌}
use Rattle.parset.specs.RecoverySet.{AnswersSet}
use Rattle.parset.specs.declared.recovery_set.SetFault.{SetFault}
use Rattle.parset.specs.declared.recovery_set.SetFault.TheVariants.{Memory}

pub fault_stays : {A B : Type 0} (made : Result A SetFault) (f : A → Result B SetFault) (e : SetFault)
    → AnswersSet made (Err e) → AnswersSet (made >>= f) (Err e)
fault_stays made f Memory h = tt
fault_stays made f _ h = ap (λ m. m >>= f) h

-- if `?` returns a fault that is right for the first step, it is right for the whole chain
pub fault_returned : {A B : Type 0} (made : Result A SetFault) (f : A → Result B SetFault) (r : Result B SetFault) (e : SetFault)
    → (y : SetFault) × (r ≡ Err y) × (y ≡ e) → AnswersSet made (Err e) → AnswersSet (made >>= f) r
fault_returned made f r e y h =
    subst (AnswersSet (made >>= f)) (sym (y.1 ∙ ap Err y.2)) (fault_stays made f e h)

-- if the first step has a value, a result that is right for what follows is
-- right for the whole chain
pub answer_goes_on : {A B : Type 0} (made : Result A SetFault) (f : A → Result B SetFault) (x : A) (r : Result B SetFault)
    → made ≡ Ok x → AnswersSet (f x) r → AnswersSet (made >>= f) r
answer_goes_on made f x r is h = subst (λ m. AnswersSet (m >>= f) r) (sym is) h
