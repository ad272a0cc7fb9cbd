use Rattle.std.proofs.Common.{Result, Ok, Err, sym}
use Rattle.std.specs.Option.{IfNone}
use Rattle.std.specs.Result.{MatchResult, result_ok}
use Rattle.parfind.proofs.cursor_laws.NumberLaws.{IsUtf8-canonical}
use Rattle.parfind.proofs.cursors.cursor_text.canonical.Goals as goal

-- canonical decimal is valid UTF-8, so converting it to text always succeeds
text_read : {T E : Type 0} (F : Type 0) (r : Result T E) (P : T → Type 0) (Q : Type 0)
    (R : E → Type 0) → Q → MatchResult r P (λ e. ¬ Q × R e) → IfNone (result_ok r) F
text_read F (Ok x) P Q R h told = tt
text_read F (Err e) P Q R h told = absurd (told.0 h)

pub returns-then-is_canonical-clause-none : goal.returns-then-is_canonical-clause-none
returns-then-is_canonical-clause-none c =
    let text = IsUtf8-canonical c.args.part.now (sym c.if-is_canonical.ensures) in
    rw c.ok.ensures.value (text_read _ c.from_utf8.result _ _ _ text c.from_utf8.ensures.cases)
