-- The limits of the text of a usable Creator packet.
use Rattle.std.proofs.Common.{◌≡◌, ℕ, ◌<◌, ◌≤◌, ◌==◌, Bool, true, false, not, cond, List, [], ◌∷◌, length, length-take, Option, Some, None, arith, refl, sym, ⊎_elim}
use Rattle.std.specs.Option.{IfSome}
use Rattle.std.proofs.lemmas.Bool.Decides.{nat_tests}
use Rattle.parfield.specs.declared.kind.Kind.{Kind}
use Rattle.parfield.specs.declared.kind.Kind.TheVariants as kind
use Rattle.parsalvage.specs.declared.kept.Kept.{Kept}
use Rattle.parsalvage.specs.declared.kept.KeptBody.{KeptBody}
use Rattle.parsalvage.specs.declared.kept.KeptBody.TheVariants.{Whole}
use Rattle.parsalvage.specs.Kept.{body_limit}
use Rattle.parset.specs.Bodies.{creator_text_of, without_end_zeros}
use Rattle.parset.specs.Choosing.{creator_of, first_creator_of, only_if}
use Rattle.parset.specs.PacketFields.{usable_creator_text, usable_fields}
use Rattle.parset.specs.Reasons.{creator_reason, first_reason, is_over_limit}
use Rattle.parset.specs.SetLimits.{HasTextLimits}
use Rattle.parset.specs.declared.bodies.aside.Aside.{Aside}
use Rattle.parset.specs.declared.bodies.aside.Aside.TheVariants.{OverLimit}
use Rattle.parset.proofs.LimitLaws.{passed_is}
use Rattle.parset.proofs.MainLaws.{first_is, line_of}

-- a thing that was found passes the test
passes_by : {T : Type 0} (p : T → Bool) (x t : T) (b : Bool) → p x ≡ b → cond b (Some x) None ≡ Some t → p t ≡ true
passes_by p x t true h e = let is : x ≡ t = cc in cc
passes_by p x t false h e = absurd (cc)

passes : {T : Type 0} (p : T → Bool) (o : Option T) (t : T) → only_if p o ≡ Some t → p t ≡ true
passes p None t e = absurd (cc)
passes p (Some x) t e = passes_by p x t (p x) refl e

-- the text has no more bytes than the body
length-text : (body : List ℕ) → length (creator_text_of body) ≤ length body
unfolding creator_text_of without_end_zeros
length-text body = omega (arith, length-take {A = ℕ})

few_bytes : (body : List ℕ) → creator_reason body ≡ None → length body ≤ body_limit
unfolding creator_reason
few_bytes body e =
    let within = (line_of (is_over_limit body) OverLimit (first_reason []) e).0 in grind (arith, nat_tests)

usable_text : (body : List ℕ) (o : Option Aside) (text : List ℕ) → creator_reason body ≡ o → usable_fields o (creator_text_of body) ≡ Some text
    → length text ≤ body_limit
usable_text body (Some why) text r e = absurd (cc)
usable_text body None text r e =
    let is : creator_text_of body ≡ text = cc in
    let few = few_bytes body r in rw (← is) (omega (arith, few, length-text body))

above_none : (n : ℕ) → not (n == 0) ≡ true → 0 < n
above_none n e = grind (arith, nat_tests)

text_limit : (k : Kind) (b : KeptBody) (text : List ℕ) → usable_creator_text k b ≡ Some text → length text ≤ body_limit
text_limit kind.Creator (Whole body) text e = usable_text body (creator_reason body) text refl e
text_limit _ _ text e = absurd (cc)

text_limits : (k : Kept) (text : List ℕ) → creator_of k ≡ Some text → HasTextLimits text
text_limits k text e =
    let has_some : List ℕ → Bool = λ t. not (length t == 0) in let found = usable_creator_text k.kind k.body in
    record {
      some = above_none (length text) (passes has_some found text e);
      fits = text_limit k.kind k.body text (passed_is has_some found text e);
    }

found_text : (own : List Kept) (text : List ℕ) → first_creator_of own ≡ Some text → HasTextLimits text
found_text [] text e = absurd (cc)
found_text (k ∷ own) text e =
    ⊎_elim (λ here. text_limits k text here) (λ later. found_text own text later)
    (first_is (creator_of k) (first_creator_of own) text e)

pub text_within : (own : List Kept) (text : Option (List ℕ)) → text ≡ first_creator_of own → IfSome text HasTextLimits
text_within own None is = tt
text_within own (Some text) is = found_text own text (sym is)
