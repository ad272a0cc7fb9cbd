-- Texts that are limits in canonical decimal: they begin with a digit from 1 to 9,
-- and they can be parsed.
use Rattle.std.proofs.Common.{◌≡◌, ◌<◌, ◌≤◌, ◌^◌, ◌∙◌, ℕ, zero, suc, Bool, true, false, List, [], ◌∷◌, Option, Some, None, Result, Ok, Err, IfSome, length, get_or, if◌then◌else◌, arith, refl, ap, sym, subst}
use Rattle.std.specs.Bool.{Decides}
use Rattle.std.specs.Fmt.{decimal}
use Rattle.std.specs.Int.{IsInRange}
use Rattle.std.specs.Result.{OkIff, result_ok}
use Rattle.std.specs.Str.Parse.{AllDigits, IsNumeral, ParsesUnsigned, digits_value}
use Rattle.std.proofs.lemmas.Bool.Decides.{Decides-and, Decides-ltb}
use Rattle.std.proofs.lemmas.Fmt.{decimal-digits_value, decimal_digit, decimal_is_IsNumeral, decimal_nonempty, first_decimal}
use Rattle.std.proofs.lemmas.Slice.Eq.{bytes_eq-Decides}
use Rattle.std.proofs.lemmas.Str.Parse.{IsNumeralModel, digit_at, numerals_by_value, parse_plain, tells_digits}
use Rattle.parplan.specs.Limit.{limit_of, writes_limit}

own : IsNumeralModel (AllDigits 10) (digits_value 10)
own = numerals_by_value _ tells_digits

not_true : (b : Bool) → (b ≡ true → ⊥) → b ≡ false
not_true true h = absurd (h refl)
not_true false h = refl

writes_limit-Decides : (text : List ℕ) (n : ℕ) → Decides (writes_limit text n) ((decimal n ≡ text) × ((0 < n) × (n < 2 ^ 64)))
writes_limit-Decides text n = Decides-and _ _ (bytes_eq-Decides (decimal n) text) (Decides-and _ _ (Decides-ltb 0 n) (Decides-ltb n (2 ^ 64)))

-- a text that is a limit begins with a digit from 1 to 9
first_in_range : (text : List ℕ) (n : ℕ) → decimal n ≡ text → 0 < n → n < 2 ^ 64 → IsInRange 49 57 (get_or text 0 0)
first_in_range text n e positive small =
    let above : 48 < get_or (decimal n) 0 0 = first_decimal n positive small in
    let digit : IsInRange 48 57 (get_or (decimal n) 0 0) = digit_at (decimal n) 0 (decimal_is_IsNumeral n small).0.1 (decimal_nonempty n small) in
    let P : List ℕ → Type 0 = λ t. IsInRange 49 57 (get_or t 0 0) in
    subst P e (omega arith, digit.1)

above_zero : (text : List ℕ) (n : ℕ) → decimal n ≡ text → 49 ≤ get_or text 0 0 → 0 < n
above_zero text zero e first =
    let same : text ≡ 48 ∷ [] = sym e ∙ decimal_digit 0 (omega arith) in
    let is : get_or text 0 0 ≡ 48 = rw same refl in
    absurd (omega arith)
above_zero text (suc n) e first = omega arith

pub none-limit_of : (text : List ℕ) → (IsInRange 49 57 (get_or text 0 0) → ⊥) → None ≡ limit_of text
unfolding limit_of
none-limit_of text h =
    let no_limit : writes_limit text (digits_value 10 text) ≡ false = not_true _ (λ e.
    let is : (decimal (digits_value 10 text) ≡ text) × ((0 < digits_value 10 text) × (digits_value 10 text < 2 ^ 64)) = (writes_limit-Decides text (digits_value 10 text)).0 e in
    h (first_in_range text (digits_value 10 text) is.0 is.1.0 is.1.1)) in
    rw no_limit refl

by_value : {E : Type 0} (text : List ℕ) (r : Result ℕ E) → 49 ≤ get_or text 0 0
    → OkIff r (AllDigits 10 text × (0 < length text) × (digits_value 10 text < 2 ^ 64)) (digits_value 10 text) → result_ok r ≡ limit_of text
unfolding limit_of
by_value text (Ok n) first h =
    let whole : decimal (digits_value 10 text) ≡ text = decimal-digits_value own text h.0.0 h.0.1 (λ e. absurd (omega arith)) h.0.2 in
    let limit : writes_limit text (digits_value 10 text) ≡ true = (writes_limit-Decides text (digits_value 10 text)).1
    (whole, (above_zero text (digits_value 10 text) whole first, h.0.2)) in
    ap Some h.1 ∙ rw limit refl
by_value text (Err fault) first h =
    let no_limit : writes_limit text (digits_value 10 text) ≡ false = not_true _ (λ e.
    let is : (decimal (digits_value 10 text) ≡ text) × ((0 < digits_value 10 text) × (digits_value 10 text < 2 ^ 64)) = (writes_limit-Decides text (digits_value 10 text)).0 e in
    let numeral : IsNumeral 10 text = subst (IsNumeral 10) is.0 (decimal_is_IsNumeral (digits_value 10 text) is.1.1).0 in
    h (numeral.1, numeral.0, is.1.1)) in
    rw no_limit refl

-- if a text begins with a digit from 1 to 9, `parse` reads a number from it exactly if the text
-- names a limit, which is that number
pub parsed-limit_of : {E : Type 0} (text : List ℕ) (r : Result ℕ E) → ParsesUnsigned 64 10 text r → IsInRange 49 57 (get_or text 0 0)
    → result_ok r ≡ limit_of text
parsed-limit_of text r h first = by_value text r first.0 (parse_plain own 64 text r h (λ e. omega arith))

if_some : (b : Bool) (n : ℕ) → (b ≡ true → 0 < n) → IfSome (if b then Some n else None) (λ limit. 0 < limit)
if_some true n h = h refl
if_some false n h = tt

-- no text is the limit 0
pub limit_of-positive : (text : List ℕ) (o : Option ℕ) → o ≡ limit_of text → IfSome o (λ limit. 0 < limit)
unfolding limit_of
limit_of-positive text o e =
    let P : Option ℕ → Type 0 = λ o. IfSome o (λ limit. 0 < limit) in
    subst P (sym e) (if_some _ _ (λ h. ((writes_limit-Decides text (digits_value 10 text)).0 h).1.0))
