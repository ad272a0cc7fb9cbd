-- The limit of `find`: how many lines are asked for, how many of them are left, and the last line.
use Rattle.std.proofs.Common.{◌≡◌, ◌≢◌, ℕ, ◌+◌, ◌-◌, ◌<◌, List, [], ◌∷◌, ◌++◌, length, take, Option, None, Some, slice_get, get_or, zero, suc, refl, sym, ap, ◌∙◌, subst, arith, append-nil}
use Rattle.std.proofs.Math.Seq.{take-append-add}
use Rattle.std.proofs.lemmas.Option.{slice_get_past, slice_get-get_or}
use Rattle.parfind.specs.Moves.{IsBelow}
use Rattle.parfind.specs.Order.{cursor_after}
use Rattle.parfind.specs.declared.cursors.cursor.Cursor.{Cursor}
use Rattle.parfind.specs.declared.cursors.sighting.Sighting.{Sighting}
use Rattle.parreport.specs.FindText.{limited, last_line, line_after, limit_left}
use Rattle.parreport.specs.Lines.{end_line}

-- n lines were written, and the rest of the limit is left
abbrev pub CountsDown : Option ℕ → Option ℕ → ℕ → Type 0
CountsDown None None n = Unit {0}
CountsDown None (Some left) n = ⊥
CountsDown (Some limit) None n = ⊥
CountsDown (Some limit) (Some left) n = n + left ≡ limit

slice_get-front : (xs ys : List Sighting) (n : ℕ) → n < length xs → slice_get (xs ++ ys) n ≡ slice_get xs n
slice_get-front [] ys n within = absurd (omega arith)
slice_get-front (x ∷ xs) ys zero within = refl
slice_get-front (x ∷ xs) ys (suc n) within = slice_get-front xs ys n (omega arith)

-- the sightings that are written are those returned so far, and then the others up to the limit
pub limited-parts : (limit left : Option ℕ) (xs ys : List Sighting) → CountsDown limit left (length xs)
    → limited limit (xs ++ ys) ≡ xs ++ limited left ys
limited-parts None None xs ys h = refl
limited-parts None (Some left) xs ys h = absurd h
limited-parts (Some limit) None xs ys h = absurd h
limited-parts (Some limit) (Some left) xs ys h =
    subst (λ (k : ℕ). take k (xs ++ ys) ≡ xs ++ take left ys) h (take-append-add xs ys left)

pub limited-one : (left : Option ℕ) (x : Sighting) (xs : List Sighting) → left ≢ Some 0
    → limited left (x ∷ xs) ≡ x ∷ limited (limit_left left) xs
limited-one None x xs some = refl
limited-one (Some zero) x xs some = absurd (some refl)
limited-one (Some (suc n)) x xs some =
    let less : n ≡ suc n - 1 = omega arith in ap (λ (k : ℕ). x ∷ take k xs) less

pub limited-nil : (left : Option ℕ) → limited left [] ≡ []
limited-nil None = refl
limited-nil (Some zero) = refl
limited-nil (Some (suc n)) = refl

pub counted_one : (limit left : Option ℕ) (n : ℕ) → CountsDown limit left n → left ≢ Some 0 → CountsDown limit (limit_left left) (n + 1)
counted_one None None n h some = tt
counted_one None (Some left) n h some = h
counted_one (Some limit) None n h some = h
counted_one (Some limit) (Some zero) n h some = absurd (some refl)
counted_one (Some limit) (Some (suc left)) n h some = omega arith

pub below_limit : (limit left : Option ℕ) (n : ℕ) → CountsDown limit left n → left ≢ Some 0 → IsBelow n limit
below_limit None left n h some = tt
below_limit (Some limit) None n h some = absurd h
below_limit (Some limit) (Some zero) n h some = absurd (some refl)
below_limit (Some limit) (Some (suc left)) n h some = omega arith

pub counted_none : (limit : Option ℕ) → CountsDown limit limit 0
counted_none None = tt
counted_none (Some n) = omega arith

-- if no sighting is left and the limit isn't reached, the last line is `end`
pub last_line-end : (line : Cursor → List ℕ) (limit left : Option ℕ) (xs : List Sighting) → CountsDown limit left (length xs) → left ≢ Some 0
    → last_line line limit (xs ++ []) ≡ end_line
last_line-end line None left xs h some = refl
last_line-end line (Some limit) None xs h some = absurd h
last_line-end line (Some limit) (Some zero) xs h some = absurd (some refl)
last_line-end line (Some limit) (Some (suc left)) xs h some =
    rw (append-nil xs, slice_get_past xs (limit - 1) (omega arith)) refl

-- if the limit is reached, the last line has the cursor after the last sighting
pub last_line-cursor : (line : Cursor → List ℕ) (limit : Option ℕ) (xs ys : List Sighting) (now : Cursor) → CountsDown limit (Some 0) (length xs)
    → limit ≢ Some 0 → ((x : Sighting) → slice_get xs (length xs - 1) ≡ Some x → now ≡ cursor_after x)
    → last_line line limit (xs ++ ys) ≡ line now
last_line-cursor line None xs ys now h some stands = absurd h
last_line-cursor line (Some zero) xs ys now h some stands = absurd (some refl)
last_line-cursor line (Some (suc n)) [] ys now h some stands = absurd (omega (arith, h))
last_line-cursor line (Some (suc n)) (x ∷ xs) ys now h some stands =
    let within : n < length (x ∷ xs) = omega (arith, h) in
    let last : slice_get (x ∷ xs) n ≡ Some (get_or (x ∷ xs) n x) = slice_get-get_or (x ∷ xs) n x within in
    let place : length (x ∷ xs) - 1 ≡ n = omega (arith, h) in
    let less : suc n - 1 ≡ n = omega arith in
    ap (λ (k : ℕ). line_after line (slice_get (x ∷ xs ++ ys) k)) less
    ∙ ap (line_after line) (slice_get-front (x ∷ xs) ys n within ∙ last)
    ∙ ap line (sym (stands (get_or (x ∷ xs) n x) (ap (slice_get (x ∷ xs)) place ∙ last)))
