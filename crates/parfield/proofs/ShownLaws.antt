-- Texts that are written byte by byte: hexadecimal digits and shown names.
use Rattle.std.proofs.Common.{◌≡◌, ℕ, ◌+◌, ◌<◌, ◌∙◌, List, [], ◌∷◌, ◌++◌, length, take, get_or, ap, refl, sym, append-nil}
use Rattle.std.specs.List.{flat_map}
use Rattle.std.proofs.lemmas.Grind.{flat_map-append}
use Rattle.std.proofs.lemmas.List.{take_more}
use Rattle.hex.specs.Hex.{encode_with, encode_lower}
use Rattle.parfield.specs.Shown.{hex_digits}

-- the hexadecimal digits of a list of bytes are the digits of each byte, one after another
pub encode_lower-flat_map : (xs : List ℕ) → flat_map hex_digits xs ≡ encode_lower xs
unfolding encode_with
encode_lower-flat_map [] = refl
encode_lower-flat_map (x ∷ xs) = ap (λ (ys : List ℕ). hex_digits x ++ ys) (encode_lower-flat_map xs)

-- after one more byte is written, the text of the first i + 1 bytes is there
pub flat_map-take_more : (f : ℕ → List ℕ) (xs : List ℕ) (i : ℕ) → i < length xs
    → flat_map f (take i xs) ++ f (get_or xs i 0) ≡ flat_map f (take (i + 1) xs)
flat_map-take_more f xs i h =
    sym (ap (flat_map f) (take_more xs i 0 h) ∙ (flat_map-append f (take i xs) (get_or xs i 0 ∷ [])
    ∙ ap (λ (ys : List ℕ). flat_map f (take i xs) ++ ys) (append-nil (f (get_or xs i 0)))))

pub encode_lower-take_more : (xs : List ℕ) (i : ℕ) → i < length xs
    → encode_lower (take i xs) ++ hex_digits (get_or xs i 0) ≡ encode_lower (take (i + 1) xs)
encode_lower-take_more xs i h =
    ap (λ (ys : List ℕ). ys ++ hex_digits (get_or xs i 0)) (sym (encode_lower-flat_map (take i xs)))
    ∙ (flat_map-take_more hex_digits xs i h ∙ encode_lower-flat_map (take (i + 1) xs))
