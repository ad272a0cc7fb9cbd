-- Names and texts as they are shown: one line of ASCII, whatever the bytes are.
use Rattle.std.specs.Prelude.{ℕ, ◌==◌, ◌/◌, ◌%◌, ◌&&◌, List, [], ◌∷◌, if◌then◌else◌, nat_le, slice_index}
use Rattle.std.specs.List.{flat_map}
use Rattle.hex.specs.Hex.{lower_digits}

-- a byte as two hexadecimal digits in lower case, the high four bits first
abbrev pub hex_digits : ℕ → List ℕ
hex_digits byte = slice_index lower_digits (byte / 16) ∷ slice_index lower_digits (byte % 16) ∷ []

-- a byte as it is shown: `\` (92) twice, bytes 32 to 126 as they are, all others as `\x`
-- (92, 120) and two digits
abbrev pub shown_byte : ℕ → List ℕ
shown_byte byte =
    if byte == 92 then 92 ∷ 92 ∷ []
    else if nat_le 32 byte && nat_le byte 126 then byte ∷ []
    else 92 ∷ 120 ∷ hex_digits byte

-- bytes as they are shown, one after another
abbrev pub shown : List ℕ → List ℕ
shown = flat_map shown_byte
