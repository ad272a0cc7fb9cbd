-- Hashes and IDs of sixteen bytes: how they are read, and their order.
use Rattle.std.specs.Prelude.{ℕ, List, Option, Some, None, Result, Ok, Err}
use Rattle.hex.specs.Hex.{decode_sized}
use Rattle.hex.specs.declared.error.FromHexError.{FromHexError}
use Rattle.parfield.specs.declared.hash16.Hash16.{Hash16}

-- the hash of the bytes that were decoded from a text, or None if the text couldn't be decoded
abbrev pub decoded_hash_of : Result (List ℕ) FromHexError → Option Hash16
decoded_hash_of (Ok bytes) = Some (record { 0 = bytes })
decoded_hash_of (Err fault) = None

-- the hash that 32 hexadecimal digits of either case spell, or None for any other text
abbrev pub hex_hash_of : List ℕ → Option Hash16
hex_hash_of text = decoded_hash_of (decode_sized text 16)
