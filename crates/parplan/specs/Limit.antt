-- The limit of `--limit N`, as a text.
use Rattle.std.specs.Prelude.{ℕ, ◌^◌, ◌&&◌, Bool, List, Option, Some, None, if◌then◌else◌, nat_lt}
use Rattle.std.specs.Fmt.{decimal}
use Rattle.std.specs.Str.{bytes_eq}
use Rattle.std.specs.Str.Parse.{digits_value}

-- the text is this number in canonical decimal, and the number is from 1 to 2^64 - 1
abbrev pub writes_limit : List ℕ → ℕ → Bool
writes_limit text n = bytes_eq (decimal n) text && (nat_lt 0 n && nat_lt n (2 ^ 64))

-- the limit that a text names, or None if it isn't one
unfoldable pub limit_of : List ℕ → Option ℕ
limit_of text =
    if writes_limit text (digits_value 10 text) then Some (digits_value 10 text) else None
