-- The limits that the parts of a recovery set satisfy.
use Rattle.std.specs.Prelude.{ℕ, List, length, ◌≡◌, ◌<◌, ◌≤◌, ◌+◌, ◌%◌, false}
use Rattle.std.specs.List.{All}
use Rattle.parsalvage.specs.Kept.{body_limit}
use Rattle.parset.specs.Limits.{slice_size_limit, file_limit, name_limit}
use Rattle.parset.specs.Limits.{file_length_limit}
use Rattle.parset.specs.Reasons.{has_repeat}
use Rattle.parset.specs.declared.bodies.main_packet.Main.{Main}

-- the slice size and the number of files of a usable Main packet are within the limits
pub record IsWithinLimits (main : Main) : Type 0 where
  pub least : 4 ≤ main.size
  pub greatest : main.size ≤ slice_size_limit
  pub multiple : main.size % 4 ≡ 0
  pub few : length main.recovery + length main.others ≤ file_limit
  -- no file is listed twice
  pub once : has_repeat main.recovery ≡ false

-- a file is below the length limit, and its name has 1 to 4,096 bytes, none of them 0
pub record HasFileLimits (len : ℕ) (name : List ℕ) : Type 0 where
  pub short : len < file_length_limit
  pub named : 0 < length name
  pub name_fits : length name ≤ name_limit
  pub no_zero : All (λ b. 0 < b) name

-- a text is not empty, and has no more bytes than a body that is kept whole may have
pub record HasTextLimits (text : List ℕ) : Type 0 where
  pub some : 0 < length text
  pub fits : length text ≤ body_limit
