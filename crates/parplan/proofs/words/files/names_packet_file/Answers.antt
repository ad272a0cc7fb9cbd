use Rattle.std.proofs.Common.{◌≡◌, length, ◌-◌, take, drop, map, List, ℕ, codes, Bool}
use Rattle.std.specs.Bool.{Decides}
use Rattle.std.specs.Char.{to_ascii_lowercase}
use Rattle.std.proofs.lemmas.Bool.Decides.{same_from_decides}
use Rattle.std.proofs.lemmas.List.{take_rest}
use Rattle.std.proofs.lemmas.Slice.Eq.{bytes_eq-Decides}
use Rattle.parplan.specs.FileWords.{is_packet_file}
use Rattle.parplan.proofs.words.files.names_packet_file.Goals as goal

ends : (name : List ℕ) (b : Bool) (n : ℕ) → n ≡ length name - 5
    → Decides b (map to_ascii_lowercase (take (length name - n) (drop n name)) ≡ codes ".par2") → b ≡ is_packet_file name
unfolding is_packet_file
ends name b n is h = same_from_decides b _ (rw (take_rest, is) at h) (bytes_eq-Decides _ _)

pub returns : goal.returns
returns c = ends c.args.word.now _ _ c.saturating_sub.ensures c.eq_ignore_ascii_case.ensures.test
