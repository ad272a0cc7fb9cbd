use Rattle.std.proofs.Common.{◌≡◌, ◌<◌, ℕ, None, length, slice_index_or}
use Rattle.parfind.proofs.tracks.digests.Digests.forget.Given as goal

abbrev pub invariant-loop-k : goal.invariant-loop-k
invariant-loop-k l = record {
  room : length l.self.kept.items ≡ length l.fn.self.kept.items;
  none : (j : ℕ) → j < l.k → slice_index_or l.self.kept.items j None ≡ None;
}
