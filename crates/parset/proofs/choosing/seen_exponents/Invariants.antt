use Rattle.std.proofs.Common.{◌≡◌, ℕ, ◌+◌, ◌<◌, false, get_or, map, take, vec_len}
use Rattle.std.specs.List.{list_any}
use Rattle.parset.specs.Choosing.{has_exponent}
use Rattle.parset.specs.Limits.{exponent_limit}
use Rattle.parset.proofs.choosing.seen_exponents.Given as goal

-- the flags are set of the exponents that the packets before this one have
abbrev pub invariant-loop-kept : goal.invariant-loop-kept
invariant-loop-kept l = record {
  all : vec_len l.seen ≡ exponent_limit + 1;
  each : (e : ℕ) → e < exponent_limit + 1 → get_or l.seen.items e false ≡ list_any (has_exponent l.size e) (map (λ k. k.now) (take l.kept-index l.own));
}
