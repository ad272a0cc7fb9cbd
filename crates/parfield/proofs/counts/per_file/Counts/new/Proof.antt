-- `new` makes the empty struct, with the counts that its clause names.
use Rattle.parfield.proofs.GhostSteps.{ℕ, w64, usize, yes, uint_vals, uint_Tells, plain, nothing, join, stay_dropped, Goes-dropped, [], ◌∷◌, refl, proved, vstruct, vnil, ftrue, ‵, raw, ◌⊛◌, ◌$◌, ◌∵◌, !, qed, done, move, keep, split, suffices, agg, enter, no_more, returns, alloc_all, pass_all, free_all, look_at, sets, owns, pure_i, alive, Stays, walk_of, says, ends_at}
use Rattle.std.specs.Prelude.{replicate}
use Rattle.parfield.specs.declared.counts.per_file.Counts.{Counts}
use Rattle.parfield.specs.contracts.counts.per_file.Counts.{the_row as R}
use Rattle.parfield.specs.contracts.counts.per_file.Counts.new as f
use Rattle.parfield.proofs.counts.per_file.Counts.new.Statement.{statement}
use Rattle.parfield.proofs.counts.per_file.Counts.new.Code as code

abbrev stayed : Stays f.ended.signature.params f.ended.kept
stayed = (stay_dropped (plain (λ _. usize)) yes, tt)

abbrev made : ℕ → Counts
made places = record { counts = replicate places 0 }

pub new_spec : {M : Type 1} → statement M
new_spec 𝓤 𝓛 𝓜 𝓡 wired =
    let c = f.clauses 𝓛 𝓜.mem 𝓡.returns in let W = walk_of 𝓛 f.ended stayed c in
    proved 𝓛 f.ended stayed c 𝓜 𝓡 (Goes-dropped 𝓛 0 (plain (λ _. usize)) yes (λ κs x w. refl), tt)
    f.Key.name code.function (code.unfolded 𝓤 𝓛.H 𝓜 𝓡 wired)
    (λ κs. (uint_vals w64, tt)) (λ κs. (uint_Tells w64, tt)) (λ κs qs bounds a _ are.
    let y : W.Ghost = ((κs, qs, bounds, a, (uint_vals w64 a.0, tt)), tt) in
    qed 𝓛 ((raw (alive 𝓛 f.signature κs qs) ⊛ ‵ (owns (usize ∷ []) a y.0.4)) ∷ ‵ ftrue ∷ []) ∵ split ! $ keep ! (0 ∷ []) $ enter ! _ _ _ _ _ $
    alloc_all ! (λ l. pass_all ! refl ((tt, record { fits = are.0.1 }), tt) $ sets ! (agg ! (no_more !)) refl (tt, tt) $
    returns ! (look_at ! 0 refl) $ free_all ! refl $
    suffices ! _ (ends_at 𝓛 f.ended stayed c y (vstruct vnil) (made a.0) (tt, tt) (tt, tt)) $ says ! refl $
    pure_i ! (R.own_val (made a.0) (vstruct vnil ∷ [])) ((λ vss. (tt, tt)), tt) ((tt, (refl, tt)), tt) $
    nothing ! $ nothing ! $ join ! $ move ! (2 ∷ 0 ∷ 1 ∷ []) $ done !))
