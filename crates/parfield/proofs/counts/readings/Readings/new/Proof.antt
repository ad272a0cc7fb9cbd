-- `new` makes the empty struct, with the bytes that its clause names.
use Rattle.parfield.proofs.GhostSteps.{[], ◌∷◌, refl, proved, vstruct, vnil, ftrue, ‵, raw, ◌⊛◌, ◌$◌, ◌∵◌, !, qed, done, move, keep, split, suffices, agg, enter, no_more, returns, alloc_all, pass_all, free_all, look_at, sets, owns, pure_i, alive, Stays, walk_of, says, ends_at}
use Rattle.parfield.specs.declared.counts.readings.Readings.{Readings}
use Rattle.parfield.specs.contracts.counts.readings.Readings.{the_row as R}
use Rattle.parfield.specs.contracts.counts.readings.Readings.new as f
use Rattle.parfield.proofs.counts.readings.Readings.new.Statement.{statement}
use Rattle.parfield.proofs.counts.readings.Readings.new.Code as code

abbrev stayed : Stays f.ended.signature.params f.ended.kept
stayed = tt

abbrev made : Readings
made = record { readings = [] }

pub new_spec : {M : Type 1} → statement M
new_spec 𝓤 𝓛 𝓜 𝓡 wired =
    let c = f.clauses 𝓛 𝓜.mem 𝓡.returns in let W = walk_of 𝓛 f.ended stayed c in
    proved 𝓛 f.ended stayed c 𝓜 𝓡 tt f.Key.name code.function (code.unfolded 𝓤 𝓛.H 𝓜 𝓡 wired)
    (λ κs. tt) (λ κs. tt) (λ κs qs bounds a _ are.
    let y : W.Ghost = ((κs, qs, bounds, a, tt), tt) in
    qed 𝓛 ((raw (alive 𝓛 f.signature κs qs) ⊛ ‵ (owns [] tt tt)) ∷ ‵ ftrue ∷ []) ∵ split ! $ keep ! (0 ∷ 1 ∷ []) $ enter ! _ _ _ _ _ $
    alloc_all ! (λ l. pass_all ! refl tt $ sets ! (agg ! (no_more !)) refl (tt, tt) $
    returns ! (look_at ! 0 refl) $ free_all ! refl $
    suffices ! _ (ends_at 𝓛 f.ended stayed c y (vstruct vnil) made tt tt) $ says ! refl $
    pure_i ! (R.own_val made (vstruct vnil ∷ [])) ((λ vss. (tt, tt)), tt) ((tt, (refl, tt)), tt) $
    move ! (1 ∷ 2 ∷ 0 ∷ []) $ done !))
