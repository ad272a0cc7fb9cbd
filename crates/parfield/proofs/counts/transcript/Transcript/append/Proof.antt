-- An empty body. The borrow is opened, and closed with the bytes that the clause names.
use Rattle.parfield.proofs.GhostSteps.{◌++◌, [], ◌∷◌, refl, proved, id⊢, ftrue, flft, named, vunit, ‵, ◌⊛◌, ◌$◌, ◌∵◌, !, qed, done, move, keep, use1, split, join, fsplit, fsplit3, feq_i, suffices, frame, group, enter, of_opd, unit_lit, returns, alloc_all, pass_all, free_all, look_at, sets, u8, yes, owns, ShrSlice, shr_slice_vals, shr_slice_Tells, MutRef, mut_vals, mut_Tells, plain, opens, closes, Stays, walk_of, says, stay_none_slice, Goes-none_slice, stay_ref, Goes-ref, ends_at}
use Rattle.parfield.specs.declared.counts.transcript.Transcript.{Transcript}
use Rattle.parfield.specs.contracts.counts.transcript.Transcript.{the_row as R}
use Rattle.parfield.specs.contracts.counts.transcript.Transcript.append as f
use Rattle.parfield.proofs.counts.transcript.Transcript.append.Statement.{statement}
use Rattle.parfield.proofs.counts.transcript.Transcript.append.Code as code

abbrev stayed : Stays f.ended.signature.params f.ended.kept
stayed = (stay_ref (0 ∷ []) tt (plain (λ _. R)), (stay_none_slice (1 ∷ []) tt (plain (λ _. u8)) yes, tt))

pub append_spec : {M : Type 1} → statement M
append_spec 𝓤 𝓛 𝓜 𝓡 wired =
    let c = f.clauses 𝓛 𝓜.mem 𝓡.returns in let W = walk_of 𝓛 f.ended stayed c in
    proved 𝓛 f.ended stayed c 𝓜 𝓡 (Goes-ref 𝓛 2 0 tt (plain (λ _. R)), (Goes-none_slice 𝓛 2 (1 ∷ []) tt (plain (λ _. u8)) yes, tt))
    f.Key.name code.function (code.unfolded 𝓤 𝓛.H 𝓜 𝓡 wired)
    (λ κs. (mut_vals, (shr_slice_vals, tt))) (λ κs. (mut_Tells (named 0) κs.0 R, (shr_slice_Tells (named 1) κs.1.0 u8, tt))) (λ κs qs bounds a _ are.
    let b = a.0.ref_ptr.0 in let o = a.0.ref_ptr.1 in
    let y : W.Ghost = ((κs, qs, bounds, a, (mut_vals a.0, (shr_slice_vals a.1.0, tt))), tt) in
    let after : Transcript = record { bytes = a.0.now.bytes ++ a.1.0.now } in
    qed 𝓛 (((‵ (flft κs.0 qs.0) ⊛ (‵ (flft κs.1.0 qs.1.0) ⊛ ‵ ftrue)) ⊛ ‵ (owns (MutRef (named 0) κs.0 R ∷ ShrSlice (named 1) κs.1.0 u8 ∷ []) a y.0.4)) ∷ ‵ ftrue ∷ []) ∵
    split ! $ split ! $ move ! (2 ∷ []) $ fsplit ! $ keep ! (0 ∷ 2 ∷ 1 ∷ 3 ∷ []) $
    enter ! _ _ _ _ _ $ alloc_all ! (λ l. pass_all ! refl ((tt, tt), ((tt, (tt, (record { fits = are.1.0.0.1.0 }, tt))), tt)) $
    fsplit3 ! $ move ! (1 ∷ 2 ∷ 3 ∷ []) $ opens ! tt R b o (λ us.
    sets ! (of_opd ! (unit_lit !)) refl (tt, tt) $
    move ! (1 ∷ []) $ use1 𝓛 (‵ (R.own_val after us)) (id⊢ 𝓤 _) $ move ! (1 ∷ 0 ∷ []) $ closes ! tt R after us b o $
    returns ! (look_at ! 0 refl) $ free_all ! refl $ move ! (3 ∷ []) $
    suffices ! _ (ends_at 𝓛 f.ended stayed c y vunit tt (after, (tt, tt)) (tt, (tt, tt))) $ says ! refl $
    group ! 3 $ move ! (0 ∷ 2 ∷ []) $ join ! $ move ! (1 ∷ 2 ∷ []) $ join ! $ frame ! $ frame ! $
    feq_i ! _ (vunit ∷ []) _ refl $ done !)))
