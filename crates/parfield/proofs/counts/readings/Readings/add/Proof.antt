-- An empty body. The borrow is opened, and closed at the readings that the clause names.
use Rattle.parfield.proofs.GhostSteps.{[], ◌∷◌, refl, w32, w64, proved, id⊢, ftrue, flft, named, vunit, ‵, ◌⊛◌, ◌$◌, ◌∵◌, !, qed, done, move, keep, use1, split, join, fsplit, fsplit3, feq_i, suffices, frame, group, enter, of_opd, unit_lit, returns, alloc_all, pass_all, free_all, look_at, sets, u8, u32, u64, usize, yes, owns, uint_vals, uint_Tells, ShrSlice, shr_slice_vals, shr_slice_Tells, MutRef, mut_vals, mut_Tells, plain, nothing, opens, closes, Stays, walk_of, says, stay_dropped, Goes-dropped, stay_none_slice, Goes-none_slice, stay_ref, Goes-ref, ends_at}
use Rattle.parfield.specs.declared.counts.readings.Readings.{Readings}
use Rattle.parfield.specs.contracts.counts.readings.Readings.{the_row as R}
use Rattle.parfield.specs.contracts.counts.readings.Readings.add as f
use Rattle.parfield.proofs.counts.readings.Readings.add.Statement.{statement}
use Rattle.parfield.proofs.counts.readings.Readings.add.Code as code

abbrev stayed : Stays f.ended.signature.params f.ended.kept
stayed = (stay_ref (0 ∷ []) tt (plain (λ _. R)), (stay_dropped (plain (λ _. u32)) yes, (stay_dropped (plain (λ _. u64)) yes, (stay_dropped (plain (λ _. usize)) yes, (stay_none_slice (1 ∷ []) tt (plain (λ _. u8)) yes, tt)))))

pub add_spec : {M : Type 1} → statement M
add_spec 𝓤 𝓛 𝓜 𝓡 wired =
    let c = f.clauses 𝓛 𝓜.mem 𝓡.returns in let W = walk_of 𝓛 f.ended stayed c in
    proved 𝓛 f.ended stayed c 𝓜 𝓡 (Goes-ref 𝓛 2 0 tt (plain (λ _. R)), (Goes-dropped 𝓛 2 (plain (λ _. u32)) yes (λ κs x w. refl), (Goes-dropped 𝓛 2 (plain (λ _. u64)) yes (λ κs x w. refl), (Goes-dropped 𝓛 2 (plain (λ _. usize)) yes (λ κs x w. refl), (Goes-none_slice 𝓛 2 (1 ∷ []) tt (plain (λ _. u8)) yes, tt)))))
    f.Key.name code.function (code.unfolded 𝓤 𝓛.H 𝓜 𝓡 wired)
    (λ κs. (mut_vals, (uint_vals w32, (uint_vals w64, (uint_vals w64, (shr_slice_vals, tt)))))) (λ κs. (mut_Tells (named 0) κs.0 R, (uint_Tells w32, (uint_Tells w64, (uint_Tells w64, (shr_slice_Tells (named 1) κs.1.0 u8, tt)))))) (λ κs qs bounds a _ are.
    let b = a.0.ref_ptr.0 in let o = a.0.ref_ptr.1 in
    let part = a.1.1.1.1.0 in
    let y : W.Ghost = ((κs, qs, bounds, a, (mut_vals a.0, (uint_vals w32 a.1.0, (uint_vals w64 a.1.1.0, (uint_vals w64 a.1.1.1.0, (shr_slice_vals part, tt)))))), tt) in
    let after : Readings = record { readings = record { file = a.1.0; offset = a.1.1.0; room = a.1.1.1.0; bytes = part.now } ∷ a.0.now.readings } in
    qed 𝓛 (((‵ (flft κs.0 qs.0) ⊛ (‵ (flft κs.1.0 qs.1.0) ⊛ ‵ ftrue)) ⊛ ‵ (owns (MutRef (named 0) κs.0 R ∷ u32 ∷ u64 ∷ usize ∷ ShrSlice (named 1) κs.1.0 u8 ∷ []) a y.0.4)) ∷ ‵ ftrue ∷ []) ∵
    split ! $ split ! $ move ! (2 ∷ []) $ fsplit ! $ move ! (1 ∷ []) $ fsplit ! $ move ! (1 ∷ []) $ fsplit ! $ move ! (1 ∷ []) $ fsplit ! $ keep ! (4 ∷ 5 ∷ 1 ∷ 6 ∷ []) $
    enter ! _ _ _ _ _ $ alloc_all ! (λ l. pass_all ! refl ((tt, tt), ((tt, record { fits = are.1.0.1 }), ((tt, record { fits = are.1.1.0.1 }), ((tt, record { fits = are.1.1.1.0.1 }), ((tt, (tt, (record { fits = are.1.1.1.1.0.0.1.0 }, tt))), tt))))) $
    fsplit3 ! $ move ! (1 ∷ 2 ∷ 3 ∷ []) $ opens ! tt R b o (λ us.
    sets ! (of_opd ! (unit_lit !)) refl (tt, tt) $
    move ! (1 ∷ []) $ use1 𝓛 (‵ (R.own_val after us)) (id⊢ 𝓤 _) $ move ! (1 ∷ 0 ∷ []) $ closes ! tt R after us b o $
    returns ! (look_at ! 0 refl) $ free_all ! refl $ move ! (3 ∷ []) $
    suffices ! _ (ends_at 𝓛 f.ended stayed c y vunit tt (after, (tt, (tt, (tt, (tt, tt))))) (tt, (tt, (tt, (tt, (tt, tt)))))) $ says ! refl $
    group ! 3 $ nothing ! $ move ! (0 ∷ 3 ∷ []) $ join ! $ nothing ! $ join ! $ nothing ! $ join ! $ move ! (1 ∷ 0 ∷ []) $ join ! $ move ! (1 ∷ 2 ∷ []) $ join ! $ frame ! $ frame ! $
    feq_i ! _ (vunit ∷ []) _ refl $ done !)))
