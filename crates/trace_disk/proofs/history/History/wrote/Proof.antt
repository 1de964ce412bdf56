-- An empty body: the borrow is opened, and closed at another ghost value.
use Rattle.trace_disk.proofs.Steps.{List, [], ◌∷◌, refl, length, proved, id⊢, ftrue, flft, named, w64, Val, vunit, vptr, ‵, ◌⊛◌, ◌$◌, ◌∵◌, !, qed, done, move, keep, drop, use1, split, join, fsplit, fsplit3, fjoin, fjoin3, feq_i, suffices, frame, enter, of_opd, unit_lit, returns, alloc_all, pass_all, free_all, look_at, sets, u8, usize, yes, uint_vals, uint_Tells, owns, MutRef, mut_vals, mut_Tells, plain, ShrSlice, slice_val, shr_slice_vals, shr_slice_Tells, nothing, opens, closes, says, Stays, stay_ref, stay_dropped, stay_none_slice, walk_of, Goes-ref, Goes-dropped, Goes-none_slice, ends_at}
use Rattle.store_model.specs.DiskCalls.{after_write}
use Rattle.trace_disk.specs.declared.history.History.{History}
use Rattle.trace_disk.specs.contracts.history.History.{the_row as R}
use Rattle.trace_disk.specs.contracts.history.History.wrote as f
use Rattle.trace_disk.proofs.history.History.wrote.Statement.{statement}
use Rattle.trace_disk.proofs.history.History.wrote.Code as code

abbrev stayed : Stays f.ended.signature.params f.ended.kept
stayed = (stay_ref (0 ∷ []) tt (plain (λ _. R)), (stay_dropped _ yes, (stay_none_slice (1 ∷ []) tt (plain (λ _. u8)) yes, tt)))

pub wrote_spec : {M : Type 1} → statement M
wrote_spec 𝓤 𝓛 𝓜 𝓡 wired =
    let c = f.clauses 𝓛 𝓜.mem 𝓡.returns in let W = walk_of 𝓛 f.ended stayed c in
    proved 𝓛 f.ended stayed c 𝓜 𝓡 (
      Goes-ref 𝓛 2 0 tt (plain (λ _. R)),
      (Goes-dropped 𝓛 2 (plain (λ _. usize)) yes (λ κs x w. refl), (Goes-none_slice 𝓛 2 (1 ∷ []) tt (plain (λ _. u8)) yes, tt)),
    )
    f.Key.name code.function (code.unfolded 𝓤 𝓛.H 𝓜 𝓡 wired)
    (λ κs. (mut_vals, (uint_vals w64, (shr_slice_vals, tt))))
    (λ κs. (mut_Tells (named 0) κs.0 R, (uint_Tells w64, (shr_slice_Tells (named 1) κs.1.0 u8, tt)))) (λ κs qs bounds a _ are.
    let b = a.0.ref_ptr.0 in let o = a.0.ref_ptr.1 in let h = a.0.now in let s = a.1.1.0 in
    let vs : List Val × (List Val × (List Val × Unit {0})) =
    (mut_vals a.0, (uint_vals w64 a.1.0, (slice_val s.ref_ptr (length s.now) ∷ [], tt))) in
    let h' : History = record { state = after_write h.state a.1.0 s.now } in
    let y : W.Ghost = ((κs, qs, bounds, a, vs), tt) in
    qed 𝓛 (((‵ (flft κs.0 qs.0) ⊛ (‵ (flft κs.1.0 qs.1.0) ⊛ ‵ ftrue)) ⊛ ‵
    (owns (MutRef (named 0) κs.0 R ∷ usize ∷ ShrSlice (named 1) κs.1.0 u8 ∷ []) a vs)) ∷ ‵ ftrue ∷ []) ∵
    split ! $ split ! $ move ! (2 ∷ []) $ fsplit ! $ fsplit3 ! $ drop ! $ move ! (2 ∷ []) $ fsplit ! $ drop ! $
    -- [the slice; two parts of the borrow; its token; the slice's token]
    keep ! (1 ∷ 2 ∷ 3 ∷ 0 ∷ 4 ∷ []) $
    enter ! _ _ _ _ _ $ alloc_all !
    (λ l. pass_all ! refl ((tt, tt), ((tt, record { fits = are.1.0.1 }), ((tt, (tt, (record { fits = are.1.1.0.0.1.0 }, tt))), tt))) $
    opens ! tt R {h = h} b o (λ us.
    sets ! (of_opd ! (unit_lit !)) refl (tt, tt) $
    move ! (1 ∷ []) $ use1 𝓛 (‵ (R.own_val h' us)) (id⊢ 𝓤 _) $ move ! (1 ∷ 0 ∷ []) $ closes ! tt R h' us b o $
    returns ! (look_at ! 0 refl) $ free_all ! refl $
    -- [two parts of the borrow; its token; the slice; the slice's token]
    suffices ! _ (ends_at 𝓛 f.ended stayed c y vunit tt (h', (tt, (tt, tt))) (tt, (tt, (tt, tt)))) $ says ! refl $
    move ! (2 ∷ 4 ∷ []) $ join ! $ frame ! $
    feq_i ! (List Val) (vptr b o ∷ []) (vptr b o ∷ []) refl $ fjoin3 ! $
    nothing ! $ move ! (0 ∷ 2 ∷ []) $ fjoin ! $ move ! (1 ∷ 0 ∷ []) $ fjoin ! $
    feq_i ! (List Val) (vunit ∷ []) (vunit ∷ []) refl $ move ! (1 ∷ 0 ∷ []) $ done !)))
