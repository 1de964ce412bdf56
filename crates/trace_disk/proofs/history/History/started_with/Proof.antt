-- A value of no bytes, whose ghost field is set.
use Rattle.trace_disk.proofs.Steps.{List, [], ◌∷◌, refl, length, proved, ftrue, named, Val, vstruct, vnil, ‵, raw, ◌⊛◌, ◌$◌, ◌∵◌, !, qed, done, move, keep, split, suffices, enter, no_more, returns, agg, alloc_all, pass_all, free_all, look_at, sets, u8, yes, owns, pure_i, plain, types_at, slice_val, shr_slice_vals, shr_slice_Tells, alive, says, Stays, stay_none_slice, walk_of, Goes-none_slice, ends_at}
use Rattle.trace_disk.specs.Started.{started_with}
use Rattle.trace_disk.specs.declared.history.History.{History}
use Rattle.trace_disk.specs.contracts.history.History.{the_row as R}
use Rattle.trace_disk.specs.contracts.history.History.started_with as f
use Rattle.trace_disk.proofs.history.History.started_with.Statement.{statement}
use Rattle.trace_disk.proofs.history.History.started_with.Code as code

abbrev stayed : Stays f.ended.signature.params f.ended.kept
stayed = (stay_none_slice (0 ∷ []) tt (plain (λ _. u8)) yes, tt)

pub started_with_spec : {M : Type 1} → statement M
started_with_spec 𝓤 𝓛 𝓜 𝓡 wired =
    let c = f.clauses 𝓛 𝓜.mem 𝓡.returns in let W = walk_of 𝓛 f.ended stayed c in
    proved 𝓛 f.ended stayed c 𝓜 𝓡 (Goes-none_slice 𝓛 1 (0 ∷ []) tt (plain (λ _. u8)) yes, tt)
    f.Key.name code.function (code.unfolded 𝓤 𝓛.H 𝓜 𝓡 wired)
    (λ κs. (shr_slice_vals, tt)) (λ κs. (shr_slice_Tells (named 0) κs.0 u8, tt)) (λ κs qs bounds a _ are.
    let vs : List Val × Unit {0} = (slice_val a.0.ref_ptr (length a.0.now) ∷ [], tt) in
    let y : W.Ghost = ((κs, qs, bounds, a, vs), tt) in
    let h : History = record { state = started_with a.0.now } in
    qed 𝓛 ((raw (alive 𝓛 f.signature κs qs) ⊛ ‵ (owns (types_at f.signature.params κs) a vs)) ∷ ‵ ftrue ∷ []) ∵
    split ! $ keep ! (0 ∷ 1 ∷ []) $
    enter ! _ _ _ _ _ $ alloc_all ! (λ l. pass_all ! refl ((tt, (tt, (record { fits = are.0.0.1.0 }, tt))), tt) $
    sets ! (agg ! (no_more !)) refl (tt, tt) $
    returns ! (look_at ! 0 refl) $ free_all ! refl $
    suffices ! _ (ends_at 𝓛 f.ended stayed c y (vstruct vnil) h (tt, tt) (tt, tt)) $ says ! refl $
    pure_i ! (R.own_val h (vstruct vnil ∷ [])) ((λ vss. (tt, tt)), tt) ((tt, (refl, tt)), tt) $
    move ! (1 ∷ 2 ∷ 0 ∷ []) $ done !))
