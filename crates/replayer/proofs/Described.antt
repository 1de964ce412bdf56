-- Parts describe one state at most.
use Rattle.std.proofs.Common.{◌≡◌, ◌≢◌, ◌<◌, refl, List, [], ◌∷◌, Some, sym, ◌∙◌, ap, subst, arith}
use Rattle.rrv_model.specs.declared.record.CheckpointRest.{CheckpointRest}
use Rattle.rrv_model.specs.declared.record.Part.{Part}
use Rattle.rrv_model.specs.State.{State}
use Rattle.rrv_model.specs.declared.limits.TheConstants.{MAX_PAGES}
use Rattle.rrv_model.specs.Memory.{page_count}
use Rattle.rrv_model.specs.Checkpoint.{Describes, DescribesWithoutLimit, EndsWithRest, all_pages, described_state}
use Rattle.std.specs.Prelude.{Result, IfErr, IsErrOf}
use Rattle.checkpoint.specs.declared.fault.ApplyFault.{ApplyFault}
use Rattle.checkpoint.specs.declared.fault.ApplyFault.TheVariants as faults
use Rattle.checkpoint.specs.Applies.{RefusesApply}

some_one : (r r' : CheckpointRest) → Some r ≡ Some r' → r ≡ r'
some_one r r' h = cc

one_rest : (parts : List Part) (r r' : CheckpointRest) → EndsWithRest parts r → EndsWithRest parts r' → r ≡ r'
one_rest [] r r' h k = absurd h
one_rest (p ∷ []) r r' h k = some_one r r' (sym h ∙ k)
one_rest (p ∷ q ∷ parts) r r' h k = one_rest (q ∷ parts) r r' h.1 k.1

without_limit : (base s s' : State) (parts : List Part) → DescribesWithoutLimit base parts s → DescribesWithoutLimit base parts s' → s ≡ s'
without_limit base s s' parts h k =
    h.state_is ∙ ap (λ r. described_state base (all_pages parts) r) (one_rest parts h.rest k.rest h.flagged k.flagged) ∙ sym k.state_is

pub one_described : (base s s' : State) (parts : List Part) → Describes base parts s → Describes base parts s' → s ≡ s'
one_described base s s' parts h k = without_limit base s s' parts h.describes k.describes

-- parts that are refused, but not for want of memory, describe no state
pub none_described : (base s : State) (parts : List Part) (e : ApplyFault) → e ≢ faults.Memory → RefusesApply base parts e →
    Describes base parts s → ⊥
none_described base s parts faults.BadPart other refuses h = refuses s h.describes
none_described base s parts faults.TooManyPages other refuses h =
    let same : refuses.0 ≡ s = without_limit base refuses.0 s parts refuses.1 h.describes in
    let limit = h.limit in
    let many = subst (λ (m : State). MAX_PAGES < page_count m.memory) same refuses.2 in
    omega (arith, limit, many)
none_described base s parts faults.Memory other refuses h = absurd (other refl)

pub err_of : {T : Type 0} → (r : Result T ApplyFault) (P : ApplyFault → Type 0) (e : ApplyFault) → IfErr r P → IsErrOf r e → P e
err_of {T = T} r P e h is = subst (λ (q : Result T ApplyFault). IfErr q P) is h
