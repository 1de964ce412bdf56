-- What workers give back.
use Rattle.std.proofs.Common.{◌≡◌, ℕ, zero, suc, List, [], take, refl, sym, ap, ◌∙◌, subst}
use Rattle.rrv_model.specs.declared.record.Record.{Record}
use Rattle.std.specs.Prelude.{Some, None}
use Rattle.commit_core.specs.Runs.{IsOutput}
use Rattle.faults.specs.declared.session.SessionFault.{SessionFault}

take_none : (n : ℕ) → take {A = Record} n [] ≡ []
take_none zero = refl
take_none (suc n) = refl

pub none_put : (n : ℕ) (xs : List Record) → xs ≡ [] → IsOutput [] (take n xs)
none_put n xs none =
    subst (λ (l : List Record). IsOutput [] l) (sym (ap (λ (l : List Record). take n l) none ∙ take_none n)) ([], refl, ([], refl))

pub no_fault : {fault : SessionFault} → Some fault ≡ None → ⊥
no_fault e = cc
