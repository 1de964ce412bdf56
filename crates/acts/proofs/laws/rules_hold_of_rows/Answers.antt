use Rattle.std.proofs.Common.{◌≡◌, ℕ, ◌%◌, Bool, true, false, not, cond, ◌&&◌, ◌==◌, nat_le, List, [], ◌∷◌, ◌++◌, refl, sym, ap}
use Rattle.std.proofs.lemmas.Bool.{false≢true}
use Rattle.rrv_model.specs.declared.limits.TheConstants.{MAX_TRANSFER}
use Rattle.rrv_model.specs.Memory.{page_bytes, writable}
use Rattle.order.specs.declared.act.Deed.{Deed}
use Rattle.order.specs.declared.act.Deed.TheVariants.{Leaves}
use Rattle.acts.proofs.laws.rules_hold_of_rows.Goals as goal

not_taken : (b : Bool) (xs ys : List Deed) → b ≡ false → cond b xs ys ≡ ys
not_taken true xs ys e = absurd (false≢true (sym e))
not_taken false xs ys e = refl

pub returns-clause-fences : goal.returns-clause-fences
returns-clause-fences c = (
  λ h. refl,
  λ h. refl,
  λ h. refl,
  λ h. refl,
  λ h. refl,
  λ h. refl,
  λ h. refl,
  λ h. refl,
  λ h. refl,
  λ h. refl,
  λ h. refl,
)

pub returns-clause-failed_stores : goal.returns-clause-failed_stores
returns-clause-failed_stores c = λ w rd rs1 rs2 ordering h e. not_taken _ _ [] e

pub returns-clause-swaps : goal.returns-clause-swaps
returns-clause-swaps c = λ w rs1 rs2 ordering h. (refl, refl, refl)

pub returns-clause-refused_calls : goal.returns-clause-refused_calls
returns-clause-refused_calls c = λ s t r. (
  λ e. not_taken _ _ [] (ap (λ (n : ℕ). nat_le 1 n && nat_le n MAX_TRANSFER) e),
  λ e. not_taken _ _ [] (ap (λ (n : ℕ). n % page_bytes == 0) e),
  λ e. not_taken _ _ [] (ap (λ (n : ℕ). n == 0) e),
  λ e. not_taken _ _ [] e,
)

pub returns-clause-exits : goal.returns-clause-exits
returns-clause-exits c = λ s t r e.
    ap (λ (xs : List Deed). xs ++ Leaves ∷ [])
    (not_taken _ _ [] (ap (λ (n : ℕ). not (n == 0) && (n % 4 == 0 && writable s.memory n 4)) e))

pub returns-clause-faults : goal.returns-clause-faults
returns-clause-faults c = λ kind s t done d. d
