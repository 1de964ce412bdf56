-- One thread of a state: the tids, a thread that is put there, and one that is changed there.
use Rattle.std.proofs.Common.{◌≡◌, ℕ, cond, Option, Some, None, refl, sym, ◌∙◌, ap, subst}
use Rattle.std.specs.Ordering.{nat_cmp}
use Rattle.std.specs.Cmp.{nat_cmp_total}
use Rattle.std.specs.FinMap.{FinMap, get, insert, get-insert}
use Rattle.rrv_model.specs.declared.machine.Thread.{Thread}
use Rattle.rrv_model.specs.State.{State, thread_at, with_thread, IsRunning}
use Rattle.rrv_model.specs.CallRows.{change_thread}
use Rattle.rrv_model.proofs.ThreadRules.{tied}

pub get-insert_same : (m : FinMap nat_cmp Thread) (k : ℕ) (v : Thread) → get (insert m k v) k ≡ Some v
get-insert_same m k v = get-insert nat_cmp_total m k v k ∙ ap (λ b. cond b (Some v) (get m k)) (tied k)

-- the thread there is changed
pub changed_there : (tid : ℕ) (change : Thread → Thread) (s : State) (t : Thread) → thread_at s tid ≡ Some t →
    change_thread tid change s ≡ with_thread tid (change t) s
changed_there tid change s t there = rw there refl

-- the thread there runs
pub running_there : (o : Option Thread) (t : Thread) → o ≡ Some t → t.wait ≡ None → IsRunning o
running_there o t there runs = subst (λ (o : Option Thread). IsRunning o) (sym there) runs
