-- What marking a store does to its log, and why it is refused.
use Rattle.std.proofs.Common.{◌≡◌, ◌⊎◌, inl, inr, ℕ, ◌+◌, ◌<◌, ◌≤◌, List, length, Bool, true, false, true≢false, ap, arith, refl, subst, sym, ◌∙◌}
use Rattle.std.proofs.lemmas.Bool.{false≢true}
use Rattle.std.specs.Prelude.{◌↔◌, IsTrue, MatchBool, not}
use Rattle.trace_disk.specs.Devices.{Device}
use Rattle.trace_log.specs.Committed.{HasMarked, WasStopped}
use Rattle.trace_log.specs.Kept.{IsPastLimit, IsWithinLimits, LogValue, mark}
use Rattle.trace_log.specs.declared.log.LogFault.{LogFault}
use Rattle.trace_log.specs.declared.log.LogFault.TheVariants as faults
use Rattle.line_io.specs.Stores.{RefusesMark}
use Rattle.line_io.specs.Told.{log_told}

-- a log that is marked, or was, holds the Mark; what it was tells which of the two
pub record IsMarked {D : Type 0} (device : Device D) (old new : LogValue D) : Type 0 where
  pub whole : new.is_broken ≡ false
  pub marked : new.marked ≡ true
  pub stored : MatchBool old.marked (new ≡ old) (HasMarked device old new)

pub is_marked : {D : Type 0} (device : Device D) (old new : LogValue D) (made : Bool) → old.is_broken ≡ false
    → made ≡ not old.marked → MatchBool made (HasMarked device old new) (new ≡ old) → IsMarked device old new
is_marked {D = D} device old new made whole made_is outcome =
    by old.marked refl (subst (λ (b : Bool). MatchBool b (HasMarked device old new) (new ≡ old)) made_is outcome)
  where
    by : (b : Bool) → old.marked ≡ b → MatchBool (not b) (HasMarked device old new) (new ≡ old) → IsMarked device old new
    by true e same = record {
      whole = ap (λ (l : LogValue D). l.is_broken) same ∙ whole;
      marked = ap (λ (l : LogValue D). l.marked) same ∙ e;
      stored = subst (λ (b : Bool). MatchBool b (new ≡ old) (HasMarked device old new)) (sym e) same;
    }
    by false e h = record {
      whole = ap (λ (l : LogValue D). l.is_broken) h.committed.log;
      marked = h.marked;
      stored = subst (λ (b : Bool). MatchBool b (new ≡ old) (HasMarked device old new)) (sym e) h;
    }

not_past : {D : Type 0} (log : LogValue D) (body : List ℕ) → IsWithinLimits log body → IsPastLimit log body → ⊥
not_past log body within past =
    let fits = within.body_fits in
    let number = within.number_fits in
    let store = within.store_fits in
    let never : IsPastLimit log body → ⊥ =
    elim [ inl long ↦ omega arith | inr (inl all) ↦ omega arith | inr (inr far) ↦ omega arith ] in
    never past

-- a log that isn't broken refuses for one of three reasons
pub mark_refused : {D : Type 0} (device : Device D) (old new : LogValue D) (fault : LogFault) → old.is_broken ≡ false → old.marked ≡ false
    → (fault ≡ faults.DeviceFailed → WasStopped device old new mark)
    → (fault ≡ faults.Broken → (old.marked ≡ false) × IsTrue old.is_broken)
    → (fault ≡ faults.TooLong ↔ ((old.marked ≡ false) × (old.is_broken ≡ false) × IsPastLimit old mark))
    → (fault ≡ faults.NotEmpty → ⊥) → RefusesMark old (log_told fault)
mark_refused device old new faults.DeviceFailed whole none stopped broken past empty =
    (none, not_past old mark (stopped refl).within_limits)
mark_refused device old new faults.Broken whole none stopped broken past empty = absurd (true≢false (sym (broken refl).1 ∙ whole))
mark_refused device old new faults.TooLong whole none stopped broken past empty = (none, (past.0 refl).2)
mark_refused device old new faults.Memory whole none stopped broken past empty =
    (none, λ full. absurd (memory_is_not_too_long (past.1 (none, whole, full))))
  where
    memory_is_not_too_long : faults.Memory ≡ faults.TooLong → ⊥
    memory_is_not_too_long e = cc
mark_refused device old new faults.NotEmpty whole none stopped broken past empty = absurd (empty refl)
