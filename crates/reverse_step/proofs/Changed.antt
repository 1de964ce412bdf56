-- Changes of a byte, one way after the other.
use Rattle.std.proofs.Common.{ℕ, ◌+◌, ◌≤◌, List, Option, Some, None, Result, Ok, Err, arith}
use Rattle.std.specs.Prelude.{IfOk}
use Rattle.std.specs.Option.{option_or}
use Rattle.rrv_model.specs.declared.record.Frame.{Frame}
use Rattle.rrv_model.specs.declared.record.Opening.{Opening}
use Rattle.replayer.specs.Changes.{IsLastIn, NoneIn}
use Rattle.replayer.proofs.Changed.{none_join}
use Rattle.reverse_step.specs.Changes.{IsFirstIn}

pub some_join : (o : Opening) (frames : List Frame) (a start end place t : ℕ) → IsLastIn o frames a start end (Some t) → end ≤ place →
    NoneIn o frames a end place →
    IsLastIn o frames a 0 place (Some t)
some_join o frames a start end place t last low behind =
    (omega arith, omega (arith, last.1, low), last.2, none_join o frames a (t + 1) end place last.3 behind)

-- one way, and then another
pub last_join : (o : Opening) (frames : List Frame) (a start end place : ℕ) (before behind : Option ℕ) → start ≤ end → end ≤ place →
    IsLastIn o frames a start end before → IsLastIn o frames a end place behind → IsLastIn o frames a start place (option_or behind before)
last_join o frames a start end place None None low high h k = none_join o frames a start end place h k
last_join o frames a start end place (Some t) None low high h k =
    (h.0, omega (arith, h.1, high), h.2, none_join o frames a (t + 1) end place h.3 k)
last_join o frames a start end place before (Some t) low high h k = (omega (arith, k.0, low), k.1, k.2, k.3)

-- one way, and none on the way that follows
pub early_alone : {E : Type 0} (o : Opening) (frames : List Frame) (a start middle end : ℕ) (early : Result (Option ℕ) E) → start ≤ middle →
    middle ≤ end → IfOk early (IsLastIn o frames a start middle) → IsLastIn o frames a middle end None →
    IfOk early (IsLastIn o frames a start end)
early_alone o frames a start middle end (Ok found) low high h k = last_join o frames a start middle end found None low high h k
early_alone o frames a start middle end (Err e) low high h k = tt {0}

-- the instruction behind those of which none changes it
pub first_here : (o : Opening) (frames : List Frame) (a start at next end t : ℕ) → start ≤ at → next ≤ at + 1 → next ≤ end →
    NoneIn o frames a start at → IsLastIn o frames a at next (Some t) → IsFirstIn o frames a start end (Some t)
first_here o frames a start at next end t low one high none last = (
  omega (arith, low, last.0),
  omega (arith, high, last.1),
  last.2,
  λ u above below change. none u above (omega (arith, below, one, last.1)) change,
)

-- one way of which none does, and then one of which one does
pub first_behind : (o : Opening) (frames : List Frame) (a start from next end t : ℕ) (found : Option ℕ) → start ≤ from → next ≤ end →
    NoneIn o frames a start from → IsLastIn o frames a from next (Some t) → IsFirstIn o frames a from next found →
    IsFirstIn o frames a start end found
first_behind o frames a start from next end t None low high none last first = absurd (first t last.0 last.1 last.2)
first_behind o frames a start from next end t (Some u) low high none last first = (
  omega (arith, low, first.0),
  omega (arith, high, first.1),
  first.2,
  none_join o frames a start from u none first.3,
)
