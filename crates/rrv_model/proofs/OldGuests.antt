-- Guests of version 1: no wait of one has a timeout, so that each of their records may stand before the Mark.
use Rattle.std.proofs.Common.{◌≡◌, ◌∙◌, ℕ, Bool, true, false, true≢false, List, [], ◌∷◌, ◌++◌, Option, Some, None, ap, refl, sym, subst}
use Rattle.std.specs.Prelude.{IfSome, IsSome, IsSomeAnd}
use Rattle.std.specs.List.{AllByRecursion}
use Rattle.std.proofs.lemmas.Bool.{false≢true}
use Rattle.rrv_model.specs.declared.machine.FutexWait.{FutexWait}
use Rattle.rrv_model.specs.declared.machine.Thread.{Thread}
use Rattle.rrv_model.specs.declared.machine.Timeout.{Timeout}
use Rattle.rrv_model.specs.declared.machine.Version.{Version}
use Rattle.rrv_model.specs.declared.machine.Version.TheVariants.{One}
use Rattle.rrv_model.specs.declared.record.End.{End}
use Rattle.rrv_model.specs.declared.record.End.TheVariants as ends
use Rattle.rrv_model.specs.declared.record.Item.{Item}
use Rattle.rrv_model.specs.declared.record.Item.TheVariants as items
use Rattle.rrv_model.specs.declared.record.Kind.TheVariants as kinds
use Rattle.rrv_model.specs.declared.record.Part.{Part}
use Rattle.rrv_model.specs.declared.record.Record.{Record}
use Rattle.rrv_model.specs.Ends.{end_kind, is_expiry, is_old}
use Rattle.rrv_model.specs.FrameStep.{FrameStep, FrameStepBy}
use Rattle.rrv_model.specs.Recording.{ItemsFollow, Starts, items_of, base_after, row_after}
use Rattle.rrv_model.specs.Recovered.{IsOld, AreOld, OldGuestsNeedNoMark}
use Rattle.rrv_model.specs.State.{State, thread_at, IsState, IsThread, IsTimed, IsTimeout, IsWait}
use Rattle.rrv_model.proofs.FrameStays.{version_stays}
use Rattle.rrv_model.proofs.OpeningState.{openings_are_states}
use Rattle.rrv_model.proofs.StateLaws.{frames_keep_states}

-- a wait of one has no timeout
untimed_thread : (t : Thread) → IsThread One t → IsTimed (Some t) → ⊥
untimed_thread t is timed = by t.wait is.waits timed where
  of_wait : (w : FutexWait) → IsWait One w → IsSome w.timeout → ⊥
  of_wait w h some = of_timeout w.timeout h.timeout some where
    of_timeout : (o : Option Timeout) → IfSome o (IsTimeout One) → IsSome o → ⊥
    of_timeout None g some = false≢true some
    of_timeout (Some timeout) g some = g.version

  by : (o : Option FutexWait) → IfSome o (IsWait One) → IsSomeAnd o (λ w. IsSome w.timeout) → ⊥
  by None h g = g
  by (Some w) h g = of_wait w h g

none_timed : (o : Option Thread) → IfSome o (IsThread One) → IsTimed o → ⊥
none_timed None h timed = timed
none_timed (Some t) h timed = untimed_thread t h timed

-- so no frame of one ends a wait
pub no_expiry : (end : End) (s : State) (tid count : ℕ) (s' : State) → IsState s → s.version ≡ One → FrameStepBy end s tid count s' →
    is_expiry end ≡ false
no_expiry ends.Preempt s tid count s' is one goes = refl
no_expiry (ends.Call r) s tid count s' is one goes = refl
no_expiry (ends.Fault kind) s tid count s' is one goes = refl
no_expiry ends.Stuck s tid count s' is one goes = refl
no_expiry ends.Expire s tid count s' is one goes =
    absurd (none_timed (thread_at s tid) (subst (λ (v : Version). IfSome (thread_at s tid) (IsThread v)) one (is.rules.threads.threads tid))
    goes.timed)

-- ---- its records

old_end : (end : End) → is_expiry end ≡ false → is_old (end_kind end) ≡ true
old_end ends.Preempt none = refl
old_end (ends.Call r) none = refl
old_end (ends.Fault kind) none = refl
old_end ends.Stuck none = refl
old_end ends.Expire none = absurd (true≢false none)

old_items : (base : State) (parts : List Part) (s : State) (list : List Item) → IsState s → s.version ≡ One →
    ItemsFollow base parts s list → AllByRecursion IsOld list
old_items base parts s [] is one h = tt
old_items base parts s (items.Opening o ∷ list) is one h = absurd h
old_items base parts s (items.Frame f ∷ list) is one h = (
  old_end f.end (no_expiry f.end s f.tid f.count h.0 is one h.1.goes),
  old_items base [] h.0 list (frames_keep_states s f h.0 is h.1) (version_stays s f h.0 h.1 ∙ one) h.2,
)
old_items base parts s (items.Part p ∷ list) is one h =
    (refl, old_items (base_after p.rest base s) (row_after p.rest (parts ++ p ∷ [])) s list is one h.1)

of_items : (records : List Record) → AllByRecursion IsOld (items_of records) → AreOld records
of_items [] h = tt
of_items (r ∷ records) h = (h.0, of_items records h.1)

pub old_guests_need_no_mark : OldGuestsNeedNoMark
old_guests_need_no_mark first rest o h is one =
    let starts : Starts (items.Opening o ∷ items_of rest) = subst (λ (i : Item). Starts (i ∷ items_of rest)) is h.starts in
    let version = ap (λ (s : State). s.version) starts.1.state_is ∙ one in (
      subst IsOld (sym is) (subst (λ (v : Version). is_old (kinds.Opening v) ≡ true) (sym one) refl),
      of_items rest (old_items starts.0 [] starts.0 (items_of rest) (openings_are_states o starts.0 starts.1) version starts.2),
    )
