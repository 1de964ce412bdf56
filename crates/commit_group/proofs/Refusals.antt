-- Turns that were refused, and wrote nothing, are what the flusher of a world does.
use Rattle.std.proofs.Common.{◌≡◌, ℕ, List, [], ◌∷◌, ◌++◌, length, take, refl, sym, ap, ◌∙◌, subst, arith, append_assoc, inl, inr, ⊎_elim}
use Rattle.std.specs.Prelude.{Option, Contains}
use Rattle.rrv_model.specs.declared.record.Record.{Record}
use Rattle.store_model.specs.CrashModel.{DiskState}
use Rattle.rrv_model.specs.Recovered.{body_text, mark, AreOld}
use Rattle.trace_disk.specs.Devices.{Device}
use Rattle.trace_log.specs.Kept.{LogValue, IsPastLimit}
use Rattle.commit_core.specs.World.{World, store_text, stored_bodies}
use Rattle.commit_core.specs.World.Stage.{Idle}
use Rattle.commit_core.specs.Events.{after, gate_place, CanWrite}
use Rattle.commit_core.specs.Events.Event.{Halt}
use Rattle.commit_core.specs.Holders.{IsOwnRun, IsSameForFlusher, plain, receives}
use Rattle.commit_core.specs.Holders.Holder.{TheFlusher}
use Rattle.commit_core.proofs.Holders.{rows, same_here}
use Rattle.commit_group.specs.Bodies.{next_body}
use Rattle.commit_group.specs.Flushes.{after_halt}
use Rattle.commit_group.specs.Numbers.{base}
use Rattle.commit_group.specs.Seats.{FlusherValue}
use Rattle.commit_group.specs.Turns.{after_receive}
use Rattle.commit_group.specs.Worlds.{StandsFor, StandsAt, ShortagesAreEvents, LimitsAreEvents, UnmarkedTurnsAreEvents, HaltedTurnsAreNoEvents}
use Rattle.commit_group.proofs.Worlds.{received, receives_own, with_waiting}
use Rattle.commit_group.proofs.WorldSteps.{halted_stands, seat_stays}

-- ---- what was received, and a halt

received_stands : {D : Type 0} (state : D → DiskState) (b : Option ℕ) (old : FlusherValue) (log : LogValue D) (w : World)
    (more : List Record)
    → StandsFor state (base b) old log w → StandsFor state (base b) (after_receive old b more) log (received w more)
unfolding received with_waiting
received_stands state b old log w more h =
    let s = h.stands in
    record {
      stands = record {
        guests = s.guests;
        first_is = s.first_is;
        finished = s.finished;
        waiting = sym (append_assoc w.flusher.hand w.flusher.waiting more) ∙ ap (λ (l : List Record). l ++ more) s.waiting;
        told = s.told;
        totals = s.totals;
        halted = s.halted;
        stage_is = s.stage_is;
        disk = s.disk;
      };
      hand = h.hand;
      keeps = h.keeps;
      marked = h.marked;
    }

halted_for : {D : Type 0} (state : D → DiskState) (first : ℕ) (f : FlusherValue) (log : LogValue D) (w : World)
    → StandsFor state first f log w → StandsFor state first (after_halt f) log (after w Halt)
halted_for state first f log w h =
    record { stands = halted_stands state Idle first f log w h.stands; hand = h.hand; keeps = h.keeps; marked = h.marked }

-- all that waits waits there too
waiting_is : {D : Type 0} (state : D → DiskState) (first : ℕ) (f : FlusherValue) (log : LogValue D) (w : World)
    → StandsFor state first f log w → w.flusher.waiting ≡ f.waiting
waiting_is state first f log w h = ap (λ (l : List Record). l ++ w.flusher.waiting) (sym h.hand) ∙ h.stands.waiting

-- what the log refuses may not be written in the world
past_limit : {D : Type 0} (state : D → DiskState) (first : ℕ) (f : FlusherValue) (log : LogValue D) (w : World) (count : ℕ)
    → StandsFor state first f log w → IsPastLimit log (next_body f.waiting count) → CanWrite w count → ⊥
unfolding store_text
past_limit state first f log w count h past can =
    let waiting = waiting_is state first f log w h in
    let size : length (body_text (take count w.flusher.waiting)) ≡ length (next_body f.waiting count) =
    ap (λ (l : List Record). length (body_text (take count l))) waiting in
    let place : log.gate ≡ gate_place w = h.keeps.gate in
    let segments = h.keeps.segments in
    let body = can.body in
    let number = can.number in
    let store = can.store in
    let never : IsPastLimit log (next_body f.waiting count) → ⊥ =
    elim [ inl long ↦ omega arith | inr (inl all) ↦ omega arith | inr (inr far) ↦ omega arith ] in
    never past

-- nor what it refuses without the Mark, if the world's bodies don't have the Mark either
needs_mark : {D : Type 0} (state : D → DiskState) (first : ℕ) (f : FlusherValue) (log : LogValue D) (w : World) (count : ℕ)
    → StandsFor state first f log w → (AreOld (take count f.waiting) → ⊥) → (Contains (stored_bodies w) mark → ⊥) → CanWrite w count → ⊥
needs_mark state first f log w count h new none can =
    ⊎_elim none (λ all. new (subst (λ (l : List Record). AreOld (take count l)) (waiting_is state first f log w h) all)) can.old

pub of_same : {D : Type 0} (Holds : FlusherValue → LogValue D → Type 0) (old new : FlusherValue) (log log' : LogValue D) → new ≡ old →
    log' ≡ log → Holds old log → Holds new log'
of_same {D = D} Holds old new log log' seat same h =
    subst (λ (l : LogValue D). Holds new l) (sym same) (subst (λ (f : FlusherValue). Holds f log) (sym seat) h)

-- ---- the turns

pub shortages_are_events : {D : Type 0} (device : Device D) → ShortagesAreEvents device
shortages_are_events {D = D} device old new log log' w turn before =
    let b = new.first_guest in
    let u = received w turn.more in
    let stands = received_stands device.state b old log w turn.more before in
    let both = of_same (λ f l. StandsFor device.state (base b) f l u) (after_receive old b turn.more) new log log' turn.seat turn.refused
    stands in
    (u, receives_own turn.more w, λ v same. seat_stays device.state (base b) new log' u v both same)

-- what stood for a world stands for it once the records are received, and then the halt
receives_and_halts : {D : Type 0} (state : D → DiskState) (b : Option ℕ) (old : FlusherValue) (log : LogValue D) (w : World)
    (more : List Record)
    → StandsFor state (base b) old log w →
    StandsFor state (base b) (after_halt (after_receive old b more)) log (after (received w more) Halt)
receives_and_halts state b old log w more before =
    halted_for state (base b) (after_receive old b more) log (received w more) (received_stands state b old log w more before)

-- and this is what the flusher does
halt_own : (w : World) (more : List Record) → IsOwnRun TheFlusher w (receives more ++ plain Halt ∷ []) (after (received w more) Halt)
halt_own w more =
    let u = received w more in
    rows TheFlusher w u (after u Halt) (receives more) (plain Halt ∷ []) (receives_own more w)
    (u, same_here TheFlusher u, tt, refl, same_here TheFlusher (after u Halt))

pub limits_are_events : {D : Type 0} (device : Device D) → LimitsAreEvents device
limits_are_events {D = D} device old new log log' w turn before =
    let b = new.first_guest in
    let end = after (received w turn.more) Halt in
    let count = turn.refused.count in
    let f = after_halt (after_receive old b turn.more) in
    let stands = receives_and_halts device.state b old log w turn.more before in
    let there : (v : World) → IsSameForFlusher end v → StandsFor device.state (base b) f log v =
    λ v same. seat_stays device.state (base b) f log end v stands same in (
      end,
      halt_own w turn.more,
      λ v same. (
        of_same (λ g l. StandsFor device.state (base b) g l v) f new log log' turn.seat turn.refused.same (there v same),
        past_limit device.state (base b) f log v count (there v same) turn.refused.past,
      ),
    )

pub unmarked_turns_are_events : {D : Type 0} (device : Device D) → UnmarkedTurnsAreEvents device
unmarked_turns_are_events {D = D} device old new log log' w turn before =
    let b = new.first_guest in
    let end = after (received w turn.more) Halt in
    let count = turn.refused.count in
    let f = after_halt (after_receive old b turn.more) in
    let stands = receives_and_halts device.state b old log w turn.more before in
    let there : (v : World) → IsSameForFlusher end v → StandsFor device.state (base b) f log v =
    λ v same. seat_stays device.state (base b) f log end v stands same in (
      end,
      halt_own w turn.more,
      λ v same. (
        of_same (λ g l. StandsFor device.state (base b) g l v) f new log log' turn.seat turn.refused.same (there v same),
        needs_mark device.state (base b) f log v count (there v same) turn.refused.new,
      ),
    )

pub halted_turns_are_no_events : {D : Type 0} (device : Device D) → HaltedTurnsAreNoEvents device
halted_turns_are_no_events {D = D} device stage first old new log log' w refused stands = (
  stands.halted ∙ refused.0,
  of_same (λ f l. StandsAt device.state stage first f l w) old new log log' refused.1 refused.2 stands,
  of_same (λ f l. StandsFor device.state first f l w) old new log log' refused.1 refused.2,
)
