-- Turns that found no record are looks at leave words.
use Rattle.std.proofs.Common.{◌≡◌, ℕ, zero, suc, ◌+◌, ◌<◌, ◌≤◌, List, length, map, refl, sym, ap, ◌∙◌, subst, arith}
use Rattle.std.specs.Prelude.{slice_index}
use Rattle.std.specs.List.{range_with_len}
use mathlib.Core.Logic.{dite}
use native.Mathlib.Decide.{ℕ_discrete, dec_le}
use Rattle.store_model.specs.CrashModel.{DiskState}
use Rattle.rrv_model.specs.Recovered.{of_guest}
use Rattle.trace_log.specs.Kept.{LogValue}
use Rattle.commit_core.specs.World.{World, committed_count}
use Rattle.commit_core.specs.World.Stage.{Idle}
use Rattle.commit_core.specs.Events.{after}
use Rattle.commit_core.specs.Events.Event.{LookLeft}
use Rattle.commit_core.specs.Holders.{Act, IsOwnRun, IsSameForFlusher, loading}
use Rattle.commit_core.specs.Holders.Holder.{TheFlusher}
use Rattle.commit_core.proofs.Holders.{own_to}
use Rattle.commit_core.proofs.Lists.{put_same, put_other}
use Rattle.commit_group.specs.Numbers.{base}
use Rattle.commit_group.specs.Seats.{FlusherValue, committed_of}
use Rattle.commit_group.specs.Turns.{AllCommitted, TurnFindsNone}
use Rattle.commit_group.specs.Worlds.{StandsFor, HaveLeft, WordsStand, IdleTurnsAreEvents, LastTurnsAreEvents, left_looks}
use Rattle.commit_group.proofs.Refusals.{of_same}
use Rattle.commit_group.proofs.WorldSteps.{seat_stays, stands_again}

-- ---- looks at the words of n guests, from a on

abbrev with_totals : World → (ℕ → ℕ) → World
with_totals w totals = record w { flusher = record w.flusher { totals = totals } }

-- what it loads of these guests is this
abbrev looks : (ℕ → ℕ) → ℕ → ℕ → List Act
looks known a n = map (λ g. loading (LookLeft g) (known g)) (range_with_len a n)

record HasLooked (known : ℕ → ℕ) (a n : ℕ) (w : World) : Type 0 where
  totals : ℕ → ℕ
  own : IsOwnRun TheFlusher w (looks known a n) (with_totals w totals)
  seen : (g : ℕ) → a ≤ g → g < a + n → totals g ≡ known g
  below : (g : ℕ) → g < a → totals g ≡ w.flusher.totals g
  above : (g : ℕ) → a + n ≤ g → totals g ≡ w.flusher.totals g

looks_from : (known : ℕ → ℕ) (n a : ℕ) (w : World) → a + n ≤ w.guests → HasLooked known a n w
looks_from known zero a w le = record {
  totals = w.flusher.totals;
  own = record { guests = refl; first_guest = refl; bodies = refl; flusher = refl; disk = refl };
  seen = λ g lo hi. absurd (omega arith);
  below = λ g l. refl;
  above = λ g l. refl;
}
looks_from known (suc n) a w le =
    let v : World = record w { words = λ k. known a } in
    let next = after v (LookLeft a) in
    let later = looks_from known n (a + 1) next (omega arith) in
    let low : a < w.guests = omega arith in
    let same : IsSameForFlusher w v = record { guests = refl; first_guest = refl; bodies = refl; flusher = refl; disk = refl } in
    let last : IsSameForFlusher (with_totals next later.totals) (with_totals w later.totals) =
    record { guests = refl; first_guest = refl; bodies = refl; flusher = refl; disk = refl } in
    record {
      totals = later.totals;
      own = (
        v,
        same,
        low,
        refl,
        own_to TheFlusher next (looks known (a + 1) n) (with_totals next later.totals) (with_totals w later.totals) later.own last,
      );
      seen = λ g lo hi. dite (ℕ_discrete g a)
          (λ e. later.below g (omega arith) ∙ ap next.flusher.totals e ∙ put_same w.flusher.totals a (known a) ∙ ap known (sym e))
          (λ ne. later.seen g (omega arith) (omega arith));
      below = λ g l. later.below g (omega arith) ∙ put_other w.flusher.totals a (known a) g (λ e. absurd (omega arith));
      above = λ g l. later.above g (omega arith) ∙ put_other w.flusher.totals a (known a) g (λ e. absurd (omega arith));
    }

-- ---- what the seat knows then

-- Once the world's flusher knows these totals, seat and log stand for it.
looked_stands : {D : Type 0} (state : D → DiskState) (old new : FlusherValue) (log log' : LogValue D) (w : World) (totals : ℕ → ℕ) →
    TurnFindsNone old new log log'
    → StandsFor state (base new.first_guest) old log w → ((g : ℕ) → g < w.guests → totals g ≡ slice_index new.totals g)
    → StandsFor state (base new.first_guest) new log' (with_totals w totals)
looked_stands state old new log log' w totals turn h same =
    let s = h.stands in
    of_same (λ f l. StandsFor state (base new.first_guest) f l (with_totals w totals))
    (record old { first_guest = new.first_guest; totals = new.totals }) new log log' turn.seat turn.same_log
    (record {
      stands = stands_again state Idle (base new.first_guest) old (record old { first_guest = new.first_guest; totals = new.totals }) log w
          (with_totals w totals) refl refl s s.told same s.halted;
      hand = h.hand;
      keeps = h.keeps;
      marked = h.marked;
    })

module _ {D : Type 0} (state : D → DiskState) (old new : FlusherValue) (log log' : LogValue D) (w : World)
    (turn : TurnFindsNone old new log log') (before : StandsFor state (base new.first_guest) old log w) where
  guests : w.guests ≡ new.group.guests
  guests = before.stands.guests ∙ ap (λ (f : FlusherValue). f.group.guests) (sym turn.seat)

  looked : HasLooked (slice_index new.totals) 0 (turn.last + 1) w
  looked = looks_from (slice_index new.totals) (turn.last + 1) 0 w (let there = turn.loads.there in let e = guests in omega arith)

  total_is : (g : ℕ) → g < w.guests → looked.totals g ≡ slice_index new.totals g
  total_is g low = dite (dec_le g turn.last)
      (λ upto. looked.seen g (omega arith) (omega arith))
      (λ past. looked.above g (omega arith) ∙ before.stands.totals g low ∙ sym (turn.loads.behind g (omega arith)))

  abbrev end : World
  end = with_totals w looked.totals

  stands : (v : World) → IsSameForFlusher end v → StandsFor state (base new.first_guest) new log' v
  stands v same =
      seat_stays state (base new.first_guest) new log' end v (looked_stands state old new log log' w looked.totals turn before total_is)
      same

  is_last : AllCommitted new → turn.last + 1 ≡ w.guests
  is_last all =
      let there = turn.loads.there in
      let e = guests in
      dite (dec_le (turn.last + 2) new.group.guests)
      (λ more. absurd (turn.loads.stops (omega arith) (all turn.last there)))
      (λ last. omega arith)

  -- in a world for whose flusher they stand, and where the words that were loaded stand still
  module _ (v : World) (h : StandsFor state (base new.first_guest) new log' v) (stand : WordsStand v new turn.last) where
    count_is : (g : ℕ) → committed_count (v.first_guest + g) v.flusher ≡ committed_of new g
    count_is g = λ i. length (of_guest (h.stands.first_is i + g) (h.stands.finished i))

    -- what is committed of a guest is what its word says, or not, in both
    known : (g : ℕ) → g ≤ turn.last → HaveLeft v → slice_index new.totals g ≡ committed_of new g + 1
    known g upto all =
        sym (stand g upto) ∙ all g (let there = turn.loads.there in let e = h.stands.guests in omega arith)
        ∙ ap (λ (n : ℕ). n + 1) (count_is g)

    not_all : (AllCommitted new → ⊥) → HaveLeft v → ⊥
    not_all none all =
        let there = turn.loads.there in
        dite (dec_le (turn.last + 2) new.group.guests)
        (λ more. turn.loads.stops (omega arith) (known turn.last (omega arith) all))
        (λ last. none (λ g low. known g (omega arith) all))

    have_left : AllCommitted new → HaveLeft v
    have_left all g low =
        let last = is_last all in
        let e = guests in
        let f = h.stands.guests in
        stand g (omega arith) ∙ all g (omega arith) ∙ ap (λ (n : ℕ). n + 1) (sym (count_is g))

pub idle_turns_are_events : {D : Type 0} (state : D → DiskState) → IdleTurnsAreEvents state
idle_turns_are_events state old new log log' w turn none before = (
  end state old new log log' w turn before,
  (looked state old new log log' w turn before).own,
  λ v same.
      let h = stands state old new log log' w turn before v same in
      (h, λ stand. not_all state old new log log' w turn before v h stand none),
)

pub last_turns_are_events : {D : Type 0} (state : D → DiskState) → LastTurnsAreEvents state
last_turns_are_events state old new log log' w turn all before = (
  end state old new log log' w turn before,
  subst (λ (n : ℕ). IsOwnRun TheFlusher w (left_looks new n) (end state old new log log' w turn before))
      (is_last state old new log log' w turn before all) (looked state old new log log' w turn before).own,
  λ v same.
      let h = stands state old new log log' w turn before v same in
      (h, λ stand. have_left state old new log log' w turn before v h stand all),
)
