-- A turn that committed, or whose commit failed, is what the flusher of a world does.
use Rattle.std.proofs.Common.{◌≡◌, ◌⊎◌, ⊎_elim, true, ℕ, zero, suc, ◌+◌, ◌<◌, ◌≤◌, List, [], ◌∷◌, ◌++◌, length, take, drop, map, refl, sym, ap, ◌∙◌, subst, arith, append_assoc, inl, inr}
use Rattle.std.specs.Prelude.{slice_index, Contains}
use Rattle.std.specs.List.{range_with_len}
use Rattle.std.proofs.lemmas.List.{append-nil, map_push, take-append-drop}
use Rattle.std.proofs.lemmas.List.Elements.{Contains-append_left}
use mathlib.Core.Logic.{dite}
use native.Mathlib.Decide.{ℕ_discrete}
use Rattle.rrv_model.specs.declared.limits.TheConstants.{BATCH_ITEMS}
use Rattle.rrv_model.specs.declared.record.Record.{Record}
use Rattle.store_model.specs.CrashModel.{DiskState}
use Rattle.rrv_model.specs.Recovered.{body_text, mark, of_guest, AreOld}
use Rattle.store_model.specs.StoreCalls.{after_disk_calls, commit_calls, DiskCall, IsStopped}
use Rattle.trace_disk.specs.Devices.{Device}
use Rattle.trace_log.specs.Kept.{HoldsMark, Keeps, LogValue, IsWithinLimits}
use Rattle.commit_core.specs.World.{World, Flusher, joined, stored_bodies, committed_count, store_text}
use Rattle.commit_core.specs.World.Stage.{Idle, Broken}
use Rattle.commit_core.specs.Events.{Event, run, after, gate_place, CanWrite}
use Rattle.commit_core.specs.Events.Event.{Pop, WriteBody, WriteBodyFails, Sync1, Sync1Fails, OpenGate, OpenGateFails, Sync2, Sync2Fails, Publish, Halt}
use Rattle.commit_core.specs.Holders.{Act, Does, IsOwnRun, IsSameForFlusher, plain, receives}
use Rattle.commit_core.specs.Holders.Holder.{TheFlusher}
use Rattle.commit_core.proofs.Holders.{own_to, rows, same_here}
use Rattle.commit_core.proofs.Lists.{put_same, put_other, joined-push}
use Rattle.commit_group.specs.declared.fault.FlushFault.TheVariants.{DeviceFailed}
use Rattle.commit_group.specs.Bodies.{next_body, IsBatch}
use Rattle.commit_group.specs.Numbers.{base}
use Rattle.commit_group.specs.Seats.{FlusherValue}
use Rattle.commit_group.specs.Turns.{TurnCommits, TurnRefused}
use Rattle.commit_group.specs.Worlds.{StandsFor, StandsAt, TurnsAreEvents, FailuresAreEvents, commits, failing, publishes}
use Rattle.commit_group.proofs.WorldSteps.{flusher_stays, seat_stays}

-- ---- what was received

unfoldable pub with_waiting : World → List Record → World
with_waiting w waiting = record w { flusher = record w.flusher { waiting = waiting } }

unfoldable pub received : World → List Record → World
received w more = with_waiting w (w.flusher.waiting ++ more)

pub receives_own : (more : List Record) (w : World) → IsOwnRun TheFlusher w (receives more) (received w more)
unfolding received with_waiting
receives_own [] w = record {
  guests = refl;
  first_guest = refl;
  bodies = refl;
  flusher = λ i. record w.flusher { waiting = append-nil w.flusher.waiting i };
  disk = refl;
}
receives_own (r ∷ more) w =
    let v : World = record w { queue = r ∷ [] } in
    let next = after v (Pop r []) in
    let same : IsSameForFlusher w v = record { guests = refl; first_guest = refl; bodies = refl; flusher = refl; disk = refl } in
    let last : IsSameForFlusher (received next more) (received w (r ∷ more)) = record {
      guests = refl;
      first_guest = refl;
      bodies = refl;
      flusher = λ i. record w.flusher { waiting = sym (append_assoc w.flusher.waiting (r ∷ []) more) i };
      disk = refl;
    } in
    let later = own_to TheFlusher next (receives more) (received next more) (received w (r ∷ more)) (receives_own more next) last in
    (v, same, refl, refl, later)

-- ---- the commit

unfoldable pub body_events : ℕ → List Event
body_events k = WriteBody k ∷ Sync1 ∷ OpenGate ∷ Sync2 ∷ []

unfoldable pub committed_world : World → ℕ → World
committed_world w k = run w (body_events k)

commits_own : (w : World) (k : ℕ) → CanWrite w k → IsOwnRun TheFlusher w (commits k) (committed_world w k)
unfolding committed_world body_events
commits_own w k can =
    let written = after w (WriteBody k) in
    let synced = after written Sync1 in
    let opened = after synced OpenGate in
    let end = after opened Sync2 in (
      w,
      same_here TheFlusher w,
      can,
      refl,
      (
        written,
        same_here TheFlusher written,
        refl,
        refl,
        (
          synced,
          same_here TheFlusher synced,
          refl,
          refl,
          (opened, same_here TheFlusher opened, refl, refl, same_here TheFlusher end),
        ),
      ),
    )

-- a call of it failed, and left this disk
unfoldable pub stopped_world : World → ℕ → DiskState → World
stopped_world w k disk =
    record w {
      flusher = record w.flusher { hand = take k w.flusher.waiting; waiting = drop k w.flusher.waiting; stage = Broken };
      disk = disk;
    }

-- the disk is this one
left_by : (w : World) (k : ℕ) (disk other : DiskState) → disk ≡ other → IsSameForFlusher (stopped_world w k other) (stopped_world w k disk)
unfolding stopped_world
left_by w k disk other same = record { guests = refl; first_guest = refl; bodies = refl; flusher = refl; disk = same }

-- by one of these
StopsBy : World → ℕ → DiskState → Type 0
StopsBy w k disk =
    (calls : List Act) × Contains (failing k disk) calls × IsOwnRun TheFlusher w calls (stopped_world w k disk)

stops : (w : World) (k : ℕ) (disk : DiskState) → CanWrite w k →
    IsStopped w.disk (commit_calls (gate_place w) (length (stored_bodies w)) (body_text (take k w.flusher.waiting))) disk →
    StopsBy w k disk
unfolding StopsBy stopped_world
stops w k disk can (inl fails) = (
  plain (WriteBodyFails k disk) ∷ [],
  (0, omega arith, refl),
  (w, same_here TheFlusher w, (can, fails), refl, same_here TheFlusher (stopped_world w k disk)),
)
stops w k disk can (inr (inl same)) =
    let written = after w (WriteBody k) in (
      plain (WriteBody k) ∷ plain Sync1Fails ∷ [],
      (1, omega arith, refl),
      (w, same_here TheFlusher w, can, refl, (written, same_here TheFlusher written, refl, refl, left_by w k disk written.disk same)),
    )
stops w k disk can (inr (inr (inl fails))) =
    let written = after w (WriteBody k) in
    let synced = after written Sync1 in (
      plain (WriteBody k) ∷ plain Sync1 ∷ plain (OpenGateFails disk) ∷ [],
      (2, omega arith, refl),
      (
        w,
        same_here TheFlusher w,
        can,
        refl,
        (
          written,
          same_here TheFlusher written,
          refl,
          refl,
          (synced, same_here TheFlusher synced, (refl, fails), refl, same_here TheFlusher (stopped_world w k disk)),
        ),
      ),
    )
stops w k disk can (inr (inr (inr (inl same)))) =
    let written = after w (WriteBody k) in
    let synced = after written Sync1 in
    let opened = after synced OpenGate in (
      plain (WriteBody k) ∷ plain Sync1 ∷ plain OpenGate ∷ plain Sync2Fails ∷ [],
      (3, omega arith, refl),
      (
        w,
        same_here TheFlusher w,
        can,
        refl,
        (
          written,
          same_here TheFlusher written,
          refl,
          refl,
          (
            synced,
            same_here TheFlusher synced,
            refl,
            refl,
            (opened, same_here TheFlusher opened, refl, refl, left_by w k disk opened.disk same),
          ),
        ),
      ),
    )
stops w k disk can (inr (inr (inr (inr never)))) = absurd never

-- ---- the counts

abbrev with_told : World → (ℕ → ℕ) → World
with_told w told = record w { flusher = record w.flusher { told = told } }

record HasPublished (a n : ℕ) (w : World) (doing : List Act) : Type 0 where
  told : ℕ → ℕ
  own : IsOwnRun TheFlusher w doing (with_told w told)
  published : (g : ℕ) → a ≤ g → g < a + n → told g ≡ committed_count (w.first_guest + g) w.flusher
  below : (g : ℕ) → g < a → told g ≡ w.flusher.told g

publishes_from : (n a : ℕ) (w : World) → a + n ≤ w.guests → HasPublished a n w (map (λ g. plain (Publish g)) (range_with_len a n))
publishes_from zero a w le = record {
  told = w.flusher.told;
  own = record { guests = refl; first_guest = refl; bodies = refl; flusher = refl; disk = refl };
  published = λ g lo hi. absurd (omega arith);
  below = λ g l. refl;
}
publishes_from (suc n) a w le =
    let count = committed_count (w.first_guest + a) w.flusher in
    let next = after w (Publish a) in
    let later = publishes_from n (a + 1) next (omega arith) in
    let low : a < w.guests = omega arith in
    let same : IsSameForFlusher (with_told next later.told) (with_told w later.told) =
    record { guests = refl; first_guest = refl; bodies = refl; flusher = refl; disk = refl } in
    record {
      told = later.told;
      own = (
        w,
        same_here TheFlusher w,
        low,
        refl,
        own_to TheFlusher next (map (λ g. plain (Publish g)) (range_with_len (a + 1) n)) (with_told next later.told)
            (with_told w later.told) later.own same,
      );
      published = λ g lo hi. dite (ℕ_discrete g a)
          (λ e. later.below g (omega arith) ∙ ap next.flusher.told e ∙ put_same w.flusher.told a count
          ∙ ap (λ (k : ℕ). committed_count (w.first_guest + k) w.flusher) (sym e))
          (λ ne. later.published g (omega arith) (omega arith));
      below = λ g l. later.below g (omega arith) ∙ put_other w.flusher.told a count g (λ e. absurd (omega arith));
    }

-- ---- what the commit leaves

flusher_after : (u : World) (k : ℕ) →
    (committed_world u k).flusher
    ≡ record u.flusher
    { finished = u.flusher.finished ++ take k u.flusher.waiting ∷ []; hand = []; waiting = drop k u.flusher.waiting; stage = Idle }
unfolding committed_world body_events
flusher_after u k = refl

disk_after : (u : World) (k : ℕ) →
    (committed_world u k).disk
    ≡ after_disk_calls u.disk (commit_calls (gate_place u) (length (stored_bodies u)) (body_text (take k u.flusher.waiting)))
unfolding committed_world body_events
disk_after u k = refl

record KeptBy (u x : World) : Type 0 where
  guests : x.guests ≡ u.guests
  first : x.first_guest ≡ u.first_guest
  bodies : x.bodies ≡ u.bodies

kept_by : (u : World) (k : ℕ) → KeptBy u (committed_world u k)
unfolding committed_world body_events
kept_by u k = record { guests = refl; first = refl; bodies = refl }

one_body_more : (bodies : List (List ℕ)) (finished : List (List Record)) (batch : List Record) →
    bodies ++ map body_text (finished ++ batch ∷ []) ≡ (bodies ++ map body_text finished) ++ body_text batch ∷ []
one_body_more bodies finished batch =
    ap (λ (l : List (List ℕ)). bodies ++ l) (map_push body_text finished batch)
    ∙ sym (append_assoc bodies (map body_text finished) (body_text batch ∷ []))

-- ---- what a turn receives

-- it stands in the world as before
module _ {D : Type 0} (state : D → DiskState) (first : ℕ) (old : FlusherValue) (log : LogValue D) (w : World) (more : List Record)
    (before : StandsFor state first old log w) where
  received_waiting : (received w more).flusher.waiting ≡ old.waiting ++ more
  unfolding received with_waiting
  received_waiting =
      ap (λ (l : List Record). l ++ more) (ap (λ (l : List Record). l ++ w.flusher.waiting) (sym before.hand) ∙ before.stands.waiting)

  received_place : log.gate ≡ gate_place (received w more)
  unfolding received with_waiting store_text
  received_place = before.keeps.gate

  received_can : (count : ℕ) → IsBatch (old.waiting ++ more) count → IsWithinLimits log (next_body (old.waiting ++ more) count) →
      length (old.waiting ++ more) ≤ BATCH_ITEMS → (log.marked ≡ true) ⊎ AreOld (take count (old.waiting ++ more)) →
      CanWrite (received w more) count
  unfolding received with_waiting
  received_can count batch within few follow =
      let u = received w more in
      let text : next_body (old.waiting ++ more) count ≡ body_text (take count u.flusher.waiting) =
      ap (λ (l : List Record). body_text (take count l)) (sym received_waiting) in
      let size : length (next_body (old.waiting ++ more) count) ≡ length (body_text (take count u.flusher.waiting)) = ap length text in
      let long : length u.flusher.waiting ≡ length (old.waiting ++ more) = ap length received_waiting in
      let p = received_place in
      let s = before.keeps.segments in
      let bf = within.body_fits in
      let nf = within.number_fits in
      let sf = within.store_fits in
      let th = batch.there in
      record {
        idle = before.stands.stage_is;
        some = batch.some;
        few = omega arith;
        there = omega arith;
        body = omega arith;
        number = omega arith;
        store = omega arith;
        old = ⊎_elim (λ told. inl (before.marked told))
            (λ all. inr (subst (λ (l : List Record). AreOld (take count l)) (sym received_waiting) all)) follow;
      }

  received_disk : (received w more).disk ≡ state log.disk
  unfolding received with_waiting
  received_disk = before.stands.disk

  -- and the calls of a commit are those of the log
  received_calls : (count : ℕ) →
      commit_calls (gate_place (received w more)) (length (stored_bodies (received w more)))
      (body_text (take count (received w more).flusher.waiting))
      ≡ commit_calls log.gate log.segments (next_body (old.waiting ++ more) count)
  unfolding received with_waiting
  received_calls count =
      λ i. commit_calls (sym received_place i) (sym before.keeps.segments i) (body_text (take count (received_waiting i)))

-- ---- a turn

module _ {D : Type 0} (device : Device D) (old new : FlusherValue) (log log' : LogValue D)
    (k : ℕ) (w : World)
    (turn : TurnCommits device old new log log' k) (is_honest : device.honest log.disk)
    (before : StandsFor device.state (base new.first_guest) old log w) where
  stands : StandsAt device.state Idle (base new.first_guest) old log w
  stands = before.stands

  -- the world once the turn has received
  unfoldable u : World
  u = received w turn.more

  waiting_is : u.flusher.waiting ≡ old.waiting ++ turn.more
  unfolding u
  waiting_is = received_waiting device.state (base new.first_guest) old log w turn.more before

  can : CanWrite u k
  unfolding u
  can = received_can device.state (base new.first_guest) old log w turn.more before k turn.flushed.commits.batch
      turn.flushed.commits.committed.within_limits turn.few turn.flushed.commits.old

  own_u : IsOwnRun TheFlusher w (receives turn.more) u
  unfolding u
  own_u = receives_own turn.more w

  unfoldable x : World
  x = committed_world u k

  own_x : IsOwnRun TheFlusher u (commits k) x
  unfolding x
  own_x = commits_own u k can

  -- what the first half leaves of w
  record SameAs (v : World) : Type 0 where
    guests : v.guests ≡ w.guests
    first : v.first_guest ≡ w.first_guest
    bodies : v.bodies ≡ w.bodies

  same_u : SameAs u
  unfolding u received with_waiting
  same_u = record { guests = refl; first = refl; bodies = refl }

  same_x : SameAs x
  unfolding x
  same_x =
      let k' = kept_by u k in
      record { guests = k'.guests ∙ same_u.guests; first = k'.first ∙ same_u.first; bodies = k'.bodies ∙ same_u.bodies }

  batch_is : take k u.flusher.waiting ≡ take k (old.waiting ++ turn.more)
  batch_is = ap (take k) waiting_is

  u_finished : u.flusher.finished ≡ w.flusher.finished
  unfolding u received with_waiting
  u_finished = refl

  u_totals : (g : ℕ) → u.flusher.totals g ≡ w.flusher.totals g
  unfolding u received with_waiting
  u_totals g = refl

  u_halted : u.flusher.halted ≡ w.flusher.halted
  unfolding u received with_waiting
  u_halted = refl

  u_disk : u.disk ≡ w.disk
  unfolding u received with_waiting
  u_disk = refl

  u_calls : commit_calls (gate_place u) (length (stored_bodies u)) (body_text (take k u.flusher.waiting))
      ≡ commit_calls log.gate log.segments (next_body (old.waiting ++ turn.more) k)
  unfolding u
  u_calls = received_calls device.state (base new.first_guest) old log w turn.more before k

  u_stored : stored_bodies u ≡ stored_bodies w
  unfolding u received with_waiting
  u_stored = refl

  x_flusher : x.flusher
      ≡ record u.flusher
      { finished = u.flusher.finished ++ take k u.flusher.waiting ∷ []; hand = []; waiting = drop k u.flusher.waiting; stage = Idle }
  unfolding x
  x_flusher = flusher_after u k

  x_joined : joined x.flusher.finished ≡ new.committed
  x_joined =
      ap (λ (f : Flusher). joined f.finished) x_flusher ∙ joined-push u.flusher.finished (take k u.flusher.waiting)
      ∙ (λ i. joined (u_finished i) ++ batch_is i) ∙ ap (λ (l : List Record). l ++ take k (old.waiting ++ turn.more)) stands.finished
      ∙ sym (ap (λ (f : FlusherValue). f.committed) turn.seat)

  x_stored : stored_bodies x ≡ stored_bodies w ++ next_body (old.waiting ++ turn.more) k ∷ []
  x_stored =
      (λ i. same_x.bodies i ++ map body_text (x_flusher i).finished) ∙ one_body_more w.bodies u.flusher.finished (take k u.flusher.waiting)
      ∙ (λ i. (w.bodies ++ map body_text (u_finished i)) ++ body_text (batch_is i) ∷ [])

  x_disk : x.disk ≡ device.state log'.disk
  unfolding x
  x_disk =
      disk_after u k
      ∙ (λ i. after_disk_calls (u_disk i) (u_calls i))
      ∙ ap (λ (d : DiskState). after_disk_calls d (commit_calls log.gate log.segments (next_body (old.waiting ++ turn.more) k))) stands.disk
      ∙ sym (turn.flushed.commits.committed.calls is_honest)

  x_keeps : Keeps device.state log' (stored_bodies w ++ next_body (old.waiting ++ turn.more) k ∷ [])
  x_keeps = let h =
      turn.flushed.commits.committed.kept (stored_bodies w) is_honest before.keeps in
      record { settled = h.settled; gate = h.gate; segments = h.segments }

  x_marked : HoldsMark log' (stored_bodies w ++ next_body (old.waiting ++ turn.more) k ∷ [])
  x_marked told =
      let same : log'.marked ≡ log.marked = ap (λ (l : LogValue D). l.marked) turn.flushed.commits.committed.log in
      Contains-append_left (stored_bodies w) (next_body (old.waiting ++ turn.more) k ∷ []) mark (before.marked (sym same ∙ told))

  -- and then all counts are published
  published : HasPublished 0 w.guests x (publishes w.guests)
  published = publishes_from w.guests 0 x (let e = same_x.guests in omega arith)

  abbrev y : World
  y = with_told x published.told

  seat_stands : StandsFor device.state (base new.first_guest) new log' y
  seat_stands =
      let s = turn.seat in
      let guests : w.guests ≡ new.group.guests = stands.guests ∙ ap (λ (f : FlusherValue). f.group.guests) (sym s) in
      let hand : y.flusher.hand ≡ [] = ap (λ (f : Flusher). f.hand) x_flusher in
      record {
        stands = record {
          guests = same_x.guests ∙ guests;
          first_is = same_x.first ∙ stands.first_is;
          finished = x_joined;
          waiting = ap (λ (l : List Record). l ++ y.flusher.waiting) hand
              ∙ ap (λ (f : Flusher). f.waiting) x_flusher ∙ ap (drop k) waiting_is
              ∙ sym (ap (λ (f : FlusherValue). f.waiting) s);
          told = λ g low.
              let low' : g < w.guests = (let e = same_x.guests in omega arith) in
              let low'' : g < new.group.guests = (let e = guests in omega arith) in
              published.published g (omega arith) (omega arith)
              ∙ (λ i. length (of_guest ((same_x.first ∙ stands.first_is) i + g) (x_joined i))) ∙ sym (turn.told g low'');
          totals = λ g low.
              let low' : g < w.guests = (let e = same_x.guests in omega arith) in
              ap (λ (f : Flusher). f.totals g) x_flusher ∙ u_totals g ∙ stands.totals g low'
              ∙ ap (λ (f : FlusherValue). slice_index f.totals g) (sym s);
          halted = ap (λ (f : Flusher). f.halted) x_flusher ∙ u_halted ∙ stands.halted ∙ ap (λ (f : FlusherValue). f.halted) (sym s);
          stage_is = ap (λ (f : Flusher). f.stage) x_flusher;
          disk = x_disk;
        };
        hand = hand;
        keeps = subst (Keeps device.state log') (sym x_stored) x_keeps;
        marked = subst (HoldsMark log') (sym x_stored) x_marked;
      }

  is_events : Does TheFlusher (receives turn.more ++ commits k ++ publishes w.guests)
      (StandsFor device.state (base new.first_guest) new log') w
  is_events = (
    y,
    rows TheFlusher w x y (receives turn.more ++ commits k) (publishes w.guests)
        (rows TheFlusher w u x (receives turn.more) (commits k) own_u own_x) published.own,
    λ v same. seat_stays device.state (base new.first_guest) new log' y v seat_stands same,
  )

pub turns_are_events : {D : Type 0} (device : Device D) → TurnsAreEvents device
turns_are_events device old new log log' k w turn is_honest stands =
    is_events device old new log log' k w turn is_honest stands

-- ---- a turn whose commit was stopped

module _ {D : Type 0} (device : Device D) (old new : FlusherValue) (log log' : LogValue D)
    (w : World)
    (turn : TurnRefused device old new log log' DeviceFailed) (is_honest : device.honest log.disk)
    (before : StandsFor device.state (base new.first_guest) old log w) where
  abbrev count : ℕ
  count = turn.refused.count

  -- the world once the turn has received, and once the call has failed
  unfoldable received_all : World
  received_all = received w turn.more

  unfoldable failed : World
  failed = stopped_world received_all count (device.state log'.disk)

  stopped_by : StopsBy received_all count (device.state log'.disk)
  unfolding received_all
  stopped_by =
      let v = received w turn.more in
      let can = received_can device.state (base new.first_guest) old log w turn.more before count turn.refused.batch
      turn.refused.stopped.within_limits turn.few turn.refused.old in
      let calls = received_calls device.state (base new.first_guest) old log w turn.more before count in
      let disk : v.disk ≡ device.state log.disk = received_disk device.state (base new.first_guest) old log w turn.more before in
      let stopped : IsStopped v.disk (commit_calls (gate_place v) (length (stored_bodies v)) (body_text (take count v.flusher.waiting)))
      (device.state log'.disk) =
      subst (λ (c : List DiskCall). IsStopped v.disk c (device.state log'.disk)) (sym calls)
      (subst (λ (d : DiskState). IsStopped d (commit_calls log.gate log.segments (next_body (old.waiting ++ turn.more) count))
      (device.state log'.disk)) (sym disk) (turn.refused.stopped.calls is_honest)) in
      stops v count (device.state log'.disk) can stopped

  own_received : IsOwnRun TheFlusher w (receives turn.more) received_all
  unfolding received_all
  own_received = receives_own turn.more w

  stands_at : StandsAt device.state Broken (base new.first_guest) new log' (after failed Halt)
  unfolding failed received_all stopped_world received with_waiting
  stands_at =
      let s = turn.seat in
      let stands = before.stands in
      let all : List Record = w.flusher.waiting ++ turn.more in
      record {
        guests = stands.guests ∙ ap (λ (f : FlusherValue). f.group.guests) (sym s);
        first_is = stands.first_is;
        finished = stands.finished ∙ ap (λ (f : FlusherValue). f.committed) (sym s);
        waiting = take-append-drop count all ∙ received_waiting device.state (base new.first_guest) old log w turn.more before
            ∙ ap (λ (f : FlusherValue). f.waiting) (sym s);
        told = λ g low. stands.told g low ∙ ap (λ (f : FlusherValue). slice_index f.told g) (sym s);
        totals = λ g low. stands.totals g low ∙ ap (λ (f : FlusherValue). slice_index f.totals g) (sym s);
        halted = ap (λ (f : FlusherValue). f.halted) (sym s);
        stage_is = refl;
        disk = refl;
      }

  failure_is_events : (calls : List Act) × Contains (failing count (device.state log'.disk)) calls
      × Does TheFlusher (receives turn.more ++ calls ++ plain Halt ∷ []) (StandsAt device.state Broken (base new.first_guest) new log') w
  unfolding failed StopsBy
  failure_is_events =
      let calls = stopped_by.0 in
      let end = after failed Halt in
      let own_halt : IsOwnRun TheFlusher failed (plain Halt ∷ []) end =
      (failed, same_here TheFlusher failed, tt, refl, same_here TheFlusher end) in (
        calls,
        stopped_by.1,
        (
          end,
          rows TheFlusher w failed end (receives turn.more ++ calls) (plain Halt ∷ [])
              (rows TheFlusher w received_all failed (receives turn.more) calls own_received stopped_by.2) own_halt,
          λ v same. flusher_stays device.state Broken (base new.first_guest) new log' end v stands_at same,
        ),
      )

pub failures_are_events : {D : Type 0} (device : Device D) → FailuresAreEvents device
failures_are_events device old new log log' w turn is_honest stands =
    failure_is_events device old new log log' w turn is_honest stands
