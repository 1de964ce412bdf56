-- What was opened and made stands for a world at its start.
use Rattle.std.proofs.Common.{◌≡◌, ℕ, ◌+◌, ◌<◌, ◌≤◌, false, List, [], ◌∷◌, ◌++◌, replicate, refl, sym, ap, ◌∙◌, subst, arith}
use Rattle.std.specs.Prelude.{slice_index}
use Rattle.std.proofs.lemmas.List.{append-nil, get_or-replicate}
use Rattle.rrv_model.specs.declared.limits.TheConstants.{MAX_NUMBER}
use Rattle.rrv_model.specs.declared.record.Opening.{Opening}
use Rattle.rrv_model.specs.declared.record.Record.{Record}
use Rattle.rrv_model.specs.Recording.{EndsIn, items_of}
use Rattle.rrv_model.specs.Recovered.{next_guest}
use Rattle.rrv_model.specs.State.{State}
use Rattle.rrv_model.proofs.RunLaws.{one_end_state}
use Rattle.store_model.specs.CrashModel.{all_synced}
use Rattle.guest_calls.specs.Guest.{state_of}
use Rattle.trace_disk.specs.Devices.{Device}
use Rattle.trace_log.specs.Kept.{HoldsMark, Keeps, LogValue}
use Rattle.commit_core.specs.World.{World, Recorder, IsReady, IsStart, nothing_done, opening_record, store_text}
use Rattle.commit_group.specs.Numbers.{renumbered}
use Rattle.commit_group.specs.Seats.{FlusherValue, RecorderValue, new_seat}
use Rattle.commit_group.specs.Steps.{StandsForRecorder}
use Rattle.commit_group.specs.Worlds.{StandsFor}
use Rattle.recorder.specs.Recorders.{GuestRecorder}
use Rattle.recorder.specs.RecorderWorlds.{StandsForGuest}
use Rattle.recorder.proofs.RecorderWorlds.{renumbered_text}
use Rattle.session.specs.Sessions.{IsLeft}
use Rattle.session.specs.Starts.{IsNew, IsNewGroup, IsReadyAt, StartsAreWorlds}

-- ---- one recorder

-- as it stands in the world
abbrev there : ℕ → Opening → State → Recorder
there number opening state = record {
  sent = [];
  backlog = opening_record number opening ∷ [];
  states = state ∷ [];
  seen = 0;
  out = [];
  knows_halt = false;
  left = false;
}

is_ready : (first g : ℕ) (o : Opening) (s : State) → IsReadyAt g o s → first + g ≤ MAX_NUMBER →
    IsReady (first + g) (there (first + g) o s)
is_ready first g o s h low = record {
  opening = o;
  state = s;
  opens = h.opens;
  has_text = renumbered_text first (opening_record g o) low h.has_text;
  is = refl;
}

-- ---- all of it

module _ {D : Type 0} (device : Device D) (log : LogValue D) (bodies : List (List ℕ)) (earlier : List Record)
    (flusher : FlusherValue) (openings : ℕ → Opening)
    (left : IsLeft device log bodies earlier) (next : log.next_guest ≡ next_guest earlier)
    (new : IsNewGroup log.next_guest flusher openings) where
  abbrev first : ℕ
  first = log.next_guest

  abbrev w : World
  w = record {
    guests = flusher.group.guests;
    first_guest = first;
    bodies = bodies;
    recorders = λ g. there (first + g) (openings g) (new.states g);
    queue = [];
    words = λ k. 0;
    flusher = nothing_done;
    disk = device.state log.disk;
  }

  none : (f : FlusherValue → List ℕ) (g : ℕ) → f flusher ≡ replicate flusher.group.guests 0 → g < flusher.group.guests →
      0 ≡ slice_index (f flusher) g
  none f g is low = sym (get_or-replicate flusher.group.guests g 0 0 low) ∙ ap (λ (l : List ℕ). slice_index l g) (sym is)

  is_start : IsStart w earlier
  unfolding store_text
  is_start = record {
    some = new.some;
    few = new.few;
    recovered = left.recovered;
    next = next;
    room = new.room;
    are_bodies = left.keeps.settled.each;
    count = left.keeps.settled.count;
    disk = record {
      read = left.keeps.settled.content;
      synced = subst (λ (l : List ℕ). (device.state log.disk).pending ≡ all_synced l) left.keeps.settled.content
          left.keeps.settled.synced;
    };
    ready = λ g low.
        let room = new.room in
        is_ready first g (openings g) (new.states g) (new.ready g low) (omega arith);
    queue = refl;
    words = λ k. refl;
    flusher = refl;
  }

  flusher_stands : StandsFor device.state first flusher log w
  flusher_stands =
      let is = new.flusher_is in
      let stored : bodies ≡ bodies ++ [] = sym (append-nil bodies) in
      record {
        stands = record {
          guests = refl;
          first_is = refl;
          finished = sym (ap (λ (f : FlusherValue). f.committed) is);
          waiting = sym (ap (λ (f : FlusherValue). f.waiting) is);
          told = λ g low. none (λ f. f.told) g (ap (λ (f : FlusherValue). f.told) is) low;
          totals = λ g low. none (λ f. f.totals) g (ap (λ (f : FlusherValue). f.totals) is) low;
          halted = sym (ap (λ (f : FlusherValue). f.halted) is);
          stage_is = refl;
          disk = refl;
        };
        hand = refl;
        keeps = subst (Keeps device.state log) stored left.keeps;
        marked = subst (HoldsMark log) stored left.marked;
      }

  seat_stands : (g : ℕ) → g < flusher.group.guests → StandsForRecorder (new_seat flusher.group g) w
  seat_stands g low = record { there = low; sent = refl; seen = refl; knows_halt = refl; left = refl }

  recorder_stands : (g : ℕ) → g < flusher.group.guests → (r : GuestRecorder) → IsNew flusher.group g (openings g) r → StandsForGuest r [] w
  recorder_stands g low r h =
      let place : r.seat.guest ≡ g = ap (λ (q : RecorderValue). q.guest) h.seat in
      let at : w.recorders r.seat.guest ≡ there (first + g) (openings g) (new.states g) = ap w.recorders place in
      let sent : r.seat.sent ≡ [] = ap (λ (q : RecorderValue). q.sent) h.seat in
      let backlog : r.backlog ≡ opening_record g (openings g) ∷ [] = ap (λ (l : List Record). l ++ r.backlog) (sym sent) ∙ h.made_is in
      let ends : EndsIn (items_of (opening_record g (openings g) ∷ [])) (state_of r.guest) =
      subst (λ (l : List Record). EndsIn (items_of l) (state_of r.guest)) h.made_is h.recorded.recorded.ends in
      let opens : EndsIn (items_of (opening_record g (openings g) ∷ [])) (new.states g) =
      (new.states g, (new.ready g low).opens, (refl, refl)) in
      let state : new.states g ≡ state_of r.guest =
      one_end_state (items_of (opening_record g (openings g) ∷ [])) (new.states g) (state_of r.guest) opens ends in
      record {
        seat = subst (λ (q : RecorderValue). StandsForRecorder q w) (sym h.seat) (seat_stands g low);
        backlog = ap (λ (x : Recorder). x.backlog) at ∙ ap (renumbered first) (sym backlog);
        earlier = [];
        states = ap (λ (x : Recorder). x.states) at ∙ ap (λ (s : State). s ∷ []) state;
        out_is = ap (λ (x : Recorder). x.out) at;
        has_put = h.has_put;
      }

pub starts_are_worlds : {D : Type 0} (device : Device D) → StartsAreWorlds device
starts_are_worlds device log bodies earlier flusher openings left next new = (
  w device log bodies earlier flusher openings left next new,
  is_start device log bodies earlier flusher openings left next new,
  refl,
  record {
    flusher_stands = flusher_stands device log bodies earlier flusher openings left next new;
    seats = seat_stands device log bodies earlier flusher openings left next new;
    recorders = recorder_stands device log bodies earlier flusher openings left next new;
  },
)
