-- The example's start and its events.
use Rattle.std.proofs.Common.{◌≡◌, inr, ℕ, zero, suc, ◌+◌, ◌<◌, ◌≤◌, List, [], ◌∷◌, ◌++◌, length, take, refl, sym, ap, subst, arith, add-zero, Some}
use Rattle.std.specs.List.{AllByRecursion}
use Rattle.rrv_model.specs.declared.machine.GuestEnd.TheVariants.{Exited}
use Rattle.rrv_model.specs.declared.record.End.TheVariants as ends
use Rattle.rrv_model.specs.declared.record.Frame.{Frame}
use Rattle.rrv_model.specs.declared.record.Record.{Record}
use Rattle.store_model.specs.CrashModel.{DiskState}
use Rattle.rrv_model.specs.State.{State}
use Rattle.rrv_model.specs.RecordText.{HasText, record_text, payload, opening_text, call_text}
use Rattle.rrv_model.specs.Recording.{IsRecording, IsNumbered, EndsIn, frame_record, items_of}
use Rattle.store_model.specs.StoreText.{IsBody}
use Rattle.rrv_model.specs.Recovered.{body_text, IsOld, next_guest, IsRecovered}
use Rattle.commit_core.specs.Runs.{IsOutput}
use Rattle.commit_core.specs.World.{World, Recorder, IsStart, IsReady, IsAtRest, made, opening_record, stored_bodies, store_text, closed_store}
use Rattle.commit_core.specs.World.Stage.{Idle}
use Rattle.commit_core.specs.Events.{Event, CanSlice, CanWrite, after, run, gate_place, next_body, IsSchedule}
use Rattle.commit_core.specs.Events.Event.{Slice, WriteBody, Sync1, OpenGate}
use Rattle.commit_core.specs.Example.{example_opening, example_state, example_recorder, start_on, example_start, wrote, exited, write_frame, all_three, up_to_received, up_to_gate, from_gate_on, up_to_release}
use Rattle.commit_core.proofs.Events.{schedule-append}
use Rattle.commit_core.proofs.ExampleGuest.{Ended, the_byte, opens, guest_ends}

-- ---- texts

opened_has_text : (number : ℕ) → number ≤ 1 → HasText (opening_record number example_opening)
opened_has_text number low = record {
  guest = omega (arith, low);
  index = omega arith;
  item = record {
    elf = omega arith;
    elf_bytes = opens.file_bytes;
    name = opens.is_name;
    random = refl;
    random_bytes = opens.random_bytes;
  };
}

abbrev call_frame : ℕ → ℕ → Frame
call_frame count result = record { tid = 1; count = count; end = ends.Call (record { result = result; written = [] }) }

call_has_text : (number index count result : ℕ) → number ≤ 1 → index ≤ 2 → 1 ≤ count → count ≤ 5 → result ≤ 1 →
    HasText (frame_record number index (call_frame count result))
call_has_text number index count result one low some few small = record {
  guest = omega (arith, one);
  index = omega (arith, low);
  item = (
    record { tid_low = omega arith; tid_high = omega arith; count_low = some; count_high = omega (arith, few) },
    record { result = omega (arith, small); two = omega arith; written = tt },
  );
}

exited_has_text : HasText exited
exited_has_text = call_has_text 0 2 2 0 (omega arith) (omega arith) (omega arith) (omega arith) (omega arith)

body_len : length (body_text all_three) ≡ 205
unfolding record_text payload opening_text call_text
body_len = refl

pub gate_len : length (store_text []) ≡ 16
unfolding store_text
gate_len = refl

-- ---- the start

pub is_ready : (number : ℕ) → number ≤ 1 → IsReady number (example_recorder number)
is_ready number low =
    record { opening = example_opening; state = example_state; opens = opens; has_text = opened_has_text number low; is = refl }

ready : (number g : ℕ) → number ≤ 1 → g < 1 → IsReady (number + g) (example_recorder number)
ready number zero low one = subst (λ (n : ℕ). IsReady n (example_recorder number)) (sym (add-zero number)) (is_ready number low)
ready number (suc g) low one = absurd (omega (arith, one))

-- a store with these bodies, from which these records are recovered, can be recorded into
pub starts_with : (bodies : List (List ℕ)) (number guests : ℕ) (recorders : ℕ → Recorder) (disk : DiskState) (old : List Record)
    → number ≤ 1 → 1 ≤ guests → guests ≤ 2 → IsRecovered bodies old → number ≡ next_guest old → AllByRecursion IsBody bodies →
    length bodies ≤ 1
    → IsAtRest disk (closed_store bodies) → ((g : ℕ) → g < guests → IsReady (number + g) (recorders g))
    → IsStart (record (start_on bodies number) { guests = guests; recorders = recorders; disk = disk }) old
starts_with bodies number guests recorders disk old low some two recovered next sizes few rests ready = record {
  some = some;
  few = omega (arith, two);
  recovered = recovered;
  next = next;
  room = omega (arith, low, two);
  are_bodies = sizes;
  count = omega (arith, few);
  disk = rests;
  ready = ready;
  queue = refl;
  words = λ k. refl;
  flusher = refl;
}

-- one guest
pub starts_at : (bodies : List (List ℕ)) (number : ℕ) (disk : DiskState) (old : List Record) → number ≤ 1 → IsRecovered bodies old →
    number ≡ next_guest old
    → AllByRecursion IsBody bodies → length bodies ≤ 1 → IsAtRest disk (closed_store bodies) →
    IsStart (record (start_on bodies number) { disk = disk }) old
starts_at bodies number disk old low recovered next sizes few rests =
    starts_with bodies number 1 (λ g. example_recorder number) disk old low (omega arith) (omega arith) recovered next sizes few rests
    (λ g one. ready number g low one)

pub starts_on : (bodies : List (List ℕ)) (number : ℕ) (old : List Record) → number ≤ 1 → IsRecovered bodies old → number ≡ next_guest old →
    AllByRecursion IsBody bodies → length bodies ≤ 1 → IsStart (start_on bodies number) old
starts_on bodies number old low recovered next sizes few =
    starts_at bodies number (start_on bodies number).disk old low recovered next sizes few (record { read = refl; synced = refl })

pub nothing_recovered : IsRecovered [] []
nothing_recovered = record { batches = []; texts = tt; joined = refl; in_order = record { numbered = λ guest. tt; opened = tt } }

pub starts : IsStart example_start []
starts = starts_on [] 0 [] (omega arith) nothing_recovered refl tt (omega arith)

-- ---- the events

-- a short body may be written behind a short store
pub writes_short : (w : World) (count : ℕ) → w.flusher.stage ≡ Idle → 1 ≤ count → count ≤ 64 → count ≤ length w.flusher.waiting
    → length (next_body w count) ≤ 1000 → length (stored_bodies w) ≤ 1 → gate_place w ≤ 1000
    → AllByRecursion (λ (r : Record). IsOld r.item) (take count w.flusher.waiting) → CanWrite w count
writes_short w count idle some few there short bodies low old = record {
  idle = idle;
  some = some;
  few = few;
  there = there;
  body = omega (arith, short);
  number = omega (arith, bodies);
  store = omega (arith, low, short);
  old = inr old;
}

module _ (guest : Ended) where
  abbrev one_more : World
  one_more = after example_start (Slice 0 wrote guest.written)

  -- a recorder that has its Opening alone makes the frame that writes
  pub writes_frame : (w : World) (g : ℕ) → g < w.guests → w.first_guest + g ≤ 1 →
      made (w.recorders g) ≡ opening_record (w.first_guest + g) example_opening ∷ []
      → CanSlice w g (frame_record (w.first_guest + g) 1 write_frame) guest.written
  writes_frame w g there low is =
      let number = w.first_guest + g in
      let frame = frame_record number 1 write_frame in
      let both = opening_record number example_opening ∷ frame ∷ [] in
      let same : made (w.recorders g) ++ frame ∷ [] ≡ both = ap (λ (l : List Record). l ++ frame ∷ []) is in
      let recording : IsRecording both =
      record {
        guest = number;
        numbered = (refl, refl, (refl, refl, tt));
        starts = (example_state, opens, (guest.written, guest.writes, tt));
      } in
      let numbered : IsNumbered number 0 both = (refl, refl, (refl, refl, tt)) in
      let ends : EndsIn (items_of both) guest.written = (example_state, opens, (guest.written, guest.writes, (refl, refl))) in
      record {
        guest = there;
        has_text = call_has_text number 1 5 1 low (omega arith) (omega arith) (omega arith) (omega arith);
        recording = subst IsRecording (sym same) recording;
        numbered = subst (IsNumbered number 0) (sym same) numbered;
        ends = subst (λ (l : List Record). EndsIn (items_of l) guest.written) (sym same) ends;
      }

  can_write : CanSlice example_start 0 wrote guest.written
  can_write = writes_frame example_start 0 (omega arith) (omega arith) refl

  can_exit : CanSlice one_more 0 exited guest.ended
  can_exit = record {
    guest = omega arith;
    has_text = exited_has_text;
    recording = record {
      guest = 0;
      numbered = (refl, refl, (refl, refl, (refl, refl, tt)));
      starts = (example_state, opens, (guest.written, guest.writes, (guest.ended, guest.exits, tt)));
    };
    numbered = (refl, refl, (refl, refl, (refl, refl, tt)));
    ends = (example_state, opens, (guest.written, guest.writes, (guest.ended, guest.exits, (refl, refl))));
  }

  abbrev pub all_received : World
  all_received = run example_start (up_to_received guest.written guest.ended)

  pub can_commit : CanWrite all_received 3
  can_commit =
      writes_short all_received 3 refl (omega arith) (omega arith) (omega arith) (omega (arith, body_len)) (omega arith)
      (omega (arith, gate_len)) (refl, (refl, (refl, tt)))

  pub received_schedule : IsSchedule example_start (up_to_received guest.written guest.ended)
  received_schedule = (
    can_write,
    (
      can_exit,
      (
        record { guest = omega arith; next = refl; room = omega arith; here = refl },
        (
          record { guest = omega arith; next = refl; room = omega arith; here = refl },
          (record { guest = omega arith; next = refl; room = omega arith; here = refl }, (refl, (refl, (refl, tt)))),
        ),
      ),
    ),
  )

  -- the records are received, and then this happens
  pub then_schedule : (events : List Event) → IsSchedule all_received events →
      IsSchedule example_start (up_to_received guest.written guest.ended ++ events)
  then_schedule events schedule = schedule-append example_start (up_to_received guest.written guest.ended) events received_schedule schedule

  pub gate_schedule : IsSchedule example_start (up_to_gate guest.written guest.ended)
  gate_schedule = then_schedule (WriteBody 3 ∷ Sync1 ∷ OpenGate ∷ []) (can_commit, (refl, (refl, tt)))

  -- of any number
  pub first_put : (number : ℕ) → IsOutput ((1, 0x7F) ∷ []) (opening_record number example_opening ∷ frame_record number 1 write_frame ∷ [])
  first_put number =
      (the_byte, (example_state, opens, (guest.written, the_byte, [], guest.writes, guest.puts_byte, refl, refl)), ([], refl))

  byte_put : IsOutput ((1, 0x7F) ∷ []) all_three
  byte_put = (
    the_byte,
    (
      example_state,
      opens,
      (
        guest.written,
        the_byte,
        [],
        guest.writes,
        guest.puts_byte,
        (guest.ended, [], [], guest.exits, guest.puts_nothing, refl, refl),
        refl,
      ),
    ),
    ([], refl),
  )

  pub release_schedule : IsSchedule example_start (up_to_release guest.written guest.ended)
  release_schedule = schedule-append example_start (up_to_gate guest.written guest.ended) from_gate_on gate_schedule (
    refl,
    (omega arith, (omega arith, ((omega arith, byte_put), (tt, (omega arith, (omega arith, (omega arith, tt))))))),
  )

pub byte_leaves : (written ended : State) × IsSchedule example_start (up_to_release written ended)
    × (((run example_start (up_to_release written ended)).recorders 0).out ≡ (1, 0x7F) ∷ []) × (ended.ended ≡ Some (Exited 1))
byte_leaves = (guest_ends.written, guest_ends.ended, release_schedule guest_ends, refl, guest_ends.exited)
