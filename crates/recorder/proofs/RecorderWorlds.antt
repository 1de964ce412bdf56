-- A recorder's calls are events.
use Rattle.std.proofs.Common.{◌≡◌, inl, inr, ℕ, zero, suc, ◌+◌, ◌-◌, ◌<◌, ◌≤◌, Bool, false, List, [], ◌∷◌, ◌++◌, flat_map, length, map, min, take, refl, sym, ap, ◌∙◌, subst, arith, append_assoc}
use Rattle.std.proofs.lemmas.List.{append-nil, append_cancel_left, append_cancel_right, length-map, map-append, map_push, take-append-le}
use Rattle.rrv_model.specs.declared.limits.TheConstants.{MAX_NUMBER}
use Rattle.rrv_model.specs.declared.record.Choice.{Choice}
use Rattle.rrv_model.specs.declared.record.Item.{Item}
use Rattle.rrv_model.specs.declared.record.Item.TheVariants as items
use Rattle.rrv_model.specs.declared.record.Part.{Part}
use Rattle.rrv_model.specs.declared.record.Record.{Record}
use Rattle.rrv_model.specs.Output.{spread}
use Rattle.rrv_model.specs.RecordText.{HasText}
use Rattle.rrv_model.specs.Recovered.{of_guest}
use Rattle.rrv_model.specs.Recording.{EndsIn, IsNumbered, IsRecording, Starts, frame_record, items_of}
use Rattle.rrv_model.specs.State.{State}
use Rattle.std.specs.List.{AllByRecursion}
use Rattle.guest_calls.specs.Guest.{GuestValue, state_of}
use Rattle.serial_sched.specs.Asking.{Gives}
use Rattle.commit_core.specs.World.{World, Recorder, flag, made as made_there}
use Rattle.commit_core.specs.Events.{after, looked, looked_at_halt, pushed, released, sliced, CanSlice}
use Rattle.commit_core.specs.Events.Event.{Look, LookHalt, Push, Release, Slice}
use Rattle.commit_core.specs.Holders.{Act, Does, IsSameForRecorder, loading, plain}
use Rattle.commit_core.specs.Holders.Holder.{TheRecorder}
use Rattle.commit_core.specs.Runs.{IsBeginning, IsOutput, ItemsPut}
use Rattle.commit_core.proofs.Holders.{same_here}
use Rattle.commit_core.proofs.Lists.{put_same}
use Rattle.commit_core.proofs.Runs.{output_longer}
use Rattle.commit_group.specs.Numbers.{base, numbered, renumbered}
use Rattle.commit_group.specs.Seats.{RecorderValue}
use Rattle.commit_group.specs.Steps.{StandsForRecorder}
use Rattle.commit_group.specs.Submits.{after_look}
use Rattle.commit_group.proofs.WorldSteps.{does_then, does_weaker, flag_is, recorder_stays, stands_by}
use Rattle.recorder.specs.Recorded.{IsRecorded}
use Rattle.recorder.specs.declared.checkpoints.Parts.{Parts}
use Rattle.recorder.specs.RecorderCalls.{HasStepped, SendsSome, part_records}
use Rattle.recorder.specs.Owed.{joined}
use Rattle.recorder.specs.Recorders.{GuestRecorder, HasPut, HasRecorded, OutputIsCommitted, made, records_from}
use Rattle.recorder.specs.RecorderWorlds.{AreSends, RefusedStepsAreNoEvents, ReleasesAreEvents, SendsAreEvents, StandsForGuest, StepsAreEvents, next_in_store, releases, slices}
use Rattle.recorder.proofs.Made.{put_stays}
use Rattle.recorder.proofs.Parted.{some_pushed, without_parts}
use Rattle.recorder.proofs.Released.{output_is_durable}

-- ---- records under their numbers

renumbered_items : (b : ℕ) (rs : List Record) → items_of (renumbered b rs) ≡ items_of rs
renumbered_items b [] = refl
renumbered_items b (r ∷ rs) = ap (λ (l : List Item). r.item ∷ l) (renumbered_items b rs)

renumbered_numbered : (b g k : ℕ) (rs : List Record) → IsNumbered g k rs → IsNumbered (b + g) k (renumbered b rs)
renumbered_numbered b g k [] h = tt
renumbered_numbered b g k (r ∷ rs) h = (ap (λ n. b + n) h.0, h.1, renumbered_numbered b g (k + 1) rs h.2)

renumbered_take : (b k : ℕ) (rs : List Record) → items_of (take k (renumbered b rs)) ≡ items_of (take k rs)
renumbered_take b zero rs = refl
renumbered_take b (suc k) [] = refl
renumbered_take b (suc k) (r ∷ rs) = ap (λ (l : List Item). r.item ∷ l) (renumbered_take b k rs)

pub renumbered_text : (b : ℕ) (r : Record) → b + r.guest ≤ MAX_NUMBER → HasText r → HasText (numbered b r)
renumbered_text b r low h = record { guest = low; index = h.index; item = h.item }

last_has_text : (rs : List Record) (r : Record) → AllByRecursion HasText (rs ++ r ∷ []) → HasText r
last_has_text [] r h = h.0
last_has_text (q ∷ rs) r h = last_has_text rs r h.1

record Renumbered (b place : ℕ) (rs : List Record) (s : State) : Type 0 where
  recording : IsRecording (renumbered b rs)
  numbered : IsNumbered (b + place) 0 (renumbered b rs)
  ends : EndsIn (items_of (renumbered b rs)) s

renumbered_is : (b place : ℕ) (rs : List Record) (s : State) → IsRecorded place rs s → Renumbered b place rs s
renumbered_is b place rs s h =
    let n = renumbered_numbered b place 0 rs h.numbered in
    record {
      recording = record { guest = b + place; numbered = n; starts = subst Starts (sym (renumbered_items b rs)) h.recording.starts };
      numbered = n;
      ends = subst (λ (l : List Item). EndsIn l s) (sym (renumbered_items b rs)) h.ends;
    }

last_guest : (guest index : ℕ) (rs : List Record) (r : Record) → IsNumbered guest index (rs ++ r ∷ []) → r.guest ≡ guest
last_guest guest index [] r h = h.0
last_guest guest index (q ∷ rs) r h = last_guest guest (index + 1) rs r h.2

-- lists with equal fronts
same_front : (a b x y : List Record) → a ≡ b → a ++ x ≡ b ++ y → x ≡ y
same_front a b x y front both = append_cancel_left b x y (ap (λ (l : List Record). l ++ x) (sym front) ∙ both)

-- output looks at the items alone
output_of_items : (out out' : List (ℕ × ℕ)) (rs rs' : List Record) → out ≡ out' → items_of rs ≡ items_of rs' → IsOutput out rs →
    IsOutput out' rs'
output_of_items out out' rs rs' same its h =
    (h.0, subst (λ (l : List Item). ItemsPut l h.0) its h.1, subst (λ (l : List (ℕ × ℕ)). IsBeginning l (spread h.0)) same h.2)

-- ---- what the world's recorder made

made_in_world : (r : GuestRecorder) (out : List (ℕ × ℕ)) (w : World) → StandsForGuest r out w →
    made_there (w.recorders r.seat.guest) ≡ renumbered w.first_guest (made r)
made_in_world r out w h = (λ i. h.seat.sent i ++ h.backlog i) ∙ sym (map-append (numbered w.first_guest) r.seat.sent r.backlog)

-- ---- what stands for the part of a recorder

pub guest_stays : (r : GuestRecorder) (out : List (ℕ × ℕ)) (w v : World) → StandsForGuest r out w → IsSameForRecorder r.seat.guest w v →
    StandsForGuest r out v
guest_stays r out w v h same = record {
  seat = recorder_stays r.seat w v h.seat same;
  backlog = ap (λ (x : Recorder). x.backlog) same.recorder ∙ h.backlog ∙ ap (λ (n : ℕ). renumbered n r.backlog) (sym same.first_guest);
  earlier = h.earlier;
  states = ap (λ (x : Recorder). x.states) same.recorder ∙ h.states;
  out_is = ap (λ (x : Recorder). x.out) same.recorder ∙ h.out_is;
  has_put = h.has_put;
}

-- ---- slices

-- what the world's recorder keeps at a seat's place, where these records wait to be sent and this is the guest's state
record Waits (seat : RecorderValue) (backlog : List Record) (s : State) (out : List (ℕ × ℕ)) (w : World) : Type 0 where
  stands : StandsForRecorder seat w
  backlog_is : (w.recorders seat.guest).backlog ≡ renumbered w.first_guest backlog
  earlier : List State
  states_are : (w.recorders seat.guest).states ≡ earlier ++ s ∷ []
  out_is : (w.recorders seat.guest).out ≡ out

module _ (seat : RecorderValue) (backlog : List Record) (last : State) (out : List (ℕ × ℕ)) (w : World) (h : Waits seat backlog last out w)
    (room : w.first_guest + w.guests ≤ MAX_NUMBER + 1)
    (r : Record) (s : State) (all : IsRecorded seat.guest ((seat.sent ++ backlog) ++ r ∷ []) s) where
  abbrev g : ℕ
  g = seat.guest

  abbrev b : ℕ
  b = w.first_guest

  abbrev entry : Record
  entry = numbered b r

  abbrev one : Recorder
  one = sliced entry s (w.recorders g)

  longer : made_there (w.recorders g) ++ entry ∷ [] ≡ renumbered b ((seat.sent ++ backlog) ++ r ∷ [])
  longer =
      (λ i. (h.stands.sent i ++ h.backlog_is i) ++ entry ∷ [])
      ∙ ap (λ (l : List Record). l ++ entry ∷ []) (sym (map-append (numbered b) seat.sent backlog))
      ∙ sym (map_push (numbered b) (seat.sent ++ backlog) r)

  can_slice : CanSlice w g entry s
  can_slice =
      let there = renumbered_is b g ((seat.sent ++ backlog) ++ r ∷ []) s all in
      let low = h.stands.there in
      let last_text = last_has_text (seat.sent ++ backlog) r all.has_text in
      let place : r.guest ≡ g = last_guest g 0 (seat.sent ++ backlog) r all.numbered in
      record {
        guest = low;
        has_text = renumbered_text b r (omega arith) last_text;
        recording = subst IsRecording (sym longer) there.recording;
        numbered = subst (IsNumbered (b + g) 0) (sym longer) there.numbered;
        ends = subst (λ (l : List Record). EndsIn (items_of l) s) (sym longer) there.ends;
      }

  waits_behind : Waits seat (backlog ++ r ∷ []) s out (after w (Slice g entry s))
  waits_behind =
      let w' = after w (Slice g entry s) in
      let at : w'.recorders g ≡ one = put_same w.recorders g one in
      record {
        stands = stands_by w' seat one h.stands.there at h.stands.sent h.stands.seen h.stands.knows_halt h.stands.left;
        backlog_is =
            ap (λ (x : Recorder). x.backlog) at ∙ ap (λ (l : List Record). l ++ entry ∷ []) h.backlog_is
            ∙ sym (map_push (numbered b) backlog r);
        earlier = (w.recorders g).states;
        states_are = ap (λ (x : Recorder). x.states) at;
        out_is = ap (λ (x : Recorder). x.out) at ∙ h.out_is;
      }

waits_stay : (seat : RecorderValue) (backlog : List Record) (s : State) (out : List (ℕ × ℕ)) (w v : World) → Waits seat backlog s out w →
    IsSameForRecorder seat.guest w v → Waits seat backlog s out v
waits_stay seat backlog s out w v h same = record {
  stands = recorder_stays seat w v h.stands same;
  backlog_is = ap (λ (x : Recorder). x.backlog) same.recorder ∙ h.backlog_is ∙ ap (λ (n : ℕ). renumbered n backlog) (sym same.first_guest);
  earlier = h.earlier;
  states_are = ap (λ (x : Recorder). x.states) same.recorder ∙ h.states_are;
  out_is = ap (λ (x : Recorder). x.out) same.recorder ∙ h.out_is;
}

-- slices that make parts, in a row
rows : (parts : List Part) (index : ℕ) (seat : RecorderValue) (backlog : List Record) (s : State) (out : List (ℕ × ℕ)) (w : World) →
    Waits seat backlog s out w → w.first_guest + w.guests ≤ MAX_NUMBER + 1
    → IsRecorded seat.guest ((seat.sent ++ backlog) ++ records_from seat.guest index (map items.Part parts)) s
    → Does (TheRecorder seat.guest)
    (slices seat.guest (renumbered w.first_guest (records_from seat.guest index (map items.Part parts))) s)
    (Waits seat (backlog ++ records_from seat.guest index (map items.Part parts)) s out) w
rows [] index seat backlog s out w h room all =
    let here = subst (λ (l : List Record). Waits seat l s out w) (sym (append-nil backlog)) h in
    (w, same_here (TheRecorder seat.guest) w, λ v same. waits_stay seat (backlog ++ []) s out w v here same)
rows (p ∷ parts) index seat backlog s out w h room all =
    let g = seat.guest in
    let r : Record = record { guest = seat.guest; index = index; item = items.Part p } in
    let more = records_from seat.guest (index + 1) (map items.Part parts) in
    let made_here = seat.sent ++ backlog in
    let both : IsRecorded seat.guest ((made_here ++ r ∷ []) ++ more) s =
    subst (λ (l : List Record). IsRecorded seat.guest l s) (sym (append_assoc made_here (r ∷ []) more)) all in
    let first : IsRecorded seat.guest (made_here ++ r ∷ []) s =
    without_parts seat.guest (made_here ++ r ∷ []) seat.guest (index + 1) parts s (some_pushed made_here r) both in
    let e = Slice g (numbered w.first_guest r) s in
    let next = after w e in
    let waits = waits_behind seat backlog s out w h room r s first in
    let again : IsRecorded seat.guest ((seat.sent ++ (backlog ++ r ∷ [])) ++ more) s =
    subst (λ (l : List Record). IsRecorded seat.guest (l ++ more) s) (append_assoc seat.sent backlog (r ∷ [])) both in
    let rest = rows parts (index + 1) seat (backlog ++ r ∷ []) s out next waits room again in
    let later = slices g (renumbered w.first_guest more) s in
    does_then (TheRecorder g) w w (plain e) later (Waits seat (backlog ++ r ∷ more) s out) (same_here (TheRecorder g) w)
    (can_slice seat backlog s out w h room r s first) refl
    (subst (λ (l : List Record). Does (TheRecorder g) later (Waits seat l s out) next) (append_assoc backlog (r ∷ []) more) rest)

-- ---- the laws

module _ {O : Type 0} (gives : Gives O) (old new : GuestRecorder) (choice : Choice) (outcome : Parts) (before after' : O)
    (out : List (ℕ × ℕ)) (w : World)
    (step : HasStepped gives old choice outcome new before after') (recorded : HasRecorded new)
    (room : w.first_guest + w.guests ≤ MAX_NUMBER + 1) (h : StandsForGuest old out w) where
  abbrev at : ℕ
  at = old.seat.guest

  abbrev f : Record
  f = frame_record at (length (made old)) step.makes.frame

  abbrev prs : List Record
  prs = part_records step.between step.keeps.parts

  abbrev end : State
  end = state_of new.guest

  seats : new.seat ≡ old.seat
  seats = step.keeps.seat ∙ step.makes.seat

  between_at : step.between.seat.guest ≡ at
  between_at = ap (λ (q : RecorderValue). q.guest) step.makes.seat

  prs_are : prs ≡ records_from at (length (made step.between)) (map items.Part step.keeps.parts)
  prs_are = ap (λ (n : ℕ). records_from n (length (made step.between)) (map items.Part step.keeps.parts)) between_at

  made_all : made new ≡ (made old ++ f ∷ []) ++ prs
  made_all = step.keeps.made_is ∙ ap (λ (l : List Record). l ++ prs) step.makes.made_is

  all_recorded : IsRecorded at ((made old ++ f ∷ []) ++ records_from at (length (made step.between)) (map items.Part step.keeps.parts)) end
  all_recorded =
      subst (λ (x : ℕ × List Record). IsRecorded x.0 x.1 end)
      (λ i. ((ap (λ (q : RecorderValue). q.guest) seats) i, (made_all ∙ ap (λ (l : List Record). (made old ++ f ∷ []) ++ l) prs_are) i))
      recorded.recorded

  frame_recorded : IsRecorded at (made old ++ f ∷ []) end
  frame_recorded =
      without_parts at (made old ++ f ∷ []) at (length (made step.between)) step.keeps.parts end (some_pushed (made old) f) all_recorded

  waits : Waits old.seat old.backlog (state_of old.guest) out w
  waits = record { stands = h.seat; backlog_is = h.backlog; earlier = h.earlier; states_are = h.states; out_is = h.out_is }

  -- the backlog has as many records more
  backlog_is : new.backlog ≡ (old.backlog ++ f ∷ []) ++ records_from at (length (made step.between)) (map items.Part step.keeps.parts)
  backlog_is =
      let sent : new.seat.sent ≡ old.seat.sent = ap (λ (q : RecorderValue). q.sent) seats in
      let more = records_from at (length (made step.between)) (map items.Part step.keeps.parts) in
      same_front new.seat.sent old.seat.sent new.backlog ((old.backlog ++ f ∷ []) ++ more) sent
      (made_all ∙ ap (λ (l : List Record). (made old ++ f ∷ []) ++ l) prs_are
      ∙ ap (λ (l : List Record). l ++ more) (append_assoc old.seat.sent old.backlog (f ∷ []))
      ∙ append_assoc old.seat.sent (old.backlog ++ f ∷ []) more)

  stands_then : (w' : World) →
      Waits old.seat ((old.backlog ++ f ∷ []) ++ records_from at (length (made step.between)) (map items.Part step.keeps.parts)) end out w'
      → StandsForGuest new out w'
  stands_then w' k =
      let place : (w'.recorders new.seat.guest) ≡ (w'.recorders at) = ap (λ (q : RecorderValue). w'.recorders q.guest) seats in
      record {
        seat = subst (λ (q : RecorderValue). StandsForRecorder q w') (sym seats) k.stands;
        backlog = ap (λ (x : Recorder). x.backlog) place ∙ k.backlog_is ∙ ap (renumbered w'.first_guest) (sym backlog_is);
        earlier = k.earlier;
        states = ap (λ (x : Recorder). x.states) place ∙ k.states_are;
        out_is = ap (λ (x : Recorder). x.out) place ∙ k.out_is;
        has_put = step.keeps.has_put out (step.makes.has_put out h.has_put);
      }

  pub step_is_events : Does (TheRecorder at) (slices at (next_in_store w step) end) (StandsForGuest new out) w
  step_is_events =
      let more = records_from at (length (made step.between)) (map items.Part step.keeps.parts) in
      let e = Slice at (numbered w.first_guest f) end in
      let next = after w e in
      let first = waits_behind old.seat old.backlog (state_of old.guest) out w waits room f end frame_recorded in
      let again : IsRecorded at ((old.seat.sent ++ (old.backlog ++ f ∷ [])) ++ more) end =
      subst (λ (l : List Record). IsRecorded at (l ++ more) end) (append_assoc old.seat.sent old.backlog (f ∷ [])) all_recorded in
      let rest = rows step.keeps.parts (length (made step.between)) old.seat (old.backlog ++ f ∷ []) end out next first room again in
      let then_stands = does_weaker (TheRecorder at) next (slices at (renumbered w.first_guest more) end)
      (Waits old.seat ((old.backlog ++ f ∷ []) ++ more) end out) (StandsForGuest new out) stands_then rest in
      let later = slices at (renumbered w.first_guest prs) end in
      does_then (TheRecorder at) w w (plain e) later (StandsForGuest new out) (same_here (TheRecorder at) w)
      (can_slice old.seat old.backlog (state_of old.guest) out w waits room f end frame_recorded) refl
      (subst (λ (l : List Record). Does (TheRecorder at) (slices at (renumbered w.first_guest l) end) (StandsForGuest new out) next)
      (sym prs_are) then_stands)

pub steps_are_events : {O : Type 0} (gives : Gives O) → StepsAreEvents gives
steps_are_events gives old new choice outcome before after' out w step recorded room h =
    step_is_events gives old new choice outcome before after' out w step recorded room h

pub refused_steps_are_no_events : {O : Type 0} (gives : Gives O) → RefusedStepsAreNoEvents gives
refused_steps_are_no_events gives old new before after' out w unmoved h =
    let at : w.recorders new.seat.guest ≡ w.recorders old.seat.guest = ap (λ (q : RecorderValue). w.recorders q.guest) unmoved.seat in
    let made_is : made new ≡ made old = λ i. (unmoved.seat i).sent ++ unmoved.backlog i in
    let seen : new.seat.seen ≡ old.seat.seen = ap (λ (q : RecorderValue). q.seen) unmoved.seat in
    let size : length (made new) ≡ length (made old) = ap length made_is in
    record {
      seat = subst (λ (q : RecorderValue). StandsForRecorder q w) (sym unmoved.seat) h.seat;
      backlog = ap (λ (x : Recorder). x.backlog) at ∙ h.backlog ∙ ap (renumbered w.first_guest) (sym unmoved.backlog);
      earlier = h.earlier;
      states = ap (λ (x : Recorder). x.states) at ∙ h.states ∙ ap (λ (s : State). h.earlier ++ s ∷ []) (sym unmoved.state);
      out_is = ap (λ (x : Recorder). x.out) at ∙ h.out_is;
      has_put = record {
        each = λ k le within.
            let e = h.has_put.each k (omega arith) (omega arith) in (
              e.0,
              subst (λ (l : List Record). ItemsPut (items_of (take k l)) e.0) (sym made_is) e.1,
              (λ i. out ++ joined (take (k - unmoved.owed.0 i) (unmoved.owed.1 i))) ∙ e.2,
            );
      };
    }

-- ---- what is sent

-- what the world's recorder at a place keeps as it sends, where this waits, and it knows of the halt or not
record Sending (g b : ℕ) (all : List Record) (one : Recorder) (backlog : List Record) (knows : Bool) (w : World) : Type 0 where
  there : g < w.guests
  first_is : w.first_guest ≡ b
  all_is : (w.recorders g).sent ++ backlog ≡ all
  is : w.recorders g ≡ record one { sent = (w.recorders g).sent; backlog = backlog; knows_halt = knows }

sending_stays : (g b : ℕ) (all : List Record) (one : Recorder) (backlog : List Record) (knows : Bool) (w v : World) →
    Sending g b all one backlog knows w → IsSameForRecorder g w v → Sending g b all one backlog knows v
sending_stays g b all one backlog knows w v h same = record {
  there = subst (λ (n : ℕ). g < n) (sym same.guests) h.there;
  first_is = same.first_guest ∙ h.first_is;
  all_is = ap (λ (x : Recorder). x.sent ++ backlog) same.recorder ∙ h.all_is;
  is = same.recorder ∙ h.is
      ∙ ap (λ (x : Recorder). record one { sent = x.sent; backlog = backlog; knows_halt = knows }) (sym same.recorder);
}

module _ (g b : ℕ) (all : List Record) (one : Recorder) (here : one.left ≡ false) where
  sending : (doing : List Act) (backlog rest : List Record) (knows last : Bool) (w : World) → AreSends g backlog rest knows last doing →
      Sending g b all one backlog knows w → Does (TheRecorder g) doing (Sending g b all one rest last) w
  sending [] backlog rest knows last w sends h =
      let same = subst (λ (x : List Record × Bool). Sending g b all one x.0 x.1 w) (λ i. (sends.0 i, sends.1 i)) h in
      (w, same_here (TheRecorder g) w, λ v alike. sending_stays g b all one rest last w v same alike)
  sending (a ∷ doing) backlog rest knows last w (inl (found, a_is, sends)) h =
      let v : World = record w { words = λ k. flag found } in
      let e = LookHalt g in
      let next = after v e in
      let at : next.recorders g ≡ looked_at_halt (flag found) (w.recorders g) =
      put_same w.recorders g (looked_at_halt (flag found) (w.recorders g)) in
      let sent : (next.recorders g).sent ≡ (w.recorders g).sent = ap (λ (x : Recorder). x.sent) at in
      let then_sending : Sending g b all one backlog found next = record {
        there = h.there;
        first_is = h.first_is;
        all_is = ap (λ (l : List Record). l ++ backlog) sent ∙ h.all_is;
        is = at ∙ (λ i. record (h.is i) { knows_halt = flag_is found i })
            ∙ ap (λ (l : List Record). record one { sent = l; backlog = backlog; knows_halt = found }) (sym sent);
      } in
      let later = sending doing backlog rest found last next sends then_sending in
      subst (λ (x : Act). Does (TheRecorder g) (x ∷ doing) (Sending g b all one rest last) w) (sym a_is)
      (does_then (TheRecorder g) w v (loading e (flag found)) doing (Sending g b all one rest last)
      (record { guests = refl; first_guest = refl; recorder = refl }) h.there refl later)
  sending (a ∷ doing) backlog rest knows last w (inr (r, more, is, a_is, sends)) h =
      let v : World = record w { queue = [] } in
      let e = Push g r more in
      let next = after v e in
      let at : next.recorders g ≡ pushed r more (w.recorders g) = put_same w.recorders g (pushed r more (w.recorders g)) in
      let sent : (next.recorders g).sent ≡ (w.recorders g).sent ++ r ∷ [] = ap (λ (x : Recorder). x.sent) at in
      let then_sending : Sending g b all one more knows next = record {
        there = h.there;
        first_is = h.first_is;
        all_is = ap (λ (l : List Record). l ++ more) sent ∙ append_assoc (w.recorders g).sent (r ∷ []) more
            ∙ ap (λ (l : List Record). (w.recorders g).sent ++ l) (sym is) ∙ h.all_is;
        is = at ∙ (λ i. record (h.is i) { sent = (w.recorders g).sent ++ r ∷ []; backlog = more })
            ∙ ap (λ (l : List Record). record one { sent = l; backlog = more; knows_halt = knows }) (sym sent);
      } in
      let later = sending doing more rest knows last next sends then_sending in
      subst (λ (x : Act). Does (TheRecorder g) (x ∷ doing) (Sending g b all one rest last) w) (sym a_is)
      (does_then (TheRecorder g) w v (plain e) doing (Sending g b all one rest last)
      (record { guests = refl; first_guest = refl; recorder = refl })
      (record {
        guest = h.there;
        next = ap (λ (x : Recorder). x.backlog) h.is ∙ is;
        room = omega arith;
        here = ap (λ (x : Recorder). x.left) h.is ∙ here;
      }) refl later)

module _ (old new : GuestRecorder) (out : List (ℕ × ℕ)) (w : World) (sends : SendsSome old new) (h : StandsForGuest old out w) where
  abbrev place : ℕ
  place = old.seat.guest

  abbrev was : Recorder
  was = w.recorders place

  abbrev Sent : World → Type 0
  Sent =
      Sending place w.first_guest (renumbered w.first_guest (made old)) was (renumbered w.first_guest new.backlog) new.seat.knows_halt

  sent_stands : (v : World) → Sent v → StandsForGuest new out v
  sent_stands v s =
      let b = w.first_guest in
      let there : new.seat.guest ≡ place = ap (λ (q : RecorderValue). q.guest) sends.seat in
      let at : v.recorders new.seat.guest ≡ v.recorders place = ap v.recorders there in
      let now : v.recorders new.seat.guest ≡ record was {
        sent = (v.recorders place).sent;
        backlog = renumbered b new.backlog;
        knows_halt = new.seat.knows_halt;
      } = at ∙ s.is in
      let sent : (v.recorders place).sent ≡ renumbered b new.seat.sent =
      append_cancel_right (v.recorders place).sent (renumbered b new.seat.sent) (renumbered b new.backlog)
      (s.all_is ∙ ap (renumbered b) (sym sends.made_is) ∙ map-append (numbered b) new.seat.sent new.backlog) in
      record {
        seat = stands_by v new.seat (v.recorders new.seat.guest) (subst (λ (n : ℕ). n < v.guests) (sym there) s.there) refl
            (ap (λ (x : Recorder). x.sent) now ∙ sent ∙ ap (λ (n : ℕ). renumbered n new.seat.sent) (sym s.first_is))
            (ap (λ (x : Recorder). x.seen) now ∙ h.seat.seen ∙ sym (ap (λ (q : RecorderValue). q.seen) sends.seat))
            (ap (λ (x : Recorder). x.knows_halt) now)
            (ap (λ (x : Recorder). x.left) now ∙ h.seat.left ∙ sym (ap (λ (q : RecorderValue). q.has_left) sends.seat));
        backlog = ap (λ (x : Recorder). x.backlog) now ∙ ap (λ (n : ℕ). renumbered n new.backlog) (sym s.first_is);
        earlier = h.earlier;
        states = ap (λ (x : Recorder). x.states) now ∙ h.states
            ∙ ap (λ (u : GuestValue). h.earlier ++ state_of u ∷ []) (sym sends.guest);
        out_is = ap (λ (x : Recorder). x.out) now ∙ h.out_is;
        has_put = put_stays old new sends out h.has_put;
      }

  begins_sending : Sending place w.first_guest (renumbered w.first_guest (made old)) was (renumbered w.first_guest old.backlog)
      old.seat.knows_halt w
  begins_sending = record {
    there = h.seat.there;
    first_is = refl;
    all_is = ap (λ (l : List Record). l ++ renumbered w.first_guest old.backlog) h.seat.sent
        ∙ sym (map-append (numbered w.first_guest) old.seat.sent old.backlog);
    is = λ i. record was { backlog = h.backlog i; knows_halt = h.seat.knows_halt i };
  }

pub sends_are_events : SendsAreEvents
sends_are_events old new out w doing sends here are h =
    let g = old.seat.guest in
    let b = w.first_guest in
    does_weaker (TheRecorder g) w doing (Sent old new out w sends h) (StandsForGuest new out) (sent_stands old new out w sends h)
    (sending g b (renumbered b (made old)) (w.recorders g) (h.seat.left ∙ here) doing (renumbered b old.backlog) (renumbered b new.backlog)
    old.seat.knows_halt new.seat.knows_halt w are (begins_sending old new out w sends h))

-- ---- what is released

abbrev joined_parts : List (List (ℕ × ℕ)) → List (ℕ × ℕ)
joined_parts parts = flat_map (λ part. part) parts

-- a beginning of an output is one
output_front : (a b : List (ℕ × ℕ)) (rs : List Record) → IsOutput (a ++ b) rs → IsOutput a rs
output_front a b rs h = (h.0, h.1, (b ++ h.2.0, sym (append_assoc a b h.2.0) ∙ h.2.1))

-- parts that are released one after another are released at once
releases_own : (g : ℕ) (parts : List (List (ℕ × ℕ))) (w : World) → g < w.guests →
    IsOutput ((w.recorders g).out ++ joined_parts parts) (take (w.recorders g).seen (made_there (w.recorders g))) →
    Does (TheRecorder g) (releases g parts) (IsSameForRecorder g (after w (Release g (joined_parts parts)))) w
releases_own g [] w low is =
    let one = w.recorders g in
    let at : (after w (Release g [])).recorders g ≡ one =
    put_same w.recorders g (released [] one) ∙ (λ i. record one { out = append-nil one.out i }) in (
      w,
      same_here (TheRecorder g) w,
      λ v same. record {
        guests = same.guests;
        first_guest = same.first_guest;
        recorder = same.recorder ∙ sym at;
      },
    )
releases_own g (more ∷ parts) w low is =
    let one = w.recorders g in
    let rest = joined_parts parts in
    let e = Release g more in
    let next = after w e in
    let at : next.recorders g ≡ released more one = put_same w.recorders g (released more one) in
    let both : IsOutput ((one.out ++ more) ++ rest) (take one.seen (made_there one)) =
    subst (λ (l : List (ℕ × ℕ)). IsOutput l (take one.seen (made_there one))) (sym (append_assoc one.out more rest)) is in
    let then_is : IsOutput ((next.recorders g).out ++ rest) (take (next.recorders g).seen (made_there (next.recorders g))) =
    subst (λ (x : Recorder). IsOutput (x.out ++ rest) (take x.seen (made_there x))) (sym at) both in
    let later = releases_own g parts next low then_is in
    let last : (after w (Release g (more ++ rest))).recorders g ≡ (after next (Release g rest)).recorders g =
    put_same w.recorders g (released (more ++ rest) one) ∙ (λ i. record one { out = sym (append_assoc one.out more rest) i })
    ∙ ap (released rest) (sym at) ∙ sym (put_same next.recorders g (released rest (next.recorders g))) in
    does_then (TheRecorder g) w w (plain e) (releases g parts) (IsSameForRecorder g (after w (Release g (more ++ rest))))
    (same_here (TheRecorder g) w) (low, output_front (one.out ++ more) rest (take one.seen (made_there one)) both) refl
    (does_weaker (TheRecorder g) next (releases g parts) (IsSameForRecorder g (after next (Release g rest)))
    (IsSameForRecorder g (after w (Release g (more ++ rest))))
    (λ v same. record { guests = same.guests; first_guest = same.first_guest; recorder = same.recorder ∙ sym last }) later)

pub release_is_events : (old new : GuestRecorder) (more out : List (ℕ × ℕ)) (w : World) (word : ℕ) (parts : List (List (ℕ × ℕ))) →
    ((out : List (ℕ × ℕ)) → HasPut old out → HasPut new (out ++ more)) → joined_parts parts ≡ more → new.seat ≡ after_look old.seat word
    → (new.backlog ≡ old.backlog) × (new.guest ≡ old.guest) → StandsForGuest old out w
    → Does (TheRecorder old.seat.guest) (loading (Look old.seat.guest) word ∷ releases old.seat.guest parts)
    (StandsForGuest new (out ++ more)) w
release_is_events old new more out w word parts has_put all looks same h =
    let g = old.seat.guest in
    let v : World = record w { words = λ k. word } in
    let seen = after v (Look g) in
    let looked_there = looked word (w.recorders g) in
    let at : seen.recorders g ≡ looked_there = put_same w.recorders g looked_there in
    let has = has_put out h.has_put in
    let sent_count : length (w.recorders g).sent ≡ length old.seat.sent =
    ap length h.seat.sent ∙ length-map old.seat.sent (numbered w.first_guest) in
    let seen_is : (seen.recorders g).seen ≡ new.seat.seen =
    ap (λ (x : Recorder). x.seen) at ∙ ap (λ n. min word n) sent_count ∙ sym (ap (λ (q : RecorderValue). q.seen) looks) in
    let sent_is : new.seat.sent ≡ old.seat.sent = ap (λ (q : RecorderValue). q.sent) looks in
    let made_is : made new ≡ made old = λ i. sent_is i ++ same.0 i in
    let low : new.seat.seen ≤ length new.seat.sent =
    (let e : new.seat.seen ≡ min word (length old.seat.sent) = ap (λ (q : RecorderValue). q.seen) looks in
    let n : length new.seat.sent ≡ length old.seat.sent = ap length sent_is in omega arith) in
    let made_here : made_there (seen.recorders g) ≡ renumbered w.first_guest (made new) =
    ap made_there at ∙ made_in_world old out w h ∙ ap (renumbered w.first_guest) (sym made_is) in
    let out_here : (seen.recorders g).out ≡ out = ap (λ (x : Recorder). x.out) at ∙ h.out_is in
    let durable : IsOutput (out ++ more) (take new.seat.seen (made new)) = output_is_durable new (out ++ more) low has in
    let items_here : items_of (take (seen.recorders g).seen (made_there (seen.recorders g))) ≡ items_of (take new.seat.seen (made new)) =
    (λ i. items_of (take (seen_is i) (made_here i))) ∙ renumbered_take w.first_guest new.seat.seen (made new) in
    let may : IsOutput ((seen.recorders g).out ++ joined_parts parts) (take (seen.recorders g).seen (made_there (seen.recorders g))) =
    output_of_items (out ++ more) ((seen.recorders g).out ++ joined_parts parts) (take new.seat.seen (made new))
    (take (seen.recorders g).seen (made_there (seen.recorders g)))
    (λ i. sym out_here i ++ sym all i) (sym items_here) durable in
    let put_all = joined_parts parts in
    let last = released put_all (seen.recorders g) in
    let end = after seen (Release g put_all) in
    let at' : end.recorders g ≡ last = put_same seen.recorders g last in
    let place : new.seat.guest ≡ g = ap (λ (q : RecorderValue). q.guest) looks in
    let here : end.recorders new.seat.guest ≡ last = ap (λ (n : ℕ). end.recorders n) place ∙ at' in
    let seat_old : StandsForRecorder (after_look old.seat word) end =
    stands_by end (after_look old.seat word) last h.seat.there at' (ap (λ (x : Recorder). x.sent) at ∙ h.seat.sent)
    (ap (λ (x : Recorder). x.seen) at ∙ ap (λ n. min word n) sent_count) (ap (λ (x : Recorder). x.knows_halt) at ∙ h.seat.knows_halt)
    (ap (λ (x : Recorder). x.left) at ∙ h.seat.left) in
    let stands : StandsForGuest new (out ++ more) end = record {
      seat = subst (λ (q : RecorderValue). StandsForRecorder q end) (sym looks) seat_old;
      backlog = ap (λ (x : Recorder). x.backlog) here ∙ ap (λ (x : Recorder). x.backlog) at ∙ h.backlog
          ∙ ap (renumbered w.first_guest) (sym same.0);
      earlier = h.earlier;
      states = ap (λ (x : Recorder). x.states) here ∙ ap (λ (x : Recorder). x.states) at ∙ h.states
          ∙ ap (λ (u : GuestValue). h.earlier ++ state_of u ∷ []) (sym same.1);
      out_is = ap (λ (x : Recorder). x.out) here ∙ (λ i. out_here i ++ all i);
      has_put = has;
    } in
    does_then (TheRecorder g) w v (loading (Look g) word) (releases g parts) (StandsForGuest new (out ++ more))
    (record { guests = refl; first_guest = refl; recorder = refl }) h.seat.there refl
    (does_weaker (TheRecorder g) seen (releases g parts) (IsSameForRecorder g end) (StandsForGuest new (out ++ more))
    (λ u alike. guest_stays new (out ++ more) end u stands
    (subst (λ (n : ℕ). IsSameForRecorder n end u) (sym place) alike)) (releases_own g parts seen h.seat.there may))

pub releases_are_events : {S : Type 0} (tells : S → Type 0) (taken : S → List (ℕ × ℕ)) → ReleasesAreEvents tells taken
releases_are_events tells taken old new sink sink' result out w word parts puts all looks same h =
    release_is_events old new puts.put out w word parts puts.has_put all looks same h

-- what has left is output of what is committed at the end
pub output_is_committed : OutputIsCommitted
output_is_committed r out f sent committed seen recorded has ended =
    let a = ended.seen_is in
    let b = ended.seen_of_committed in
    let c = ended.committed_of_sent in
    let d = ended.sent_is in
    let durable = output_is_durable r out (omega arith) has in
    let more = output_longer out r.seat.seen committed (made r) recorded.recorded.recording (omega arith) durable in
    let of_sent : take committed (made r) ≡ take committed r.seat.sent = take-append-le committed r.seat.sent r.backlog (omega arith) in
    output_of_items out out (take committed (made r)) (of_guest (base f.first_guest + r.seat.guest) f.committed) refl
    (ap items_of of_sent ∙ sym (renumbered_items (base f.first_guest) (take committed r.seat.sent)) ∙ sym (ap items_of ended.beginning))
    more
