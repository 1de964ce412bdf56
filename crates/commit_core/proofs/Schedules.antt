-- Over a whole schedule.
use Rattle.std.proofs.Common.{◌≡◌, inl, inr, ℕ, zero, suc, ◌+◌, ◌<◌, Bool, List, [], ◌∷◌, ◌++◌, length, map, take, refl, ap, arith, sym, subst, ◌∙◌}
use Rattle.std.specs.Prelude.{slice_get, IsSomeAnd}
use Rattle.std.specs.List.{AllByRecursion}
use Rattle.std.proofs.lemmas.List.{append-nil}
use Rattle.rrv_model.specs.declared.record.Record.{Record}
use Rattle.rrv_model.specs.Recording.{EndsIn, items_of}
use Rattle.store_model.specs.StoreText.{IsBody}
use Rattle.rrv_model.specs.Recovered.{body_text, MayFollow}
use Rattle.commit_core.specs.World.{World, Recorder, Flusher, IsStart, IsReady, IsAtRest, received, stored_bodies, flag, closed_store, opening_record}
use Rattle.commit_core.specs.Events.{Event, after, run, IsSchedule}
use Rattle.commit_core.specs.Events.Event.{Slice, Push, Look, Release, LookHalt, Leave, Pop, WriteBody, WriteBodyFails, Sync1, Sync1Fails, OpenGate, OpenGateFails, Sync2, Sync2Fails, Publish, Halt, LookLeft}
use Rattle.commit_core.specs.Facts.{Facts}
use Rattle.commit_core.proofs.Runs.{nothing_put}
use Rattle.commit_core.proofs.Invariant.{total, written, IsOwn, RecorderInvariant, Invariant}
use Rattle.commit_core.proofs.Stages.{DiskAt, outcome_at, sound_outcome}
use Rattle.commit_core.proofs.Rows.{keeps}

-- what holds of a recorder that is ready
invariant_of_ready : (first_guest guests k : ℕ) (words totals : ℕ → ℕ) (halted : Bool) (r : Recorder) → IsReady (first_guest + k) r →
    ((j : ℕ) → words j ≡ 0) → ((j : ℕ) → totals j ≡ 0)
    → RecorderInvariant first_guest guests [] words halted totals k r
invariant_of_ready first_guest guests k words totals halted r ready zero_words zero_totals =
    subst (RecorderInvariant first_guest guests [] words halted totals k) (sym ready.is) (record {
      sent = refl;
      seen = record { in_word = omega arith; in_sent = omega arith };
      halt_known = λ knows. cc;
      left = record { told = zero_words (guests + 1 + k); known = inl (zero_totals k) };
      output = nothing_put;
      recording = record {
        texts = (ready.has_text, tt);
        run = record {
          recording = record { guest = first_guest + k; numbered = (refl, refl, tt); starts = (ready.state, ready.opens, tt) };
          numbered = (refl, refl, tt);
          length_is = refl;
          had = λ j l. one_state j l;
        };
      };
    })
  where
    one_state : (j : ℕ) → j < 1 →
        IsSomeAnd (slice_get (ready.state ∷ []) j) (EndsIn (items_of (take (suc j) (opening_record (first_guest + k) ready.opening ∷ []))))
    one_state zero l = (ready.state, ready.opens, (refl, refl))
    one_state (suc j) l = absurd (omega (arith, l))

pub invariant_at_start : (w : World) (old : List Record) → IsStart w old → Invariant w old
invariant_at_start w old s =
    let none : total w ≡ [] = ap (λ (f : Flusher). received f ++ w.queue) s.flusher ∙ s.queue in
    let bodies : stored_bodies w ≡ w.bodies = ap (λ (f : Flusher). w.bodies ++ map body_text f.finished) s.flusher ∙ append-nil w.bodies in
    record {
      store = record {
        recovered = s.recovered;
        next = s.next;
        sizes = subst (AllByRecursion IsBody) (sym bodies) s.are_bodies;
        few = omega (arith, s.count, ap length bodies);
        follow = subst (λ (f : Flusher). MayFollow w.bodies (written f)) (sym s.flusher) (inr tt);
      };
      words = record {
        counts = λ k l. s.words k ∙ sym (ap (λ (f : Flusher). f.told k) s.flusher);
        halt = s.words w.guests ∙ sym (ap (λ (f : Flusher). flag f.halted) s.flusher);
      };
      own = subst (AllByRecursion (IsOwn w.first_guest w.guests)) (sym none) tt;
      told = λ k l. omega (arith, ap (λ (f : Flusher). f.told k) s.flusher);
      each = λ k l. subst
          (λ (t : List Record). RecorderInvariant w.first_guest w.guests t w.words w.flusher.halted w.flusher.totals k (w.recorders k))
          (sym none)
          (invariant_of_ready w.first_guest w.guests k w.words w.flusher.totals w.flusher.halted (w.recorders k) (s.ready k l) s.words
          (λ j. ap (λ (f : Flusher). f.totals j) s.flusher));
      disk = subst (λ (f : Flusher). DiskAt f.stage w.disk (w.bodies ++ map body_text f.finished) (body_text f.hand)) (sym s.flusher)
          (subst (λ (b : List (List ℕ)). IsAtRest w.disk (closed_store b)) (sym (append-nil w.bodies)) s.disk, refl);
    }

pub invariant_of_run : (w : World) (old : List Record) (events : List Event) → Invariant w old → IsSchedule w events →
    Invariant (run w events) old
invariant_of_run w old [] h schedule = h
invariant_of_run w old (e ∷ events) h schedule = invariant_of_run (after w e) old events (keeps w old e h schedule.0) schedule.1

pub facts : (w : World) (old : List Record) → Invariant w old → Facts w
facts w old h = record {
  queue = record { sent = λ g l. (h.each g l).sent; made = λ g l. ((w.recorders g).backlog, refl) };
  words = record {
    counts = h.words.counts;
    halt = h.words.halt;
    seen = λ g l. (h.each g l).seen.in_word;
    halt_known = λ g l. (h.each g l).halt_known;
    left = λ g l. (h.each g l).left.told;
    totals = λ g l. (h.each g l).left.known;
  };
  told = h.told;
  disk = λ c crash. sound_outcome (stored_bodies w) (body_text w.flusher.hand) h.store.sizes h.store.few c
      (outcome_at w.flusher.stage w.disk (stored_bodies w) (body_text w.flusher.hand) h.disk c (inr crash));
  output = λ g l. (h.each g l).output;
  recording = λ g l. (h.each g l).recording.run;
}

step_same : (w : World) (e : Event) → ((after w e).bodies ≡ w.bodies) × ((after w e).first_guest ≡ w.first_guest)
step_same w (Slice g r s) = (refl, refl)
step_same w (Push g r rest) = (refl, refl)
step_same w (Look g) = (refl, refl)
step_same w (Release g more) = (refl, refl)
step_same w (LookHalt g) = (refl, refl)
step_same w (Leave g) = (refl, refl)
step_same w (Pop r rest) = (refl, refl)
step_same w (WriteBody count) = (refl, refl)
step_same w (WriteBodyFails count disk) = (refl, refl)
step_same w Sync1 = (refl, refl)
step_same w Sync1Fails = (refl, refl)
step_same w OpenGate = (refl, refl)
step_same w (OpenGateFails disk) = (refl, refl)
step_same w Sync2 = (refl, refl)
step_same w Sync2Fails = (refl, refl)
step_same w (Publish g) = (refl, refl)
step_same w Halt = (refl, refl)
step_same w (LookLeft g) = (refl, refl)

-- the bodies of before and the first_guest number stay
pub run_same : (w : World) (events : List Event) → ((run w events).bodies ≡ w.bodies) × ((run w events).first_guest ≡ w.first_guest)
run_same w [] = (refl, refl)
run_same w (e ∷ events) = let rest = run_same (after w e) events in let one = step_same w e in (rest.0 ∙ one.0, rest.1 ∙ one.1)
