-- Each event keeps what holds, a lemma a row.
use Rattle.std.proofs.Common.{◌≡◌, ◌≢◌, ◌⊎◌, inl, inr, ⊎_elim, ℕ, zero, suc, ◌+◌, ◌<◌, ◌≤◌, min, Bool, true, false, if◌then◌else◌, ◌==◌, List, [], ◌∷◌, ◌++◌, length, map, take, drop, refl, ap, arith, sym, subst, ◌∙◌, append_assoc, length-append, take-append-drop, eqb-true}
use Rattle.std.specs.Prelude.{Option, Some, slice_get, IsSomeAnd, Contains}
use Rattle.std.specs.List.{AllByRecursion}
use Rattle.std.proofs.lemmas.List.{append-nil, map-append, length-take-le, take-append-le}
use Rattle.std.proofs.lemmas.List.Elements.{Contains-append_cases}
use Rattle.std.proofs.lemmas.Bool.{cases_eq}
use Rattle.rrv_model.specs.declared.record.Record.{Record}
use Rattle.rrv_model.specs.State.{State}
use Rattle.store_model.specs.CrashModel.{DiskState}
use Rattle.store_model.specs.DiskCalls.{FailsToWrite}
use Rattle.rrv_model.specs.RecordText.{HasText}
use Rattle.rrv_model.specs.Recording.{IsNumbered, EndsIn, items_of}
use Rattle.store_model.specs.StoreText.{IsBody}
use Rattle.rrv_model.specs.Recovered.{body_text, mark, IsOld, MayFollow, of_guest, OpensAtZero}
use Rattle.commit_core.specs.Runs.{IsOutput}
use Rattle.commit_core.specs.World.{World, Recorder, Stage, made, received, committed_count, stored_bodies, joined, flag, left_word}
use Rattle.commit_core.specs.World.Stage.{Idle, Written, Synced, Opened, Broken}
use Rattle.commit_core.specs.Events.{Event, after, May, CanSlice, CanPush, CanWrite, put, with_recorder, with_flusher, gate_place, next_body, behind_gate, left_place, sliced, pushed, gone, took, at_stage}
use Rattle.commit_core.specs.Events.Event.{Slice, Push, Look, Release, LookHalt, Leave, Pop, WriteBody, WriteBodyFails, Sync1, Sync1Fails, OpenGate, OpenGateFails, Sync2, Sync2Fails, Publish, Halt, LookLeft}
use Rattle.commit_core.specs.Facts.{HadStates}
use Rattle.outcomes.proofs.Lists.{AllByRecursion-append, AllByRecursion-front, AllByRecursion-back, AllByRecursion-push, AllByRecursion-weaker}
use Rattle.rrv_model.proofs.RecoveredLaws.{mark_holds_none, of_guest-append}
use Rattle.commit_core.proofs.Lists.{Contains-one, of_guest_one, of_guest_other, joined-push, put_cases, put_each, put_other, put_same}
use Rattle.commit_core.proofs.Runs.{output_longer, recording_opens}
use Rattle.commit_core.proofs.Invariant.{total, written, IsOwn, RecordingInvariant, SeenInvariant, RecorderInvariant, Invariant}
use Rattle.commit_core.proofs.Stages.{IsCommittable, DiskAt, outcome_at, to_written, to_written_fails, to_synced, to_opened, to_opened_fails, to_idle, some_body, some_records, no_records}

-- ---- changes of one part

-- a row of one recorder, which keeps what it sent and its word
recorder_keeps : (w : World) (old : List Record) (g : ℕ) (r : Recorder) → Invariant w old
    → (g < w.guests → RecorderInvariant w.first_guest w.guests (total w) w.words w.flusher.halted w.flusher.totals g r) →
    Invariant (with_recorder w g r) old
recorder_keeps w old g r h one = record {
  store = h.store;
  words = h.words;
  told = h.told;
  own = h.own;
  disk = h.disk;
  each = put_each (λ k x. k < w.guests → RecorderInvariant w.first_guest w.guests (total w) w.words w.flusher.halted w.flusher.totals k x)
      w.recorders g r h.each one;
}

-- where the same is sent by all, the recorders are as they were
same_total : (w : World) (old sent : List Record) → Invariant w old → sent ≡ total w → (k : ℕ) → k < w.guests
    → RecorderInvariant w.first_guest w.guests sent w.words w.flusher.halted w.flusher.totals k (w.recorders k)
same_total w old sent h same k l =
    subst (λ (t : List Record). RecorderInvariant w.first_guest w.guests t w.words w.flusher.halted w.flusher.totals k (w.recorders k))
    (sym same) (h.each k l)

-- ---- the recorder makes a record

last_is : (xs : List State) (x : State) → slice_get (xs ++ x ∷ []) (length xs) ≡ Some x
last_is [] x = refl
last_is (y ∷ xs) x = last_is xs x

front_is : (xs : List State) (x : State) (k : ℕ) → k < length xs → slice_get (xs ++ x ∷ []) k ≡ slice_get xs k
front_is [] x k l = absurd (omega arith)
front_is (y ∷ xs) x zero l = refl
front_is (y ∷ xs) x (suc k) l = front_is xs x k (omega arith)

take_all_of : (xs : List Record) (x : Record) → take (suc (length xs)) (xs ++ x ∷ []) ≡ xs ++ x ∷ []
take_all_of [] x = refl
take_all_of (y ∷ xs) x = ap (λ (l : List Record). y ∷ l) (take_all_of xs x)

states_grow : (records : List Record) (states : List State) (entry : Record) (s : State) → length states ≡ length records →
    HadStates records states
    → EndsIn (items_of (records ++ entry ∷ [])) s → HadStates (records ++ entry ∷ []) (states ++ s ∷ [])
states_grow records states entry s same had ends k l = elim (cases_eq k (length records)) [
  | inl is ↦
      subst (λ (o : Option State). IsSomeAnd o (EndsIn (items_of (take (suc k) (records ++ entry ∷ [])))))
      (sym (ap (slice_get (states ++ s ∷ [])) (is ∙ sym same) ∙ last_is states s))
      (subst (λ (m : List Record). EndsIn (items_of m) s)
      (sym (ap (λ n. take (suc n) (records ++ entry ∷ [])) is ∙ take_all_of records entry)) ends)
  | inr differs ↦
      let before : k < length records = omega (arith, length-append records (entry ∷ []), l, differs) in
      subst (λ (o : Option State). IsSomeAnd o (EndsIn (items_of (take (suc k) (records ++ entry ∷ [])))))
      (sym (front_is states s k (omega (arith, same, before))))
      (subst (λ (m : List Record). IsSomeAnd (slice_get states k) (EndsIn (items_of m)))
      (sym (take-append-le (suc k) records (entry ∷ []) (omega (arith, before)))) (had k before))
]

slice_keeps : (w : World) (old : List Record) (g : ℕ) (entry : Record) (s : State) → Invariant w old → CanSlice w g entry s →
    Invariant (after w (Slice g entry s)) old
slice_keeps w old g entry s h may =
    let r = w.recorders g in
    let one = h.each g may.guest in
    let more : r.sent ++ (r.backlog ++ entry ∷ []) ≡ made r ++ entry ∷ [] = sym (append_assoc r.sent r.backlog (entry ∷ [])) in
    let seen_made : r.seen ≤ length (made r) = omega (arith, one.seen.in_sent, length-append r.sent r.backlog) in
    recorder_keeps w old g (sliced entry s r) h (λ l. record {
      sent = one.sent;
      seen = one.seen;
      halt_known = one.halt_known;
      left = one.left;
      output = subst (IsOutput r.out) (sym (ap (take r.seen) more ∙ take-append-le r.seen (made r) (entry ∷ []) seen_made)) one.output;
      recording = subst (λ (m : List Record). RecordingInvariant (w.first_guest + g) m (r.states ++ s ∷ [])) (sym more) (record {
        texts = AllByRecursion-append HasText (made r) (entry ∷ []) one.recording.texts (may.has_text, tt);
        run = record {
          recording = may.recording;
          numbered = may.numbered;
          length_is = omega (arith, length-append r.states (s ∷ []), length-append (made r) (entry ∷ []), one.recording.run.length_is);
          had = states_grow (made r) r.states entry s one.recording.run.length_is one.recording.run.had may.ends;
        };
      });
    })

-- ---- it sends one

numbered_at : (guest index : ℕ) (xs ys : List Record) (y : Record) → IsNumbered guest index (xs ++ y ∷ ys) → y.guest ≡ guest
numbered_at guest index [] ys y h = h.0
numbered_at guest index (x ∷ xs) ys y h = numbered_at guest (index + 1) xs ys y h.2

push_keeps : (w : World) (old : List Record) (g : ℕ) (entry : Record) (rest : List Record) → Invariant w old → CanPush w g entry rest →
    Invariant (after w (Push g entry rest)) old
push_keeps w old g entry rest h may =
    let r = w.recorders g in
    let one = h.each g may.guest in
    let made_is : made r ≡ r.sent ++ entry ∷ rest = ap (λ (l : List Record). r.sent ++ l) may.next in
    let same : (r.sent ++ entry ∷ []) ++ rest ≡ made r = append_assoc r.sent (entry ∷ []) rest ∙ sym made_is in
    let guest_is : entry.guest ≡ w.first_guest + g =
    numbered_at (w.first_guest + g) 0 r.sent rest entry (subst (IsNumbered (w.first_guest + g) 0) made_is one.recording.run.numbered) in
    let opens = AllByRecursion-back OpensAtZero r.sent (entry ∷ rest)
    (subst (AllByRecursion OpensAtZero) made_is
    (recording_opens (w.first_guest + g) (made r) one.recording.run.recording one.recording.run.numbered)) in
    let texts = AllByRecursion-back HasText r.sent (entry ∷ rest) (subst (AllByRecursion HasText) made_is one.recording.texts) in
    let grown : total (after w (Push g entry rest)) ≡ total w ++ entry ∷ [] =
    sym (append_assoc (received w.flusher) w.queue (entry ∷ [])) in
    record {
      store = h.store;
      words = h.words;
      told = h.told;
      disk = h.disk;
      own = subst (AllByRecursion (IsOwn w.first_guest w.guests)) (sym grown)
          (AllByRecursion-append (IsOwn w.first_guest w.guests) (total w) (entry ∷ []) h.own (
            record { low = omega (arith, guest_is); high = omega (arith, guest_is, may.guest); has_text = texts.0; opens = opens.0 },
            tt,
          ));
      each = put_cases
          (λ k x. k < w.guests →
          RecorderInvariant w.first_guest w.guests (total (after w (Push g entry rest))) w.words w.flusher.halted w.flusher.totals k x)
          w.recorders g (pushed entry rest r)
          (λ k differs l. let o = h.each k l in record {
            recording = o.recording;
            seen = o.seen;
            halt_known = o.halt_known;
            left = o.left;
            output = o.output;
            sent = ap (of_guest (w.first_guest + k)) grown ∙ of_guest-append (w.first_guest + k) (total w) (entry ∷ [])
                ∙ ap (λ (l : List Record). of_guest (w.first_guest + k) (total w) ++ l)
                (of_guest_other (w.first_guest + k) entry (λ e. differs (omega (arith, e, guest_is))))
                ∙ append-nil (of_guest (w.first_guest + k) (total w)) ∙ o.sent;
          })
          (λ l. record {
            halt_known = one.halt_known;
            seen = record { in_word = one.seen.in_word; in_sent = omega (arith, one.seen.in_sent, length-append r.sent (entry ∷ [])) };
            sent = ap (of_guest (w.first_guest + g)) grown ∙ of_guest-append (w.first_guest + g) (total w) (entry ∷ [])
                ∙ ap (λ (l : List Record). of_guest (w.first_guest + g) (total w) ++ l) (of_guest_one (w.first_guest + g) entry guest_is)
                ∙ ap (λ (l : List Record). l ++ entry ∷ []) one.sent;
            left = record {
              told = one.left.told ∙ here_still r entry rest may.here;
              known = ⊎_elim (λ z. inl z) (λ is. inr (is ∙ here_still r entry rest may.here)) one.left.known;
            };
            output = subst (IsOutput r.out) (sym (ap (take r.seen) same)) one.output;
            recording = subst (λ (m : List Record). RecordingInvariant (w.first_guest + g) m r.states) (sym same) one.recording;
          });
    }
  where
    word_of : Bool → ℕ → ℕ
    word_of left sent = if left then sent + 1 else 0

    -- one that hasn't left says nothing yet
    here_still : (r : Recorder) (entry : Record) (rest : List Record) → r.left ≡ false → left_word r ≡ left_word (pushed entry rest r)
    here_still r entry rest here =
        ap (λ (b : Bool). word_of b (length r.sent)) here ∙ sym (ap (λ (b : Bool). word_of b (length (r.sent ++ entry ∷ []))) here)

-- ---- the flusher receives one

pop_keeps : (w : World) (old : List Record) (r : Record) (rest : List Record) → Invariant w old → w.queue ≡ r ∷ rest →
    Invariant (after w (Pop r rest)) old
pop_keeps w old r rest h may =
    let f = w.flusher in
    let front = joined f.finished ++ f.hand in
    let same : total (after w (Pop r rest)) ≡ total w =
    ap (λ (l : List Record). l ++ rest) (sym (append_assoc front f.waiting (r ∷ [])))
    ∙ append_assoc (front ++ f.waiting) (r ∷ []) rest
    ∙ ap (λ (l : List Record). (front ++ f.waiting) ++ l) (sym may) in
    record {
      store = h.store;
      words = h.words;
      told = h.told;
      disk = h.disk;
      own = subst (AllByRecursion (IsOwn w.first_guest w.guests)) (sym same) h.own;
      each = same_total w old (total (after w (Pop r rest))) h same;
    }

-- ---- it commits those that wait

-- no body of the group's is the Mark
no_mark : (batches : List (List Record)) → AllByRecursion HasText (joined batches) → AllByRecursion IsBody (map body_text batches) →
    ¬ (Contains (map body_text batches) mark)
no_mark [] texts sizes there = omega (arith, there.1)
no_mark (batch ∷ batches) texts sizes there = elim (Contains-append_cases (body_text batch ∷ []) (map body_text batches) mark there) [
  | inl here ↦ mark_holds_none (body_text batch) batch (Contains-one (body_text batch) mark here)
      (record {
        some = some_records batch sizes.0.0;
        each = AllByRecursion-front HasText batch (joined batches) texts;
        spelled = refl;
      })
  | inr later ↦ no_mark batches (AllByRecursion-back HasText batch (joined batches) texts) sizes.1 later
]

-- so where it is stored it was there before
mark_before : (w : World) (old : List Record) → Invariant w old → Contains (stored_bodies w) mark → Contains w.bodies mark
mark_before w old h there =
    let f = w.flusher in
    let P = IsOwn w.first_guest w.guests in
    elim (Contains-append_cases w.bodies (map body_text f.finished) mark there) [
      | inl before ↦ before
      | inr ours ↦ absurd (no_mark f.finished
          (AllByRecursion-weaker P HasText (joined f.finished) (λ r o. o.has_text)
          (AllByRecursion-front P (joined f.finished) f.hand
          (AllByRecursion-front P (written f) f.waiting (AllByRecursion-front P (received f) w.queue h.own))))
          (AllByRecursion-back IsBody w.bodies (map body_text f.finished) h.store.sizes) ours)
    ]

-- what is taken in hand may follow the bodies of before
follows : (w : World) (old : List Record) (count : ℕ) → Invariant w old → CanWrite w count →
    MayFollow w.bodies (joined w.flusher.finished ++ take count w.flusher.waiting)
follows w old count h may = elim h.store.follow [
  | inl marked ↦ inl marked
  | inr before ↦ elim may.old [
    | inl marked ↦ inl (mark_before w old h marked)
    | inr now ↦ inr (AllByRecursion-append (λ r. IsOld r.item) (joined w.flusher.finished) (take count w.flusher.waiting)
        (AllByRecursion-front (λ r. IsOld r.item) (joined w.flusher.finished) w.flusher.hand before) now)
  ]
]

into_hand_keeps : (w : World) (old : List Record) (count : ℕ) (stage : Stage) (disk : DiskState) → Invariant w old → w.flusher.hand ≡ []
    → CanWrite w count → DiskAt stage disk (stored_bodies w) (next_body w count) →
    Invariant (with_flusher w (took count stage w.flusher) disk) old
into_hand_keeps w old count stage disk h none may at =
    let f = w.flusher in
    let same : total (with_flusher w (took count stage f) disk) ≡ total w =
    ap (λ (l : List Record). l ++ w.queue)
    (append_assoc (joined f.finished) (take count f.waiting) (drop count f.waiting)
    ∙ ap (λ (l : List Record). joined f.finished ++ l) (take-append-drop count f.waiting)
    ∙ ap (λ (l : List Record). l ++ f.waiting) (sym (append-nil (joined f.finished)))
    ∙ ap (λ (l : List Record). (joined f.finished ++ l) ++ f.waiting) (sym none)) in
    record {
      store = record {
        recovered = h.store.recovered;
        next = h.store.next;
        sizes = h.store.sizes;
        few = h.store.few;
        follow = follows w old count h may;
      };
      words = h.words;
      told = h.told;
      own = subst (AllByRecursion (IsOwn w.first_guest w.guests)) (sym same) h.own;
      each = same_total w old (total (with_flusher w (took count stage f) disk)) h same;
      disk = at;
    }

disk_at : (w : World) (old : List Record) (stage : Stage) → Invariant w old → w.flusher.stage ≡ stage →
    DiskAt stage w.disk (stored_bodies w) (body_text w.flusher.hand)
disk_at w old stage h is = subst (λ (s : Stage). DiskAt s w.disk (stored_bodies w) (body_text w.flusher.hand)) is h.disk

committable : (w : World) (count : ℕ) → CanWrite w count → IsCommittable (stored_bodies w) (next_body w count)
committable w count may = (
  (some_body (take count w.flusher.waiting) (omega (arith, length-take-le count w.flusher.waiting may.there, may.some)), may.body),
  may.number,
)

write_keeps : (w : World) (old : List Record) (count : ℕ) → Invariant w old → CanWrite w count → Invariant (after w (WriteBody count)) old
write_keeps w old count h may =
    let at = disk_at w old Idle h may.idle in
    into_hand_keeps w old count Written _ h (no_records w.flusher.hand at.1) may
    (to_written w.disk (stored_bodies w) (body_text w.flusher.hand) (next_body w count) at (committable w count may))

write_fails_keeps : (w : World) (old : List Record) (count : ℕ) (disk : DiskState) → Invariant w old → CanWrite w count
    → FailsToWrite (gate_place w + 1) (length (behind_gate w count)) w.disk disk → Invariant (after w (WriteBodyFails count disk)) old
write_fails_keeps w old count disk h may failed =
    let at = disk_at w old Idle h may.idle in
    into_hand_keeps w old count Broken disk h (no_records w.flusher.hand at.1) may
    (to_written_fails w.disk disk (stored_bodies w) (body_text w.flusher.hand) (next_body w count) at failed)

-- a row that moves the disk and the stage alone
stage_keeps : (w : World) (old : List Record) (stage : Stage) (disk : DiskState) → Invariant w old →
    DiskAt stage disk (stored_bodies w) (body_text w.flusher.hand)
    → Invariant (with_flusher w (at_stage stage w.flusher) disk) old
stage_keeps w old stage disk h at =
    record { store = h.store; words = h.words; told = h.told; own = h.own; each = h.each; disk = at }

-- after a sync that failed a crash leaves what it left before
broken_keeps : (w : World) (old : List Record) → Invariant w old → Invariant (with_flusher w (at_stage Broken w.flusher) w.disk) old
broken_keeps w old h =
    stage_keeps w old Broken w.disk h (outcome_at w.flusher.stage w.disk (stored_bodies w) (body_text w.flusher.hand) h.disk)

sync2_keeps : (w : World) (old : List Record) → Invariant w old → w.flusher.stage ≡ Opened → Invariant (after w Sync2) old
sync2_keeps w old h may =
    let f = w.flusher in
    let at = disk_at w old Opened h may in
    let pushed_hand = joined-push f.finished f.hand in
    let same : total (after w Sync2) ≡ total w =
    ap (λ (l : List Record). (l ++ f.waiting) ++ w.queue) (append-nil (joined (f.finished ++ f.hand ∷ [])) ∙ pushed_hand) in
    let bodies : stored_bodies (after w Sync2) ≡ stored_bodies w ++ body_text f.hand ∷ [] =
    ap (λ (l : List (List ℕ)). w.bodies ++ l) (map-append body_text f.finished (f.hand ∷ []))
    ∙ sym (append_assoc w.bodies (map body_text f.finished) (body_text f.hand ∷ [])) in
    record {
      words = h.words;
      store = record {
        recovered = h.store.recovered;
        next = h.store.next;
        sizes = subst (AllByRecursion IsBody) (sym bodies)
            (AllByRecursion-push IsBody (stored_bodies w) (body_text f.hand) h.store.sizes at.2.0);
        few = omega (arith, ap length bodies, length-append (stored_bodies w) (body_text f.hand ∷ []), at.2.1);
        follow = subst (MayFollow w.bodies) (sym (append-nil (joined (f.finished ++ f.hand ∷ [])) ∙ pushed_hand)) h.store.follow;
      };
      own = subst (AllByRecursion (IsOwn w.first_guest w.guests)) (sym same) h.own;
      told = λ k l. let more =
          ap length (ap (of_guest (w.first_guest + k)) pushed_hand ∙ of_guest-append (w.first_guest + k) (joined f.finished) f.hand) in
          omega (
            arith,
            more,
            h.told k l,
            length-append (of_guest (w.first_guest + k) (joined f.finished)) (of_guest (w.first_guest + k) f.hand),
          );
      disk = to_idle w.disk (stored_bodies w) (stored_bodies (after w Sync2)) (body_text f.hand) at bodies;
      each = same_total w old (total (after w Sync2)) h same;
    }

-- ---- the words

-- a recorder whose word of having left stays, and whose count is no less than it has seen
with_words : (w : World) (words : ℕ → ℕ) (halted : Bool) (k : ℕ) →
    RecorderInvariant w.first_guest w.guests (total w) w.words w.flusher.halted w.flusher.totals k (w.recorders k)
    → ((w.recorders k).knows_halt ≡ true → halted ≡ true) → (w.recorders k).seen ≤ words k →
    words (w.guests + 1 + k) ≡ w.words (w.guests + 1 + k)
    → RecorderInvariant w.first_guest w.guests (total w) words halted w.flusher.totals k (w.recorders k)
with_words w words halted k o halt_known seen same = record {
  sent = o.sent;
  recording = o.recording;
  halt_known = halt_known;
  output = o.output;
  seen = record { in_word = seen; in_sent = o.seen.in_sent };
  left = record { told = same ∙ o.left.told; known = o.left.known };
}

publish_keeps : (w : World) (old : List Record) (g : ℕ) → Invariant w old → g < w.guests → Invariant (after w (Publish g)) old
publish_keeps w old g h may =
    let n = committed_count (w.first_guest + g) w.flusher in
    let words = put w.words g n in
    record {
      store = h.store;
      own = h.own;
      disk = h.disk;
      words = record {
        counts = λ k l. put_cases (λ j x. j < w.guests → x ≡ put w.flusher.told g n j) w.words g n
            (λ j differs lj. h.words.counts j lj ∙ sym (put_other w.flusher.told g n j differs)) (λ lj. sym (put_same w.flusher.told g n)) k
            l;
        halt = put_other w.words g n w.guests (λ e. omega (arith, e, may)) ∙ h.words.halt;
      };
      told = put_each (λ k x. k < w.guests → x ≤ committed_count (w.first_guest + k) w.flusher) w.flusher.told g n h.told
          (λ l. omega arith);
      each = λ k l. with_words w words w.flusher.halted k (h.each k l) (λ knows. (h.each k l).halt_known knows)
          (put_cases (λ j x. j < w.guests → (w.recorders j).seen ≤ x) w.words g n
          (λ j differs lj. (h.each j lj).seen.in_word) (λ lj. omega (arith, told_seen g lj, h.told g lj)) k l)
          (put_other w.words g n (w.guests + 1 + k) (λ e. omega (arith, e, may)));
    }
  where
    told_seen : (j : ℕ) → j < w.guests → (w.recorders j).seen ≤ w.flusher.told j
    told_seen j l = subst (λ (x : ℕ). (w.recorders j).seen ≤ x) (h.words.counts j l) (h.each j l).seen.in_word

-- a row of one recorder, which looks or puts something out
sees_keeps : (w : World) (old : List Record) (g seen : ℕ) (knows_halt : Bool) (out : List (ℕ × ℕ)) → Invariant w old → g < w.guests
    → SeenInvariant seen (w.words g) (w.recorders g).sent → (knows_halt ≡ true → w.flusher.halted ≡ true)
    → IsOutput out (take seen (made (w.recorders g)))
    → Invariant (with_recorder w g (record (w.recorders g) { seen = seen; knows_halt = knows_halt; out = out })) old
sees_keeps w old g seen knows_halt out h may low known put =
    let one = h.each g may in
    recorder_keeps w old g (record (w.recorders g) { seen = seen; knows_halt = knows_halt; out = out }) h (λ l. record {
      sent = one.sent;
      recording = one.recording;
      left = one.left;
      seen = low;
      halt_known = known;
      output = put;
    })

look_keeps : (w : World) (old : List Record) (g : ℕ) → Invariant w old → g < w.guests → Invariant (after w (Look g)) old
look_keeps w old g h may =
    let r = w.recorders g in
    let one = h.each g may in
    let seen = min (w.words g) (length r.sent) in
    sees_keeps w old g seen r.knows_halt r.out h may (record { in_word = omega arith; in_sent = omega arith }) one.halt_known
    (output_longer r.out r.seen seen (made r) one.recording.run.recording (omega (arith, one.seen.in_word, one.seen.in_sent)) one.output)

release_keeps : (w : World) (old : List Record) (g : ℕ) (more : List (ℕ × ℕ)) → Invariant w old → g < w.guests
    → IsOutput ((w.recorders g).out ++ more) (take (w.recorders g).seen (made (w.recorders g))) → Invariant (after w (Release g more)) old
release_keeps w old g more h may put =
    let r = w.recorders g in
    let one = h.each g may in
    sees_keeps w old g r.seen r.knows_halt (r.out ++ more) h may one.seen one.halt_known put

halt_keeps : (w : World) (old : List Record) → Invariant w old → Invariant (after w Halt) old
halt_keeps w old h =
    let words = put w.words w.guests 1 in
    let other = λ (k : ℕ) (differs : k ≢ w.guests). put_other w.words w.guests 1 k differs in
    record {
      store = h.store;
      own = h.own;
      disk = h.disk;
      told = h.told;
      words = record { counts = λ k l. other k (λ e. omega (arith, e, l)) ∙ h.words.counts k l; halt = put_same w.words w.guests 1 };
      each = λ k l. with_words w words true k (h.each k l) (λ knows. refl)
          (subst (λ (x : ℕ). (w.recorders k).seen ≤ x) (sym (other k (λ e. omega (arith, e, l)))) (h.each k l).seen.in_word)
          (other (w.guests + 1 + k) (λ e. omega (arith, e)));
    }

flag_true : (b : Bool) → flag b ≡ 1 → b ≡ true
flag_true true e = refl
flag_true false e = absurd (omega (arith, e))

look_halt_keeps : (w : World) (old : List Record) (g : ℕ) → Invariant w old → g < w.guests → Invariant (after w (LookHalt g)) old
look_halt_keeps w old g h may =
    let r = w.recorders g in
    let one = h.each g may in
    sees_keeps w old g r.seen (w.words w.guests == 1) r.out h may one.seen
    (λ knows. flag_true w.flusher.halted (sym h.words.halt ∙ eqb-true (w.words w.guests) 1 knows)) one.output

known_still : (b : Bool) (n t : ℕ) → (t ≡ 0) ⊎ (t ≡ (if b then n else 0)) → (t ≡ 0) ⊎ (t ≡ n)
known_still b n t (inl z) = inl z
known_still true n t (inr e) = inr e
known_still false n t (inr e) = inl e

leave_keeps : (w : World) (old : List Record) (g : ℕ) → Invariant w old → g < w.guests → Invariant (after w (Leave g)) old
leave_keeps w old g h may =
    let r = w.recorders g in
    let place = left_place w g in
    let n = length r.sent + 1 in
    let words = put w.words place n in
    let other = λ (k : ℕ) (differs : k ≢ place). put_other w.words place n k differs in
    let one = h.each g may in
    record {
      store = h.store;
      own = h.own;
      disk = h.disk;
      told = h.told;
      words = record {
        counts = λ k l. other k (λ e. omega (arith, e, l)) ∙ h.words.counts k l;
        halt = other w.guests (λ e. omega (arith, e)) ∙ h.words.halt;
      };
      each = put_cases
          (λ k x. k < w.guests → RecorderInvariant w.first_guest w.guests (total w) words w.flusher.halted w.flusher.totals k x) w.recorders
          g (gone r)
          (λ k differs l. with_words w words w.flusher.halted k (h.each k l) (h.each k l).halt_known
          (subst (λ (x : ℕ). (w.recorders k).seen ≤ x) (sym (other k (λ e. omega (arith, e, l)))) (h.each k l).seen.in_word)
          (other (w.guests + 1 + k) (λ e. differs (omega (arith, e)))))
          (λ l. record {
            sent = one.sent;
            recording = one.recording;
            output = one.output;
            halt_known = one.halt_known;
            seen = record {
              in_word = subst (λ (x : ℕ). r.seen ≤ x) (sym (other g (λ e. omega (arith, e, l)))) one.seen.in_word;
              in_sent = one.seen.in_sent;
            };
            left = record { told = put_same w.words place n; known = known_still r.left n (w.flusher.totals g) one.left.known };
          });
    }

look_left_keeps : (w : World) (old : List Record) (g : ℕ) → Invariant w old → g < w.guests → Invariant (after w (LookLeft g)) old
look_left_keeps w old g h may = record {
  store = h.store;
  words = h.words;
  told = h.told;
  own = h.own;
  disk = h.disk;
  each = λ k l. let o = h.each k l in record {
    sent = o.sent;
    recording = o.recording;
    seen = o.seen;
    output = o.output;
    halt_known = o.halt_known;
    left = record {
      told = o.left.told;
      known = put_each (λ j x. j < w.guests → (x ≡ 0) ⊎ (x ≡ left_word (w.recorders j))) w.flusher.totals g (w.words (left_place w g))
          (λ j lj. (h.each j lj).left.known) (λ lj. inr (h.each g lj).left.told) k l;
    };
  };
}

-- ---- each event

pub keeps : (w : World) (old : List Record) (e : Event) → Invariant w old → May w e → Invariant (after w e) old
keeps w old (Slice g r s) h may = slice_keeps w old g r s h may
keeps w old (Push g r rest) h may = push_keeps w old g r rest h may
keeps w old (Look g) h may = look_keeps w old g h may
keeps w old (Release g more) h may = release_keeps w old g more h may.0 may.1
keeps w old (LookHalt g) h may = look_halt_keeps w old g h may
keeps w old (Leave g) h may = leave_keeps w old g h may
keeps w old (Pop r rest) h may = pop_keeps w old r rest h may
keeps w old (WriteBody count) h may = write_keeps w old count h may
keeps w old (WriteBodyFails count disk) h may = write_fails_keeps w old count disk h may.0 may.1
keeps w old Sync1 h may =
    stage_keeps w old Synced _ h (to_synced w.disk (stored_bodies w) (body_text w.flusher.hand) (disk_at w old Written h may))
keeps w old Sync1Fails h may = broken_keeps w old h
keeps w old OpenGate h may =
    stage_keeps w old Opened _ h (to_opened w.disk (stored_bodies w) (body_text w.flusher.hand) (disk_at w old Synced h may))
keeps w old (OpenGateFails disk) h may =
    stage_keeps w old Broken disk h
    (to_opened_fails w.disk disk (stored_bodies w) (body_text w.flusher.hand) (disk_at w old Synced h may.0) may.1)
keeps w old Sync2 h may = sync2_keeps w old h may
keeps w old Sync2Fails h may = broken_keeps w old h
keeps w old (Publish g) h may = publish_keeps w old g h may
keeps w old Halt h may = halt_keeps w old h
keeps w old (LookLeft g) h may = look_left_keeps w old g h may
