-- Single calls of the seats are events, and what stands for a holder's part stands for it in every world that has it.
use Rattle.std.proofs.Common.{◌≡◌, ℕ, ◌+◌, ◌<◌, ◌==◌, Bool, true, false, List, [], ◌∷◌, ◌++◌, length, min, set, refl, sym, ap, ◌∙◌, subst, arith}
use Rattle.std.specs.Prelude.{slice_index}
use Rattle.std.proofs.lemmas.List.{length-map, map_push, get_or-set_other}
use mathlib.Core.Logic.{dite}
use native.Mathlib.Decide.{ℕ_discrete}
use Rattle.rrv_model.specs.declared.record.Record.{Record}
use Rattle.store_model.specs.CrashModel.{DiskState}
use Rattle.rrv_model.specs.Recovered.{of_guest}
use Rattle.commit_core.specs.World.{World, Recorder, Stage, joined, flag}
use Rattle.commit_core.specs.World.Stage.{Idle}
use Rattle.commit_core.specs.Events.{May, after, put, looked, looked_at_halt, gone, pushed}
use Rattle.commit_core.specs.Events.Event.{Push, Look, LookHalt, Leave, Publish, Halt, LookLeft}
use Rattle.commit_core.specs.Holders.{Holder, Act, Does, IsSameFor, IsSameForFlusher, IsSameForRecorder, loading, loads, plain}
use Rattle.commit_core.specs.Holders.Holder.{TheFlusher, TheRecorder}
use Rattle.commit_core.proofs.Holders.{is_mixed, mixed, own_first, rows, same_first, same_here}
use Rattle.commit_core.proofs.Lists.{put_same, put_other}
use Rattle.trace_log.specs.Kept.{LogValue}
use Rattle.commit_group.specs.Flushes.{after_halt}
use Rattle.commit_group.specs.Numbers.{base, numbered, renumbered}
use Rattle.commit_group.specs.Seats.{FlusherValue, RecorderValue, next_record}
use Rattle.commit_group.specs.Submits.{after_look, after_look_halt, after_send}
use Rattle.commit_group.specs.Steps.{StandsForRecorder, LooksAreEvents, HaltLooksAreEvents, LeavesAreEvents, SendsAreEvents, RecorderCallsAreEvents, FlusherCallsAreEvents, PublishesAreEvents, HaltsAreEvents, LeftLooksAreEvents}
use Rattle.commit_group.specs.Worlds.{StandsAt, StandsFor}

-- ---- one act

-- It may happen in a world with the part, and the others in the one that it leaves.
pub does_then : (h : Holder) (w v : World) (a : Act) (later : List Act) (Holds : World → Type 0) → IsSameFor h w v → May v a.event →
    loads v a.event ≡ a.word → Does h later Holds (after v a.event) → Does h (a ∷ later) Holds w
does_then h w v a later Holds same may word does = (does.0, (v, same, may, word, does.1), does.2)

-- it alone may, and this holds of every world that has the part that it leaves
pub does_one : (h : Holder) (w v : World) (a : Act) (Holds : World → Type 0) → IsSameFor h w v → May v a.event → loads v a.event ≡ a.word →
    ((x : World) → IsSameFor h (after v a.event) x → Holds x) → Does h (a ∷ []) Holds w
does_one h w v a Holds same may word holds =
    does_then h w v a [] Holds same may word (after v a.event, same_here h (after v a.event), holds)

-- what holds behind may be weakened
pub does_weaker : (h : Holder) (w : World) (doing : List Act) (P Q : World → Type 0) → ((v : World) → P v → Q v) → Does h doing P w →
    Does h doing Q w
does_weaker h w doing P Q weaker does = (does.0, does.1, λ v same. weaker v (does.2 v same))

-- one list of acts behind the other
pub does_rows : (h : Holder) (w : World) (first last : List Act) (Between Holds : World → Type 0) → Does h first Between w →
    ((v : World) → Between v → Does h last Holds v) → Does h (first ++ last) Holds w
does_rows h w first last Between Holds does next =
    let later = next does.0 (does.2 does.0 (same_here h does.0)) in
    (later.0, rows h w does.0 later.0 first last does.1 later.1, later.2)

-- the number of the first guest stays
pub does_keeping : (h : Holder) (w : World) (doing : List Act) (Holds : World → Type 0) → Does h doing Holds w →
    Does h doing (λ v. Holds v × (v.first_guest ≡ w.first_guest)) w
does_keeping h w doing Holds does =
    let first = own_first h w doing does.0 does.1 in
    (does.0, does.1, λ v same. (does.2 v same, same_first h does.0 v same ∙ first))

-- ---- a recorder's seat

pub stands_by : (w : World) (r : RecorderValue) (one : Recorder) → r.guest < w.guests → w.recorders r.guest ≡ one →
    one.sent ≡ renumbered w.first_guest r.sent
    → one.seen ≡ r.seen → one.knows_halt ≡ r.knows_halt → one.left ≡ r.has_left → StandsForRecorder r w
stands_by w r one there at sent seen knows_halt left = record {
  there = there;
  sent = ap (λ (x : Recorder). x.sent) at ∙ sent;
  seen = ap (λ (x : Recorder). x.seen) at ∙ seen;
  knows_halt = ap (λ (x : Recorder). x.knows_halt) at ∙ knows_halt;
  left = ap (λ (x : Recorder). x.left) at ∙ left;
}

-- so it stands in every world that has the part
pub recorder_stays : (r : RecorderValue) (w v : World) → StandsForRecorder r w → IsSameForRecorder r.guest w v → StandsForRecorder r v
recorder_stays r w v h same = record {
  there = subst (λ (n : ℕ). r.guest < n) (sym same.guests) h.there;
  sent = ap (λ (x : Recorder). x.sent) same.recorder ∙ h.sent ∙ ap (λ (n : ℕ). renumbered n r.sent) (sym same.first_guest);
  seen = ap (λ (x : Recorder). x.seen) same.recorder ∙ h.seen;
  knows_halt = ap (λ (x : Recorder). x.knows_halt) same.recorder ∙ h.knows_halt;
  left = ap (λ (x : Recorder). x.left) same.recorder ∙ h.left;
}

pub flag_is : (b : Bool) → (flag b == 1) ≡ b
flag_is true = refl
flag_is false = refl

looks_are_events : LooksAreEvents
looks_are_events r w word h =
    let v : World = record w { words = λ k. word } in
    let one = looked word (w.recorders r.guest) in
    let seen : one.seen ≡ min word (length r.sent) =
    ap (λ (n : ℕ). min word n) (ap length h.sent ∙ length-map r.sent (numbered w.first_guest)) in
    let end = after v (Look r.guest) in
    let stands = stands_by end (after_look r word) one h.there (put_same w.recorders r.guest one) h.sent seen h.knows_halt h.left in
    does_one (TheRecorder r.guest) w v (loading (Look r.guest) word) (StandsForRecorder (after_look r word))
    (record { guests = refl; first_guest = refl; recorder = refl }) h.there refl
    (λ x same. recorder_stays (after_look r word) end x stands same)

halt_looks_are_events : HaltLooksAreEvents
halt_looks_are_events r w found h =
    let v : World = record w { words = λ k. flag found } in
    let one = looked_at_halt (flag found) (w.recorders r.guest) in
    let end = after v (LookHalt r.guest) in
    let stands = stands_by end (after_look_halt r found) one h.there (put_same w.recorders r.guest one) h.sent h.seen (flag_is found)
    h.left in
    does_one (TheRecorder r.guest) w v (loading (LookHalt r.guest) (flag found)) (StandsForRecorder (after_look_halt r found))
    (record { guests = refl; first_guest = refl; recorder = refl }) h.there refl
    (λ x same. recorder_stays (after_look_halt r found) end x stands same)

leaves_are_events : LeavesAreEvents
leaves_are_events r w h =
    let one = gone (w.recorders r.guest) in
    let left : RecorderValue = record r { has_left = true } in
    let end = after w (Leave r.guest) in
    let stands = stands_by end left one h.there (put_same w.recorders r.guest one) h.sent h.seen h.knows_halt refl in
    does_one (TheRecorder r.guest) w w (plain (Leave r.guest)) (StandsForRecorder left) (same_here (TheRecorder r.guest) w) h.there refl
    (λ x same. recorder_stays left end x stands same)

sends_are_events : SendsAreEvents
sends_are_events r item rest w h here next =
    let x = next_record r item in
    let y = numbered w.first_guest x in
    let v : World = record w { queue = [] } in
    let one = pushed y rest (w.recorders r.guest) in
    let sent : one.sent ≡ renumbered w.first_guest (r.sent ++ x ∷ []) =
    ap (λ (l : List Record). l ++ y ∷ []) h.sent ∙ sym (map_push (numbered w.first_guest) r.sent x) in
    let end = after v (Push r.guest y rest) in
    let at : end.recorders r.guest ≡ one = put_same w.recorders r.guest one in
    let stands = stands_by end (after_send r x) one h.there at sent h.seen h.knows_halt h.left in
    does_one (TheRecorder r.guest) w v (plain (Push r.guest y rest))
    (λ u. StandsForRecorder (after_send r x) u × ((u.recorders r.guest).backlog ≡ rest))
    (record { guests = refl; first_guest = refl; recorder = refl })
    (record { guest = h.there; next = next; room = omega arith; here = h.left ∙ here }) refl
    (λ u same. (
      recorder_stays (after_send r x) end u stands same,
      ap (λ (q : Recorder). q.backlog) same.recorder ∙ ap (λ (q : Recorder). q.backlog) at,
    ))

pub recorder_calls : RecorderCallsAreEvents
recorder_calls =
    record { looks = looks_are_events; halt_looks = halt_looks_are_events; leaves = leaves_are_events; sends = sends_are_events }

-- ---- the flusher's seat

-- a list and a function that agree at each place below n, changed at one place
set_again : (f : ℕ → ℕ) (l l' : List ℕ) (n g x : ℕ) → ((k : ℕ) → k < n → f k ≡ slice_index l k) → l' ≡ set l g x → slice_index l' g ≡ x →
    (k : ℕ) → k < n → put f g x k ≡ slice_index l' k
set_again f l l' n g x same is here k low = dite (ℕ_discrete k g)
    (λ e. ap (put f g x) e ∙ put_same f g x ∙ sym here ∙ ap (λ (j : ℕ). slice_index l' j) (sym e))
    (λ ne. put_other f g x k ne ∙ same k low ∙ sym (get_or-set_other l g k x 0 ne) ∙ ap (λ (m : List ℕ). slice_index m k) (sym is))

-- the seat is the same but for its first number, what it told, the leave words that it knows, and the halt
abbrev pub IsSameSeat : FlusherValue → FlusherValue → Type 0
IsSameSeat f f' = f' ≡ record f { first_guest = f'.first_guest; told = f'.told; totals = f'.totals; halted = f'.halted }

-- seat and world stand for each other still where what was told, the leave words known and the halt change in both
pub stands_again : {D : Type 0} (state : D → DiskState) (stage : Stage) (first : ℕ) (f f' : FlusherValue) (log : LogValue D) (w w' : World)
    → IsSameSeat f f'
    → w' ≡ record w {
      words = w'.words;
      flusher = record w.flusher { told = w'.flusher.told; totals = w'.flusher.totals; halted = w'.flusher.halted };
    }
    → StandsAt state stage first f log w → ((g : ℕ) → g < w.guests → w'.flusher.told g ≡ slice_index f'.told g)
    → ((g : ℕ) → g < w.guests → w'.flusher.totals g ≡ slice_index f'.totals g) → w'.flusher.halted ≡ f'.halted
    → StandsAt state stage first f' log w'
stands_again state stage first f f' log w w' seat world h told totals halted =
    subst (λ (x : FlusherValue). StandsAt state stage first x log w') (sym seat)
    (subst (StandsAt state stage first (record f
    { first_guest = f'.first_guest; told = f'.told; totals = f'.totals; halted = f'.halted }) log) (sym world) (record {
      guests = h.guests;
      first_is = h.first_is;
      finished = h.finished;
      waiting = h.waiting;
      told = told;
      totals = totals;
      halted = halted;
      stage_is = h.stage_is;
      disk = h.disk;
    }))

-- so they stand in every world that has the part
pub flusher_stays : {D : Type 0} (state : D → DiskState) (stage : Stage) (first : ℕ) (f : FlusherValue) (log : LogValue D) (w v : World)
    → StandsAt state stage first f log w → IsSameForFlusher w v → StandsAt state stage first f log v
flusher_stays state stage first f log w v h same = subst (StandsAt state stage first f log) (sym (is_mixed w v same)) (record {
  guests = h.guests;
  first_is = h.first_is;
  finished = h.finished;
  waiting = h.waiting;
  told = h.told;
  totals = h.totals;
  halted = h.halted;
  stage_is = h.stage_is;
  disk = h.disk;
})

pub seat_stays : {D : Type 0} (state : D → DiskState) (first : ℕ) (f : FlusherValue) (log : LogValue D) (w v : World)
    → StandsFor state first f log w → IsSameForFlusher w v → StandsFor state first f log v
seat_stays state first f log w v h same = subst (StandsFor state first f log) (sym (is_mixed w v same)) (record {
  stands = flusher_stays state Idle first f log w (mixed w v) h.stands
      (record { guests = refl; first_guest = refl; bodies = refl; flusher = refl; disk = refl });
  hand = h.hand;
  keeps = h.keeps;
  marked = h.marked;
})

publishes_are_events : {D : Type 0} (state : D → DiskState) → PublishesAreEvents state
publishes_are_events state stage old new log w g low is here h =
    let count : length (of_guest (w.first_guest + g) (joined w.flusher.finished)) ≡ slice_index new.told g =
    (λ i. length (of_guest (h.first_is i + g) (h.finished i))) ∙ sym here in
    let low' : g < w.guests = subst (λ (n : ℕ). g < n) (sym h.guests) low in
    let end = after w (Publish g) in
    let stands = stands_again state stage (base old.first_guest) old new log w end (subst (IsSameSeat old) (sym is) refl) refl h
    (set_again w.flusher.told old.told new.told w.guests g _ h.told
    (ap (λ (f : FlusherValue). f.told) is ∙ ap (set old.told g) (sym here ∙ sym count)) (sym count))
    (λ k l. h.totals k l ∙ ap (λ (f : FlusherValue). slice_index f.totals k) (sym is))
    (h.halted ∙ ap (λ (f : FlusherValue). f.halted) (sym is)) in
    does_one TheFlusher w w (plain (Publish g)) (StandsAt state stage (base old.first_guest) new log) (same_here TheFlusher w) low' refl
    (λ v same. flusher_stays state stage (base old.first_guest) new log end v stands same)

pub halted_stands : {D : Type 0} (state : D → DiskState) (stage : Stage) (first : ℕ) (f : FlusherValue) (log : LogValue D) (w : World)
    → StandsAt state stage first f log w → StandsAt state stage first (after_halt f) log (after w Halt)
halted_stands state stage first f log w h =
    stands_again state stage first f (after_halt f) log w (after w Halt) refl refl h h.told h.totals refl

halts_are_events : {D : Type 0} (state : D → DiskState) → HaltsAreEvents state
halts_are_events state stage first f log w h =
    does_one TheFlusher w w (plain Halt) (StandsAt state stage first (after_halt f) log) (same_here TheFlusher w) tt refl
    (λ v same. flusher_stays state stage first (after_halt f) log (after w Halt) v (halted_stands state stage first f log w h) same)

left_looks_are_events : {D : Type 0} (state : D → DiskState) → LeftLooksAreEvents state
left_looks_are_events state stage first old new log w g word low is here h =
    let v : World = record w { words = λ k. word } in
    let same : IsSameForFlusher w v = record { guests = refl; first_guest = refl; bodies = refl; flusher = refl; disk = refl } in
    let before = flusher_stays state stage first old log w v h same in
    let end = after v (LookLeft g) in
    let stands = stands_again state stage first old new log v end (subst (IsSameSeat old) (sym is) refl) refl before
    (λ k l. h.told k l ∙ ap (λ (f : FlusherValue). slice_index f.told k) (sym is))
    (set_again w.flusher.totals old.totals new.totals w.guests g word h.totals (ap (λ (f : FlusherValue). f.totals) is) here)
    (h.halted ∙ ap (λ (f : FlusherValue). f.halted) (sym is)) in
    does_one TheFlusher w v (loading (LookLeft g) word) (StandsAt state stage first new log) same
    (subst (λ (n : ℕ). g < n) (sym h.guests) low) refl
    (λ u there. flusher_stays state stage first new log end u stands there)

pub flusher_calls : {D : Type 0} (state : D → DiskState) → FlusherCallsAreEvents state
flusher_calls state =
    record { publishes = publishes_are_events state; halts = halts_are_events state; left_looks = left_looks_are_events state }
