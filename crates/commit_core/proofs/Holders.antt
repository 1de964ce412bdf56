-- The events of all holders in any order, and what one holder does in a row.
use Rattle.std.proofs.Common.{◌≡◌, ◌≢◌, ◌⊎◌, inl, inr, ℕ, ◌+◌, ◌<◌, Bool, true, false, cond, List, [], ◌∷◌, ◌++◌, take, refl, sym, ◌∙◌, ap, subst}
use Rattle.std.proofs.lemmas.Bool.Decides.{eqb_tells}
use Rattle.rrv_model.specs.Recording.{IsRecording, IsNumbered, EndsIn, items_of}
use Rattle.commit_core.specs.Runs.{IsOutput}
use Rattle.commit_core.specs.World.{World, Recorder, made}
use Rattle.commit_core.specs.Events.{Event, May, CanWrite, after, put, sliced, pushed, looked, released, looked_at_halt, gone, looked_at_left}
use Rattle.commit_core.specs.Events.Event.{Slice, Push, Look, Release, LookHalt, Leave, Pop, WriteBody, WriteBodyFails, Sync1, Sync1Fails, OpenGate, OpenGateFails, Sync2, Sync2Fails, Publish, Halt, LookLeft}
use Rattle.commit_core.specs.Holders.{Holder, Act, IsOwnRun, IsSameFor, IsSameForFlusher, IsSameForRecorder, BeginningsAreOwnRuns, Finds, OwnRunsAreSchedules, PopsAreReceived, RowsAreOwnRuns, acts, holder, is_same, known, loads, loading, plain}
use Rattle.commit_core.specs.Holders.Holder.{TheFlusher, TheRecorder}
use Rattle.commit_core.proofs.Lists.{put_same, put_other}

-- ---- holders

place : Holder → ℕ
place (TheRecorder g) = g
place TheFlusher = 0

flusher_is_other : (g : ℕ) → TheRecorder g ≡ TheFlusher → ⊥
flusher_is_other g e = cc

is_same_tells : (a b : Holder) → ((is_same a b ≡ true) × (a ≡ b)) ⊎ ((is_same a b ≡ false) × (a ≢ b))
unfolding place
is_same_tells (TheRecorder g) (TheRecorder k) = elim (eqb_tells g k) [
  | inl same ↦ inl (same.0, ap TheRecorder same.1)
  | inr other ↦ inr (other.0, λ e. other.1 (ap place e))
]
is_same_tells TheFlusher TheFlusher = inl (refl, refl)
is_same_tells (TheRecorder g) TheFlusher = inr (refl, flusher_is_other g)
is_same_tells TheFlusher (TheRecorder g) = inr (refl, λ e. flusher_is_other g (sym e))

-- ---- worlds with the same part

pub same_here : (h : Holder) (w : World) → IsSameFor h w w
same_here (TheRecorder g) w = record { guests = refl; first_guest = refl; recorder = refl }
same_here TheFlusher w = record { guests = refl; first_guest = refl; bodies = refl; flusher = refl; disk = refl }

pub same_back : (h : Holder) (u v : World) → IsSameFor h u v → IsSameFor h v u
same_back (TheRecorder g) u v s =
    record { guests = sym s.guests; first_guest = sym s.first_guest; recorder = sym s.recorder }
same_back TheFlusher u v s = record {
  guests = sym s.guests;
  first_guest = sym s.first_guest;
  bodies = sym s.bodies;
  flusher = sym s.flusher;
  disk = sym s.disk;
}

pub same_then : (h : Holder) (u v w : World) → IsSameFor h u v → IsSameFor h v w → IsSameFor h u w
same_then (TheRecorder g) u v w a b = record {
  guests = b.guests ∙ a.guests;
  first_guest = b.first_guest ∙ a.first_guest;
  recorder = b.recorder ∙ a.recorder;
}
same_then TheFlusher u v w a b = record {
  guests = b.guests ∙ a.guests;
  first_guest = b.first_guest ∙ a.first_guest;
  bodies = b.bodies ∙ a.bodies;
  flusher = b.flusher ∙ a.flusher;
  disk = b.disk ∙ a.disk;
}

-- the flusher's part of one world, and what isn't in it of another
abbrev pub mixed : World → World → World
mixed v w = record v { queue = w.queue; words = w.words; recorders = w.recorders }

pub is_mixed : (v w : World) → IsSameForFlusher v w → w ≡ mixed v w
is_mixed v w s = λ i. record {
  guests = s.guests i;
  first_guest = s.first_guest i;
  bodies = s.bodies i;
  recorders = w.recorders;
  queue = w.queue;
  words = w.words;
  flusher = s.flusher i;
  disk = s.disk i;
}

-- ---- an event leaves the parts of others

leaves_flusher : (w : World) (e : Event) → holder e ≢ TheFlusher → IsSameForFlusher w (after w e)
leaves_flusher w (Slice g r s) other = record { guests = refl; first_guest = refl; bodies = refl; flusher = refl; disk = refl }
leaves_flusher w (Push g r rest) other = record { guests = refl; first_guest = refl; bodies = refl; flusher = refl; disk = refl }
leaves_flusher w (Look g) other = record { guests = refl; first_guest = refl; bodies = refl; flusher = refl; disk = refl }
leaves_flusher w (Release g more) other = record { guests = refl; first_guest = refl; bodies = refl; flusher = refl; disk = refl }
leaves_flusher w (LookHalt g) other = record { guests = refl; first_guest = refl; bodies = refl; flusher = refl; disk = refl }
leaves_flusher w (Leave g) other = record { guests = refl; first_guest = refl; bodies = refl; flusher = refl; disk = refl }
leaves_flusher w _ other = absurd (other refl)

beside : (g k : ℕ) (w : World) (one : Recorder) → TheRecorder k ≢ TheRecorder g → put w.recorders k one g ≡ w.recorders g
beside g k w one other = put_other w.recorders k one g (λ e. other (ap TheRecorder (sym e)))

leaves_recorder : (g : ℕ) (w : World) (e : Event) → holder e ≢ TheRecorder g → IsSameForRecorder g w (after w e)
leaves_recorder g w (Slice k r s) other =
    record { guests = refl; first_guest = refl; recorder = beside g k w (sliced r s (w.recorders k)) other }
leaves_recorder g w (Push k r rest) other =
    record { guests = refl; first_guest = refl; recorder = beside g k w (pushed r rest (w.recorders k)) other }
leaves_recorder g w (Look k) other =
    record { guests = refl; first_guest = refl; recorder = beside g k w (looked (w.words k) (w.recorders k)) other }
leaves_recorder g w (Release k more) other =
    record { guests = refl; first_guest = refl; recorder = beside g k w (released more (w.recorders k)) other }
leaves_recorder g w (LookHalt k) other =
    record { guests = refl; first_guest = refl; recorder = beside g k w (looked_at_halt (w.words w.guests) (w.recorders k)) other }
leaves_recorder g w (Leave k) other =
    record { guests = refl; first_guest = refl; recorder = beside g k w (gone (w.recorders k)) other }
leaves_recorder g w _ other = record { guests = refl; first_guest = refl; recorder = refl }

pub leaves_others : (h : Holder) (w : World) (e : Event) → holder e ≢ h → IsSameFor h w (after w e)
leaves_others (TheRecorder g) w e other = leaves_recorder g w e other
leaves_others TheFlusher w e other = leaves_flusher w e other

-- ---- an event of a holder depends on its part

-- in a world that has the part of another the event may happen too, and leaves the same part
record Carries (h : Holder) (v w : World) (e : Event) : Type 0 where
  may : May w e
  same : IsSameFor h (after v (known e)) (after w e)

IsRecorders : Holder → Type 0
IsRecorders (TheRecorder g) = Unit {0}
IsRecorders TheFlusher = ⊥

can_write : (v w : World) (count : ℕ) → CanWrite v count → CanWrite (mixed v w) count
can_write v w count can = record {
  idle = can.idle;
  some = can.some;
  few = can.few;
  there = can.there;
  body = can.body;
  number = can.number;
  store = can.store;
  old = can.old;
}

carries_mixed : (v w : World) (e : Event) → holder e ≡ TheFlusher → May v (known e) → loads v (known e) ≡ loads (mixed v w) e →
    Finds (mixed v w) e → Carries TheFlusher v (mixed v w) e
unfolding IsRecorders
carries_mixed v w (Pop r rest) is may word finds =
    record { may = finds; same = record { guests = refl; first_guest = refl; bodies = refl; flusher = refl; disk = refl } }
carries_mixed v w (WriteBody count) is may word finds = record {
  may = can_write v w count may;
  same = record { guests = refl; first_guest = refl; bodies = refl; flusher = refl; disk = refl };
}
carries_mixed v w (WriteBodyFails count disk) is may word finds = record {
  may = (can_write v w count may.0, may.1);
  same = record { guests = refl; first_guest = refl; bodies = refl; flusher = refl; disk = refl };
}
carries_mixed v w (OpenGateFails disk) is may word finds =
    record { may = may; same = record { guests = refl; first_guest = refl; bodies = refl; flusher = refl; disk = refl } }
carries_mixed v w Sync1 is may word finds =
    record { may = may; same = record { guests = refl; first_guest = refl; bodies = refl; flusher = refl; disk = refl } }
carries_mixed v w Sync1Fails is may word finds =
    record { may = may; same = record { guests = refl; first_guest = refl; bodies = refl; flusher = refl; disk = refl } }
carries_mixed v w OpenGate is may word finds =
    record { may = may; same = record { guests = refl; first_guest = refl; bodies = refl; flusher = refl; disk = refl } }
carries_mixed v w Sync2 is may word finds =
    record { may = may; same = record { guests = refl; first_guest = refl; bodies = refl; flusher = refl; disk = refl } }
carries_mixed v w Sync2Fails is may word finds =
    record { may = may; same = record { guests = refl; first_guest = refl; bodies = refl; flusher = refl; disk = refl } }
carries_mixed v w (Publish g) is may word finds =
    record { may = may; same = record { guests = refl; first_guest = refl; bodies = refl; flusher = refl; disk = refl } }
carries_mixed v w Halt is may word finds =
    record { may = may; same = record { guests = refl; first_guest = refl; bodies = refl; flusher = refl; disk = refl } }
carries_mixed v w (LookLeft g) is may word finds = record {
  may = may;
  same = record {
    guests = refl;
    first_guest = refl;
    bodies = refl;
    flusher = λ i. looked_at_left g (sym word i) v.flusher;
    disk = refl;
  };
}
carries_mixed v w _ is may word finds = absurd (subst IsRecorders is tt)

flusher_carries : (v w : World) (e : Event) → holder e ≡ TheFlusher → IsSameForFlusher v w → May v (known e) →
    loads v (known e) ≡ loads w e → Finds w e → Carries TheFlusher v w e
flusher_carries v w e is same may word finds =
    subst (λ (x : World). loads v (known e) ≡ loads x e → Finds x e → Carries TheFlusher v x e) (sym (is_mixed v w same))
    (λ l f. carries_mixed v w e is may l f) word finds

module _ (g : ℕ) (v w : World) (same : IsSameForRecorder g v w) where
  low : g < v.guests → g < w.guests
  low there = subst (λ (n : ℕ). g < n) (sym same.guests) there

  -- with what the recorder is then in both
  with_both : (one other : Recorder) → other ≡ one → put w.recorders g other g ≡ put v.recorders g one g
  with_both one other is = put_same w.recorders g other ∙ is ∙ sym (put_same v.recorders g one)

recorder_carries : (g : ℕ) (v w : World) (e : Event) → holder e ≡ TheRecorder g → IsSameFor (holder e) v w → May v (known e) →
    loads v (known e) ≡ loads w e → Finds w e → Carries (holder e) v w e
unfolding IsRecorders
recorder_carries _ v w (Slice g r s) is same may word finds = record {
  may = record {
    guest = low g v w same may.guest;
    has_text = may.has_text;
    recording = subst (λ (one : Recorder). IsRecording (made one ++ r ∷ [])) (sym same.recorder) may.recording;
    numbered = subst (λ (x : ℕ × Recorder). IsNumbered (x.0 + g) 0 (made x.1 ++ r ∷ []))
        (λ i. (sym same.first_guest i, sym same.recorder i)) may.numbered;
    ends = subst (λ (one : Recorder). EndsIn (items_of (made one ++ r ∷ [])) s) (sym same.recorder) may.ends;
  };
  same = record {
    guests = same.guests;
    first_guest = same.first_guest;
    recorder = with_both g v w same (sliced r s (v.recorders g)) (sliced r s (w.recorders g)) (ap (sliced r s) same.recorder);
  };
}
recorder_carries _ v w (Push g r rest) is same may word finds = record {
  may = record {
    guest = low g v w same may.guest;
    next = ap (λ (one : Recorder). one.backlog) same.recorder ∙ may.next;
    room = finds;
    here = ap (λ (one : Recorder). one.left) same.recorder ∙ may.here;
  };
  same = record {
    guests = same.guests;
    first_guest = same.first_guest;
    recorder = with_both g v w same (pushed r rest (v.recorders g)) (pushed r rest (w.recorders g)) (ap (pushed r rest) same.recorder);
  };
}
recorder_carries _ v w (Look g) is same may word finds = record {
  may = low g v w same may;
  same = record {
    guests = same.guests;
    first_guest = same.first_guest;
    recorder = with_both g v w same (looked (v.words g) (v.recorders g)) (looked (w.words g) (w.recorders g))
        (λ i. looked (sym word i) (same.recorder i));
  };
}
recorder_carries _ v w (Release g more) is same may word finds = record {
  may = (
    low g v w same may.0,
    subst (λ (one : Recorder). IsOutput (one.out ++ more) (take one.seen (made one))) (sym same.recorder) may.1,
  );
  same = record {
    guests = same.guests;
    first_guest = same.first_guest;
    recorder = with_both g v w same (released more (v.recorders g)) (released more (w.recorders g)) (ap (released more) same.recorder);
  };
}
recorder_carries _ v w (LookHalt g) is same may word finds = record {
  may = low g v w same may;
  same = record {
    guests = same.guests;
    first_guest = same.first_guest;
    recorder = with_both g v w same (looked_at_halt (v.words v.guests) (v.recorders g)) (looked_at_halt (w.words w.guests) (w.recorders g))
        (λ i. looked_at_halt (sym word i) (same.recorder i));
  };
}
recorder_carries _ v w (Leave g) is same may word finds = record {
  may = low g v w same may;
  same = record {
    guests = same.guests;
    first_guest = same.first_guest;
    recorder = with_both g v w same (gone (v.recorders g)) (gone (w.recorders g)) (ap gone same.recorder);
  };
}
recorder_carries g v w _ is same may word finds = absurd (subst IsRecorders (sym is) tt)

carries_as : (h : Holder) (v w : World) (e : Event) → holder e ≡ h → IsSameFor (holder e) v w → May v (known e) →
    loads v (known e) ≡ loads w e → Finds w e → Carries (holder e) v w e
carries_as (TheRecorder g) v w e is same may word finds = recorder_carries g v w e is same may word finds
carries_as TheFlusher v w e is same may word finds =
    subst (λ (h : Holder). Carries h v w e) (sym is)
    (flusher_carries v w e is (subst (λ (h : Holder). IsSameFor h v w) is same) may word finds)

-- ---- own runs

-- from another world with the same part, and to one
pub own_from : (h : Holder) (u v : World) (doing : List Act) (end : World) → IsSameFor h u v → IsOwnRun h u doing end →
    IsOwnRun h v doing end
own_from h u v [] end same own = same_then h v u end (same_back h u v same) own
own_from h u v (a ∷ later) end same own =
    (own.0, same_then h v u own.0 (same_back h u v same) own.1, own.2, own.3, own.4)

pub own_to : (h : Holder) (w : World) (doing : List Act) (u v : World) → IsOwnRun h w doing u → IsSameFor h u v → IsOwnRun h w doing v
own_to h w [] u v own same = same_then h w u v own same
own_to h w (a ∷ later) u v own same =
    (own.0, own.1, own.2, own.3, own_to h (after own.0 a.event) later u v own.4 same)

pub rows : RowsAreOwnRuns
rows h w u v [] last front back = own_from h u w last v (same_back h w u front) back
rows h w u v (a ∷ first) last front back =
    (front.0, front.1, front.2, front.3, rows h (after front.0 a.event) u v first last front.4 back)

pub beginnings : BeginningsAreOwnRuns
beginnings h w end [] last own = (w, same_here h w)
beginnings h w end (a ∷ first) last own =
    let rest = beginnings h (after own.0 a.event) end first last own.4 in
    (rest.0, (own.0, own.1, own.2, own.3, rest.1))

-- ---- what an own run leaves

pub same_first : (h : Holder) (w v : World) → IsSameFor h w v → v.first_guest ≡ w.first_guest
same_first (TheRecorder g) w v same = same.first_guest
same_first TheFlusher w v same = same.first_guest

after_first : (w : World) (e : Event) → (after w e).first_guest ≡ w.first_guest
after_first w (Slice g r s) = refl
after_first w _ = refl

pub own_first : (h : Holder) (w : World) (doing : List Act) (end : World) → IsOwnRun h w doing end → end.first_guest ≡ w.first_guest
own_first h w [] end own = same_first h w end own
own_first h w (a ∷ later) end own =
    own_first h (after own.0 a.event) later end own.4 ∙ after_first own.0 a.event ∙ same_first h w own.0 own.1

-- ---- any order

acts_own : (w : World) (e : Event) (events : List Event) →
    acts (holder e) w (e ∷ events) ≡ loading (known e) (loads w e) ∷ acts (holder e) (after w e) events
acts_own w e events = elim (is_same_tells (holder e) (holder e)) [
  | inl same ↦ ap (λ (b : Bool). cond b (loading (known e) (loads w e) ∷ acts (holder e) (after w e) events)
      (acts (holder e) (after w e) events)) same.0
  | inr other ↦ absurd (other.1 refl)
]

acts_other : (h : Holder) (w : World) (e : Event) (events : List Event) → is_same (holder e) h ≡ false →
    acts h w (e ∷ events) ≡ acts h (after w e) events
acts_other h w e events other =
    ap (λ (b : Bool). cond b (loading (known e) (loads w e) ∷ acts h (after w e) events) (acts h (after w e) events)) other

pub in_any_order : OwnRunsAreSchedules
in_any_order w [] end each finds = (tt, λ h. same_back h w (end h) (each h))
in_any_order w (e ∷ events) end each finds =
    let me = holder e in
    let own = subst (λ (l : List Act). IsOwnRun me w l (end me)) (acts_own w e events) (each me) in
    let carried = carries_as me own.0 w e refl (same_back me w own.0 own.1) own.2 own.3 finds.0 in
    let later : IsOwnRun me (after w e) (acts me (after w e) events) (end me) =
    own_from me (after own.0 (known e)) (after w e) (acts me (after w e) events) (end me) carried.same own.4 in
    let each_later : (h : Holder) → IsOwnRun h (after w e) (acts h (after w e) events) (end h) = λ h. elim (is_same_tells me h) [
      | inl same ↦ subst (λ (k : Holder). IsOwnRun k (after w e) (acts k (after w e) events) (end k)) same.1 later
      | inr other ↦ own_from h w (after w e) (acts h (after w e) events) (end h) (leaves_others h w e other.1)
          (subst (λ (l : List Act). IsOwnRun h w l (end h)) (acts_other h w e events other.0) (each h))
    ] in
    let rest = in_any_order (after w e) events end each_later finds.1 in
    ((carried.may, rest.0), rest.1)

pub pops_are_received : PopsAreReceived
pops_are_received w [] rest = refl
pops_are_received w (r ∷ more) rest =
    ap (λ (l : List Act). plain (Pop r []) ∷ l) (pops_are_received (after w (Pop r (more ++ rest))) more rest)
