-- A guest that is recorded again by the choices of its frames.
use Rattle.std.proofs.Common.{◌≡◌, ◌∙◌, ℕ, zero, suc, ◌<◌, ◌≤◌, ◌⊎◌, inl, inr, Bool, true, false, cond, List, [], ◌∷◌, ◌++◌, length, take, max, Option, Some, None, refl, sym, ap, subst, arith}
use Rattle.std.specs.Prelude.{All, Contains, MatchOption, filter_map, slice_get}
use Rattle.std.specs.List.{cons_option}
use Rattle.std.proofs.lemmas.Bool.{cases_lt, false≢true, le-leb}
use Rattle.std.proofs.lemmas.List.{take_all}
use Rattle.rrv_model.specs.declared.limits.TheConstants.{MIN_QUANTUM}
use Rattle.rrv_model.specs.declared.machine.GuestEnd.{GuestEnd}
use Rattle.rrv_model.specs.declared.record.CallRecord.{CallRecord}
use Rattle.rrv_model.specs.declared.record.Choice.{Choice}
use Rattle.rrv_model.specs.declared.record.End.{End}
use Rattle.rrv_model.specs.declared.record.End.TheVariants as ends
use Rattle.rrv_model.specs.declared.record.Frame.{Frame}
use Rattle.rrv_model.specs.declared.record.Item.{Item}
use Rattle.rrv_model.specs.declared.record.Item.TheVariants as items
use Rattle.rrv_model.specs.declared.record.Opening.{Opening}
use Rattle.rrv_model.specs.declared.record.Part.{Part}
use Rattle.rrv_model.specs.State.{State, thread_at, IsRunning, IsState}
use Rattle.rrv_model.specs.FrameStep.{FrameStep, FrameStepBy, Preempts, Steps}
use Rattle.rrv_model.specs.Opening.{opening_state}
use Rattle.rrv_model.specs.Ends.{call_in, runs_thread, is_preempt, is_expiry}
use Rattle.rrv_model.specs.Recording.{ItemsFollow, Starts, base_after, frames_of, items_of, row_after}
use Rattle.rrv_model.proofs.Ends.{call_is, no_thread, preempt_is, stuck_is}
use Rattle.rrv_model.proofs.FrameLaws.{one_state_after_frame}
use Rattle.rrv_model.proofs.OpeningState.{openings_are_states}
use Rattle.rrv_model.proofs.StateLaws.{frames_keep_states}
use Rattle.rv_machine.specs.declared.run.RunEnd.TheVariants as run_ends
use Rattle.serial_sched.specs.Chosen.{AreChosen, AreRunning, Picks, PicksAmong}
use Rattle.serial_sched.specs.Follows.{Reaches}
use Rattle.serial_sched.specs.Slices.{FindsNoMemory, FitsChoice, IsWhole}
use Rattle.serial_sched.specs.Turns.{CanChoose, IsCutShort}
use Rattle.serial_sched.proofs.OneStep.{one_run_end}
use Rattle.serial_sched.proofs.Reached.{frame_runs, has_none, has_one, limit_is_preempt, reaches, run_end, same_end}
use Rattle.choices.specs.declared.schedule.Misfit.{Misfit}
use Rattle.choices.specs.Recorded.{FrameIsOfGuest, IsSameEnd, IsSameSlice, IsUncut, choice_by_end, choice_if, choice_of}
use Rattle.choices.specs.Schedule.{Plan, Chooses, IsOver, TakesListed, plan}
use Rattle.choices.specs.Scheduled.{by_schedule}
use Rattle.choices.specs.Again.{AreAnsweredAlike, FramesFollow, HasEnded, IsAnsweredAlike, IsCutShortOf, IsRunAgain, IsTold, RecordingsFollow, RunAgainIsAlike, RunAgainIsSame, RunAgainIsWhole, RunsAlike}
use Rattle.choices.proofs.OwnSlices.{choices_tell_slices, chosen, chosen_within, earlier, frames_are_of_guests, one_frame}
use Rattle.choices.proofs.SaidChoices.{all_cons, text_says_choices}
use Rattle.choices.proofs.Scheduled.{first_runs, none_runs}

-- ---- a frame's choice is the next of the list

tells_if : (thread preempt : Bool) (tid count : ℕ) → thread ≡ true → (preempt ≡ true → MIN_QUANTUM ≤ count) → (choice : Choice) ×
    (choice_if thread preempt tid count ≡ Some choice)
tells_if false preempt tid count some told = absurd (false≢true some)
tells_if true false tid count some told = (record { tid = tid; quantum = max MIN_QUANTUM count }, refl)
tells_if true true tid count some told = (
  record { tid = tid; quantum = count },
  ap (λ (b : Bool). cond b (Some (record { tid = tid; quantum = count })) None) (le-leb MIN_QUANTUM count (told refl)),
)

-- a frame whose thread ran, and that was not cut short, tells its choice
pub tells : (end : End) (tid count : ℕ) → runs_thread end ≡ true → (end ≡ ends.Preempt → MIN_QUANTUM ≤ count) → (choice : Choice) ×
    (choice_by_end end tid count ≡ Some choice)
tells end tid count some told = tells_if (runs_thread end) (is_preempt end) tid count some (λ p. told (preempt_is end p))

-- it can be chosen
pub can_choose : (s : State) (f : Frame) (m : State) (tids : List ℕ) (choice : Choice) → runs_thread f.end ≡ true → FrameStep s f m →
    FrameIsOfGuest f → AreRunning s tids → choice_of f ≡ Some choice →
    CanChoose tids choice
can_choose s f m tids choice runs step of are is =
    let within = chosen_within f.end f.tid f.count choice is of in
    let same = chosen f.end f.tid f.count choice is in (
      subst (λ (tid : ℕ). Contains tids tid) (sym same.0) ((are.running f.tid).1 (frame_runs f.end s f.tid f.count m runs step.goes)),
      (within.2, within.3),
    )

-- a list whose next choice can be chosen isn't over
not_over : (tids : List ℕ) (misfit : Option Misfit) (left : List Choice) (choice : Choice) (rest : List Choice) → misfit ≡ None →
    left ≡ choice ∷ rest → CanChoose tids choice → IsOver tids misfit left →
    ⊥
not_over tids misfit left choice rest unrefused is can over =
    subst (λ (l : List Choice). IsCutShort tids l) is (subst (λ (m : Option Misfit). IsOver tids m left) unrefused over) can

takes_listed : (tids : List ℕ) (p : Plan) (chosen : Choice) (next : Plan) (choice : Choice) (rest : List Choice) → p.misfit ≡ None →
    p.left ≡ choice ∷ rest → CanChoose tids choice →
    Chooses tids p (Some chosen) next → TakesListed tids p chosen next
takes_listed tids p chosen next choice rest unrefused is can (inl taken) = taken
takes_listed tids p chosen next choice rest unrefused is can (inr turn) =
    absurd (not_over tids p.misfit p.left choice rest unrefused is can turn.over)

-- ---- the frame of that choice

abbrev IsShort : End → State → Frame → Choice → Type 0
IsShort end s g choice = (end ≡ ends.Preempt) × (g.tid ≡ choice.tid) × (g.count < choice.quantum) × FindsNoMemory s g.tid g.count

uncut_or_short : (end : End) (s : State) (g : Frame) (choice : Choice) → FitsChoice end s g choice → IsUncut end g.count choice ⊎
    IsShort end s g choice
uncut_or_short end s g choice fits = by (is_preempt end) refl where
  whole : end ≡ ends.Preempt → g.tid ≡ choice.tid → IsWhole s g.tid g.count choice.quantum → IsUncut end g.count choice ⊎
      IsShort end s g choice
  whole is tid (inl all) = inl (λ e. all)
  whole is tid (inr short) = inr (is, tid, short.0, short.1)

  by : (b : Bool) → is_preempt end ≡ b → IsUncut end g.count choice ⊎ IsShort end s g choice
  by true e =
      let is : end ≡ ends.Preempt = preempt_is end e in
      let fit : (g.tid ≡ choice.tid) × IsWhole s g.tid g.count choice.quantum = (subst (λ (x : End). FitsChoice x s g choice) is fits).1 in
      whole is fit.0 fit.1
  by false e = inl (λ is. absurd (false≢true (sym e ∙ ap is_preempt is)))

-- a slice that was cut short is shorter than the frame of the choice
shorter : (s : State) (f : Frame) (m : State) (g : Frame) (m' : State) (choice : Choice) → runs_thread f.end ≡ true → FrameStep s f m →
    FrameStep s g m' → choice_of f ≡ Some choice → g.tid ≡ f.tid →
    g.end ≡ ends.Preempt → g.count < choice.quantum → g.count < f.count
shorter s f m g m' choice runs step step' is same preempt short = by (cases_lt g.count f.count) where
  goes : Preempts s g.tid g.count m'
  goes = subst (λ (end : End). FrameStepBy end s g.tid g.count m') preempt step'.goes

  steps : Steps g.count f.tid s goes.last
  steps = subst (λ (tid : ℕ). Steps g.count tid s goes.last) same goes.steps

  far : (1 ≤ f.count) × (last : State) × Reaches (run_end f.end) f.count f.tid s last
  far = reaches f.end s f.tid f.count m runs step.goes

  limit : (f.count < g.count) ⊎ (g.count ≤ f.count) → f.count ≤ g.count → run_end f.end ≡ run_ends.Limit
  limit (inl low) high = earlier (run_end f.end) run_ends.Limit f.count g.count f.tid s far.1 goes.last low far.2 steps
  limit (inr low) high =
      let e : g.count ≡ f.count = omega arith in
      one_run_end (run_end f.end) run_ends.Limit f.count f.tid s far.1 goes.last far.2
      (subst (λ (n : ℕ). Steps n f.tid s goes.last) e steps)

  by : (g.count < f.count) ⊎ (f.count ≤ g.count) → g.count < f.count
  by (inl low) = low
  by (inr high) =
      let preempted = limit_is_preempt f.end (limit (cases_lt f.count g.count) high) in
      let whole = (chosen f.end f.tid f.count choice is).2 preempted in absurd (omega arith)

own_slice : (s : State) (f : Frame) (m : State) (g : Frame) (m' : State) (choice : Choice) → runs_thread f.end ≡ true → FrameStep s f m →
    FrameStep s g m' → choice_of f ≡ Some choice →
    FitsChoice g.end s g choice → IsSameSlice f g ⊎ IsCutShortOf s f g
own_slice s f m g m' choice runs step step' is fits = by (uncut_or_short g.end s g choice fits) where
  by : IsUncut g.end g.count choice ⊎ IsShort g.end s g choice → IsSameSlice f g ⊎ IsCutShortOf s f g
  by (inl uncut) = inl (choices_tell_slices s f m choice step is g m' step' fits uncut)
  by (inr (preempt, tid, short, memory)) =
      let same : g.tid ≡ f.tid = tid ∙ (chosen f.end f.tid f.count choice is).0 in
      inr (record { tid = same; end = preempt; count = shorter s f m g m' choice runs step step' is same preempt short; memory = memory })

-- ---- where no thread runs

rests : (end : End) (s : State) (tid count : ℕ) (s' : State) → is_expiry end ≡ false → ((t : ℕ) → IsRunning (thread_at s t) → ⊥) →
    FrameStepBy end s tid count s' → (runs_thread end ≡ false) × (tid ≡ 0) × (count ≡ 0)
rests end s tid count s' still none p =
    let has = has_none end s tid count s' none p in
    let own = no_thread end s tid count s' has still p in (has, own.no_tid, own.no_step)

both_rest : (s : State) (f : Frame) (m : State) (g : Frame) (m' : State) → is_expiry f.end ≡ false → is_expiry g.end ≡ false →
    ((t : ℕ) → IsRunning (thread_at s t) → ⊥) → FrameStep s f m → FrameStep s g m' → IsSameSlice f g
both_rest s f m g m' still still' none step step' =
    let a = rests f.end s f.tid f.count m still none step.goes in
    let b = rests g.end s g.tid g.count m' still' none step'.goes in
    let tids : g.tid ≡ f.tid = b.1 ∙ sym a.1 in
    let counts : g.count ≡ f.count = b.2 ∙ sym a.2 in
    let same : g.end ≡ f.end = stuck_is g.end b.0 still' ∙ sym (stuck_is f.end a.0 still) in
    record {
      tid = tids;
      count = counts;
      end = same_end f.end g.end same;
      same = λ none. one_frame f g tids counts same;
    }

-- behind a frame of no thread no frame follows
none_follow : (s : State) (o : GuestEnd) (frames : List Frame) → s.ended ≡ Some o → FramesFollow s frames → frames ≡ []
none_follow s o [] ended follow = refl
none_follow s o (f ∷ frames) ended (new, step, follow) = let runs = step.runs in absurd cc

pub none_behind : (s : State) (f : Frame) (m : State) (frames : List Frame) → runs_thread f.end ≡ false → is_expiry f.end ≡ false →
    FrameStep s f m → FramesFollow m frames → frames ≡ []
none_behind s f m frames none still step follow =
    let p = no_thread f.end s f.tid f.count m none still step.goes in
    none_follow m p.ends_so frames (ap (λ (x : State). x.ended) p.new_is) follow

-- ---- one frame

-- what is left of the list behind a frame of a thread
abbrev pub GoesOn : Plan → List Choice → Type 0
GoesOn next rest = (next.misfit ≡ None) × (next.left ≡ rest)

heads : (a b : Choice) (xs ys : List Choice) → a ∷ xs ≡ b ∷ ys → (a ≡ b) × (xs ≡ ys)
heads a b xs ys e = (cc, cc)

next_alike : (tids : List ℕ) (s : State) (f : Frame) (m : State) (g : Frame) (m' : State) (p : Plan) (picked : Choice) (next : Plan)
    (rest : List Choice) → FrameStep s f m → FrameStep s g m' →
    FrameIsOfGuest f → IsTold f → p.misfit ≡ None → p.left ≡ cons_option (choice_of f) rest → AreRunning s tids →
    PicksAmong by_schedule tids p (Some picked) next → FitsChoice g.end s g picked →
    (IsSameSlice f g ⊎ IsCutShortOf s f g) × ((runs_thread f.end ≡ false) ⊎ GoesOn next rest)
next_alike [] s f m g m' p picked next rest step step' of told unrefused is are picks fits =
    let none = none_runs s are in
    (inl (both_rest s f m g m' told.still fits.0 none step step'), inl (rests f.end s f.tid f.count m told.still none step.goes).0)
next_alike (t ∷ tids) s f m g m' p picked next rest step step' of told unrefused is are picks fits =
    let runs = has_one f.end s f.tid f.count m t told.still (first_runs s t tids are) step.goes in
    let c = tells f.end f.tid f.count runs told.long in
    let left : p.left ≡ c.0 ∷ rest = is ∙ ap (λ (o : Option Choice). cons_option o rest) c.1 in
    let taken : TakesListed (t ∷ tids) p picked next =
    takes_listed (t ∷ tids) p picked next c.0 rest unrefused left (can_choose s f m (t ∷ tids) c.0 runs step of are c.1) picks in
    let same = heads picked c.0 next.left rest (sym taken.next ∙ left) in (
      own_slice s f m g m' c.0 runs step step' c.1 (subst (λ (choice : Choice). FitsChoice g.end s g choice) same.0 fits),
      inr (ap (λ (q : Plan). q.misfit) taken.new_is ∙ unrefused, same.1),
    )

-- ---- one frame after another

pub all_rest : (P : Frame → Type 0) (f : Frame) (frames : List Frame) → All P (f ∷ frames) → All P frames
all_rest P f frames all = λ k d low. all (suc k) d (omega arith)

alike : (frames others : List Frame) (s : State) (p : Plan) (s' : State) (p' : Plan) → FramesFollow s frames → All FrameIsOfGuest frames →
    All IsTold frames → p.misfit ≡ None →
    p.left ≡ filter_map choice_of frames → AreChosen by_schedule s p others s' p' → RunsAlike s frames others
alike [] others s p s' p' follow of told unrefused is chosen = tt
alike (f ∷ frames) [] s p s' p' follow of told unrefused is chosen = tt
alike (f ∷ frames) (g ∷ others) s p s' p' (m, step, follow) of told unrefused is (m', next, made, more) =
    let one =
    next_alike made.picks.tids s f m g m' p made.choice next (filter_map choice_of frames) step made.step (of 0 f (omega arith))
    (told 0 f (omega arith)) unrefused is made.picks.running
    made.picks.picks made.fits in (
      one.0,
      λ new same step'.
          behind new one.1
          (λ go.
          alike frames others new next s' p'
          (subst (λ (x : State). FramesFollow x frames) (one_state_after_frame s f m new step step') follow)
          (all_rest FrameIsOfGuest f frames of) (all_rest IsTold f frames told) go.0 go.1
          (subst (λ (x : State). AreChosen by_schedule x next others s' p')
          (one_state_after_frame s f m' new (subst (λ (h : Frame). FrameStep s h m') same made.step) step') more)),
    )
  where
    behind : (new : State) → (runs_thread f.end ≡ false) ⊎ GoesOn next (filter_map choice_of frames) →
        (GoesOn next (filter_map choice_of frames) → RunsAlike new frames others) → RunsAlike new frames others
    behind new (inl none) on =
        subst (λ (fs : List Frame). RunsAlike new fs others)
        (sym (none_behind s f m frames none (told 0 f (omega arith)).still step follow)) tt
    behind new (inr go) on = on go

-- ---- a run

pub all_of_guest : (s : State) (frames : List Frame) → IsState s → FramesFollow s frames → All FrameIsOfGuest frames
all_of_guest s [] state follow = λ k d low. absurd (omega arith)
all_of_guest s (f ∷ frames) state (new, step, follow) =
    all_cons FrameIsOfGuest f frames (frames_are_of_guests s f new state step)
    (all_of_guest new frames (frames_keep_states s f new state step) follow)

some_alike : (a b : List Choice) → Some a ≡ Some b → a ≡ b
some_alike a b e = cc

printed_are : (s : State) (frames others : List Frame) (h : IsRunAgain s frames others) → h.choices ≡ filter_map choice_of frames
printed_are s frames others h =
    some_alike h.choices (filter_map choice_of frames) (sym h.printed ∙ text_says_choices frames (all_of_guest s frames h.start h.follow))

pub run_again_is_alike : RunAgainIsAlike
run_again_is_alike s frames others h =
    alike frames others s (plan h.choices h.turns) h.state h.last h.follow (all_of_guest s frames h.start h.follow) h.told refl
    (printed_are s frames others h) h.chosen

-- ---- the same answers

same_answer : (end other : End) → IsSameEnd end other → ((r r' : CallRecord) → end ≡ ends.Call r → other ≡ ends.Call r' → r' ≡ r) →
    other ≡ end
same_answer end other is answered = by (call_in end) refl is where
  by : (o : Option CallRecord) → call_in end ≡ o → MatchOption o (other ≡ end) (λ _. (r : CallRecord) × (other ≡ ends.Call r)) → other ≡ end
  by None e alike = alike
  by (Some r) e (r', call') =
      let call : end ≡ ends.Call r = call_is end r e in
      call' ∙ ap ends.Call (answered r r' call call') ∙ sym call

one_same : (s : State) (f g : Frame) → IsSameSlice f g ⊎ IsCutShortOf s f g → IsAnsweredAlike f g → g ≡ f
one_same s f g (inl is) h = one_frame f g is.tid is.count (same_answer f.end g.end is.end h.answered)
one_same s f g (inr is) h = let low = is.count in let high = h.whole is.end in absurd (omega arith)

all_same : (s : State) (frames others : List Frame) → FramesFollow s frames → RunsAlike s frames others → AreAnsweredAlike frames others →
    take (length frames) others ≡ take (length others) frames
all_same s [] [] follow are answered = refl
all_same s [] (g ∷ others) follow are answered = refl
all_same s (f ∷ frames) [] follow are answered = refl
all_same s (f ∷ frames) (g ∷ others) (m, step, follow) (one, rest) answered =
    let same : g ≡ f = one_same s f g one (answered 0 (f, g) (omega arith)) in
    let more = all_same m frames others follow (rest m same step) (λ k d low. answered (suc k) d (omega arith)) in
    λ i. same i ∷ more i

pub run_again_is_same : RunAgainIsSame
run_again_is_same s frames others h answered = all_same s frames others h.follow (run_again_is_alike s frames others h) answered

-- ---- before the frames are over

never_none : (tids : List ℕ) (s : State) (f : Frame) (m : State) (p next : Plan) (rest : List Choice) → FrameStep s f m → FrameIsOfGuest f →
    IsTold f → p.misfit ≡ None →
    p.left ≡ cons_option (choice_of f) rest → AreRunning s tids → PicksAmong by_schedule tids p None next → ⊥
never_none [] s f m p next rest step of told unrefused is are picks = let some = picks.0 in absurd cc
never_none (t ∷ tids) s f m p next rest step of told unrefused is are picks =
    let runs = has_one f.end s f.tid f.count m t told.still (first_runs s t tids are) step.goes in
    let c = tells f.end f.tid f.count runs told.long in
    not_over (t ∷ tids) p.misfit p.left c.0 rest unrefused (is ∙ ap (λ (o : Option Choice). cons_option o rest) c.1)
    (can_choose s f m (t ∷ tids) c.0 runs step of are c.1) picks.over

abbrev StandsBefore : State → Plan → Type 0
StandsBefore s p = (s.ended ≡ None) × ((new : Plan) → ¬ Picks by_schedule s p None new)

stands_before : (frames : List Frame) (h : Frame) (rest : List Frame) (s : State) (p : Plan) (s' : State) (p' : Plan) →
    FramesFollow s (frames ++ h ∷ rest) →
    All FrameIsOfGuest (frames ++ h ∷ rest) → All IsTold (frames ++ h ∷ rest) → p.misfit ≡ None →
    p.left ≡ filter_map choice_of (frames ++ h ∷ rest) → AreChosen by_schedule s p frames s' p' →
    StandsBefore s' p'
stands_before [] h rest s p s' p' (m, step, follow) of told unrefused is (there, same) =
    subst (λ (x : State × Plan). StandsBefore x.0 x.1) (λ i. (sym there i, sym same i)) (
      step.runs,
      λ new picks. never_none picks.tids s h m p new (filter_map choice_of rest) step (of 0 h (omega arith)) (told 0 h (omega arith))
          unrefused is picks.running picks.picks,
    )
stands_before (f ∷ frames) h rest s p s' p' (m, step, follow) of told unrefused is (m', next, made, more) =
    behind
    (next_alike made.picks.tids s f m f m' p made.choice next (filter_map choice_of (frames ++ h ∷ rest)) step made.step
    (of 0 f (omega arith)) (told 0 f (omega arith)) unrefused is made.picks.running
    made.picks.picks made.fits).1
    (λ go.
    stands_before frames h rest m next s' p' follow (all_rest FrameIsOfGuest f (frames ++ h ∷ rest) of)
    (all_rest IsTold f (frames ++ h ∷ rest) told) go.0 go.1
    (subst (λ (x : State). AreChosen by_schedule x next frames s' p') (one_state_after_frame s f m' m made.step step) more))
  where
    some_left : (fs : List Frame) → fs ++ h ∷ rest ≡ [] → ⊥
    some_left [] e = absurd cc
    some_left (g ∷ fs) e = absurd cc

    behind : (runs_thread f.end ≡ false) ⊎ GoesOn next (filter_map choice_of (frames ++ h ∷ rest)) →
        (GoesOn next (filter_map choice_of (frames ++ h ∷ rest)) → StandsBefore s' p') → StandsBefore s' p'
    behind (inl none) on =
        absurd (some_left frames (none_behind s f m (frames ++ h ∷ rest) none (told 0 f (omega arith)).still step follow))
    behind (inr go) on = on go

not_ended : (s : State) (p : Plan) → StandsBefore s p → HasEnded s p → ⊥
not_ended s p stands (inl ended) = ended stands.0
not_ended s p stands (inr (new, picks)) = stands.1 new picks

not_before : (s : State) (frames others : List Frame) (again : IsRunAgain s frames others) (h : Frame) (rest : List Frame) →
    frames ≡ others ++ h ∷ rest →
    HasEnded again.state again.last → ⊥
not_before s frames others again h rest are ended =
    not_ended again.state again.last
    (stands_before others h rest s (plan again.choices again.turns) again.state again.last
    (subst (λ (fs : List Frame). FramesFollow s fs) are again.follow)
    (subst (λ (fs : List Frame). All FrameIsOfGuest fs) are (all_of_guest s frames again.start again.follow))
    (subst (λ (fs : List Frame). All IsTold fs) are again.told) refl
    (printed_are s frames others again ∙ ap (λ (fs : List Frame). filter_map choice_of fs) are) again.chosen)
    ended

next_of : (frames : List Frame) (n : ℕ) → n < length frames → (h : Frame) × (rest : List Frame) × (frames ≡ take n frames ++ h ∷ rest)
next_of [] n low = absurd (omega arith)
next_of (f ∷ frames) zero low = (f, frames, refl)
next_of (f ∷ frames) (suc n) low = let more = next_of frames n (omega arith) in (more.0, more.1, ap (λ (fs : List Frame). f ∷ fs) more.2)

pub run_again_is_whole : RunAgainIsWhole
run_again_is_whole s frames others again answered ended = by (cases_lt (length others) (length frames)) where
  same : take (length frames) others ≡ take (length others) frames
  same = run_again_is_same s frames others again answered

  by : (length others < length frames) ⊎ (length frames ≤ length others) → take (length frames) others ≡ frames
  by (inl low) =
      let next = next_of frames (length others) low in
      let are : frames ≡ others ++ next.0 ∷ next.1 =
      next.2 ∙ ap (λ (fs : List Frame). fs ++ next.0 ∷ next.1) (sym same ∙ take_all (length frames) others (omega arith)) in
      absurd (not_before s frames others again next.0 next.1 are ended)
  by (inr high) = same ∙ take_all (length others) frames high

-- ---- recordings

frames_follow : (base s : State) (parts : List Part) (its : List Item) → ItemsFollow base parts s its → FramesFollow s (frames_of its)
frames_follow base s parts [] follow = tt
frames_follow base s parts (items.Opening o ∷ rest) follow = absurd follow
frames_follow base s parts (items.Frame f ∷ rest) (new, step, follow) = (new, step, frames_follow base new [] rest follow)
frames_follow base s parts (items.Part p ∷ rest) (fits, follow) =
    frames_follow (base_after p.rest base s) s (row_after p.rest (parts ++ p ∷ [])) rest follow

start_follows : (its : List Item) (o : Opening) → Starts its → slice_get its 0 ≡ Some (items.Opening o) →
    IsState (opening_state o.version o.elf o.name o.random) × FramesFollow (opening_state o.version o.elf o.name o.random) (frames_of its)
start_follows [] o starts first = absurd starts
start_follows (items.Opening x ∷ rest) o (s, opens, follow) first =
    let same : x ≡ o = cc in
    let is : s ≡ opening_state o.version o.elf o.name o.random =
    opens.state_is ∙ ap (λ (y : Opening). opening_state y.version y.elf y.name y.random) same in (
      subst (λ (t : State). IsState t) is (openings_are_states x s opens),
      subst (λ (t : State). FramesFollow t (frames_of rest)) is (frames_follow s s [] rest follow),
    )
start_follows (items.Frame f ∷ rest) o starts first = absurd starts
start_follows (items.Part p ∷ rest) o starts first = absurd starts

pub recordings_follow : RecordingsFollow
recordings_follow records o is first = start_follows (items_of records) o is.starts first
