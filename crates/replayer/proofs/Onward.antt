-- Going on along the frames of a recording, and into them.
use Rattle.std.proofs.Common.{◌≡◌, ◌≢◌, ℕ, zero, suc, ◌+◌, ◌-◌, ◌<◌, ◌≤◌, Bool, true, false, nat_le, List, [], ◌∷◌, ◌++◌, length, get_or, take, drop, None, refl, sym, ◌∙◌, ap, subst, arith}
use Rattle.std.specs.Prelude.{MatchBool}
use Rattle.std.proofs.lemmas.Bool.Decides.{nat_tests}
use Rattle.std.proofs.lemmas.List.{length-drop, take_rest}
use Rattle.std.proofs.lemmas.List.Sums.{sum_by-append, sum_by-cons}
use Rattle.rrv_model.specs.declared.limits.TheConstants.{MAX_QUANTUM}
use Rattle.rrv_model.specs.declared.record.Frame.{Frame}
use Rattle.rrv_model.specs.declared.record.Opening.{Opening}
use Rattle.rrv_model.specs.State.{State}
use Rattle.rrv_model.specs.FrameStep.{FrameStep, FrameStepBy, Steps}
use Rattle.rrv_model.specs.StateAt.{StateAt, StateAtFrom, total}
use Rattle.rrv_model.proofs.Ends.{frame_join, frame_split, steps_join}
use Rattle.rrv_model.proofs.FrameLaws.{one_end, one_state_after_frame}
use Rattle.rrv_model.proofs.RunLaws.{at_total_first, at_total_of_first}
use Rattle.guest_calls.specs.Guest.{state_of}
use Rattle.replayer.specs.declared.position.Position.{Position}
use Rattle.replayer.specs.declared.recording.Track.{Track}
use Rattle.replayer.specs.declared.recording.Mark.{Mark}
use Rattle.replayer.specs.Kept.{AreKept}
use Rattle.replayer.specs.Places.{Begins, GoesOn, IsPlace, StandsAt, begun}
use Rattle.replayer.proofs.Kept.{at_later, frame_first, frame_part}

-- ---- steps

-- plain steps don't end a guest
ended_kept : (n tid : ℕ) (s mid : State) → Steps n tid s mid → mid.ended ≡ s.ended
ended_kept zero tid s mid h = ap (λ (x : State). x.ended) h
ended_kept (suc n) tid s mid h = ended_kept n tid h.0 mid h.2 ∙ ap (λ (x : State). x.ended) h.1.after_is

-- ---- inside a frame

abbrev pub rest_of : ℕ → Frame → Frame
rest_of n f = record f { count = f.count - n }

-- ---- from frame to frame

total_cons : (f : Frame) (rest : List Frame) → total (f ∷ rest) ≡ f.count + total rest
total_cons f rest = sum_by-cons (λ (g : Frame). g.count) f rest

-- the next frame leads on
pub frame_ahead : (o : Opening) (frames : List Frame) (t : ℕ) (s : State) (f : Frame) (rest : List Frame) → GoesOn o frames t s (f ∷ rest) →
    (new : State) × FrameStep s f new
frame_ahead o frames t s f rest on =
    let ahead = at_total_first s f rest on.last on.ends in
    (ahead.0, ahead.1)

-- behind it
pub on_step : (o : Opening) (frames : List Frame) (t : ℕ) (s new : State) (f : Frame) (rest : List Frame) → GoesOn o frames t s (f ∷ rest) →
    FrameStep s f new →
    GoesOn o frames (t + f.count) new rest
on_step o frames t s new f rest on step =
    let ahead = at_total_first s f rest on.last on.ends in
    let same : ahead.0 ≡ new = one_state_after_frame s f ahead.0 new ahead.1 step in
    record {
      goes = λ n at h.
          let less : n ≡ f.count + n - f.count = omega arith in
          let sum : t + (f.count + n) ≡ t + f.count + n = omega arith in
          subst (λ i. StateAt o frames i at) sum
          (on.goes (f.count + n) at
          (frame_first s f new at rest (f.count + n) (omega arith) step (subst (λ i. StateAtFrom new rest i at) less h)));
      last = on.last;
      ends = subst (λ (m : State). StateAtFrom m rest (total rest) on.last) same ahead.2;
      sum = omega (arith, on.sum, total_cons f rest);
    }

-- its steps
pub steps_ahead : (o : Opening) (frames : List Frame) (t : ℕ) (s : State) (f : Frame) (rest : List Frame) (n : ℕ) →
    GoesOn o frames t s (f ∷ rest) → n < f.count →
    (new : State) × Steps n f.tid s new
steps_ahead o frames t s f rest n on below =
    let ahead = frame_ahead o frames t s f rest on in
    let both = frame_split f.end s ahead.0 f.tid f.count n below ahead.1.goes in
    (both.0, both.1)

some_by : (b : Bool) (s mid at : State) (f : Frame) (rest : List Frame) (n m : ℕ) → nat_le (f.count - n) m ≡ b → s.ended ≡ None →
    f.count ≤ MAX_QUANTUM → n < f.count → Steps n f.tid s mid →
    MatchBool b ((new : State) × FrameStep mid (rest_of n f) new × StateAtFrom new rest (m - (f.count - n)) at) (Steps m f.tid mid at) →
    StateAtFrom s (f ∷ rest) (n + m) at
some_by true s mid at f rest n m test runs limit below some h =
    let within : f.count - n ≤ m = grind (arith, nat_tests, test) in
    let step : FrameStep s f h.0 =
    record { runs = runs; limit = limit; goes = frame_join f.end s mid h.0 f.tid f.count n below some h.1.goes } in
    let less : m - (f.count - n) ≡ n + m - f.count = omega arith in
    frame_first s f h.0 at rest (n + m) (omega arith) step (subst (λ i. StateAtFrom h.0 rest i at) less h.2)
some_by false s mid at f rest n m test runs limit below some h =
    let within : m < f.count - n = grind (arith, nat_tests, test) in
    frame_part s f at rest (n + m) (omega arith) (steps_join n m f.tid s mid at some h)

-- behind some of them
pub on_some : (o : Opening) (frames : List Frame) (t : ℕ) (s mid : State) (f : Frame) (rest : List Frame) (n : ℕ) →
    GoesOn o frames t s (f ∷ rest) → n < f.count →
    Steps n f.tid s mid → GoesOn o frames (t + n) mid (rest_of n f ∷ rest)
on_some o frames t s mid f rest n on below some =
    let ahead = at_total_first s f rest on.last on.ends in
    let both = frame_split f.end s ahead.0 f.tid f.count n below ahead.1.goes in
    let same : both.0 ≡ mid = one_end n f.tid s both.0 mid both.1 some in
    let limit = ahead.1.limit in
    let step : FrameStep mid (rest_of n f) ahead.0 = record {
      runs = ended_kept n f.tid s mid some ∙ ahead.1.runs;
      limit = omega (arith, limit);
      goes = subst (λ (m : State). FrameStepBy f.end m f.tid (f.count - n) ahead.0) same both.2;
    } in
    record {
      goes = λ m at h.
          let sum : t + (n + m) ≡ t + n + m = omega arith in
          subst (λ i. StateAt o frames i at) sum
          (on.goes (n + m) at (some_by (nat_le (f.count - n) m) s mid at f rest n m refl ahead.1.runs limit below some h));
      last = on.last;
      ends = at_total_of_first mid (rest_of n f) rest ahead.0 on.last step ahead.2;
      sum = omega (arith, on.sum, total_cons f rest, total_cons (rest_of n f) rest, below);
    }

-- the place itself
pub at_place : (o : Opening) (frames : List Frame) (t : ℕ) (s : State) (left : List Frame) → GoesOn o frames t s left → Begins left →
    StateAt o frames t s
at_place o frames t s [] on begins =
    let none : t + 0 ≡ t = omega arith in
    subst (λ i. StateAt o frames i s) none (on.goes 0 s (refl, refl))
at_place o frames t s (f ∷ rest) on begins =
    let none : t + 0 ≡ t = omega arith in
    subst (λ i. StateAt o frames i s) none (on.goes 0 s (frame_part s f s rest 0 (omega (arith, begins)) refl))

-- ---- lists

cons_nil : (f : Frame) (rest : List Frame) → f ∷ rest ≡ [] → ⊥
cons_nil f rest h = cc

tails : (x y : Frame) (xs ys : List Frame) → x ∷ xs ≡ y ∷ ys → xs ≡ ys
tails x y xs ys h = cc

-- ---- from a checkpoint

split_at : (xs : List Frame) (n : ℕ) → take n xs ++ drop n xs ≡ xs
split_at xs zero = refl
split_at [] (suc n) = refl
split_at (x ∷ xs) (suc n) = ap (λ ys. x ∷ ys) (split_at xs n)

run_behind : (s mid last : State) (done rest : List Frame) → StateAtFrom s done (total done) mid →
    StateAtFrom s (done ++ rest) (total (done ++ rest)) last →
    StateAtFrom mid rest (total rest) last
run_behind s mid last [] rest h k = subst (λ (m : State). StateAtFrom m rest (total rest) last) (sym h.1) k
run_behind s mid last (f ∷ done) rest h k =
    let one = at_total_first s f done mid h in
    let two = at_total_first s f (done ++ rest) last k in
    let same : two.0 ≡ one.0 = one_state_after_frame s f two.0 one.0 two.1 one.1 in
    run_behind one.0 mid last done rest one.2 (subst (λ (m : State). StateAtFrom m (done ++ rest) (total (done ++ rest)) last) same two.2)

pub on_from : (o : Opening) (frames : List Frame) (marks : List Mark) (done steps : ℕ) (s : State) → AreKept o frames marks →
    IsPlace o frames done steps s → GoesOn o frames steps s (drop done frames)
on_from o frames marks done steps s kept place =
    let reached : StateAtFrom place.first (take done frames) (total (take done frames)) s =
    subst (λ n. StateAtFrom place.first (take done frames) n s) place.steps_are place.reached in
    let same : kept.first ≡ place.first = kept.opens.state_is ∙ sym place.opens.state_is in
    let all : take done frames ++ drop done frames ≡ frames = split_at frames done in
    let ends = subst (λ (m : State). StateAtFrom m frames (total frames) kept.last) same kept.ends in
    record {
      goes = λ n at h.
          let less : n ≡ steps + n - total (take done frames) = omega (arith, place.steps_are) in
          let later = at_later place.first s at (take done frames) (drop done frames) (steps + n) reached (omega (arith, place.steps_are))
          (subst (λ i. StateAtFrom s (drop done frames) i at) less h) in
          (place.first, place.opens, subst (λ (fs : List Frame). StateAtFrom place.first fs (steps + n) at) all later);
      last = kept.last;
      ends = run_behind place.first s kept.last (take done frames) (drop done frames) reached
          (subst (λ (fs : List Frame). StateAtFrom place.first fs (total fs) kept.last) (sym all) ends);
      sum = omega (arith, place.steps_are, sum_by-append (λ (f : Frame). f.count) (take done frames) (drop done frames), ap total all);
    }

-- ---- where a guest stands

pub split_first : {A : Type 0} (xs : List A) (x : A) → 1 ≤ length xs → x ≡ get_or xs 0 x → xs ≡ x ∷ take (length xs - 1) (drop 1 xs)
split_first [] x some there = absurd (omega (arith, some))
split_first (y ∷ xs) x some there = ap (λ z. z ∷ xs) (sym there) ∙ ap (λ zs. x ∷ zs) (sym (take_rest (y ∷ xs) 1))

pub none_left : {A : Type 0} (xs : List A) → length xs < 1 → xs ≡ []
none_left [] none = refl
none_left (x ∷ xs) none = absurd (omega (arith, none))

pub drop_at : {A : Type 0} (xs : List A) (i : ℕ) (x : A) → i < length xs → x ≡ get_or xs i x → drop i xs ≡ x ∷ drop (i + 1) xs
drop_at [] i x below there = absurd (omega arith)
drop_at (y ∷ xs) zero x below there = ap (λ z. z ∷ xs) (sym there)
drop_at (y ∷ xs) (suc i) x below there =
    let one : suc i + 1 ≡ suc (i + 1) = omega arith in
    drop_at xs i x (omega arith) there ∙ ap (λ n. x ∷ drop n (y ∷ xs)) (sym one)

pub stands_in : (v : Track) (p : Position) (t n : ℕ) (s : State) (f : Frame) (rest : List Frame) →
    GoesOn v.opening v.frames t s (f ∷ rest) → drop p.frames v.frames ≡ f ∷ rest →
    p.frames ≤ length v.frames → n < f.count → Steps n f.tid s (state_of p.guest) → p.steps ≡ n → p.at ≡ t + n →
    StandsAt v.opening v.frames p
stands_in v p t n s f rest on there inside below some steps_is at_is =
    let here = on_some v.opening v.frames t s (state_of p.guest) f rest n on below some in
    let same : rest_of n f ∷ rest ≡ begun p.steps (drop p.frames v.frames) =
    ap (λ i. begun i (f ∷ rest)) (sym steps_is) ∙ ap (begun p.steps) (sym there) in
    let begins : Begins (rest_of n f ∷ rest) = omega (arith, below) in
    record {
      state = subst (λ i. StateAt v.opening v.frames i (state_of p.guest)) (sym at_is)
          (at_place v.opening v.frames (t + n) (state_of p.guest) (rest_of n f ∷ rest) here begins);
      inside = inside;
      on = subst (λ i. GoesOn v.opening v.frames i (state_of p.guest) (begun p.steps (drop p.frames v.frames))) (sym at_is)
          (subst (λ (fs : List Frame). GoesOn v.opening v.frames (t + n) (state_of p.guest) fs) same here);
      begins = subst Begins same begins;
    }

begun_none : (left : List Frame) → left ≡ begun 0 left
begun_none [] = refl
begun_none (f ∷ left) = let none : f.count ≡ f.count - 0 = omega arith in ap (λ n. record f { count = n } ∷ left) none

pub stands_between : (v : Track) (p : Position) (left : List Frame) → GoesOn v.opening v.frames p.at (state_of p.guest) left →
    drop p.frames v.frames ≡ left →
    p.frames ≤ length v.frames → p.steps ≡ 0 → Begins left → StandsAt v.opening v.frames p
stands_between v p left on there inside none begins =
    let same : left ≡ begun p.steps (drop p.frames v.frames) =
    begun_none left ∙ ap (λ i. begun i left) (sym none) ∙ ap (begun p.steps) (sym there) in
    record {
      state = at_place v.opening v.frames p.at (state_of p.guest) left on begins;
      inside = inside;
      on = subst (λ (fs : List Frame). GoesOn v.opening v.frames p.at (state_of p.guest) fs) same on;
      begins = subst Begins same begins;
    }

-- inside a frame, what is left of it is next
on_inside : (v : Track) (p : Position) (f : Frame) → StandsAt v.opening v.frames p → p.frames < length v.frames →
    f ≡ get_or v.frames p.frames f →
    GoesOn v.opening v.frames p.at (state_of p.guest) (rest_of p.steps f ∷ drop (p.frames + 1) v.frames) × (1 ≤ f.count - p.steps)
on_inside v p f stands below there =
    let next : drop p.frames v.frames ≡ f ∷ drop (p.frames + 1) v.frames = drop_at v.frames p.frames f below there in
    let same : begun p.steps (drop p.frames v.frames) ≡ rest_of p.steps f ∷ drop (p.frames + 1) v.frames = ap (begun p.steps) next in
    (subst (λ (fs : List Frame). GoesOn v.opening v.frames p.at (state_of p.guest) fs) same stands.on, subst Begins same stands.begins)

-- where instructions are left, so is a frame
frame_left : (v : Track) (p : Position) → StandsAt v.opening v.frames p → p.at < total v.frames → p.frames < length v.frames
frame_left v p stands below = left_by (drop p.frames v.frames) refl where
  left_by : (left : List Frame) → drop p.frames v.frames ≡ left → p.frames < length v.frames
  left_by [] there =
      let none : p.at + 0 ≡ total v.frames =
      subst (λ (fs : List Frame). p.at + total (begun p.steps fs) ≡ total v.frames) there stands.on.sum in
      absurd (omega (arith, none, below))
  left_by (f ∷ left) there =
      let some : length (drop p.frames v.frames) ≡ length (f ∷ left) = ap length there in
      let long : length (drop p.frames v.frames) ≡ length v.frames - p.frames = length-drop p.frames v.frames in
      omega (arith, some, long)

-- the frame inside of which a guest stands
pub record IsInside (v : Track) (p : Position) (f : Frame) : Type 0 where
  pub there : f ≡ get_or v.frames p.frames f
  pub below : p.frames < length v.frames
  pub on : GoesOn v.opening v.frames p.at (state_of p.guest) (rest_of p.steps f ∷ drop (p.frames + 1) v.frames)
  pub some : 1 ≤ f.count - p.steps

-- where it has to go on, this is the frame at its place, read from a list that is the track's
pub inside_of : (v : Track) (p : Position) (f : Frame) (read : List Frame) (t : ℕ) → StandsAt v.opening v.frames p →
    f ≡ get_or read p.frames f → read ≡ v.frames → p.at ≤ t → t ≤ total v.frames → p.at ≢ t → IsInside v p f
inside_of v p f read t stands is same low high ahead =
    let there : f ≡ get_or v.frames p.frames f = is ∙ ap (λ (fs : List Frame). get_or fs p.frames f) same in
    let below = frame_left v p stands (omega (arith, low, high, ahead)) in
    let inside = on_inside v p f stands below there in
    record { there = there; below = below; on = inside.0; some = inside.1 }

-- behind the next frame
pub drop_next : (frames : List Frame) (n : ℕ) (f : Frame) (rest : List Frame) → drop n frames ≡ f ∷ rest → (drop (n + 1) frames ≡ rest) ×
    (n + 1 ≤ length frames)
drop_next [] zero f rest h = absurd (cons_nil f rest (sym h))
drop_next [] (suc n) f rest h = absurd (cons_nil f rest (sym h))
drop_next (g ∷ frames) zero f rest h = (tails g f frames rest h, omega arith)
drop_next (g ∷ frames) (suc n) f rest h =
    let more = drop_next frames n f rest h in
    let one : suc n + 1 ≡ suc (n + 1) = omega arith in
    (subst (λ i. drop i (g ∷ frames) ≡ rest) (sym one) more.0, omega (arith, more.1))

-- some steps further inside a frame
pub stands_further : (v : Track) (p q : Position) (f : Frame) (n : ℕ) → StandsAt v.opening v.frames p → p.frames < length v.frames →
    f ≡ get_or v.frames p.frames f → p.steps + n < f.count →
    Steps n f.tid (state_of p.guest) (state_of q.guest) → q.frames ≡ p.frames → q.steps ≡ p.steps + n → q.at ≡ p.at + n →
    StandsAt v.opening v.frames q
stands_further v p q f n stands below there more some frames_is steps_is at_is =
    let inside = on_inside v p f stands below there in
    let g = rest_of p.steps f in
    let rest = drop (p.frames + 1) v.frames in
    let here = on_some v.opening v.frames p.at (state_of p.guest) (state_of q.guest) g rest n inside.0 (omega (arith, more)) some in
    let less : f.count - p.steps - n ≡ f.count - (p.steps + n) = omega arith in
    let left : rest_of n g ∷ rest ≡ begun q.steps (drop q.frames v.frames) =
    ap (λ m. record f { count = m } ∷ rest) less ∙ ap (λ i. begun i (f ∷ rest)) (sym steps_is)
    ∙ ap (begun q.steps) (sym (drop_at v.frames p.frames f below there)) ∙ ap (λ i. begun q.steps (drop i v.frames)) (sym frames_is) in
    let begins : Begins (rest_of n g ∷ rest) = omega (arith, more) in
    record {
      state = subst (λ i. StateAt v.opening v.frames i (state_of q.guest)) (sym at_is)
          (at_place v.opening v.frames (p.at + n) (state_of q.guest) (rest_of n g ∷ rest) here begins);
      inside = omega (arith, frames_is, below);
      on = subst (λ i. GoesOn v.opening v.frames i (state_of q.guest) (begun q.steps (drop q.frames v.frames))) (sym at_is)
          (subst (λ (fs : List Frame). GoesOn v.opening v.frames (p.at + n) (state_of q.guest) fs) left here);
      begins = subst Begins left begins;
    }

-- between two frames
pub on_between : (v : Track) (p : Position) → StandsAt v.opening v.frames p → p.steps ≡ 0 →
    GoesOn v.opening v.frames p.at (state_of p.guest) (drop p.frames v.frames)
on_between v p stands none =
    let left = drop p.frames v.frames in
    subst (λ (fs : List Frame). GoesOn v.opening v.frames p.at (state_of p.guest) fs)
    (sym (begun_none left ∙ ap (λ i. begun i left) (sym none))) stands.on

-- so does another guest in the same state
pub stands_same : (o : Opening) (frames : List Frame) (p q : Position) → state_of q.guest ≡ state_of p.guest → q.frames ≡ p.frames →
    q.steps ≡ p.steps → q.at ≡ p.at → StandsAt o frames p →
    StandsAt o frames q
stands_same o frames p q state_is frames_is steps_is at_is stands =
    let left : begun p.steps (drop p.frames frames) ≡ begun q.steps (drop q.frames frames) =
    ap (λ i. begun i (drop p.frames frames)) (sym steps_is) ∙ ap (λ i. begun q.steps (drop i frames)) (sym frames_is) in
    record {
      state = subst (λ i. StateAt o frames i (state_of q.guest)) (sym at_is)
          (subst (λ (s : State). StateAt o frames p.at s) (sym state_is) stands.state);
      inside = omega (arith, frames_is, stands.inside);
      on = subst (λ i. GoesOn o frames i (state_of q.guest) (begun q.steps (drop q.frames frames))) (sym at_is)
          (subst (λ (s : State). GoesOn o frames p.at s (begun q.steps (drop q.frames frames))) (sym state_is)
          (subst (λ (fs : List Frame). GoesOn o frames p.at (state_of p.guest) fs) left stands.on));
      begins = subst Begins left stands.begins;
    }

-- no further than the end
pub stands_within : (o : Opening) (frames : List Frame) (p : Position) → StandsAt o frames p → p.at ≤ total frames
stands_within o frames p stands = omega (arith, stands.on.sum)
