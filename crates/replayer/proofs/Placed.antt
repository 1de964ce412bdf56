-- From checkpoint to checkpoint of a recording.
use Rattle.std.proofs.Common.{◌≡◌, ℕ, ◌<◌, ◌≤◌, true, false, nat_le, List, ◌∷◌, take, refl, sym, ◌∙◌, ap, subst, arith}
use Rattle.std.specs.Prelude.{◌+◌, if◌then◌else◌}
use Rattle.std.proofs.lemmas.Bool.Decides.{nat_tests}
use Rattle.rrv_model.specs.declared.record.Frame.{Frame}
use Rattle.rrv_model.specs.declared.record.Opening.{Opening}
use Rattle.rrv_model.specs.State.{State}
use Rattle.rrv_model.specs.Opening.{Opens}
use Rattle.rrv_model.specs.StateAt.{StateAtFrom}
use Rattle.rrv_model.specs.Checkpoint.{Describes}
use Rattle.replayer.specs.declared.recording.Mark.{Mark}
use Rattle.replayer.specs.Kept.{AreKept, AreMarks, last_place}
use Rattle.replayer.specs.Places.{IsPlace, MarksLeft}
use Rattle.replayer.specs.Verified.{VerifiedValue, IsLastCheckpoint, RanFromLast}
use Rattle.replayer.proofs.Described.{one_described}

pub start_place : (o : Opening) (frames : List Frame) (s : State) → Opens o s → IsPlace o frames 0 0 s
start_place o frames s opens = record { first = s; opens = opens; reached = (refl, refl); steps_are = refl; within = omega arith }

pub start_marks : (o : Opening) (frames : List Frame) (marks : List Mark) (s : State) → AreKept o frames marks → IsPlace o frames 0 0 s →
    MarksLeft o frames s marks
start_marks o frames marks s kept place =
    let same : kept.first ≡ s = kept.opens.state_is ∙ sym place.opens.state_is ∙ sym place.reached.1 in
    record {
      first = kept.first;
      opens = kept.opens;
      are_marks = subst (λ (m : State). AreMarks kept.first frames m marks) same kept.are_marks;
    }

-- the next mark describes a state
pub mark_ahead : (o : Opening) (frames : List Frame) (base : State) (m : Mark) (marks : List Mark) → MarksLeft o frames base (m ∷ marks) →
    (s : State) × Describes base m.parts s
mark_ahead o frames base m marks h = (h.are_marks.0, h.are_marks.4)

pub mark_place : (o : Opening) (frames : List Frame) (base new : State) (m : Mark) (marks : List Mark) →
    MarksLeft o frames base (m ∷ marks) → Describes base m.parts new → IsPlace o frames m.frames m.at new
mark_place o frames base new m marks h described =
    let same : h.are_marks.0 ≡ new = one_described base h.are_marks.0 new m.parts h.are_marks.4 described in
    record {
      first = h.first;
      opens = h.opens;
      reached = subst (λ (s : State). StateAtFrom h.first (take m.frames frames) m.at s) same h.are_marks.1;
      steps_are =
          h.are_marks.2;
      within = h.are_marks.3;
    }

pub mark_left : (o : Opening) (frames : List Frame) (base new : State) (m : Mark) (marks : List Mark) →
    MarksLeft o frames base (m ∷ marks) → Describes base m.parts new → MarksLeft o frames new marks
mark_left o frames base new m marks h described =
    let same : h.are_marks.0 ≡ new = one_described base h.are_marks.0 new m.parts h.are_marks.4 described in
    record { first = h.first; opens = h.opens; are_marks = subst (λ (s : State). AreMarks h.first frames s marks) same h.are_marks.5 }

pub last_on : (place : ℕ) (m : Mark) (marks : List Mark) (t : ℕ) → m.at ≤ t → last_place place (m ∷ marks) t ≡ last_place m.at marks t
last_on place m marks t low =
    let test : nat_le m.at t ≡ true = grind (arith, nat_tests) in
    ap (λ b. if b then last_place m.at marks t else place) test

pub last_stop : (place : ℕ) (m : Mark) (marks : List Mark) (t : ℕ) → t < m.at → last_place place (m ∷ marks) t ≡ place
last_stop place m marks t high =
    let test : nat_le m.at t ≡ false = grind (arith, nat_tests) in
    ap (λ b. if b then last_place m.at marks t else place) test

-- what ran, once a guest went on past no checkpoint
pub ran_onward : (v : VerifiedValue) (at t place ran more : ℕ) → RanFromLast v at ran → IsLastCheckpoint v t place → place ≤ at →
    more + at ≤ ran + t → RanFromLast v t more
ran_onward v at t place ran more h last low on = record {
  from_start = omega (arith, h.from_start, on);
  from_last = λ p there below.
      let within = last.last p there below in
      let before = h.from_last p there (omega (arith, within, low)) in
      omega (arith, before, on);
}
