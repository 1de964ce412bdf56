use Rattle.std.proofs.Common.{arith, ◌≡◌, ◌+◌, ◌-◌, ◌∙◌, ap, drop, refl, subst, sym}
use Rattle.rrv_model.specs.declared.record.Frame.{Frame}
use Rattle.rrv_model.specs.FrameStep.{FrameStep}
use Rattle.rrv_model.specs.State.{State}
use Rattle.guest_calls.specs.Guest.{state_of}
use Rattle.replayer.specs.declared.position.Position.{Position}
use Rattle.replayer.specs.Places.{GoesOn, with_count}
use Rattle.replayer.proofs.Onward.{IsInside, frame_ahead, inside_of, on_between, on_step, rest_of, stands_further, steps_ahead}
use Rattle.replayer.proofs.recording.Track.go_on.Goals as goal
use Rattle.replayer.proofs.recording.Track.go_on.Goals.{After-index-as_slice-position, In_ok-rest}

pub run_to-requires-clause-on : goal.run_to-requires-clause-on
run_to-requires-clause-on c = on_between c.args.self.now c.args.position.now c.requires.stands c.if-position-eq0.true

-- the frame inside of which it stands
inside_at : (c : After-index-as_slice-position) → (c.args.position.now.at ≡ c.args.t → ⊥) →
    IsInside c.args.self.now c.args.position.now c.index-as_slice-position.result
inside_at c ahead =
    inside_of c.args.self.now c.args.position.now c.index-as_slice-position.result c.as_slice.result.now c.args.t c.requires.stands
    c.index-as_slice-position.is c.as_slice.ensures c.requires.low c.requires.high ahead

left_is : (c : In_ok-rest) → c.count_of.result - c.args.position.now.steps
    ≡ c.index-as_slice-position.result.count - c.args.position.now.steps
left_is c = omega (arith, c.count_of.ensures.value)

rest_is : (c : In_ok-rest) → c.in_ok-rest.rest ≡ rest_of c.args.position.now.steps c.index-as_slice-position.result
rest_is c = c.in_ok-rest.ensures ∙ ap (λ n. with_count n c.index-as_slice-position.result) (left_is c)

pub overflow_sub-left : goal.overflow_sub-left
overflow_sub-left c =
    let position = c.args.position.now in
    let f = c.index-as_slice-position.result in
    let inside = inside_at (goal.at.overflow_sub-left c).After-index-as_slice-position c.if-position-t.false in
    omega (arith, inside.some, c.count_of.ensures.value)

pub run_plain-requires : goal.run_plain-requires
run_plain-requires c =
    let inside = inside_at (goal.at.run_plain-requires c).After-index-as_slice-position c.if-position-t.false in
    steps_ahead _ _ _ _ _ _ (c.args.t - c.args.position.now.at) inside.on (omega (arith, c.count_of.ensures.value, c.if-t-position.true))

pub returns-then-t-position-clause-stands : goal.returns-then-t-position-clause-stands
returns-then-t-position-clause-stands c =
    let position = c.args.position.now in
    let f = c.index-as_slice-position.result in
    let inside = inside_at (goal.at.returns-then-t-position-clause-stands c).After-index-as_slice-position c.if-position-t.false in
    let some = c.args.t - position.at in
    let next : Position =
    record { guest = c.run_plain.new.guest; frames = position.frames; steps = position.steps + some; at = c.args.t } in
    stands_further c.args.self.now position next f some c.requires.stands inside.below inside.there
    (omega (arith, c.count_of.ensures.value, c.if-t-position.true)) c.in_ok-run_plain.ensures.steps refl refl
    (omega (arith, c.requires.low))

-- what is left of the frame
pub follow_whole-requires : goal.follow_whole-requires
follow_whole-requires c =
    let inside = inside_at (goal.at.follow_whole-requires c).After-index-as_slice-position c.if-position-t.false in
    let rest = rest_is (goal.at.follow_whole-requires c).In_ok-rest in
    subst (λ (g : Frame). (new : State) × FrameStep (state_of c.args.position.now.guest) g new) (sym rest)
    (frame_ahead _ _ _ _ _ _ inside.on)

pub run_to-requires-2-clause-on : goal.run_to-requires-2-clause-on
run_to-requires-2-clause-on c =
    let frames = c.args.self.now.frames in
    let position = c.args.position.now in
    let inside = inside_at (goal.at.run_to-requires-2-clause-on c).After-index-as_slice-position c.if-position-t.false in
    let rest = rest_is (goal.at.run_to-requires-2-clause-on c).In_ok-rest in
    let new = state_of c.follow_whole.new.guest in
    subst (λ n. GoesOn c.args.self.now.opening frames (position.at + n) new (drop (position.frames + 1) frames))
    (sym (c.from-2.ensures ∙ left_is (goal.at.run_to-requires-2-clause-on c).In_ok-rest))
    (on_step _ _ _ _ _ _ _ inside.on
    (subst (λ (g : Frame). FrameStep (state_of position.guest) g new) rest c.in_ok-follow_whole.ensures.follows))
