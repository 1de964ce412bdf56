use Rattle.std.proofs.Common.{rules, arith, ◌≡◌, ◌+◌, ◌-◌, ◌∷◌, ◌∙◌, List, ap, drop, length, refl, subst, sym, take}
use Rattle.guest_calls.specs.Guest.{state_of}
use Rattle.std.proofs.lemmas.List.{take_rest}
use Rattle.rrv_model.specs.declared.record.Frame.{Frame}
use Rattle.replayer.specs.declared.position.Position.{Position}
use Rattle.replayer.specs.Places.{Begins, GoesOn}
use Rattle.replayer.proofs.Onward.{drop_next, frame_ahead, none_left, on_step, split_first, stands_between, stands_in, steps_ahead}
use Rattle.replayer.proofs.recording.Track.run_to.Goals as goal
use Rattle.replayer.proofs.recording.Track.run_to.Goals.{After-frame-item}

pub loop-left-init : goal.loop-left-init
loop-left-init c =
    let frames = c.args.self.now.frames in
    let n = c.args.position.now.frames in
    let all = c.as_slice.result.now in
    let same : take (length all - n) (drop n all) ≡ drop n frames = take_rest all n ∙ ap (drop n) c.as_slice.ensures in
    record {
      on = subst (λ (fs : List Frame). GoesOn c.args.self.now.opening frames c.args.position.now.at (state_of c.args.position.now.guest) fs)
          (sym same) c.requires.on;
      rest = sym same;
      inside = c.requires.inside;
      low = c.requires.low;
      between = c.requires.between;
      ran = omega arith;
    }

-- the frame is next, and the frames go on with it
next_is : (c : After-frame-item) → c.loop-left.left.now
    ≡ c.frame-item.result ∷ take (length c.loop-left.left.now - 1) (drop 1 c.loop-left.left.now)
next_is c = split_first c.loop-left.left.now c.frame-item.result c.in-len1-up.len_at_least c.frame-item.is

goes_on : (c : After-frame-item) → GoesOn c.args.self.now.opening c.args.self.now.frames c.loop-left.position.at
    (state_of c.loop-left.position.guest)
    (c.frame-item.result ∷ take (length c.loop-left.left.now - 1) (drop 1 c.loop-left.left.now))
goes_on c =
    subst (λ (fs : List Frame). GoesOn c.args.self.now.opening c.args.self.now.frames c.loop-left.position.at
    (state_of c.loop-left.position.guest) fs) (next_is c) c.loop-left.invariant.on

pub run_plain-requires : goal.run_plain-requires
run_plain-requires c =
    steps_ahead _ _ _ _ _ _ (c.args.t - c.loop-left.position.at) (goes_on (goal.at.run_plain-requires c).After-frame-item)
    (omega (arith, c.from-count.ensures, c.if-t-position.true))

pub follow_whole-requires : goal.follow_whole-requires
follow_whole-requires c = frame_ahead _ _ _ _ _ _ (goes_on (goal.at.follow_whole-requires c).After-frame-item)

pub returns-then-t-position-clause-stands : goal.returns-then-t-position-clause-stands
returns-then-t-position-clause-stands c =
    let before = (goal.at.returns-then-t-position-clause-stands c).After-frame-item in
    let at = c.loop-left.position.at in
    let low = c.loop-left.invariant.low in
    let there : Position =
    record { guest = c.run_plain.new.guest; frames = c.loop-left.position.frames; steps = c.args.t - at; at = c.args.t } in
    stands_in c.args.self.now there at (c.args.t - at) _ _ _ (goes_on before) (c.loop-left.invariant.rest ∙ next_is before)
    c.loop-left.invariant.inside (omega (arith, c.from-count.ensures, c.if-t-position.true)) c.in_ok-run_plain.ensures.steps refl
    (omega (arith, low))

pub loop-left-preserved : goal.loop-left-preserved
loop-left-preserved c =
    let before = (goal.at.loop-left-preserved c).After-frame-item in
    let new = state_of c.follow_whole.new.guest in
    let o = c.args.self.now.opening in
    let frames = c.args.self.now.frames in
    let at = c.loop-left.position.at in
    let behind = on_step o frames at _ new c.frame-item.result _ (goes_on before) c.in_ok-follow_whole.ensures.follows in
    let there = drop_next frames c.loop-left.position.frames c.frame-item.result _ (c.loop-left.invariant.rest ∙ next_is before) in
    record {
      on = subst (λ i. GoesOn o frames (at + i) new (take (length c.loop-left.left.now - 1) (drop 1 c.loop-left.left.now)))
          (sym c.from-count.ensures) behind;
      rest = there.0;
      inside = there.1;
      low = search (rules, c.loop-left.invariant.low);
      between = c.loop-left.invariant.between;
      ran = omega (arith, c.loop-left.invariant.ran, c.in_ok-follow_whole.ensures.ran, c.from-count.ensures);
    }

pub returns-clause-stands : goal.returns-clause-stands
returns-clause-stands c =
    let none = none_left c.loop-left.left.now c.in_default.len_below in
    stands_between c.args.self.now c.loop-left.position c.loop-left.left.now c.loop-left.invariant.on c.loop-left.invariant.rest
    c.loop-left.invariant.inside c.loop-left.invariant.between
    (subst Begins (sym none) tt)
