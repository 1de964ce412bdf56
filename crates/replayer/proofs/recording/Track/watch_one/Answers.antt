use Rattle.std.proofs.Common.{arith, ◌+◌, None, ◌∙◌, subst, sym}
use Rattle.std.proofs.lemmas.Bool.{false≢true}
use Rattle.rrv_model.specs.StateAt.{StateAt}
use Rattle.guest_calls.specs.Guest.{state_of}
use Rattle.replayer.proofs.Changed.{change_more, none_yet, same_more}
use Rattle.replayer.proofs.recording.Track.watch_one.Goals as goal
use Rattle.replayer.proofs.recording.Track.watch_one.Goals.{In_ok-go_on}

-- the state one instruction on
next_state : (c : In_ok-go_on) →
    StateAt c.args.self.now.opening c.args.self.now.frames (c.args.position.now.at + 1) (state_of c.go_on.new.position.guest)
next_state c =
    subst (λ i. StateAt c.args.self.now.opening c.args.self.now.frames i (state_of c.go_on.new.position.guest)) c.in_ok-go_on.ensures.at
    c.in_ok-go_on.ensures.stands.state

pub returns-then-is_same-clause-change : goal.returns-then-is_same-clause-change
returns-then-is_same-clause-change c =
    let o = c.args.self.now.opening in
    let frames = c.args.self.now.frames in
    let t = c.args.position.now.at in
    let s = state_of c.args.position.now.guest in
    let new = state_of c.go_on.new.position.guest in
    same_more o frames c.args.address t t None s new (none_yet o frames c.args.address t) c.requires.stands.state
    (next_state (goal.at.returns-then-is_same-clause-change c).In_ok-go_on)
    (sym c.byte_of-before.ensures ∙ c.is_same.ensures.0 c.if-is_same.true ∙ c.byte_of-after.ensures)

pub returns-else-is_same-clause-change : goal.returns-else-is_same-clause-change
returns-else-is_same-clause-change c =
    let o = c.args.self.now.opening in
    let frames = c.args.self.now.frames in
    let t = c.args.position.now.at in
    let s = state_of c.args.position.now.guest in
    let new = state_of c.go_on.new.position.guest in
    change_more o frames c.args.address t t s new (omega arith) c.requires.stands.state
    (next_state (goal.at.returns-else-is_same-clause-change c).In_ok-go_on)
    (λ e. false≢true
    (sym c.if-is_same.false ∙ c.is_same.ensures.1 (c.byte_of-before.ensures ∙ e ∙ sym c.byte_of-after.ensures)))
