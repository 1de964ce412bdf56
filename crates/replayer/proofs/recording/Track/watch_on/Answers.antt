use Rattle.std.proofs.Common.{arith, ◌+◌, Option, ℕ, drop, refl, subst, sym}
use Rattle.guest_calls.specs.Guest.{state_of}
use Rattle.replayer.specs.declared.position.Position.{Position}
use Rattle.replayer.specs.Changes.{IsLastIn, place_after}
use Rattle.replayer.proofs.Onward.{IsInside, inside_of, rest_of, stands_further, steps_ahead}
use Rattle.replayer.proofs.Watched.{watched_last, watched_most, watched_plain}
use Rattle.replayer.proofs.recording.Track.watch_on.Goals as goal
use Rattle.replayer.proofs.recording.Track.watch_on.Goals.{After-index-as_slice-position}

-- the frame inside of which it stands
inside_at : (c : After-index-as_slice-position) → IsInside c.args.self.now c.args.position.now c.index-as_slice-position.result
inside_at c =
    let low = c.requires.low in
    inside_of c.args.self.now c.args.position.now c.index-as_slice-position.result c.as_slice.result.now c.args.end c.requires.stands
    c.index-as_slice-position.is c.as_slice.ensures (omega (arith, low)) c.requires.high (λ e. omega (arith, low, e))

pub watch_plain-requires : goal.watch_plain-requires
watch_plain-requires c =
    let inside = inside_at (goal.at.watch_plain-requires c).After-index-as_slice-position in
    steps_ahead _ _ _ _ _ _ c.min-some.result inside.on
    (omega (arith, inside.some, c.count_of.ensures.value, c.min-some.ensures, c.from.ensures))

pub place_of-requires : goal.place_of-requires
place_of-requires c =
    let most = watched_most c.args.address c.min-some.result c.index-as_slice-position.result.tid c.in_ok-changed.changed
    (state_of c.args.position.now.guest) (state_of c.watch_plain.new.guest) c.in_ok-changed.ensures.watched in
    let low = c.requires.low in
    let fits = c.ranges.end.fits in
    omega (arith, most, c.min-some.ensures, low, fits)

pub returns-clause-stands : goal.returns-clause-stands
returns-clause-stands c =
    let position = c.args.position.now in
    let f = c.index-as_slice-position.result in
    let some = c.min-some.result in
    let inside = inside_at (goal.at.returns-clause-stands c).After-index-as_slice-position in
    let next : Position =
    record {
      guest = c.watch_plain.new.guest;
      frames = position.frames;
      steps = position.steps + some;
      at = position.at + c.from-2.result;
    } in
    stands_further c.args.self.now position next f some c.requires.stands inside.below inside.there
    (omega (arith, inside.some, c.count_of.ensures.value, c.min-some.ensures, c.from.ensures))
    (watched_plain c.args.address some f.tid c.in_ok-changed.changed (state_of position.guest) (state_of c.watch_plain.new.guest)
    c.in_ok-changed.ensures.watched)
    refl refl
    (omega (arith, c.from-2.ensures))

pub returns-clause-change : goal.returns-clause-change
returns-clause-change c =
    let o = c.args.self.now.opening in
    let frames = c.args.self.now.frames in
    let position = c.args.position.now in
    let f = c.index-as_slice-position.result in
    let some = c.min-some.result in
    let inside = inside_at (goal.at.returns-clause-change c).After-index-as_slice-position in
    let last : IsLastIn o frames c.args.address position.at (position.at + some) (place_after position.at c.in_ok-changed.changed) =
    watched_last o frames position.at (state_of position.guest) (state_of c.watch_plain.new.guest) (rest_of position.steps f)
    (drop (position.frames + 1) frames) c.args.address some
    c.in_ok-changed.changed inside.on (omega (arith, inside.some, c.count_of.ensures.value, c.min-some.ensures, c.from.ensures))
    c.in_ok-changed.ensures.watched in
    subst (λ n. IsLastIn o frames c.args.address position.at (position.at + n) c.place_of.result) (sym c.from-2.ensures)
    (subst (λ (found : Option ℕ). IsLastIn o frames c.args.address position.at (position.at + some) found) (sym c.place_of.ensures) last)
