use Rattle.std.proofs.Common.{rules, ◌≡◌, ◌∙◌, ◌-◌, ◌∷◌, ℕ, List, drop, length, refl, subst, sym, take}
use Rattle.std.proofs.lemmas.Result.{err_from_is_err_and}
use Rattle.rrv_model.specs.declared.record.Frame.{Frame}
use Rattle.rrv_model.specs.Opening.{Opens}
use Rattle.rrv_model.specs.Output.{FramePuts}
use Rattle.rrv_model.specs.StateAt.{StateAtFrom, total}
use Rattle.guest_calls.specs.Guest.{GuestValue, chunks_of, state_of}
use Rattle.outcomes.specs.Failures.{HasFailed}
use Rattle.rrv_model.proofs.RunLaws.{at_total_first}
use Rattle.replayer.specs.Puts.{PutsSoFar, chunks_by}
use Rattle.replayer.proofs.Onward.{none_left, split_first}
use Rattle.replayer.proofs.Putting.{ends_behind, frame_puts, inside_part, none_put, so_far_all, so_far_first, so_far_next, so_far_part, start_ends, start_opens}
use Rattle.replayer.proofs.recording.Track.output.Given.{Over}
use Rattle.replayer.proofs.recording.Track.output.Goals as goal
use Rattle.replayer.proofs.recording.Track.output.Goals.{After-frame-item, In_ok-follow_whole}

pub returns-in_err-start : goal.returns-in_err-start
returns-in_err-start g c =
    let p = err_from_is_err_and c.from_residual.result c.from_residual.ensures.1 in
    rw (p.1, p.2) (record {
      all = tt;
      part = λ tells. none_put c.args.self.now.opening c.args.self.now.frames c.args.self.now.marks (g.S.Sink.taken c.args.sink.now)
          c.requires;
      steady = tt;
      refused = refl;
      tells = ((λ t. t), (λ t. t));
    })

pub loop-left-init : goal.loop-left-init
loop-left-init g c =
    let o = c.args.self.now.opening in
    let frames = c.args.self.now.frames in
    let place = c.in_ok-start.field-0 in
    let guest = c.into_guest-guest.result in
    let there = start_opens o frames place.frames place.at (state_of place.guest) c.in_ok-start.ensures.begins.place
    c.in_ok-start.ensures.frames in
    let opens = subst (λ (g' : GuestValue). Opens o (state_of g')) (sym c.into_guest-guest.ensures) there in
    let ends = start_ends o frames c.args.self.now.marks (state_of guest) c.requires opens in
    record {
      put = λ tells. subst
          (λ (fs : List Frame). PutsSoFar o frames (state_of guest) fs (g.S.Sink.taken c.args.sink.now) (g.S.Sink.taken c.args.sink.now))
          (sym c.as_slice-left.ensures)
          (so_far_first o frames (state_of guest) (g.S.Sink.taken c.args.sink.now) opens);
      ends = (ends.0, subst (λ (fs : List Frame). StateAtFrom (state_of guest) fs (total fs) ends.0) (sym c.as_slice-left.ensures) ends.1);
      counted = search rules;
      tells = ((λ t. t), (λ t. t));
    }

-- the frame is next: it leads to the end, and what was put out is what was put out before it
next_is : (g : Over) (c : After-frame-item g) → c.loop-left.left.now
    ≡ c.frame-item.result ∷ take (length c.loop-left.left.now - 1) (drop 1 c.loop-left.left.now)
next_is g c = split_first c.loop-left.left.now c.frame-item.result c.in-len1-up.len_at_least c.frame-item.is

leads_on : (g : Over) (c : After-frame-item g) →
    StateAtFrom (state_of c.loop-left.guest) (c.frame-item.result ∷ take (length c.loop-left.left.now - 1) (drop 1 c.loop-left.left.now))
    (total (c.frame-item.result ∷ take (length c.loop-left.left.now - 1) (drop 1 c.loop-left.left.now))) c.loop-left.invariant.ends.0
leads_on g c =
    let ends = c.loop-left.invariant.ends in
    subst (λ (fs : List Frame). StateAtFrom (state_of c.loop-left.guest) fs (total fs) ends.0) (next_is g c) ends.1

put_so_far : (g : Over) (c : After-frame-item g) → g.S.Sink.tells c.args.sink.now →
    PutsSoFar c.args.self.now.opening c.args.self.now.frames (state_of c.loop-left.guest)
    (c.frame-item.result ∷ take (length c.loop-left.left.now - 1) (drop 1 c.loop-left.left.now))
    (g.S.Sink.taken c.args.sink.now) (g.S.Sink.taken c.loop-left.sink)
put_so_far g c tells =
    subst (λ (fs : List Frame). PutsSoFar c.args.self.now.opening c.args.self.now.frames (state_of c.loop-left.guest) fs
    (g.S.Sink.taken c.args.sink.now) (g.S.Sink.taken c.loop-left.sink)) (next_is g c) (c.loop-left.invariant.put tells)

pub follow_whole-requires : goal.follow_whole-requires
follow_whole-requires g c =
    let ends = leads_on g (goal.at.follow_whole-requires g c).After-frame-item in
    let ahead = at_total_first (state_of c.loop-left.guest) c.frame-item.result
    (take (length c.loop-left.left.now - 1) (drop 1 c.loop-left.left.now)) c.loop-left.invariant.ends.0 ends in
    (ahead.0, ahead.1)

pub returns-in_err-follow_whole : goal.returns-in_err-follow_whole
returns-in_err-follow_whole g c =
    let i = c.loop-left.invariant in
    let p = err_from_is_err_and c.from_residual-in_err-follow_whole.result c.from_residual-in_err-follow_whole.ensures.1 in
    rw (p.1, p.2) (record {
      all = tt;
      part = λ tells. so_far_part c.args.self.now.opening c.args.self.now.frames (state_of c.loop-left.guest) i.ends.0
          c.loop-left.left.now (g.S.Sink.taken c.args.sink.now) (g.S.Sink.taken c.loop-left.sink) (i.put tells) i.ends.1;
      steady = tt;
      refused = i.counted;
      tells = i.tells;
    })

-- it is followed, with what it puts out, and the frames behind it lead to the end
puts_of : (g : Over) (c : In_ok-follow_whole g) →
    FramePuts (state_of c.loop-left.guest) c.frame-item.result c.frame-item.result.end
    (chunks_by c.frame-item.result.end (chunks_of c.follow_whole.new.guest.put))
puts_of g c =
    frame_puts c.frame-item.result.end (state_of c.loop-left.guest) c.frame-item.result (chunks_of c.follow_whole.new.guest.put)
    c.in_ok-follow_whole.ensures.puts

leads_behind : (g : Over) (c : In_ok-follow_whole g) →
    StateAtFrom (state_of c.loop-left.guest) (c.frame-item.result ∷ take (length c.loop-left.left.now - 1) (drop 1 c.loop-left.left.now))
    (total (c.frame-item.result ∷ take (length c.loop-left.left.now - 1) (drop 1 c.loop-left.left.now))) c.loop-left.invariant.ends.0 →
    StateAtFrom (state_of c.follow_whole.new.guest) (take (length c.loop-left.left.now - 1) (drop 1 c.loop-left.left.now))
    (total (take (length c.loop-left.left.now - 1) (drop 1 c.loop-left.left.now))) c.loop-left.invariant.ends.0
leads_behind g c on =
    ends_behind (state_of c.loop-left.guest) (state_of c.follow_whole.new.guest) c.loop-left.invariant.ends.0 c.frame-item.result
    (take (length c.loop-left.left.now - 1) (drop 1 c.loop-left.left.now)) on c.in_ok-follow_whole.ensures.follows

pub returns-in_default-put_frame : goal.returns-in_default-put_frame
returns-in_default-put_frame g c =
    let at = goal.at.returns-in_default-put_frame g c in
    let e = c.in_default-put_frame.ensures in
    let i = c.loop-left.invariant in
    record {
      all = tt;
      part = λ tells. let some = e.part (i.tells.1 tells) in
          inside_part _ _ _ _ _ _ _ _ some.0 _ _ _ (put_so_far g at.After-frame-item tells) c.in_ok-follow_whole.ensures.follows
          (puts_of g at.In_ok-follow_whole) (leads_behind g at.In_ok-follow_whole (leads_on g at.After-frame-item)) some.1;
      steady = tt;
      refused = subst (λ (n : ℕ). HasFailed n (g.S.Sink.faults c.put_frame.new.sink)) i.counted e.counted;
      tells = ((λ t. i.tells.0 (e.tells.0 t)), (λ t. e.tells.1 (i.tells.1 t)));
    }

pub loop-left-preserved : goal.loop-left-preserved
loop-left-preserved g c =
    let at = goal.at.loop-left-preserved g c in
    let e = c.in-Ok.ensures in
    let i = c.loop-left.invariant in
    record {
      put = λ tells. so_far_next _ _ _ _ _ _ _ _ _ _ (put_so_far g at.After-frame-item tells) c.in_ok-follow_whole.ensures.follows
          (puts_of g at.In_ok-follow_whole) (e.all (i.tells.1 tells));
      ends = (i.ends.0, leads_behind g at.In_ok-follow_whole (leads_on g at.After-frame-item));
      counted = e.counted ∙ i.counted;
      tells = ((λ t. i.tells.0 (e.tells.0 t)), (λ t. e.tells.1 (i.tells.1 t)));
    }

pub returns : goal.returns
returns g c =
    let i = c.loop-left.invariant in
    let none = none_left c.loop-left.left.now c.in_default.len_below in
    record {
      all = λ tells. so_far_all c.args.self.now.opening c.args.self.now.frames (state_of c.loop-left.guest) (g.S.Sink.taken c.args.sink.now)
          (g.S.Sink.taken c.loop-left.sink)
          (subst (λ (fs : List Frame). PutsSoFar c.args.self.now.opening c.args.self.now.frames (state_of c.loop-left.guest) fs
          (g.S.Sink.taken c.args.sink.now) (g.S.Sink.taken c.loop-left.sink)) none (i.put tells));
      part = tt;
      steady = i.counted;
      refused = tt;
      tells = i.tells;
    }
