use Rattle.std.proofs.Common.{rules, arith, ◌≡◌, ◌-◌, ◌∷◌, ◌∙◌, List, ap, drop, length, subst, sym, take}
use Rattle.guest_calls.specs.Guest.{state_of}
use Rattle.rrv_model.specs.declared.record.Part.{Part}
use Rattle.rrv_model.specs.Checkpoint.{Describes}
use Rattle.replayer.specs.declared.recording.Mark.{Mark}
use Rattle.replayer.specs.Kept.{last_place}
use Rattle.replayer.specs.Places.{IsPlace, MarksLeft}
use Rattle.replayer.proofs.Onward.{split_first}
use Rattle.replayer.proofs.Placed.{last_on, mark_left, mark_place, start_marks}
use Rattle.replayer.proofs.recording.Track.nearest.Goals as goal

pub loop-left-init : goal.loop-left-init
loop-left-init c =
    let o = c.args.self.now.opening in
    let frames = c.args.self.now.frames in
    let position = c.in_ok-position.position in
    let start : IsPlace o frames 0 0 (state_of position.guest) =
    subst (λ n. IsPlace o frames n 0 (state_of position.guest)) c.in_ok-position.ensures.frames
    (subst (λ n. IsPlace o frames position.frames n (state_of position.guest)) c.in_ok-position.ensures.at
    c.in_ok-position.ensures.begins.place) in
    record {
      begins = c.in_ok-position.ensures.begins;
      left = subst (λ (ms : List Mark). MarksLeft o frames (state_of position.guest) ms) (sym c.as_slice-left.ensures)
          (start_marks o frames c.args.self.now.marks (state_of position.guest) c.requires start);
      last = ap (λ n. last_place n c.as_slice-left.result.now c.args.t) c.in_ok-position.ensures.at
          ∙ ap (λ (ms : List Mark). last_place 0 ms c.args.t) c.as_slice-left.ensures;
      low = omega (arith, c.in_ok-position.ensures.at);
    }

pub loop-left-preserved : goal.loop-left-preserved
loop-left-preserved c =
    let o = c.args.self.now.opening in
    let frames = c.args.self.now.frames in
    let m = c.mark-item.result in
    let all = c.loop-left.left.now in
    let rest = take (length all - 1) (drop 1 all) in
    let base = state_of c.loop-left.position.guest in
    let new = state_of c.put_parts.new.guest in
    let next : all ≡ m ∷ rest = split_first all m c.in-len1-up.len_at_least c.mark-item.is in
    let left = subst (λ (ms : List Mark). MarksLeft o frames base ms) next c.loop-left.invariant.left in
    let described = subst (λ (ps : List Part). Describes base ps new) c.as_slice.ensures c.in-Ok.ensures.put in
    record {
      begins = record {
        place = mark_place o frames base new m rest left described;
        steps = c.loop-left.invariant.begins.steps;
        ran = c.in-Ok.ensures.ran ∙ c.loop-left.invariant.begins.ran;
      };
      left = mark_left o frames base new m rest left described;
      last = sym (last_on c.loop-left.position.at m rest c.args.t (search rules))
          ∙ ap (λ (ms : List Mark). last_place c.loop-left.position.at ms c.args.t) (sym next) ∙ c.loop-left.invariant.last;
      low = search rules;
    }
