-- How following goes from frame to frame.
use Rattle.std.proofs.Common.{◌≡◌, ℕ, ◌+◌, ◌<◌, List, [], ◌∷◌, ◌++◌, length, take, get_or, sym, ◌∙◌, ap, subst}
use Rattle.std.proofs.lemmas.List.{take_more}
use Rattle.rrv_model.specs.declared.record.Frame.{Frame}
use Rattle.rrv_model.specs.State.{State}
use Rattle.rrv_model.specs.FrameStep.{FrameStep}
use Rattle.rrv_model.specs.StateAt.{StateAtFrom, total}
use Rattle.rrv_model.proofs.RunLaws.{at_total_append}

-- the frame at i leads on from the state after those before it
pub followed_next : (frames : List Frame) (i : ℕ) (f : Frame) (s last new : State) → i < length frames → f ≡ get_or frames i f →
    StateAtFrom s (take i frames) (total (take i frames)) last → FrameStep last f new →
    StateAtFrom s (take (i + 1) frames) (total (take (i + 1) frames)) new
followed_next frames i f s last new below is before step =
    let one_more : take (i + 1) frames ≡ take i frames ++ f ∷ [] =
    take_more frames i f below ∙ ap (λ g. take i frames ++ g ∷ []) (sym is) in
    subst (λ fs. StateAtFrom s fs (total fs) new) (sym one_more) (at_total_append (take i frames) s last new f before step)
