-- Where a schedule is done.
use Rattle.std.proofs.Common.{◌≡◌, ◌∙◌, ℕ, inl, inr, true, false, List, [], ◌∷◌, Some, sym, ap}
use Rattle.rrv_model.specs.declared.record.Choice.{Choice}
use Rattle.rrv_model.specs.declared.record.Frame.{Frame}
use Rattle.rrv_model.specs.State.{State}
use Rattle.serial_sched.specs.Chosen.{AreChosen, PicksAmong}
use Rattle.choices.specs.Schedule.{Plan, plan}
use Rattle.choices.specs.Scheduled.{DoneIsAsked, by_schedule}

same_done : (tids : List ℕ) (old : Plan) (choice : Choice) (next : Plan) → PicksAmong by_schedule tids old (Some choice) next →
    next.done ≡ old.done
same_done [] old choice next picks = ap (λ (p : Plan). p.done) picks.1
same_done (t ∷ tids) old choice next (inl taken) = ap (λ (p : Plan). p.done) taken.new_is
same_done (t ∷ tids) old choice next (inr taken) = ap (λ (p : Plan). p.done) taken.new_is

keeps_done : (frames : List Frame) (s : State) (old : Plan) (s' : State) (last : Plan) → AreChosen by_schedule s old frames s' last →
    last.done ≡ old.done
keeps_done [] s old s' last (there, same) = ap (λ (p : Plan). p.done) same
keeps_done (f ∷ frames) s old s' last (mid, next, is, rest) =
    keeps_done frames mid next s' last rest ∙ same_done is.picks.tids old is.choice next is.picks.picks

not_both : false ≡ true → ⊥
not_both e = cc

pub done_is_asked : DoneIsAsked
done_is_asked s list turns frames s' last new chosen (inr picks) done = picks
done_is_asked s list turns frames s' last new chosen (inl same) done =
    absurd (not_both (sym (keeps_done frames s (plan list turns) s' last chosen) ∙ (sym (ap (λ (p : Plan). p.done) same) ∙ done)))
