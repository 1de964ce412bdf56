use Rattle.std.proofs.Common.{ap, arith, get_or, sym, ◌∙◌}
use Rattle.std.proofs.lemmas.List.{length-take-le}
use Rattle.std.proofs.lemmas.Option.{slice_get-get_or}
use Rattle.std.specs.Prelude.{Vec, vec_items}
use Rattle.std.specs.declared.alloc.Global.{Global}
use Rattle.recording.specs.declared.misfits.GuestMisfit.{GuestMisfit}
use Rattle.recording.proofs.MisfitLists.{misfits_more, misfits_on, misfits_same}
use Rattle.recording.proofs.misfits.misfits_of.Goals.{in-Some+in_ok-push, in_default}
use Rattle.recording.proofs.misfits.misfits_of.Goals as goal

pub loop-place-preserved : goal.loop-place-preserved
loop-place-preserved g c =
    let jobs = c.args.jobs.now in
    let i = c.loop-place.place in
    let job = get_or jobs i c.index-jobs-place.result in
    let within = c.loop-place-test.true in
    let before = c.loop-place.invariant in
    let on = misfits_on jobs i job (slice_get-get_or jobs i c.index-jobs-place.result within)
    (length-take-le i jobs (omega (arith, within))) in (
      before.0,
      elim c.match-misfit.branch [
        | in-Some+in_ok-push w ↦
            misfits_more jobs i job w.in-Some.misfit c.loop-place.misfits.items _
            (ap (λ (v : Vec GuestMisfit Global). vec_items v) w.misfits-is ∙ w.in_ok-push.ensures.items) before.1
            (sym c.misfit.ensures ∙ w.in-Some.is) on
        | in_default w ↦
            misfits_same jobs i job c.loop-place.misfits.items _ (ap (λ (v : Vec GuestMisfit Global). vec_items v) w.misfits-is) before.1
            (sym c.misfit.ensures ∙ w.in_default.is) on
      ],
    )
