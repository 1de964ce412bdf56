use Rattle.std.proofs.Common.{◌≤◌, ◌∙◌, List, length, arith, subst, sym}
use Rattle.std.proofs.lemmas.List.{take_all}
use Rattle.std.proofs.lemmas.Result.{err_from_is_err_and}
use Rattle.rrv_model.specs.declared.record.Record.{Record}
use Rattle.replayer.specs.Claims.{claimed_by}
use Rattle.faults.specs.declared.replay.ClaimFault.TheVariants as ClaimFault
use Rattle.replayer.specs.Standings.{Fits, Standing}
use Rattle.spans.specs.Spans.{LeadAlong}
use Rattle.spans.proofs.Claiming.{claim_is, claim_is_state, fits_next, none_next, same_refusal}
use Rattle.spans.proofs.following.claimed.Goals as goal

pub loop-entry-init : goal.loop-entry-init
loop-entry-init c = λ x y fits lead. subst (λ (s : Standing). Fits (claimed_by c.args.claim) s) (sym lead) fits

pub loop-entry-preserved : goal.loop-entry-preserved
loop-entry-preserved c =
    fits_next c.args.records.now c.loop-entry.entry-index c.entry-item.result (claimed_by c.args.claim) (claimed_by c.loop-entry.claim)
    (claimed_by c.pass.new.self) (omega arith) c.entry-item.is c.loop-entry.invariant c.in_ok-pass.ensures.fits

pub returns-in_err-pass-clause-nowhere : goal.returns-in_err-pass-clause-nowhere
returns-in_err-pass-clause-nowhere c =
    let p = err_from_is_err_and c.from_residual.result c.from_residual.ensures.1 in
    rw (p.1, p.2)
    (λ e. none_next c.args.records.now c.loop-entry.entry-index c.entry-item.result (claimed_by c.args.claim)
    (claimed_by c.loop-entry.claim) (omega arith)
    c.entry-item.is c.loop-entry.invariant
    (c.in_err-pass.ensures.nowhere (same_refusal c.in_err-pass.field-0.0 ClaimFault.LeadsNowhere e)))

pub returns-clause-claims : goal.returns-clause-claims
returns-clause-claims c = λ x y fits lead.
    let all : length c.args.records.now ≤ c.loop-entry.entry-index = omega arith in
    let before = subst (λ (rs : List Record). LeadAlong rs x y) (sym (take_all c.loop-entry.entry-index c.args.records.now all)) lead in
    c.in_ok-following.ensures
    ∙ claim_is c.loop-entry.claim y (c.loop-entry.invariant x y fits before) (claim_is_state c.args.records.now x y c.requires lead)
