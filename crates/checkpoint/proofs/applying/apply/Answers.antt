use Rattle.std.proofs.Common.{◌≡◌, sym, ap, ◌∙◌, subst}
use Rattle.std.proofs.lemmas.Bool.{false≢true}
use Rattle.std.proofs.lemmas.Result.{err_from_is_err_and}
use Rattle.rrv_model.specs.State.{State}
use Rattle.guest_calls.specs.Guest.{state_of}
use Rattle.guest_calls.specs.Parts.{with_rest}
use Rattle.checkpoint.specs.Applies.{apply_told}
use Rattle.checkpoint.specs.Patches.{RefusesPages, with_parts_cleared, with_parts_set}
use Rattle.checkpoint.proofs.Applied.{applied, parts_fit, refused_pages, refused_rest}
use Rattle.checkpoint.proofs.Parts.{each_part_fits}
use Rattle.checkpoint.proofs.Patched.{if_err}
use Rattle.checkpoint.proofs.applying.apply.Goals as goal

pub returns-then-not-parts_fit-clause-refused : goal.returns-then-not-parts_fit-clause-refused
returns-then-not-parts_fit-clause-refused c = λ s d.
    absurd (false≢true
    (sym c.if-not-parts_fit.true ∙ c.parts_fit.ensures.fits.1 (parts_fit (state_of c.args.guest.now) s c.args.parts.now d)))

pub returns-in_err-set_rest-clause-refused : goal.returns-in_err-set_rest-clause-refused
returns-in_err-set_rest-clause-refused c =
    let p = err_from_is_err_and c.from_residual.result c.from_residual.ensures.1 in
    let fault = c.in_err-set_rest.field-0.0 in
    if_err _ c.from_residual.result p.0 (apply_told fault) p.1 p.2
    (refused_rest fault (state_of c.args.guest.now) c.args.parts.now c.in-Some.rest.now c.in-Some.ensures
    (c.parts_fit.ensures.fits.0 c.if-not-parts_fit.false)
    (c.parts_fit.ensures.bytes c.if-not-parts_fit.false) c.page_count.ensures.is_memory c.in_err-set_rest.ensures.refused)

pub set_parts-requires : goal.set_parts-requires
set_parts-requires c = each_part_fits 0 c.args.parts.now (c.parts_fit.ensures.fits.0 c.if-not-parts_fit.false)

pub returns-in_err-set_parts-clause-refused : goal.returns-in_err-set_parts-clause-refused
returns-in_err-set_parts-clause-refused c =
    let p = err_from_is_err_and c.from_residual-in_err-set_parts.result c.from_residual-in_err-set_parts.ensures.1 in
    let fault = c.in_err-set_parts.field-0.0 in
    let parts = c.args.parts.now in
    let e : state_of c.clear_parts.new.guest ≡ with_parts_cleared parts (with_rest c.in-Some.rest.now (state_of c.args.guest.now)) =
    c.clear_parts.ensures.state ∙ ap (with_parts_cleared parts) c.in_ok-set_rest.ensures.set.state in
    if_err _ c.from_residual-in_err-set_parts.result p.0 fault p.1 p.2
    (refused_pages fault (state_of c.args.guest.now) parts c.in-Some.rest.now c.in-Some.ensures
    (c.parts_fit.ensures.fits.0 c.if-not-parts_fit.false)
    (c.parts_fit.ensures.bytes c.if-not-parts_fit.false) c.in_ok-set_rest.ensures.possible
    (subst (λ (s : State). RefusesPages fault (with_parts_set parts s).memory) e c.in_err-set_parts.ensures.refused))

pub returns-clause-applied : goal.returns-clause-applied
returns-clause-applied c =
    let parts = c.args.parts.now in
    let e : state_of c.clear_parts.new.guest ≡ with_parts_cleared parts (with_rest c.in-Some.rest.now (state_of c.args.guest.now)) =
    c.clear_parts.ensures.state ∙ ap (with_parts_cleared parts) c.in_ok-set_rest.ensures.set.state in
    applied (state_of c.args.guest.now) (state_of c.set_parts.new.guest) parts c.in-Some.rest.now c.in-Some.ensures
    (c.parts_fit.ensures.fits.0 c.if-not-parts_fit.false)
    (c.parts_fit.ensures.bytes c.if-not-parts_fit.false) c.in_ok-set_rest.ensures.possible
    (c.in_ok-set_parts.ensures.state ∙ ap (with_parts_set parts) e) c.page_count-2.ensures.is_memory
