use Rattle.std.proofs.lemmas.Result.{err_from_is_err_and}
use Rattle.guest_calls.specs.Guest.{state_of}
use Rattle.checkpoint.proofs.Patched.{refused_of_all, refuses_part}
use Rattle.checkpoint.proofs.pages.set_parts.Goals as goal

pub returns-in_err-set_pages : goal.returns-in_err-set_pages
returns-in_err-set_pages c =
    let p = err_from_is_err_and c.from_residual.result c.from_residual.ensures.1 in
    let fault = c.in_err-set_pages.field-0.0 in
    let refused = refuses_part fault c.loop-left.left.now c.first-item.result (state_of c.loop-left.guest) c.as_slice.result.now
    c.in-len1-up.len_at_least c.first-item.is c.as_slice.ensures c.in_err-set_pages.ensures.refused in
    rw (p.1, p.2) (refused_of_all _ _ _ _ _ fault c.loop-left.invariant.0 refused c.set_pages.ensures.keeps
    c.set_pages.ensures.put)
