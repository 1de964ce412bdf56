use Rattle.std.proofs.lemmas.Result.{err_from_is_err_and}
use Rattle.checkpoint.proofs.Patched.{refused_of_all, refuses_first}
use Rattle.checkpoint.proofs.pages.set_pages.Goals as goal

pub returns-in_err-set_page : goal.returns-in_err-set_page
returns-in_err-set_page c =
    let p = err_from_is_err_and c.from_residual.result c.from_residual.ensures.1 in
    let fault = c.in_err-set_page.field-0.0 in
    let refused = refuses_first fault c.loop-left.left.now c.first-item.result _ c.in-len1-up.len_at_least c.first-item.is
    c.in_err-set_page.ensures.becomes.refused in
    rw (p.1, p.2) (refused_of_all _ _ _ _ _ fault c.loop-left.invariant.0 refused c.set_page.ensures.becomes.keeps
    c.set_page.ensures.becomes.put)
