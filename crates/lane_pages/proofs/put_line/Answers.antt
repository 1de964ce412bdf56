use Rattle.std.proofs.Common.{◌≡◌, ◌∙◌, ◌+◌, ◌-◌, ◌*◌, ap, arith, get_or}
use Rattle.lane_pages.proofs.Pages.{line_after, line_before, line_within, with_line}
use Rattle.lane_pages.proofs.put_line.Goals as goal

pub returns-clause-before : goal.returns-clause-before
returns-clause-before c k low =
    let at = c.args.line * 64 in
    line_before at (at + 64 - at) k c.args.page.now c.args.bytes.now (omega (arith, c.told-page, c.requires)) (omega (arith, c.told-bytes))
    (omega (arith, low))

pub returns-clause-line : goal.returns-clause-line
returns-clause-line c k low =
    let at = c.args.line * 64 in
    let place : 64 * c.args.line + k ≡ at + k = omega arith in
    ap (λ n. get_or (with_line at (at + 64 - at) c.args.page.now c.args.bytes.now) n 0) place
    ∙ line_within at (at + 64 - at) k c.args.page.now c.args.bytes.now (omega (arith, c.told-page, c.requires))
    (omega (arith, c.told-bytes)) (omega (arith, low))

pub returns-clause-after : goal.returns-clause-after
returns-clause-after c k high =
    let at = c.args.line * 64 in
    line_after at (at + 64 - at) k c.args.page.now c.args.bytes.now (omega (arith, c.told-page, c.requires)) (omega (arith, c.told-bytes))
    (omega (arith, high))
