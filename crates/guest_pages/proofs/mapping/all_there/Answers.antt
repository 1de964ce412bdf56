use Rattle.std.proofs.Common.{◌∙◌, sym}
use Rattle.page_tables.specs.Contents.{contents_of}
use Rattle.guest_pages.proofs.Ranges.{one_absent}
use Rattle.guest_pages.proofs.mapping.all_there.Goals as goal

pub returns-then-not-is_there : goal.returns-then-not-is_there
returns-then-not-is_there c =
    sym (one_absent (contents_of c.args.tables.now).pages c.args.first c.args.count c.loop-number.number c.loop-number.auto.number
    c.loop-number-test.true
    (sym c.is_there.ensures ∙ c.if-not-is_there.true))
