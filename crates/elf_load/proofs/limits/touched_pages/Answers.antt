use Rattle.std.proofs.Common.{arith, ap, ◌∙◌}
use Rattle.std.specs.Prelude.{count_by}
use Rattle.std.specs.List.{list_any}
use Rattle.std.proofs.lemmas.List.{take_all}
use Rattle.rrv_model.specs.Elf.{touches}
use Rattle.elf_load.proofs.Pages.{count_by-all_marks}
use Rattle.elf_load.proofs.limits.touched_pages.Goals as goal

pub returns : goal.returns
returns c =
    let marked = count_by-all_marks c.args.found.now c.loop-load.marks.items c.args.pages c.loop-load.invariant.all_pages
    (λ page low. c.loop-load.invariant.marked page low
    ∙ ap (list_any (touches page)) (take_all c.loop-load.load-index c.args.found.now (omega arith))) in
    c.count_marks.ensures ∙ ap (count_by (λ mark. mark)) c.deref.ensures.value ∙ marked
