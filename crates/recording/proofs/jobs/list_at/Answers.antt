use Rattle.std.proofs.Common.{Some, ap, sym, ◌∙◌}
use Rattle.std.proofs.lemmas.Option.{slice_get-get_or}
use Rattle.recording.proofs.ChoiceLists.{list_there, no_list}
use Rattle.recording.proofs.jobs.list_at.Goals as goal

pub returns-then-place-lists : goal.returns-then-place-lists
returns-then-place-lists c =
    let lists = c.args.lists.now in
    let own = c.index-lists-place.result in
    c.as_slice.ensures.value
    ∙ list_there lists c.args.place own
    (slice_get-get_or lists c.args.place own c.if-place-lists.true ∙ ap Some (sym c.index-lists-place.is))

pub returns : goal.returns
returns c = no_list c.args.lists.now c.args.place c.if-place-lists.false
