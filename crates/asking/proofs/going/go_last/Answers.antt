use Rattle.reverse_step.specs.Changes.{IsLastChange}
use Rattle.asking.proofs.Leads.{found_nowhere, found_there}
use Rattle.asking.proofs.going.go_last.Goals as goal

pub returns-in-Some-clause-leads : goal.returns-in-Some-clause-leads
returns-in-Some-clause-leads g c =
    let old = c.args.cursor.now in
    let found = c.in_ok-last_change_in_spans.ensures in
    found_there (IsLastChange old.verified.opening old.verified.frames c.args.address old.place) _ c.in-Some.field-0
    c.last_change_in_spans.new.self.place c.in-Some.is found.change found.at

pub returns-in-None-clause-leads : goal.returns-in-None-clause-leads
returns-in-None-clause-leads g c =
    let old = c.args.cursor.now in
    let found = c.in_ok-last_change_in_spans.ensures in
    found_nowhere (IsLastChange old.verified.opening old.verified.frames c.args.address old.place) _ old c.last_change_in_spans.new.self
    c.in-None.is found.change found.stays
