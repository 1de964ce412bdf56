use Rattle.reverse_step.specs.Changes.{IsNextChange}
use Rattle.asking.proofs.Leads.{found_nowhere, found_there}
use Rattle.asking.proofs.going.go_next.Goals as goal

pub returns-in-Some-clause-leads : goal.returns-in-Some-clause-leads
returns-in-Some-clause-leads g c =
    let old = c.args.cursor.now in
    let found = c.in_ok-next_change.ensures in
    found_there (IsNextChange old.verified.opening old.verified.frames c.args.address old.place) _ c.in-Some.field-0
    c.next_change.new.self.place c.in-Some.is found.change found.at

pub returns-in-None-clause-leads : goal.returns-in-None-clause-leads
returns-in-None-clause-leads g c =
    let old = c.args.cursor.now in
    let found = c.in_ok-next_change.ensures in
    found_nowhere (IsNextChange old.verified.opening old.verified.frames c.args.address old.place) _ old c.next_change.new.self
    c.in-None.is found.change found.stays
