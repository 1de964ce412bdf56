use Rattle.std.proofs.Common.{length, refl, ◌∙◌}
use Rattle.std.proofs.lemmas.List.{length-set}
use Rattle.std.proofs.lemmas.Option.{slice_get_read}
use Rattle.group_tests.proofs.Seats.{all_stay}
use Rattle.group_tests.proofs.tests.machine.Machine.send.Goals as goal

pub invariant_of-self-2-clause-count : goal.invariant_of-self-2-clause-count
invariant_of-self-2-clause-count g c = length-set c.args.self.now.seats.items c.args.guest c.send_by.new.seat ∙ c.args.self.now.count

pub invariant_of-self-2-clause-all : goal.invariant_of-self-2-clause-all
invariant_of-self-2-clause-all g c =
    let seats = c.args.self.now.seats.items in
    let item = c.in-Some.ensures.item in
    all_stay c.args.self.now.flusher.group seats c.args.guest c.in-Some.seat.now c.send_by.new.seat c.args.self.now.all
    (slice_get_read seats (length seats) c.args.guest c.in-Some.seat.now refl item.3.0 item.1)
    c.send_by.ensures.stays
