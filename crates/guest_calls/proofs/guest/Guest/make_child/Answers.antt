use Rattle.std.proofs.Common.{refl, ◌∙◌, ap, rules}
use Rattle.guest_calls.specs.Guest.{state_of}
use Rattle.guest_calls.proofs.CloneParts.{carries_child}
use Rattle.guest_calls.proofs.guest.Guest.make_child.Goals as goal

pub returns : goal.returns
returns c = record {
  makes = record {
    carries = carries_child c.args.tid (state_of c.args.self.now) (state_of c.add_child.new.self) _ c.args.thread.now
        c.args.places.now c.in_ok-record.record c.in_ok-record.ensures.record_is c.in_ok-record.ensures.child.state
        (ap state_of c.self.view_is ∙ c.set_result.ensures.state);
    text = c.in_ok-record.ensures.text;
    puts = refl;
    keeps = search rules;
  };
  memory = search rules;
  refused = search rules;
}
