use Rattle.std.proofs.Common.{◌≡◌, ◌≤◌}
use Rattle.replayer.specs.Changes.{NoneIn}
use Rattle.reverse_step.specs.Cursors.{CursorValue}
use Rattle.reverse_step.proofs.cursor.Cursor.last_change_in_spans.Given as goal

abbrev pub invariant-loop-end : goal.invariant-loop-end
invariant-loop-end g l =
    let here : CursorValue =
    record { verified = l.self-inside.place.verified; place = l.self-inside.place.at; guest = l.self-inside.place.guest } in
    record {
      none : NoneIn l.fn.self.verified.opening l.fn.self.verified.frames l.address l.end l.fn.self.place;
      low : l.end ≤ l.fn.self.place;
      same : here ≡ l.fn.self;
    }

abbrev pub decreases-loop-end : goal.decreases-loop-end
decreases-loop-end g l = l.end
