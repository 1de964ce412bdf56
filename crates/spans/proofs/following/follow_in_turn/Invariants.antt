use Rattle.std.proofs.Common.{take}
use Rattle.replayer.specs.Following.{standing_of}
use Rattle.spans.specs.Spans.{LeadAlong}
use Rattle.spans.proofs.following.follow_in_turn.Given as goal

abbrev pub invariant-loop-entry : goal.invariant-loop-entry
invariant-loop-entry l = LeadAlong (take l.entry-index l.records) (standing_of l.fn.following) (standing_of l.following)
