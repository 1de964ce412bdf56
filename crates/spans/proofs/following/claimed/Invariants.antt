use Rattle.std.proofs.Common.{take}
use Rattle.replayer.specs.Claims.{claimed_by}
use Rattle.replayer.specs.Standings.{Fits, Standing}
use Rattle.spans.specs.Spans.{LeadAlong}
use Rattle.spans.proofs.following.claimed.Given as goal

abbrev pub invariant-loop-entry : goal.invariant-loop-entry
invariant-loop-entry l = (x y : Standing) → Fits (claimed_by l.fn.claim) x → LeadAlong (take l.entry-index l.records) x y →
    Fits (claimed_by l.claim) y
