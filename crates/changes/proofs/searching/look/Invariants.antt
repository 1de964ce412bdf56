use Rattle.std.proofs.Common.{◌≡◌, ℕ, ◌+◌, ◌<◌, None, length, get_or}
use Rattle.reverse_step.specs.Changes.{IsLastChange}
use Rattle.changes.specs.Changes.{AreKnown}
use Rattle.changes.proofs.searching.look.Given as goal

abbrev pub invariant-loop-k : goal.invariant-loop-k
invariant-loop-k g l =
    let v = l.fn.cursor.verified in
    record {
      same : l.cursor.verified ≡ v;
      count : length l.lasts ≡ l.watched.count;
      known : AreKnown v.opening v.frames l.watched.address l.place l.lasts;
      done : (j : ℕ) → j < l.k → IsLastChange v.opening v.frames (l.watched.address + j) l.place (get_or l.lasts j None);
    }
