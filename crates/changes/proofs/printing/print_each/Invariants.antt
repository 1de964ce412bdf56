use Rattle.std.proofs.Common.{◌≡◌, ◌≤◌, length}
use Rattle.rrv_model.specs.StateAt.{total}
use Rattle.changes.specs.Changes.{AreKnown}
use Rattle.changes.proofs.Runs.{SoFar}
use Rattle.changes.proofs.printing.print_each.Given as goal

abbrev pub invariant-loop-count : goal.invariant-loop-count
invariant-loop-count g l =
    let v = l.fn.cursor.verified in
    record {
      same : l.cursor.verified ≡ v;
      within : l.place ≤ total v.frames;
      length_is : length l.lasts ≡ l.shown.watched.count;
      known : AreKnown v.opening v.frames l.shown.watched.address l.place l.lasts;
      so_far : SoFar v l.shown l.fn.cursor.place l.place l.count (g.W.Write.contents l.fn.out) (g.W.Write.contents l.out);
    }
