use Rattle.std.specs.List.{AllByRecursion}
use Rattle.std.specs.Vec.Iter.{into_iter_items}
use Rattle.rrv_model.specs.RecordText.{HasPartText}
use Rattle.rates.proofs.snapshots.text_len.Given as goal

abbrev pub invariant-loop-part : goal.invariant-loop-part
invariant-loop-part l = AllByRecursion HasPartText (into_iter_items l.part-iterator)
