use Rattle.std.proofs.Common.{List, sym}
use Rattle.rrv_model.specs.declared.record.Record.{Record}
use Rattle.rrv_model.specs.Recording.{items_of}
use Rattle.replayer.specs.Kept.{IsKeptOf}
use Rattle.replayer.specs.Keepers.{IsKept}
use Rattle.replayer.specs.declared.recording.Keeper.{Keeper}
use Rattle.replayer.proofs.Kept.{kept_of_items}
use Rattle.replayer.proofs.Sourced.{kept_records}
use Rattle.replayer.proofs.recording.Keeper.finish.Goals as goal

kept_of : (keeper : Keeper) (records : List Record) → IsKept keeper records →
    IsKeptOf (items_of records) keeper.opening keeper.frames.items keeper.marks.items
kept_of keeper records h =
    kept_of_items (items_of records) keeper.opening keeper.row.items keeper.frames.items keeper.marks.items keeper.steps h.opening h.keeps

pub invariant_of-result : goal.invariant_of-result
invariant_of-result c =
    let there = c.requires in
    let all = kept_of c.args.self there.0 there.2 in
    let len = there.2.len in (
      there.0,
      record {
        recording = there.1;
        kept = rw (c.from_vec.ensures, c.from_vec-2.ensures, c.into_parts-opening.ensures) all;
        len_is = rw c.into_parts-opening.ensures len;
      },
    )

pub returns : goal.returns
returns c = λ records recording kept.
    rw (c.from_vec.ensures, c.from_vec-2.ensures, c.into_parts-opening.ensures)
    (kept_records records c.args.self.opening c.args.self.frames.items c.args.self.marks.items c.args.self.len (sym kept.len) recording
    (kept_of c.args.self records kept))
