use Rattle.std.proofs.Common.{◌≡◌, ◌++◌, take}
use Rattle.std.specs.Prelude.{flat_map}
use Rattle.guest_threads.specs.ThreadParts.{entries_of}
use Rattle.core_file.specs.Notes.{first_note}
use Rattle.core_file.proofs.notes.put_first_note.Given as goal

abbrev pub invariant-loop-part : goal.invariant-loop-part
invariant-loop-part l =
    l.out.items ≡ l.fn.out.items ++ flat_map (first_note l.first) (entries_of (take l.part-index l.parts))
