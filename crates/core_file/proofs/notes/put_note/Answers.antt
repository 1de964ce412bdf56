use Rattle.std.proofs.Common.{append_assoc}
use Rattle.std.proofs.lemmas.Result.{IfOk-equal}
use Rattle.core_file.specs.Notes.{note}
use Rattle.core_file.proofs.notes.put_note.Goals as goal

pub returns : goal.returns
unfolding note
returns c =
    IfOk-equal c.put_prstatus.result _ _ _ c.put_prstatus.ensures
    (rw (c.in_ok-extend_from_slice.ensures.items, c.in_ok-put_number-3.ensures, c.in_ok-put_number-2.ensures, c.in_ok-put_number.ensures)
    (simp append_assoc))
