use Rattle.std.proofs.Common.{append_assoc}
use Rattle.std.proofs.lemmas.Result.{IfOk-equal}
use Rattle.core_file.specs.Notes.{prstatus}
use Rattle.core_file.proofs.notes.put_prstatus.Goals as goal

pub returns : goal.returns
unfolding prstatus
returns c =
    IfOk-equal c.put_zeros-3.result _ _ _ c.put_zeros-3.ensures
    (rw (
      c.in_ok-put_numbers.ensures,
      c.in_ok-put_number-2.ensures,
      c.in_ok-put_zeros-2.ensures,
      c.in_ok-put_number.ensures,
      c.in_ok-put_zeros.ensures,
      c.split_at.ensures.back,
    ) (simp append_assoc))
