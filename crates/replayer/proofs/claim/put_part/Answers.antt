use Rattle.std.proofs.Common.{rules, ◌≡◌, List, true, Option, Some, None, subst}
use Rattle.std.specs.Option.{is_some}
use Rattle.rrv_model.specs.declared.record.CheckpointRest.{CheckpointRest}
use Rattle.rrv_model.specs.declared.record.Part.{Part}
use Rattle.rrv_model.specs.Checkpoint.{Describes}
use Rattle.rrv_model.specs.Recording.{PartFits, base_after}
use Rattle.rrv_model.specs.State.{State}
use Rattle.replayer.proofs.Described.{one_described}
use Rattle.replayer.proofs.claim.put_part.Goals as goal

-- what the row describes is what the last part fits
put_base : (rest : Option CheckpointRest) (base new s : State) (parts read : List Part) → is_some rest ≡ true → read ≡ parts →
    Describes base read new → PartFits rest base parts s → new ≡ base_after rest base s
put_base None base new s parts read some is found fits = cc
put_base (Some r) base new s parts read some is found fits =
    one_described base new s parts (subst (λ (ps : List Part). Describes base ps new) is found) fits

pub returns-clause-base : goal.returns-clause-base
returns-clause-base c =
    λ s fits. put_base c.args.part.now.rest _ _ s _ _ c.if-is_none.ensures (search rules) c.in-Ok-put_parts.ensures.put fits
