use Rattle.std.proofs.Common.{rules}
use Rattle.rrv_model.proofs.Names.{graphic_each, graphic_all}
use Rattle.rrv_model.proofs.name.is_name.Goals as goal

pub returns : goal.returns
returns c = (
  λ is. (search rules, search rules, graphic_each c.args.name.now (search rules)),
  λ is. search (rules, graphic_all),
)
