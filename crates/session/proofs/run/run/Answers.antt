use Rattle.std.proofs.Common.{rules}
use denote.Param.Send.{arg_send, param_send}
use denote.Exit.{no}
use Rattle.session.proofs.run.run.Goals as goal

pub scoped-requires : goal.scoped-requires
scoped-requires g c = record {
  at = λ a. (
    (search rules, search rules, c.requires),
    (
      param_send 1 _ (arg_send _ no _ c.type_bounds.send-C),
      param_send 2 _ (arg_send _ no _ c.type_bounds.send-O),
      param_send 3 _ (arg_send _ no _ c.type_bounds.send-S),
      search rules,
      search rules,
    ),
  );
}
