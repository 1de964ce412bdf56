use Rattle.std.proofs.Common.{◌<◌, ◌^◌, refl, rules, lit<}
use Rattle.std.proofs.lemmas.List.Elements.{All-replicate}
use Rattle.test_guests.proofs.harts.regs_at.Goals as goal

pub returns : goal.returns
returns c = record {
  pc = search rules;
  registers = (refl, All-replicate (λ value. value < 2 ^ 32) 32 0 (lit< tt));
  zero = refl;
}
