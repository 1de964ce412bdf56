use Rattle.std.proofs.Common.{◌<◌, ◌^◌, refl, rules, lit<}
use Rattle.std.proofs.lemmas.List.Elements.{All-replicate}
use Rattle.machine_cases.proofs.threads.thread_from.Goals as goal

pub returns-clause-fits : goal.returns-clause-fits
returns-clause-fits c = λ version. record {
  regs = record { pc = search rules; registers = (refl, All-replicate (λ value. value < 2 ^ 32) 32 0 (lit< tt)); zero = refl };
  waits = tt;
  clear = lit< tt;
}
