use Rattle.std.proofs.Common.{arith, ◌<◌, ◌^◌}
use Rattle.std.proofs.lemmas.List.Elements.{All-from_get_or}
use Rattle.guest_threads.proofs.parts.are_words.Goals as goal

pub returns : goal.returns
returns c = All-from_get_or (λ value. value < 2 ^ 32) c.args.words.now 0 (λ i below. let fits = c.type_inv.words i in omega (arith, fits))
