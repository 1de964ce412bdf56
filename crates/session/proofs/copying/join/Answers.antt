use Rattle.std.proofs.Common.{◌<◌, rules}
use Rattle.elf_load.proofs.Accepted.{accepted, file_limit}
use Rattle.std.proofs.lemmas.List.Elements.{All-from_get_or}
use Rattle.session.proofs.copying.join.Goals as goal

pub returns-clause-text : goal.returns-clause-text
returns-clause-text c = rw (c.from_vec.ensures, c.from_vec-2.ensures) (record {
  elf = file_limit c.args.elf.items (accepted c.args.elf.items c.requires.accepted);
  elf_bytes = search rules;
  name = c.requires.name;
  random = search rules;
  random_bytes = All-from_get_or (λ b. b < 256) c.args.random.now 0 (λ i below. c.fits-random i);
})
