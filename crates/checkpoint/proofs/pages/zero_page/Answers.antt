use Rattle.std.proofs.lemmas.List.{get_or-replicate}
use Rattle.checkpoint.proofs.pages.zero_page.Goals as goal

pub returns : goal.returns
returns c k low = get_or-replicate 4096 k 0 0 low
