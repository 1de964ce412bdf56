use Rattle.order.proofs.Found.{found_race}
use Rattle.order.proofs.laws.found_are_races.Goals as goal

pub returns : goal.returns
returns c = λ declared chain run n b e chains h. found_race declared chain run chains n b e h
