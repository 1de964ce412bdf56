use Rattle.copying.proofs.Numbered.{copied_are, others_are, recording_again}
use Rattle.copying.proofs.law.copies_are_told_apart.Goals as goal

pub returns : goal.returns
returns c = record {
  copied = λ marked earlier copied number below are. copied_are earlier copied number below are;
  others = λ marked earlier copied number guest other are. others_are earlier copied number guest other are;
  recording = recording_again;
}
