-- The word stands for the instruction, and has no other answer.
use Rattle.std.proofs.Common.{Some}
use Rattle.rv_decode.proofs.laws.decode_encoded.Goals as goal

pub returns : goal.returns
returns c = λ w i o stands decodes. c.one_answer.ensures w o (Some i) decodes stands
