use Rattle.std.proofs.Common.{refl}
use Rattle.rrv_model.proofs.Decoding.{decodes}
use Rattle.rrv_model.specs.WordReader.{read}
use Rattle.end_text.proofs.faulting.decoded.Goals as goal

pub returns : goal.returns
returns c =
    let w = c.args.word in
    c.one_answer.ensures w c.decode.result (read w) c.decode.ensures.decodes (decodes w (read w) refl)
