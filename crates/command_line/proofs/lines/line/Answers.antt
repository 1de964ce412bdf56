use Rattle.std.proofs.Common.{map}
use Rattle.command_line.proofs.Words.{command_name}
use Rattle.command_line.proofs.lines.line.Goals as goal

pub request_of-requires : goal.request_of-requires
request_of-requires g c =
    let words = map g.S.AsStr.text c.args.words.now in
    command_name words c.in-Ok.matches c.in-Some.command.0.now c.in-Ok.ensures.found c.in-Some.ensures.name
