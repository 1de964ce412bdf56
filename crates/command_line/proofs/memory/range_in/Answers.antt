use Rattle.std.proofs.Common.{◌≡◌, ◌==◌, rules}
use Rattle.std.specs.List.{after_first}
use Rattle.command_line.specs.Values.{IsNumberIn}
use Rattle.command_line.proofs.memory.range_in.Goals as goal

pub returns-in_err-length-clause-none : goal.returns-in_err-length-clause-none
returns-in_err-length-clause-none c = λ none range is.
    let behind : c.in_ok-address.length.now ≡ after_first (λ b. b == 58) c.args.text.now = search rules in
    let number : IsNumberIn 1 65536 c.in_ok-address.length.now range.length = rw behind is.length_is in
    c.in_err-length.ensures.none (search rules) range.length number
