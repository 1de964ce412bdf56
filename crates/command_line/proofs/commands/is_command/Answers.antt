use Rattle.std.proofs.Common.{◌≡◌, ◌∙◌, Bool, ap, refl, rules, sym, tests}
use Rattle.std.specs.List.{list_any}
use Rattle.std.specs.Str.{bytes_eq}
use Rattle.std.proofs.lemmas.Iterator.{YieldsList-from_slice}
use Rattle.std.proofs.lemmas.Iterator.Search.{any_from_yields_List}
use Rattle.command_line.specs.Commands.{commands}
use Rattle.command_line.specs.declared.arguments.Subcommand.{Subcommand}
use Rattle.command_line.proofs.Words.{has_name, passed, tested}
use Rattle.command_line.proofs.commands.is_command.Goals as goal

pub returns : goal.returns
returns c =
    let name = c.args.name.now in
    let test : Subcommand → Bool = λ s. bytes_eq s.name.now name in
    let is : c.any.result ≡ list_any test c.iter.result.rest.now =
    any_from_yields_List {all = c.iter.result.rest.now} test _ _ c.any.result c.any.ensures.ran (YieldsList-from_slice _ refl)
    (λ x b q k. search (rules, tests)) in
    let named : c.any.result ≡ has_name name commands = is ∙ ap (list_any test) c.iter.ensures.rest in
    (λ yes. tested name commands (sym named ∙ yes), λ known. named ∙ passed name commands known)
