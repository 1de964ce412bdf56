-- Arguments, as the parser of the kit reads words by them.
use Rattle.std.specs.Prelude.{◌≡◌, ℕ, [], ◌∷◌, Some, false, map, true}
use Rattle.std.specs.List.{fold}
use Rattle.clap.specs.declared.builder.action.ArgAction.TheVariants.{Append, Set, SetTrue}
use Rattle.clap.specs.declared.builder.arg.Arg.{Arg}
use Rattle.clap.specs.declared.builder.command.Command.{Command}
use Rattle.clap.specs.declared.builder.command.Command.TheViews.{out-Command}
use Rattle.clap.specs.Words.{App, Rule, Shape, Text, app_of, new_app, new_rule, rule_of, with_rule}
use Rattle.command_line.specs.declared.arguments.Argument.{Argument}
use Rattle.command_line.specs.declared.arguments.Argument.TheVariants as arguments
use Rattle.command_line.specs.declared.arguments.Subcommand.{Subcommand}

-- a value that has to be there
abbrev pub needed : Text → Rule
needed name = record (new_rule name) { required = true; action = Some Set }

-- a value that may be left out
abbrev pub allowed : Text → Rule
allowed name = record (new_rule name) { action = Some Set }

-- values of which there are so many
abbrev pub several : (least most : ℕ) → Text → Rule
several least most name = record (new_rule name) {
  required = true;
  range = Some (record { start_inclusive = least; end_inclusive = most });
  action = Some Append;
}

-- an option with a value
abbrev pub option : Text → Rule
option name = record (new_rule name) { long = Some name; value_names = 1; action = Some Set }

-- an option with a value, which is this one where the option isn't there
abbrev pub option_or : Text → Text → Rule
option_or name value = record (option name) { defaults = value ∷ [] }

-- an option with a value, which may be given several times
abbrev pub repeated : Text → Rule
repeated name = record (option name) { action = Some Append }

-- an option without a value
abbrev pub flag : Text → Rule
flag name = record (new_rule name) { long = Some name; action = Some SetTrue }

-- ---- those of a table

abbrev pub rule_in : Argument → Rule
rule_in (arguments.Needed name help) = needed name.now
rule_in (arguments.Allowed name help) = allowed name.now
rule_in (arguments.Several name help) = several 1 16 name.now
rule_in (arguments.Optional name value help) = option name.now
rule_in (arguments.Defaulted name value default help) = option_or name.now default.now
rule_in (arguments.Repeated name value help) = repeated name.now
rule_in (arguments.Flag name help) = flag name.now

abbrev pub app_in : Subcommand → App
app_in subcommand = fold with_rule (new_app subcommand.name.now) (map rule_in subcommand.arguments.now)

abbrev pub shape_in : Subcommand → Shape
shape_in subcommand = (app_in subcommand).top

-- the parser reads words by this, which doesn't count for subcommands
abbrev pub IsArgument : Rule → Arg → Type 0
IsArgument rule argument = (rule_of argument ≡ rule) × (argument.global ≡ false)

-- so of a command, which has no argument that counts for its subcommands too
abbrev pub IsCommand : App → Command → Type 0
IsCommand app command = (app_of command ≡ app) × ((out-Command command).has_globals ≡ false)
