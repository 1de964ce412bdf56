-- What the parser makes of words.
use Rattle.std.proofs.Common.{◌≡◌, ◌||◌, inl, inr, Bool, cond, true, false, List, [], ◌∷◌, Option, Some, None, ap, refl, sym, subst, true≢false}
use Rattle.std.specs.Prelude.{Box, IfSome, codes, find, option_map}
use Rattle.std.specs.List.{list_any}
use Rattle.std.specs.Str.{bytes_eq}
use Rattle.std.specs.Box.{box_value}
use Rattle.std.proofs.lemmas.Option.{IfSome_then, none-some, same_Some}
use Rattle.std.proofs.lemmas.Slice.Eq.{bytes_eq-Decides}
use Rattle.clap.specs.Simple.{argument_words, built, entered, label_of, names_of, rows_at}
use Rattle.clap.specs.Walk.{answers_to, stop_after}
use Rattle.clap.specs.Words.{App, Shape, Text, fault_of, is_simple, is_simple_and_free, subcommand_name_of, subcommand_of, subcommand_rows, subcommand_rows_of}
use Rattle.clap.specs.declared.error.kind.ErrorKind.TheVariants as kinds
use Rattle.clap.specs.declared.parser.matches.ArgMatches.{ArgMatches}
use Rattle.clap.specs.declared.parser.matches.ArgMatches.TheViews.{out-ArgMatches, out-SubCommand}
use Rattle.clap.specs.declared.parser.matches.SubCommand.{SubCommand}
use Rattle.clap.proofs.OnLiterals.{clap_on_literals}
use Rattle.command_line.specs.Commands.{IsNameOf, commands, program}

pub simple_and_free : is_simple_and_free program ≡ true
unfolding clap_on_literals
simple_and_free = refl

pub simple : is_simple program ≡ true
unfolding clap_on_literals
simple = refl

-- ---- the commands that the parser finds

found_is_named : (test : Shape → Bool) (words : List Text) (subs : List Shape) →
    IfSome (option_map (λ s. rows_at s words) (find test subs)) (λ found. IsNameOf found.0 subs)
found_is_named test words [] = tt
found_is_named test words (sub ∷ subs) =
    by_test (test sub)
    (IfSome_then (option_map (λ s. rows_at s words) (find test subs)) (found_is_named test words subs) (λ found named. inr named))
  where
    by_test : (b : Bool) → IfSome (option_map (λ s. rows_at s words) (find test subs)) (λ found. IsNameOf found.0 (sub ∷ subs))
        → IfSome (option_map (λ s. rows_at s words) (cond b (Some sub) (find test subs))) (λ found. IsNameOf found.0 (sub ∷ subs))
    by_test true rest = inl refl
    by_test false rest = rest

entered_is_named : (app : App) (stop : Option (Text × List Text)) → IfSome (entered app stop) (λ found. IsNameOf found.0 app.subs)
entered_is_named app None = tt
entered_is_named app (Some p) = found_is_named (λ s. answers_to p.0 (label_of s)) p.1 app.subs

named : (words : List Text) → IfSome (subcommand_of program words) (λ found. IsNameOf found.0 (built program).subs)
named words =
    entered_is_named (built program) (stop_after (built program).top.rules (names_of (built program)) (argument_words program words))

module _ {Z : Type 0} where
  name_in : (found : Option (Box SubCommand Z)) (words : List Text) (name : Text) → subcommand_rows found ≡ subcommand_of program words
      → Some name ≡ option_map (λ sub. (out-SubCommand (box_value sub)).name.now) found → IsNameOf name (built program).subs
  name_in None words name rows is = absurd (none-some name (sym is))
  name_in (Some sub) words name rows is =
      subst (λ n. IsNameOf n (built program).subs) (sym (same_Some name _ is))
      (subst (λ o. IfSome o (λ f. IsNameOf f.0 (built program).subs)) (sym rows) (named words))

-- a command that was found has a name of the program's
pub command_name : (words : List Text) (m : ArgMatches) (name : Text) → subcommand_rows_of m ≡ subcommand_of program words
    → Some name ≡ subcommand_name_of m → IsNameOf name commands
command_name words m name rows is = name_in (out-ArgMatches m).subcommand words name rows is

-- ---- the test that a text is the name of one of some commands

abbrev pub has_name : Text → List Shape → Bool
has_name name subs = list_any (λ s. bytes_eq s.name name) subs

pub tested : (name : Text) (subs : List Shape) → has_name name subs ≡ true → IsNameOf name subs
tested name [] h = absurd (true≢false (sym h))
tested name (sub ∷ subs) h = by (bytes_eq sub.name name) refl (tested name subs) h
  where
    by : (b : Bool) → bytes_eq sub.name name ≡ b → (has_name name subs ≡ true → IsNameOf name subs) → (b || has_name name subs) ≡ true
        → IsNameOf name (sub ∷ subs)
    by true same later h = inl (sym ((bytes_eq-Decides sub.name name).0 same))
    by false same later h = inr (later h)

pub passed : (name : Text) (subs : List Shape) → IsNameOf name subs → has_name name subs ≡ true
passed name [] h = absurd h
passed name (sub ∷ subs) (inl is) = ap (λ b. b || has_name name subs) ((bytes_eq-Decides sub.name name).1 (sym is))
passed name (sub ∷ subs) (inr h) = by (bytes_eq sub.name name) (passed name subs h)
  where
    by : (b : Bool) → has_name name subs ≡ true → (b || has_name name subs) ≡ true
    by true later = refl
    by false later = later

-- ---- calls of help

abbrev pub help_at : Text → Type 0
help_at name = fault_of program (name ∷ codes "--help" ∷ []) ≡ kinds.DisplayHelp ∷ []

pub help_alone : fault_of program (codes "--help" ∷ []) ≡ kinds.DisplayHelp ∷ []
unfolding clap_on_literals
help_alone = refl

pub help_of : (name : Text) → IsNameOf name commands → help_at name
unfolding clap_on_literals
help_of name (inl is) = subst help_at (sym is) refl
help_of name (inr (inl is)) = subst help_at (sym is) refl
help_of name (inr (inr (inl is))) = subst help_at (sym is) refl
help_of name (inr (inr (inr (inl is)))) = subst help_at (sym is) refl
help_of name (inr (inr (inr (inr (inl is))))) = subst help_at (sym is) refl
help_of name (inr (inr (inr (inr (inr (inl is)))))) = subst help_at (sym is) refl
help_of name (inr (inr (inr (inr (inr (inr (inl is))))))) = subst help_at (sym is) refl
help_of name (inr (inr (inr (inr (inr (inr (inr (inl is)))))))) = subst help_at (sym is) refl
help_of name (inr (inr (inr (inr (inr (inr (inr (inr (inl is))))))))) = subst help_at (sym is) refl
help_of name (inr (inr (inr (inr (inr (inr (inr (inr (inr (inl is)))))))))) = subst help_at (sym is) refl
help_of name (inr (inr (inr (inr (inr (inr (inr (inr (inr (inr (inl is))))))))))) = subst help_at (sym is) refl
help_of name (inr (inr (inr (inr (inr (inr (inr (inr (inr (inr (inr (inl is)))))))))))) = subst help_at (sym is) refl
help_of name (inr (inr (inr (inr (inr (inr (inr (inr (inr (inr (inr (inr (inl is))))))))))))) = subst help_at (sym is) refl
help_of name (inr (inr (inr (inr (inr (inr (inr (inr (inr (inr (inr (inr (inr (inl is)))))))))))))) = subst help_at (sym is) refl
help_of name (inr (inr (inr (inr (inr (inr (inr (inr (inr (inr (inr (inr (inr (inr (inl is))))))))))))))) = subst help_at (sym is) refl
help_of name (inr (inr (inr (inr (inr (inr (inr (inr (inr (inr (inr (inr (inr (inr (inr h))))))))))))))) = absurd h
