use Rattle.std.proofs.Common.{◌≡◌, map, take}
use Rattle.std.specs.Prelude.{string_bytes}
use Rattle.escapes.specs.Escaped.{escaped}
use Rattle.command_line.proofs.lines.shown_words.Given as goal

abbrev pub invariant-loop-word : goal.invariant-loop-word
invariant-loop-word g l =
    map string_bytes l.shown.items ≡ map (λ word. escaped 200 (g.S.AsStr.text word)) (take l.word-index l.words)
