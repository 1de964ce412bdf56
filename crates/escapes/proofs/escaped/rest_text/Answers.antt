use Rattle.std.proofs.Common.{◌≡◌, ◌<◌, ◌≤◌, ℕ, Bool, List, [], ◌∷◌, ap, arith, chars, if◌then◌else◌, le-ltb, length, lt-ltb, sym}
use Rattle.std.proofs.lemmas.Iterator.{YieldsList-from_chars}
use Rattle.std.proofs.lemmas.Iterator.Consumers.{count_from_yields_List}
use Rattle.escapes.proofs.escaped.rest_text.Goals as goal

-- what stands for the rest, if there is one
abbrev points : Bool → List ℕ
points there = if there then 46 ∷ 46 ∷ [] else []

pub returns-then-most-count : goal.returns-then-most-count
returns-then-most-count c =
    let all = count_from_yields_List _ c.count.result c.count.ensures.ran (YieldsList-from_chars c.args.text.now c.utf8.text cc) in
    let more : c.args.most < length (chars c.args.text.now) = omega (arith, all, c.if-most-count.true) in
    ap points (sym (lt-ltb c.args.most (length (chars c.args.text.now)) more))

pub returns-else-most-count : goal.returns-else-most-count
returns-else-most-count c =
    let all = count_from_yields_List _ c.count.result c.count.ensures.ran (YieldsList-from_chars c.args.text.now c.utf8.text cc) in
    let none : length (chars c.args.text.now) ≤ c.args.most = omega (arith, all, c.if-most-count.false) in
    ap points (sym (le-ltb c.args.most (length (chars c.args.text.now)) none))
