use Rattle.std.proofs.Common.{◌≡◌, ◌++◌, ◌∷◌, [], refl, rules}
use Rattle.std.specs.Borrow.{Bor}
use Rattle.clap.specs.Words.{Text}
use Rattle.command_line.specs.Values.{IsMemoryRange}
use Rattle.command_line.proofs.Texts.{next, one_of_all}
use Rattle.command_line.proofs.memory.ranges_in.Goals as goal

abbrev text_of : Bor Text → Text
text_of s = s.now

pub returns-in-None : goal.returns-in-None
returns-in-None c = record {
  found = tt;
  none = λ ranges all.
      let found = one_of_all text_of IsMemoryRange c.args.texts.now ranges c.loop-text.text-index (record { ref_ptr = (0, 0); now = [] })
      (search rules) all in
      c.in-None.ensures.none refl found.0 found.1;
}

pub loop-text-preserved : goal.loop-text-preserved
loop-text-preserved c =
    let pushed : c.push.new.self.items ≡ c.loop-text.ranges.items ++ c.in-Some.range ∷ [] = search rules in
    rw pushed (next text_of IsMemoryRange c.args.texts.now c.loop-text.ranges.items c.loop-text.text-index
    (record { ref_ptr = (0, 0); now = [] }) c.in-Some.range
    (search rules) c.loop-text.invariant c.in-Some.ensures.some)
