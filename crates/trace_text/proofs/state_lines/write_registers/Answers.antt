use Rattle.std.proofs.Common.{◌*◌, true, refl, rules, sym}
use Rattle.std.proofs.lemmas.Grind.{put_two}
use Rattle.trace_text.specs.States.{registers_line, registers_lines}
use Rattle.trace_text.proofs.StateTexts.{registers_more, registers_none}
use Rattle.trace_text.proofs.state_lines.write_registers.Goals as goal

pub loop-line-init : goal.loop-line-init
loop-line-init g c = rw (registers_none c.args.regs.now) (search rules)

pub loop-line-preserved : goal.loop-line-preserved
loop-line-preserved g c plain =
    let regs = c.args.regs.now in
    let line = c.loop-line.line in
    let so_far = c.loop-line.invariant plain in
    put_two g.W.Write.write_str_gives _ _ _ (registers_lines line regs) (registers_line regs (4 * line)) _
    so_far (c.in_ok-write_registers_line.ensures so_far.plain (refl {a = true})) (sym (registers_more regs line))
