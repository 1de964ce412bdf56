-- What is printed of the end of a verified recording.
use Rattle.std.specs.Prelude.{ℕ, Bool, true, false, List, ◌++◌}
use Rattle.rrv_model.specs.State.{State}
use Rattle.end_text.specs.Ends.{end_lines}
use Rattle.trace_text.specs.Lines.{verify_line}
use Rattle.line_io.specs.Printed.{with_newline}

-- how a recording ends, and, if more is asked for, how its guest did
abbrev pub end_told : Bool → (len total last : ℕ) → State → List ℕ
end_told false len total last s = with_newline (verify_line len total s.ended)
end_told true len total last s = with_newline (verify_line len total s.ended) ++ end_lines total last s
