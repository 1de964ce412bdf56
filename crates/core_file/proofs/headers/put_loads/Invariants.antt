use Rattle.std.proofs.Common.{◌≡◌, ◌++◌, take}
use Rattle.std.specs.Prelude.{flat_map}
use Rattle.core_file.specs.Headers.{header_text}
use Rattle.core_file.specs.Core.{load_header}
use Rattle.core_file.proofs.headers.put_loads.Given as goal

abbrev pub invariant-loop-run : goal.invariant-loop-run
invariant-loop-run l =
    l.out.items ≡ l.fn.out.items ++ flat_map (λ r. header_text (load_header l.pages_at r)) (take l.run-index l.runs)
