use Rattle.std.proofs.Common.{◌≡◌, ◌∙◌, ℕ, List, arith, Some, None, true, false, ap, sym}
use Rattle.std.specs.List.{list_any}
use Rattle.std.proofs.lemmas.Result.{err_from_is_err_and}
use Rattle.rrv_model.specs.Elf.{refusal, headers, loads, is_interp}
use Rattle.elf_load.specs.Fault.{refusal_number}
use Rattle.elf_load.specs.Refusals.{has_memory, load_refusal}
use Rattle.elf_load.proofs.Refusal.{refused_by_header, refused_by_interp, refused_by_loads, past_loads, past_each}
use Rattle.elf_load.proofs.image.parse.Goals as goal

pub returns-in_err-file-clause-refused : goal.returns-in_err-file-clause-refused
returns-in_err-file-clause-refused c =
    let p = err_from_is_err_and c.from_residual.result c.from_residual.ensures.1 in
    rw (p.1, p.2) (λ _. refused_by_header c.args.elf.now _ c.in_err-file.ensures.refused)

pub returns-then-has_interp-clause-refused : goal.returns-then-has_interp-clause-refused
returns-then-has_interp-clause-refused c =
    let interp : list_any is_interp (headers c.args.elf.now) ≡ true = cc c.in_ok-file.ensures.file in
    λ _. refused_by_interp c.args.elf.now c.in_ok-file.ensures.passes interp

pub returns-in_err-check_loads-clause-refused : goal.returns-in_err-check_loads-clause-refused
returns-in_err-check_loads-clause-refused c =
    let p = err_from_is_err_and c.from_residual-in_err-check_loads.result c.from_residual-in_err-check_loads.ensures.1 in
    let interp : list_any is_interp (headers c.args.elf.now) ≡ false = cc c.in_ok-file.ensures.file in
    let load : load_refusal c.args.elf.now ≡ Some (refusal_number c.in_err-check_loads.field-0.0) =
    ap load_refusal (sym c.in_ok-file.ensures.file) ∙ c.in_err-check_loads.ensures.refused in
    rw (p.1, p.2) (λ _. refused_by_loads c.args.elf.now _ c.in_ok-file.ensures.passes interp load)

pub refusal_without_memory-requires : goal.refusal_without_memory-requires
refusal_without_memory-requires c =
    let tests : c.any_load.result ≡ list_any has_memory (loads c.args.elf.now) =
    c.any_load.ensures ∙ ap (λ (file : List ℕ). list_any has_memory (loads file)) c.in_ok-file.ensures.file in
    let none : c.any_load.result ≡ false = grind arith in
    sym tests ∙ none

pub returns-then-not-any_load-clause-refused : goal.returns-then-not-any_load-clause-refused
returns-then-not-any_load-clause-refused c =
    let interp : list_any is_interp (headers c.args.elf.now) ≡ false = cc c.in_ok-file.ensures.file in
    let load : load_refusal c.args.elf.now ≡ None = ap load_refusal (sym c.in_ok-file.ensures.file) ∙ c.in_ok-check_loads.ensures.passes in
    λ _. past_loads c.args.elf.now c.in_ok-file.ensures.passes interp load ∙ c.refusal_without_memory.ensures.refused

pub returns-in_err-check_limits-clause-refused : goal.returns-in_err-check_limits-clause-refused
returns-in_err-check_limits-clause-refused c =
    let p = err_from_is_err_and c.from_residual-in_err-check_limits.result c.from_residual-in_err-check_limits.ensures.1 in
    let interp : list_any is_interp (headers c.args.elf.now) ≡ false = cc c.in_ok-file.ensures.file in
    let load : load_refusal c.args.elf.now ≡ None = ap load_refusal (sym c.in_ok-file.ensures.file) ∙ c.in_ok-check_loads.ensures.passes in
    rw (p.1, p.2) (λ grown. past_loads c.args.elf.now c.in_ok-file.ensures.passes interp load ∙ c.in_err-check_limits.ensures.refused grown)

pub keep-requires-clause-accepted : goal.keep-requires-clause-accepted
keep-requires-clause-accepted c =
    let interp : list_any is_interp (headers c.args.elf.now) ≡ false = cc c.in_ok-file.ensures.file in
    let load : load_refusal c.args.elf.now ≡ None = ap load_refusal (sym c.in_ok-file.ensures.file) ∙ c.in_ok-check_loads.ensures.passes in
    ap refusal c.in_ok-file.ensures.file ∙ past_loads c.args.elf.now c.in_ok-file.ensures.passes interp load
    ∙ c.in_ok-check_limits.ensures.passes

pub returns-clause-accepted : goal.returns-clause-accepted
returns-clause-accepted c =
    let interp : list_any is_interp (headers c.args.elf.now) ≡ false = cc c.in_ok-file.ensures.file in
    let load : load_refusal c.args.elf.now ≡ None = ap load_refusal (sym c.in_ok-file.ensures.file) ∙ c.in_ok-check_loads.ensures.passes in
    past_loads c.args.elf.now c.in_ok-file.ensures.passes interp load ∙ c.in_ok-check_limits.ensures.passes

pub returns-in_err-file-clause-memory : goal.returns-in_err-file-clause-memory
returns-in_err-file-clause-memory c =
    let p = err_from_is_err_and c.from_residual.result c.from_residual.ensures.1 in
    λ memory. absurd (c.in_err-file.ensures.no_growth (cc (p.1, p.2)))

pub returns-in_err-file-clause-grows : goal.returns-in_err-file-clause-grows
returns-in_err-file-clause-grows c =
    let p = err_from_is_err_and c.from_residual.result c.from_residual.ensures.1 in
    λ memory. absurd (c.in_err-file.ensures.no_growth (cc (p.1, p.2)))

pub returns-in_err-check_loads-clause-memory : goal.returns-in_err-check_loads-clause-memory
returns-in_err-check_loads-clause-memory c =
    let p = err_from_is_err_and c.from_residual-in_err-check_loads.result c.from_residual-in_err-check_loads.ensures.1 in
    λ memory. absurd (c.in_err-check_loads.ensures.no_growth (cc (p.1, p.2)))

pub returns-in_err-check_loads-clause-grows : goal.returns-in_err-check_loads-clause-grows
returns-in_err-check_loads-clause-grows c =
    let p = err_from_is_err_and c.from_residual-in_err-check_loads.result c.from_residual-in_err-check_loads.ensures.1 in
    λ memory. absurd (c.in_err-check_loads.ensures.no_growth (cc (p.1, p.2)))

pub returns-in_err-loads-clause-memory : goal.returns-in_err-loads-clause-memory
returns-in_err-loads-clause-memory c =
    let interp : list_any is_interp (headers c.args.elf.now) ≡ false = cc c.in_ok-file.ensures.file in
    let load : load_refusal c.args.elf.now ≡ None = ap load_refusal (sym c.in_ok-file.ensures.file) ∙ c.in_ok-check_loads.ensures.passes in
    λ _. past_each c.args.elf.now c.in_ok-file.ensures.passes interp load

pub returns-in_err-check_limits-clause-memory : goal.returns-in_err-check_limits-clause-memory
returns-in_err-check_limits-clause-memory c =
    let interp : list_any is_interp (headers c.args.elf.now) ≡ false = cc c.in_ok-file.ensures.file in
    let load : load_refusal c.args.elf.now ≡ None = ap load_refusal (sym c.in_ok-file.ensures.file) ∙ c.in_ok-check_loads.ensures.passes in
    λ _. past_each c.args.elf.now c.in_ok-file.ensures.passes interp load

pub returns-in_err-keep-clause-memory : goal.returns-in_err-keep-clause-memory
returns-in_err-keep-clause-memory c =
    let interp : list_any is_interp (headers c.args.elf.now) ≡ false = cc c.in_ok-file.ensures.file in
    let load : load_refusal c.args.elf.now ≡ None = ap load_refusal (sym c.in_ok-file.ensures.file) ∙ c.in_ok-check_loads.ensures.passes in
    λ _. past_each c.args.elf.now c.in_ok-file.ensures.passes interp load
