use Rattle.std.proofs.Common.{◌∙◌, ◌^◌, All, List, ap, reverse, subst, sym, arith}
use Rattle.std.proofs.lemmas.List.{reverse-reverse}
use Rattle.guest_pages.specs.Space.{memory_of}
use Rattle.core_file.specs.declared.runs.Run.{Run}
use Rattle.core_file.specs.Runs.{runs_below, with_page, Fits}
use Rattle.core_file.proofs.RunRules.{all_fit, runs_end, runs_next, runs_none}
use Rattle.core_file.proofs.runs.collect_runs.Goals as goal

pub loop-number-init : goal.loop-number-init
loop-number-init c = record {
  low = omega arith;
  runs = c.new-runs.ensures.items ∙ ap (λ (rs : List Run). reverse rs) (sym (runs_none (memory_of c.args.space.now)));
}

pub add_page-requires : goal.add_page-requires
add_page-requires c =
    subst (λ (rs : List Run). All Fits rs) (sym c.loop-number.invariant.runs)
    (all_fit c.loop-number.least (memory_of c.args.space.now) (omega (arith, c.loop-number.invariant.low))
    c.page_count.ensures.is_memory.limit)

pub loop-number-preserved : goal.loop-number-preserved
loop-number-preserved c =
    let m = memory_of c.args.space.now in
    let n = c.in-Some.number in
    let flags = c.flags_of-flags.result in
    let blank = c.is_blank-is_blank.result in
    let next = runs_next m c.loop-number.least n c.in-Some.page c.in-Some.ensures.0 c.is_blank-is_blank.ensures.full
    c.in-Some.ensures.1 in
    let low = c.in-Some.ensures.0.1 in record {
      low = omega (arith, low);
      runs = c.in_ok-add_page.ensures
          ∙ ap (λ (rs : List Run). reverse (with_page n flags blank rs))
          (ap (λ (rs : List Run). reverse rs) c.loop-number.invariant.runs ∙ reverse-reverse (runs_below c.loop-number.least m))
          ∙ rw (c.flags_of-flags.ensures, c.is_blank-is_blank.ensures.blank) (ap (λ (rs : List Run). reverse rs) (sym next));
    }

pub returns : goal.returns
returns c =
    let m = memory_of c.args.space.now in
    let least = c.loop-number.least in
    c.loop-number.invariant.runs
    ∙ ap (λ (rs : List Run). reverse rs)
    (sym (runs_end m least (2 ^ 20) c.in_default.ensures (omega (arith, c.loop-number.invariant.low))))
