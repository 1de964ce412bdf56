use Rattle.std.proofs.Common.{◌≡◌, ◌∙◌, ◌+◌, ◌∷◌, ◌<◌, [], Some, true, length, ap, arith, length-append}
use Rattle.std.proofs.lemmas.List.Elements.{All-pop, All-weaker}
use Rattle.page_tables.specs.Table.{has_leaf}
use Rattle.page_tables.specs.NewPages.{new_value, IsCopy}
use Rattle.page_tables.specs.Sharing.{contents_in}
use Rattle.page_tables.proofs.Laws.{counted_there}
use Rattle.page_tables.proofs.NewPages.{no_step, one_step, one_comes, none_left, all_steps}
use Rattle.page_tables.proofs.new_pages.install_all.Goals as goal

pub loop-page-init : goal.loop-page-init
loop-page-init c = record {
  shared = c.requires.shared;
  roomy = c.requires.roomy;
  low = c.requires.low;
  leaves = c.requires.leaves;
  owned = λ numbers copies. (copies, no_step numbers (contents_in c.args.pool.now c.args.table.now c.args.kept.now.items));
}

pub loop-page-preserved : goal.loop-page-preserved
loop-page-preserved c =
    let i = c.loop-page.invariant in
    let is = c.in-Some.ensures.items in
    let rest = c.pop.new.self.items in
    let x = c.in-Some.page in
    let before = contents_in c.loop-page.pool c.loop-page.table c.args.kept.now.items in
    let after = contents_in c.install.new.pool c.install.new.table c.args.kept.now.items in
    let p = c.install.ensures in
    let sizes : length c.loop-page.pages.items ≡ length rest + 1 = ap length is ∙ length-append rest (x ∷ []) in
    let low = All-pop (λ q. q.number < 0x80000) c.loop-page.pages.items rest (Some x) is i.low in
    let leaves = All-pop (λ q. has_leaf c.loop-page.table q.number ≡ true) c.loop-page.pages.items rest (Some x) is i.leaves in
    record {
      shared = p.shared;
      roomy = record { room = omega (arith, i.roomy.room, sizes, p.len, p.room); small = omega (arith, i.roomy.small, p.room) };
      low = low.0;
      leaves = All-weaker (λ q. has_leaf c.loop-page.table q.number ≡ true) (λ q. has_leaf c.install.new.table q.number ≡ true)
          (λ q e. p.leaves q.number ∙ e) rest leaves.0;
      owned = λ numbers copies.
          let o = i.owned numbers copies in
          let each = All-pop (IsCopy numbers before.pages) c.loop-page.pages.items rest (Some x) is o.0.each in (
            one_comes numbers before after c.loop-page.pages.items rest x is o.0 p.placed,
            one_step numbers x.number (new_value x) (contents_in c.args.pool.now c.args.table.now c.args.kept.now.items) before after o.1
                p.placed each.1.value each.1.listed low.1,
          );
    }

pub returns-clause-owned : goal.returns-clause-owned
returns-clause-owned c = λ numbers copies.
    let i = c.loop-page.invariant in
    let o = i.owned numbers copies in
    let empty : length c.loop-page.pages.items ≡ 0 = omega (arith, c.in_default.ensures.cases) in
    all_steps numbers _ (contents_in c.loop-page.pool c.loop-page.table c.args.kept.now.items) o.1
    (none_left numbers _ _ c.loop-page.pages.items empty o.0)
    (counted_there c.loop-page.pool c.loop-page.table c.args.kept.now.items)
