use Rattle.std.proofs.Common.{◌≡◌, ◌∙◌, true, take, subst, arith, refl}
use Rattle.std.specs.List.{All}
use Rattle.std.proofs.lemmas.List.{take_all}
use Rattle.std.proofs.lemmas.List.Elements.{All-nil, All-more, All-weaker}
use Rattle.page_tables.specs.declared.new_pages.NewPage.{NewPage}
use Rattle.page_tables.specs.Table.{has_leaf}
use Rattle.page_tables.proofs.PlacedPages.{on_ok}
use Rattle.page_tables.proofs.Tables.{extends_more}
use Rattle.page_tables.proofs.new_pages.make_room_for.Goals as goal

pub loop-page-init : goal.loop-page-init
loop-page-init c =
    record {
      extends = record { same = record { at = λ n. refl }; kept = λ n was. was };
      room = All-nil (λ p. has_leaf c.args.table.now p.number ≡ true);
    }

pub loop-page-preserved : goal.loop-page-preserved
loop-page-preserved c =
    let i = c.loop-page.invariant in
    let m = c.make_room.ensures in
    let pages = c.args.pages.now in
    record {
      extends = extends_more i.extends m.extends;
      room = All-more (λ p. has_leaf c.make_room.new.self p.number ≡ true) pages c.loop-page.page-index c.page-item.result
          (omega (arith, c.loop-page-test.true))
          (All-weaker (λ p. has_leaf c.loop-page.table p.number ≡ true) (λ p. has_leaf c.make_room.new.self p.number ≡ true)
          (λ p e. m.extends.kept p.number e) (take c.loop-page.page-index pages) i.room)
          (subst (λ (p : NewPage). has_leaf c.make_room.new.self p.number ≡ true) c.page-item.is c.in_ok-make_room.ensures.room);
    }

pub returns-in_err-make_room-clause-extends : goal.returns-in_err-make_room-clause-extends
returns-in_err-make_room-clause-extends c = extends_more c.loop-page.invariant.extends c.make_room.ensures.extends

pub returns-clause-leaves : goal.returns-clause-leaves
returns-clause-leaves c =
    let pages = c.args.pages.now in
    on_ok _ _ (subst (All (λ p. has_leaf c.loop-page.table p.number ≡ true))
    (take_all c.loop-page.page-index pages (omega (arith, c.loop-page-test.false))) c.loop-page.invariant.room)
