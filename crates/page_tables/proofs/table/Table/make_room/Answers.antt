use Rattle.std.proofs.Common.{◌≡◌, ◌∙◌, ℕ, ◌/◌, ◌<◌, length, length-set, set, replicate, refl, ap, sym, arith}
use Rattle.page_tables.specs.declared.table.TheConstants.{NO_PAGE}
use Rattle.page_tables.specs.Directory.{AreThere}
use Rattle.page_tables.proofs.Tables.{alike, alike_room, few, length-push, there_more, apart_more, count_more, none_here, fresh, fresh_room, fresh_here, blank}
use Rattle.page_tables.proofs.table.Table.make_room.Goals as goal

pub returns-in_err-push-clause-extends : goal.returns-in_err-push-clause-extends
returns-in_err-push-clause-extends c =
    record {
      same = alike c.args.self.now _ refl c.in_err-push.ensures.items;
      kept = λ q was. alike_room c.args.self.now _ refl c.in_err-push.ensures.items q ∙ was;
    }

pub invariant_of-self-2 : goal.invariant_of-self-2
invariant_of-self-2 c =
    let t = c.args.self.now in
    let row = c.args.number / 1024 in
    let place = c.len-place.result in
    let last : place ≡ length t.leaves.items = omega (arith, c.len-place.ensures, t.leaves.ok) in
    let reaches : row < length t.directory = omega (arith, t.rows, c.requires) in
    let there : AreThere t.directory place = λ q some. omega (arith, last, t.there q some) in
    let none = none_here t c.args.number (sym c.has_leaf.ensures ∙ c.if-has_leaf.false) in
    let longer = ap length c.in_ok-push.ensures.items ∙ length-push t.leaves.items (replicate 1024 NO_PAGE) in
    record {
      rows = length-set t.directory row place ∙ t.rows;
      there = λ q some. omega (arith, last, longer, there_more t.directory place row reaches there q some);
      apart = apart_more t.directory place row reaches there t.apart;
      whole = omega (
        arith,
        last,
        longer,
        t.whole,
        count_more t.directory place row reaches there none (λ e. absurd (omega (arith, e, last, few t))),
      );
    }

pub returns-clause-extends : goal.returns-clause-extends
returns-clause-extends c =
    let t = c.args.self.now in
    let n = c.args.number in
    let leaf = replicate 1024 NO_PAGE in
    let last : c.len-place.result ≡ length t.leaves.items = omega (arith, c.len-place.ensures, t.leaves.ok) in
    let rows = ap (λ (i : ℕ). set t.directory (n / 1024) i) last in
    let low : n / 1024 < 1024 = omega (arith, c.requires) in
    let none = sym c.has_leaf.ensures ∙ c.if-has_leaf.false in
    record {
      same = record { at = fresh t _ n leaf none low rows c.in_ok-push.ensures.items (blank 1024) };
      kept = fresh_room t _ n leaf none low rows c.in_ok-push.ensures.items;
    }

pub returns-clause-room : goal.returns-clause-room
returns-clause-room c =
    let t = c.args.self.now in
    let n = c.args.number in
    let last : c.len-place.result ≡ length t.leaves.items = omega (arith, c.len-place.ensures, t.leaves.ok) in
    let rows = ap (λ (i : ℕ). set t.directory (n / 1024) i) last in
    fresh_here t _ n (replicate 1024 NO_PAGE) (sym c.has_leaf.ensures ∙ c.if-has_leaf.false) (omega (arith, c.requires)) rows
    c.in_ok-push.ensures.items
