use Rattle.std.proofs.Common.{◌≡◌, ◌∙◌, ℕ, ◌+◌, ◌-◌, ◌/◌, IsSome, List, true, sym, ap, subst, arith}
use Rattle.page_tables.specs.Contents.{contents_of}
use Rattle.page_tables.specs.Changes.{is_listed, AreOwned}
use Rattle.guest_pages.specs.Live.{added_across, added_in, live_of, pages_across}
use Rattle.guest_pages.specs.Space.{SpaceValue, PageMap, memory_of, memory_in, present}
use Rattle.guest_pages.proofs.Live.{listed_adds, some_across}
use Rattle.guest_pages.proofs.OwnPages.{owned_same, owned_space, all_own_in, in_range, low_page}
use Rattle.guest_pages.proofs.Stays.{prepares_none, snapshots_stay}
use Rattle.guest_pages.proofs.address_space.Space.own_pages.Goals as goal

pub own_each-requires : goal.own_each-requires
own_each-requires c = λ n listed.
    let e : is_listed c.in-Ok.numbers.items n ≡ true = ap (λ (xs : List ℕ). is_listed xs n) (sym c.as_slice.ensures.value) ∙ listed in
    low_page (contents_of c.self.inside.tables).pages n c.self.invariant.pages.each
    (in_range (contents_of c.self.inside.tables).pages c.args.address c.args.count n c.requires.some
    (subst (λ (s : SpaceValue). present (memory_of s) c.args.address c.args.count ≡ true) (sym c.self.view_is) c.requires.there)
    (c.in-Ok.ensures.from n e) (omega (arith, c.from.ensures, c.requires.some, c.in-Ok.ensures.to n e)))

pub invariant_of-self-2 : goal.invariant_of-self-2
invariant_of-self-2 c =
    let owned = subst (λ (xs : List ℕ). AreOwned xs (contents_of c.self.inside.tables) (contents_of c.own_each.new.self))
    c.as_slice.ensures.value c.in-Ok-own_each.ensures.owned in
    owned_space c.self.inside.tables c.own_each.new.self c.self.inside.mapped c.self.invariant
    (owned_same c.in-Ok.numbers.items (contents_of c.self.inside.tables) (contents_of c.own_each.new.self) owned
    (λ n listed. in_range (contents_of c.self.inside.tables).pages c.args.address c.args.count n c.requires.some
    (subst (λ (s : SpaceValue). present (memory_of s) c.args.address c.args.count ≡ true) (sym c.self.view_is) c.requires.there)
    (c.in-Ok.ensures.from n listed) (omega (arith, c.from.ensures, c.requires.some, c.in-Ok.ensures.to n listed))))
    owned.kept

pub returns-in_default-own_each-clause-prepared : goal.returns-in_default-own_each-clause-prepared
returns-in_default-own_each-clause-prepared c = prepares_none _ _ _ _ _ (c.in_default-own_each.ensures.err ∙ c.self.view_is)

pub returns-clause-prepared : goal.returns-clause-prepared
returns-clause-prepared c =
    let first : ℕ = c.args.address / 4096 in
    let count : ℕ = (c.from.result + c.args.count - 1) / 4096 - c.args.address / 4096 + 1 in
    let owned = subst (λ (xs : List ℕ). AreOwned xs (contents_of c.self.inside.tables) (contents_of c.own_each.new.self))
    c.as_slice.ensures.value c.in-Ok-own_each.ensures.owned in
    let pages = owned_same c.in-Ok.numbers.items (contents_of c.self.inside.tables) (contents_of c.own_each.new.self) owned
    (λ n listed. in_range (contents_of c.self.inside.tables).pages c.args.address c.args.count n c.requires.some
    (subst (λ (s : SpaceValue). present (memory_of s) c.args.address c.args.count ≡ true) (sym c.self.view_is) c.requires.there)
    (c.in-Ok.ensures.from n listed) (omega (arith, c.from.ensures, c.requires.some, c.in-Ok.ensures.to n listed))) in
    let same : memory_of c.own_each.new.self ≡ memory_of c.args.self.now =
    ap (λ (p : PageMap). memory_in p) pages ∙ ap (λ (s : SpaceValue). memory_of s) c.self.view_is in
    let last : IsSome ((contents_of c.self.inside.tables).pages ((c.args.address + c.args.count - 1) / 4096)) =
    in_range (contents_of c.self.inside.tables).pages c.args.address c.args.count ((c.args.address + c.args.count - 1) / 4096)
    c.requires.some
    (subst (λ (s : SpaceValue). present (memory_of s) c.args.address c.args.count ≡ true) (sym c.self.view_is) c.requires.there)
    (omega (arith, c.requires.some)) (omega (arith, c.requires.some)) in
    let low = low_page (contents_of c.self.inside.tables).pages ((c.args.address + c.args.count - 1) / 4096) c.self.invariant.pages.each
    last in
    let adds = listed_adds c.self.inside.tables c.in-Ok.numbers.items first count c.in-Ok.ensures.from c.in-Ok.ensures.to
    c.in-Ok.ensures.others (omega (arith, low, c.from.ensures, c.requires.some)) in
    let across : count ≡ pages_across c.args.address c.args.count =
    ap (λ (a : ℕ). (a + c.args.count - 1) / 4096 - c.args.address / 4096 + 1) c.from.ensures
    ∙ sym (some_across c.args.address c.args.count c.requires.some) in
    record {
      ready = (
        ap (λ m. present m c.args.address c.args.count) same ∙ c.requires.there,
        λ k l. all_own_in c.self.inside.tables c.own_each.new.self c.in-Ok.numbers.items _ _ owned c.in-Ok.ensures.others
            ((c.args.address + k) / 4096) (omega arith) (omega (arith, l, c.from.ensures, c.requires.some)),
      );
      memory = same;
      err = tt;
      snapshots = snapshots_stay c.self.inside.tables c.own_each.new.self _ owned.kept c.self.view_is;
      live = subst (λ (s : SpaceValue). live_of c.own_each.new.self ≡ live_of s + added_across s c.args.address c.args.count)
          c.self.view_is
          (owned.live ∙ ap (λ (k : ℕ). live_of c.self.inside.tables + k)
          (adds ∙ ap (λ (k : ℕ). added_in c.self.inside.tables first k) across));
    }
