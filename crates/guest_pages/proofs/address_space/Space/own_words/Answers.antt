use Rattle.std.proofs.Common.{◌≡◌, ◌∙◌, ◌+◌, ℕ, List, true, sym, ap, subst}
use Rattle.rrv_model.specs.CallRows.{all_writable}
use Rattle.page_tables.specs.Contents.{contents_of}
use Rattle.page_tables.specs.Changes.{is_listed, AreOwned}
use Rattle.page_tables.proofs.PlacedPages.{on_err}
use Rattle.guest_pages.specs.Live.{added_words, live_of}
use Rattle.guest_pages.specs.Space.{SpaceValue, PageMap, memory_of, memory_in}
use Rattle.guest_pages.specs.Stores.{word_pages}
use Rattle.guest_pages.proofs.OwnPages.{owned_same, owned_space, low_page}
use Rattle.guest_pages.proofs.WordStores.{words_there, words_own, some_word}
use Rattle.guest_pages.proofs.address_space.Space.own_words.Goals as goal

pub own_each-requires : goal.own_each-requires
own_each-requires c = λ n listed.
    let e : is_listed (word_pages c.args.places.now) n ≡ true =
    ap (λ (xs : List ℕ). is_listed xs n) (sym (c.as_slice.ensures.value ∙ c.in_ok-numbers.ensures.listed)) ∙ listed in
    low_page (contents_of c.self.inside.tables).pages n c.self.invariant.pages.each
    (words_there (contents_of c.self.inside.tables).pages c.args.places.now
    (subst (λ (s : SpaceValue). all_writable (memory_of s) c.args.places.now ≡ true) (sym c.self.view_is) c.requires) n e)

pub returns-in_err-own_each-clause-some : goal.returns-in_err-own_each-clause-some
returns-in_err-own_each-clause-some c =
    on_err _ _ (some_word (contents_of c.self.inside.tables) c.args.places.now
    (λ own. c.in_err-own_each.ensures.grows
    (λ n listed. own n
    (ap (λ (xs : List ℕ). is_listed xs n) (sym (c.as_slice.ensures.value ∙ c.in_ok-numbers.ensures.listed)) ∙ listed))))

pub invariant_of-self-2 : goal.invariant_of-self-2
invariant_of-self-2 c =
    let owned = subst (λ (xs : List ℕ). AreOwned xs (contents_of c.self.inside.tables) (contents_of c.own_each.new.self))
    (c.as_slice.ensures.value ∙ c.in_ok-numbers.ensures.listed) c.in_ok-own_each.ensures.owned in
    owned_space c.self.inside.tables c.own_each.new.self c.self.inside.mapped c.self.invariant
    (owned_same (word_pages c.args.places.now) (contents_of c.self.inside.tables) (contents_of c.own_each.new.self) owned
    (λ n listed. words_there (contents_of c.self.inside.tables).pages c.args.places.now
    (subst (λ (s : SpaceValue). all_writable (memory_of s) c.args.places.now ≡ true) (sym c.self.view_is) c.requires) n listed))
    owned.kept

pub returns-clause-ready : goal.returns-clause-ready
returns-clause-ready c =
    let owned = subst (λ (xs : List ℕ). AreOwned xs (contents_of c.self.inside.tables) (contents_of c.own_each.new.self))
    (c.as_slice.ensures.value ∙ c.in_ok-numbers.ensures.listed) c.in_ok-own_each.ensures.owned in
    words_own c.own_each.new.self c.args.places.now owned.own

pub returns-clause-memory : goal.returns-clause-memory
returns-clause-memory c =
    let owned = subst (λ (xs : List ℕ). AreOwned xs (contents_of c.self.inside.tables) (contents_of c.own_each.new.self))
    (c.as_slice.ensures.value ∙ c.in_ok-numbers.ensures.listed) c.in_ok-own_each.ensures.owned in
    ap (λ (p : PageMap). memory_in p)
    (owned_same (word_pages c.args.places.now) (contents_of c.self.inside.tables) (contents_of c.own_each.new.self) owned
    (λ n listed. words_there (contents_of c.self.inside.tables).pages c.args.places.now
    (subst (λ (s : SpaceValue). all_writable (memory_of s) c.args.places.now ≡ true) (sym c.self.view_is) c.requires) n listed))
    ∙ ap (λ (s : SpaceValue). memory_of s) c.self.view_is

pub returns-clause-live : goal.returns-clause-live
returns-clause-live c =
    let owned = subst (λ (xs : List ℕ). AreOwned xs (contents_of c.self.inside.tables) (contents_of c.own_each.new.self))
    (c.as_slice.ensures.value ∙ c.in_ok-numbers.ensures.listed) c.in_ok-own_each.ensures.owned in
    subst (λ (s : SpaceValue). live_of c.own_each.new.self ≡ live_of s + added_words s c.args.places.now) c.self.view_is owned.live
