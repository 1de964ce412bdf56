use Rattle.std.proofs.Common.{◌≡◌, ℕ, ◌+◌, ◌-◌, ◌/◌, ◌<◌, ◌∙◌, List, length, take, drop, sym, ap, subst, arith}
use Rattle.std.proofs.lemmas.List.{drop-drop}
use Rattle.rrv_model.specs.Memory.{Memory, stored}
use Rattle.page_tables.specs.Contents.{contents_of}
use Rattle.page_tables.specs.Changes.{IsOwn}
use Rattle.guest_pages.specs.Space.{memory_of}
use Rattle.guest_pages.proofs.Stores.{one_part}
use Rattle.guest_pages.proofs.address_space.Space.fill_pages.Goals as goal

pub fill_page-requires-clause-own : goal.fill_page-requires-clause-own
fill_page-requires-clause-own c =
    let held = c.loop-rest.invariant in
    let k : ℕ = c.loop-rest.at - c.args.address in
    let place : c.args.address + k ≡ c.loop-rest.at = grind arith in
    let within : k < length c.args.bytes.now = grind arith in
    held.own (c.loop-rest.at / 4096) (subst (λ (x : ℕ). IsOwn (contents_of c.args.self.now) (x / 4096)) place (c.requires.fill.1 k within))

pub loop-rest-preserved : goal.loop-rest-preserved
loop-rest-preserved c =
    let k : ℕ = c.loop-rest.at - c.args.address in
    let n : ℕ = length c.split_at.result.0.now in
    let held = c.loop-rest.invariant in
    let more : k + c.min.result ≡ c.loop-rest.at + n - c.args.address = omega (arith, held.begun, c.split_at.ensures.front_len) in
    record {
      begun = omega (arith, held.begun);
      len = omega (arith, held.len, c.split_at.ensures);
      rest = c.split_at.ensures.back ∙ ap (λ (r : List ℕ). drop c.min.result r) held.rest ∙ drop-drop c.min.result k c.args.bytes.now
          ∙ ap (λ (j : ℕ). drop j c.args.bytes.now) more;
      memory = c.fill_page.ensures.memory ∙ ap (λ (m : Memory). stored c.loop-rest.at c.split_at.result.0.now m) held.memory
          ∙ one_part c.args.address c.loop-rest.at n c.args.bytes.now c.loop-rest.rest.now c.split_at.result.0.now
          (memory_of c.args.self.now) held.begun held.len held.rest
          (c.split_at.ensures.front ∙ ap (λ (j : ℕ). take j c.loop-rest.rest.now) (sym c.split_at.ensures.front_len))
          (omega (arith, c.split_at.ensures.front_len, c.min.ensures));
      snapshots = c.fill_page.ensures.snapshots ∙ held.snapshots;
      own = λ n o. c.fill_page.ensures.own n (held.own n o);
      live = c.fill_page.ensures.live ∙ held.live;
    }
