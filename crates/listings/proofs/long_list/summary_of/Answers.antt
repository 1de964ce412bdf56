use Rattle.std.proofs.Common.{◌≡◌, ◌≤◌, ◌∙◌, List, ap, length, arith, refl, rules, subst, sym}
use Rattle.std.specs.Int.{w32, from_be_bytes}
use Rattle.std.specs.Prelude.{take, ℕ}
use Rattle.std.proofs.lemmas.List.{take_all}
use Rattle.sha2.specs.Sha256.{sha256}
use Rattle.clap.proofs.TakesLemmas.{passed_up}
use Rattle.guest_calls.specs.Guest.{GuestValue, state_of}
use Rattle.rrv_model.specs.declared.record.Record.{Record}
use Rattle.rrv_model.specs.Recording.{EndsIn, items_of}
use Rattle.rrv_model.specs.Recovered.{of_guest}
use Rattle.recover.specs.Spots.{records_of}
use Rattle.listings.specs.LongList.{AddsUpTo, RefusesSummary}
use Rattle.line_io.specs.Told.{verify_told}
use Rattle.listings.proofs.LongTexts.{added, first_added, first_is, next_unsummed}
use Rattle.listings.proofs.TurnTexts.{take_length}
use Rattle.listings.proofs.long_list.summary_of.Goals as goal

pub loop-index-init : goal.loop-index-init
loop-index-init g c = (
  c.len-index-end.ensures.count,
  omega arith,
  λ on.
      let records = of_guest c.args.guest (records_of c.args.lists.now) in
      let first = first_added records c.in_ok-first.first c.in_ok-following.following c.new-tally.result
      (c.in_ok-first.ensures.read.read on)
      c.in_ok-following.ensures.behind c.new-tally.ensures in
      (first.0, first.1, c.in_ok-first.ensures.read.on on),
)

pub returns-in_err-follow-clause-refused : goal.returns-in_err-follow-clause-refused
returns-in_err-follow-clause-refused g c = λ on.
    let records = of_guest c.args.guest (records_of c.args.lists.now) in
    let before = c.loop-index.invariant in
    let behind = (before.2 on).0 in
    let there = c.in_ok-entry.ensures.read.read (before.2 on).2 in
    let index = c.loop-index.index in
    let few : index ≤ length records = omega (arith, c.loop-index-test.true, before.0) in
    let some : 1 ≤ length records = c.requires in
    let fault = c.in_err-follow.field-0.0 in
    passed_up c.from_residual-in_err-follow.result (verify_told fault) (λ e. RefusesSummary e records)
    c.from_residual-in_err-follow.ensures.1
    (next_unsummed (verify_told fault) fault records index c.in_ok-entry.entry c.loop-index.following there some refl behind
    (sym (behind.len ∙ take_length records index few))
    c.in_err-follow.ensures.named (c.in_err-follow.ensures.refused (take index records) behind))

pub loop-index-preserved : goal.loop-index-preserved
loop-index-preserved g c =
    let records = of_guest c.args.guest (records_of c.args.lists.now) in
    let before = c.loop-index.invariant in (
      before.0,
      omega arith,
      λ on.
          let at = before.2 on in
          let next = added records c.loop-index.index c.in_ok-entry.entry c.follow.new.self c.loop-index.tally _
          (c.in_ok-entry.ensures.read.read at.2) (c.in_ok-follow.ensures.behind (take c.loop-index.index records) at.0) at.1
          (search rules) in
          (next.0, next.1, c.in_ok-entry.ensures.read.on at.2),
    )

pub returns-clause-read : goal.returns-clause-read
returns-clause-read g c = λ on.
    let records = of_guest c.args.guest (records_of c.args.lists.now) in
    let before = c.loop-index.invariant in
    let at = before.2 on in
    let index = c.loop-index.index in
    let many : length records ≤ index = omega (arith, c.loop-index-test.false, before.0) in
    let few : index ≤ length records = omega (arith, c.loop-index.auto.index-end, before.0, c.requires) in
    let count : index ≡ length records = omega (arith, many, few) in
    let state = state_of c.loop-index.following.guest in
    let file = first_is records c.in_ok-first.first (c.in_ok-first.ensures.read.read on) in
    record {
      state = state;
      ends = subst (λ (l : List Record). EndsIn (items_of l) state) (take_all index records many) at.0.ends;
      end_is = c.ended.ensures ∙ ap (λ (guest : GuestValue). (state_of guest).ended) c.guest-2.ensures;
      threads_are = search rules;
      tally_is = subst (λ (n : ℕ). AddsUpTo records n c.loop-index.tally) count at.1;
      length_is = c.program_of.ensures.length ∙ ap (λ (l : List ℕ). length l) (sym file);
      digest_is = c.program_of.ensures.digest ∙ ap (λ (l : List ℕ). from_be_bytes w32 (sha256 l)) (sym file);
    }
