use Rattle.std.proofs.Common.{◌∙◌, ◌≤◌, ◌++◌, [], List, ℕ, ap, arith, length, subst, sym}
use Rattle.std.proofs.lemmas.List.{length-map}
use Rattle.std.specs.List.{AllByRecursion}
use Rattle.rrv_model.specs.declared.record.PagePart.{PagePart}
use Rattle.rrv_model.specs.declared.record.Part.{Part}
use Rattle.rrv_model.specs.Checkpoint.{Describes, all_pages}
use Rattle.rrv_model.specs.RecordText.{HasPartText}
use Rattle.guest_calls.specs.Guest.{state_of}
use Rattle.guest_pages.specs.Snapshots.{DifferOn}
use Rattle.checkpoint.specs.Made.{NamesChanges, kept_memory}
use Rattle.checkpoint.proofs.Named.{of_back, of_contained, of_front, split_of}
use Rattle.checkpoint.proofs.Whole.{HasAll, HasListed, all_texts, described, has_all, lists_more, lists_none, names_changes}
use Rattle.checkpoint.proofs.making.make.Goals as goal
use Rattle.checkpoint.proofs.making.make.Goals.{In_ok-add_part-2}

pub loop-left-init : goal.loop-left-init
loop-left-init c =
    let m = (state_of c.args.guest.now).memory in
    let before = kept_memory c.args.guest.now c.args.base.now in
    let numbers = c.in_ok-numbers.numbers.items in
    let P = λ (n : ℕ). DifferOn n before m in
    record {
      listed = subst (λ (ps : List Part). HasListed before m ps c.as_slice-left.result.now) (sym c.new-parts.ensures.items)
          (subst (λ (ns : List ℕ). HasListed before m [] ns) (sym c.as_slice-left.ensures.value)
          (lists_none before m numbers c.in_ok-numbers.ensures));
      differ = subst (λ (ns : List ℕ). AllByRecursion P ns) (sym c.as_slice-left.ensures.value)
          (of_contained P numbers c.in_ok-numbers.ensures.differ);
    }

pub list_pages-requires-clause-differ : goal.list_pages-requires-clause-differ
list_pages-requires-clause-differ c =
    let left = c.loop-left.left.now in
    let front = c.split_at.result.0.now in
    let behind = c.split_at.result.1.now in
    of_front (λ (n : ℕ). DifferOn n (kept_memory c.args.guest.now c.args.base.now) (state_of c.args.guest.now).memory) left front behind
    (split_of left front behind c.split_at.ensures.front c.split_at.ensures.back) c.loop-left.invariant.differ

pub loop-left-preserved : goal.loop-left-preserved
loop-left-preserved c =
    let m = (state_of c.args.guest.now).memory in
    let before = kept_memory c.args.guest.now c.args.base.now in
    let left = c.loop-left.left.now in
    let front = c.split_at.result.0.now in
    let behind = c.split_at.result.1.now in
    let pages = c.in_ok-pages.pages.items in
    let whole = split_of left front behind c.split_at.ensures.front c.split_at.ensures.back in
    let these = c.in_ok-pages.ensures.numbers in
    let few : length pages ≤ 1024 =
    omega (arith, length-map pages (λ (p : PagePart). p.number), ap (λ (ns : List ℕ). length ns) these, c.split_at.ensures.front_len) in
    record {
      listed = subst (λ (ps : List Part). HasListed before m ps behind) (sym c.in_ok-add_part.ensures)
          (lists_more before m c.loop-left.parts.items left behind pages c.loop-left.invariant.listed
          (ap (λ (ns : List ℕ). ns ++ behind) these ∙ whole) c.in_ok-pages.ensures.made few);
      differ = of_back (λ (n : ℕ). DifferOn n before m) left front behind whole c.loop-left.invariant.differ;
    }

-- the parts have all that differs
all_parts : (c : In_ok-add_part-2) → HasAll (kept_memory c.args.guest.now c.args.base.now) (state_of c.args.guest.now)
    c.loop-left.parts.items c.in_ok-pages-2.pages.items c.in_ok-rest.rest
all_parts c =
    has_all (kept_memory c.args.guest.now c.args.base.now) (state_of c.args.guest.now) c.loop-left.parts.items c.loop-left.left.now
    c.in_ok-pages-2.pages.items c.in_ok-rest.rest c.loop-left.invariant.listed c.in_ok-pages-2.ensures.numbers
    c.in_ok-pages-2.ensures.made c.loop-left-test.false c.in_ok-rest.ensures.rest c.rest_of.ensures.is_state

pub returns-clause-texts : goal.returns-clause-texts
returns-clause-texts c =
    subst (λ (ps : List Part). AllByRecursion HasPartText ps) (sym c.in_ok-add_part-2.ensures)
    (all_texts _ _ _ _ _ (all_parts (goal.at.returns-clause-texts c).In_ok-add_part-2))

pub returns-clause-describes : goal.returns-clause-describes
returns-clause-describes c old base =
    subst (λ (ps : List Part). Describes old ps (state_of c.args.guest.now)) (sym c.in_ok-add_part-2.ensures)
    (described _ _ _ _ _ (all_parts (goal.at.returns-clause-describes c).In_ok-add_part-2) old base)

pub returns-clause-changes : goal.returns-clause-changes
returns-clause-changes c =
    subst (λ (ps : List Part). NamesChanges (kept_memory c.args.guest.now c.args.base.now) (state_of c.args.guest.now).memory
    (all_pages ps))
    (sym c.in_ok-add_part-2.ensures) (names_changes _ _ _ _ _ (all_parts (goal.at.returns-clause-changes c).In_ok-add_part-2))
