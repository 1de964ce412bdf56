use Rattle.std.proofs.Common.{◌≡◌, ◌<◌, ◌+◌, ◌∷◌, ◌++◌, [], ℕ, List, length, arith, refl, sym, ap, ◌∙◌, append_assoc, length-append, length-set, append-nil, replicate}
use Rattle.std.specs.Prelude.{slice_index}
use Rattle.std.proofs.lemmas.Option.{slice_get_within}
use Rattle.std.proofs.lemmas.List.{get_or-set_other, get_or-replicate, get_or_past, length-replicate}
use mathlib.Core.Logic.{dite}
use native.Mathlib.Decide.{dec_le}
use Rattle.commit_group.specs.Seats.{RecorderValue}
use Rattle.commit_group.proofs.Ends.{last_place, taken_more, same_joined}
use Rattle.commit_group.proofs.report.join_all.Goals as goal

pub join-counts-requires-clause-of_group : goal.join-counts-requires-clause-of_group
join-counts-requires-clause-of_group c =
    let i = c.loop-recorder.invariant in
    let here = last_place _ _ _ _ _ i.rest.1 c.in-Some.ensures.items in
    (c.requires.of_group _ _ here).0

pub returns-clause-joined : goal.returns-clause-joined
returns-clause-joined c k r e =
    let i = c.loop-recorder.invariant in
    let none : length c.loop-recorder.recorders.items ≡ 0 = omega (arith, c.in_default.ensures.cases) in
    i.joined k r (omega arith) e

pub loop-recorder-preserved : goal.loop-recorder-preserved
loop-recorder-preserved c =
    let i = c.loop-recorder.invariant in
    let last = c.in-Some.ensures.items in
    let all = c.args.recorders.items in
    let xs = c.pop.new.self.items in
    let x = c.in-Some.recorder in
    let j = c.join-counts.ensures in
    let sizes : length c.loop-recorder.recorders.items ≡ length xs + 1 = ap length last ∙ length-append xs (x ∷ []) in
    let whole : length all ≡ length c.loop-recorder.recorders.items + length i.rest.0 =
    ap length i.rest.1 ∙ length-append c.loop-recorder.recorders.items i.rest.0 in
    let few = c.args.group.now.some.1 in
    let n = c.requires.count in
    let low : length xs < 16 = omega arith in
    let at : c.len-guest.result ≡ length xs = c.len-guest.ensures ∙ c.pop.new.self.ok.0 in
    let ls = i.sizes.0 in
    let ln = i.sizes.1 in
    record {
      flusher = j.flusher;
      same = record {
        received = j.same.received ∙ i.same.received;
        told = j.same.told ∙ i.same.told;
        halted = j.same.halted ∙ i.same.halted;
        totals = j.same.totals ∙ i.same.totals;
      };
      rest = (x ∷ i.rest.0, i.rest.1 ∙ ap (λ (l : List RecorderValue). l ++ i.rest.0) last ∙ append_assoc xs (x ∷ []) i.rest.0);
      sizes = (length-set c.loop-recorder.sent _ _ ∙ ls, length-set c.loop-recorder.seen _ _ ∙ ln);
      joined = taken_more all xs c.loop-recorder.recorders.items i.rest.0 x _ _ c.loop-recorder.sent c.loop-recorder.seen _ _ _ i.rest.1
          last at (omega arith) (omega arith)
          record { sent_is = j.counts.0; seen_is = j.counts.1; joined = same_joined _ _ _ _ x i.same j.joined } i.joined;
      zeros = λ k le. let z =
          i.zeros k le in (
            get_or-set_other c.loop-recorder.sent _ k _ 0 (omega arith) ∙ z.0,
            get_or-set_other c.loop-recorder.seen _ k _ 0 (omega arith) ∙ z.1,
          );
    }

pub loop-recorder-init : goal.loop-recorder-init
loop-recorder-init c = record {
  flusher = c.requires.flusher;
  same = record { received = refl; told = refl; halted = refl; totals = refl };
  rest = ([], sym (append-nil c.args.recorders.items));
  sizes = (length-replicate {A = ℕ} 16 0, length-replicate {A = ℕ} 16 0);
  joined = λ k r le e. absurd (let w = slice_get_within c.args.recorders.items k r e in omega arith);
  zeros = λ k le. (zero k, zero k);
}
  where
    zero : (k : ℕ) → slice_index (replicate 16 0) k ≡ 0
    zero k = dite (dec_le 16 k)
        (λ h. get_or_past (replicate 16 0) k 0
        (let n : length (replicate {A = ℕ} 16 0) ≡ 16 = length-replicate {A = ℕ} 16 0 in omega arith))
        (λ h. get_or-replicate 16 k 0 0 (omega arith))
