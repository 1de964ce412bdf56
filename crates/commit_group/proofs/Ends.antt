-- Lists of seats.
use Rattle.std.proofs.Common.{◌≡◌, ◌≢◌, ◌⊎◌, ℕ, zero, suc, ◌+◌, ◌<◌, ◌≤◌, Bool, List, [], ◌∷◌, ◌++◌, length, Option, Some, true, refl, sym, ap, ◌∙◌, subst, inl, inr, ⊎_elim, arith, take, set, append_assoc, length-append}
use mathlib.Core.Logic.{dite}
use native.Mathlib.Decide.{ℕ_discrete, dec_le}
use Rattle.std.proofs.lemmas.List.{get_or-set_same, get_or-set_other, get_or_past, map-append, take-map, take_at, length-map}
use Rattle.std.specs.Prelude.{slice_get, slice_index}
use Rattle.rrv_model.specs.declared.record.Record.{Record}
use Rattle.rrv_model.specs.Recovered.{of_guest}
use Rattle.rrv_model.proofs.RecoveredLaws.{of_guest-append}
use Rattle.atomic_table.specs.declared.shared.Seat.{Seat}
use Rattle.crossbeam_queue.specs.Passes.{Pass, view}
use Rattle.commit_group.specs.declared.group.Group.{Group}
use Rattle.commit_group.specs.declared.queue.QueueView.{QueueView}
use Rattle.commit_group.specs.declared.words.FlusherView.{FlusherView}
use Rattle.commit_group.specs.declared.words.WordView.{WordView}
use Rattle.commit_group.specs.Queue.{received_of}
use Rattle.commit_group.specs.Started.{KnowSame}
use Rattle.commit_group.specs.Words.{flusher_of}
use Rattle.commit_group.specs.Numbers.{numbered, renumbered, base}
use Rattle.commit_group.proofs.Numbers.{of_renumbered}
use Rattle.commit_group.specs.Reports.{HasEnded, HasJoined, IsTakenIn}
use Rattle.commit_group.specs.Seats.{GroupId, RecorderValue, FlusherValue, AllNew, KeepsFlusher, new_seat, committed_of, finished}

pub get_snoc : {X : Type 0} (xs : List X) (x y : X) (j : ℕ) → slice_get (xs ++ x ∷ []) j ≡ Some y → (slice_get xs j ≡ Some y) ⊎
    ((j ≡ length xs) × (x ≡ y))
get_snoc [] x y zero e = inr (refl, cc)
get_snoc [] x y (suc j) e = absurd (cc)
get_snoc (z ∷ xs) x y zero e = inl e
get_snoc (z ∷ xs) x y (suc j) e = ⊎_elim (λ t. inl t) (λ (t : (j ≡ length xs) × (x ≡ y)). inr (ap suc t.0, t.1)) (get_snoc xs x y j e)

pub all_new_push : (group : GroupId) (seats : List RecorderValue) (k : ℕ) (x : RecorderValue) → length seats ≡ k → x ≡ new_seat group k →
    AllNew group seats → AllNew group (seats ++ x ∷ [])
all_new_push group seats k x len is new j r e =
    ⊎_elim (λ t. new j r t) (λ (t : (j ≡ length seats) × (x ≡ r)). sym t.1 ∙ is ∙ ap (λ (q : ℕ). new_seat group q) (sym len ∙ sym t.0))
    (get_snoc seats x r j e)

-- what is reported of one seat
pub ended : (f : FlusherValue) (received : List Record) (known : FlusherView) (sent committed seen : ℕ) (r : RecorderValue)
    → f.committed ++ f.waiting ≡ renumbered (base f.first_guest) received → committed ≡ committed_of f r.guest →
    slice_index f.told r.guest ≤ committed
    → known.told ≡ f.told → known.halted ≡ f.halted → known.totals ≡ f.totals → IsTakenIn received known sent seen r →
    HasEnded f sent committed seen r
ended f received known sent committed seen r parts count told same_told same_halt same_totals in_all =
    let h = in_all.joined in
    let sent_is = in_all.sent_is in
    let seen_is = in_all.seen_is in
    let b = base f.first_guest in
    let g = r.guest in
    let done = of_guest (b + g) f.committed in
    let later = of_guest (b + g) f.waiting ++ renumbered b (of_guest g h.sent.0) in
    let received_is : renumbered b (of_guest g received) ≡ done ++ of_guest (b + g) f.waiting =
    sym (of_renumbered b g received) ∙ ap (of_guest (b + g)) (sym parts) ∙ of_guest-append (b + g) f.committed f.waiting in
    let all : renumbered b r.sent ≡ done ++ later =
    ap (renumbered b) h.sent.1 ∙ map-append (numbered b) (of_guest g received) (of_guest g h.sent.0)
    ∙ ap (λ (l : List Record). l ++ renumbered b (of_guest g h.sent.0)) received_is
    ∙ append_assoc done (of_guest (b + g) f.waiting) (renumbered b (of_guest g h.sent.0)) in
    let size : length r.sent ≡ length done + length later =
    sym (length-map r.sent (numbered b)) ∙ ap length all ∙ length-append done later in
    let got = done ++ of_guest (b + g) f.waiting in
    let rest = renumbered b (of_guest g h.sent.0) in
    let n = length (of_guest (b + g) (f.committed ++ f.waiting)) in
    let got_is : of_guest (b + g) (f.committed ++ f.waiting) ≡ got = of_guest-append (b + g) f.committed f.waiting in
    let whole : renumbered b r.sent ≡ got ++ rest = all ∙ sym (append_assoc done (of_guest (b + g) f.waiting) rest) in
    let saw : r.seen ≤ slice_index f.told r.guest = subst (λ (l : List ℕ). r.seen ≤ slice_index l r.guest) same_told h.seen in
    record {
      sent_is = sent_is;
      committed_is = count;
      seen_is = seen_is;
      beginning = sym (take-map-sym b committed r.sent ∙ ap (take committed) all ∙ take_at done later committed (sym count));
      received = got_is ∙ sym (take-map-sym b n r.sent ∙ ap (take n) whole ∙ take_at got rest n (sym (ap length got_is)));
      committed_of_sent = omega arith;
      seen_of_committed = omega arith;
      total = subst (λ (l : List ℕ). slice_index l r.guest ≢ 0 → (r.has_left ≡ true) × (slice_index l r.guest ≡ length r.sent + 1))
          same_totals h.total;
      halted = λ e. sym same_halt ∙ h.halt e;
    }
  where
    take-map-sym : (b n : ℕ) (rs : List Record) → renumbered b (take n rs) ≡ take n (renumbered b rs)
    take-map-sym b n rs = sym (take-map (numbered b) n rs)

pub get_seam : {X : Type 0} (xs : List X) (x : X) (ys : List X) → slice_get (xs ++ x ∷ ys) (length xs) ≡ Some x
get_seam [] x ys = refl
get_seam (z ∷ xs) x ys = get_seam xs x ys

-- the last seat of the rest: its place
pub last_place : (all xs rest tail : List RecorderValue) (x : RecorderValue) → all ≡ rest ++ tail → rest ≡ xs ++ x ∷ [] →
    slice_get all (length xs) ≡ Some x
last_place all xs rest tail x parts last =
    let whole : all ≡ xs ++ x ∷ tail = parts ∙ ap (λ (l : List RecorderValue). l ++ tail) last ∙ append_assoc xs (x ∷ []) tail in
    ap (λ (l : List RecorderValue). slice_get l (length xs)) whole ∙ get_seam xs x tail

same_in_some : {X : Type 0} (x y : X) → Some x ≡ Some y → x ≡ y
same_in_some x y e = cc

-- one more seat is taken in, at the place i
pub taken_more : (all xs rest tail : List RecorderValue) (x : RecorderValue) (received : List Record) (known : FlusherView)
    (sent seen : List ℕ) (i count saw : ℕ) → all ≡ rest ++ tail → rest ≡ xs ++ x ∷ []
    → i ≡ length xs → length xs < length sent → length xs < length seen → IsTakenIn received known count saw x
    → ((k : ℕ) (r : RecorderValue) → length rest ≤ k → slice_get all k ≡ Some r →
    IsTakenIn received known (slice_index sent k) (slice_index seen k) r)
    → (k : ℕ) (r : RecorderValue) → length xs ≤ k → slice_get all k ≡ Some r →
    IsTakenIn received known (slice_index (set sent i count) k) (slice_index (set seen i saw) k) r
taken_more all xs rest tail x received known sent seen i count saw parts last at fits_sent fits_seen mine old k r le e =
    dite (ℕ_discrete k (length xs))
    (λ here.
    let same : x ≡ r = same_in_some x r (sym (last_place all xs rest tail x parts last) ∙ ap (λ (q : ℕ). slice_get all q) (sym here) ∙ e) in
    let at_sent : count ≡ slice_index (set sent i count) k =
    sym (ap (λ (q : ℕ × ℕ). slice_index (set sent q.0 count) q.1) (λ z. (at z, here z))
    ∙ get_or-set_same sent (length xs) count 0 fits_sent) in
    let at_seen : saw ≡ slice_index (set seen i saw) k =
    sym (ap (λ (q : ℕ × ℕ). slice_index (set seen q.0 saw) q.1) (λ z. (at z, here z))
    ∙ get_or-set_same seen (length xs) saw 0 fits_seen) in
    subst (λ (y : ℕ × ℕ × RecorderValue). IsTakenIn received known y.0 y.1 y.2) (λ z. (at_sent z, at_seen z, same z)) mine)
    (λ ne.
    let size : length rest ≡ length xs + 1 = ap length last ∙ length-append xs (x ∷ []) in
    let at_sent : slice_index sent k ≡ slice_index (set sent i count) k =
    sym (ap (λ (q : ℕ). slice_index (set sent q count) k) at ∙ get_or-set_other sent (length xs) k count 0 ne) in
    let at_seen : slice_index seen k ≡ slice_index (set seen i saw) k =
    sym (ap (λ (q : ℕ). slice_index (set seen q saw) k) at ∙ get_or-set_other seen (length xs) k saw 0 ne) in
    subst (λ (y : ℕ × ℕ). IsTakenIn received known y.0 y.1 r) (λ z. (at_sent z, at_seen z)) (old k r (omega arith) e))

-- what was taken in by a flusher that had received and told the same
pub same_joined : (pass pass' : Pass Record QueueView) (seat seat' : Seat ℕ WordView) (r : RecorderValue) → KnowSame pass pass' seat seat'
    → HasJoined (received_of (view pass')) (flusher_of seat'.me.0) r → HasJoined (received_of (view pass)) (flusher_of seat.me.0) r
same_joined pass pass' seat seat' r same h = record {
  sent = (h.sent.0, h.sent.1 ∙ ap (λ (l : List Record). of_guest r.guest l ++ of_guest r.guest h.sent.0) same.received);
  seen = subst (λ (l : List ℕ). r.seen ≤ slice_index l r.guest) same.told h.seen;
  halt = λ e. sym same.halted ∙ h.halt e;
  total = subst (λ (l : List ℕ). slice_index l r.guest ≢ 0 → (r.has_left ≡ true) × (slice_index l r.guest ≡ length r.sent + 1)) same.totals
      h.total;
}

-- no record is counted of a guest past the last
pub counts_past : (group : Group) (pass : Pass Record QueueView) (seat : Seat ℕ WordView) (waiting : List Record) (counts : List ℕ)
    (first : Option ℕ) (halted : Bool)
    → KeepsFlusher group pass seat waiting counts first halted → length counts ≡ 16 → (k : ℕ) → group.guests ≤ k → slice_index counts k ≡ 0
counts_past group pass seat waiting counts first halted keeps size k past = dite (dec_le 16 k)
    (λ above. get_or_past counts k 0 (omega arith))
    (λ below.
    let done = finished first pass waiting in
    let whole : of_guest (base first + k) (done ++ waiting) ≡ [] =
    ap (of_guest (base first + k)) keeps.parts ∙ of_renumbered (base first) k (received_of (view pass))
    ∙ ap (renumbered (base first)) (keeps.none_above k past) in
    let split : of_guest (base first + k) done ++ of_guest (base first + k) waiting ≡ [] =
    sym (of_guest-append (base first + k) done waiting) ∙ whole in
    let sum : length (of_guest (base first + k) done) + length (of_guest (base first + k) waiting) ≡ 0 =
    sym (length-append (of_guest (base first + k) done) (of_guest (base first + k) waiting)) ∙ ap length split in
    let count = keeps.counted k (omega arith) in
    omega arith)
