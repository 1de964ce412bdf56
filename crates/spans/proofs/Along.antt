-- How records lead on, in a row.
use Rattle.std.proofs.Common.{◌≡◌, ℕ, zero, suc, ◌+◌, ◌<◌, ◌≤◌, List, [], ◌∷◌, ◌++◌, length, take, drop, get_or, refl, sym, ◌∙◌, ap, subst, arith, append_assoc, Result, Ok, Err}
use Rattle.std.proofs.Math.Seq.{take-suc}
use Rattle.std.proofs.lemmas.List.{take_all}
use Rattle.rrv_model.specs.declared.record.Record.{Record}
use Rattle.faults.specs.declared.replay.VerifyFault.{VerifyFault}
use Rattle.faults.specs.declared.replay.VerifyFault.TheVariants as faults
use Rattle.replayer.specs.Following.{FollowingValue, standing_of}
use Rattle.replayer.specs.Refusals.{RefusesNext}
use Rattle.replayer.specs.Standings.{Continues, Standing}
use Rattle.spans.specs.Spans.{FollowsAlong, LeadAlong, StopsAlong}

pub along_append : (xs ys : List Record) (x y z : Standing) → LeadAlong xs x y → LeadAlong ys y z → LeadAlong (xs ++ ys) x z
along_append [] ys x y z h k = subst (λ (s : Standing). LeadAlong ys s z) h k
along_append (r ∷ xs) ys x y z h k = (h.0, h.1, along_append xs ys h.0 y z h.2 k)

pub along_next : (xs : List Record) (r : Record) (x y z : Standing) → LeadAlong xs x y → Continues r y z → LeadAlong (xs ++ r ∷ []) x z
along_next xs r x y z h next = along_append xs (r ∷ []) x y z h (z, next, refl)

-- what leads along all leads along the first of them, and on
pub along_split : (xs ys : List Record) (x z : Standing) → LeadAlong (xs ++ ys) x z → (y : Standing) × LeadAlong xs x y × LeadAlong ys y z
along_split [] ys x z h = (x, refl, h)
along_split (r ∷ xs) ys x z h =
    let rest = along_split xs ys h.0 z h.2 in
    (rest.0, (h.0, h.1, rest.1), rest.2)

-- ---- where they stop

pub stops_behind : (e : VerifyFault) (xs ys : List Record) (x y : Standing) → LeadAlong xs x y → StopsAlong e ys y →
    StopsAlong e (xs ++ ys) x
stops_behind e xs ys x y h stops = record {
  before = xs ++ stops.before;
  entry = stops.entry;
  behind = stops.behind;
  all = ap (λ (rs : List Record). xs ++ rs) stops.all ∙ sym (append_assoc xs stops.before (stops.entry ∷ stops.behind));
  at = stops.at;
  lead = along_append xs stops.before x y stops.at h stops.lead;
  refuses = stops.refuses;
}

pub stops_before : (e : VerifyFault) (xs ys : List Record) (x : Standing) → StopsAlong e xs x → StopsAlong e (xs ++ ys) x
stops_before e xs ys x stops = record {
  before = stops.before;
  entry = stops.entry;
  behind = stops.behind ++ ys;
  all = ap (λ (rs : List Record). rs ++ ys) stops.all ∙ append_assoc stops.before (stops.entry ∷ stops.behind) ys;
  at = stops.at;
  lead = stops.lead;
  refuses = stops.refuses;
}

-- ---- one of a list

pub one_more : (n : ℕ) → n + 1 ≡ suc n
one_more n = omega arith

-- the records up to one, and that one
pub take_more : (xs : List Record) (i : ℕ) (r : Record) → i < length xs → r ≡ get_or xs i r → take (i + 1) xs ≡ take i xs ++ r ∷ []
take_more xs i r below there =
    ap (λ n. take n xs) (one_more i) ∙ take-suc xs i r below ∙ ap (λ q. take i xs ++ q ∷ []) (sym there)

pub parts_at : (xs : List Record) (i : ℕ) (r : Record) → i < length xs → r ≡ get_or xs i r → xs ≡ take i xs ++ r ∷ drop (suc i) xs
parts_at [] i r below there = absurd (omega arith)
parts_at (q ∷ xs) zero r below there = ap (λ p. p ∷ xs) (sym there)
parts_at (q ∷ xs) (suc i) r below there = ap (λ rs. q ∷ rs) (parts_at xs i r (omega arith) there)

-- behind one record more of a list
pub along_at : (xs : List Record) (i : ℕ) (r : Record) (x y z : Standing) → i < length xs → r ≡ get_or xs i r →
    LeadAlong (take i xs) x y → Continues r y z → LeadAlong (take (i + 1) xs) x z
along_at xs i r x y z below there h next =
    subst (λ (rs : List Record). LeadAlong rs x z) (sym (take_more xs i r below there)) (along_next (take i xs) r x y z h next)

pub stops_at : (e : VerifyFault) (xs : List Record) (i : ℕ) (r : Record) (x y : Standing) → i < length xs → r ≡ get_or xs i r →
    LeadAlong (take i xs) x y → RefusesNext e y.number y.len r y.base y.row y.state → StopsAlong e xs x
stops_at e xs i r x y below there h refuses = record {
  before = take i xs;
  entry = r;
  behind = drop (suc i) xs;
  all = parts_at xs i r below there;
  at = y;
  lead = h;
  refuses = refuses;
}

pub along_all : (xs : List Record) (i : ℕ) (x y : Standing) → length xs ≤ i → LeadAlong (take i xs) x y → LeadAlong xs x y
along_all xs i x y long h = subst (λ (rs : List Record). LeadAlong rs x y) (take_all i xs long) h

-- memory is wanted for some records
pub wants_memory : (records : List Record) (x : Standing) → 1 ≤ length records → StopsAlong faults.Memory records x
wants_memory [] x some = absurd (omega arith)
wants_memory (r ∷ records) x some = record { before = []; entry = r; behind = records; all = refl; at = x; lead = refl; refuses = tt }

-- one span, and what follows behind it
pub both_spans : (front back : List Record) (x y : Standing) (result : Result FollowingValue VerifyFault) → LeadAlong front x y →
    FollowsAlong result back y → FollowsAlong result (front ++ back) x
both_spans front back x y (Ok following) h k = along_append front back x y (standing_of following) h k
both_spans front back x y (Err e) h k = stops_behind e front back x y h k

-- records that are cut in two spans: the first stops, or leads to where the other begins
pub first_stops : (e : VerifyFault) (records front back : List Record) (x : Standing) → records ≡ front ++ back → StopsAlong e front x →
    StopsAlong e records x
first_stops e records front back x is stops =
    subst (λ (rs : List Record). StopsAlong e rs x) (sym is) (stops_before e front back x stops)

pub other_follows : (records front back : List Record) (x y : Standing) (result : Result FollowingValue VerifyFault) →
    records ≡ front ++ back → LeadAlong front x y → FollowsAlong result back y → FollowsAlong result records x
other_follows records front back x y result is lead follows =
    subst (λ (rs : List Record). FollowsAlong result rs x) (sym is) (both_spans front back x y result lead follows)
