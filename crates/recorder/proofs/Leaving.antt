-- Output that leaves.
use Rattle.std.proofs.Common.{◌≡◌, ℕ, suc, ◌+◌, ◌-◌, ◌<◌, ◌≤◌, min, Bool, true, false, List, [], ◌∷◌, ◌++◌, length, take, drop, get_or, map, refl, sym, ap, ◌∙◌, arith, append_assoc, subst}
use Rattle.std.proofs.lemmas.List.{map-append, drop-drop, take-append-drop, take_rest, map_push, length-map}
use Rattle.rrv_model.specs.Output.{to_descriptor}
use Rattle.guest_calls.specs.declared.put.Put.{Put}
use Rattle.recorder.specs.Owed.{Owed, bytes_of, owed_of, joined, left_of, IsWithinFirst, LeavesFirst, Leaves, Releases, ReleasesFirst}
use Rattle.recorder.proofs.Puts.{counted_more}

pub leaves_none : (seen : ℕ) (o : Owed) → Leaves seen o o []
leaves_none seen o = record { upward = omega arith; within = omega arith; all = refl; parts = λ k a b. refl }

pub leaves_both : (seen : ℕ) (a b c : Owed) (p q : List (ℕ × ℕ)) → Leaves seen a b p → Leaves seen b c q → Leaves seen a c (p ++ q)
leaves_both seen a b c p q h k = record {
  upward = (let x = h.upward in let y = k.upward in omega arith);
  within = (let x = h.within in let y = k.within in omega arith);
  all = k.all ∙ h.all;
  parts = λ n le from. append_assoc p q (left_of c n) ∙ ap (λ (l : List (ℕ × ℕ)). p ++ l) (k.parts n le (let x = h.within in omega arith))
      ∙ h.parts n le from;
}

pub leaves_first : (seen : ℕ) (old new : Owed) (put : List (ℕ × ℕ)) (all : Bool) → old.released < seen → LeavesFirst old new put all →
    Leaves seen old new put
leaves_first seen old new put true low h =
    let size : length old.owed ≡ length new.owed + 1 =
    ap length h.1 ∙ (let e : suc (length new.owed) ≡ length new.owed + 1 = omega arith in e) in
    let r = h.0 in
    record {
      upward = omega arith;
      within = omega arith;
      all = omega arith;
      parts = λ k le from.
          let e : k - old.released ≡ suc (k - new.released) = omega arith in
          sym (ap joined (λ i. take (e i) (h.1 i)));
    }
leaves_first seen old new put false low h =
    let first = h.1.0 in
    let others = h.1.1 in
    let size : length old.owed ≡ length new.owed = ap length h.1.2 ∙ sym (ap length h.1.3) in
    let r = h.0 in
    record {
      parts = λ k le from.
          let n = k - old.released - 1 in
          let e : k - old.released ≡ suc n = omega arith in
          let e' : k - new.released ≡ suc n = omega arith in
          ap (λ (l : List (List (ℕ × ℕ))). put ++ joined l) (λ i. take (e' i) (h.1.3 i))
          ∙ sym (append_assoc put first (joined (take n others)))
          ∙ sym (ap joined (λ i. take (e i) (h.1.2 i)));
      all = omega arith;
      upward = omega arith;
      within = omega arith;
    }

-- the output of one record more
pub releases_more : {S : Type 0} (tells : S → Type 0) (taken : S → List (ℕ × ℕ)) (seen : ℕ) (a b c : Owed) (s m t : S) (j count n : ℕ)
    (all : Bool) → b.released < seen
    → n ≡ min (j + count) 18446744073709551615 → Releases tells taken seen a b s m j → ReleasesFirst tells taken all b c m t count →
    Releases tells taken seen a c s t n
releases_more tells taken seen a b c s m t j count n all low is g h = record {
  put = g.put ++ h.put;
  takes = λ tell. h.takes (g.still.1 tell) ∙ ap (λ (l : List (ℕ × ℕ)). l ++ h.put) (g.takes tell) ∙ append_assoc (taken s) g.put h.put;
  still = ((λ t. g.still.0 (h.still.0 t)), (λ t. h.still.1 (g.still.1 t)));
  leaves = leaves_both seen a b c g.put h.put g.leaves (leaves_first seen b c h.put all low h.leaves);
  counted = is ∙ ap (λ (k : ℕ). min (k + count) 18446744073709551615) g.counted ∙ counted_more g.put h.put count h.counted;
}

-- the same of equal values
pub left_by : (old inside new : Owed) (put : List (ℕ × ℕ)) (all found : Bool) → inside ≡ old → found ≡ all →
    LeavesFirst inside new put all → LeavesFirst old new put found
left_by old inside new put all found same is h =
    subst (λ (b : Bool). LeavesFirst old new put b) (sym is) (subst (λ (o : Owed). LeavesFirst o new put all) same h)

-- ---- the first record

pub owed_from_start : (ps : List Put) → owed_of 0 ps ≡ map bytes_of ps
owed_from_start [] = refl
owed_from_start (p ∷ ps) = refl

pub all_put : (p : Put) (offset at : ℕ) → at ≡ length p.bytes →
    to_descriptor p.descriptor (take (at - offset) (drop offset p.bytes)) ≡ to_descriptor p.descriptor (drop offset p.bytes)
all_put p offset at e =
    ap (λ (n : ℕ). to_descriptor p.descriptor (take (n - offset) (drop offset p.bytes))) e
    ∙ ap (to_descriptor p.descriptor) (take_rest p.bytes offset)

pub some_put : (p : Put) (offset at : ℕ) → offset ≤ at →
    to_descriptor p.descriptor (take (at - offset) (drop offset p.bytes)) ++ to_descriptor p.descriptor (drop at p.bytes)
    ≡ to_descriptor p.descriptor (drop offset p.bytes)
some_put p offset at le =
    let d = p.descriptor in
    let e : offset + (at - offset) ≡ at = omega arith in
    ap (λ (n : ℕ). to_descriptor d (take (at - offset) (drop offset p.bytes)) ++ to_descriptor d (drop n p.bytes)) (sym e)
    ∙ ap (λ (l : List ℕ). to_descriptor d (take (at - offset) (drop offset p.bytes)) ++ to_descriptor d l)
    (sym (drop-drop (at - offset) offset p.bytes))
    ∙ sym (map-append (λ (b : ℕ). (d, b)) (take (at - offset) (drop offset p.bytes)) (drop (at - offset) (drop offset p.bytes)))
    ∙ ap (to_descriptor d) (take-append-drop (at - offset) (drop offset p.bytes))

pub some_waiting : (offset : ℕ) (ps : List Put) → 1 ≤ length (owed_of offset ps) → 1 ≤ length ps
some_waiting offset [] h = h
some_waiting offset (p ∷ ps) h = omega arith

head_is : (ps : List Put) (p : Put) → 1 ≤ length ps → p ≡ get_or ps 0 p → ps ≡ p ∷ drop 1 ps
head_is [] p low e = absurd (omega arith)
head_is (q ∷ qs) p low e = λ i. sym e i ∷ qs

-- all that was left of the first record's output has left
pub first_whole : (released offset at : ℕ) (ps now : List Put) (p : Put) (room room' : ℕ) → 1 ≤ length ps → p ≡ get_or ps 0 p →
    at ≡ length p.bytes → now ≡ drop 1 ps
    → LeavesFirst (record { released = released; owed = owed_of offset ps; room = room })
    (record { released = released + 1; owed = owed_of 0 now; room = room' })
    (to_descriptor p.descriptor (take (at - offset) (drop offset p.bytes))) true
first_whole released offset at ps now p room room' low e all rest = (
  refl,
  ap (owed_of offset) (head_is ps p low e) ∙ (λ i. sym (all_put p offset at all) i ∷ map bytes_of (sym rest i))
      ∙ ap (λ (l : List (List (ℕ × ℕ))). to_descriptor p.descriptor (take (at - offset) (drop offset p.bytes)) ∷ l)
      (sym (owed_from_start now)),
)

pub first_part : (released offset at : ℕ) (ps : List Put) (p : Put) (room room' : ℕ) → 1 ≤ length ps → p ≡ get_or ps 0 p → offset ≤ at
    → LeavesFirst (record { released = released; owed = owed_of offset ps; room = room })
    (record { released = released; owed = owed_of at ps; room = room' })
    (to_descriptor p.descriptor (take (at - offset) (drop offset p.bytes))) false
first_part released offset at ps p room room' low e le = (
  refl,
  (
    to_descriptor p.descriptor (drop at p.bytes),
    map bytes_of (drop 1 ps),
    ap (owed_of offset) (head_is ps p low e) ∙ ap (λ (l : List (ℕ × ℕ)). l ∷ map bytes_of (drop 1 ps)) (sym (some_put p offset at le)),
    ap (owed_of at) (head_is ps p low e),
  ),
)

pub owed_push : (offset : ℕ) (ps : List Put) (p : Put) → (ps ≡ [] → offset ≡ 0) →
    owed_of offset (ps ++ p ∷ []) ≡ owed_of offset ps ++ bytes_of p ∷ []
owed_push offset [] p start = ap (λ (n : ℕ). to_descriptor p.descriptor (drop n p.bytes) ∷ []) (start refl)
owed_push offset (q ∷ ps) p start =
    ap (λ (l : List (List (ℕ × ℕ))). to_descriptor q.descriptor (drop offset q.bytes) ∷ l) (map_push bytes_of ps p)

pub at_start : (offset : ℕ) (ps : List Put) → IsWithinFirst offset ps → ps ≡ [] → offset ≡ 0
at_start offset [] h e = h
at_start offset (p ∷ ps) h e = absurd (cc)

pub within_push : (offset : ℕ) (ps : List Put) (p : Put) → IsWithinFirst offset ps → IsWithinFirst offset (ps ++ p ∷ [])
within_push offset [] p h = (let z = h in omega arith)
within_push offset (q ∷ ps) p h = h

pub owed_length : (offset : ℕ) (ps : List Put) → length (owed_of offset ps) ≡ length ps
owed_length offset [] = refl
owed_length offset (p ∷ ps) = ap suc (length-map ps bytes_of)
