-- Records of one number, after those of lower numbers.
use Rattle.std.proofs.Common.{◌≡◌, ◌≢◌, inl, inr, ℕ, zero, suc, ◌+◌, ◌<◌, ◌≤◌, ◌==◌, Bool, true, false, cond, List, [], ◌∷◌, ◌++◌, length, take, drop, get_or, refl, sym, ◌∙◌, ap, subst, arith, length-drop, Some}
use Rattle.std.specs.Prelude.{max, slice_get, Option}
use Rattle.std.specs.Option.{option_map}
use Rattle.std.specs.List.{AllByRecursion}
use Rattle.std.proofs.lemmas.Bool.Decides.{eqb_tells}
use Rattle.std.proofs.lemmas.List.{append-nil, get_or-drop, take_more}
use Rattle.std.proofs.lemmas.Option.{get_or_from_slice_get, slice_get-map, slice_get_within}
use Rattle.outcomes.proofs.Lists.{AllByRecursion-append}
use Rattle.rrv_model.specs.declared.record.Item.{Item}
use Rattle.rrv_model.specs.declared.record.Record.{Record}
use Rattle.rrv_model.specs.RecordText.{HasText}
use Rattle.rrv_model.specs.Recording.{items_of, IsNumbered, IsRecording, Starts}
use Rattle.rrv_model.specs.Recovered.{IsOld, next_guest, of_guest, AreInOrder, OpensAtZero}
use Rattle.rrv_model.proofs.RecoveredLaws.{of_guest-append}
use Rattle.copying.specs.Copied.{numbered, renumbered, AreCopies}

-- ---- lists

-- one more of the elements from a place on
pub take_next : {X : Type 0} (xs : List X) (from count : ℕ) (x : X) → slice_get xs (from + count) ≡ Some x →
    take (count + 1) (drop from xs) ≡ take count (drop from xs) ++ x ∷ []
take_next {X = X} xs from count x found =
    let within : from + count < length xs = slice_get_within xs (from + count) x found in
    let low : count < length (drop from xs) = omega (arith, within, length-drop from xs) in
    let there : get_or (drop from xs) count x ≡ x =
    get_or-drop from xs count x ∙ get_or_from_slice_get xs (from + count) x x found in
    take_more (drop from xs) count x low ∙ ap (λ (y : X). take count (drop from xs) ++ y ∷ []) there

all_at : {X : Type 0} (P : X → Type 0) (xs : List X) (i : ℕ) (x : X) → AllByRecursion P xs → slice_get xs i ≡ Some x → P x
all_at P [] i x all e = cc
all_at P (y ∷ xs) zero x all e = let same : y ≡ x = cc in subst P same all.0
all_at P (y ∷ xs) (suc i) x all e = all_at P xs i x all.1 e

all_if : {X : Type 0} (P : X → Type 0) (b : Bool) (x : X) (xs : List X) → P x → AllByRecursion P xs → AllByRecursion P (cond b (x ∷ xs) xs)
all_if P true x xs h all = (h, all)
all_if P false x xs h all = all

-- ---- the records of a guest

opened_of_guest : (guest : ℕ) (rs : List Record) → AllByRecursion OpensAtZero rs → AllByRecursion OpensAtZero (of_guest guest rs)
opened_of_guest guest [] all = tt
opened_of_guest guest (r ∷ rs) all =
    all_if OpensAtZero (r.guest == guest) r (of_guest guest rs) all.0 (opened_of_guest guest rs all.1)

-- a guest's record opens at 0 alone
pub opens_there : (rs : List Record) (guest index : ℕ) (r : Record) → AreInOrder rs → slice_get (of_guest guest rs) index ≡ Some r →
    OpensAtZero r
opens_there rs guest index r order found =
    all_at OpensAtZero (of_guest guest rs) index r (opened_of_guest guest rs order.opened) found

-- all records of a number are that guest's
own_all : (number from : ℕ) (rs : List Record) → IsNumbered number from rs → of_guest number rs ≡ rs
own_all number from [] h = refl
own_all number from (r ∷ rs) h = elim (eqb_tells r.guest number) [
  | inl same ↦ ap (λ (b : Bool). cond b (r ∷ of_guest number rs) (of_guest number rs)) same.0
      ∙ ap (λ (l : List Record). r ∷ l) (own_all number (from + 1) rs h.2)
  | inr other ↦ absurd (other.1 h.0)
]

-- and another's is none of them
own_none : (number guest from : ℕ) (rs : List Record) → guest ≢ number → IsNumbered number from rs → of_guest guest rs ≡ []
own_none number guest from [] other h = refl
own_none number guest from (r ∷ rs) other h = elim (eqb_tells r.guest guest) [
  | inl same ↦ absurd (other (sym same.1 ∙ h.0))
  | inr differs ↦ ap (λ (b : Bool). cond b (r ∷ of_guest guest rs) (of_guest guest rs)) differs.0
      ∙ own_none number guest (from + 1) rs other h.2
]

-- a number above all has no records
low_none : (rs : List Record) (number : ℕ) → next_guest rs ≤ number → of_guest number rs ≡ []
low_none [] number le = refl
low_none (r ∷ rs) number le = elim (eqb_tells r.guest number) [
  | inl same ↦ absurd (let e = same.1 in omega arith)
  | inr differs ↦ ap (λ (b : Bool). cond b (r ∷ of_guest number rs) (of_guest number rs)) differs.0 ∙ low_none rs number (omega arith)
]

-- after records of lower numbers, those of the number are the copies
pub copied_are : {marked : Bool} (earlier copied : List Record) (number : ℕ) → next_guest earlier ≤ number →
    AreCopies marked number 0 copied →
    of_guest number (earlier ++ copied) ≡ copied
copied_are earlier copied number below are =
    of_guest-append number earlier copied ∙ ap (λ (l : List Record). l ++ of_guest number copied) (low_none earlier number below)
    ∙ own_all number 0 copied are.numbered

-- and other guests have what they had
pub others_are : {marked : Bool} (earlier copied : List Record) (number guest : ℕ) → guest ≢ number → AreCopies marked number 0 copied →
    of_guest guest (earlier ++ copied) ≡ of_guest guest earlier
others_are earlier copied number guest other are =
    of_guest-append guest earlier copied
    ∙ ap (λ (l : List Record). of_guest guest earlier ++ l) (own_none number guest 0 copied other are.numbered)
    ∙ append-nil (of_guest guest earlier)

-- ---- the next guest

pub next_guest-append : (xs ys : List Record) → next_guest (xs ++ ys) ≡ max (next_guest xs) (next_guest ys)
next_guest-append [] ys = omega arith
next_guest-append (r ∷ xs) ys = let e = next_guest-append xs ys in omega arith

next_of_own : (number from : ℕ) (rs : List Record) → IsNumbered number from rs → next_guest rs ≤ number + 1
next_of_own number from [] h = omega arith
next_of_own number from (r ∷ rs) h = let e = h.0 in let rest = next_of_own number (from + 1) rs h.2 in omega arith

-- copies are below the number after theirs
pub copies_low : {marked : Bool} (earlier copied : List Record) (number : ℕ) → next_guest earlier ≤ number →
    AreCopies marked number 0 copied →
    next_guest (earlier ++ copied) ≤ number + 1
copies_low earlier copied number below are =
    let own = next_of_own number 0 copied are.numbered in
    let all = next_guest-append earlier copied in
    omega arith

-- ---- copies

numbered_append : (number from middle : ℕ) (xs ys : List Record) → IsNumbered number from xs → middle ≡ from + length xs →
    IsNumbered number middle ys → IsNumbered number from (xs ++ ys)
numbered_append number from middle [] ys h is k =
    let e : middle ≡ from = omega (arith, is) in subst (λ (n : ℕ). IsNumbered number n ys) e k
numbered_append number from middle (x ∷ xs) ys h is k =
    (h.0, h.1, numbered_append number (from + 1) middle xs ys h.2 (omega (arith, is)) k)

-- so many copies, and those after them
pub copies_append : {marked : Bool} (number from middle : ℕ) (xs ys : List Record) → AreCopies marked number from xs →
    middle ≡ from + length xs →
    AreCopies marked number middle ys → AreCopies marked number from (xs ++ ys)
copies_append number from middle xs ys first is rest = record {
  numbered = numbered_append number from middle xs ys first.numbered is rest.numbered;
  opened = AllByRecursion-append OpensAtZero xs ys first.opened rest.opened;
  texts = AllByRecursion-append HasText xs ys first.texts rest.texts;
  old = λ unmarked. AllByRecursion-append (λ (r : Record). IsOld r.item) xs ys (first.old unmarked) (rest.old unmarked);
}

pub copies_none : (marked : Bool) (number from : ℕ) → AreCopies marked number from []
copies_none marked number from = record { numbered = tt; opened = tt; texts = tt; old = λ _. tt }

pub copies_one : (marked : Bool) (number from : ℕ) (r : Record) → r.guest ≡ number → r.index ≡ from → OpensAtZero r → HasText r →
    (marked ≡ false → IsOld r.item) →
    AreCopies marked number from (r ∷ [])
copies_one marked number from r guest index opens text old =
    record { numbered = (guest, index, tt); opened = (opens, tt); texts = (text, tt); old = λ unmarked. (old unmarked, tt) }

-- records in order, and then copies under a number above theirs
pub copies_in_order : {marked : Bool} (earlier copied : List Record) (number : ℕ) → next_guest earlier ≤ number → AreInOrder earlier →
    AreCopies marked number 0 copied → AreInOrder (earlier ++ copied)
copies_in_order earlier copied number below order are = record {
  numbered = λ guest. elim (eqb_tells guest number) [
    | inl same ↦ subst (λ (n : ℕ). IsNumbered n 0 (of_guest n (earlier ++ copied))) (sym same.1)
        (subst (IsNumbered number 0) (sym (copied_are earlier copied number below are)) are.numbered)
    | inr other ↦ subst (IsNumbered guest 0) (sym (others_are earlier copied number guest other.1 are)) (order.numbered guest)
  ];
  opened = AllByRecursion-append OpensAtZero earlier copied order.opened are.opened;
}

-- ---- under another number

-- the record, of this number and this index
abbrev named : ℕ → ℕ → Item → Record
named number index item = record { guest = number; index = index; item = item }

-- what was read of a guest is its copy's
pub read_again : (rs : List Record) (number index : ℕ) (r : Record) → r.index ≡ index → slice_get rs index ≡ Some r →
    slice_get (renumbered number rs) index ≡ Some (named number index r.item)
read_again rs number index r is found =
    slice_get-map (numbered number) rs index ∙ ap (λ (o : Option Record). option_map (numbered number) o) found
    ∙ ap (λ (i : ℕ). Some (named number i r.item)) is

numbered_again : (number guest from : ℕ) (rs : List Record) → IsNumbered guest from rs → IsNumbered number from (renumbered number rs)
numbered_again number guest from [] h = tt
numbered_again number guest from (r ∷ rs) h = (refl, h.1, numbered_again number guest (from + 1) rs h.2)

same_items : (number : ℕ) (rs : List Record) → items_of (renumbered number rs) ≡ items_of rs
same_items number [] = refl
same_items number (r ∷ rs) = ap (λ (l : List Item). r.item ∷ l) (same_items number rs)

-- a recording is one under each number
pub recording_again : (records : List Record) (number : ℕ) → IsRecording records → IsRecording (renumbered number records)
recording_again records number h = record {
  guest = number;
  numbered = numbered_again number h.guest 0 records h.numbered;
  starts = subst Starts (sym (same_items number records)) h.starts;
}
