-- Bodies of copies, record by record.
use Rattle.std.proofs.Common.{◌≡◌, ℕ, ◌+◌, ◌<◌, ◌≤◌, Bool, false, List, [], ◌∷◌, ◌++◌, length, take, drop, refl, sym, ◌∙◌, ap, subst, arith, length-append}
use Rattle.std.proofs.lemmas.List.{append-nil}
use mathlib.Core.Logic.{dite}
use native.Mathlib.Decide.{dec_le}
use Rattle.store_model.specs.CrashModel.{DiskState}
use Rattle.store_model.specs.declared.limits.TheConstants.{MAX_BODY}
use Rattle.rrv_model.specs.declared.limits.TheConstants.{BATCH_ITEMS}
use Rattle.rrv_model.specs.declared.record.Record.{Record}
use Rattle.rrv_model.specs.RecordText.{record_text, HasText}
use Rattle.rrv_model.specs.Recovered.{body_text, of_guest, IsOld}
use Rattle.rrv_model.proofs.RecoveredLaws.{some_text, text_append}
use Rattle.rrv_model.proofs.TextSizes.{text_fits}
use Rattle.recover.specs.declared.spot.Spot.{Spot}
use Rattle.recover.specs.Spots.{records_of, StandIn, StandOn}
use Rattle.trace_disk.specs.Devices.{Device, IsOnlyRead}
use Rattle.copying.specs.Copied.{copies_of, AreCopies}
use Rattle.copying.specs.Reading.{IsNextBody, IsReadAs}
use Rattle.copying.proofs.Numbered.{copies_append, copies_none, copies_one, take_next}

-- The text of so many records, as `IsNextBody` has it. There may be none.
pub record HasRead {S : Type 0} (device : Device S) (source : S) (spots : List Spot) (guest from number : ℕ) (marked : Bool)
    (body : List ℕ) (count : ℕ) : Type 0 where
  pub batch : List Record
  pub count_is : length batch ≡ count
  pub body_is : body ≡ body_text batch
  pub fits : length body ≤ MAX_BODY
  pub are : AreCopies marked number from batch
  pub read : StandOn device.honest device.state source spots → batch ≡ take count (drop from (copies_of number guest spots))

-- none of the records that were read, and yet there is no room for the next: that can't be
no_first : (batch : List Record) (body : List ℕ) (r : Record) → length batch ≡ 0 → body ≡ body_text batch → HasText r →
    MAX_BODY < length (body ++ record_text r) → ⊥
no_first [] body r none is has past =
    let long : length (body ++ record_text r) ≡ length (record_text r) = ap (λ (l : List ℕ). length (l ++ record_text r)) is in
    let most = text_fits r has in
    omega arith
no_first (q ∷ batch) body r none is has past = absurd (omega arith)

-- the text of some records isn't empty
some_text_of : (batch : List Record) (body : List ℕ) → 1 ≤ length batch → body ≡ body_text batch → 1 ≤ length body
some_text_of [] body some is = absurd (omega arith)
some_text_of (r ∷ batch) body some is = subst (λ (l : List ℕ). 1 ≤ length l) (sym is) (some_text r (body_text batch))

module _ {S : Type 0} (device : Device S) where
  -- ---- a disk that is only read

  pub only_none : (source : S) → IsOnlyRead device source source
  only_none source = record { state = λ h. refl; honest = (λ h. h, λ h. h); size = refl }

  pub only_on : (a b c : S) → IsOnlyRead device a b → IsOnlyRead device b c → IsOnlyRead device a c
  only_on a b c first second = record {
    state = λ h. second.state (first.honest.1 h) ∙ first.state h;
    honest = (λ h. first.honest.0 (second.honest.0 h), λ h. second.honest.1 (first.honest.1 h));
    size = second.size ∙ first.size;
  }

  pub still_on : (old new : S) (spots : List Spot) → IsOnlyRead device old new → StandOn device.honest device.state old spots →
      StandOn device.honest device.state new spots
  still_on old new spots only on = record {
    is_honest = only.honest.1 on.is_honest;
    stand = subst (λ (s : DiskState). StandIn s.content spots) (sym (only.state on.is_honest)) on.stand;
  }

  -- ---- a body

  pub read_none : (source : S) (spots : List Spot) (guest from number : ℕ) (marked : Bool) (body : List ℕ) → body ≡ [] →
      HasRead device source spots guest from number marked body 0
  read_none source spots guest from number marked body is = record {
    batch = [];
    count_is = refl;
    body_is = is;
    fits = (let e : length body ≡ 0 = ap length is in omega arith);
    are = copies_none marked number from;
    read = λ on. refl;
  }

  -- the next record is added
  pub read_more : (source now : S) (spots : List Spot) (guest from number : ℕ) (marked : Bool) (first new : List ℕ) (count : ℕ) (r : Record)
      → HasRead device source spots guest from number marked first count → IsOnlyRead device source now
      → IsReadAs device now spots guest (from + count) number r → (marked ≡ false → IsOld r.item) → new ≡ first ++ record_text r →
      length new ≤ MAX_BODY
      → HasRead device source spots guest from number marked new (count + 1)
  read_more source now spots guest from number marked first new count r h only is old longer fits = record {
    batch = h.batch ++ r ∷ [];
    count_is = (let e = h.count_is in omega (arith, length-append h.batch (r ∷ [])));
    body_is = longer ∙ ap (λ (l : List ℕ). l ++ record_text r) h.body_is
        ∙ sym (text_append h.batch (r ∷ []) ∙ ap (λ (l : List ℕ). body_text h.batch ++ l) (append-nil (record_text r)));
    fits = fits;
    are = copies_append number from (from + count) h.batch (r ∷ []) h.are (ap (λ (n : ℕ). from + n) (sym h.count_is))
        (copies_one marked number (from + count) r is.guest_is is.index_is is.opens is.text old);
    read = λ on. ap (λ (l : List Record). l ++ r ∷ []) (h.read on)
        ∙ sym (take_next (copies_of number guest spots) from count r (is.read (still_on source now spots only on)));
  }

  -- that is all, of some
  pub next_body : (source : S) (spots : List Spot) (guest from number : ℕ) (marked : Bool) (body : List ℕ) (count : ℕ) →
      HasRead device source spots guest from number marked body count → 1 ≤ count → count ≤ BATCH_ITEMS
      → from + count ≤ length (of_guest guest (records_of spots)) → IsNextBody device source spots guest from number marked body count
  next_body source spots guest from number marked body count h some few within = record {
    batch = h.batch;
    some = some;
    few = few;
    within = within;
    count_is = h.count_is;
    body_is = h.body_is;
    fits = h.fits;
    are = h.are;
    read = h.read;
  }

  -- the next record doesn't fit: there is one before it
  pub some_before : (source : S) (spots : List Spot) (guest from number : ℕ) (marked : Bool) (body : List ℕ) (count : ℕ) (r : Record) →
      HasRead device source spots guest from number marked body count → HasText r → MAX_BODY < length (body ++ record_text r) → 1 ≤ count
  some_before source spots guest from number marked body count r h has past = dite (dec_le 1 count) (λ some. some)
      (λ no. absurd (no_first h.batch body r (let e = h.count_is in omega arith) h.body_is has past))

  -- and the body isn't empty
  pub some_of_body : (source : S) (spots : List Spot) (guest from number : ℕ) (marked : Bool) (body : List ℕ) (count : ℕ) →
      IsNextBody device source spots guest from number marked body count → 1 ≤ length body
  some_of_body source spots guest from number marked body count b =
      some_text_of b.batch body (let p = b.some in let q = b.count_is in omega arith) b.body_is
