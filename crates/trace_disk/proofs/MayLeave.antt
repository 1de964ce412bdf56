-- What a read gives stays among what a crash may leave.
use Rattle.std.proofs.Common.{◌≡◌, ◌⊎◌, inl, inr, ⊎_elim, ℕ, ◌+◌, ◌-◌, ◌<◌, ◌≤◌, List, [], ◌∷◌, ◌++◌, length, get_or, take, drop, refl, ◌∙◌, ap, arith, length-append, length-drop}
use Rattle.std.proofs.lemmas.List.{length-take, get_or-take, get_or-drop, get_or_append_left, get_or-append_right}
use Rattle.store_model.specs.CrashModel.{Pending, IsCrash, IsTouched, all_synced}
use Rattle.store_model.specs.DiskCalls.{overwritten, pending_write, pending_cut}

touched_before : (ranges : List (ℕ × ℕ)) (range : ℕ × ℕ) (place : ℕ) → IsTouched ranges place → IsTouched (ranges ++ range ∷ []) place
touched_before [] range place touched = absurd touched
touched_before (r ∷ ranges) range place (inl here) = inl here
touched_before (r ∷ ranges) range place (inr there) = inr (touched_before ranges range place there)

touched_last : (ranges : List (ℕ × ℕ)) (range : ℕ × ℕ) (place : ℕ) → range.0 ≤ place → place < range.0 + range.1 →
    IsTouched (ranges ++ range ∷ []) place
touched_last [] range place a b = inl (a, b)
touched_last (r ∷ ranges) range place a b = inr (touched_last ranges range place a b)

-- outside the range of a write the bytes stay
outside : (content bytes : List ℕ) (place k : ℕ) → k < length content → (k < place) ⊎ ((place ≤ k) × (place + length bytes ≤ k)) →
    get_or (overwritten content place bytes) k 0 ≡ get_or content k 0
outside content bytes place k h (inl below) =
    let front : k < length (take place content) = omega (arith, length-take place content) in
    get_or_append_left (take place content ++ bytes) (drop (place + length bytes) content) 0 k
    (omega (arith, length-append (take place content) bytes))
    ∙ get_or_append_left (take place content) bytes 0 k front ∙ get_or-take place content k 0 below
outside content bytes place k h (inr above) =
    let long : length (take place content ++ bytes) ≡ place + length bytes =
    omega (arith, length-append (take place content) bytes, length-take place content, above.0) in
    get_or-append_right (take place content ++ bytes) (drop (place + length bytes) content) (place + length bytes) k 0 long above.1
    ∙ get_or-drop (place + length bytes) content (k - (place + length bytes)) 0 ∙ ap (λ n. get_or content n 0) (omega (arith, above.1))

-- a number is below the range, in it, or above
where_is : (place count k : ℕ) → ((k < place) ⊎ ((place ≤ k) × (place + count ≤ k))) ⊎ ((place ≤ k) × (k < place + count))
where_is place count k = grind arith

pub reads_write : (pending : Pending) (content bytes : List ℕ) (place : ℕ) → IsCrash pending content →
    IsCrash (pending_write pending place (length bytes)) (overwritten content place bytes)
reads_write pending content bytes place crash =
    let long = length-append (take place content ++ bytes) (drop (place + length bytes) content) in
    let front = length-append (take place content) bytes in
    let taken = length-take place content in
    let rest = length-drop (place + length bytes) content in
    let low = crash.no_shorter in
    let high = crash.no_longer in
    record {
      no_shorter = omega arith;
      no_longer = omega arith;
      kept = λ k h untouched. ⊎_elim
          (λ out. outside content bytes place k (omega arith) out
          ∙ crash.kept k h (λ touched. untouched (touched_before pending.touched _ k touched)))
          (λ (inside : (place ≤ k) × (k < place + length bytes)). absurd
          (untouched (touched_last pending.touched (place, length bytes) k inside.0 inside.1)))
          (where_is place (length bytes) k);
    }

pub reads_cut : (pending : Pending) (content : List ℕ) (size : ℕ) → IsCrash pending content →
    IsCrash (pending_cut pending size) (take size content)
reads_cut pending content size crash =
    let taken = length-take size content in
    let low = crash.no_shorter in
    let high = crash.no_longer in
    record {
      no_shorter = omega arith;
      no_longer = omega arith;
      kept = λ k h untouched. get_or-take size content k 0 (omega arith) ∙ crash.kept k (omega arith) untouched;
    }

pub reads_synced : (content : List ℕ) → IsCrash (all_synced content) content
reads_synced content = record { no_shorter = omega arith; no_longer = omega arith; kept = λ k h untouched. refl }
