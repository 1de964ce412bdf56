-- What a crash leaves while a store is opened.
use Rattle.std.proofs.Common.{◌≡◌, ◌⊎◌, inl, inr, ⊎_elim, ℕ, ◌+◌, ◌≤◌, Bool, cond, List, [], ◌∷◌, ◌++◌, length, take, drop, get_or, refl, ap, arith, sym, subst, ◌∙◌, append_assoc, length-append, take-append-drop}
use Rattle.std.specs.List.{AllByRecursion}
use Rattle.std.proofs.lemmas.List.{take_at, drop_at, drop_more, take-take}
use Rattle.std.proofs.lemmas.Bool.Decides.{eqb_tells}
use Rattle.store_model.specs.CrashModel.{Pending, IsCrash, DiskState, all_synced}
use Rattle.store_model.specs.DiskCalls.{IsTorn, FailsToWrite, FailsToCut, after_write, after_cut, after_sync, overwritten, pending_write, pending_cut}
use Rattle.store_model.specs.StoreText.{header, segments, IsBody, IsStore, IsNextSegment}
use Rattle.store_model.specs.StoreCalls.{after_disk_calls, IsWithin, tail_calls, gate_calls, open_calls, commit_calls}
use Rattle.store_model.specs.StoreCalls.DiskCall.{Write, Sync}
use Rattle.store_model.proofs.CrashLaws.{crash_synced, crash_torn, crash_cut}
use Rattle.store_model.proofs.StoreLaws.{store_parts}
use Rattle.commit_core.specs.World.{IsAtRest, store_text, closed_store}
use Rattle.commit_core.specs.Sessions.{Gives, IsStoreOf}
use Rattle.commit_core.proofs.Stages.{IsCommittable, crash_failed, crash_failed_cut, closed_store_of, ajar_store_of, text_of_store, outcome_store_of, outcome_within, commit_end}

-- where the last gate stands
place_is : (bodies : List (List ℕ)) → length (header ++ segments 0 bodies) ≡ length (store_text bodies)
unfolding store_text
place_is bodies = refl

-- ---- one byte of a text

-- a write of one byte leaves any byte there, and the rest as it was
torn_byte : (front behind : List ℕ) (gate : ℕ) (c : List ℕ) → IsTorn (length front) 1 (front ++ gate ∷ behind) c → (g : ℕ) ×
    (c ≡ front ++ g ∷ behind)
torn_byte front behind gate c torn =
    let place = length front in
    let first : take place c ≡ front = torn.before ∙ take_at front (gate ∷ behind) place refl in
    let size = length-append front (gate ∷ behind) in
    let back : drop (place + 1) (front ++ gate ∷ behind) ≡ behind =
    ap (λ (l : List ℕ). drop (place + 1) l) (sym (append_assoc front (gate ∷ []) behind))
    ∙ drop_at (front ++ gate ∷ []) behind (place + 1) (length-append front (gate ∷ [])) in
    let rest : drop place c ≡ get_or c place 0 ∷ behind =
    drop_more c place 0 (omega (arith, torn.no_shorter, size)) ∙ ap (λ (l : List ℕ). get_or c place 0 ∷ l) (torn.after ∙ back) in
    (get_or c place 0, sym (take-append-drop place c) ∙ ap (λ (l : List ℕ). l ++ drop place c) first ∙ ap (λ (l : List ℕ). front ++ l) rest)

written_byte : (front behind : List ℕ) (gate byte : ℕ) →
    overwritten (front ++ gate ∷ behind) (length front) (byte ∷ []) ≡ front ++ byte ∷ behind
written_byte front behind gate byte =
    let place = length front in
    let back : drop (place + 1) (front ++ gate ∷ behind) ≡ behind =
    ap (λ (l : List ℕ). drop (place + 1) l) (sym (append_assoc front (gate ∷ []) behind))
    ∙ drop_at (front ++ gate ∷ []) behind (place + 1) (length-append front (gate ∷ [])) in
    ap (λ (l : List ℕ). l ++ (byte ∷ []) ++ drop (place + 1) (front ++ gate ∷ behind)) (take_at front (gate ∷ behind) place refl)
    ∙ ap (λ (l : List ℕ). front ++ (byte ∷ []) ++ l) back
    ∙ append_assoc front (byte ∷ []) behind

-- ---- a disk that can be opened at each moment

-- a closed gate, or a whole segment behind the gate, with which the bodies are as `fine` says
abbrev Next : (List (List ℕ) → Type 0) → List (List ℕ) → ℕ → List ℕ → Type 0
Next fine bodies gate behind = (gate ≡ 0) ⊎ ((segment : IsNextSegment (length bodies) behind) × fine (bodies ++ segment.body ∷ []))

module _ (fine : List (List ℕ) → Type 0) where
  -- a read and every crash give what can be opened
  abbrev pub Good : DiskState → Type 0
  Good disk = (c : List ℕ) → Gives disk c → IsStoreOf fine c

  pub good_rest : (disk : DiskState) (bytes : List ℕ) → IsAtRest disk bytes → IsStoreOf fine bytes → Good disk
  good_rest disk bytes rest is c (inl same) = subst (IsStoreOf fine) (sym (same ∙ rest.read)) is
  good_rest disk bytes rest is c (inr crash) =
      subst (IsStoreOf fine) (sym (crash_synced bytes c (subst (λ (p : Pending). IsCrash p c) rest.synced crash))) is

  pub at_rest_after_sync : (disk : DiskState) (bytes : List ℕ) → disk.content ≡ bytes → IsAtRest (after_sync disk) bytes
  at_rest_after_sync disk bytes is = record { read = is; synced = ap all_synced is }

  module _ (bodies : List (List ℕ)) (sizes : AllByRecursion IsBody bodies) (few : length bodies ≤ 4294967295) (are : fine bodies) where
    abbrev place : ℕ
    place = length (store_text bodies)

    closed_text : (behind : List ℕ) → store_text bodies ++ 0 ∷ behind ≡ closed_store bodies ++ behind
    closed_text behind = sym (append_assoc (store_text bodies) (0 ∷ []) behind)

    closed_size : length (closed_store bodies) ≡ place + 1
    closed_size = length-append (store_text bodies) (0 ∷ [])

    -- what keeps the closed gate and all before it can be opened
    kept_front : (behind c : List ℕ) → take (place + 1) c ≡ take (place + 1) (store_text bodies ++ 0 ∷ behind) → IsStoreOf fine c
    kept_front behind c same =
        let start : take (place + 1) c ≡ closed_store bodies =
        same ∙ ap (λ (l : List ℕ). take (place + 1) l) (closed_text behind)
        ∙ take_at (closed_store bodies) behind (place + 1) closed_size in
        closed_store_of fine c (drop (place + 1) c) bodies sizes few are
        (sym (take-append-drop (place + 1) c) ∙ ap (λ (l : List ℕ). l ++ drop (place + 1) c) start
        ∙ append_assoc (store_text bodies) (0 ∷ []) (drop (place + 1) c))

    module _ (disk : DiskState) (behind : List ℕ) (rest : IsAtRest disk (store_text bodies ++ 0 ∷ behind)) where
      good_closed : Good disk
      good_closed =
          good_rest disk (store_text bodies ++ 0 ∷ behind) rest
          (closed_store_of fine (store_text bodies ++ 0 ∷ behind) behind bodies sizes few are refl)

      long : place + 1 ≤ length (store_text bodies ++ 0 ∷ behind)
      long = omega (arith, length-append (store_text bodies) (0 ∷ behind))

      cut_crash : (c : List ℕ) → IsCrash (pending_cut disk.pending (place + 1)) c → IsStoreOf fine c
      cut_crash c crash = kept_front behind c
          (crash_cut (store_text bodies ++ 0 ∷ behind) (place + 1) long c
          (subst (λ (p : Pending). IsCrash (pending_cut p (place + 1)) c) rest.synced crash)).front

      cut_text : take (place + 1) disk.content ≡ closed_store bodies
      cut_text = ap (λ (l : List ℕ). take (place + 1) l) (rest.read ∙ closed_text behind)
          ∙ take_at (closed_store bodies) behind (place + 1) closed_size

      good_cut : Good (after_cut disk (place + 1))
      good_cut c (inl is) =
          subst (IsStoreOf fine) (sym (is ∙ cut_text)) (closed_store_of fine (closed_store bodies) [] bodies sizes few are refl)
      good_cut c (inr crash) = cut_crash c crash

      cut_fails : (new : DiskState) → FailsToCut (place + 1) disk new → Good new
      cut_fails new failed c (inl is) =
          let short = failed.content in
          kept_front behind c (ap (λ (l : List ℕ). take (place + 1) l) (is ∙ sym short.front)
          ∙ take-take (place + 1) (length new.content) disk.content (omega (arith, short.no_shorter))
          ∙ ap (λ (l : List ℕ). take (place + 1) l) rest.read)
      cut_fails new failed c (inr crash) =
          ⊎_elim (λ before. good_closed c (inr before)) (cut_crash c) (crash_failed_cut (place + 1) disk new failed c crash)

      after_cut_rest : IsAtRest (after_sync (after_cut disk (place + 1))) (closed_store bodies)
      after_cut_rest = at_rest_after_sync (after_cut disk (place + 1)) (closed_store bodies) cut_text

    good_tail : (behind : List ℕ) (disk : DiskState) → IsAtRest disk (store_text bodies ++ 0 ∷ behind) → (end : DiskState) →
        IsWithin disk (tail_calls place behind) end → Good end
    good_tail [] disk rest end is = subst Good (sym is) (good_closed disk [] rest)
    good_tail (x ∷ behind) disk rest end (inl is) = subst Good (sym is) (good_closed disk (x ∷ behind) rest)
    good_tail (x ∷ behind) disk rest end (inr (inl failed)) = cut_fails disk (x ∷ behind) rest end failed
    good_tail (x ∷ behind) disk rest end (inr (inr (inl is))) = subst Good (sym is) (good_cut disk (x ∷ behind) rest)
    good_tail (x ∷ behind) disk rest end (inr (inr (inr (inl is)))) = subst Good (sym is) (good_cut disk (x ∷ behind) rest)
    good_tail (x ∷ behind) disk rest end (inr (inr (inr (inr is)))) =
        subst Good (sym is) (good_closed (after_sync (after_cut disk (place + 1))) [] (after_cut_rest disk (x ∷ behind) rest))

    -- from a gate that isn't 00
    module _ (gate : ℕ) (behind : List ℕ) (next : IsNextSegment (length bodies) behind) (more : fine (bodies ++ next.body ∷ []))
        (disk : DiskState) (rest : IsAtRest disk (store_text bodies ++ gate ∷ behind)) where
      any_gate : (g : ℕ) (c : List ℕ) → c ≡ store_text bodies ++ g ∷ behind → IsStoreOf fine c
      any_gate g c text = ajar_store_of fine c behind g bodies sizes few are next more text

      good_now : Good disk
      good_now = good_rest disk (store_text bodies ++ gate ∷ behind) rest (any_gate gate (store_text bodies ++ gate ∷ behind) refl)

      within : place ≤ length (store_text bodies ++ gate ∷ behind)
      within = omega (arith, length-append (store_text bodies) (gate ∷ behind))

      torn_gate : (c : List ℕ) → IsTorn place 1 (store_text bodies ++ gate ∷ behind) c → IsStoreOf fine c
      torn_gate c torn = let byte = torn_byte (store_text bodies) behind gate c torn in any_gate byte.0 c byte.1

      gate_crash : (c : List ℕ) → IsCrash (pending_write disk.pending place 1) c → IsStoreOf fine c
      gate_crash c crash =
          torn_gate c (crash_torn (store_text bodies ++ gate ∷ behind) place 1 within c
          (subst (λ (p : Pending). IsCrash (pending_write p place 1) c) rest.synced crash))

      gate_text : (after_write disk place (0 ∷ [])).content ≡ store_text bodies ++ 0 ∷ behind
      gate_text = ap (λ (l : List ℕ). overwritten l place (0 ∷ [])) rest.read ∙ written_byte (store_text bodies) behind gate 0

      good_gate : Good (after_write disk place (0 ∷ []))
      good_gate c (inl is) = any_gate 0 c (is ∙ gate_text)
      good_gate c (inr crash) = gate_crash c crash

      gate_fails : (new : DiskState) → FailsToWrite place 1 disk new → Good new
      gate_fails new failed c (inl is) =
          torn_gate c (subst (λ (l : List ℕ). IsTorn place 1 l c) rest.read
          (subst (λ (l : List ℕ). IsTorn place 1 disk.content l) (sym is) failed.content))
      gate_fails new failed c (inr crash) =
          ⊎_elim (λ before. good_now c (inr before)) (gate_crash c) (crash_failed place 1 disk new failed c crash)

      good_write : (end : DiskState) → IsWithin disk (Write place (0 ∷ []) ∷ Sync ∷ tail_calls place behind) end → Good end
      good_write end (inl is) = subst Good (sym is) good_now
      good_write end (inr (inl failed)) = gate_fails end failed
      good_write end (inr (inr (inl is))) = subst Good (sym is) good_gate
      good_write end (inr (inr (inr (inl is)))) = subst Good (sym is) good_gate
      good_write end (inr (inr (inr (inr tail)))) =
          good_tail behind (after_sync (after_write disk place (0 ∷ [])))
          (at_rest_after_sync (after_write disk place (0 ∷ [])) (store_text bodies ++ 0 ∷ behind) gate_text) end tail

    good_calls : (gate : ℕ) (behind : List ℕ) (disk : DiskState) → IsAtRest disk (store_text bodies ++ gate ∷ behind)
        → (gate ≡ 0) ⊎ ((next : IsNextSegment (length bodies) behind) × fine (bodies ++ next.body ∷ []))
        → (end : DiskState) → IsWithin disk (gate_calls place gate ++ tail_calls place behind) end → Good end
    good_calls gate behind disk rest after end within = elim (eqb_tells gate 0) [
      | inl is ↦ good_tail behind disk (subst (λ (g : ℕ). IsAtRest disk (store_text bodies ++ g ∷ behind)) is.1 rest) end
          (subst (λ (b : Bool). IsWithin disk (cond b [] (Write place (0 ∷ []) ∷ Sync ∷ []) ++ tail_calls place behind) end) is.0 within)
      | inr shut ↦ ⊎_elim (λ is. absurd (shut.1 is))
          (λ next. good_write gate behind next.0 next.1 disk rest end
          (subst (λ (b : Bool). IsWithin disk (cond b [] (Write place (0 ∷ []) ∷ Sync ∷ []) ++ tail_calls place behind) end) shut.0 within))
          after
    ]

  -- each moment of `open`
  pub good_open : (disk : DiskState) → Good disk → (bodies : List (List ℕ)) (store : IsStore disk.content bodies) (end : DiskState)
      → IsWithin disk (open_calls disk.content bodies store) end → Good end
  good_open disk good bodies store end (inl is) = subst Good (sym is) good
  good_open disk good bodies store end (inr (inl is)) = subst Good (sym is) good
  good_open disk good bodies store end (inr (inr rest)) =
      let here = good disk.content (inl refl) in
      let same = store_parts disk.content here.bodies bodies here.store store in
      let are : fine bodies = subst fine same.0 here.are in
      good_calls bodies store.each store.count are store.gate store.behind (after_sync disk)
      (at_rest_after_sync disk (store_text bodies ++ store.gate ∷ store.behind) (text_of_store disk.content bodies store))
      (moved here.bodies bodies here.store.gate store.gate here.store.behind store.behind same.0 same.1 same.2 here.next) end
      (subst (λ (n : ℕ). IsWithin (after_sync disk) (gate_calls n store.gate ++ tail_calls n store.behind) end) (place_is bodies) rest)
    where
      moved : (xs ys : List (List ℕ)) (g h : ℕ) (p q : List ℕ) → xs ≡ ys → g ≡ h → p ≡ q → Next fine xs g p → Next fine ys h q
      moved xs ys g h p q a b c next =
          subst (λ (l : List ℕ). Next fine ys h l) c
          (subst (λ (n : ℕ). Next fine ys n p) b (subst (λ (l : List (List ℕ)). Next fine l g p) a next))

  -- each moment of a commit, where the bodies are as `fine` says, and with this one more
  pub good_within_commit : (disk : DiskState) (bodies : List (List ℕ)) (body : List ℕ) → IsAtRest disk (closed_store bodies) →
      AllByRecursion IsBody bodies → length bodies ≤ 4294967295 → IsCommittable bodies body → fine bodies → fine (bodies ++ body ∷ [])
      → (end : DiskState) → IsWithin disk (commit_calls (length (header ++ segments 0 bodies)) (length bodies) body) end → Good end
  good_within_commit disk bodies body rest sizes few can are more end within c gives =
      outcome_store_of bodies body sizes few fine are (λ _. more) c
      (outcome_within disk bodies body rest can end
      (subst (λ (n : ℕ). IsWithin disk (commit_calls n (length bodies) body) end) (place_is bodies) within) c gives)

-- ---- once its calls have answered

tail_end : (bodies : List (List ℕ)) (behind : List ℕ) (disk : DiskState) → IsAtRest disk (store_text bodies ++ 0 ∷ behind)
    → IsAtRest (after_disk_calls disk (tail_calls (length (store_text bodies)) behind)) (closed_store bodies)
tail_end bodies [] disk rest = rest
tail_end bodies (x ∷ behind) disk rest =
    let text : take (length (store_text bodies) + 1) disk.content ≡ closed_store bodies =
    ap (λ (l : List ℕ). take (length (store_text bodies) + 1) l) (rest.read ∙ sym (append_assoc (store_text bodies) (0 ∷ []) (x ∷ behind)))
    ∙ take_at (closed_store bodies) (x ∷ behind) (length (store_text bodies) + 1) (length-append (store_text bodies) (0 ∷ [])) in
    record { read = text; synced = ap all_synced text }

gate_end : (bodies : List (List ℕ)) (gate : ℕ) (behind : List ℕ) (disk : DiskState) → IsAtRest disk (store_text bodies ++ gate ∷ behind)
    → IsAtRest (after_disk_calls disk (gate_calls (length (store_text bodies)) gate ++ tail_calls (length (store_text bodies)) behind))
    (closed_store bodies)
gate_end bodies gate behind disk rest =
    let place = length (store_text bodies) in
    let P = λ (b : Bool). IsAtRest (after_disk_calls disk (cond b [] (Write place (0 ∷ []) ∷ Sync ∷ []) ++ tail_calls place behind))
    (closed_store bodies) in
    elim (eqb_tells gate 0) [
      | inl is ↦ subst P (sym is.0)
          (tail_end bodies behind disk (subst (λ (g : ℕ). IsAtRest disk (store_text bodies ++ g ∷ behind)) is.1 rest))
      | inr shut ↦ subst P (sym shut.0) (tail_end bodies behind (after_sync (after_write disk place (0 ∷ [])))
          (let text : (after_write disk place (0 ∷ [])).content ≡ store_text bodies ++ 0
          ∷ behind = ap (λ (l : List ℕ). overwritten l place (0 ∷ [])) rest.read ∙ written_byte (store_text bodies) behind gate 0 in
          record { read = text; synced = ap all_synced text }))
    ]

pub open_end : (disk : DiskState) (bodies : List (List ℕ)) (store : IsStore disk.content bodies) →
    IsAtRest (after_disk_calls disk (open_calls disk.content bodies store)) (closed_store bodies)
open_end disk bodies store =
    let text = text_of_store disk.content bodies store in
    subst (λ (n : ℕ). IsAtRest (after_disk_calls (after_sync disk) (gate_calls n store.gate ++ tail_calls n store.behind))
    (closed_store bodies)) (sym (place_is bodies))
    (gate_end bodies store.gate store.behind (after_sync disk) (record { read = text; synced = ap all_synced text }))

-- ---- once the calls of a commit have answered

pub committed : (disk : DiskState) (bodies : List (List ℕ)) (body : List ℕ) → IsAtRest disk (closed_store bodies) →
    IsCommittable bodies body →
    IsAtRest (after_disk_calls disk (commit_calls (length (header ++ segments 0 bodies)) (length bodies) body))
    (closed_store (bodies ++ body ∷ []))
committed disk bodies body rest can =
    subst (λ (n : ℕ). IsAtRest (after_disk_calls disk (commit_calls n (length bodies) body)) (closed_store (bodies ++ body ∷ [])))
    (sym (place_is bodies)) (commit_end disk bodies body rest can)
