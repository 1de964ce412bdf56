-- What a crash leaves at each stage of a commit, and how a stage follows another.
use Rattle.std.proofs.Common.{◌≡◌, ◌≢◌, ◌⊎◌, inl, inr, ⊎_elim, ℕ, ◌+◌, ◌<◌, ◌≤◌, List, [], ◌∷◌, ◌++◌, length, take, drop, get_or, refl, ap, arith, sym, subst, ◌∙◌, append_assoc, length-append, take-append-drop}
use Rattle.std.specs.List.{AllByRecursion}
use Rattle.std.proofs.lemmas.List.{append-nil, take_at, drop_at, drop_more, drop_all, take_all}
use Rattle.std.proofs.lemmas.Bool.{cases_eq}
use Rattle.rrv_model.specs.declared.record.Record.{Record}
use Rattle.store_model.specs.CrashModel.{Pending, IsCrash, DiskState, Leaves, moments, all_synced}
use Rattle.store_model.specs.DiskCalls.{IsTorn, FailsToWrite, FailsToCut, after_write, after_sync, overwritten, pending_write, pending_cut}
use Rattle.store_model.specs.StoreText.{header, segment, segments, IsBody, IsStore, IsNextSegment, IsSound}
use Rattle.rrv_model.specs.RecordText.{record_text}
use Rattle.rrv_model.specs.Recovered.{body_text}
use Rattle.store_model.specs.StoreCalls.{DiskCall, after_disk_calls, commit_calls, IsWithin}
use Rattle.store_model.proofs.StoreLaws.{segments_push}
use Rattle.store_model.proofs.CrashLaws.{crash_synced, crash_torn, torn_same}
use Rattle.commit_core.specs.World.{Stage, IsAtRest, store_text, closed_store}
use Rattle.commit_core.specs.World.Stage.{Idle, Written, Synced, Opened, Broken}
use Rattle.commit_core.specs.Sessions.{Gives, IsStoreOf}
use Rattle.outcomes.proofs.Lists.{AllByRecursion-push, head_is}

-- ---- one body more

pub store_text-push : (bodies : List (List ℕ)) (body : List ℕ) →
    store_text (bodies ++ body ∷ []) ≡ store_text bodies ++ 0xA5 ∷ segment (length bodies) body
unfolding store_text
store_text-push bodies body =
    ap (λ (l : List ℕ). header ++ l) (segments_push 0 bodies body ∙ ap (λ n. segments 0 bodies ++ 0xA5 ∷ segment n body) (omega arith))
    ∙ sym (append_assoc header (segments 0 bodies) (0xA5 ∷ segment (length bodies) body))

pub sound_by : (c behind : List ℕ) (gate : ℕ) (bodies : List (List ℕ)) → c ≡ store_text bodies ++ gate ∷ behind → gate ≢ 0xA5 →
    AllByRecursion IsBody bodies
    → length bodies ≤ 4294967295 → (gate ≡ 0) ⊎ IsNextSegment (length bodies) behind → IsSound c bodies
unfolding store_text
sound_by c behind gate bodies text not_open each count next = record {
  store = record { gate = gate; behind = behind; text = text; not_open = not_open; each = each; count = count };
  next = next;
}

pub store_of_by : (fine : List (List ℕ) → Type 0) (c behind : List ℕ) (gate : ℕ) (bodies : List (List ℕ)) →
    c ≡ store_text bodies ++ gate ∷ behind → gate ≢ 0xA5
    → AllByRecursion IsBody bodies → length bodies ≤ 4294967295 → fine bodies → (gate ≡ 0) ⊎
    ((segment : IsNextSegment (length bodies) behind) × fine (bodies ++ segment.body ∷ []))
    → IsStoreOf fine c
unfolding store_text
store_of_by fine c behind gate bodies text not_open each count are next = record {
  bodies = bodies;
  store = record { gate = gate; behind = behind; text = text; not_open = not_open; each = each; count = count };
  are = are;
  next = next;
}

-- a closed gate behind the bodies
pub closed_store_of : (fine : List (List ℕ) → Type 0) (c behind : List ℕ) (bodies : List (List ℕ)) → AllByRecursion IsBody bodies →
    length bodies ≤ 4294967295
    → fine bodies → c ≡ store_text bodies ++ 0 ∷ behind → IsStoreOf fine c
closed_store_of fine c behind bodies each count are text =
    store_of_by fine c behind 0 bodies text (λ e. absurd (omega (arith, e))) each count are (inl refl)

-- any gate before a whole segment and a closed gate
pub ajar_store_of : (fine : List (List ℕ) → Type 0) (c behind : List ℕ) (gate : ℕ) (bodies : List (List ℕ)) → AllByRecursion IsBody bodies →
    length bodies ≤ 4294967295
    → fine bodies → (segment : IsNextSegment (length bodies) behind) → fine (bodies ++ segment.body ∷ []) →
    c ≡ store_text bodies ++ gate ∷ behind → IsStoreOf fine c
ajar_store_of fine c behind gate bodies each count are next more text = elim (cases_eq gate 0xA5) [
  | inl is ↦ closed_store_of fine c next.rest (bodies ++ next.body ∷ []) (AllByRecursion-push IsBody bodies next.body each next.is_body)
      (omega (arith, length-append bodies (next.body ∷ []), next.few)) more
      (text ∙ ap (λ (g : ℕ). store_text bodies ++ g ∷ behind) is ∙ ap (λ (l : List ℕ). store_text bodies ++ 0xA5 ∷ l) next.text
      ∙ sym (append_assoc (store_text bodies) (0xA5 ∷ segment (length bodies) next.body) (0 ∷ next.rest))
      ∙ ap (λ (l : List ℕ). l ++ 0 ∷ next.rest) (sym (store_text-push bodies next.body)))
  | inr shut ↦ store_of_by fine c behind gate bodies text shut each count are (inr (next, more))
]

pub text_of_store : (bytes : List ℕ) (bodies : List (List ℕ)) (store : IsStore bytes bodies) →
    bytes ≡ store_text bodies ++ store.gate ∷ store.behind
unfolding store_text
text_of_store bytes bodies store = store.text

module _ (bodies : List (List ℕ)) (body : List ℕ) where
  -- what a commit writes behind the gate, and the store with it behind its closed gate
  abbrev pub tail : List ℕ
  tail = segment (length bodies) body ++ 0 ∷ []

  abbrev pub staged : List ℕ
  staged = store_text bodies ++ 0 ∷ tail

  abbrev pub place : ℕ
  place = length (store_text bodies)

  -- a closed gate behind the bodies, and anything behind it
  abbrev pub Closed : List ℕ → Type 0
  Closed c = (rest : List ℕ) × (c ≡ store_text bodies ++ 0 ∷ rest)

  -- any gate, and behind it the whole segment and a closed gate
  abbrev pub Ajar : List ℕ → Type 0
  Ajar c = (gate : ℕ) × (c ≡ store_text bodies ++ gate ∷ tail)

  abbrev pub IsCommittable : Type 0
  IsCommittable = IsBody body × (length bodies < 4294967295)

  abbrev pub Outcome : List ℕ → Type 0
  Outcome c = Closed c ⊎ (IsCommittable × Ajar c)

  pub length_closed : length (closed_store bodies) ≡ place + 1
  length_closed = length-append (store_text bodies) (0 ∷ [])

  pub length_staged : length staged ≡ place + 1 + length tail
  length_staged = length-append (store_text bodies) (0 ∷ tail) ∙ (omega arith)

  pub write_gives : overwritten (closed_store bodies) (place + 1) tail ≡ staged
  write_gives =
      ap (λ (l : List ℕ). l ++ tail ++ drop (place + 1 + length tail) (closed_store bodies))
      (take_all (place + 1) (closed_store bodies) (omega (arith, length_closed)))
      ∙ ap (λ (l : List ℕ). closed_store bodies ++ tail ++ l)
      (drop_all (place + 1 + length tail) (closed_store bodies) (omega (arith, length_closed)))
      ∙ append-nil (closed_store bodies ++ tail)
      ∙ append_assoc (store_text bodies) (0 ∷ []) tail

  drop_staged : drop (place + 1) staged ≡ tail
  drop_staged =
      ap (λ (l : List ℕ). drop (place + 1) l) (sym (append_assoc (store_text bodies) (0 ∷ []) tail))
      ∙ drop_at (closed_store bodies) tail (place + 1) length_closed

  with_body : store_text bodies ++ 0xA5 ∷ tail ≡ closed_store (bodies ++ body ∷ [])
  with_body = sym (append_assoc (store_text bodies) (0xA5 ∷ segment (length bodies) body) (0 ∷ []))
      ∙ ap (λ (l : List ℕ). l ++ 0 ∷ []) (sym (store_text-push bodies body))

  pub open_gives : overwritten staged place (0xA5 ∷ []) ≡ closed_store (bodies ++ body ∷ [])
  open_gives =
      ap (λ (l : List ℕ). l ++ (0xA5 ∷ []) ++ drop (place + 1) staged) (take_at (store_text bodies) (0 ∷ tail) place refl)
      ∙ ap (λ (l : List ℕ). store_text bodies ++ (0xA5 ∷ []) ++ l) drop_staged
      ∙ append_assoc (store_text bodies) (0xA5 ∷ []) tail
      ∙ with_body

  -- the closed gate stands in each outcome of the first write
  pub torn_closed : (count : ℕ) (c : List ℕ) → IsTorn (place + 1) count (closed_store bodies) c → Closed c
  torn_closed count c torn =
      let start : take (place + 1) c ≡ closed_store bodies = torn.before ∙ take_all _ _ (omega (arith, length_closed)) in (
        drop (place + 1) c,
        sym (take-append-drop (place + 1) c) ∙ ap (λ (l : List ℕ). l ++ drop (place + 1) c) start
            ∙ append_assoc (store_text bodies) (0 ∷ []) (drop (place + 1) c),
      )

  -- the segment stands whole in each outcome of the second write
  pub torn_ajar : (c : List ℕ) → IsTorn place 1 staged c → Ajar c
  torn_ajar c torn =
      let front : take place c ≡ store_text bodies = torn.before ∙ take_at (store_text bodies) (0 ∷ tail) place refl in
      let behind : drop place c ≡ get_or c place 0 ∷ tail =
      drop_more c place 0 (omega (arith, torn.no_shorter, length_staged))
      ∙ ap (λ (l : List ℕ). get_or c place 0 ∷ l) (torn.after ∙ drop_staged) in (
        get_or c place 0,
        sym (take-append-drop place c) ∙ ap (λ (l : List ℕ). l ++ drop place c) front
            ∙ ap (λ (l : List ℕ). store_text bodies ++ l) behind,
      )

  module _ (sizes : AllByRecursion IsBody bodies) (few : length bodies ≤ 4294967295) where
    more_sizes : IsCommittable → AllByRecursion IsBody (bodies ++ body ∷ [])
    more_sizes can = AllByRecursion-push IsBody bodies body sizes can.0

    more_few : IsCommittable → length (bodies ++ body ∷ []) ≤ 4294967295
    more_few can = omega (arith, length-append bodies (body ∷ []), can.1)

    next_is : IsCommittable → IsNextSegment (length bodies) tail
    next_is can = record { few = omega (arith, can.1); body = body; rest = []; text = refl; is_body = can.0 }

    opened_text : (c : List ℕ) (gate : ℕ) → c ≡ store_text bodies ++ gate ∷ tail → gate ≡ 0xA5 →
        c ≡ store_text (bodies ++ body ∷ []) ++ 0 ∷ []
    opened_text c gate text is = text ∙ ap (λ (g : ℕ). store_text bodies ++ g ∷ tail) is ∙ with_body

    pub closed_sound : (c : List ℕ) → Closed c → IsSound c bodies
    closed_sound c closed = sound_by c closed.0 0 bodies closed.1 (λ e. absurd (omega (arith, e))) sizes few (inl refl)

    pub sound_outcome : (c : List ℕ) → Outcome c → IsSound c bodies ⊎ IsSound c (bodies ++ body ∷ [])
    sound_outcome c (inl closed) = inl (closed_sound c closed)
    sound_outcome c (inr ajar) = elim (cases_eq ajar.1.0 0xA5) [
      | inl is ↦ inr
          (sound_by c [] 0 (bodies ++ body ∷ []) (opened_text c ajar.1.0 ajar.1.1 is) (λ e. absurd (omega (arith, e))) (more_sizes ajar.0)
          (more_few ajar.0) (inl refl))
      | inr shut ↦ inl (sound_by c tail ajar.1.0 bodies ajar.1.1 shut sizes few (inr (next_is ajar.0)))
    ]

    -- what an outcome is, where the bodies are as `fine` says, and with this one more
    pub outcome_store_of : (fine : List (List ℕ) → Type 0) → fine bodies → (IsCommittable → fine (bodies ++ body ∷ [])) → (c : List ℕ) →
        Outcome c → IsStoreOf fine c
    unfolding next_is
    outcome_store_of fine are more c (inl closed) = closed_store_of fine c closed.0 bodies sizes few are closed.1
    outcome_store_of fine are more c (inr ajar) =
        ajar_store_of fine c tail ajar.1.0 bodies sizes few are (next_is ajar.0) (more ajar.0) ajar.1.1

-- ---- calls that fail

-- a crash after a write that failed leaves what one before it, or one within the write, may leave
pub crash_failed : (place count : ℕ) (old new : DiskState) → FailsToWrite place count old new → (c : List ℕ) → IsCrash new.pending c
    → IsCrash old.pending c ⊎ IsCrash (pending_write old.pending place count) c
crash_failed place count old new failed c crash = at_end failed.passes.later failed.passes.goes_on failed.passes.each
  where
    during : Pending
    during = pending_write old.pending place count

    at_end : (later : List Pending) → moments new ≡ later ++ moments old →
        AllByRecursion (Leaves (IsCrash (pending_write old.pending place count))) later
        → IsCrash old.pending c ⊎ IsCrash (pending_write old.pending place count) c
    at_end [] is each = inl (subst (λ (p : Pending). IsCrash p c) (head_is _ _ _ _ is) crash)
    at_end (p ∷ later) is each = inr (each.0 c (subst (λ (q : Pending). IsCrash q c) (head_is _ _ _ _ is) crash))

pub crash_failed_cut : (size : ℕ) (old new : DiskState) → FailsToCut size old new → (c : List ℕ) → IsCrash new.pending c
    → IsCrash old.pending c ⊎ IsCrash (pending_cut old.pending size) c
crash_failed_cut size old new failed c crash = at_end failed.passes.later failed.passes.goes_on failed.passes.each
  where
    at_end : (later : List Pending) → moments new ≡ later ++ moments old →
        AllByRecursion (Leaves (IsCrash (pending_cut old.pending size))) later
        → IsCrash old.pending c ⊎ IsCrash (pending_cut old.pending size) c
    at_end [] is each = inl (subst (λ (p : Pending). IsCrash p c) (head_is _ _ _ _ is) crash)
    at_end (p ∷ later) is each = inr (each.0 c (subst (λ (q : Pending). IsCrash q c) (head_is _ _ _ _ is) crash))

-- ---- the stages

-- the disk at each stage, with these bodies and this one in hand
abbrev pub DiskAt : Stage → DiskState → List (List ℕ) → List ℕ → Type 0
DiskAt Idle disk bodies body = IsAtRest disk (closed_store bodies) × (body ≡ [])
DiskAt Written disk bodies body =
    (disk.content ≡ staged bodies body)
    × (disk.pending
    ≡ pending_write (all_synced (closed_store bodies)) (length (store_text bodies) + 1) (length (tail bodies body)))
    × IsCommittable bodies body
DiskAt Synced disk bodies body = IsAtRest disk (staged bodies body) × IsCommittable bodies body
DiskAt Opened disk bodies body =
    (disk.content ≡ closed_store (bodies ++ body ∷ []))
    × (disk.pending ≡ pending_write (all_synced (staged bodies body)) (length (store_text bodies)) 1)
    × IsCommittable bodies body
DiskAt Broken disk bodies body = (c : List ℕ) → Gives disk c → Outcome bodies body c

gives_rest : (disk : DiskState) (bytes c : List ℕ) → IsAtRest disk bytes → Gives disk c → c ≡ bytes
gives_rest disk bytes c rest (inl is) = is ∙ rest.read
gives_rest disk bytes c rest (inr crash) = crash_synced bytes c (subst (λ (p : Pending). IsCrash p c) rest.synced crash)

pub outcome_at : (stage : Stage) (disk : DiskState) (bodies : List (List ℕ)) (body : List ℕ) → DiskAt stage disk bodies body
    → (c : List ℕ) → Gives disk c → Outcome bodies body c
outcome_at Idle disk bodies body at c gives = inl ([], gives_rest disk (closed_store bodies) c at.0 gives)
outcome_at Written disk bodies body at c (inl is) = inl (tail bodies body, is ∙ at.0)
outcome_at Written disk bodies body at c (inr crash) =
    inl (torn_closed bodies body (length (tail bodies body)) c
    (crash_torn (closed_store bodies) (length (store_text bodies) + 1) (length (tail bodies body))
    (omega (arith, length_closed bodies body)) c
    (subst (λ (p : Pending). IsCrash p c) at.1 crash)))
outcome_at Synced disk bodies body at c gives =
    inl (tail bodies body, gives_rest disk (staged bodies body) c at.0 gives)
outcome_at Opened disk bodies body at c (inl is) =
    inr (at.2, (0xA5, is ∙ at.0 ∙ sym (with_body bodies body)))
outcome_at Opened disk bodies body at c (inr crash) =
    inr (
      at.2,
      torn_ajar bodies body c
          (crash_torn (staged bodies body) (length (store_text bodies)) 1 (omega (arith, length_staged bodies body)) c
          (subst (λ (p : Pending). IsCrash p c) at.1 crash)),
    )
outcome_at Broken disk bodies body at c gives = at c gives

-- ---- one stage after another

pub to_written : (disk : DiskState) (bodies : List (List ℕ)) (old body : List ℕ) → DiskAt Idle disk bodies old →
    IsCommittable bodies body
    → DiskAt Written (after_write disk (length (store_text bodies) + 1) (tail bodies body)) bodies body
to_written disk bodies old body at can =
    let place = length (store_text bodies) + 1 in
    let bytes = tail bodies body in (
      ap (λ (l : List ℕ). overwritten l place bytes) at.0.read ∙ write_gives bodies body,
      ap (λ (p : Pending). pending_write p place (length bytes)) at.0.synced,
      can,
    )

pub to_written_fails : (disk new : DiskState) (bodies : List (List ℕ)) (old body : List ℕ) → DiskAt Idle disk bodies old
    → FailsToWrite (length (store_text bodies) + 1) (length (tail bodies body)) disk new → DiskAt Broken new bodies body
to_written_fails disk new bodies old body at failed c gives =
    let place = length (store_text bodies) + 1 in
    let count = length (tail bodies body) in
    let torn : IsTorn place count (closed_store bodies) c = is_torn gives in
    inl (torn_closed bodies body count c torn)
  where
    is_torn : Gives new c → IsTorn (length (store_text bodies) + 1) (length (tail bodies body)) (closed_store bodies) c
    is_torn (inl is) = subst (λ (l : List ℕ). IsTorn (length (store_text bodies) + 1) (length (tail bodies body)) l c) at.0.read
        (subst (λ (l : List ℕ). IsTorn (length (store_text bodies) + 1) (length (tail bodies body)) disk.content l) (sym is)
        failed.content)
    is_torn (inr crash) = ⊎_elim
        (λ before. subst
        (λ (l : List ℕ). IsTorn (length (store_text bodies) + 1) (length (tail bodies body)) (closed_store bodies) l)
        (sym (crash_synced (closed_store bodies) c (subst (λ (p : Pending). IsCrash p c) at.0.synced before)))
        (torn_same (length (store_text bodies) + 1) (length (tail bodies body)) (closed_store bodies)))
        (λ within. crash_torn (closed_store bodies) (length (store_text bodies) + 1) (length (tail bodies body))
        (omega (arith, length_closed bodies body)) c
        (subst (λ (p : Pending). IsCrash (pending_write p (length (store_text bodies) + 1) (length (tail bodies body))) c)
        at.0.synced within))
        (crash_failed (length (store_text bodies) + 1) (length (tail bodies body)) disk new failed c crash)

pub to_synced : (disk : DiskState) (bodies : List (List ℕ)) (body : List ℕ) → DiskAt Written disk bodies body →
    DiskAt Synced (after_sync disk) bodies body
to_synced disk bodies body at = (record { read = at.0; synced = ap all_synced at.0 }, at.2)

pub to_opened : (disk : DiskState) (bodies : List (List ℕ)) (body : List ℕ) → DiskAt Synced disk bodies body
    → DiskAt Opened (after_write disk (length (store_text bodies)) (0xA5 ∷ [])) bodies body
to_opened disk bodies body at = (
  ap (λ (l : List ℕ). overwritten l (length (store_text bodies)) (0xA5 ∷ [])) at.0.read ∙ open_gives bodies body,
  ap (λ (p : Pending). pending_write p (length (store_text bodies)) 1) at.0.synced,
  at.1,
)

pub to_opened_fails : (disk new : DiskState) (bodies : List (List ℕ)) (body : List ℕ) → DiskAt Synced disk bodies body
    → FailsToWrite (length (store_text bodies)) 1 disk new → DiskAt Broken new bodies body
to_opened_fails disk new bodies body at failed c gives = inr (at.1, torn_ajar bodies body c (is_torn gives))
  where
    is_torn : Gives new c → IsTorn (length (store_text bodies)) 1 (staged bodies body) c
    is_torn (inl is) = subst (λ (l : List ℕ). IsTorn (length (store_text bodies)) 1 l c) at.0.read
        (subst (λ (l : List ℕ). IsTorn (length (store_text bodies)) 1 disk.content l) (sym is) failed.content)
    is_torn (inr crash) = ⊎_elim
        (λ before. subst (λ (l : List ℕ). IsTorn (length (store_text bodies)) 1 (staged bodies body) l)
        (sym (crash_synced (staged bodies body) c (subst (λ (p : Pending). IsCrash p c) at.0.synced before)))
        (torn_same (length (store_text bodies)) 1 (staged bodies body)))
        (λ within. crash_torn (staged bodies body) (length (store_text bodies)) 1
        (omega (arith, length_staged bodies body)) c
        (subst (λ (p : Pending). IsCrash (pending_write p (length (store_text bodies)) 1) c) at.0.synced within))
        (crash_failed (length (store_text bodies)) 1 disk new failed c crash)

pub to_idle : (disk : DiskState) (bodies next : List (List ℕ)) (body : List ℕ) → DiskAt Opened disk bodies body →
    next ≡ bodies ++ body ∷ []
    → DiskAt Idle (after_sync disk) next []
to_idle disk bodies next body at is =
    let content : disk.content ≡ closed_store next = at.0 ∙ ap closed_store (sym is) in
    (record { read = content; synced = ap all_synced content }, refl)

-- ---- a whole commit

module _ (disk : DiskState) (bodies : List (List ℕ)) (body : List ℕ) (rest : IsAtRest disk (closed_store bodies))
    (can : IsCommittable bodies body) where
  abbrev commit : List DiskCall
  commit = commit_calls (length (store_text bodies)) (length bodies) body

  abbrev behind_write : DiskState
  behind_write = after_write disk (length (store_text bodies) + 1) (tail bodies body)

  abbrev behind_gate : DiskState
  behind_gate = after_write (after_sync behind_write) (length (store_text bodies)) (0xA5 ∷ [])

  is_written : DiskAt Written behind_write bodies body
  is_written = to_written disk bodies [] body (rest, refl) can

  is_synced : DiskAt Synced (after_sync behind_write) bodies body
  is_synced = to_synced behind_write bodies body is_written

  is_opened : DiskAt Opened behind_gate bodies body
  is_opened = to_opened (after_sync behind_write) bodies body is_synced

  -- once its calls have answered
  pub commit_end : IsAtRest (after_disk_calls disk commit) (closed_store (bodies ++ body ∷ []))
  commit_end = (to_idle behind_gate bodies (bodies ++ body ∷ []) body is_opened refl).0

  at_moment : (stage : Stage) (moment : DiskState) → DiskAt stage moment bodies body → (end : DiskState) → end ≡ moment
      → DiskAt Broken end bodies body
  at_moment stage moment at end is c gives = outcome_at stage moment bodies body at c (subst (λ (d : DiskState). Gives d c) is gives)

  outcome_end : (end : DiskState) → end ≡ after_sync behind_gate → DiskAt Broken end bodies body
  outcome_end end is c gives =
      inr (
        can,
        (
          0xA5,
          gives_rest (after_sync behind_gate) (closed_store (bodies ++ body ∷ [])) c commit_end
              (subst (λ (d : DiskState). Gives d c) is gives) ∙ sym (with_body bodies body),
        ),
      )

  -- each moment of them
  pub outcome_within : (end : DiskState) → IsWithin disk commit end → DiskAt Broken end bodies body
  outcome_within end (inl is) =
      λ c gives. inl ([], gives_rest disk (closed_store bodies) c rest (subst (λ (d : DiskState). Gives d c) is gives))
  outcome_within end (inr (inl failed)) = to_written_fails disk end bodies [] body (rest, refl) failed
  outcome_within end (inr (inr (inl is))) = at_moment Written behind_write is_written end is
  outcome_within end (inr (inr (inr (inl is)))) = at_moment Written behind_write is_written end is
  outcome_within end (inr (inr (inr (inr (inl is))))) = at_moment Synced (after_sync behind_write) is_synced end is
  outcome_within end (inr (inr (inr (inr (inr (inl failed)))))) = to_opened_fails (after_sync behind_write) end bodies body is_synced failed
  outcome_within end (inr (inr (inr (inr (inr (inr (inl is))))))) = at_moment Opened behind_gate is_opened end is
  outcome_within end (inr (inr (inr (inr (inr (inr (inr (inl is)))))))) = at_moment Opened behind_gate is_opened end is
  outcome_within end (inr (inr (inr (inr (inr (inr (inr (inr is)))))))) = outcome_end end is

-- ---- sizes of bodies

pub some_body : (rs : List Record) → 1 ≤ length rs → 1 ≤ length (body_text rs)
unfolding record_text
some_body [] l = absurd (omega arith)
some_body (r ∷ rs) l = omega arith

pub some_records : (rs : List Record) → 1 ≤ length (body_text rs) → 1 ≤ length rs
some_records [] l = absurd (omega arith)
some_records (r ∷ rs) l = omega arith

-- no bytes are the text of no records
pub no_records : (rs : List Record) → body_text rs ≡ [] → rs ≡ []
no_records [] is = refl
no_records (r ∷ rs) is = absurd (omega (arith, ap length is, some_body (r ∷ rs) (omega arith)))
