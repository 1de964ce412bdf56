-- What recovery gives.
use Rattle.std.proofs.Common.{◌≡◌, ◌≢◌, ◌⊎◌, inl, inr, ⊎_elim, ℕ, suc, ◌+◌, ◌-◌, ◌<◌, ◌≤◌, Bool, false, List, [], ◌∷◌, ◌++◌, length, map, take, drop, refl, ap, arith, sym, subst, true≢false, ◌∙◌, append_assoc, length-append, take-append-drop}
use Rattle.std.specs.Prelude.{◌↔◌, Option, Some, slice_get, IsSomeAnd}
use Rattle.std.specs.List.{AllByRecursion, Any}
use Rattle.std.proofs.lemmas.List.{map-append, take-append-le}
use Rattle.std.proofs.lemmas.List.Quantifiers.{Any-push}
use Rattle.rrv_model.specs.declared.record.Item.{Item}
use Rattle.rrv_model.specs.declared.record.Record.{Record}
use Rattle.rrv_model.specs.State.{State}
use Rattle.rrv_model.specs.RecordText.{HasText}
use Rattle.rrv_model.specs.Recording.{IsRecording, IsNumbered, EndsIn, items_of}
use Rattle.store_model.specs.StoreText.{IsBody, IsSound}
use Rattle.rrv_model.specs.Recovered.{body_text, IsOld, MayFollow, marks, marked_behind, of_guest, next_guest, IsRecovered, AreBodyTexts, OpensAtZero}
use Rattle.rrv_model.proofs.RunLaws.{one_end_state}
use Rattle.commit_core.specs.Runs.{IsOutput, IsAt, total_of}
use Rattle.commit_core.specs.World.{World, made, committed_count, stored_bodies, joined}
use Rattle.commit_core.specs.Facts.{Replays, RecoversFrom, Recovers, IsRun}
use Rattle.commit_core.specs.Sessions.{Gives, HasSent, AreSentIn, GrowsTo, IsStoreOf}
use Rattle.outcomes.proofs.Lists.{AllByRecursion-append, AllByRecursion-front, AllByRecursion-back, AllByRecursion-weaker}
use Rattle.rrv_model.proofs.RecoveredLaws.{mark_is_told, of_guest-append, numbered_front}
use Rattle.commit_core.proofs.Lists.{none_lower, none_higher, of_guest-front, of_guest-back, joined-append, joined-push}
use Rattle.commit_core.proofs.Runs.{output_further, recording_front, there_is, below_total, at_total_is_end, items_of-append}
use Rattle.commit_core.proofs.Invariant.{total, IsOwn, Invariant}
use Rattle.commit_core.proofs.Stages.{Outcome, outcome_at, sound_outcome, closed_sound, outcome_store_of}

-- ---- numbers of guests

-- each record's guest is below the next one's number
pub all_below : (records : List Record) → AllByRecursion (λ (r : Record). r.guest < next_guest records) records
all_below [] = tt
all_below (r ∷ records) = (
  omega arith,
  AllByRecursion-weaker (λ q. q.guest < next_guest records) (λ q. q.guest < next_guest (r ∷ records)) records (λ q l. omega (arith, l))
      (all_below records),
)

pub less_or_more : (a b : ℕ) → (a < b) ⊎ (b ≤ a)
less_or_more a b = grind arith

-- ---- texts of batches

-- batches of records that have texts, none of them empty, are body texts behind the Mark, or before it where each is old
batch_texts : (marked : Bool) (batches : List (List Record)) → AllByRecursion HasText (joined batches) →
    AllByRecursion IsBody (map body_text batches) →
    (marked ≡ false → AllByRecursion (λ (r : Record). IsOld r.item) (joined batches)) → AreBodyTexts marked (map body_text batches) batches
batch_texts marked [] texts sizes follow = tt
batch_texts marked ([] ∷ batches) texts sizes follow = absurd (omega (arith, sizes.0.0))
batch_texts marked ((r ∷ batch) ∷ batches) texts sizes follow = (
  (
    record { some = omega arith; each = AllByRecursion-front HasText (r ∷ batch) (joined batches) texts; spelled = refl },
    λ none. AllByRecursion-front (λ q. IsOld q.item) (r ∷ batch) (joined batches) (follow none),
  ),
  batch_texts marked batches (AllByRecursion-back HasText (r ∷ batch) (joined batches) texts) sizes.1
      (λ none. AllByRecursion-back (λ q. IsOld q.item) (r ∷ batch) (joined batches) (follow none)),
)

texts_both : (marked : Bool) (bodies more : List (List ℕ)) (batches others : List (List Record)) → AreBodyTexts marked bodies batches →
    AreBodyTexts (marked_behind marked batches) more others → AreBodyTexts marked (bodies ++ more) (batches ++ others)
texts_both marked [] more [] others a b = b
texts_both marked [] more (batch ∷ batches) others a b = absurd a
texts_both marked (body ∷ bodies) more [] others a b = absurd a
texts_both marked (body ∷ bodies) more (batch ∷ batches) others a b =
    (a.0, texts_both (marks marked batch) bodies more batches others a.1 b)

-- ---- replaying a beginning of a run

replays_front : (front rest whole : List Record) (number : ℕ) (states : List State) → front ++ rest ≡ whole → front ≢ [] →
    IsRun number whole states → Replays front whole states
replays_front [] rest whole number states is some run = absurd (some refl)
replays_front (x ∷ front) rest whole number states is some run =
    let k = length front in
    let whole_is : items_of whole ≡ items_of (x ∷ front) ++ items_of rest = ap items_of (sym is) ∙ items_of-append (x ∷ front) rest in
    let front_is : take (suc k) whole ≡ x ∷ front =
    ap (take (suc k)) (sym is) ∙ ap (λ (l : List Record). x ∷ l) (take-append-le k front rest (omega arith) ∙ take_own front) in
    let had : IsSomeAnd (slice_get states k) (EndsIn (items_of (x ∷ front))) =
    subst (λ (l : List Record). IsSomeAnd (slice_get states k) (EndsIn (items_of l))) front_is
    (run.had k (omega (arith, ap length is, length-append (x ∷ front) rest))) in
    record {
      recording = recording_front (x ∷ front) rest (subst IsRecording (sym is) run.recording) some;
      there = there_is (items_of (x ∷ front)) (recording_front (x ∷ front) rest (subst IsRecording (sym is) run.recording) some).starts;
      below = λ t s l. subst (λ (w : List Item). IsAt (items_of (x ∷ front)) t s ↔ IsAt w t s) (sym whole_is)
          (below_total (items_of (x ∷ front)) (items_of rest) t s l);
      at_total = λ s. subst (λ (n : ℕ). IsAt (items_of (x ∷ front)) (total_of (items_of (x ∷ front))) s ↔ slice_get states n ≡ Some s)
          (omega arith) (had_state (slice_get states k) had s);
    }
  where
    take_own : (xs : List Record) → take (length xs) xs ≡ xs
    take_own [] = refl
    take_own (y ∷ xs) = ap (λ (l : List Record). y ∷ l) (take_own xs)

    some_is : (s t : State) → Some s ≡ Some t → s ≡ t
    some_is s t e = cc

    had_state : (o : Option State) → IsSomeAnd o (EndsIn (items_of (x ∷ front))) → (s : State)
        → IsAt (items_of (x ∷ front)) (total_of (items_of (x ∷ front))) s ↔ o ≡ Some s
    had_state o had s = (
      λ at. ends_here o had ((at_total_is_end (items_of (x ∷ front)) s).0 at),
      λ is. (at_total_is_end (items_of (x ∷ front)) s).1 (from_here o had is),
    )
      where
        ends_here : (o : Option State) → IsSomeAnd o (EndsIn (items_of (x ∷ front))) → EndsIn (items_of (x ∷ front)) s → o ≡ Some s
        ends_here Option.None had ends = absurd had
        ends_here (Some t) had ends = ap Some (one_end_state (items_of (x ∷ front)) t s had ends)

        from_here : (o : Option State) → IsSomeAnd o (EndsIn (items_of (x ∷ front))) → o ≡ Some s → EndsIn (items_of (x ∷ front)) s
        from_here Option.None had is = absurd had
        from_here (Some t) had is = subst (EndsIn (items_of (x ∷ front))) (some_is t s is) had

-- ---- the bodies of before, and batches that the group finished, or had in hand

-- the bodies are those of before and then more that the group sent, and from them it is recovered
pub record LeftBehind (w : World) (old : List Record) (bodies : List (List ℕ)) : Type 0 where
  pub before : IsRecovered w.bodies old
  pub next : w.first_guest ≡ next_guest old
  pub from : RecoversFrom w old bodies
  pub grows : GrowsTo (record { bodies = w.bodies; first_guest = w.first_guest }) (w ∷ []) bodies

module _ (w : World) (old : List Record) (invariant : Invariant w old) (batches : List (List Record)) (rest : List Record)
    (front : joined batches ++ rest ≡ total w) (bodies : List (List ℕ)) (text : bodies ≡ w.bodies ++ map body_text batches)
    (sizes : AllByRecursion IsBody (map body_text batches))
    (enough : (g : ℕ) → g < w.guests →
    committed_count (w.first_guest + g) w.flusher ≤ length (of_guest (w.first_guest + g) (joined batches)))
    (follow : MayFollow w.bodies (joined batches)) where
  own : AllByRecursion (IsOwn w.first_guest w.guests) (joined batches)
  own = AllByRecursion-front (IsOwn w.first_guest w.guests) (joined batches) rest
      (subst (AllByRecursion (IsOwn w.first_guest w.guests)) (sym front) invariant.own)

  own_low : AllByRecursion (λ (r : Record). w.first_guest ≤ r.guest) (joined batches)
  own_low = AllByRecursion-weaker (IsOwn w.first_guest w.guests) (λ r. w.first_guest ≤ r.guest) (joined batches) (λ r o. o.low) own

  old_below : AllByRecursion (λ (r : Record). r.guest < w.first_guest) old
  old_below = subst (λ (n : ℕ). AllByRecursion (λ (r : Record). r.guest < n) old) (sym invariant.store.next) (all_below old)

  none_below : (h : ℕ) → h < w.first_guest → of_guest h (joined batches) ≡ []
  none_below h low = none_lower h w.first_guest (joined batches) own_low low

  none_over : (h : ℕ) → w.first_guest + w.guests ≤ h → of_guest h (joined batches) ≡ []
  none_over h high = none_higher h (w.first_guest + w.guests) (joined batches)
      (AllByRecursion-weaker (IsOwn w.first_guest w.guests) (λ r. r.guest < w.first_guest + w.guests) (joined batches) (λ r o. o.high) own)
      high

  -- of a lower number there are the records of before
  lower : (h : ℕ) → h < w.first_guest → of_guest h (old ++ joined batches) ≡ of_guest h old
  lower h low = of_guest-front h old (joined batches) (none_below h low)

  -- of a number of the group or above those of the group alone
  upper : (h : ℕ) → w.first_guest ≤ h → of_guest h (old ++ joined batches) ≡ of_guest h (joined batches)
  upper h high = of_guest-back h old (joined batches) (none_higher h w.first_guest old old_below high)

  -- which are a beginning of what its recorder sent
  sent_is : (g : ℕ) → g < w.guests →
      of_guest (w.first_guest + g) (joined batches) ++ of_guest (w.first_guest + g) rest ≡ (w.recorders g).sent
  sent_is g l =
      sym (of_guest-append (w.first_guest + g) (joined batches) rest) ∙ ap (of_guest (w.first_guest + g)) front ∙ (invariant.each g l).sent

  sent_first : AreSentIn (w ∷ []) (joined batches)
  sent_first h some = ⊎_elim
      (λ low. absurd (some (none_below h low)))
      (λ high. ⊎_elim (ours high) (λ above. absurd (some (none_over h above))) (less_or_more h (w.first_guest + w.guests)))
      (less_or_more h w.first_guest)
    where
      ours : w.first_guest ≤ h → h < w.first_guest + w.guests → Any (HasSent h (of_guest h (joined batches))) (w ∷ [])
      ours high l =
          let g = h - w.first_guest in
          let is : w.first_guest + g ≡ h = omega (arith, high) in
          Any-push (HasSent h (of_guest h (joined batches))) [] w (record {
            g = g;
            guest = omega (arith, l, high);
            number_is = is;
            sent = (
              of_guest h rest,
              subst (λ (k : ℕ). of_guest k (joined batches) ++ of_guest k rest ≡ (w.recorders g).sent) is
                  (sent_is g (omega (arith, l, high))),
            );
          })

  made_is : (g : ℕ) → g < w.guests →
      of_guest (w.first_guest + g) (joined batches) ++ (of_guest (w.first_guest + g) rest ++ (w.recorders g).backlog) ≡ made (w.recorders g)
  made_is g l =
      sym (append_assoc (of_guest (w.first_guest + g) (joined batches)) (of_guest (w.first_guest + g) rest) (w.recorders g).backlog)
      ∙ ap (λ (k : List Record). k ++ (w.recorders g).backlog) (sent_is g l)

  numbered : (h : ℕ) → IsNumbered h 0 (of_guest h (old ++ joined batches))
  numbered h = ⊎_elim
      (λ low. subst (IsNumbered h 0) (sym (lower h low)) (invariant.store.recovered.in_order.numbered h))
      (λ high. subst (IsNumbered h 0) (sym (upper h high)) (⊎_elim (ours high) above (less_or_more h (w.first_guest + w.guests))))
      (less_or_more h w.first_guest)
    where
      ours : w.first_guest ≤ h → h < w.first_guest + w.guests → IsNumbered h 0 (of_guest h (joined batches))
      ours high l =
          let g = h - w.first_guest in
          let is : w.first_guest + g ≡ h = omega (arith, high) in
          subst (λ (k : ℕ). IsNumbered k 0 (of_guest k (joined batches))) is
          (numbered_front (w.first_guest + g) 0 (of_guest (w.first_guest + g) (joined batches))
          (of_guest (w.first_guest + g) rest ++ (w.recorders g).backlog)
          (subst (IsNumbered (w.first_guest + g) 0) (sym (made_is g (omega (arith, l, high))))
          (invariant.each g (omega (arith, l, high))).recording.run.numbered))

      above : w.first_guest + w.guests ≤ h → IsNumbered h 0 (of_guest h (joined batches))
      above l = subst (IsNumbered h 0) (sym (none_over h l)) tt

  -- where the Mark isn't there, each record may stand before it
  old_before : marked_behind false invariant.store.recovered.batches ≡ false →
      AllByRecursion (λ (r : Record). IsOld r.item) (joined batches)
  old_before none = ⊎_elim
      (λ there. absurd (true≢false (sym ((mark_is_told w.bodies old invariant.store.recovered).1 there) ∙ none)))
      (λ each. each)
      follow

  pub is_recovered : IsRecovered bodies (old ++ joined batches)
  is_recovered = record {
    batches = invariant.store.recovered.batches ++ batches;
    texts = subst (λ (b : List (List ℕ)). AreBodyTexts false b (invariant.store.recovered.batches ++ batches)) (sym text)
        (texts_both false w.bodies (map body_text batches) invariant.store.recovered.batches batches invariant.store.recovered.texts
        (batch_texts (marked_behind false invariant.store.recovered.batches) batches
        (AllByRecursion-weaker (IsOwn w.first_guest w.guests) HasText (joined batches) (λ r o. o.has_text) own) sizes old_before));
    joined = ap (λ (l : List Record). l ++ joined batches) invariant.store.recovered.joined
        ∙ sym (joined-append invariant.store.recovered.batches batches);
    in_order = record {
      numbered = numbered;
      opened = AllByRecursion-append OpensAtZero old (joined batches) invariant.store.recovered.in_order.opened
          (AllByRecursion-weaker (IsOwn w.first_guest w.guests) OpensAtZero (joined batches) (λ r o. o.opens) own);
    };
  }

  seen_in : (g : ℕ) → g < w.guests → (w.recorders g).seen ≤ length (of_guest (w.first_guest + g) (joined batches))
  seen_in g l = let o = invariant.each g l in omega (arith, o.seen.in_word, invariant.words.counts g l, invariant.told g l, enough g l)

  put_out : (g : ℕ) → g < w.guests → IsOutput (w.recorders g).out (of_guest (w.first_guest + g) (joined batches))
  put_out g l =
      let n = w.first_guest + g in
      let seen = (w.recorders g).seen in
      let ours = of_guest n (joined batches) in
      let behind = of_guest n rest ++ (w.recorders g).backlog in
      let same : take seen (made (w.recorders g)) ≡ take seen ours =
      ap (take seen) (sym (made_is g l)) ∙ take-append-le seen ours behind (seen_in g l) in
      let whole = take-append-drop seen ours in
      subst (IsOutput (w.recorders g).out) whole
      (output_further (w.recorders g).out (take seen ours) (drop seen ours) behind
      (subst IsRecording (sym (ap (λ (k : List Record). k ++ behind) whole ∙ made_is g l)) (invariant.each g l).recording.run.recording)
      (subst (IsOutput (w.recorders g).out) same (invariant.each g l).output))

  pub recovers_from : RecoversFrom w old bodies
  recovers_from = record {
    records = old ++ joined batches;
    recovered = is_recovered;
    beginning = λ g l. (
      of_guest (w.first_guest + g) rest ++ (w.recorders g).backlog,
      ap (λ (k : List Record). k ++ (of_guest (w.first_guest + g) rest ++ (w.recorders g).backlog))
          (upper (w.first_guest + g) (omega arith)) ∙ made_is g l,
    );
    seen = λ g l. omega (arith, seen_in g l, ap length (upper (w.first_guest + g) (omega arith)));
    output = λ g l. subst (IsOutput (w.recorders g).out) (sym (upper (w.first_guest + g) (omega arith))) (put_out g l);
    none_above = λ h l. upper h (omega (arith, l)) ∙ none_over h l;
    kept = lower;
    replays = λ g l some.
        subst (λ (k : List Record). Replays k (made (w.recorders g)) (w.recorders g).states) (sym (upper (w.first_guest + g) (omega arith)))
        (replays_front (of_guest (w.first_guest + g) (joined batches)) (of_guest (w.first_guest + g) rest ++ (w.recorders g).backlog)
        (made (w.recorders g)) (w.first_guest + g) (w.recorders g).states
        (made_is g l) (λ e. some (upper (w.first_guest + g) (omega arith) ∙ e)) (invariant.each g l).recording.run);
  }

  -- and these bodies are the ones of before, and then bodies of the group
  pub left_behind : LeftBehind w old bodies
  left_behind = record {
    before = invariant.store.recovered;
    next = invariant.store.next;
    from = recovers_from;
    grows = record {
      more = map body_text batches;
      bodies_are = text;
      before = old;
      gained = joined batches;
      reported = invariant.store.recovered;
      recovered = is_recovered;
      later = own_low;
      sent = sent_first;
    };
  }

-- ---- with the finished bodies, and with the one in hand

sizes_behind : (bodies : List (List ℕ)) (batches : List (List Record)) → AllByRecursion IsBody (bodies ++ map body_text batches) →
    AllByRecursion IsBody (map body_text batches)
sizes_behind bodies batches all = AllByRecursion-back IsBody bodies (map body_text batches) all

module _ (w : World) (old : List Record) (invariant : Invariant w old) where
  front_finished : joined w.flusher.finished ++ ((w.flusher.hand ++ w.flusher.waiting) ++ w.queue) ≡ total w
  front_finished =
      sym (append_assoc (joined w.flusher.finished) (w.flusher.hand ++ w.flusher.waiting) w.queue)
      ∙ ap (λ (l : List Record). l ++ w.queue) (sym (append_assoc (joined w.flusher.finished) w.flusher.hand w.flusher.waiting))

  front_hand : joined (w.flusher.finished ++ w.flusher.hand ∷ []) ++ (w.flusher.waiting ++ w.queue) ≡ total w
  front_hand =
      ap (λ (l : List Record). l ++ (w.flusher.waiting ++ w.queue)) (joined-push w.flusher.finished w.flusher.hand)
      ∙ sym (append_assoc (joined w.flusher.finished ++ w.flusher.hand) w.flusher.waiting w.queue)

  with_hand : w.bodies ++ map body_text (w.flusher.finished ++ w.flusher.hand ∷ []) ≡ stored_bodies w ++ body_text w.flusher.hand ∷ []
  with_hand = ap (λ (l : List (List ℕ)). w.bodies ++ l) (map-append body_text w.flusher.finished (w.flusher.hand ∷ []))
      ∙ sym (append_assoc w.bodies (map body_text w.flusher.finished) (body_text w.flusher.hand ∷ []))

  sizes_hand : IsBody (body_text w.flusher.hand) → AllByRecursion IsBody (map body_text (w.flusher.finished ++ w.flusher.hand ∷ []))
  sizes_hand is = subst (AllByRecursion IsBody) (sym (map-append body_text w.flusher.finished (w.flusher.hand ∷ [])))
      (AllByRecursion-append IsBody (map body_text w.flusher.finished) (body_text w.flusher.hand ∷ [])
      (sizes_behind w.bodies w.flusher.finished invariant.store.sizes) (is, tt))

  enough_hand : (g : ℕ) →
      committed_count (w.first_guest + g) w.flusher
      ≤ length (of_guest (w.first_guest + g) (joined (w.flusher.finished ++ w.flusher.hand ∷ [])))
  enough_hand g = omega (
    arith,
    ap length (ap (of_guest (w.first_guest + g)) (joined-push w.flusher.finished w.flusher.hand)
        ∙ of_guest-append (w.first_guest + g) (joined w.flusher.finished) w.flusher.hand),
    length-append (of_guest (w.first_guest + g) (joined w.flusher.finished)) (of_guest (w.first_guest + g) w.flusher.hand),
  )

  follow_hand : MayFollow w.bodies (joined (w.flusher.finished ++ w.flusher.hand ∷ []))
  follow_hand = subst (MayFollow w.bodies) (sym (joined-push w.flusher.finished w.flusher.hand)) invariant.store.follow

  follow_finished : MayFollow w.bodies (joined w.flusher.finished)
  follow_finished = ⊎_elim
      (λ there. inl there)
      (λ each. inr (AllByRecursion-front (λ r. IsOld r.item) (joined w.flusher.finished) w.flusher.hand each))
      invariant.store.follow

  pub stored_recovered : IsRecovered (stored_bodies w) (old ++ joined w.flusher.finished)
  stored_recovered =
      is_recovered w old invariant w.flusher.finished ((w.flusher.hand ++ w.flusher.waiting) ++ w.queue) front_finished (stored_bodies w)
      refl
      (sizes_behind w.bodies w.flusher.finished invariant.store.sizes) (λ g l. omega arith) follow_finished

  pub hand_recovered : IsBody (body_text w.flusher.hand) →
      IsRecovered (stored_bodies w ++ body_text w.flusher.hand ∷ []) (old ++ joined (w.flusher.finished ++ w.flusher.hand ∷ []))
  hand_recovered is = is_recovered w old invariant (w.flusher.finished ++ w.flusher.hand ∷ []) (w.flusher.waiting ++ w.queue) front_hand
      (stored_bodies w ++ body_text w.flusher.hand ∷ []) (sym with_hand) (sizes_hand is) (λ g l. enough_hand g) follow_hand

  pub left_finished : LeftBehind w old (stored_bodies w)
  left_finished =
      left_behind w old invariant w.flusher.finished ((w.flusher.hand ++ w.flusher.waiting) ++ w.queue) front_finished (stored_bodies w)
      refl
      (sizes_behind w.bodies w.flusher.finished invariant.store.sizes) (λ g l. omega arith) follow_finished

  pub left_hand : IsBody (body_text w.flusher.hand) → LeftBehind w old (stored_bodies w ++ body_text w.flusher.hand ∷ [])
  left_hand is = left_behind w old invariant (w.flusher.finished ++ w.flusher.hand ∷ []) (w.flusher.waiting ++ w.queue) front_hand
      (stored_bodies w ++ body_text w.flusher.hand ∷ []) (sym with_hand) (sizes_hand is) (λ g l. enough_hand g) follow_hand

  recovers_finished : (content : List ℕ) → IsSound content (stored_bodies w) → Recovers w old content
  recovers_finished content sound = record { bodies = stored_bodies w; sound = sound; from = left_finished.from }

  recovers_hand : (content : List ℕ) → IsBody (body_text w.flusher.hand) →
      IsSound content (stored_bodies w ++ body_text w.flusher.hand ∷ []) → Recovers w old content
  recovers_hand content is sound =
      record { bodies = stored_bodies w ++ body_text w.flusher.hand ∷ []; sound = sound; from = (left_hand is).from }

  -- what a read gives or a crash leaves
  pub recovers : (content : List ℕ) → Gives w.disk content → Recovers w old content
  recovers content gives =
      by_outcome (outcome_at w.flusher.stage w.disk (stored_bodies w) (body_text w.flusher.hand) invariant.disk content gives)
    where
      by_outcome : Outcome (stored_bodies w) (body_text w.flusher.hand) content → Recovers w old content
      by_outcome (inl closed) =
          recovers_finished content
          (closed_sound (stored_bodies w) (body_text w.flusher.hand) invariant.store.sizes invariant.store.few content closed)
      by_outcome (inr ajar) = ⊎_elim (recovers_finished content) (recovers_hand content ajar.0.0)
          (sound_outcome (stored_bodies w) (body_text w.flusher.hand) invariant.store.sizes invariant.store.few content (inr ajar))

  -- it is a store whose bodies the group left
  pub store_left : (content : List ℕ) → Gives w.disk content → IsStoreOf (LeftBehind w old) content
  store_left content gives =
      outcome_store_of (stored_bodies w) (body_text w.flusher.hand) invariant.store.sizes invariant.store.few (LeftBehind w old)
      left_finished (λ can. left_hand can.0)
      content (outcome_at w.flusher.stage w.disk (stored_bodies w) (body_text w.flusher.hand) invariant.disk content gives)
