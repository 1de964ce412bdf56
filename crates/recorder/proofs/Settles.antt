-- A recorder that settles sends, looks and releases, round by round.
use Rattle.std.proofs.Common.{◌≡◌, ℕ, false, List, [], ◌∷◌, ◌++◌, flat_map, refl, sym, ap, ◌∙◌, subst, append_assoc}
use Rattle.std.proofs.lemmas.List.{append-nil}
use Rattle.commit_core.specs.Events.Event.{Look}
use Rattle.commit_core.specs.Holders.{Act, Does, loading}
use Rattle.commit_core.specs.Holders.Holder.{TheRecorder}
use Rattle.commit_core.specs.World.{World}
use Rattle.commit_core.proofs.Holders.{same_here}
use Rattle.commit_group.specs.Numbers.{renumbered}
use Rattle.commit_group.specs.Seats.{RecorderValue}
use Rattle.commit_group.proofs.WorldSteps.{does_keeping, does_rows, does_weaker}
use Rattle.recorder.specs.RecorderCalls.{AreRounds}
use Rattle.recorder.specs.Recorders.{GuestRecorder}
use Rattle.recorder.specs.RecorderWorlds.{AreSends, AreSettling, SettlesAreEvents, StandsForGuest, releases}
use Rattle.recorder.proofs.RecorderWorlds.{guest_stays, release_is_events, sends_are_events}

abbrev joined_puts : List (List (ℕ × ℕ)) → List (ℕ × ℕ)
joined_puts puts = flat_map (λ put. put) puts

-- what stands for the part of a recorder, under the number that the first guest has
abbrev Stands : GuestRecorder → List (ℕ × ℕ) → ℕ → World → Type 0
Stands r out b v = StandsForGuest r out v × (v.first_guest ≡ b)

settles : (b : ℕ) (old new : GuestRecorder) (puts : List (List (ℕ × ℕ))) (out : List (ℕ × ℕ)) (w : World) (doing : List Act)
    (rounds : AreRounds old puts new) → old.seat.has_left ≡ false → AreSettling b old puts new rounds doing → Stands old out b w
    → Does (TheRecorder old.seat.guest) doing (StandsForGuest new (out ++ joined_puts puts)) w
settles b old new [] out w doing rounds here acts h =
    let g = old.seat.guest in
    let none : Does (TheRecorder g) [] (StandsForGuest new (out ++ [])) w = (
      w,
      same_here (TheRecorder g) w,
      λ v same. subst (λ (x : GuestRecorder × List (ℕ × ℕ)). StandsForGuest x.0 x.1 v) (λ i. (rounds i, sym (append-nil out) i))
          (guest_stays old out w v h.0 same),
    ) in
    subst (λ (l : List Act). Does (TheRecorder g) l (StandsForGuest new (out ++ [])) w) (sym acts) none
settles b old new (put ∷ later) out w doing (sent, next, some, released, has_put, rounds) here
    (sending, word, parts, rest, is, sends, looks, all, acts) h =
    let g = old.seat.guest in
    let sent_place : sent.seat.guest ≡ g = ap (λ (q : RecorderValue). q.guest) some.seat in
    let next_place : next.seat.guest ≡ g = ap (λ (q : RecorderValue). q.guest) looks ∙ sent_place in
    let next_here : next.seat.has_left ≡ false =
    ap (λ (q : RecorderValue). q.has_left) looks ∙ ap (λ (q : RecorderValue). q.has_left) some.seat ∙ here in
    let sends_there : AreSends g (renumbered w.first_guest old.backlog) (renumbered w.first_guest sent.backlog)
    old.seat.knows_halt sent.seat.knows_halt sending =
    subst (λ (n : ℕ). AreSends g (renumbered n old.backlog) (renumbered n sent.backlog) old.seat.knows_halt sent.seat.knows_halt sending)
    (sym h.1) sends in
    let first : Does (TheRecorder g) sending (Stands sent out b) w =
    does_weaker (TheRecorder g) w sending (Stands sent out w.first_guest) (Stands sent out b) (λ v s. (s.0, s.1 ∙ h.1))
    (does_keeping (TheRecorder g) w sending (StandsForGuest sent out)
    (sends_are_events old sent out w sending some here sends_there h.0)) in
    let release : (v : World) → Stands sent out b v →
    Does (TheRecorder g) (loading (Look g) word ∷ releases g parts) (Stands next (out ++ put) b) v =
    λ v s.
    let acting = loading (Look g) word ∷ releases g parts in
    let does : Does (TheRecorder g) acting (StandsForGuest next (out ++ put)) v =
    subst (λ (n : ℕ). Does (TheRecorder n) (loading (Look n) word ∷ releases n parts) (StandsForGuest next (out ++ put)) v) sent_place
    (release_is_events sent next put out v word parts has_put all looks (released.backlog, released.guest) s.0) in
    does_weaker (TheRecorder g) v acting (Stands next (out ++ put) v.first_guest) (Stands next (out ++ put) b) (λ u t. (t.0, t.1 ∙ s.1))
    (does_keeping (TheRecorder g) v acting (StandsForGuest next (out ++ put)) does) in
    let last : (v : World) → Stands next (out ++ put) b v →
    Does (TheRecorder g) rest (StandsForGuest new (out ++ (put ++ joined_puts later))) v =
    λ v s.
    subst (λ (o : List (ℕ × ℕ)). Does (TheRecorder g) rest (StandsForGuest new o) v) (append_assoc out put (joined_puts later))
    (subst (λ (n : ℕ). Does (TheRecorder n) rest (StandsForGuest new ((out ++ put) ++ joined_puts later)) v) next_place
    (settles b next new later (out ++ put) v rest rounds next_here acts s)) in
    subst (λ (l : List Act). Does (TheRecorder g) l (StandsForGuest new (out ++ (put ++ joined_puts later))) w) (sym is)
    (does_rows (TheRecorder g) w sending ((loading (Look g) word ∷ releases g parts) ++ rest) (Stands sent out b)
    (StandsForGuest new (out ++ (put ++ joined_puts later))) first
    (λ v s. does_rows (TheRecorder g) v (loading (Look g) word ∷ releases g parts) rest (Stands next (out ++ put) b)
    (StandsForGuest new (out ++ (put ++ joined_puts later))) (release v s) last))

pub settles_are_events : SettlesAreEvents
settles_are_events old new out w puts doing rounds here acts h =
    settles w.first_guest old new puts out w doing rounds here acts (h, refl)
