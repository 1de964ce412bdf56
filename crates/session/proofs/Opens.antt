-- What a session leaves can be opened.
use Rattle.std.proofs.Common.{inl, inr, ℕ, List, [], ◌∷◌, ◌++◌, sym, subst, append_assoc}
use Rattle.rrv_model.specs.declared.record.Record.{Record}
use Rattle.store_model.specs.CrashModel.{LeavesOnly}
use Rattle.rrv_model.specs.Recovered.{IsRecovered}
use Rattle.store_model.specs.Settled.{IsBefore}
use Rattle.store_model.proofs.CrashLaws.{leaves_weaker}
use Rattle.rrv_model.proofs.RecoveredLaws.{beginnings_are_recovered}
use Rattle.trace_disk.specs.Devices.{Device}
use Rattle.trace_log.specs.Kept.{LogValue}
use Rattle.commit_core.specs.Sessions.{CanOpen, HasRecords}
use Rattle.session.specs.Gains.{HasGained, HoldsUpTo}

-- the first of some bodies hold records where all do
front_has : (bodies more : List (List ℕ)) (records : List Record) → IsRecovered (bodies ++ more) records → HasRecords bodies
front_has bodies more records h = let f = beginnings_are_recovered bodies more records h in (f.0, f.2)

before_opens : (bodies : List (List ℕ)) (body bytes : List ℕ) → HasRecords bodies → HasRecords (bodies ++ body ∷ []) →
    IsBefore bodies body bytes → CanOpen bytes
before_opens bodies body bytes has has_next h = record {
  bodies = bodies;
  store = h.sound.store;
  are = has;
  next = elim h.next [
    | inl closed ↦ inl closed
    | inr next ↦ inr (record { few = next.3; body = body; rest = next.0; text = next.1; is_body = next.2 }, has_next)
  ];
}

pub opens : (bodies more : List (List ℕ)) (records : List Record) (bytes : List ℕ) → IsRecovered (bodies ++ more) records →
    HoldsUpTo bodies more bytes → CanOpen bytes
opens bodies [] records bytes recovered h =
    record { bodies = bodies; store = h.sound.store; are = front_has bodies [] records recovered; next = inl h.closed }
opens bodies (body ∷ more) records bytes recovered h =
    let whole = subst (λ (bs : List (List ℕ)). IsRecovered bs records) (sym (append_assoc bodies (body ∷ []) more)) recovered in
    elim h [
      | inl before ↦
          before_opens bodies body bytes (front_has bodies (body ∷ more) records recovered)
          (front_has (bodies ++ body ∷ []) more records whole) before
      | inr after ↦ opens (bodies ++ body ∷ []) more records bytes whole after
    ]

pub can_follow : {D : Type 0} (device : Device D) (committed batch : List Record) (log log' : LogValue D) (bodies : List (List ℕ))
    (earlier : List Record)
    → HasGained device committed batch log log' bodies earlier → LeavesOnly (device.state log.disk) (device.state log'.disk) CanOpen
can_follow device committed batch log log' bodies earlier g =
    leaves_weaker (device.state log.disk) (device.state log'.disk) (HoldsUpTo bodies (g.more ++ g.hand)) CanOpen
    (λ bytes h. opens bodies (g.more ++ g.hand) (earlier ++ (committed ++ batch)) bytes g.would_be h) g.any_moment
