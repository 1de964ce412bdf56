use Rattle.std.proofs.Common.{◌≡◌, ◌∙◌, ℕ, List, IfErr, IfOk, subst, sym}
use Rattle.rrv_model.specs.declared.record.Record.{Record}
use Rattle.rrv_model.specs.Recovered.{of_guest}
use Rattle.store_model.specs.CrashModel.{DiskState}
use Rattle.recover.specs.declared.spot.Spot.{Spot}
use Rattle.recover.specs.Spots.{StandOn, records_of}
use Rattle.faults.specs.declared.replay.VerifyFault.{VerifyFault}
use Rattle.replayer.specs.Sourced.{RefusesSource}
use Rattle.stored_guests.specs.Guests.{RefusesGuest}
use Rattle.line_io.specs.Told.{verify_told}
use Rattle.stored_guests.proofs.Sources.{guest_refused}
use Rattle.stored_guests.proofs.verifying.verified_in.Goals as goal

-- what holds of the records of a source holds of those of the store that it was made of
of_store : {D : Type 0} (honest : D → Type 0) (state : D → DiskState) (P : List Record → Type 0) (disk disk' : D)
    (lists lists' : List Spot) (guest' number : ℕ) → disk' ≡ disk → lists' ≡ lists → guest' ≡ number →
    (StandOn honest state disk' lists' → P (of_guest guest' (records_of lists')))
    → StandOn honest state disk lists → P (of_guest number (records_of lists))
of_store {D} honest state P disk disk' lists lists' guest' number disks spots guests holds on =
    subst (λ (n : ℕ). P (of_guest n (records_of lists))) guests
    (subst (λ (l : List Spot). P (of_guest guest' (records_of l))) spots
    (holds (subst (λ (l : List Spot). StandOn honest state disk' l) (sym spots)
    (subst (λ (d : D). StandOn honest state d lists) (sym disks) on))))

pub returns-clause-is_of : goal.returns-clause-is_of
returns-clause-is_of g c =
    let source = c.new-source.result in
    let disks : source.disk ≡ c.args.store.disk = cc in
    let spots : source.lists ≡ c.args.store.lists = cc in
    let guests : source.guest ≡ c.in_ok-guest.guest = cc in
    of_store g.D.Disk.honest g.D.Disk.state (λ records. IfOk c.verified.result (λ k. g.K.Kept.is_of k records))
    c.args.store.disk source.disk c.args.store.lists source.lists source.guest c.args.number
    disks spots (guests ∙ c.in_ok-guest.ensures.there.0) c.verified.ensures.is_of

pub returns-clause-refused : goal.returns-clause-refused
returns-clause-refused g c = λ on.
    let source = c.new-source.result in
    let disks : source.disk ≡ c.args.store.disk = cc in
    let spots : source.lists ≡ c.args.store.lists = cc in
    let guests : source.guest ≡ c.in_ok-guest.guest = cc in
    subst (λ n. IfErr c.verified.result (λ e. RefusesGuest e (of_guest n (records_of c.args.store.lists)))) c.in_ok-guest.ensures.there.0
    (guest_refused c.verified.result (of_guest c.in_ok-guest.guest (records_of c.args.store.lists)) c.in_ok-guest.ensures.there.1
    (of_store g.D.Disk.honest g.D.Disk.state
    (λ records. IfErr c.verified.result (λ e. (fault : VerifyFault) × (e ≡ verify_told fault) × RefusesSource fault records))
    c.args.store.disk source.disk c.args.store.lists source.lists source.guest c.in_ok-guest.guest
    disks spots guests c.verified.ensures.refused on))
