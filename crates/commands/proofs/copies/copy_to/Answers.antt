use Rattle.std.proofs.Common.{◌≡◌, ◌∙◌, Err, List, [], ℕ, ap, refl, rules, subst}
use Rattle.std.specs.Io.KnownBytes.{Appends}
use Rattle.std.proofs.lemmas.Result.{err_from_is_err_and}
use Rattle.rrv_model.specs.Recovered.{of_guest}
use Rattle.recover.specs.Spots.{records_of}
use Rattle.copying.specs.Copied.{copies_of}
use Rattle.copying.proofs.Copied.{copies_done, copies_failed, copies_longer, copies_nothing}
use Rattle.copying.proofs.Kept.{begins_all}
use Rattle.copying.proofs.Numbered.{copies_none}
use Rattle.rrv_model.specs.Recording.{items_of}
use Rattle.listings.specs.Printed.{name_in, named_line}
use Rattle.line_io.specs.Printed.{with_newline}
use Rattle.commands.proofs.CopyRefusals.{copy_refused, name_refused}
use Rattle.commands.proofs.copies.copy_to.Goals as goal

pub returns-in_err-name-clause-copied : goal.returns-in_err-name-clause-copied
returns-in_err-name-clause-copied g c earlier on k =
    let p = err_from_is_err_and c.from_residual.result c.from_residual.ensures.1 in
    rw p.1 (copies_nothing g.D.Disk p.0 c.args.log.now earlier (copies_of c.args.log.now.next_guest c.args.guest c.args.lists.now) k)

pub returns-in_err-name-clause-safe : goal.returns-in_err-name-clause-safe
returns-in_err-name-clause-safe g c earlier k =
    let p = err_from_is_err_and c.from_residual.result c.from_residual.ensures.1 in
    ([], copies_none c.args.log.now.marked c.args.log.now.next_guest 0, rw p.1 (copies_nothing g.D.Disk p.0 c.args.log.now earlier [] k))

pub returns-in_err-number-clause-copied : goal.returns-in_err-number-clause-copied
returns-in_err-number-clause-copied g c earlier on k =
    let p = err_from_is_err_and c.from_residual-in_err-number.result c.from_residual-in_err-number.ensures.1 in
    let copies = copies_of c.args.log.now.next_guest c.args.guest c.args.lists.now in
    rw p.1 (copies_longer g.D.Disk c.args.log.now c.copy_guest.new.log earlier copies _ p.0 copies (begins_all copies)
    (c.in_err-number.ensures.copied earlier (c.in_ok-name.ensures.on on) k))

pub returns-in_err-number-clause-safe : goal.returns-in_err-number-clause-safe
returns-in_err-number-clause-safe g c earlier k =
    let p = err_from_is_err_and c.from_residual-in_err-number.result c.from_residual-in_err-number.ensures.1 in
    let safe = c.in_err-number.ensures.safe earlier k in (
      safe.0,
      safe.1,
      rw p.1 (copies_longer g.D.Disk c.args.log.now c.copy_guest.new.log earlier safe.0 _ p.0 safe.0 (begins_all safe.0) safe.2),
    )

pub returns-in_err-print_guest-clause-copied : goal.returns-in_err-print_guest-clause-copied
returns-in_err-print_guest-clause-copied g c earlier on k =
    let p = err_from_is_err_and c.from_residual-in_err-print_guest.result c.from_residual-in_err-print_guest.ensures.1 in
    rw p.1 (copies_failed g.D.Disk c.args.log.now c.copy_guest.new.log earlier
    (copies_of c.args.log.now.next_guest c.args.guest c.args.lists.now) _ p.0
    (c.in_ok-number.ensures.copied earlier (c.in_ok-name.ensures.on on) k))

pub returns-in_err-print_guest-clause-safe : goal.returns-in_err-print_guest-clause-safe
returns-in_err-print_guest-clause-safe g c earlier k =
    let p = err_from_is_err_and c.from_residual-in_err-print_guest.result c.from_residual-in_err-print_guest.ensures.1 in
    let safe = c.in_ok-number.ensures.safe earlier k in
    (safe.0, safe.1, rw p.1 (copies_failed g.D.Disk c.args.log.now c.copy_guest.new.log earlier safe.0 _ p.0 safe.2))

pub returns-in_err-name-clause-refused : goal.returns-in_err-name-clause-refused
returns-in_err-name-clause-refused g c on =
    let p = err_from_is_err_and c.from_residual.result c.from_residual.ensures.1 in
    rw (p.1, p.2) (name_refused (copies_of c.args.log.now.next_guest c.args.guest c.args.lists.now) c.args.log.now c.args.log.now _
    (c.in_err-name.ensures.refused on))

pub returns-in_err-number-clause-refused : goal.returns-in_err-number-clause-refused
returns-in_err-number-clause-refused g c on =
    let p = err_from_is_err_and c.from_residual-in_err-number.result c.from_residual-in_err-number.ensures.1 in
    let fault = c.in_err-number.ensures in
    let on' = c.in_ok-name.ensures.on on in
    rw (p.1, p.2) (copy_refused (copies_of c.args.log.now.next_guest c.args.guest c.args.lists.now) c.args.log.now c.copy_guest.new.log _
    (λ e. fault.too_many.0 (ap Err e)) (λ e. fault.full (ap Err e)) (fault.undamaged on') (fault.needs on'))

pub returns-in_err-print_guest-clause-refused : goal.returns-in_err-print_guest-clause-refused
returns-in_err-print_guest-clause-refused g c on =
    let p = err_from_is_err_and c.from_residual-in_err-print_guest.result c.from_residual-in_err-print_guest.ensures.1 in
    rw (p.1, p.2) tt

pub returns-in_err-print_guest-clause-quiet : goal.returns-in_err-print_guest-clause-quiet
returns-in_err-print_guest-clause-quiet g c =
    let p = err_from_is_err_and c.from_residual-in_err-print_guest.result c.from_residual-in_err-print_guest.ensures.1 in
    rw (p.1, p.2) (λ other. absurd (other refl))

pub returns-clause-copied : goal.returns-clause-copied
returns-clause-copied g c earlier on k =
    copies_done g.D.Disk c.args.log.now c.copy_guest.new.log earlier (copies_of c.args.log.now.next_guest c.args.guest c.args.lists.now) _ _
    (c.in_ok-number.ensures.copied earlier (c.in_ok-name.ensures.on on) k)

pub returns-clause-safe : goal.returns-clause-safe
returns-clause-safe g c earlier k =
    let safe = c.in_ok-number.ensures.safe earlier k in
    (safe.0, safe.1, copies_done g.D.Disk c.args.log.now c.copy_guest.new.log earlier safe.0 _ _ safe.2)

pub returns-clause-printed : goal.returns-clause-printed
returns-clause-printed g c on =
    let records = of_guest c.args.guest (records_of c.args.lists.now) in
    let contents = g.W.Write.contents in
    let number = c.in_ok-number.ensures.number in
    let named : c.as_slice.result.now ≡ c.in_ok-name.name.items = search rules in
    subst (λ (n : ℕ). Appends (contents c.args.out.now) (contents c.print_guest.new.out)
    (with_newline (named_line n (name_in [] (items_of records)) records))) number
    (subst (λ (name : List ℕ). Appends (contents c.args.out.now) (contents c.print_guest.new.out)
    (with_newline (named_line c.in_ok-number.number name records))) (named ∙ c.in_ok-name.ensures.read on)
    c.in_ok-print_guest.ensures.printed)
