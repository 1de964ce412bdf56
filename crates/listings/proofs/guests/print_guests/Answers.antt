use Rattle.std.proofs.Common.{◌≡◌, ◌∙◌, List, ℕ, get_or, refl, rules, subst}
use Rattle.std.specs.Prelude.{flat_map}
use Rattle.std.specs.Io.KnownBytes.{Appends}
use Rattle.std.proofs.lemmas.List.{take_all}
use Rattle.std.proofs.lemmas.Option.{slice_get-get_or}
use Rattle.rrv_model.specs.Recovered.{of_guest}
use Rattle.recover.specs.Spots.{records_of}
use Rattle.listings.specs.Printed.{guest_line, named_line}
use Rattle.line_io.specs.Printed.{with_newline}
use Rattle.end_text.proofs.Printed.{printed_on}
use Rattle.listings.proofs.guests.print_guests.Goals as goal

pub loop-guest-preserved : goal.loop-guest-preserved
loop-guest-preserved g c =
    let guests = c.guests-guest-items.result.now in
    let i = c.loop-guest.guest-index in
    let guest = get_or guests i 0 in
    let records = of_guest guest (records_of c.args.lists.now) in
    let named : c.as_slice.result.now ≡ c.in_ok-name.name.items = search rules in
    let before = c.loop-guest.invariant in (
      λ on. printed_on (λ guest. with_newline (guest_line guest (of_guest guest (records_of c.args.lists.now)))) guests i guest _ _ _
          (slice_get-get_or guests i 0 c.loop-guest-test.true) (before.0 on)
          (subst (λ (name : List ℕ). Appends (g.W.Write.contents c.loop-guest.out) (g.W.Write.contents c.print_guest.new.out)
          (with_newline (named_line guest name records)))
          (named ∙ c.in_ok-name.ensures.read (before.1 on)) c.in_ok-print_guest.ensures.printed),
      λ on. c.in_ok-name.ensures.on (before.1 on),
    )

pub returns-clause-printed : goal.returns-clause-printed
returns-clause-printed g c = λ on.
    let guests = c.guests-guest-items.result.now in
    let line : ℕ → List ℕ = λ guest. with_newline (guest_line guest (of_guest guest (records_of c.args.lists.now))) in (
      flat_map line guests,
      record { guests = guests; rising = c.guests-guest-items.ensures.rising; each = c.guests-guest-items.ensures.each; text_is = refl },
      subst (λ (xs : List ℕ). Appends (g.W.Write.contents c.args.out.now) (g.W.Write.contents c.loop-guest.out) (flat_map line xs))
          (take_all c.loop-guest.guest-index guests c.loop-guest-test.false) (c.loop-guest.invariant.0 on),
    )
