use Rattle.std.proofs.Common.{◌≡◌, ◌∙◌, ◌++◌, List, ℕ, get_or, rules, subst}
use Rattle.std.specs.Io.KnownBytes.{Appends}
use Rattle.std.proofs.lemmas.List.{take_all}
use Rattle.std.proofs.lemmas.List.Elements.{Contains-get_or}
use Rattle.std.proofs.lemmas.Option.{slice_get-get_or}
use Rattle.rrv_model.specs.Recovered.{of_guest}
use Rattle.recover.specs.Spots.{records_of}
use Rattle.listings.specs.LongList.{AreLines, told_text}
use Rattle.listings.specs.Printed.{named_line}
use Rattle.line_io.specs.Printed.{with_newline}
use Rattle.listings.proofs.LongTexts.{line_printed}
use Rattle.listings.proofs.long_list.print_all_long.Goals as goal

pub told_of-requires : goal.told_of-requires
told_of-requires g c =
    let guests = c.guests-guest-items.result.now in
    let i = c.loop-guest.guest-index in
    let guest = get_or guests i 0 in
    (c.guests-guest-items.ensures.each guest).0 (Contains-get_or guests i 0 c.loop-guest-test.true)

pub loop-guest-preserved : goal.loop-guest-preserved
loop-guest-preserved g c =
    let guests = c.guests-guest-items.result.now in
    let i = c.loop-guest.guest-index in
    let guest = get_or guests i 0 in
    let records = of_guest guest (records_of c.args.lists.now) in
    let named : c.as_slice.result.now ≡ c.in_ok-name.name.items = search rules in
    let before = c.loop-guest.invariant in (
      λ on. line_printed (records_of c.args.lists.now) guests i guest c.in_ok-tells.tells _ _ _
          (slice_get-get_or guests i 0 c.loop-guest-test.true) (before.0 on)
          (c.in_ok-tells.ensures.read (c.in_ok-name.ensures.on (before.1 on)))
          (subst (λ (name : List ℕ). Appends (g.W.Write.contents c.loop-guest.out) (g.W.Write.contents c.print_long.new.out)
          (with_newline (named_line guest name records ++ told_text c.in_ok-tells.tells)))
          (named ∙ c.in_ok-name.ensures.read (before.1 on)) c.in_ok-print_long.ensures.printed),
      λ on. c.in_ok-tells.ensures.on (c.in_ok-name.ensures.on (before.1 on)),
    )

pub returns-clause-printed : goal.returns-clause-printed
returns-clause-printed g c = λ on.
    let guests = c.guests-guest-items.result.now in
    let before = c.loop-guest.invariant.0 on in (
      before.0,
      record {
        guests = guests;
        rising = c.guests-guest-items.ensures.rising;
        each = c.guests-guest-items.ensures.each;
        lines = subst (λ (xs : List ℕ). AreLines (records_of c.args.lists.now) xs before.0)
            (take_all c.loop-guest.guest-index guests c.loop-guest-test.false) before.1;
      },
      before.2,
    )
