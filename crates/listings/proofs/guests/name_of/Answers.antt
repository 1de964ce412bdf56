use Rattle.std.proofs.Common.{◌∙◌, [], ◌∷◌, ap, refl, sym}
use Rattle.rrv_model.specs.declared.record.Item.{Item}
use Rattle.recover.specs.Spots.{records_of}
use Rattle.listings.specs.Printed.{name_in}
use Rattle.listings.proofs.Summaries.{first_names, nameless}
use Rattle.listings.proofs.guests.name_of.Goals as goal

pub returns-in-Some : goal.returns-in-Some
returns-in-Some g c = record {
  read = λ on.
      c.into_vec.ensures ∙ c.into_name.ensures ∙ ap (λ (i : Item). name_in [] (i ∷ [])) (sym c.in-Some.ensures.opening)
      ∙ first_names c.args.guest (records_of c.args.lists.now) c.in_ok-entry.entry c.len.ensures.in_order
      (c.in_ok-entry.ensures.read.read on);
  refused = λ _. tt;
  on = c.in_ok-entry.ensures.read.on;
}

pub returns-in-None : goal.returns-in-None
returns-in-None g c = record {
  read = λ on.
      c.new-in-None.ensures.items ∙ nameless c.in_ok-entry.entry.item (c.in-None.ensures.another refl)
      ∙ first_names c.args.guest (records_of c.args.lists.now) c.in_ok-entry.entry c.len.ensures.in_order
      (c.in_ok-entry.ensures.read.read on);
  refused = λ _. tt;
  on = c.in_ok-entry.ensures.read.on;
}
