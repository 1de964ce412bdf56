use Rattle.std.proofs.Common.{◌∙◌, sym, refl}
use Rattle.page_tables.specs.Contents.{contents_of}
use Rattle.page_tables.proofs.PlacedPages.{written_after, writable_there, unrefused, is_refusal}
use Rattle.page_tables.proofs.page_tables.PageTables.put_slowly.Goals as goal

pub unshare-requires : goal.unshare-requires
unshare-requires c = writable_there _ (unrefused _ (sym c.refusal.ensures ∙ c.in_default.is))

pub write-requires-clause-own : goal.write-requires-clause-own
write-requires-clause-own c = let u = c.in-Ok.ensures.unshared in u.own

pub returns-in-Some : goal.returns-in-Some
returns-in-Some c = record {
  allowed = tt;
  written = tt;
  refused = is_refusal _ c.in-Some.fault (sym c.refusal.ensures ∙ c.in-Some.is);
  err = refl;
}

pub returns : goal.returns
returns c = record {
  allowed = unrefused _ (sym c.refusal.ensures ∙ c.in_default.is);
  written = written_after c.args.number c.args.at c.args.bytes.now (contents_of c.args.self.now) (contents_of c.unshare.new.self)
      (contents_of c.write.new.self) c.in-Ok.ensures.unshared c.write.ensures;
  refused = tt;
  err = tt;
}
