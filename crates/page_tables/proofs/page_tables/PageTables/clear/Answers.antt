use Rattle.std.proofs.Common.{◌≡◌, ◌∙◌, ℕ, List, Option, Some, None, IfSome, ap, sym, length, replicate, is_some}
use Rattle.std.proofs.lemmas.List.{length-replicate}
use Rattle.page_tables.specs.Contents.{PageValue, FillPage, contents_of}
use Rattle.page_tables.proofs.PlacedPages.{written_anew}
use Rattle.page_tables.proofs.page_tables.PageTables.clear.Goals as goal

filled_length : (bs : List ℕ) (o : Option PageValue) → length bs ≡ 4096 → IfSome o (λ p. FillPage p.bytes) →
    IfSome o (λ p. length bs ≡ length p.bytes)
filled_length bs None e i = tt
filled_length bs (Some p) e i = e ∙ sym i.0

pub returns : goal.returns
returns c =
    let old = contents_of c.args.self.now in
    let zeros = replicate {A = ℕ} 4096 0 in
    written_anew c.args.number c.args.permissions zeros old (contents_of c.write.new.self) (contents_of c.set_permissions.new.self)
    ((c.all_own.ensures.counted c.args.number).1 (ap is_some c.requires))
    (filled_length zeros (old.pages c.args.number) (length-replicate {A = ℕ} 4096 0) (c.all_own.ensures.bytes c.args.number))
    c.write.ensures c.set_permissions.ensures
