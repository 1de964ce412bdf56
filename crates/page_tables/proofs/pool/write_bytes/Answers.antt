use Rattle.std.proofs.Common.{◌∙◌, sym, refl, length, ◌+◌, ◌-◌, arith}
use Rattle.std.proofs.lemmas.Slice.{put_mid-paste}
use Rattle.std.proofs.lemmas.List.Edits.{paste_all}
use Rattle.page_tables.proofs.Bytes.{written_is}
use Rattle.page_tables.proofs.pool.write_bytes.Goals as goal

pub returns : goal.returns
returns c =
    let from = c.args.from.now in record {
      put = put_mid-paste c.args.at (c.args.at + length from - c.args.at) c.args.bytes.now c.copy_from_slice.new.self from (length from)
          c.copy_from_slice.ensures.after (omega arith) refl
          ∙ paste_all c.args.bytes.now c.args.at from (length from) refl
          ∙ sym (written_is from c.args.bytes.now c.args.at (omega (arith, c.told-bytes)));
      filled = c.fill_page.ensures;
    }
