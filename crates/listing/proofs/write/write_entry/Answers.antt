use Rattle.std.proofs.Common.{subst, arith}
use Rattle.listing.proofs.Puts.{line_put}
use Rattle.listing.specs.Text.{entry_text}
use Rattle.listing.specs.Writing.{Put}
use Rattle.tape.specs.Format.{entry_of}
use Rattle.listing.proofs.write.write_entry.Goals as goal

pub returns : goal.returns
returns c =
    let before = c.args.line.now in
    let text = subst (λ n. Put before 0 (entry_text (entry_of n c.args.entry.now)) c.put_record-at.result c.put_record-at.new.line) c.from.ensures c.put_record-at.ensures.text in
    line_put before c.put_record-at.new.line c.put_bytes.new.line (entry_text (entry_of c.args.header.now.products c.args.entry.now)) c.put_record-at.result c.put_bytes.result (omega arith)
    c.put_record-at.ensures.bound text c.put_bytes.ensures
