use Rattle.std.proofs.Common.{arith}
use Rattle.listing.proofs.Puts.{line_put}
use Rattle.listing.specs.Text.{error_text}
use Rattle.listing.proofs.write.write_error.Goals as goal

pub returns : goal.returns
returns c =
    line_put c.args.line.now c.put_error-at.new.line c.put_bytes.new.line (error_text c.args.error) c.put_error-at.result c.put_bytes.result (omega arith)
    c.put_error-at.ensures.bound c.put_error-at.ensures.text c.put_bytes.ensures
