use Rattle.std.proofs.Common.{decimal, get_or, take, subst, arith, rules}
use Rattle.std.proofs.lemmas.List.{get_or-take, take_more}
use Rattle.listing.proofs.Puts.{row_put}
use Rattle.listing.specs.Writing.{Put}
use Rattle.listing.proofs.write.put_row.Goals as goal

pub loop-cell-preserved : goal.loop-cell-preserved
loop-cell-preserved c =
    let cells = c.args.cells.now in
    let i = c.loop-cell.cell-index in
    let here = get_or-take c.min.result cells i 0 (search rules) in
    let number = subst (λ x. Put c.put_bytes-blank.new.line c.put_bytes-blank.result (decimal x) c.put_number-end.result c.put_number-end.new.line) here c.put_number-end.ensures.text in
    let put = row_put c.args.line.now c.loop-cell.line c.put_bytes-blank.new.line c.put_number-end.new.line (take i cells)
    c.args.at c.loop-cell.end c.put_bytes-blank.result c.put_number-end.result (get_or cells i 0)
    c.loop-cell.invariant.text c.put_bytes-blank.ensures number in
    record {
      text = rw (take_more cells i 0 (search rules)) put;
      bound = omega arith;
    }
