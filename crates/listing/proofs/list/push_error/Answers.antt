use Rattle.std.proofs.Common.{cond, ◌++◌, replicate, is_ok, vec_items, ap, ◌∙◌}
use Rattle.listing.proofs.Puts.{line_taken}
use Rattle.listing.specs.Text.{error_text, line}
use Rattle.listing.proofs.list.push_error.Goals as goal

pub returns : goal.returns
returns c =
    let old = vec_items c.args.text.now in
    let text = line (error_text c.args.error) in
    let front = line_taken (replicate 256 0) text c.write_error.new.line c.write_error.result c.unwrap-end.result c.unwrap-end.ensures c.write_error.ensures in
    c.extend_from_slice.ensures.items ∙ ap (λ t. cond (is_ok c.extend_from_slice.result) (old ++ t) old) front
