use Rattle.std.proofs.Common.{length, subst}
use Rattle.std.proofs.lemmas.Result.{err_from_is_err_and}
use Rattle.listing.proofs.Wholes.{heading_refused}
use Rattle.listing.specs.Making.{NoHeading}
use Rattle.listing.proofs.make.fill_tape.Goals as goal

pub returns-in_err-header : goal.returns-in_err-header
returns-in_err-header c =
    let text = c.args.text.now in
    let before = c.args.tape.now in
    let p = err_from_is_err_and c.from_residual.result c.from_residual.ensures.1 in
    let none = subst (λ t. NoHeading t c.in_err-header.field-0.0.line) c.new-lines.ensures.rest c.in_err-header.ensures in
    rw (p.1, p.2) (heading_refused (length before) text before c.in_err-header.field-0.0.line none)
