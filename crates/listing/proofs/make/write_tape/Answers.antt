use Rattle.std.proofs.Common.{◌≡◌, Some, None, ap, ◌∙◌, subst, rules}
use Rattle.std.specs.Result.{result_ok}
use Rattle.std.proofs.lemmas.Result.{err_from_is_err_and}
use Rattle.listing.proofs.Wholes.{header_full, made_behind}
use Rattle.tape.specs.Format.{header_bytes}
use Rattle.tape.specs.Writing.{Wrote}
use Rattle.listing.proofs.make.write_tape.Goals as goal

pub returns-in_err-start : goal.returns-in_err-start
returns-in_err-start c text headed =
    let before = c.args.tape.now in
    let left = c.args.lines in
    let none : c.write_header.result ≡ None = c.ok_or.ensures.ok_part ∙ ap result_ok c.in_err-start.was in
    let full = rw none at c.write_header.ensures in
    let bad : c.in_err-start.field-0.0.line ≡ left.passed = search rules in
    let p = err_from_is_err_and c.from_residual.result c.from_residual.ensures.1 in
    rw (p.1, p.2, bad, full.1) (header_full text before left.rest.now c.args.header.now left.passed full.0 headed)

pub returns : goal.returns
returns c text headed =
    let before = c.args.tape.now in
    let left = c.args.lines in
    let header = c.args.header.now in
    let some : c.write_header.result ≡ Some c.in_ok-start.start = c.ok_or.ensures.ok_part ∙ ap result_ok c.in_ok-start.was in
    let wrote = subst (λ r. Wrote before 0 (header_bytes header.book header.products header.kind) r c.write_header.new.out) some c.write_header.ensures in
    made_behind text before c.write_header.new.out c.write_lines.new.tape left.rest.now header left.passed c.in_ok-start.start c.write_lines.result headed wrote c.write_lines.ensures
