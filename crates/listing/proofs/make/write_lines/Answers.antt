use Rattle.std.proofs.Common.{sym, ◌∙◌, subst, rules}
use Rattle.std.proofs.lemmas.Result.{err_from_is_err_and}
use Rattle.listing.proofs.Makings.{Numbered, numbered_err, numbered_ok, Filling, filling_breaks, filling_more}
use Rattle.listing.specs.Making.{WritesLine}
use Rattle.listing.proofs.make.write_lines.Goals as goal

pub returns-in_err-at : goal.returns-in_err-at
returns-in_err-at c =
    let n = c.args.header.now.products in
    let left = c.loop-line.line-iterator in
    let next = c.in-Some.text.now in
    let steps = c.in-Some.ensures.steps in
    let numbered : Numbered c.write_line.result c.in-Some.line c.map_err.result = search rules in
    let bad = numbered_err c.write_line.result c.in-Some.line c.map_err.result c.in_err-at.field-0.0 numbered c.in_err-at.was in
    let wrote = subst (λ r. WritesLine n next c.loop-line.tape c.loop-line.at r c.write_line.new.tape) bad.1.1 c.write_line.ensures in
    let p = err_from_is_err_and c.from_residual.result c.from_residual.ensures.1 in
    let broken = filling_breaks n c.args.lines.rest.now left.rest.now next c.next.new.self.rest.now c.args.lines.passed left.passed
    c.args.tape.now c.loop-line.tape c.write_line.new.tape c.args.start c.loop-line.at steps.0 wrote.0 wrote.1 c.loop-line.invariant in
    rw (p.1, p.2) (broken.0, (broken.1.0, bad.0 ∙ steps.1 ∙ broken.1.1, broken.1.2, broken.1.3))

pub loop-line-preserved : goal.loop-line-preserved
loop-line-preserved c =
    let n = c.args.header.now.products in
    let left = c.loop-line.line-iterator in
    let next = c.in-Some.text.now in
    let steps = c.in-Some.ensures.steps in
    let numbered : Numbered c.write_line.result c.in-Some.line c.map_err.result = search rules in
    let written = numbered_ok c.write_line.result c.in-Some.line c.map_err.result c.in_ok-at.at numbered c.in_ok-at.was in
    let wrote = subst (λ r. WritesLine n next c.loop-line.tape c.loop-line.at r c.write_line.new.tape) written c.write_line.ensures in
    let more = filling_more n c.args.lines.rest.now left.rest.now next c.next.new.self.rest.now c.args.lines.passed left.passed
    c.args.tape.now c.loop-line.tape c.write_line.new.tape c.args.start c.loop-line.at c.in_ok-at.at steps.0 wrote c.loop-line.invariant in
    subst (λ k. Filling n c.args.lines.rest.now c.next.new.self.rest.now c.args.lines.passed k c.args.tape.now c.args.start c.in_ok-at.at c.write_line.new.tape) (sym steps.2) more
