use Rattle.std.proofs.Common.{◌+◌, Ok, sym, ap, ◌∙◌, subst, rules}
use Rattle.std.proofs.lemmas.Result.{err_from_is_err_and}
use Rattle.listing.proofs.Makings.{Numbered, numbered_err, numbered_ok, bad_heading, no_heading, Passing, passing_more}
use Rattle.listing.specs.Lines.{Describe, lines, said}
use Rattle.listing.specs.Making.{NoHeading}
use Rattle.listing.specs.Scanning.{ReadsHeading}
use Rattle.listing.proofs.make.find_heading.Goals as goal

pub returns-in_err-heading : goal.returns-in_err-heading
returns-in_err-heading c =
    let text = c.args.lines.now.rest.now in
    let left = c.loop-line.lines in
    let steps = c.in-Some.ensures.steps in
    let numbered : Numbered c.read_heading.result c.in-Some.line c.map_err.result = search rules in
    let bad = numbered_err c.read_heading.result c.in-Some.line c.map_err.result c.in_err-heading.field-0.0 numbered c.in_err-heading.was in
    let read = subst (ReadsHeading (said c.in-Some.text.now)) bad.1.1 c.read_heading.ensures.reads in
    let p = err_from_is_err_and c.from_residual.result c.from_residual.ensures.1 in
    let none = no_heading text left.rest.now left.passed
    (λ b p k es d. bad_heading c.in-Some.text.now (lines c.next.new.self.rest.now) read.0 read.1 b p k es (subst (λ ls. Describe ls b p k es) steps.0 d)) c.loop-line.invariant in
    rw (p.1, p.2) (subst (NoHeading text) (sym steps.1 ∙ sym bad.0) none)

pub loop-line-preserved : goal.loop-line-preserved
loop-line-preserved c =
    let text = c.args.lines.now.rest.now in
    let left = c.loop-line.lines in
    let steps = c.in-Some.ensures.steps in
    let numbered : Numbered c.read_heading.result c.in-Some.line c.map_err.result = search rules in
    let found = numbered_ok c.read_heading.result c.in-Some.line c.map_err.result c.in_ok-heading.heading numbered c.in_ok-heading.was in
    let none = subst (ReadsHeading (said c.in-Some.text.now)) (found ∙ ap Ok c.in_default-heading.is) c.read_heading.ensures.reads in
    let more = passing_more text left.rest.now c.in-Some.text.now c.next.new.self.rest.now left.passed steps.0 steps.3 none c.loop-line.invariant in
    subst (Passing text c.next.new.self.rest.now) (sym steps.2) more

pub returns : goal.returns
returns c =
    let text = c.args.lines.now.rest.now in
    let left = c.loop-line.lines in
    let none = no_heading text left.rest.now left.passed (λ b p k es d. subst (λ ls. Describe ls b p k es) c.in_default.ensures.steps.0 d) c.loop-line.invariant in
    subst (λ k. NoHeading text (k + 1)) (search rules) none
