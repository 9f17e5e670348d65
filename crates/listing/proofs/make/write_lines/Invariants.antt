use Rattle.listing.proofs.Makings.{Filling}
use Rattle.listing.proofs.make.write_lines.Given as goal

-- the lines before the rest are written
abbrev pub invariant-loop-line : goal.invariant-loop-line
invariant-loop-line l =
    Filling l.header.products l.fn.lines.rest.now l.line-iterator.rest.now l.fn.lines.passed l.line-iterator.passed l.initial.tape l.start l.at l.tape
