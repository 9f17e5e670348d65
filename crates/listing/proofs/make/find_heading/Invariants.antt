use Rattle.std.proofs.Common.{length}
use Rattle.listing.proofs.Makings.{Passing}
use Rattle.listing.proofs.make.find_heading.Given as goal

-- the lines before the rest have no words
abbrev pub invariant-loop-line : goal.invariant-loop-line
invariant-loop-line l = Passing l.initial.lines.rest.now l.lines.rest.now l.lines.passed

abbrev pub decreases-loop-line : goal.decreases-loop-line
decreases-loop-line l = length l.lines.rest.now
