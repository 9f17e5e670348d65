use Rattle.std.proofs.Common.{arith}
use Rattle.tape.proofs.Laid.{in-decimal}
use Rattle.tape.proofs.number.write_number.Goals as goal

pub returns-then-not-fits-clause-notation : goal.returns-then-not-fits-clause-notation
returns-then-not-fits-clause-notation c = in-decimal c.args.n (omega arith)

pub returns-clause-notation : goal.returns-clause-notation
returns-clause-notation c = in-decimal c.args.n (omega arith)
