use Rattle.std.proofs.Common.{◌≡◌, nat_abs, arith, rules}
use Rattle.tape.proofs.Laid.{in-signed}
use Rattle.tape.proofs.number.write_signed.Goals as goal

pub returns-then-n-lt0-clause-notation : goal.returns-then-n-lt0-clause-notation
returns-then-n-lt0-clause-notation c = let size : c.unsigned_abs-size.result ≡ nat_abs c.args.n = search rules in in-signed c.args.n (omega (arith, size))

pub returns-else-n-lt0-clause-notation : goal.returns-else-n-lt0-clause-notation
returns-else-n-lt0-clause-notation c = let size : c.unsigned_abs-size.result ≡ nat_abs c.args.n = search rules in in-signed c.args.n (omega (arith, size))
