use Rattle.std.proofs.Common.{refl, arith, rules}
use Rattle.tape.proofs.Laid.{laid_mid}
use Rattle.tape.proofs.write.write_bytes.Goals as goal

pub returns : goal.returns
returns c = (search rules, refl, laid_mid c.args.out.now c.args.at _ c.args.bytes.now c.copy_from_slice.new.self (search rules) (omega arith) c.copy_from_slice.ensures.after)
