use Rattle.std.proofs.Common.{length, decimal, sym, ap, ◌∙◌, arith, rules}
use Rattle.tape.proofs.Laid.{length_power, length_zero}
use Rattle.tape.proofs.number.digit_count.Goals as goal

pub returns-clause-value : goal.returns-clause-value
returns-clause-value c =
    sym (length_power c.ilog10.result c.max.result (search rules) c.ilog10.ensures.power_le c.ilog10.ensures.next_power_gt)
    ∙ ap (λ n. length (decimal n)) c.max.ensures
    ∙ length_zero c.args.n (omega arith)
