use Rattle.std.proofs.Common.{◌*◌, ◌<◌, length, sym, ap, subst, arith, rules}
use Rattle.tape.proofs.Entries.{cut_behind, prices_behind, quantities_behind}
use Rattle.tape.specs.Format.{row_length}
use Rattle.tape.specs.Reading.{Behind}
use Rattle.tape.specs.declared.record.Record.TheVariants.{Open, Offer}
use Rattle.tape.proofs.read.read_behind.Goals as goal

pub returns-in_err-prices-in-79 : goal.returns-in_err-prices-in-79
returns-in_err-prices-in-79 c = let cut = c.in_err-prices-in-79.ensures.cut_off in cut_behind c.args.n c.args.letter (4 * c.args.n) c.args.tape.now c.from_residual.result (ap (row_length c.args.n) c.in-79.is) cut.1 (search rules)

pub returns-in_err-quantities-in-84 : goal.returns-in_err-quantities-in-84
returns-in_err-quantities-in-84 c = let cut = c.in_err-quantities-in-84.ensures.cut_off in
    let short : length c.args.tape.now < c.args.n = omega (arith, cut.1) in
    cut_behind c.args.n c.args.letter c.args.n c.args.tape.now c.from_residual-in_err-quantities-in-84.result (ap (row_length c.args.n) c.in-84.is) short (search rules)

pub returns-in_ok-prices-in-79 : goal.returns-in_ok-prices-in-79
returns-in_ok-prices-in-79 c =
    let prices = c.in_ok-prices-in-79.prices in
    let rest = c.in_ok-prices-in-79.rest.now in
    subst (λ b. Behind c.args.n b c.args.tape.now (Open prices) rest) (sym c.in-79.is) (prices_behind c.args.n c.args.tape.now prices rest c.in_ok-prices-in-79.ensures.row)

pub returns-in_ok-quantities-in-84 : goal.returns-in_ok-quantities-in-84
returns-in_ok-quantities-in-84 c =
    let quantities = c.in_ok-quantities-in-84.quantities in
    let rest = c.in_ok-quantities-in-84.rest.now in
    subst (λ b. Behind c.args.n b c.args.tape.now (Offer quantities) rest) (sym c.in-84.is) (quantities_behind c.args.n c.args.tape.now quantities rest c.in_ok-quantities-in-84.ensures.row)
