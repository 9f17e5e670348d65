use Rattle.std.proofs.Common.{◌≡◌, ◌+◌, is_some, Some, None, sym, ap, ◌∙◌, if◌then◌else◌, arith, rules}
use Rattle.tables.proofs.Bids.{error_latest}
use Rattle.tables.specs.Tables.{bid_of}
use Rattle.tables.specs.declared.table.errors.BidError.TheVariants.{BidStands}
use Rattle.tables.proofs.table.Table.free_round.Goals as goal

pub returns-in-Some-clause-error : goal.returns-in-Some-clause-error
returns-in-Some-clause-error c =
    let T = c.args.self.now in
    let latest = c.in_ok-latest.latest in
    let is : latest + 1 ≡ T.rounds = search rules in
    let bid : bid_of T.played latest ≡ Some c.in-Some.field-0 = search rules in
    sym (error_latest T c.args.row.now latest (omega arith) is ∙ ap (λ b. if is_some b then Some BidStands else None) bid)

pub returns-in-None-clause-error : goal.returns-in-None-clause-error
returns-in-None-clause-error c =
    let T = c.args.self.now in
    let latest = c.in_ok-latest.latest in
    let is : latest + 1 ≡ T.rounds = search rules in
    let bid : bid_of T.played latest ≡ None = search rules in
    sym (error_latest T c.args.row.now latest (omega arith) is ∙ ap (λ b. if is_some b then Some BidStands else None) bid)
