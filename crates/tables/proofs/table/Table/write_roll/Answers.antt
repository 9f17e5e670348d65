use Rattle.std.proofs.Common.{◌≡◌, ◌*◌, leb, length, sym, ap, ◌∙◌, arith, rules}
use Rattle.std.proofs.lemmas.List.{get_or-take}
use Rattle.std.proofs.lemmas.Bool.{le-leb, lt-leb}
use Rattle.std.specs.Bool.{then_some}
use Rattle.tables.proofs.Bytes.{laid_more}
use Rattle.tables.proofs.Views.{table_roll}
use Rattle.tables.specs.Tables.{row_at}
use Rattle.tables.proofs.table.Table.write_roll.Goals as goal

pub loop-k-preserved : goal.loop-k-preserved
loop-k-preserved c =
    let T = c.args.self.now in
    let k = c.loop-k.k in
    let row : c.copy_from_slice.new.self ≡ row_at T.products T.rows k = search (rules, get_or-take) in
    let long = c.copy_from_slice.ensures.len in
    laid_more T.products T.rows c.args.bytes.now c.loop-k.bytes c.copy_from_slice.new.self k _ (omega arith) row (omega arith) (search rules) c.loop-k.invariant

pub returns-then-bytes-self-clause-value : goal.returns-then-bytes-self-clause-value
returns-then-bytes-self-clause-value c =
    let T = c.args.self.now in
    let long = length c.args.bytes.now in
    sym (ap (λ k. then_some (leb (k * T.products) long) k) (table_roll T) ∙ ap (λ b. then_some b T.packages) (lt-leb (T.packages * T.products) long c.if-bytes-self.true))

pub returns-clause-value : goal.returns-clause-value
returns-clause-value c =
    let T = c.args.self.now in
    let long = length c.args.bytes.now in
    sym (ap (λ k. then_some (leb (k * T.products) long) k) (table_roll T) ∙ ap (λ b. then_some b T.packages) (le-leb (T.packages * T.products) long c.if-bytes-self.false))
