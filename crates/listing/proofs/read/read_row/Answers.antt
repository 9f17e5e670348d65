use Rattle.std.proofs.Common.{◌≡◌, ℕ, ◌++◌, Ok, replicate, take, drop, sym, ap, ◌∙◌, subst, rules}
use Rattle.std.proofs.lemmas.List.{take-replicate}
use Rattle.std.proofs.lemmas.Result.{err_from_is_err_and}
use Rattle.listing.proofs.RowWords.{RowSaid, row_breaks, row_more, row_none, row_whole}
use Rattle.listing.specs.Lines.{words}
use Rattle.listing.specs.Scanning.{ReadsRow}
use Rattle.listing.proofs.read.read_row.Goals as goal

pub loop-cell-init : goal.loop-cell-init
loop-cell-init g c =
    let f = g.F.Field in
    let ws = words c.args.text.now in
    let cells = ap (λ z. take c.args.n (replicate 16 z)) c.ZERO-row.ensures ∙ take-replicate c.args.n 16 f.ZERO c.requires in
    subst (λ l. RowSaid f.ZERO f.limit f.value_of c.args.n 0 ws ws l) (sym cells) (row_none f.ZERO f.limit f.value_of c.args.n ws)

pub returns-in_err-number : goal.returns-in_err-number
returns-in_err-number g c =
    let f = g.F.Field in
    rw (err_from_is_err_and c.from_residual.result c.from_residual.ensures.1).1
    (row_breaks f.ZERO f.limit f.value_of c.args.n c.loop-cell.cell-index (words c.args.text.now) (words c.loop-cell.rest.now) c.loop-cell.cell-items (search rules) c.in_err-number.ensures c.loop-cell.invariant)

pub loop-cell-preserved : goal.loop-cell-preserved
loop-cell-preserved g c =
    let f = g.F.Field in
    let taken = c.in_ok-number.ensures in
    row_more f.ZERO f.limit f.value_of c.args.n c.loop-cell.cell-index c.in_ok-number.number taken.0 (words c.args.text.now) (words c.loop-cell.rest.now) (words c.in_ok-number.more.now)
    c.loop-cell.cell-items (search rules) taken.1 taken.2.0 taken.2.1 taken.2.2 c.loop-cell.invariant

pub returns : goal.returns
returns g c =
    let f = g.F.Field in
    let ws = words c.args.text.now in
    let left = words c.loop-cell.rest.now in
    let all : c.loop-cell.cell-index ≡ c.args.n = search rules in
    let inv = subst (λ i. RowSaid f.ZERO f.limit f.value_of c.args.n i ws left c.loop-cell.cell-items) all c.loop-cell.invariant in
    let whole = row_whole f.ZERO f.limit f.value_of c.args.n ws left c.loop-cell.cell-items c.in_ok-take_end.ensures inv in
    subst (λ z. ReadsRow {E = ℕ} f.ZERO f.limit f.value_of c.args.n ws (Ok (c.loop-cell.cell-items ++ drop c.args.n (replicate 16 z)))) (sym c.ZERO-row.ensures) whole
