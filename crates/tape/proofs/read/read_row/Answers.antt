use Rattle.std.proofs.Common.{◌≡◌, ◌*◌, ◌<◌, ◌++◌, length, replicate, take, drop, sym, ap, ◌∙◌, subst, arith, rules}
use Rattle.std.proofs.lemmas.List.{take-replicate}
use Rattle.std.proofs.lemmas.Option.{MatchOption-at_some, MatchOption-at_none}
use Rattle.tape.proofs.Rows.{row_none, row_more, row_whole, row_then, row_next}
use Rattle.tape.specs.Reading.{RowRead}
use Rattle.tape.proofs.read.read_row.Goals as goal

pub loop-cell-init : goal.loop-cell-init
loop-cell-init g c =
    let f = g.F.Field in
    let cells = ap (λ z. take c.args.n (replicate 16 z)) c.ZERO-row.ensures ∙ take-replicate c.args.n 16 f.ZERO c.requires in
    subst (λ l. RowRead f.ZERO f.limit f.value_of f.bytes_of c.args.n 0 c.args.tape.now l c.args.tape.now) (sym cells) (row_none f.ZERO f.limit f.value_of f.bytes_of c.args.n c.args.tape.now)

pub returns-in_err-number-clause-cut_off : goal.returns-in_err-number-clause-cut_off
returns-in_err-number-clause-cut_off g c =
    let f = g.F.Field in
    let rest = c.loop-cell.rest.now in
    let none = MatchOption-at_none (length rest < f.WIDTH) (λ p. (f.value_of p.0 < f.limit) × (rest ≡ f.bytes_of p.0 ++ p.1.now)) c.in_err-number.ensures.ok_part c.read.ensures in
    let long = row_then f.ZERO f.limit f.value_of f.bytes_of f.WIDTH g.met.F.Field.laws.long c.args.n c.loop-cell.cell-index c.args.tape.now c.loop-cell.cell-items rest c.loop-cell.invariant in
    let next = row_next f.WIDTH c.loop-cell.cell-index c.args.n (search rules) in
    let cut : length c.args.tape.now < f.WIDTH * c.args.n = omega (arith, long, none, next) in
    search rules

pub loop-cell-preserved : goal.loop-cell-preserved
loop-cell-preserved g c =
    let f = g.F.Field in
    let rest = c.loop-cell.rest.now in
    let read = MatchOption-at_some (length rest < f.WIDTH) (λ p. (f.value_of p.0 < f.limit) × (rest ≡ f.bytes_of p.0 ++ p.1.now)) (c.in_ok-number.number, c.in_ok-number.more) c.in_ok-number.ensures.ok_part c.read.ensures in
    row_more f.ZERO f.limit f.value_of f.bytes_of c.args.n c.loop-cell.cell-index c.args.tape.now c.loop-cell.cell-items rest c.in_ok-number.number c.in_ok-number.more.now read.0 read.1 (search rules) c.loop-cell.invariant

pub returns-clause-row : goal.returns-clause-row
returns-clause-row g c =
    let f = g.F.Field in
    let all : c.loop-cell.cell-index ≡ c.args.n = search rules in
    let read = subst (λ i. RowRead f.ZERO f.limit f.value_of f.bytes_of c.args.n i c.args.tape.now c.loop-cell.cell-items c.loop-cell.rest.now) all c.loop-cell.invariant in
    let whole = row_whole f.ZERO f.limit f.value_of f.bytes_of 16 c.args.n c.args.tape.now c.loop-cell.cell-items c.loop-cell.rest.now read in
    subst (λ z. RowRead f.ZERO f.limit f.value_of f.bytes_of 16 c.args.n c.args.tape.now (c.loop-cell.cell-items ++ drop c.args.n (replicate 16 z)) c.loop-cell.rest.now) (sym c.ZERO-row.ensures) whole
