use Rattle.std.proofs.Common.{◌≡◌, ◌+◌, ◌-◌, ◌*◌, None, get_or, drop, ap, sym, ◌∙◌, arith}
use Rattle.std.specs.Result.{result_ok}
use Rattle.std.proofs.lemmas.Result.{err_from_is_err_and}
use Rattle.listing.proofs.Spelling.{value_grows, value_more}
use Rattle.listing.specs.Lines.{value_from}
use Rattle.listing.proofs.words.read_number.Goals as goal

pub loop-digit-init : goal.loop-digit-init
loop-digit-init g c =
    let zero : g.F.Field.value_of c.ZERO-number.result ≡ 0 = ap g.F.Field.value_of c.ZERO-number.ensures ∙ g.met.F.Field.laws.nothing in
    (tt, ap (λ n. value_from n c.args.word.now) (sym zero), omega (arith, zero), λ some. absurd (omega arith))

pub returns-in_err-number : goal.returns-in_err-number
returns-in_err-number g c =
    let word = c.args.word.now in
    let i = c.loop-digit.digit-index in
    let n = g.F.Field.value_of c.loop-digit.number in
    let grown = value_grows (n * 10 + (get_or word i 0 - 48)) (drop (i + 1) word) in
    let whole = c.loop-digit.invariant.1 ∙ value_more word i n (omega arith) in
    let none : c.from_value.result ≡ None = c.ok_or.ensures.ok_part ∙ ap result_ok c.in_err-number.was in
    let large = rw none at c.from_value.ensures in
    rw (err_from_is_err_and c.from_residual.result c.from_residual.ensures.1).1 (λ numeral small. omega (arith, grown, whole, large))
