use Rattle.std.proofs.lemmas.Result.{err_from_is_err_and}
use Rattle.listing.proofs.Sayings.{rest_same}
use Rattle.listing.proofs.read.read_header.Goals as goal

pub returns-in_err-rest-2 : goal.returns-in_err-rest-2
returns-in_err-rest-2 c =
    rw (err_from_is_err_and c.from_residual-in_err-rest-2.result c.from_residual-in_err-rest-2.ensures.1).1 (λ b p k h.
    let number = rest_same c.in_ok-rest.ensures h.spelled in
    c.in_err-rest-2.ensures _ (rest_same c.in_ok-book.ensures.1 number))

pub returns-in_err-kind : goal.returns-in_err-kind
returns-in_err-kind c =
    rw (err_from_is_err_and c.from_residual-in_err-kind.result c.from_residual-in_err-kind.ensures.1).1 (λ b p k h.
    let number = rest_same c.in_ok-rest.ensures h.spelled in
    let many = rest_same c.in_ok-rest-2.ensures (rest_same c.in_ok-book.ensures.1 number) in
    let kind = rest_same c.in_ok-rest-3.ensures (rest_same c.in_ok-products.ensures.1 many) in
    c.in_err-kind.ensures k _ kind)
