use Rattle.std.proofs.Common.{◌≡◌, ◌∷◌, length, get_or, Some, Ok, arith, rules}
use Rattle.std.proofs.lemmas.Slice.{first_rest}
use Rattle.std.specs.List.{between}
use Rattle.tape.proofs.Entries.{reads_back, whole}
use Rattle.tape.specs.Reading.{Reads}
use Rattle.tape.proofs.read.read_record.Goals as goal

pub returns-in_err-front-clause-gives_back : goal.returns-in_err-front-clause-gives_back
returns-in_err-front-clause-gives_back c =
    let reads : Reads c.args.header.now.products c.args.tape.now c.from_residual.result = search rules in
    reads_back c.args.header.now.products c.args.tape.now c.from_residual.result reads

pub returns-clause-gives_back : goal.returns-clause-gives_back
returns-clause-gives_back c =
    let n = c.args.header.now.products in
    let t = c.args.tape.now in
    let front = c.in_ok-front.front in
    let split : t ≡ get_or t 0 0 ∷ between 1 (length t) t = first_rest t 0 (search rules) in
    reads_back n t (Ok (Some front)) (whole n (get_or t 0 0) t (between 1 (length t) t) front (omega arith, omega arith) split c.in_ok-front.ensures)
