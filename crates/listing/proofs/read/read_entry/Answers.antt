use Rattle.std.proofs.Common.{◌≡◌, [], ◌∷◌, Some, None, Ok, Err, sym, ap, ◌∙◌, subst, refl, rules}
use Rattle.std.proofs.lemmas.Result.{err_from_is_err_and}
use Rattle.listing.proofs.Sayings.{entry_gives_back, entry_read}
use Rattle.listing.specs.Lines.{said, words}
use Rattle.listing.specs.Scanning.{ReadsRecord}
use Rattle.listing.specs.declared.error.LineError.{LineError}
use Rattle.listing.proofs.read.read_entry.Goals as goal

pub returns-in_default-clause-gives_back : goal.returns-in_default-clause-gives_back
returns-in_default-clause-gives_back c = entry_gives_back {E = LineError} c.args.header.now.products c.args.line.now (Ok None) (search rules)

pub returns-in_err-read_record : goal.returns-in_err-read_record
returns-in_err-read_record c =
    let n = c.args.header.now.products in
    let line = c.args.line.now in
    let p = err_from_is_err_and c.from_residual.result c.from_residual.ensures.1 in
    let spelled : said line ≡ c.in-Some.word.now ∷ words c.in-Some.text.now = ap words (sym c.before_comment.ensures) ∙ c.in-Some.ensures in
    let some : said line ≡ [] → ⊥ = λ none. cc in
    let same : c.from-n.result ≡ n = search rules in
    let said_bad : ReadsRecord {E = LineError} n (said line) (Err p.0) = subst (λ k. ReadsRecord {E = LineError} k (said line) (Err p.0)) same (rw spelled c.in_err-read_record.ensures) in
    let read = entry_read {E = LineError} n (said line) (Err p.0) (Err p.0) some said_bad refl in
    rw p.1 (record { reads = read; gives_back = entry_gives_back {E = LineError} n line (Err p.0) read })

pub returns : goal.returns
returns c =
    let n = c.args.header.now.products in
    let line = c.args.line.now in
    let found = c.in_ok-read_record.field-0 in
    let spelled : said line ≡ c.in-Some.word.now ∷ words c.in-Some.text.now = ap words (sym c.before_comment.ensures) ∙ c.in-Some.ensures in
    let some : said line ≡ [] → ⊥ = λ none. cc in
    let same : c.from-n.result ≡ n = search rules in
    let said_found : ReadsRecord {E = LineError} n (said line) (Ok found) = subst (λ k. ReadsRecord {E = LineError} k (said line) (Ok found)) same (rw spelled c.in_ok-read_record.ensures) in
    let read = entry_read {E = LineError} n (said line) (Ok found) (Ok (Some found)) some said_found refl in
    record { reads = read; gives_back = entry_gives_back {E = LineError} n line (Ok (Some found)) read }
