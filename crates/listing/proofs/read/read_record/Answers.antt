use Rattle.std.proofs.Common.{◌≡◌, ◌^◌, ◌∷◌, [], Ok, Err, refl, arith, rules}
use Rattle.std.proofs.lemmas.Result.{err_from_is_err_and}
use Rattle.std.proofs.lemmas.Slice.Eq.{text_from_reads}
use Rattle.listing.proofs.RowWords.{row_read}
use Rattle.listing.specs.Lines.{words}
use Rattle.listing.specs.declared.error.LineError.{LineError}
use Rattle.tape.specs.declared.record.Record.TheVariants.{Open, Offer}
use Rattle.listing.proofs.read.read_record.Goals as goal

pub returns-in_err-read_row-in-O : goal.returns-in_err-read_row-in-O
returns-in_err-read_row-in-O c =
    let word : c.args.word.now ≡ 79 ∷ [] = text_from_reads c.args.word.now (79 ∷ []) (omega arith) (search rules, tt) in
    let bad = c.in_err-read_row-in-O.field-0.0 in
    rw ((err_from_is_err_and c.from_residual.result c.from_residual.ensures.1).1, word)
    (row_read {E = LineError} c.args.n 79 (2 ^ 32) Open (λ row. refl) (λ row. refl) (λ row. refl) (λ row h. h) (λ row h. h) (words c.args.text.now) (Err bad) (Err bad) c.requires c.in_err-read_row-in-O.ensures refl)

pub returns-in_err-read_row-in-T : goal.returns-in_err-read_row-in-T
returns-in_err-read_row-in-T c =
    let word : c.args.word.now ≡ 84 ∷ [] = text_from_reads c.args.word.now (84 ∷ []) (omega arith) (search rules, tt) in
    let bad = c.in_err-read_row-in-T.field-0.0 in
    rw ((err_from_is_err_and c.from_residual-in_err-read_row-in-T.result c.from_residual-in_err-read_row-in-T.ensures.1).1, word)
    (row_read {E = LineError} c.args.n 84 (2 ^ 8) Offer (λ row. refl) (λ row. refl) (λ row. refl) (λ row h. h) (λ row h. h) (words c.args.text.now) (Err bad) (Err bad) c.requires c.in_err-read_row-in-T.ensures refl)

pub returns-in_ok-read_row-in-O : goal.returns-in_ok-read_row-in-O
returns-in_ok-read_row-in-O c =
    let word : c.args.word.now ≡ 79 ∷ [] = text_from_reads c.args.word.now (79 ∷ []) (omega arith) (search rules, tt) in
    let row = c.in_ok-read_row-in-O.field-0 in
    rw word (row_read {E = LineError} c.args.n 79 (2 ^ 32) Open (λ row. refl) (λ row. refl) (λ row. refl) (λ row h. h) (λ row h. h) (words c.args.text.now) (Ok row) (Ok (Open row)) c.requires c.in_ok-read_row-in-O.ensures refl)

pub returns-in_ok-read_row-in-T : goal.returns-in_ok-read_row-in-T
returns-in_ok-read_row-in-T c =
    let word : c.args.word.now ≡ 84 ∷ [] = text_from_reads c.args.word.now (84 ∷ []) (omega arith) (search rules, tt) in
    let row = c.in_ok-read_row-in-T.field-0 in
    rw word (row_read {E = LineError} c.args.n 84 (2 ^ 8) Offer (λ row. refl) (λ row. refl) (λ row. refl) (λ row h. h) (λ row h. h) (words c.args.text.now) (Ok row) (Ok (Offer row)) c.requires c.in_ok-read_row-in-T.ensures refl)
