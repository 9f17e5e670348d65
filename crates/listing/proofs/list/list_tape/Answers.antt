use Rattle.std.proofs.Common.{ℕ, List, [], Err, vec_items, sym, append-nil}
use Rattle.listing.proofs.Listings.{appended}
use Rattle.listing.specs.Tapes.{Listed, too_long, no_header}
use Rattle.listing.specs.Text.{error_text, line}
use Rattle.tape.specs.Reading.{Heads}
use Rattle.tape.specs.declared.error.TapeError.{TapeError}
use Rattle.tape.specs.declared.error.TapeError.TheVariants.{TooLong, BadHeader, UnknownLetter, CutOff}
use Rattle.listing.proofs.list.list_tape.Goals as goal

-- a refusal of the header is all that a tape gives
refused : (t : List ℕ) (error : TapeError) → Heads t (Err error) → Listed t (line (error_text error))
refused t TooLong h = too_long h
refused t BadHeader h = no_header h.0 h.1
refused t UnknownLetter h = absurd h
refused t CutOff h = absurd h

pub returns-in-Err : goal.returns-in-Err
returns-in-Err c =
    let old = vec_items c.args.text.now in
    let after = vec_items c.push_error.new.text in
    appended (Listed c.args.tape.now) old [] (line (error_text c.in-Err.error)) old after c.push_error.result (sym (append-nil old)) c.push_error.ensures (refused c.args.tape.now c.in-Err.error c.in-Err.ensures.reads)
