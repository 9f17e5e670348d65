use Rattle.std.proofs.Common.{Ok, refl, ap, ◌∙◌, subst}
use Rattle.std.proofs.lemmas.Result.{err_from_is_err_and}
use Rattle.listing.proofs.Listings.{entry_record}
use Rattle.listing.proofs.Makings.{line_bad, line_written}
use Rattle.listing.specs.Lines.{said}
use Rattle.listing.specs.Scanning.{ReadsEntry}
use Rattle.listing.specs.declared.error.LineError.{LineError}
use Rattle.tape.specs.Format.{entry_bytes, entry_of}
use Rattle.tape.specs.Writing.{Wrote}
use Rattle.listing.proofs.make.write_line.Goals as goal

pub returns-in_err-entry : goal.returns-in_err-entry
returns-in_err-entry c =
    let read = c.in_err-entry.ensures.reads in
    rw (err_from_is_err_and c.from_residual.result c.from_residual.ensures.1).1 (line_bad c.args.header.now.products c.args.line.now c.args.tape.now c.args.at read.0 read.1, refl)

pub returns : goal.returns
returns c =
    let n = c.args.header.now.products in
    let read = subst (λ o. ReadsEntry {E = LineError} n (said c.args.line.now) (Ok o)) c.in-Some.is c.in_ok-entry.ensures.reads in
    let e = read.0 in
    let same = ap (entry_of n) read.2 ∙ entry_record n e read.1.fits in
    let wrote = subst (λ d. Wrote c.args.tape.now c.args.at (entry_bytes d) c.write_record.result c.write_record.new.out) same c.write_record.ensures in
    line_written n c.args.line.now c.args.tape.now c.write_record.new.out c.args.at e c.write_record.result c.ok_or.result read.1 wrote c.ok_or.ensures.ok_part
