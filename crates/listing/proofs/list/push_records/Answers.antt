use Rattle.std.proofs.Common.{◌≡◌, ℕ, List, [], ◌++◌, take, Some, None, Ok, Err, vec_items, sym, ap, ◌∙◌, subst, append-nil, rules}
use Rattle.listing.proofs.Listings.{listing_more, listing_whole, appended, entry_record}
use Rattle.listing.proofs.Puts.{line_taken}
use Rattle.listing.specs.Tapes.{Breaks, Records, ends, breaks, RecordsListed}
use Rattle.listing.specs.Text.{entries_text, entry_text, error_text, line}
use Rattle.tape.specs.Format.{entry_of}
use Rattle.tape.specs.Reading.{Fit, Reads}
use Rattle.tape.specs.declared.error.TapeError.{TapeError}
use Rattle.tape.specs.declared.error.TapeError.TheVariants.{TooLong, BadHeader, UnknownLetter, CutOff}
use Rattle.listing.proofs.list.push_records.Goals as goal

pub loop-entry-preserved : goal.loop-entry-preserved
loop-entry-preserved c =
    let n = c.args.header.now.products in
    let before = vec_items c.loop-entry.text in
    let after = vec_items c.extend_from_slice.new.self in
    let read = subst (λ o. Reads n c.loop-entry.rest.now (Ok o)) c.in-Ok-Some.field-0-is c.in-Ok-Some.ensures.reads in
    let e = read.1.0 in
    let front = line_taken c.loop-entry.line (line (entry_text (entry_of n c.in-Ok-Some.entry))) c.write_entry.new.line c.write_entry.result c.unwrap-end.result c.unwrap-end.ensures c.write_entry.ensures in
    let added : after ≡ before ++ take c.unwrap-end.result c.write_entry.new.line = search rules in
    let said = ap (λ d. before ++ line (entry_text d)) (ap (entry_of n) read.1.2 ∙ entry_record n e read.1.1) in
    listing_more n c.args.records.now c.loop-entry.rest.now c.in-Ok-Some.more.now (vec_items c.args.text.now) before after e read.1.1 read.1.3 (added ∙ ap (λ t. before ++ t) front ∙ said) c.loop-entry.invariant

pub returns-in-Ok-None : goal.returns-in-Ok-None
returns-in-Ok-None c =
    let n = c.args.header.now.products in
    let old = vec_items c.args.text.now in
    let l = c.loop-entry.invariant in
    let read = subst (λ o. Reads n c.loop-entry.rest.now (Ok o)) c.in-Ok-None.field-0-is c.in-Ok-None.ensures.reads in
    let end = subst (λ t. Records n t [] None) (sym read.1) ends in (
      entries_text l.entries ++ [],
      listing_whole n c.args.records.now c.loop-entry.rest.now old (vec_items c.loop-entry.text) None l end,
      l.said ∙ ap (λ s. old ++ s) (sym (append-nil (entries_text l.entries))),
    )

-- a refusal of a record is a break
broken : (n : ℕ) (t : List ℕ) (error : TapeError) → Fit n → Reads n t (Err error) → Breaks n t error
broken n t TooLong fit r = r
broken n t BadHeader fit r = r fit
broken n t UnknownLetter fit r = r.1
broken n t CutOff fit r = r.1

pub returns-in-Err : goal.returns-in-Err
returns-in-Err c =
    let n = c.args.header.now.products in
    let old = vec_items c.args.text.now in
    let before = vec_items c.loop-entry.text in
    let after = vec_items c.push_error.new.text in
    let r = c.push_error.result in
    let l = c.loop-entry.invariant in
    let error = c.in-Err.error in
    let end : Records n c.loop-entry.rest.now [] (Some error) = breaks (broken n c.loop-entry.rest.now error c.requires c.in-Err.ensures.reads) in
    appended (RecordsListed n c.args.records.now) old (entries_text l.entries) (line (error_text error)) before after r l.said c.push_error.ensures
    (listing_whole n c.args.records.now c.loop-entry.rest.now old before (Some error) l end)
