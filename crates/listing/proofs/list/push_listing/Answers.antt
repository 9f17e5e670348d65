use Rattle.std.proofs.Common.{◌≡◌, ◌++◌, replicate, take, vec_items, sym, ap, ◌∙◌, subst, append_assoc, rules}
use Rattle.listing.proofs.Listings.{appended_behind}
use Rattle.listing.proofs.Puts.{line_taken}
use Rattle.listing.specs.Tapes.{break_text, Listed, listed, RecordsListed}
use Rattle.listing.specs.Text.{entries_text, heading_text, line}
use Rattle.listing.proofs.list.push_listing.Goals as goal

pub returns : goal.returns
returns c t short headed =
    let header = c.args.header.now in
    let records = c.args.records.now in
    let old = vec_items c.args.text.now in
    let mid = vec_items c.extend_from_slice.new.self in
    let heading = line (heading_text header.book header.products header.kind) in
    let front = line_taken (replicate 256 0) heading c.write_heading.new.line c.write_heading.result c.unwrap-end.result c.unwrap-end.ensures c.write_heading.ensures in
    let added : mid ≡ old ++ take c.unwrap-end.result c.write_heading.new.line = search rules in
    appended_behind (RecordsListed header.products records) (Listed t) old heading mid (vec_items c.push_records.new.text) c.push_records.result (added ∙ ap (λ s. old ++ s) front)
    (λ more l. subst (Listed t) (append_assoc heading (entries_text l.entries) (break_text l.end) ∙ ap (λ s. heading ++ s) (sym l.said)) (listed short headed l.held)) c.push_records.ensures
