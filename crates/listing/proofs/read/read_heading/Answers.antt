use Rattle.std.proofs.Common.{◌≡◌, [], Some, Ok, Err, MatchResult, subst, rules}
use Rattle.listing.proofs.Sayings.{heading_gives_back, heading_read}
use Rattle.listing.specs.Lines.{words}
use Rattle.listing.specs.Scanning.{ReadsHeading}
use Rattle.listing.proofs.read.read_heading.Goals as goal

pub returns-in-Some : goal.returns-in-Some
returns-in-Some c =
    let line = c.args.line.now in
    let text = c.before_comment-text.result.now in
    let some : words text ≡ [] → ⊥ = λ none. let first = c.in-Some.ensures in cc in
    let same : MatchResult c.read_header.result (λ x. c.map.result ≡ Ok (Some x)) (λ e. c.map.result ≡ Err e) = search rules in
    let read = subst (λ t. ReadsHeading (words t) c.map.result) c.before_comment-text.ensures (heading_read (words text) c.read_header.result c.map.result some c.read_header.ensures same) in
    record { reads = read; gives_back = heading_gives_back line c.map.result read }
