use Rattle.std.proofs.Common.{eqb, take, ap, ◌∙◌, rules, tests}
use Rattle.std.proofs.lemmas.Iterator.{YieldsList-from_slice}
use Rattle.std.proofs.lemmas.Iterator.Search.{position_from_yields_List}
use Rattle.listing.proofs.Spelling.{comment_cut, place_or_end}
use Rattle.listing.proofs.words.before_comment.Goals as goal

pub returns : goal.returns
returns c =
    let line = c.args.line.now in
    let first = position_from_yields_List (λ b. eqb b 35) _ _ c.position.result c.position.ensures.ran (YieldsList-from_slice line cc) (λ x b q k. search (rules, tests)) in
    ap (λ k. take k line) (c.unwrap_or-end.ensures ∙ place_or_end (λ b. eqb b 35) line c.position.result first) ∙ comment_cut line
