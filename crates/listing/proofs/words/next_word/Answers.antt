use Rattle.std.proofs.Common.{◌≡◌, ◌-◌, length, take, drop, not, sym, ap, ◌∙◌, arith, rules, tests}
use Rattle.std.specs.List.{position_or_len}
use Rattle.std.proofs.lemmas.Iterator.{YieldsList-from_slice}
use Rattle.std.proofs.lemmas.Iterator.Search.{position_from_yields_List}
use Rattle.std.proofs.lemmas.Slice.{between_to_end}
use Rattle.listing.proofs.Spelling.{place_found, place_none, place_or_end, no_word, first_word}
use Rattle.listing.specs.Lines.{blank}
use Rattle.listing.proofs.words.next_word.Goals as goal

pub returns-in_err-start : goal.returns-in_err-start
returns-in_err-start c =
    let text = c.args.text.now in
    let first = position_from_yields_List (λ b. not (blank b)) _ _ c.position.result c.position.ensures.ran (YieldsList-from_slice text cc) (λ x b q k. search (rules, tests)) in
    rw c.from_residual.ensures (no_word text (place_none (λ b. not (blank b)) text (sym first ∙ c.in_err-start.was)))

pub returns : goal.returns
returns c =
    let text = c.args.text.now in
    let start = c.in_ok-start.start in
    let rest = take (length text - start) (drop start text) in
    let first = position_from_yields_List (λ b. not (blank b)) _ _ c.position.result c.position.ensures.ran (YieldsList-from_slice text cc) (λ x b q k. search (rules, tests)) in
    let found = place_found (λ b. not (blank b)) text start (sym first ∙ c.in_ok-start.was) in
    let next = position_from_yields_List blank _ _ c.position-2.result c.position-2.ensures.ran (YieldsList-from_slice rest cc) (λ x b q k. search (rules, tests)) in
    let end = c.unwrap_or-end.ensures ∙ place_or_end blank rest c.position-2.result next in
    let whole : rest ≡ drop start text = between_to_end text start (length text) (omega arith) in
    let front = c.split_at.ensures.front ∙ ap (λ k. take k rest) end ∙ ap (λ l. take (position_or_len blank l) l) whole in
    let back = c.split_at.ensures.back ∙ ap (λ k. drop k rest) end ∙ ap (λ l. drop (position_or_len blank l) l) whole in
    let word = first_word text start found.0 found.1 in
    cc
