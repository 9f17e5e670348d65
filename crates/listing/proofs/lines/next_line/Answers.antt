use Rattle.std.proofs.Common.{◌≡◌, ◌-◌, eqb, ◌∷◌, length, take, drop, sym, ap, ◌∙◌, arith, rules, tests}
use Rattle.std.proofs.lemmas.Iterator.{YieldsList-from_slice}
use Rattle.std.proofs.lemmas.Iterator.Search.{position_from_yields_List}
use Rattle.std.proofs.lemmas.Slice.{between_to_end}
use Rattle.std.proofs.lemmas.List.{length-drop}
use Rattle.std.proofs.lemmas.Bool.{eqb-false}
use Rattle.listing.specs.Lines.{lines}
use Rattle.listing.proofs.Spelling.{line_cut, place_or_end}
use Rattle.listing.proofs.lines.next_line.Goals as goal

pub returns : goal.returns
returns c =
    let text = c.args.text.now in
    let end = c.unwrap_or-end.result in
    let next = c.min-next.result in
    let first = position_from_yields_List (λ b. eqb b 10) _ _ c.position.result c.position.ensures.ran (YieldsList-from_slice text cc) (λ x b q k. search (rules, tests)) in
    let place = c.unwrap_or-end.ensures ∙ place_or_end (λ b. eqb b 10) text c.position.result first in
    let some = eqb-false (length text) 0 (sym c.if-is_empty.ensures) in
    let cut = line_cut text end next (omega arith) place c.min-next.ensures in
    let rest : take (length text - next) (drop next text) ≡ drop next text = between_to_end text next (length text) (omega (arith, c.min-next.ensures)) in
    (cut ∙ ap (λ l. take end text ∷ lines l) (sym rest), omega (arith, c.min-next.ensures, ap length rest, length-drop next text))
