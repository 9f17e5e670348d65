use Rattle.std.proofs.Common.{◌-◌, ◌∷◌, take, sym, ap, ◌∙◌, subst, rules}
use Rattle.tape.proofs.Rows.{first_cells, quantity_bytes}
use Rattle.tape.specs.Format.{entry_bytes, entry_of}
use Rattle.tape.specs.Writing.{Wrote}
use Rattle.tape.proofs.write.write_record.Goals as goal

pub returns-in-Offer : goal.returns-in-Offer
returns-in-Offer c =
    let n = c.args.header.now.products in
    let few = first_cells c.in-Offer.quantities n c.min-n.result (search rules) c.min-n.ensures in
    let bytes = ap (λ row. 84 ∷ row) (quantity_bytes (take (c.min-n.result - 0) c.in-Offer.quantities) ∙ few) ∙ ap (λ r. entry_bytes (entry_of n r)) (sym c.in-Offer.is) in
    subst (λ b. Wrote c.args.out.now c.args.at b c.write_row-in-Offer.result c.write_row-in-Offer.new.out) bytes c.write_row-in-Offer.ensures
