use Rattle.std.proofs.Common.{◌++◌, codes, decimal, subst, arith}
use Rattle.listing.proofs.Puts.{line_put, put_then, length_kind_name, heading_parts}
use Rattle.listing.specs.Text.{heading_text, kind_name}
use Rattle.listing.specs.Writing.{Put}
use Rattle.listing.proofs.write.write_heading.Goals as goal

pub returns : goal.returns
returns c =
    let before = c.args.line.now in
    let header = c.args.header.now in
    let book = decimal header.book in
    let products = decimal header.products in
    let name = kind_name header.kind in
    let first = subst (λ n. Put c.put_bytes-at.new.line c.put_bytes-at.result (decimal n) c.put_number-at.result c.put_number-at.new.line) c.from.ensures c.put_number-at.ensures.text in
    let second = subst (λ n. Put c.put_bytes-at-2.new.line c.put_bytes-at-2.result (decimal n) c.put_number-at-2.result c.put_number-at-2.new.line) c.from-2.ensures c.put_number-at-2.ensures.text in
    let last = subst (λ t. Put c.put_bytes-at-3.new.line c.put_bytes-at-3.result t c.put_bytes-at-4.result c.put_bytes-at-4.new.line) c.kind_name.ensures c.put_bytes-at-4.ensures in
    let named = put_then before _ _ (codes "book ") book 0 _ _ c.put_bytes-at.ensures first in
    let many = put_then before _ _ (codes "book " ++ book) (codes " products ") 0 _ _ named c.put_bytes-at-2.ensures in
    let counted = put_then before _ _ ((codes "book " ++ book) ++ codes " products ") products 0 _ _ many second in
    let kind = put_then before _ _ (((codes "book " ++ book) ++ codes " products ") ++ products) (codes " kind ") 0 _ _ counted c.put_bytes-at-3.ensures in
    let whole = put_then before _ _ ((((codes "book " ++ book) ++ codes " products ") ++ products) ++ codes " kind ") name 0 _ _ kind last in
    let text = subst (λ t. Put before 0 t c.put_bytes-at-4.result c.put_bytes-at-4.new.line) (heading_parts book products name) whole in
    line_put before c.put_bytes-at-4.new.line c.put_bytes.new.line (heading_text header.book header.products header.kind) c.put_bytes-at-4.result c.put_bytes.result (omega arith)
    (omega (arith, last.0, length_kind_name header.kind)) text c.put_bytes.ensures
