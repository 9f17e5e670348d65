use Rattle.std.proofs.Common.{◌≡◌, min, ◌++◌, length, drop, sym, refl, subst, arith}
use Rattle.listing.proofs.Wholes.{described_made, listing_described, makes_in_part}
use Rattle.listing.specs.Lines.{Describe, lines}
use Rattle.listing.specs.Making.{Makes}
use Rattle.listing.proofs.make.make_tape.Goals as goal

pub returns : goal.returns
returns c =
    let text = c.args.text.now in
    let before = c.args.tape.now in
    let room = c.min-room.result in
    let after = c.fill_tape.new.tape ++ drop room before in
    let same : room ≡ min (length before) 32768 = omega (arith, c.min-room.ensures) in
    let makes : Makes (min (length before) 32768) text before c.fill_tape.result after =
    subst (λ k. Makes k text before c.fill_tape.result after) same
    (makes_in_part text before c.fill_tape.new.tape after room c.fill_tape.result (omega arith) refl c.fill_tape.ensures) in
    record {
      makes = makes;
      gives_back = λ b p k es small fit fits is most room.
          described_made (min (length before) 32768) text before c.fill_tape.result after b p k es makes
          (subst (λ t. Describe (lines t) b p k es) (sym is) (listing_described b p k es small fit fits)) (omega arith);
    }
