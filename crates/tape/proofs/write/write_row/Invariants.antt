use Rattle.std.proofs.Common.{◌∷◌, take, Some}
use Rattle.std.specs.List.{flat_map}
use Rattle.tape.specs.Writing.{Wrote}
use Rattle.tape.proofs.write.write_row.Given as goal

-- the letter and the first numbers are there
abbrev pub invariant-loop-number : goal.invariant-loop-number
invariant-loop-number g l = Wrote l.fn.out l.at (l.letter ∷ flat_map g.F.Field.bytes_of (take l.number-index l.row)) (Some l.next) l.out
