use Rattle.std.proofs.Common.{◌≡◌, ◌^◌, ◌<◌, ◌≤◌, take, drop}
use Rattle.listing.specs.Lines.{value, value_from}
use Rattle.std.specs.List.{AllByRecursion}
use Rattle.listing.proofs.words.read_number.Given as goal

-- the first bytes are digits, and the number is what they write
abbrev pub invariant-loop-digit : goal.invariant-loop-digit
invariant-loop-digit g l =
    AllByRecursion (λ d. (48 ≤ d) × (d ≤ 57)) (take l.digit-index l.word)
    × (value l.word ≡ value_from (g.F.Field.value_of l.number) (drop l.digit-index l.word))
    × (g.F.Field.value_of l.number < 2 ^ 32)
    × (0 < l.digit-index → g.F.Field.value_of l.number < g.F.Field.limit)
