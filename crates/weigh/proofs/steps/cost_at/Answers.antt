use Rattle.std.proofs.Common.{ℕ, List, None, Some, Option, refl, arith}
use Rattle.std.specs.Option.{IsSome}
use Rattle.chains.specs.Rounds.{Round}
use Rattle.tables.proofs.Views.{table_roll, table_rounds}
use Rattle.tables.specs.Readings.{CostAt, There}
use Rattle.weigh.proofs.steps.cost_at.Goals as goal

-- where there are such a round and such a place, a cost is told
told : (R : List Round) (s a : ℕ) (o : Option ℕ) → CostAt R s a o → There R s a → IsSome o
told R s a None none there = absurd (none there)
told R s a (Some x) cost there = refl

pub unwrap-requires : goal.unwrap-requires
unwrap-requires c =
    let T = c.args.table.now in
    told _ c.args.s c.args.a _ c.cost_in.ensures (omega (arith, table_rounds T, c.requires.0), omega (arith, table_roll T, c.requires.1))
