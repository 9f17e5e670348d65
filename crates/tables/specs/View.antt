-- What a table stands for.
use Rattle.std.specs.Prelude.{List}
use Rattle.chains.specs.Rounds.{Round}
use Rattle.tables.specs.Tables.{rounds_of}
use Rattle.tables.specs.declared.table.Table.{Table}

-- the rounds of a table
abbrev pub rounds : Table → List Round
rounds t = rounds_of t.products t.rows t.played t.rounds
