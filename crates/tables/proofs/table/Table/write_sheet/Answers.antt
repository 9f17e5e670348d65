use Rattle.std.proofs.Common.{◌≤◌, length, arith}
use Rattle.tables.proofs.Sheets.{sheet_from_sums, sheet_small}
use Rattle.tables.proofs.Views.{table_roll}
use Rattle.tables.specs.View.{rounds}
use Rattle.tables.proofs.table.Table.write_sheet.Goals as goal

pub returns-in-Some : goal.returns-in-Some
returns-in-Some g c =
    let T = c.args.self.now in
    let G = g.W.Worth.group in
    let m = g.W.Worth.meaning in
    let L = g.met.W.Worth.laws in
    let count = c.write_worths.result in
    let sheet = c.write_worths.new.sheet in
    let is = c.write_worths.ensures.value in
    let many = table_roll T in
    record {
      after = λ known room.
          let enough = known.many in
          let rise = c.in-Some.ensures known in
          let fits : count ≤ length sheet = omega arith in
          record {
            count = omega arith;
            sheet = sheet_from_sums G L m (rounds T) c.args.inner.now sheet c.in-Some.rise count known rise (omega arith) fits c.write_worths.ensures.each;
            small = sheet_small G L m (rounds T) c.args.inner.now sheet c.in-Some.rise count known rise (omega arith) fits c.write_worths.ensures.each;
          };
      few = (omega arith, omega arith);
      rest = c.write_worths.ensures.rest;
    }
