use Rattle.tables.proofs.Bids.{gives_back, gives_back_within, stays}
use Rattle.tables.proofs.table.Table.packages_before.Goals as goal

pub returns-then-stood_before-clause-value : goal.returns-then-stood_before-clause-value
returns-then-stood_before-clause-value c =
    let s = c.if-stood_before.ensures in
    stays c.args.self.now c.args.latest c.args.place c.requires.0 c.requires.1 s.0 s.1 s.2

pub returns-else-stood_before-clause-value : goal.returns-else-stood_before-clause-value
returns-else-stood_before-clause-value c = gives_back c.args.self.now c.args.latest c.args.place c.requires.0 c.requires.1 c.if-stood_before.ensures

pub returns-else-stood_before-clause-within : goal.returns-else-stood_before-clause-within
returns-else-stood_before-clause-within c = gives_back_within c.args.self.now c.args.latest c.args.place c.requires.0 c.requires.1 c.if-stood_before.ensures
