use Rattle.chains.specs.Places.{graph_of}
use Rattle.paths.specs.Entry.{Entry}
use Rattle.tables.specs.Known.{worths}
use Rattle.tables.specs.View.{rounds}
use Rattle.weigh.proofs.Entries.{Upto}
use Rattle.weigh.specs.Starts.{SmallBefore}
use Rattle.weigh.proofs.trial.Trial.entry.Given as goal

abbrev pub invariant-loop-s : goal.invariant-loop-s
invariant-loop-s g l =
    let G = g.W.Worth.group in
    let m = g.W.Worth.meaning in
    let R = rounds l.self.table.now in
    let inner = l.self.inner.now in
    SmallBefore G m R inner → Entry G (graph_of G R) (Upto R l.s) (worths G m inner) l.self.place (m l.least)
