use Rattle.std.proofs.Common.{◌<◌, sym, refl, ◌∙◌, arith}
use Rattle.std.proofs.lemmas.Bool.{eqb-false}
use Rattle.queue.specs.Contents.{count}
use Rattle.queue.proofs.Takes.{taken}
use Rattle.queue.proofs.Queue.take.Goals as goal

pub returns : goal.returns
returns g c =
    let q = c.args.self.now in
    let told = c.pop-first.ensures in
    let some = eqb-false (count q) 0 (sym c.is_empty.ensures.value ∙ c.if-is_empty.false) in
    let pos : 0 < count q = omega arith in
    record { done = taken g.W.Worth.group g.W.Worth.meaning q _ c.pop-first.result c.pop-first.new.s pos refl refl told.value told.shuffled (omega arith) g.met.W.Worth.laws told.heap }
