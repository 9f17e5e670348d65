use Rattle.std.proofs.Common.{◌≡◌, ◌<◌, get_or, sym, refl, ap, ◌∙◌, arith}
use Rattle.std.proofs.lemmas.Bool.{eqb-true, eqb-false}
use Rattle.queue.specs.Contents.{memory, waiting, count, room}
use Rattle.queue.specs.declared.Entry.{Entry}
use Rattle.queue.proofs.Memory.{lacks_unplaced}
use Rattle.queue.proofs.Puts as puts
use Rattle.queue.proofs.Queue.put.Goals as goal

pub returns-else-undercuts : goal.returns-else-undercuts
returns-else-undercuts g c =
    let q = c.args.self.now in
    let e : Entry g.row.W.Denot = record { «package» = c.args.«package»; key = c.args.key } in
    let at = sym c.place.ensures.value ∙ c.in-Some.is in
    record { done = puts.kept g.W.Worth.group g.W.Worth.meaning q e (get_or (memory q) c.in-Some.i c.index-self-i.result) c.in-Some.i at (ap (get_or (memory q) c.in-Some.i) c.index-self-i.is) (sym c.if-undercuts.ensures.value) }

pub returns-then-undercuts : goal.returns-then-undercuts
returns-then-undercuts g c =
    let q = c.args.self.now in
    let e : Entry g.row.W.Denot = record { «package» = c.args.«package»; key = c.args.key } in
    let at = sym c.place.ensures.value ∙ c.in-Some.is in
    let told = c.lower.ensures in
    record {
      done = puts.lowered g.W.Worth.group g.W.Worth.meaning q e (get_or (memory q) c.in-Some.i c.index-self-i.result) c.in-Some.i at (ap (get_or (memory q) c.in-Some.i) c.index-self-i.is) _ c.lower.new.s refl refl
          told.shuffled (sym c.if-undercuts.ensures.value) told.heap;
    }

pub returns-in-None : goal.returns-in-None
returns-in-None g c =
    let q = c.args.self.now in
    let e : Entry g.row.W.Denot = record { «package» = c.args.«package»; key = c.args.key } in
    let out = lacks_unplaced (waiting q) e.«package» (sym c.place.ensures.value ∙ c.in-None.is) in
    let all : count q ≡ room q = eqb-true (count q) (room q) (sym c.is_full.ensures.value ∙ c.if-is_full.true) in
    record { done = puts.full g.W.Worth.group g.W.Worth.meaning q e out all }

pub returns-in-None-2 : goal.returns-in-None-2
returns-in-None-2 g c =
    let q = c.args.self.now in
    let e : Entry g.row.W.Denot = record { «package» = c.args.«package»; key = c.args.key } in
    let out = lacks_unplaced (waiting q) e.«package» (sym c.place.ensures.value ∙ c.in-None-2.is) in
    let free = eqb-false (count q) (room q) (sym c.is_full.ensures.value ∙ c.if-is_full.false) in
    let in' : count q < room q = omega (arith, q.within) in
    let told = c.append.ensures in
    record { done = puts.added g.W.Worth.group g.W.Worth.meaning q e out _ c.append.new.s in' refl refl told.shuffled told.heap }
