use Rattle.std.proofs.Common.{◌≡◌, ◌≤◌, length, Ok, Some, None, sym, ap, ◌∙◌, arith}
use Rattle.std.proofs.lemmas.Bool.{cond-false, le-ltb}
use Rattle.queue_use.specs.Order.{order_of}
use Rattle.queue_use.proofs.Two.{both_taken, order}
use Rattle.queue_use.proofs.in_order.Goals as goal

pub returns : goal.returns
returns g c =
    let G = g.W.Worth.group in
    let m = g.W.Worth.meaning in
    let laws = g.met.W.Worth.laws in
    let one = c.args.one in
    let two = c.args.two in
    let in_one : c.put.result ≡ Ok c.in_ok-ok.field-0 = grind arith in
    let in_two : c.put-2.result ≡ Ok c.in_ok-ok-2.field-0 = grind arith in
    let b = both_taken G laws m one two c.args.memory.now _ _ _ _ _ _ _ in_one in_two c.new-queue.ensures.made c.put.ensures.done c.put-2.ensures.done in
    let long : 2 ≤ length c.args.memory.now = omega (arith, b.count, c.put-2.new.self.within, c.put-2.ensures.done.room, c.put.ensures.done.room, ap length c.new-queue.ensures.made.same) in
    let is = order G laws m one two _ _ _ c.in_ok-first.first c.in_ok-second.second b c.in_ok-first.ensures.done c.in_ok-second.ensures.done in
    record { value = ap (λ p. Some p) is ∙ sym (cond-false _ None (Some (order_of G m one two)) (le-ltb (length c.args.memory.now) 2 long)) }
