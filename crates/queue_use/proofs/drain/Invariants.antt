use Rattle.queue.specs.Contents.{count}
use Rattle.queue_use.proofs.drain.Given as goal

abbrev pub decreases-loop : goal.decreases-loop
decreases-loop g l = count l.queue
