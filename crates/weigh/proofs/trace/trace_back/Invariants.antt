use Rattle.std.proofs.Common.{◌≡◌, ℕ, List, map, reverse, take, drop}
use Rattle.chains.specs.Numbers.{in_numbers}
use Rattle.chains.specs.Places.{graph_of, Earlier}
use Rattle.chains.specs.Rounds.{Round}
use Rattle.paths.specs.Tracing.{Traced}
use Rattle.paths.specs.declared.Step.{Step}
use Rattle.weigh.specs.Reads.{state}
use Rattle.weigh.specs.Traces.{Closed}
use Rattle.weigh.proofs.trace.trace_back.Given as goal

abbrev pub invariant-loop-n : goal.invariant-loop-n
invariant-loop-n g l =
    let G = g.W.Worth.group in
    let st = state G g.W.Worth.meaning l.marks in
    (drop l.n l.chain ≡ drop l.n l.fn.chain) ×
    ((R : List Round) (t : ℕ) → Closed G R l.x t st l.fn.closing.last l.fn.closing.round →
    (ls : List Step) × Traced G (graph_of G R) (Earlier R) l.x t st l.fn.closing.last l.fn.closing.round l.to ls × (reverse (take l.n l.chain) ≡ map in_numbers ls))
