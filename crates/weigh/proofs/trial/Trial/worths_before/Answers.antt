use Rattle.std.proofs.Common.{◌≡◌, length, take, sym, ap, ◌∙◌, subst, arith, rules, eq-eqb, eqb-true}
use Rattle.chains.specs.Places.{graph_of, Earlier}
use Rattle.paths.specs.Entry.{Entry}
use Rattle.tables.specs.Known.{worths}
use Rattle.tables.specs.View.{rounds}
use Rattle.weigh.proofs.Read.{read_other, read_same, read_taken}
use Rattle.weigh.proofs.trial.Trial.worths_before.Goals as goal

pub returns-then-self : goal.returns-then-self
returns-then-self g c =
    let G = g.W.Worth.group in
    let m = g.W.Worth.meaning in
    let trial = c.args.self.now in
    let T = trial.table.now in
    let R = rounds T in
    let x = trial.place in
    let few = T.few_packages in
    let inner = trial.inner.now in
    let first = c.unwrap.result.now in
    let is : first ≡ take 128 inner = search rules in
    let long : length first ≡ 128 = search rules in
    record {
      same = λ y l other.
          read_other m G.zero first x y c.entry.result (other (eq-eqb x trial.enrolled c.if-self.true)) ∙ ap (λ xs. worths G m xs y) is ∙ read_taken m G.zero 128 inner y l;
      entry = λ is small. subst (λ v. Entry G (graph_of G R) (Earlier R) (worths G m inner) x v) (sym (read_same m G.zero first x c.entry.result (omega (arith, trial.on_roll, long)))) (c.entry.ensures small);
    }

pub returns-else-self : goal.returns-else-self
returns-else-self g c =
    let G = g.W.Worth.group in
    let m = g.W.Worth.meaning in
    let trial = c.args.self.now in
    let is : c.unwrap.result.now ≡ take 128 trial.inner.now = search rules in
    record {
      same = λ y l other. ap (λ xs. worths G m xs y) is ∙ read_taken m G.zero 128 trial.inner.now y l;
      entry = λ is. absurd (c.if-self.false (eqb-true trial.place trial.enrolled is));
    }
