use Rattle.std.proofs.Common.{◌≡◌, ◌≤◌, min, eqb, length, Some, Err, sym, refl, ap, ◌∙◌, subst, arith}
use Rattle.std.proofs.lemmas.Result.{err_from_is_err_and}
use Rattle.chains.proofs.Offers.{offered_long}
use Rattle.chains.specs.Rounds.{Placed, Sale, offered, roll}
use Rattle.tables.proofs.Sales.{sale_of}
use Rattle.tables.proofs.Views.{table_roll, table_rounds}
use Rattle.tables.specs.View.{rounds}
use Rattle.weigh.proofs.Barred.{fit_bid, none_some, refused_bid, same_some, takes_free, takes_some, unfit_bid}
use Rattle.weigh.proofs.Concludes.{decides, writes}
use Rattle.weigh.specs.Trials.{WeighsTrial}
use Rattle.weigh.specs.Weighing.{Memories}
use Rattle.weigh.proofs.weigh.Goals as goal

pub returns-in_err-place : goal.returns-in_err-place
returns-in_err-place g c =
    let T = c.args.table.now in
    let row = c.args.row.now in
    let set = c.in_err-place.ensures in
    let barred = unfit_bid T.products (rounds T) row (min (length c.args.inner.now) (min (length c.args.heap.now) (min (length c.args.chain.now) (length c.args.after.now)))) (omega arith) (sym set.value) in
    let p = err_from_is_err_and c.from_residual.result c.from_residual.ensures.1 in
    rw (p.1, p.2) (record {
      weighs = record {
        refused = λ e h. (ap Err (refused_bid T.products (rounds T) row _ set.error ∙ same_some (sym barred ∙ h)), refl, refl);
        writes = λ h. none_some _ h barred;
        decides = λ h. none_some _ h barred;
      };
    })

pub invariant_of-trial : goal.invariant_of-trial
invariant_of-trial g c =
    let T = c.args.table.now in
    let T' = c.set_bid.new.self in
    let set = c.in_ok-place.ensures in
    let some = takes_some T.products (rounds T) c.args.row.now (sym set.value) in
    let long : length (rounds T') ≡ length (rounds T) = ap length set.after ∙ offered_long (rounds T) c.args.row.now in
    record {
      on_roll = omega (arith, table_roll T', set.place.0);
      some_round = omega (arith, table_rounds T');
      covered = omega arith;
    }

pub returns : goal.returns
returns g c =
    let G = g.W.Worth.group in
    let L = g.met.W.Worth.laws in
    let m = g.W.Worth.meaning in
    let T = c.args.table.now in
    let T' = c.set_bid.new.self in
    let R = rounds T in
    let row = c.args.row.now in
    let inner = c.args.inner.now in
    let x = c.in_ok-place.place in
    let set = c.in_ok-place.ensures in
    let is : rounds T' ≡ offered R row = set.after in
    let takes = sym set.value in
    let some = takes_some T.products R row takes in
    let free = takes_free T.products R row takes in
    let barred = fit_bid T.products R row (min (length inner) (min (length c.args.heap.now) (min (length c.args.chain.now) (length c.args.after.now)))) (omega arith) takes in
    let sale : Sale T.products (offered R row) = subst (λ n. Sale n (offered R row)) set.same (subst (Sale T'.products) is (sale_of T'.products (rounds T') T'.fits)) in
    let enrols = ap roll (sym is) ∙ set.enrols in
    let place = subst (λ rs. Placed (roll rs) row (Some x)) is set.place in
    let few : length (roll (offered R row)) ≤ 128 = omega (arith, ap (λ rs. length (roll rs)) is, table_roll T', T'.few_packages) in
    let new_is : eqb x c.packages.result ≡ eqb x (length (roll R)) = ap (eqb x) (c.packages.ensures.0 ∙ sym (table_roll T)) in
    let before : Memories _ = record { chain = c.args.chain.now; worths = c.args.after.now } in
    let after : Memories _ = record { chain = c.weigh.new.chain; worths = c.weigh.new.after } in
    let told = subst (λ rs. WeighsTrial G m rs x (eqb x c.packages.result) inner before after c.weigh.result) is c.weigh.ensures in
    record {
      weighs = record {
        refused = λ e h. none_some _ barred h;
        writes = λ _. writes G L m R row T.products T.few_products sale some free enrols x place few (eqb x c.packages.result) new_is inner before after (omega arith) c.weigh.result told;
        decides = λ _ known. decides G L m R row T.products T.few_products sale some free enrols x place few (eqb x c.packages.result) new_is inner before after (omega arith) c.weigh.result told known;
      };
    }
