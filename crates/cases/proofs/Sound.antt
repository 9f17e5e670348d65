-- A claim that passes the check holds, and the table passes.
use Rattle.std.proofs.Common.{◌≡◌, true, List, [], ◌∷◌, refl}
use Rattle.std.proofs.lemmas.Bool.{and_parts, eqb-true}
use Rattle.std.specs.List.{AllByRecursion}
use Rattle.cases.proofs.Judgements.{laws_of, judges_so}
use Rattle.cases.proofs.Sheets.{is_chain_so, pairs_so, sheet_so}
use Rattle.cases.specs.Check.{passes, all_pass}
use Rattle.cases.specs.Claims.{group_of, Claim, costs, sums, pairs_sum, sheet_is, judges, Holds}
use Rattle.cases.specs.Table.{table}
use Rattle.chains.specs.Rows.{cost}
use Rattle.chains.specs.Steps.{step_at}

-- a claim that passes holds
sound : (c : Claim) → passes c ≡ true → Holds c
sound (costs prices row n) h = eqb-true (cost row prices) n h
sound (sums k rounds ls values s) h = is_chain_so (group_of k) (laws_of k) rounds ls values s h
sound (pairs_sum k rounds s) h = pairs_so (group_of k) (laws_of k) rounds s h
sound (sheet_is k rounds sheet g) h = sheet_so (group_of k) (laws_of k) rounds sheet g.inner g.chains g.top_round g.top_package h
sound (judges k l lines) h = judges_so k l lines h

-- claims that all pass all hold
all_sound : (cs : List Claim) → all_pass cs ≡ true → AllByRecursion Holds cs
all_sound [] h = tt
all_sound (c ∷ cs) h = let p = and_parts (passes c) (all_pass cs) h in (sound c p.0, all_sound cs p.1)

-- the check of the whole table, computed
table_passes : all_pass table ≡ true
unfolding table cost step_at
table_passes = refl

pub table_holds : AllByRecursion Holds table
table_holds = all_sound table table_passes
