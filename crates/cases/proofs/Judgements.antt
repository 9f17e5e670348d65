-- Claims over a ledger: what the check finds is so.
use Rattle.std.proofs.Common.{◌≡◌, ℕ, true, false, List, [], ◌∷◌, Some, None, Option, sym, refl, ap, subst}
use Rattle.std.proofs.lemmas.Bool.{and_parts, both_ways, eqb-true}
use Rattle.cases.proofs.Sheets.{explained_so, falls_so}
use Rattle.cases.specs.Check.{row_offered, shows, says, judged, answer, all_judged}
use Rattle.cases.specs.Claims.{Money, plain_money, strict_money, group_of, Verdict, met, held, refused, contradicts, Line, number_said, number_told, JudgesSo}
use Rattle.chains.specs.Chains.{Explained}
use Rattle.chains.specs.Rounds.{offered}
use Rattle.ledger.specs.Feeding.{after}
use Rattle.ledger.specs.Judging.{early, Consistent, Judged, met as judged_met, contradicts as judged_contradiction, barred}
use Rattle.ledger.specs.Ledger.{Dealing, opening, offering, confirming, withdrawing, closing, reading_sheet, reading_roll, Ledger}
use Rattle.ledger.specs.declared.refusal.Refusal.{Refusal}
use Rattle.worth.specs.ModelsLemmas.{plain_laws, strict_laws}
use Rattle.worth.specs.Group.{Group, Laws}

-- both kinds are lawful
pub laws_of : (k : Money) → Laws (group_of k)
laws_of plain_money = plain_laws
laws_of strict_money = strict_laws

module _ (k : Money) (l : Ledger) where
  abbrev G : Group
  G = group_of k

  -- what consistency asks, from the row that is offered
  abbrev Asked : Option (List ℕ) → Type 0
  Asked None = Unit {0}
  Asked (Some row) = Explained G (offered l.rounds row)

  asked : (d : Dealing) → Consistent G l d ≡ Asked (row_offered d)
  asked (opening prices) = refl
  asked (offering row heap chain) = refl
  asked (confirming slip) = refl
  asked (withdrawing slip) = refl
  asked closing = refl
  asked (reading_sheet memory) = refl
  asked (reading_roll memory) = refl

  module _ (d : Dealing) where
    -- the answer is judged so, and told as the verdict says
    abbrev Right : Verdict k → Option Refusal → Type 0
    Right v e = Judged G l d (answer k v e) × (number_told (answer k v e) ≡ number_said v)

    -- where no refusal below 12 is told
    shows_so : (row : Option (List ℕ)) (v : Verdict k) → Consistent G l d ≡ Asked row → early l d ≡ None → shows k l.rounds row v ≡ true → Right v None
    shows_so None met c e h = (judged_met e (subst (λ X. X) (sym c) tt), refl)
    shows_so None (held worths) c e h = absurd (both_ways false refl h)
    shows_so None (refused n) c e h = absurd (both_ways false refl h)
    shows_so None (contradicts chain) c e h = absurd (both_ways false refl h)
    shows_so (Some row) met c e h = absurd (both_ways false refl h)
    shows_so (Some row) (held worths) c e h = (judged_met e (subst (λ X. X) (sym c) (explained_so G (laws_of k) (offered l.rounds row) worths h)), refl)
    shows_so (Some row) (refused n) c e h = absurd (both_ways false refl h)
    shows_so (Some row) (contradicts chain) c e h =
        (judged_contradiction e (λ so. falls_so G (laws_of k) (offered l.rounds row) chain h (subst (λ X. X) c so)), refl)

    -- where one is
    says_so : (r : Refusal) (v : Verdict k) → early l d ≡ Some r → says k r v ≡ true → Right v (Some r)
    says_so r met e h = absurd (both_ways false refl h)
    says_so r (held worths) e h = absurd (both_ways false refl h)
    says_so r (refused n) e h = (barred e, ap Some (eqb-true _ n h))
    says_so r (contradicts chain) e h = absurd (both_ways false refl h)

    judged_so : (v : Verdict k) (o : Option Refusal) → early l d ≡ o → judged k l d v o ≡ true → Right v o
    judged_so v None e h = shows_so (row_offered d) v (asked d) e h
    judged_so v (Some r) e h = says_so r v e h

-- verdicts that pass, one after another
pub judges_so : (k : Money) (l : Ledger) (lines : List (Line k)) → all_judged k l lines ≡ true → JudgesSo k l lines
judges_so k l [] h = tt
judges_so k l (line ∷ lines) h =
    let p = and_parts _ _ h in
    let d = line.dealing in
    let v = line.verdict in
    let right = judged_so k l d v (early l d) refl p.0 in
    (answer k v (early l d), right.0, right.1, judges_so k (after l d (answer k v (early l d))) lines p.1)
