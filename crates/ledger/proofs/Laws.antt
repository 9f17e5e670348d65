-- The laws of ledgers.
use Rattle.std.proofs.Common.{◌≡◌, true, List, Some, None, Option, sym, refl, ap, ◌∙◌, inl, inr}
use Rattle.ledger.proofs.Alike.{judged_alike, remade_lawful}
use Rattle.ledger.proofs.Checks.{no_refusal}
use Rattle.ledger.proofs.Kept.{kept, lawful, same_making}
use Rattle.ledger.proofs.Numbers.{lowest, contradiction}
use Rattle.ledger.proofs.Replay.{replay, untried}
use Rattle.ledger.specs.Cleaning.{clean, settled, remade, Meets}
use Rattle.ledger.specs.Feeding.{Feeds}
use Rattle.ledger.specs.Judging.{fit, early, Consistent, Judged, met, contradicts, barred}
use Rattle.ledger.specs.Laws.{LedgerLaws}
use Rattle.ledger.specs.Ledger.{Making, Alike, Dealing, opening, offering, confirming, withdrawing, closing, reading_sheet, reading_roll, Ledger, new}
use Rattle.ledger.specs.declared.refusal.Refusal.{Refusal}
use Rattle.chains.proofs.Places.{within, explained_by_place, explained_by_row}
use Rattle.chains.specs.Chains.{Explained}
use Rattle.chains.specs.Places.{graph_of, bids_of}
use Rattle.chains.specs.Rounds.{Round, offered}
use Rattle.paths.proofs.Chains.{explains}
use Rattle.paths.proofs.Table.{told_finite, decided}
use Rattle.paths.specs.Bids.{StoodIn}
use Rattle.worth.specs.Group.{Group, Laws}

module _ (G : Group) (L : Laws G) where
  -- a dealing is judged in one way
  one_judgement : (l : Ledger) (d : Dealing) (o p : Option Refusal) → Judged G l d o → Judged G l d p → o ≡ p
  one_judgement l d o p (met e c) (met e' c') = refl
  one_judgement l d o p (met e c) (contradicts e' c') = absurd (c' c)
  one_judgement l d o p (met e c) (barred {r} e') = no_refusal r (sym e' ∙ e)
  one_judgement l d o p (contradicts e c) (met e' c') = absurd (c c')
  one_judgement l d o p (contradicts e c) (contradicts e' c') = refl
  one_judgement l d o p (contradicts e c) (barred {r} e') = no_refusal r (sym e' ∙ e)
  one_judgement l d o p (barred {r} e) (met e' c') = no_refusal r (sym e ∙ e')
  one_judgement l d o p (barred {r} e) (contradicts e' c') = no_refusal r (sym e ∙ e')
  one_judgement l d o p (barred {r} e) (barred e') = sym e ∙ e'

  -- whether the bids of some rounds are explained
  explained_or_not : (rounds : List Round) → Dec (Explained G rounds)
  explained_or_not rounds =
      let d = decided G L (graph_of G rounds) (StoodIn (bids_of rounds)) (told_finite (bids_of rounds)) (within rounds) in
      elim d.either [
        | inl around ↦ no (λ e. d.exactly.0 (explained_by_place rounds G e) around.0 around.1)
        | inr inner ↦ yes (explained_by_row rounds G (inner.0, explains G L (graph_of G rounds) (StoodIn (bids_of rounds)) (within rounds) inner.0 inner.1))
      ]

  consistent_or_not : (l : Ledger) (d : Dealing) → Dec (Consistent G l d)
  consistent_or_not l (opening prices) = yes tt
  consistent_or_not l (offering row heap chain) = explained_or_not (offered l.rounds row)
  consistent_or_not l (confirming slip) = yes tt
  consistent_or_not l (withdrawing slip) = yes tt
  consistent_or_not l closing = yes tt
  consistent_or_not l (reading_sheet memory) = yes tt
  consistent_or_not l (reading_roll memory) = yes tt

  judged : (l : Ledger) (d : Dealing) → (o : Option Refusal) × Judged G l d o
  judged l d = go (early l d) refl (consistent_or_not l d)
    where
      go : (o : Option Refusal) → early l d ≡ o → Dec (Consistent G l d) → (p : Option Refusal) × Judged G l d p
      go None e (yes c) = (_, met e c)
      go None e (no c) = (_, contradicts e c)
      go (Some r) e c = (_, barred e)

  clean_meets : (m n : Making) → fit n ≡ true → Alike m n → (ds : List Dealing) (l : Ledger) → Feeds G (new m) ds l → Meets G (new n) (clean l) (remade n (settled l))
  clean_meets m n fitting alike ds l f =
      replay G (remade n l) fitting (remade_lawful G l n (ap (λ k. k.products) (same_making G m ds l f) ∙ alike.products) (lawful G m ds l f))

  pub ledger_laws : LedgerLaws G
  ledger_laws = record {
    one_judgement = one_judgement;
    decided = judged;
    lowest = lowest;
    contradiction = contradiction G;
    alike = judged_alike G;
    same_making = same_making G;
    kept = kept G;
    lawful = lawful G;
    clean_meets = clean_meets;
    untried = untried G;
  }
