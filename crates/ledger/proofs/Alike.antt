-- Ledgers of books made alike.
use Rattle.std.proofs.Common.{◌≡◌, ℕ, true, ◌&&◌, ◌∷◌, Option, sym, refl, ap, ◌∙◌, subst}
use Rattle.std.proofs.lemmas.Bool.{and_parts}
use Rattle.std.specs.List.{AllByRecursion}
use Rattle.ledger.specs.Cleaning.{remade}
use Rattle.ledger.specs.Judging.{right_products, long_column, fit, enough_memory, unless, first, own_checks, early, Consistent, Judged, met, contradicts, barred}
use Rattle.ledger.specs.Laws.{LawfulRound, Stands, Lawful}
use Rattle.ledger.specs.Ledger.{Making, Alike, Dealing, opening, offering, confirming, withdrawing, closing, reading_sheet, reading_roll, Ledger}
use Rattle.ledger.specs.declared.refusal.Refusal.{Refusal}
use Rattle.ledger.specs.declared.refusal.Refusal.TheVariants.{BadProducts, ShortMemory}
use Rattle.worth.specs.Group.{Group}

-- the same making with another column
abbrev recolumned : Making → ℕ → Making
recolumned m c = record { book = m.book; products = m.products; column = c }

-- the column is looked at only to see that it is long enough
own_recolumned : (l : Ledger) (c : ℕ) (d : Dealing) → own_checks (remade (recolumned l.making c) l) d ≡ own_checks l d
own_recolumned l c (opening prices) = refl
own_recolumned l c (offering row heap chain) = refl
own_recolumned l c (confirming slip) = refl
own_recolumned l c (withdrawing slip) = refl
own_recolumned l c closing = refl
own_recolumned l c (reading_sheet memory) = refl
own_recolumned l c (reading_roll memory) = refl

early_alike : (l : Ledger) (n : Making) → fit l.making ≡ true → fit n ≡ true → Alike l.making n → (d : Dealing) → early (remade n l) d ≡ early l d
early_alike l n fitting fitting' alike d =
    let m = l.making in
    let k = recolumned m n.column in
    let is : k ≡ n = λ i. record { book = alike.book i; products = alike.products i; column = n.column } in
    let long : long_column n ≡ long_column m = (and_parts (right_products n) (long_column n) fitting').1 ∙ sym (and_parts (right_products m) (long_column m) fitting).1 in
    ap (λ q. early (remade q l) d) (sym is)
    ∙ ap (λ b. first (unless (right_products m) BadProducts ∷ unless (b && enough_memory d) ShortMemory ∷ own_checks (remade k l) d)) long
    ∙ ap (λ os. first (unless (right_products m) BadProducts ∷ unless (long_column m && enough_memory d) ShortMemory ∷ os)) (own_recolumned l n.column d)

module _ (G : Group) where
  consistent_remade : (l : Ledger) (n : Making) (d : Dealing) → Consistent G l d → Consistent G (remade n l) d
  consistent_remade l n (opening prices) c = c
  consistent_remade l n (offering row heap chain) c = c
  consistent_remade l n (confirming slip) c = c
  consistent_remade l n (withdrawing slip) c = c
  consistent_remade l n closing c = c
  consistent_remade l n (reading_sheet memory) c = c
  consistent_remade l n (reading_roll memory) c = c

  pub judged_alike : (l : Ledger) (n : Making) → fit l.making ≡ true → fit n ≡ true → Alike l.making n → (d : Dealing) (o : Option Refusal) → Judged G l d o → Judged G (remade n l) d o
  judged_alike l n f g a d o (met e c) = met (early_alike l n f g a d ∙ e) (consistent_remade l n d c)
  judged_alike l n f g a d o (contradicts e c) = contradicts (early_alike l n f g a d ∙ e) (λ h. c (consistent_remade (remade n l) l.making d h))
  judged_alike l n f g a d o (barred e) = barred (early_alike l n f g a d ∙ e)

  -- a lawful ledger is one for another book with as many products
  pub remade_lawful : (l : Ledger) (n : Making) → l.making.products ≡ n.products → Lawful G l → Lawful G (remade n l)
  remade_lawful l n same h = record {
    few = h.few;
    rounds = subst (λ k. AllByRecursion (LawfulRound k) l.rounds) same h.rounds;
    rising = h.rising;
    explained = h.explained;
    stands = subst (λ k. Stands G k l.state l.rounds l.trial) same h.stands;
  }
