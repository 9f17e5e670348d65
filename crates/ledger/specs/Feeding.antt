-- A ledger that is told dealings.
use Rattle.std.specs.Prelude.{◌≡◌, List, [], ◌∷◌, Some, None, Option}
use Rattle.ledger.specs.Judging.{Judged}
use Rattle.ledger.specs.Ledger.{Dealing, Ledger, moved}
use Rattle.ledger.specs.declared.refusal.Refusal.{Refusal}
use Rattle.worth.specs.Group.{Group}

-- the ledger after a dealing: a refused one does nothing
abbrev pub after : Ledger → Dealing → Option Refusal → Ledger
after l d None = moved l d
after l d (Some r) = l

module _ (G : Group) where
  -- the ledger l, told the dealing d, is next
  abbrev pub Fed : Ledger → Dealing → Ledger → Type 0
  Fed l d next = (o : Option Refusal) × Judged G l d o × (next ≡ after l d o)

  -- the ledger l, told a list of dealings, is at last the third
  pub data Feeds : Ledger → List Dealing → Ledger → Type 0 where
    nothing : {l : Ledger} → Feeds l [] l
    told : {l next last : Ledger} {d : Dealing} {ds : List Dealing} → Fed l d next → Feeds next ds last → Feeds l (d ∷ ds) last
