-- What holds while one more bid is weighed, by a search for the worths that it lowers.
-- `Old` are the bids that stood before it, x is its package, t its round, and d are the worths before.
use Rattle.std.specs.Prelude.{◌≡◌, ℕ, ◌+◌, ◌*◌, ◌^◌, ◌<◌, ◌≤◌, ◌≢◌, nat_eq}
use Rattle.worth.specs.Group.{Group}
use Rattle.worth.specs.Says.{AtMost, Below}
use Rattle.paths.specs.Bids.{New}
use Rattle.paths.specs.Graph.{Graph}
use Rattle.paths.specs.Counts.{tally}

-- What the search holds of each package.
pub record State (G : Group) : Type 0 where
  -- the worth so far
  pub dist : ℕ → G.Carrier
  -- the turn in which it was finished, and 0 if it was not
  pub turn : ℕ → ℕ
  -- its link: the package and the round of the last step to it
  pub from : ℕ → ℕ
  pub at : ℕ → ℕ

module _ (G : Group) where
  -- package z was put at k, with a link from a in round s
  pub record Put (st st' : State G) (z : ℕ) (k : G.Carrier) (a s : ℕ) : Type 0 where
    pub here : st'.dist z ≡ k
    pub from_here : st'.from z ≡ a
    pub at_here : st'.at z ≡ s
    pub dist_else : (w : ℕ) → w ≢ z → st'.dist w ≡ st.dist w
    pub from_else : (w : ℕ) → w ≢ z → st'.from w ≡ st.from w
    pub at_else : (w : ℕ) → w ≢ z → st'.at w ≡ st.at w
    pub turns : (w : ℕ) → st'.turn w ≡ st.turn w

  -- package y was finished in turn k
  pub record Finish (st st' : State G) (y k : ℕ) : Type 0 where
    pub here : st'.turn y ≡ k
    pub else : (w : ℕ) → w ≢ y → st'.turn w ≡ st.turn w
    pub dists : (w : ℕ) → st'.dist w ≡ st.dist w
    pub froms : (w : ℕ) → st'.from w ≡ st.from w
    pub ats : (w : ℕ) → st'.at w ≡ st.at w

  -- worths only fell, and not those of finished packages
  pub record Lower (st st' : State G) : Type 0 where
    pub turns : (w : ℕ) → st'.turn w ≡ st.turn w
    pub done : (w : ℕ) → 0 < st.turn w → st'.dist w ≡ st.dist w
    pub down : (w : ℕ) → AtMost G (st'.dist w) (st.dist w)

module _ (G : Group) (N : Graph G) where
  open G use {Carrier, add as ◌⊕◌}
  open N use {count, step}

  infixl 65 ◌⊕◌
  -- no step is larger than 2 ^ 45
  abbrev pub SmallSteps : Type 0
  SmallSteps = (a b t : ℕ) → G.size (step a b t) ≤ 2 ^ 45

  -- no worth is larger than k such steps together
  abbrev pub Small : (ℕ → Carrier) → ℕ → Type 0
  Small d k = (y : ℕ) → y < count → G.size (d y) ≤ 2 ^ 45 * k

  -- how many packages are not finished
  abbrev pub unfinished : State G → ℕ
  unfinished st = tally (λ w. nat_eq (st.turn w) 0) count

  -- no step from a in round s leads to less than is held
  abbrev pub Met : State G → ℕ → ℕ → Type 0
  Met st a s = (b : ℕ) → b < count → b ≢ a → AtMost G (st.dist b) (st.dist a ⊕ step a b s)

  module _ (d : ℕ → Carrier) where
    -- y has fallen and is not finished
    abbrev pub Waits : State G → ℕ → Type 0
    Waits st y = (st.turn y ≡ 0) × Below G (st.dist y) (d y)

    -- none that waits has fallen farther than y
    abbrev pub Foremost : State G → ℕ → Type 0
    Foremost st y = (w : ℕ) → w < count → Waits st w → AtMost G (st.dist y ⊕ d w) (st.dist w ⊕ d y)

    -- no step from a in round s makes a package fall farther than a finished one, but x
    abbrev pub Floor : ℕ → State G → ℕ → ℕ → Type 0
    Floor x st a s = (z w : ℕ) → z < count → w < count → z ≢ x → 0 < st.turn z → w ≢ a → AtMost G (st.dist z ⊕ d w) (st.dist a ⊕ step a w s ⊕ d z)

    -- before the first turn: only x is finished
    pub record Begun (x : ℕ) (st : State G) : Type 0 where
      pub dists : (w : ℕ) → st.dist w ≡ d w
      pub root : st.turn x ≡ 1
      pub others : (w : ℕ) → w ≢ x → st.turn w ≡ 0

module _ (G : Group) (N : Graph G) (Old : ℕ → ℕ → Type 0) (x t : ℕ) (d : ℕ → G.Carrier) where
  open G use {Carrier, add as ◌⊕◌}
  open N use {count, step}

  infixl 65 ◌⊕◌
  -- y's worth is that of an earlier finished package and of a step from it
  pub record Linked (st : State G) (y : ℕ) : Type 0 where
    pub done : 0 < st.turn (st.from y)
    pub on : st.from y < count
    pub apart : y ≢ st.from y
    pub stood : New Old x t (st.at y) (st.from y)
    pub sum : st.dist y ≡ st.dist (st.from y) ⊕ step (st.from y) y (st.at y)
    pub before : 0 < st.turn y → st.turn (st.from y) < st.turn y
    pub first : st.from y ≡ x → st.at y ≡ t

  -- What every part of the search keeps; the turns so far are below `next`.
  pub record Searching (st : State G) (next : ℕ) : Type 0 where
    -- x is finished, at its worth before
    pub root : 0 < st.turn x
    pub root_dist : st.dist x ≡ d x
    -- no worth has risen, and those of the other finished packages fell
    pub under : (y : ℕ) → y < count → AtMost G (st.dist y) (d y)
    pub fell : (y : ℕ) → y < count → y ≢ x → 0 < st.turn y → Below G (st.dist y) (d y)
    -- what waits has fallen no farther than what is finished
    pub order : (z w : ℕ) → z < count → w < count → z ≢ x → 0 < st.turn z → st.turn w ≡ 0 → Below G (st.dist w) (d w) →
        AtMost G (st.dist z ⊕ d w) (st.dist w ⊕ d z)
    pub linked : (y : ℕ) → y < count → Below G (st.dist y) (d y) → Linked st y
    pub turns : (y : ℕ) → st.turn y < next

  -- The steps from a in round s may be looked at: a is at most as large as j steps, and the others as j + 1.
  pub record Ready (st : State G) (next a s j : ℕ) : Type 0 where
    pub search : Searching st next
    pub on : a < count
    pub done : 0 < st.turn a
    pub stood : New Old x t s a
    pub first : a ≡ x → s ≡ t
    pub floor : Floor G N d x st a s
    pub known : Small G N d 128
    pub sized : Small G N st.dist (j + 1)
    pub near : G.size (st.dist a) ≤ 2 ^ 45 * j
    pub far : j < 256

  -- Those to packages below k have been looked at.
  pub record Relaxed (st st' : State G) (next a s j k : ℕ) : Type 0 where
    pub search : Searching st' next
    pub lower : Lower G st st'
    pub sized : Small G N st'.dist (j + 1)
    pub met : (b : ℕ) → b < k → b ≢ a → AtMost G (st'.dist b) (st'.dist a ⊕ step a b s)

  -- A step from a in round s leads back to x, below its worth before.
  pub record Closes (st : State G) (next a s : ℕ) : Type 0 where
    pub search : Searching st next
    pub on : a < count
    pub done : 0 < st.turn a
    pub stood : New Old x t s a
    pub apart : x ≢ a
    pub falls : Below G (st.dist a ⊕ step a x s) (d x)

  -- y was just finished: the steps from it may be looked at, in each round in which it stood.
  pub record Picked (st : State G) (next y j : ℕ) : Type 0 where
    pub search : Searching st next
    pub on : y < count
    pub done : 0 < st.turn y
    pub apart : y ≢ x
    pub floor : (s : ℕ) → Old s y → Floor G N d x st y s
    pub known : Small G N d 128
    pub sized : Small G N st.dist (j + 1)
    pub near : G.size (st.dist y) ≤ 2 ^ 45 * j
    pub far : j < 256

  -- They have been looked at in the rounds below k.
  pub record Spent (st st' : State G) (next y j k : ℕ) : Type 0 where
    pub search : Searching st' next
    pub lower : Lower G st st'
    pub sized : Small G N st'.dist (j + 1)
    pub met : (s : ℕ) → s < k → Old s y → Met G N st' y s

  -- Between two turns: the steps from what is finished are met, and all but next - 1 packages are not finished.
  pub record Weighing (st : State G) (next : ℕ) : Type 0 where
    pub search : Searching st next
    pub known : Small G N d 128
    pub sized : Small G N st.dist (next + 127)
    pub met : (s a : ℕ) → New Old x t s a → 0 < st.turn a → Met G N st a s
    pub counted : next + unfinished G N st ≡ count + 1
