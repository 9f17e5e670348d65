-- Rows of values and of marks, as they are read, and the search as it is written.
use Rattle.std.proofs.Common.{◌≡◌, ℕ, ◌<◌, ◌≢◌, List, map, length, get_or, set, take, replicate, sym, refl, ap, ◌∙◌, arith, get_or-set_other, get_or-set_same}
use native.Mathlib.Decide.{ℕ_discrete, dec_lt}
use lib.ListN.{length-replicate}
use lib.Seq.{map-set}
use Rattle.std.proofs.lemmas.List.{length-map, get_or-map, get_or_past, get_or-replicate, get_or-take, take-map}
use Rattle.paths.specs.Graph.{Graph}
use Rattle.paths.specs.Searching.{Begun, Finish, Put}
use Rattle.weigh.specs.Reads.{state}
use Rattle.weigh.specs.declared.mark.Mark.{Mark}
use Rattle.worth.specs.Group.{Group}

-- f is what is read of an element, d what is read past the end
module _ {K A : Type 0} (f : K → A) (d : A) where
  pub read_same : (ks : List K) (z : ℕ) (k : K) → z < length ks → get_or (map f (set ks z k)) z d ≡ f k
  read_same ks z k h = ap (λ ys. get_or ys z d) (map-set f ks z k) ∙ get_or-set_same (map f ks) z (f k) d (rw (length-map ks f) h)

  pub read_other : (ks : List K) (z w : ℕ) (k : K) → w ≢ z → get_or (map f (set ks z k)) w d ≡ get_or (map f ks) w d
  read_other ks z w k h = ap (λ ys. get_or ys w d) (map-set f ks z k) ∙ get_or-set_other (map f ks) z w (f k) d h

  -- what a read gave
  pub read_is : (ks : List K) (z : ℕ) (k : K) → z < length ks → k ≡ get_or ks z k → get_or (map f ks) z d ≡ f k
  read_is ks z k h e = get_or-map f ks z k d h ∙ ap f (sym e)

  -- what is read of the first n elements
  pub read_taken : (n : ℕ) (ks : List K) (z : ℕ) → z < n → get_or (map f (take n ks)) z d ≡ get_or (map f ks) z d
  read_taken n ks z h = ap (λ ys. get_or ys z d) (sym (take-map f n ks)) ∙ get_or-take n (map f ks) z d h

  -- what a write leaves as it was
  pub read_kept : (ks : List K) (z w : ℕ) (k e : K) → z < length ks → f k ≡ f (get_or ks z e) → get_or (map f (set ks z k)) w d ≡ get_or (map f ks) w d
  read_kept ks z w k e h same = elim (ℕ_discrete w z) [
    | yes at ↦ ap (λ i. get_or (map f (set ks z k)) i d) at ∙ read_same ks z k h ∙ same ∙ sym (get_or-map f ks z e d h) ∙ ap (λ i. get_or (map f ks) i d) (sym at)
    | no ne ↦ read_other ks z w k ne
  ]

  -- what many like elements give
  pub read_alike : (n w : ℕ) (k : K) → f k ≡ d → get_or (map f (replicate n k)) w d ≡ d
  read_alike n w k e = elim (dec_lt w n) [
    | yes h ↦ get_or-map f (replicate n k) w k d (let long : length (replicate n k) ≡ n = length-replicate n k in omega arith) ∙ ap f (get_or-replicate n w k k h) ∙ e
    | no h ↦ get_or_past (map f (replicate n k)) w d (let long : length (replicate n k) ≡ n = length-replicate n k in let same : length (map f (replicate n k)) ≡ length (replicate n k) = length-map (replicate n k) f in omega arith)
  ]

module _ (G : Group) {X : Type 0} (m : X → G.Carrier) (marks : List (Mark X)) (z : ℕ) (e : Mark X) (room : z < length marks) where
  -- a mark that keeps its turn
  pub link_reads : (worth : X) (from round : ℕ) → Put G (state G m marks) (state G m (set marks z (record { worth = worth; turn = (get_or marks z e).turn; from = from; round = round }))) z (m worth) from round
  link_reads worth from round = record {
    here = read_same (λ k. m k.worth) G.zero marks z _ room;
    from_here = read_same (λ k. k.from) 0 marks z _ room;
    at_here = read_same (λ k. k.round) 0 marks z _ room;
    dist_else = λ w ne. read_other (λ k. m k.worth) G.zero marks z w _ ne;
    from_else = λ w ne. read_other (λ k. k.from) 0 marks z w _ ne;
    at_else = λ w ne. read_other (λ k. k.round) 0 marks z w _ ne;
    turns = λ w. read_kept (λ k. k.turn) 0 marks z w _ e room refl;
  }

  -- a mark that gets another turn
  abbrev turned : ℕ → List (Mark X)
  turned turn = set marks z (record { worth = (get_or marks z e).worth; turn = turn; from = (get_or marks z e).from; round = (get_or marks z e).round })

  dists : (turn w : ℕ) → (state G m (turned turn)).dist w ≡ (state G m marks).dist w
  dists turn w = read_kept (λ k. m k.worth) G.zero marks z w _ e room refl

  pub finish_reads : (turn : ℕ) → Finish G (state G m marks) (state G m (turned turn)) z turn
  finish_reads turn = record {
    here = read_same (λ k. k.turn) 0 marks z _ room;
    else = λ w ne. read_other (λ k. k.turn) 0 marks z w _ ne;
    dists = dists turn;
    froms = λ w. read_kept (λ k. k.from) 0 marks z w _ e room refl;
    ats = λ w. read_kept (λ k. k.round) 0 marks z w _ e room refl;
  }

  -- where nothing was finished, at the worths d
  pub begin_reads : (N : Graph G) (d : ℕ → G.Carrier) → ((w : ℕ) → (state G m marks).dist w ≡ d w) → ((w : ℕ) → (state G m marks).turn w ≡ 0) → Begun G N d z (state G m (turned 1))
  begin_reads N d at none = record {
    dists = λ w. dists 1 w ∙ at w;
    root = read_same (λ k. k.turn) 0 marks z _ room;
    others = λ w ne. read_other (λ k. k.turn) 0 marks z w _ ne ∙ none w;
  }
