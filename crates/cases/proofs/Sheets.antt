-- Claims over the rounds of a sale: what the check finds is so.
use Rattle.std.proofs.Common.{◌≡◌, ℕ, ◌<◌, true, List, [], length, get_or, Some, sym, refl, ap, ◌∙◌, subst, arith}
use Rattle.std.proofs.lemmas.Bool.{and_parts, eqb-true, ne_eqb, not-true}
use Rattle.cases.proofs.Tests.{each_below, unless_first, where_passed, not_same, equal_is, equals_are, stands_stood, stood_stands, leads_so}
use Rattle.cases.specs.Check.{count, start, finish, stands, explain, attained, worth_in, lead, highest, is_sheet, is_chain, pair_is, pairs_are, falls}
use Rattle.cases.specs.Claims.{IsChain, PairsAre, TheSheet}
use Rattle.chains.proofs.Laws.{not_around}
use Rattle.chains.proofs.Places.{stood_before, placed, place_stood, package_stood, within, by_rows, inner_by_row, explained_by_row}
use Rattle.chains.proofs.Rolls.{stood_on_roll}
use Rattle.chains.proofs.Sheets.{sheet_laws}
use Rattle.chains.specs.Chains.{Explained, Inner, EndsAt}
use Rattle.chains.specs.Places.{package_at, graph_of, bids_of}
use Rattle.chains.specs.Rounds.{Round, Stood}
use Rattle.chains.specs.Sheet.{paid, Rise, Sheet}
use Rattle.paths.proofs.Chains.{certified}
use Rattle.paths.proofs.Lists.{chain_of}
use Rattle.paths.specs.Bids.{StoodIn}
use Rattle.paths.specs.Graph as by_place
use Rattle.paths.specs.declared.Step.{Step}
use Rattle.worth.proofs.Leasts.{least_unique}
use Rattle.worth.specs.Group.{Group, Laws}
use Rattle.worth.specs.Says.{AtMost}

module _ (G : Group) (L : Laws G) (rounds : List Round) where
  open G use {Carrier, zero, add as ◌⊕◌, neg as ⊖◌}

  infixl 65 ◌⊕◌
  infix 70 ⊖◌
  -- steps that pass are a chain, with its values and its sum
  pub is_chain_so : (ls : List Step) (values : List Carrier) (s : Carrier) → is_chain G rounds ls values s ≡ true → IsChain G rounds ls values s
  is_chain_so ls values s h =
      let p = and_parts _ _ h in
      let q = and_parts _ _ p.1 in
      (start ls 0, finish ls (start ls 0), leads_so rounds G _ ls _ p.0, equals_are G L _ _ q.0, equal_is G L _ _ q.1)

  -- each pair of steps back and forth has the sum
  pub pairs_so : (s : Carrier) → pairs_are G rounds s ≡ true → PairsAre G rounds s
  pairs_so s h t u x y at_t at_u apart =
      let p = each_below (length rounds) _ h t (stood_before rounds t x at_t) in
      let q = each_below (length rounds) _ p u (stood_before rounds u y at_u) in
      let two : pair_is G rounds s t u (Some x) (Some y) ≡ true = rw (at_t, at_u) at q in
      equal_is G L _ _ (unless_first _ _ (not_same y x apart) two)

  -- worths that pass explain, by place
  explain_so : (worths : List Carrier) → explain G rounds worths ≡ true
      → by_place.Explains G (graph_of G rounds) (StoodIn (bids_of rounds)) (worth_in G worths)
  explain_so worths h t a b st on apart =
      let p = each_below (length rounds) _ h t st.0 in
      let q = each_below (count rounds) _ p a (within rounds t a st) in
      let r = each_below (count rounds) _ q b on in
      not-true _ (unless_first _ _ (ne_eqb b a apart) (where_passed (stands rounds t a) _ (stood_stands rounds t a st) r))

  -- so the bids are explained
  pub explained_so : (worths : List Carrier) → explain G rounds worths ≡ true → Explained G rounds
  explained_so worths h = explained_by_row rounds G (worth_in G worths, explain_so worths h)

  -- a chain around below zero leaves no worths
  pub falls_so : (ls : List Step) → falls G rounds ls ≡ true → ¬ Explained G rounds
  falls_so ls h e =
      let p = and_parts _ _ h in
      let chain = chain_of G L (graph_of G rounds) (StoodIn (bids_of rounds)) (start ls 0) (start ls 0) ls (leads_so rounds G _ ls _ p.0) in
      not_around G L rounds e _ (_, by_rows rounds G chain, p.1)

  module _ (inner : List Carrier) (chains : List (List Step)) (explains : explain G rounds inner ≡ true) (reached : attained G rounds inner chains ≡ true) where
    -- none is above zero, and each is the sum of its chain
    low : (a : ℕ) → a < count rounds → AtMost G (worth_in G inner a) zero
    low a on = not-true _ (and_parts _ _ (each_below (count rounds) _ reached a on)).0

    ends : (a : ℕ) → a < count rounds → by_place.EndsAt G (graph_of G rounds) (StoodIn (bids_of rounds)) a (worth_in G inner a)
    ends a on =
        let ls = get_or chains a [] in
        let p = and_parts _ _ (and_parts _ _ (each_below (count rounds) _ reached a on)).1 in
        let chain = chain_of G L (graph_of G rounds) (StoodIn (bids_of rounds)) (start ls a) a ls (leads_so rounds G _ ls _ p.0) in
        (start ls a, subst (λ s. by_place.Chain G (graph_of G rounds) (StoodIn (bids_of rounds)) (start ls a) a s) (equal_is G L _ _ p.1) chain)

    -- the worths that are given are the inner worths
    inner_so : (a : ℕ) → a < count rounds → Inner G rounds (package_at rounds a) (worth_in G inner a)
    inner_so a on = inner_by_row rounds G a _ on
        (certified G L (graph_of G rounds) (StoodIn (bids_of rounds)) (within rounds) (worth_in G inner) (explain_so inner explains) low ends a on)

    -- what any standing bid costs, less its inner worth, is the lead of its place
    lead_at : (u : ℕ) (x : List ℕ) (g : Carrier) → Stood rounds u x → Inner G rounds x g
        → (b : ℕ) × StoodIn (bids_of rounds) u b × (paid G rounds u x ⊕ ⊖ g ≡ lead G rounds inner u b)
    lead_at u x g s i =
        let p = placed rounds x (stood_on_roll rounds u x s) in
        let b = p.0 in
        let there = place_stood rounds u b p.1 (subst (λ y. Stood rounds u y) (sym p.2) s) in
        let one : g ≡ worth_in G inner b = least_unique G L (EndsAt G rounds x) _ _ i (subst (λ y. Inner G rounds y (worth_in G inner b)) p.2 (inner_so b p.1)) in
        (b, there, ap (λ y. paid G rounds u y ⊕ ⊖ g) (sym p.2) ∙ ap (λ h. paid G rounds u (package_at rounds b) ⊕ ⊖ h) one)

    -- the greatest lead is r
    rise_so : (t a : ℕ) → StoodIn (bids_of rounds) t a → highest G rounds inner (lead G rounds inner t a) ≡ true → Rise G rounds (lead G rounds inner t a)
    rise_so t a st h =
        let here = package_stood rounds t a st in
        record {
          has = (t, package_at rounds a, worth_in G inner a, here.1, inner_so a here.0, refl);
          greatest = λ v is.
              let at_b = lead_at is.0 is.1 is.2 is.3 is.4 in
              let b_on = within rounds is.0 at_b.0 at_b.1 in
              let p = each_below (count rounds) _ (each_below (length rounds) _ h is.0 at_b.1.0) at_b.0 b_on in
              let none = not-true _ (where_passed _ _ (stood_stands rounds is.0 at_b.0 at_b.1) p) in
              subst (λ w. AtMost G w (lead G rounds inner t a)) (sym (is.5 ∙ at_b.2)) none;
        }

  -- a sheet that passes is the sheet
  pub sheet_so : (sheet inner : List Carrier) (chains : List (List Step)) (t a : ℕ) → is_sheet G rounds sheet inner chains t a ≡ true → TheSheet G rounds sheet
  sheet_so sheet inner chains t a h =
      let p = and_parts _ _ h in
      let q = and_parts _ _ p.1 in
      let r = and_parts _ _ q.1 in
      let s = and_parts _ _ r.1 in
      let long : length sheet ≡ count rounds = eqb-true _ _ p.0 in
      let is : Sheet G rounds sheet = record {
        long = long;
        worths = λ y l.
            let w = and_parts _ _ (each_below (length sheet) _ s.1 y l) in
            let st = stands_stood rounds t a w.0 in (
              worth_in G inner y,
              lead G rounds inner t a,
              inner_so inner chains q.0 r.0 y (omega arith),
              rise_so inner chains q.0 r.0 t a st s.0,
              equal_is G L _ _ w.1,
            );
      } in
      (is, λ other so. (sheet_laws G L rounds).unique other sheet so is)
