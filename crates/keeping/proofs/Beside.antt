-- Keeping beside the fresh list of a finished plan: beside any list that is a shortest path of a table that is not refused. Assumes nothing.
use mathlib.Core.Path.{◌≡◌, refl, sym, ap, subst, ◌∙◌}
use mathlib.Core.Bool.{true}
use mathlib.Core.List.{List, [], ◌∷◌}
use mathlib.Core.Logic.{⊎_elim}
use Prim.Native.Nat.{ℕ, ◌≤◌, ◌<◌}
use native.Mathlib.Omega.{arith}
use lib.ListN.{length}
use borrow.Author.Tests.{lt-ltb}
use Rattle.table.specs.Table.{Table, table, table_of, is_table, leads, is_walk, walk_length, nodes_below, most_nodes}
use Rattle.table.specs.Refusals.{Refusal, refusal, no_refusal, rooms_fit}
use Rattle.table.proofs.Basics.{some_same}
use Rattle.auction.specs.Promises.{TableIsUnrefused}
use Rattle.auction.proofs.Good.{good, table_is_unrefused}
use Rattle.listing.specs.Promises.{nodes_from}
use Rattle.keeping.specs.declared.Kept.{Kept}
use Rattle.keeping.specs.Keeping.{table_in, keep, given}
use Rattle.keeping.specs.Promises.{KeptShort, Shortest, Beside}
use Rattle.keeping.proofs.Answers.{choice_so}
use Rattle.keeping.proofs.Totals.{least_through, walk_shortest, nodes_count}
use Rattle.keeping.proofs.Few.{few_arcs}
use Rattle.keeping.proofs.Origin.{leads_same, length_same, heads_same, table_still}
use Rattle.keeping.proofs.Choices.{lent_few, choice_number}
use Rattle.keeping.proofs.Outcomes.{short}

module _ (n o : ℕ) (ts hs ls ws : List ℕ) (ok : is_table (table_of n o ts hs ls) ws ≡ true) (u v : ℕ) (low_u : u < n) (low_v : v < n) where
  -- the plan's table, keeping's, and the one with u for its origin
  abbrev planned : Table
  planned = table_of n o ts hs ls

  abbrev t : Table
  t = table_in n ts hs ls

  abbrev from_u : Table
  from_u = table_of n u ts hs ls

  t_good : is_table t [] ≡ true
  unfolding table_in table_of table nodes_below
  t_good = table_still planned 0 ws [] ok (omega arith) (omega arith) refl

  from_u_good : is_table from_u (v ∷ []) ≡ true
  unfolding table_of table nodes_below
  from_u_good = table_still planned u ws (v ∷ []) ok low_u (omega arith) (rw (lt-ltb v n low_v) refl)

  -- A SHORTEST PATH has a walk through it, which leads from u to v and is as long
  record Walk (vs : List ℕ) (d : ℕ) : Type 0 where
    walk : List ℕ
    leads_on : leads t u walk v ≡ true
    nodes : nodes_from t u walk ≡ vs
    as_long : walk_length t walk ≡ d

  walk_of_path : (vs : List ℕ) (s : Shortest t u v vs) → Walk vs s.length_of
  walk_of_path vs s =
      let l = least_through t vs s.length_of s.walk in
      record {
        walk = l.walk;
        leads_on = rw (← s.begins, ← s.ends) l.through.leads_on;
        nodes = rw (← s.begins) l.through.nodes;
        as_long = l.as_long;
      }

  -- so a shortest path has at most n nodes
  few_nodes : (vs : List ℕ) → Shortest t u v vs → length vs ≤ most_nodes
  unfolding table_in table_of table is_walk
  few_nodes vs s =
      let w = walk_of_path vs s in
      let same : (is : List ℕ) → leads from_u u is v ≡ leads t u is v = λ is. leads_same t u is u v in
      let as_long : (is : List ℕ) → walk_length from_u is ≡ walk_length t is = length_same t u in
      let few =
      few_arcs from_u v w.walk from_u_good (same w.walk ∙ w.leads_on)
      (λ other q. omega (arith, as_long w.walk, as_long other, w.as_long, s.least other (sym (same other) ∙ q))) in
      omega (arith, few, ap length w.nodes, nodes_count t w.walk u, (good t [] t_good).few_nodes)

  module _ (th : length ts ≡ length hs) (hl : length hs ≡ length ls) (fresh : List ℕ) (s : Shortest t u v fresh) where
    -- no refusal applies
    accepted : (standing : List ℕ) → (keep n ts hs ls standing fresh).number ≡ 0
    unfolding table_in TableIsUnrefused rooms_fit no_refusal refusal
    accepted standing =
        let none = table_is_unrefused n 0 ts hs ls [] [] th hl refl t_good in
        ap (λ (k : Kept). k.number)
        (choice_so n ts hs ls standing fresh (ap (λ (f : Refusal). f.number) none) s.length_of (lent_few t fresh (few_nodes fresh s) ∙ s.walk))
        ∙ choice_number t standing fresh

    module _ (standing : List ℕ) where
      abbrev list : List ℕ
      list = given (keep n ts hs ls standing fresh) standing fresh

      keeps : KeptShort t standing fresh list (keep n ts hs ls standing fresh)
      keeps = short n ts hs ls standing fresh (accepted standing)

      as_fresh : keeps.fresh_total ≡ s.length_of
      as_fresh = some_same keeps.fresh_walk s.walk

      list_shortest : Shortest t u v list
      list_shortest =
          record {
            begins = keeps.begins ∙ s.begins;
            ends = keeps.ends ∙ s.ends;
            length_of = keeps.list_total;
            walk = keeps.walk;
            least = λ other w. omega (arith, keeps.no_longer, as_fresh, s.least other w);
          }

      -- no shortest path is longer than the fresh one
      shortest_kept : Shortest t u v standing → (keep n ts hs ls standing fresh).standing ≡ 1
      shortest_kept x =
          let w = walk_of_path fresh s in
          keeps.standing_stays (few_nodes standing x) (x.begins ∙ sym s.begins) (x.ends ∙ sym s.ends) x.length_of x.walk
          (omega (arith, x.least w.walk w.leads_on, w.as_long, as_fresh))

      only_shortest : (keep n ts hs ls standing fresh).standing ≡ 1 → Shortest t u v standing
      only_shortest z =
          ⊎_elim (λ p. subst (Shortest t u v) p.1 list_shortest) (λ p. absurd (omega (arith, z, p.0))) keeps.one_of

    kept_beside : Beside n ts hs ls u v fresh
    kept_beside = record { accepted = accepted; short = list_shortest; kept = shortest_kept; only_so = only_shortest }

  -- THE NODES OF A SHORTEST WALK of the plan's table are such a path
  pub beside_walk : (th : length ts ≡ length hs) (hl : length hs ≡ length ls) (is : List ℕ) → leads planned u is v ≡ true →
      ((other : List ℕ) → leads planned u other v ≡ true → walk_length planned is ≤ walk_length planned other) →
      Beside n ts hs ls u v (nodes_from planned u is)
  unfolding table_in table_of table nodes_from
  beside_walk th hl is e least =
      let same : (is : List ℕ) → leads t u is v ≡ leads planned u is v = λ is. leads_same planned 0 is u v in
      let as_long : (is : List ℕ) → walk_length t is ≡ walk_length planned is = length_same planned 0 in
      subst (λ (vs : List ℕ). Beside n ts hs ls u v (u ∷ vs)) (heads_same planned 0 is)
      (kept_beside th hl (nodes_from t u is)
      (walk_shortest t (good t [] t_good) is u v low_u (same is ∙ e)
      (λ other q. omega (arith, as_long is, as_long other, least other (sym (same other) ∙ q)))))
