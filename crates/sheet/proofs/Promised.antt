-- The promises of specs/Promises.antt, each proved under its own name in small letters. Assumes nothing.
use mathlib.Core.Path.{◌≡◌, refl, sym, ap, subst, ◌∙◌}
use mathlib.Core.Bool.{true, false, ◌&&◌}
use mathlib.Core.List.{List, ◌++◌, append_assoc}
use mathlib.Core.Logic.{◌⊎◌, ⊎_elim}
use Prim.Native.Nat.{ℕ, ◌^◌, ◌≤◌, ◌<◌}
use native.Mathlib.Omega.{arith}
use lib.Dec.{ltb}
use lib.ListN.{length}
use borrow.Author.Tests.{eq-eqb, ne_eqb, lt-ltb, ltb-true, both_ways}
use Rattle.std.proofs.lemmas.Bool.{and_from, and_parts, and_right, cases_Bool, cases_eq}
use Rattle.table.specs.Table.{Table, table, table_of, most_nodes, Below}
use Rattle.auction.specs.HandOver.{Answer, handed_over, how_many, distances, tree}
use Rattle.auction.specs.Plan.{plan, routes_of}
use Rattle.auction.specs.Demands.{walk_of, Demands, DemandsMet}
use Rattle.auction.proofs.Demanded.{demands_met}
use Rattle.auction.proofs.Made.{made}
use Rattle.auction.proofs.Sums.{entries_length}
use Rattle.listing.specs.Listing.{tree_in, listing, listed}
use Rattle.listing.specs.Promises.{PlansListed, nodes_of_walk}
use Rattle.listing.proofs.Promised.{plans_listed}
use Rattle.sheet.specs.Sheet.{Finished, to_print, finished, path_line, node_count, has_distance, has_line, reached_nodes, path_nodes, node_lines, path_lines, marks_lines, after_nodes, after_counts, from_counts, from_reached, sheet}
use Rattle.sheet.specs.Promises.{holds, has_path, EachOnce, NearestFirst, InOrder, OrderUnseen, refusal_lines, totals_lines, Shows, PlansPrinted, RefusalsPrinted, Promises}
use Rattle.sheet.proofs.Nodes.{absent, present, distances_counted, given_has, has_given, not_given, given_low}
use Rattle.sheet.proofs.Order.{agree, line_wanted, stands_once, upper, same_order}

pub each_once : EachOnce
unfolding EachOnce has_path has_line
each_once o ts hs ws a v =
    let ds = a.distances in
    record {
      once =
          λ low t.
          let both = and_parts (has_distance ds v) (holds v ws) t in
          stands_once ds v ws (and_from (ltb v (node_count ds)) (has_distance ds v) (lt-ltb v (node_count ds) low) both.0) both.1;
      never =
          λ h.
          ⊎_elim (λ (z : how_many v (path_nodes ds ws) ≡ 0). z)
          (λ (z : how_many v (path_nodes ds ws) ≡ 0 → ⊥).
          let l = line_wanted ds v ws (omega (arith, z)) in
          let line = and_parts (ltb v (node_count ds)) (has_distance ds v) l.0 in
          absurd (both_ways (has_distance ds v && holds v ws) (h (ltb-true v (node_count ds) line.0)) (and_from (has_distance ds v) (holds v ws) line.1 l.1)))
          (cases_eq (how_many v (path_nodes ds ws)) 0);
    }

pub in_order : InOrder
unfolding InOrder NearestFirst
in_order o ts hs ws a i j low h = upper a.distances ws i j low h

pub order_unseen : OrderUnseen
unfolding OrderUnseen
order_unseen o ts hs ws ws' a same = ap (λ (vs : List ℕ). sheet (to_print o ts hs vs a)) (same_order a.distances ws ws' same)

-- the buffers of a plan that was made have an entry for each of at most 1,024 nodes
buffers_long : (t : Table) (ws : List ℕ) → (length (routes_of t ws).distances ≡ t.n) × (length (routes_of t ws).tree ≡ t.n)
unfolding routes_of handed_over distances tree
buffers_long t ws = (entries_length t.n 0 _, entries_length t.n 0 _)

-- WHERE A PLAN WAS MADE
made_sheet : (p : Finished) → (p.answer.number ≡ 0) ⊎ (p.answer.number ≡ 8) →
    sheet p ≡ refusal_lines p.answer ++ totals_lines p.answer ++ node_lines p (reached_nodes p) ++ path_lines p p.order ++ marks_lines p.answer.marks
unfolding sheet from_reached from_counts after_counts after_nodes refusal_lines totals_lines
made_sheet p e =
    let nodes = node_lines p (reached_nodes p) in
    let grouped = append_assoc nodes (path_lines p p.order) (marks_lines p.answer.marks) in
    ⊎_elim (λ (z : p.answer.number ≡ 0). rw (eq-eqb p.answer.number 0 z, grouped) refl)
    (λ (z : p.answer.number ≡ 8). rw (ne_eqb p.answer.number 0 (λ q. omega arith), eq-eqb p.answer.number 8 z, grouped) refl) e

module _ (n o : ℕ) (ts hs ls ws ds ps tr ms : List ℕ) (low : Below (2 ^ 32) ls)
    (number : ((plan n o ts hs ls ws ds ps tr ms).number ≡ 0) ⊎ ((plan n o ts hs ls ws ds ps tr ms).number ≡ 8)) where
  abbrev a : Answer
  a = plan n o ts hs ls ws ds ps tr ms

  abbrev t : Table
  t = table_of n o ts hs ls

  abbrev p : Finished
  p = finished o ts hs ws a

  few : n ≤ most_nodes
  few = (made n o ts hs ls ws ds ps tr ms low number).fine.few_nodes

  long : (length a.distances ≡ n) × (length a.tree ≡ n)
  unfolding table_of table
  long =
      let e = (made n o ts hs ls ws ds ps tr ms low number).routes in
      (ap (λ (b : Answer). length b.distances) e ∙ (buffers_long t ws).0, ap (λ (b : Answer). length b.tree) e ∙ (buffers_long t ws).1)

  demands : Demands t ws a
  unfolding DemandsMet
  demands =
      let m = made n o ts hs ls ws ds ps tr ms low number in
      subst (λ (b : Answer). Demands t ws b) (sym m.routes) (demands_met t ws m.fine.table_good)

  count : node_count a.distances ≡ length a.distances
  unfolding node_count
  count = omega (arith, few, long.0)

  reached_lines : length (reached_nodes p) ≡ a.reached
  unfolding reached_nodes table_of table
  reached_lines =
      omega (arith, demands.reached_all, distances_counted a.distances (node_count a.distances) 0 (omega (arith, count)), count, long.0)

  -- a path line lists the nodes of the walk returned
  path_shown : (v : ℕ) → 0 < how_many v p.order →
      path_line v (listing o v (tree_in ts hs a.tree) most_nodes).nodes ≡ path_line v (nodes_of_walk t (walk_of t a v))
  unfolding has_line listed PlansListed
  path_shown v c =
      let line = (line_wanted a.distances v ws c).0 in
      let has = (and_parts (ltb v (node_count a.distances)) (has_distance a.distances v) line).1 in
      let g = plans_listed n o ts hs ls ws ds ps tr ms v low number (has_given a v has) in
      ap (λ l. path_line v l.nodes) (g.roomy most_nodes (omega (arith, g.within, few, long.1)))

  shows : Shows t ws p a
  unfolding reached_nodes node_lines path_lines has_path EachOnce InOrder
  shows =
      record {
        lines =
            made_sheet p number
            ∙ ap (λ ls. refusal_lines a ++ totals_lines a ++ node_lines p (reached_nodes p) ++ ls ++ marks_lines a.marks) (agree _ _ p.order path_shown);
        nodes = λ v g. present (has_distance a.distances) v (node_count a.distances) 0 (omega arith) (omega (arith, count, given_low a v g)) (given_has a v g);
        no_others = λ v d. absent (has_distance a.distances) v (node_count a.distances) 0 (λ x y. not_given a v d);
        paths =
            λ v g w.
            (each_once o ts hs ws a v).once (omega (arith, count, given_low a v g)) (and_from (has_distance a.distances v) (holds v ws) (given_has a v g) w);
        no_other_paths =
            λ v d.
            (each_once o ts hs ws a v).never
            (λ x.
            ⊎_elim
            (λ (h : has_distance a.distances v ≡ true). and_right (has_distance a.distances v) (holds v ws) (d (has_given a v h)))
            (λ (h : has_distance a.distances v ≡ false). rw h refl)
            (cases_Bool (has_distance a.distances v)));
        nearest_first = in_order o ts hs ws a;
        tallied = record { all = demands.marks_all; tree = demands.marks_tree };
        reached = reached_lines;
      }

pub plans_printed : PlansPrinted
unfolding PlansPrinted
plans_printed n o ts hs ls ws ds ps tr ms low number = shows n o ts hs ls ws ds ps tr ms low number

pub refusals_printed : RefusalsPrinted
unfolding RefusalsPrinted sheet
refusals_printed p not_zero not_eight = rw (ne_eqb p.answer.number 0 not_zero, ne_eqb p.answer.number 8 not_eight) refl

pub promised : Promises
promised = record { each_once = each_once; in_order = in_order; order_unseen = order_unseen; plans_printed = plans_printed; refusals_printed = refusals_printed }
