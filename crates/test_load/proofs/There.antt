-- A load that was made stands in the columns, is a table, and a plan of it is made. Assumes nothing.
use mathlib.Core.Path.{◌≡◌, refl, sym, ap, ◌∙◌}
use mathlib.Core.Bool.{true}
use mathlib.Core.List.{List, [], ◌∷◌}
use mathlib.Core.Logic.{◌⊎◌, inl, inr}
use Prim.Native.Nat.{ℕ, ◌^◌, ◌≤◌, ◌<◌}
use native.Mathlib.Omega.{arith}
use lib.ListN.{length, take, drop}
use borrow.Author.Tests.{lt-ltb, le-leb}
use Rattle.std.specs.List.{All}
use Rattle.std.proofs.lemmas.Bool.{cond_both}
use Rattle.std.proofs.lemmas.List.Elements.{All-head, All-tail}
use Rattle.table.specs.Table.{Arc, table, table_of, is_table, arc_good, arcs_good, arc_count, nodes_below, longest, most_nodes, most_arcs, most_wanted, tails_of, heads_of, lengths_of}
use Rattle.table.specs.Refusals.{Refusal, refusal, no_refusal}
use Rattle.table.specs.Slices.{over}
use Rattle.table.proofs.Columns.{arcs_back, length_tails, length_heads, length_lengths}
use Rattle.table.proofs.Storing.{start_of, rest_of}
use Rattle.auction.specs.Auction.{Ended, auction}
use Rattle.auction.specs.HandOver.{handed_over, route_refusal}
use Rattle.auction.specs.Plan.{plan, plan_refusal, routes_of}
use Rattle.auction.specs.Promises.{TableIsUnrefused}
use Rattle.auction.proofs.Good.{table_is_unrefused}
use Rattle.auction.proofs.Made.{fitting, routes_so}
use Rattle.test_load.specs.Load.{pair, load}
use Rattle.test_load.specs.Promises.{ends}
use Rattle.test_load.proofs.Listed.{InLoad, all_in_load}
use Rattle.test_load.proofs.Refused.{Unrefused}

-- A COLUMN with a list put at its start has the list there, and its rest as it was
pub column : (xs buffer buffer' : List ℕ) (m : ℕ) → m ≡ length xs → buffer' ≡ over xs buffer → (take m buffer' ≡ xs) × (drop m buffer' ≡ drop m buffer)
column xs buffer buffer' m count put = rw put (start_of xs buffer m (sym count), rest_of xs buffer m (sym count))

-- THE TABLE: arcs that are a load's are good
good_arcs : (n l : ℕ) → l ≤ longest → (arcs : List Arc) → All (InLoad n l) arcs → arcs_good n arcs ≡ true
unfolding arcs_good arc_good ends pair
good_arcs n l short [] all = refl
good_arcs n l short (a ∷ more) all =
    let in_it = All-head (InLoad n l) a more all in
    rw (
      lt-ltb a.tail n in_it.between.tail_below,
      lt-ltb a.head n in_it.between.head_below,
      le-leb 1 a.arc_length in_it.some_length,
      le-leb a.arc_length longest (omega (arith, in_it.no_longer)),
      good_arcs n l short more (All-tail (InLoad n l) a more all),
    )

pub good_load : (n seed c l : ℕ) → 0 < l → l ≤ longest → arcs_good n (load n seed c l) ≡ true
good_load n seed c l some short = good_arcs n l short (load n seed c l) (all_in_load n seed c l some)

-- THE PLAN: the auction gives no other number than 0 and 8
zero_or_eight : (ws : List ℕ) (e : Ended) → let f = route_refusal ws e in (f.number ≡ 0) ⊎ (f.number ≡ 8)
unfolding route_refusal no_refusal refusal
zero_or_eight ws e =
    cond_both e.routed _ _ (λ (f : Refusal). (f.number ≡ 0) ⊎ (f.number ≡ 8)) (λ found. inl refl) (λ missed. inr refl)

-- A LOAD THAT IS NOT REFUSED
module _ (n seed c l : ℕ) (low : l < 2 ^ 32) (fine : Unrefused n seed c l) where
  abbrev arcs : List Arc
  arcs = load n seed c l

  module _ (o : ℕ) (ws : List ℕ) (origin_in : o < n) (few_wanted : length ws ≤ most_wanted) (wanted_in : nodes_below n ws ≡ true) where
    pub table_good : is_table (table_of n o (tails_of arcs) (heads_of arcs) (lengths_of arcs)) ws ≡ true
    unfolding table_of table is_table arc_count
    table_good =
        rw (
          arcs_back arcs,
          le-leb 1 n fine.some_node,
          le-leb n most_nodes fine.few_nodes,
          lt-ltb o n origin_in,
          le-leb (length arcs) most_arcs fine.few_arcs,
          good_load n seed c l fine.some_length (omega (arith, low)),
          le-leb (length ws) most_wanted few_wanted,
          wanted_in,
        )

    module _ (ds ps tr ms : List ℕ) (fit_d : length ds ≡ n) (fit_p : length ps ≡ n) (fit_t : length tr ≡ n) (fit_m : length ms ≡ length arcs) where
      unrefused_plan : plan_refusal n o (tails_of arcs) (heads_of arcs) (lengths_of arcs) ws ds ps tr ms ≡ no_refusal
      unfolding plan_refusal TableIsUnrefused
      unrefused_plan =
          let tails = length_tails arcs in
          let heads = length_heads arcs in
          let lengths = length_lengths arcs in
          table_is_unrefused n o (tails_of arcs) (heads_of arcs) (lengths_of arcs) ws _ (tails ∙ sym heads) (heads ∙ sym lengths)
          (fitting n (length (tails_of arcs)) fit_d fit_p fit_t (fit_m ∙ sym tails)) table_good

      pub plan_made : let a = plan n o (tails_of arcs) (heads_of arcs) (lengths_of arcs) ws ds ps tr ms in (a.number ≡ 0) ⊎ (a.number ≡ 8)
      unfolding routes_of handed_over no_refusal refusal
      plan_made =
          let t = table_of n o (tails_of arcs) (heads_of arcs) (lengths_of arcs) in
          let none = ap (λ (f : Refusal). f.number) unrefused_plan in
          rw (routes_so n o (tails_of arcs) (heads_of arcs) (lengths_of arcs) ws ds ps tr ms none) (zero_or_eight ws (auction t ws))
