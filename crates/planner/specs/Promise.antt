-- THE PROMISE TO A USER. Whatever table, wanted list and buffers are handed to plan_routes: where it answers number 0 or 8, everything that
-- crates/auction/specs/Demands.antt lists holds of that answer and of what was left in the four buffers: each wanted node that has a walk is given one, no
-- other walk there is shorter, its link is the earliest listed of those that attain the distance, the prices show it on every link, 8 is said exactly when
-- some wanted node has no walk, and the counts are the auction's and within the bound. On any other number every buffer is as it was lent. Assumes nothing.
use Rattle.std.specs.Prelude.{◌≡◌, List, ◌⊎◌, ℕ, ◌^◌}
use Rattle.table.specs.Table.{table_of, Below}
use Rattle.auction.specs.Demands.{Demands}
use Rattle.hand_over.specs.declared.Planned.{Planned}
use Rattle.hand_over.specs.Answered.{answered}
use Rattle.planner.specs.Plan.{PlanMade}

-- `Below` is what the length column's type says, `PlanMade` is plan_routes' contract.
unfoldable pub PlansKept : Type 0
PlansKept =
    (n o : ℕ) (tails heads lengths wanted distances prices tree marks distances' prices' tree' marks' : List ℕ) (r : Planned) → Below (2 ^ 32) lengths →
    PlanMade n o tails heads lengths wanted distances prices tree marks distances' prices' tree' marks' r → (r.number ≡ 0) ⊎ (r.number ≡ 8) →
    Demands (table_of n o tails heads lengths) wanted (answered r distances' prices' tree' marks')

-- The other numbers: nothing was touched, and every other value of the answer is 0.
pub record Untouched (r : Planned) (distances prices tree marks distances' prices' tree' marks' : List ℕ) : Type 0 where
  pub distances_stay : distances' ≡ distances
  pub prices_stay : prices' ≡ prices
  pub tree_stays : tree' ≡ tree
  pub marks_stay : marks' ≡ marks
  pub zeros :
      (r.reached ≡ 0) × (r.horizon ≡ 0) × (r.iterations ≡ 0) × (r.contractions ≡ 0) × (r.extensions ≡ 0) × (r.deletions ≡ 0) × (r.scans ≡ 0)

unfoldable pub RefusalsTouchNothing : Type 0
RefusalsTouchNothing =
    (n o : ℕ) (tails heads lengths wanted distances prices tree marks distances' prices' tree' marks' : List ℕ) (r : Planned) →
    PlanMade n o tails heads lengths wanted distances prices tree marks distances' prices' tree' marks' r → (r.number ≡ 0 → ⊥) → (r.number ≡ 8 → ⊥) →
    Untouched r distances prices tree marks distances' prices' tree' marks'
