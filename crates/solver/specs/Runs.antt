-- What a run and the search for a missing node leave behind. Assumes nothing: these are definitions.
use Rattle.std.specs.Prelude.{◌≡◌, Bool, false, List, ℕ, ◌≤◌, ltb, length, drop, Option, Some, None}
use Rattle.table.specs.Table.{Table}
use Rattle.auction.specs.Auction.{State}
use Rattle.auction.specs.HandOver.{first_missing}
use Rattle.auction.specs.Limit.{limited}
use Rattle.steps.specs.declared.bids.LeastBid.{LeastBid}
use Rattle.steps.specs.Steps.{Ran}

-- THE RUN WITHIN A LIMIT HAS ENDED
abbrev pub RanWithin : Table → (ws : List ℕ) → (limit missing scanned : ℕ) → State → Type 0
RanWithin t ws limit = Ran t ws (limited t ws limit)

-- whether a bid is above a limit
abbrev pub is_above : (limit : ℕ) → Option LeastBid → Bool
is_above limit None = false
is_above limit (Some c) = ltb limit c.value

-- The index of the first wanted node, from an index on, that has not been reached
pub record FirstFrom (from : ℕ) (ws status : List ℕ) (r : ℕ) : Type 0 where
  -- or the number of wanted nodes where there is none
  pub low : r ≤ length ws
  -- as the definition finds it in every state with these statuses
  pub first : (x : State) → x.status ≡ status → r ≡ first_missing from (drop from ws) x
