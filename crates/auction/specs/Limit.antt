-- WITHIN A LIMIT: the auction that also ends as soon as the origin's price is above a limit, and what is promised of it. Assumes nothing.
use Rattle.std.specs.Prelude.{◌≡◌, Bool, true, false, ◌||◌, List, [], ◌∷◌, ◌⊎◌, ℕ, suc, ◌*◌, ◌≤◌, ◌<◌, ltb}
use Rattle.std.proofs.Math.Option.{none, some}
use Rattle.table.specs.Table.{Table, is_table, is_walk, walk_length, longest}
use Rattle.auction.specs.Auction.{State, Ended, run, start, next, after, all_reached, was_reached, price_at, iterations, most_iterations, auction}
use Rattle.auction.specs.Promises.{last_state}

-- whether the origin's price is above the limit
unfoldable pub above : Table → (limit : ℕ) → State → Bool
above t b x = ltb b (price_at x t.origin)

-- whether it is decided: every wanted node has been reached, or the origin's price is above the limit
unfoldable pub decided : Table → (wanted : List ℕ) → (limit : ℕ) → State → Bool
decided t ws b x = all_reached ws x || above t b x

-- THE RUN WITHIN A LIMIT: the same auction, ended as soon as it is decided, or at the origin without children
unfoldable pub limited : Table → (wanted : List ℕ) → (limit : ℕ) → Ended
limited t ws b = run (suc (most_iterations t.n)) (decided t ws b) t (start t)

-- the state in which it ends
unfoldable pub limited_state : Table → (wanted : List ℕ) → (limit : ℕ) → State
limited_state t ws b = (limited t ws b).last

-- a walk to a node that is no longer than the limit
pub record WalkWithin (t : Table) (v limit : ℕ) : Type 0 where
  pub walk : List ℕ
  pub to_node : is_walk t walk v ≡ true
  pub low : walk_length t walk ≤ limit

-- THE NODE IS REACHED exactly when there is such a walk: where it is there is one, and where it is not every walk there is longer.
pub record ToldByLimit (t : Table) (v limit : ℕ) : Type 0 where
  pub yes : was_reached (limited_state t (v ∷ []) limit) v ≡ true → WalkWithin t v limit
  pub no : was_reached (limited_state t (v ∷ []) limit) v ≡ false → (walk : List ℕ) → is_walk t walk v ≡ true → limit < walk_length t walk

unfoldable pub WithinLimit : Type 0
WithinLimit = (t : Table) (v limit : ℕ) → is_table t (v ∷ []) ≡ true → ToldByLimit t v limit

-- THE RUN IS THE AUCTION'S, CUT: after just so many of its iterations the auction is in just that state, where it is decided or no iteration follows, and
-- before it was not decided; and the run for the same wanted nodes without a limit makes no fewer.
pub record Cut (t : Table) (ws : List ℕ) (limit : ℕ) : Type 0 where
  pub steps : after (iterations (limited_state t ws limit)) t ≡ some (limited_state t ws limit)
  pub ends : (decided t ws limit (limited_state t ws limit) ≡ true) ⊎ (next t (limited_state t ws limit) ≡ none)
  pub not_before : (k : ℕ) (x : State) → k < iterations (limited_state t ws limit) → after k t ≡ some x → decided t ws limit x ≡ false
  pub no_later : iterations (limited_state t ws limit) ≤ iterations (last_state t ws)

unfoldable pub LimitCuts : Type 0
LimitCuts = (t : Table) (ws : List ℕ) (limit : ℕ) → is_table t ws ≡ true → Cut t ws limit

-- A limit that no price passes ends nothing: the run is the plan's.
unfoldable pub Unlimited : Type 0
Unlimited = (t : Table) (ws : List ℕ) (limit : ℕ) → is_table t ws ≡ true → t.n * longest ≤ limit → limited t ws limit ≡ auction t ws

-- ALL OF THEM together: the one theorem `limits` of proofs/Limit.antt
pub record Limits : Type 0 where
  pub within_limit : WithinLimit
  pub limit_cuts : LimitCuts
  pub unlimited : Unlimited
