-- WITHIN A LIMIT: the promise to a user. Whatever table, node and limit are handed to within_limit: where it answers number 0, `LimitKept` holds of the
-- answer, which leaves no choice; on any other number the table is refused as the plan for this one wanted node is. Assumes nothing.
use Rattle.std.specs.Prelude.{◌≡◌, true, false, List, [], ◌∷◌, ◌⊎◌, ℕ, ◌^◌, ◌≤◌, ◌<◌, length}
use Rattle.std.proofs.Math.Option.{none, some}
use Rattle.table.specs.Table.{Table, table_of, is_walk, walk_length, Below}
use Rattle.auction.specs.Auction.{State, next, after}
use Rattle.auction.specs.Limit.{decided, WalkWithin}
use Rattle.auction.specs.Plan.{routes_of, plan}
use Rattle.limit_answer.specs.declared.Within.{Within}
use Rattle.limit_answer.specs.Answer.{within_limit}

-- What holds of an answer with number 0.
pub record LimitKept (t : Table) (v limit : ℕ) (r : Within) : Type 0 where
  -- It is yes, which is 1, exactly when some walk to the node is no longer than the limit; so it is no, which is 0, also where the node has no walk.
  pub answers : (r.within ≡ 0) ⊎ (r.within ≡ 1)
  pub yes : r.within ≡ 1 → WalkWithin t v limit
  pub no : r.within ≡ 0 → (walk : List ℕ) → is_walk t walk v ≡ true → limit < walk_length t walk
  -- The iterations are the auction's: after just so many of its steps the node has been reached, or the origin's price is above the limit, or no
  -- iteration follows; and it was not so before.
  pub last : State
  pub steps : after r.iterations t ≡ some last
  pub ends : (decided t (v ∷ []) limit last ≡ true) ⊎ (next t last ≡ none)
  pub not_before : (k : ℕ) (x : State) → k < r.iterations → after k t ≡ some x → decided t (v ∷ []) limit x ≡ false
  -- The plan for this one wanted node makes no fewer.
  pub no_later : r.iterations ≤ (routes_of t (v ∷ [])).iterations

unfoldable pub LimitsKept : Type 0
LimitsKept =
    (n o v limit : ℕ) (tails heads lengths : List ℕ) (r : Within) → Below (2 ^ 32) lengths → r ≡ within_limit n o v limit tails heads lengths →
    r.number ≡ 0 → LimitKept (table_of n o tails heads lengths) v limit r

-- That leaves no choice: two answers of which it holds are the same.
unfoldable pub LimitsPinned : Type 0
LimitsPinned =
    (t : Table) (v limit : ℕ) (a b : Within) → LimitKept t v limit a → LimitKept t v limit b → (a.within ≡ b.within) × (a.iterations ≡ b.iterations)

-- Any other number is one of 1, 2 and 4 to 7.
pub record LimitRefused (n o v : ℕ) (tails heads lengths : List ℕ) (r : Within) : Type 0 where
  pub low : r.number ≤ 7
  pub no_buffers : r.number ≡ 3 → ⊥
  -- The node is tested like a wanted list of one: the plan for that list has this number and this place, whatever buffers are lent that fit.
  pub as_wanted : (distances prices tree marks : List ℕ) → length distances ≡ n → length prices ≡ n → length tree ≡ n → length marks ≡ length tails →
      let a = plan n o tails heads lengths (v ∷ []) distances prices tree marks in (r.number ≡ a.number) × (r.place ≡ a.place)
  -- The rest of the answer is 0.
  pub zeros : (r.within ≡ 0) × (r.iterations ≡ 0)

unfoldable pub LimitsRefused : Type 0
LimitsRefused =
    (n o v limit : ℕ) (tails heads lengths : List ℕ) (r : Within) → r ≡ within_limit n o v limit tails heads lengths → (r.number ≡ 0 → ⊥) →
    LimitRefused n o v tails heads lengths r
