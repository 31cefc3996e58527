-- WHETHER A NODE IS WITHIN A LIMIT: what within_limit answers, for every input. Assumes nothing: these are definitions.
--
-- The node is tested like a wanted list of one. Where one of the refusals 1 to 7 applies, the answer is that refusal's number and place, and the rest of
-- it is 0; no buffers are lent, so 3 never does. Otherwise the number is 0, also where the node has no walk.
use Rattle.std.specs.Prelude.{◌≡◌, cond, List, [], ◌∷◌, ℕ, eqb}
use Rattle.table.specs.Table.{Table, table_of}
use Rattle.table.specs.Refusals.{Refusal, table_refusal}
use Rattle.table.specs.Slices.{Slice, was}
use Rattle.auction.specs.Auction.{was_reached, iterations}
use Rattle.auction.specs.Limit.{limited_state}
use Rattle.limit_answer.specs.declared.Within.{Within}

unfoldable pub within : (number place yes iterations : ℕ) → Within
within n p y i = record { number = n; place = p; within = y; iterations = i }

-- the refusal, one of 1, 2 and 4 to 7
unfoldable pub limit_refusal : (n origin node : ℕ) → (tails heads lengths : List ℕ) → Refusal
limit_refusal n o v ts hs ls = table_refusal n o ts hs ls (v ∷ []) []

-- the answer to a table that is not refused: 1 where the run within the limit has reached the node
unfoldable pub limit_of : Table → (node limit : ℕ) → Within
limit_of t v b = let x = limited_state t (v ∷ []) b in within 0 0 (cond (was_reached x v) 1 0) (iterations x)

-- THE ANSWER
unfoldable pub within_limit : (n origin node limit : ℕ) → (tails heads lengths : List ℕ) → Within
within_limit n o v b ts hs ls =
    let f = limit_refusal n o v ts hs ls in
    cond (eqb f.number 0) (limit_of (table_of n o ts hs ls) v b) (within f.number f.place 0 0)

-- as a contract says it, of the slices that are lent
abbrev pub AnswersLimit : (n origin node limit : ℕ) → (tails heads lengths : Slice) → Within → Type 0
AnswersLimit n o v b ts hs ls r = r ≡ within_limit n o v b (was ts) (was hs) (was ls)
