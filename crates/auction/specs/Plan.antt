-- What a plan answers and leaves in the four buffers, for every input. Assumes nothing: these are definitions.
--
-- Where one of the refusals 1 to 7 applies, the answer is that refusal's number and place, every other value of it is 0, and every buffer is as it was
-- lent. Otherwise the answer and the buffers are what the auction hands over, also where it ends without a route, which is number 8.
use Rattle.std.specs.Prelude.{cond, List, [], ◌∷◌, ℕ, eqb, length}
use Rattle.table.specs.Table.{Table, table_of}
use Rattle.table.specs.Refusals.{Refusal, Room, room, table_refusal}
use Rattle.auction.specs.Auction.{auction}
use Rattle.auction.specs.HandOver.{Answer, answer, handed_over}

-- the rooms that the four buffers give and need: one entry a node, one mark an arc
unfoldable pub rooms : (n arcs distances prices tree marks : ℕ) → List Room
rooms n m a b c d = room a n ∷ room b n ∷ room c n ∷ room d m ∷ []

-- the refusal, one of 1 to 7, of a table with the buffers lent for it
unfoldable pub plan_refusal : (n origin : ℕ) → (tails heads lengths wanted distances prices tree marks : List ℕ) → Refusal
plan_refusal n o ts hs ls ws ds ps tr ms =
    table_refusal n o ts hs ls ws (rooms n (length ts) (length ds) (length ps) (length tr) (length ms))

-- the answer to a table that is refused
unfoldable pub refused_plan : Refusal → (distances prices tree marks : List ℕ) → Answer
refused_plan f = answer f.number f.place 0 0 0 0 0 0 0

-- the answer to a table that is not
unfoldable pub routes_of : Table → (wanted : List ℕ) → Answer
routes_of t ws = handed_over t ws (auction t ws)

-- THE PLAN
unfoldable pub plan : (n origin : ℕ) → (tails heads lengths wanted distances prices tree marks : List ℕ) → Answer
plan n o ts hs ls ws ds ps tr ms =
    let f = plan_refusal n o ts hs ls ws ds ps tr ms in
    cond (eqb f.number 0) (routes_of (table_of n o ts hs ls) ws) (refused_plan f ds ps tr ms)
