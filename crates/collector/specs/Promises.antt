-- What is promised of a plan to a collector, said of the table itself: of its arcs in their own direction, of walks from a node to the collector, and of the
-- answer and the four buffers. The collector stands where a table has its origin. Each promise is a type; its proof, by the same name in small letters,
-- stands in proofs/Promised.antt. Assumes nothing.
use Rattle.std.specs.Prelude.{◌≡◌, Bool, true, false, ◌&&◌, List, [], ◌∷◌, reverse, ◌⊎◌, ℕ, ◌+◌, ◌*◌, ◌-◌, ◌/◌, ◌^◌, ◌≤◌, ◌<◌, eqb, length, get_or}
use Rattle.table.specs.Table.{Table, table_of, is_table, leads, walk_length, arc_count, present_at, tail_at, head_at, length_at, no_arc, Below}
use Rattle.auction.specs.Auction.{most_iterations}
use Rattle.auction.specs.HandOver.{Answer}
use Rattle.auction.specs.Plan.{plan_refusal, refused_plan}
use Rattle.auction.specs.Absent.{without_absent, AsWithout}
use Rattle.auction.specs.Demands.{Demands, Given, distance_of, price_of, link_of, walk_of}
use Rattle.collector.specs.Exchanged.{exchanged}
use Rattle.collector.specs.Plan.{plan_to_collector, collected}

abbrev pub collector : Table → ℕ
collector t = t.origin

-- a walk from a node to the collector
unfoldable pub is_walk_in : Table → (positions : List ℕ) → (from : ℕ) → Bool
is_walk_in t is v = leads t v is (collector t)

unfoldable pub HasWalkIn : Table → (v : ℕ) → Type 0
HasWalkIn t v = (walk : List ℕ) × (is_walk_in t walk v ≡ true)

-- the walk given to a node, from it to the collector: the one returned in the exchanged table, backwards
unfoldable pub walk_from : Table → Answer → (v : ℕ) → List ℕ
walk_from t a v = reverse (walk_of (exchanged t) a v)

-- An arc out of v ATTAINS a distance where it and some walk from its head to the collector together are that long.
pub record AttainsIn (t : Table) (v d i : ℕ) : Type 0 where
  pub listed : i < arc_count t
  pub out_of : tail_at t i ≡ v
  pub walk : List ℕ
  pub from_head : is_walk_in t walk (head_at t i) ≡ true
  pub total : length_at t i + walk_length t walk ≡ d

-- on each arc the far end's price is the length plus the near end's
unfoldable pub equal_in : Table → (prices walk : List ℕ) → Bool
equal_in t ps [] = true
equal_in t ps (i ∷ is) = eqb (get_or ps (head_at t i) 0) (length_at t i + get_or ps (tail_at t i) 0) && equal_in t ps is

-- the sender at this index has no walk to the collector, and it is the first such
pub record FirstWithoutWalkIn (t : Table) (senders : List ℕ) (place : ℕ) : Type 0 where
  pub sender : place < length senders
  pub without : (walk : List ℕ) → is_walk_in t walk (get_or senders place 0) ≡ false
  pub earlier : (k : ℕ) → k < place → HasWalkIn t (get_or senders k 0)

pub record Collects (t : Table) (senders : List ℕ) (a : Answer) : Type 0 where
  -- Each sender that has a walk to the collector is given one.
  pub given : (k : ℕ) (walk : List ℕ) → k < length senders → is_walk_in t walk (get_or senders k 0) ≡ true → Given a (get_or senders k 0)
  -- The walk given to a node leads from it to the collector, has fewer than n links, is as long as the node's distance,
  pub walk : (v : ℕ) → Given a v → is_walk_in t (walk_from t a v) v ≡ true
  pub short : (v : ℕ) → Given a v → length (walk_from t a v) < t.n
  pub as_long : (v : ℕ) → Given a v → walk_length t (walk_from t a v) ≡ distance_of a v
  -- and no other walk from it to the collector is shorter.
  pub least : (v : ℕ) → Given a v → (other : List ℕ) → is_walk_in t other v ≡ true → distance_of a v ≤ walk_length t other
  -- Its link leads out of it and attains the distance, and is the earliest listed of all that do; the link's far end is given a walk too. The collector has
  -- no link.
  pub attains : (v : ℕ) → Given a v → (v ≡ collector t → ⊥) → AttainsIn t v (distance_of a v) (link_of a v)
  pub earliest : (v : ℕ) → Given a v → (v ≡ collector t → ⊥) → (i : ℕ) → AttainsIn t v (distance_of a v) i → link_of a v ≤ i
  pub far_end : (v : ℕ) → Given a v → (v ≡ collector t → ⊥) → Given a (head_at t (link_of a v))
  pub no_link : link_of a (collector t) ≡ no_arc
  -- The prices show it: on every link that is present the far end's price is at most the link's length plus the near end's price,
  pub prices_fit : (i : ℕ) → i < arc_count t → present_at t i ≡ true → price_of a (head_at t i) ≤ length_at t i + price_of a (tail_at t i)
  -- equal along the walks given, and the collector's price less the node's is the walk's length.
  pub prices_equal : (v : ℕ) → Given a v → equal_in t a.prices (walk_from t a v) ≡ true
  pub prices_show : (v : ℕ) → Given a v → price_of a (collector t) ≡ walk_length t (walk_from t a v) + price_of a v
  -- "No route", number 8, exactly when some sender has no walk to the collector; its place is the first such sender's.
  pub numbers : (a.number ≡ 0) ⊎ (a.number ≡ 8)
  pub route : a.number ≡ 0 → (k : ℕ) → k < length senders → HasWalkIn t (get_or senders k 0)
  pub no_route : a.number ≡ 8 → FirstWithoutWalkIn t senders a.place
  -- The iterations are at most 2(n³ − n)/3 + 3(n − 1), and even at most (n³ − n)/3 + 3(n − 1).
  pub few : a.iterations ≤ most_iterations t.n
  pub fewer : a.iterations ≤ (t.n * t.n * t.n - t.n) / 3 + 3 * (t.n - 1)
  -- Counts, scans and marks are those of the plan of the exchanged table, and all that is demanded of a plan is met there.
  pub planned : Demands (exchanged t) senders a

-- All of that follows from the planner's promise about the exchanged table, of any answer.
unfoldable pub CollectsByExchange : Type 0
CollectsByExchange = (t : Table) (senders : List ℕ) (a : Answer) → is_table t senders ≡ true → Demands (exchanged t) senders a → Collects t senders a

-- THE PROMISE. Whatever table, senders and buffers are handed over: where the answer is 0 or 8, all of that holds of it. `Below` is what the length column's
-- type says.
unfoldable pub CollectorServed : Type 0
CollectorServed =
    (n c : ℕ) (tails heads lengths senders distances prices tree marks : List ℕ) →
    let a = plan_to_collector n c tails heads lengths senders distances prices tree marks in
    Below (2 ^ 32) lengths → (a.number ≡ 0) ⊎ (a.number ≡ 8) → Collects (table_of n c tails heads lengths) senders a

-- On any other number the answer is the refusal of a plan with the same table, the collector for its origin and the senders for its wanted nodes: number,
-- place and zeros, and every buffer as it was lent.
unfoldable pub CollectorRefusals : Type 0
CollectorRefusals =
    (n c : ℕ) (tails heads lengths senders distances prices tree marks : List ℕ) →
    let a = plan_to_collector n c tails heads lengths senders distances prices tree marks in
    Below (2 ^ 32) lengths → (a.number ≡ 0 → ⊥) → (a.number ≡ 8 → ⊥) →
    a ≡ refused_plan (plan_refusal n c tails heads lengths senders distances prices tree marks) distances prices tree marks

-- LINKS THAT ARE DOWN. A plan to a collector is that of the table without its absent arcs, in all that is handed over: `AsWithout` says it of the exchanged
-- table, whose places are the table's own (`ExchangedWithoutAbsent`).
unfoldable pub CollectedWithoutAbsent : Type 0
CollectedWithoutAbsent =
    (t : Table) (senders : List ℕ) → is_table t senders ≡ true → AsWithout (exchanged t) (collected t senders) (collected (without_absent t) senders)
