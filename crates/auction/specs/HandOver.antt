-- What a run hands over, and the walk returned. Assumes nothing: these are definitions.
use Rattle.std.specs.Prelude.{Bool, true, false, ◌||◌, cond, List, [], ◌∷◌, ℕ, zero, suc, ◌+◌, ◌-◌, max, eqb, get_or}
use Rattle.std.proofs.Math.Option.{Option, none, some}
use Rattle.table.specs.Table.{Table, arc_count, present_at, tail_at, head_at, no_arc, no_distance}
use Rattle.table.specs.Refusals.{Refusal, refusal, no_refusal}
use Rattle.auction.specs.Auction.{State, Ended, was_reached, distance, kept_at, is_kept, iterations}
use Rattle.auction.specs.Scans.{scans}

-- f v, f (v + 1) and so on: `left` entries
unfoldable pub entries : (left v : ℕ) → (ℕ → ℕ) → List ℕ
entries zero v f = []
entries (suc k) v f = f v ∷ entries k (suc v) f

unfoldable pub greatest : List ℕ → ℕ
greatest [] = 0
greatest (a ∷ more) = max a (greatest more)

unfoldable pub sum : List ℕ → ℕ
sum [] = 0
sum (a ∷ more) = a + sum more

-- how often a number stands in a list
unfoldable pub how_many : (a : ℕ) → List ℕ → ℕ
how_many a [] = 0
how_many a (b ∷ bs) = cond (eqb b a) 1 0 + how_many a bs

-- the horizon: the largest distance reached
unfoldable pub horizon : Table → State → ℕ
horizon t x = greatest (entries t.n 0 (λ v. cond (was_reached x v) (distance x v) 0))

unfoldable pub reached_count : Table → State → ℕ
reached_count t x = sum (entries t.n 0 (λ v. cond (was_reached x v) 1 0))

-- the four columns: distance, price, tree, marks
unfoldable pub distances : Table → State → List ℕ
distances t x = entries t.n 0 (λ v. cond (was_reached x v) (distance x v) no_distance)

unfoldable pub prices : Table → State → List ℕ
prices t x = entries t.n 0 (λ v. cond (was_reached x v) (horizon t x - distance x v) 0)

unfoldable pub arc_or_none : Option ℕ → ℕ
arc_or_none none = no_arc
arc_or_none (some i) = i

unfoldable pub tree : Table → State → List ℕ
tree t x = entries t.n 0 (λ v. cond (was_reached x v) (arc_or_none (kept_at x v)) no_arc)

-- 3 tree arc of a reached node; 1 any other arc into a reached node, or out of one and not kept; 2 kept into an unreached node; 0 both ends
-- unreached
unfoldable pub mark_number : (head_reached tail_reached kept : Bool) → ℕ
mark_number true from true = 3
mark_number true from false = 1
mark_number false true true = 2
mark_number false true false = 1
mark_number false false kept = 0

-- the mark of the arc at a position; an absent arc has mark 1 from the start
unfoldable pub mark : Table → State → (position : ℕ) → ℕ
mark t x i =
    cond (present_at t i) (mark_number (was_reached x (head_at t i)) (was_reached x (tail_at t i)) (is_kept x i (kept_at x (head_at t i)))) 1

unfoldable pub marks : Table → State → List ℕ
marks t x = entries (arc_count t) 0 (λ i. mark t x i)

-- refusal 8, "no route", at the first wanted node that was not reached
unfoldable pub first_missing : (place : ℕ) → (wanted : List ℕ) → State → ℕ
first_missing i [] x = i
first_missing i (w ∷ ws) x = cond (was_reached x w) (first_missing (suc i) ws x) i

unfoldable pub route_refusal : (wanted : List ℕ) → Ended → Refusal
route_refusal ws e = cond e.routed no_refusal (refusal 8 (first_missing 0 ws e.last))

-- ALL THAT IS HANDED OVER: the answer and what is left in the four buffers
pub record Answer : Type 0 where
  pub number : ℕ
  pub place : ℕ
  pub reached : ℕ
  pub horizon : ℕ
  pub iterations : ℕ
  pub contractions : ℕ
  pub extensions : ℕ
  pub deletions : ℕ
  pub scans : ℕ
  pub distances : List ℕ
  pub prices : List ℕ
  pub tree : List ℕ
  pub marks : List ℕ

abbrev pub answer : (number place reached horizon iterations contractions extensions deletions scans : ℕ) → (distances prices tree marks : List ℕ) → Answer
answer n p r h i c e d s ds ps ts ms =
    record {
      number = n;
      place = p;
      reached = r;
      horizon = h;
      iterations = i;
      contractions = c;
      extensions = e;
      deletions = d;
      scans = s;
      distances = ds;
      prices = ps;
      tree = ts;
      marks = ms;
    }

unfoldable pub handed_over : Table → (wanted : List ℕ) → Ended → Answer
handed_over t ws e =
    let f = route_refusal ws e in
    let x = e.last in
    answer f.number f.place (reached_count t x) (horizon t x) (iterations x) x.contractions x.extensions x.deletions
    (scans (iterations x) t) (distances t x) (prices t x) (tree t x) (marks t x)

-- THE WALK RETURNED to a node: back from the node, from each tree entry's arc to its tail, until the origin, read forwards
unfoldable pub back_from : (left : ℕ) → Table → (tree : List ℕ) → (v : ℕ) → (walk : List ℕ) → List ℕ
back_from zero t ts v is = is
back_from (suc k) t ts v is =
    cond (eqb v t.origin || eqb (get_or ts v no_arc) no_arc) is (back_from k t ts (tail_at t (get_or ts v no_arc)) (get_or ts v no_arc ∷ is))

unfoldable pub returned : Table → (tree : List ℕ) → (v : ℕ) → List ℕ
returned t ts v = back_from t.n t ts v []
