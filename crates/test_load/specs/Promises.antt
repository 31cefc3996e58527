-- What is promised of a test load, said of its arcs and of the columns that make_load leaves. Each promise is a type; its proof, by the same name in small
-- letters, stands in proofs/Promised.antt. Assumes nothing.
use Rattle.std.specs.Prelude.{◌≡◌, true, List, [], map, ◌⊎◌, ℕ, ◌*◌, ◌-◌, ◌^◌, ◌≤◌, ◌<◌, length, get_or, take, drop}
use Rattle.table.specs.Table.{Arc, arc, table_of, is_table, down, nodes_below, most_wanted, tails_of, heads_of, lengths_of}
use Rattle.auction.specs.Plan.{plan}
use Rattle.test_load.specs.Load.{Pair, pair, pairs, load}
use Rattle.test_load.specs.Making.{certain, MakeSays}
use Rattle.test_load.specs.declared.Made.{Made}

-- the arc at a position
unfoldable pub nth : List Arc → (i : ℕ) → Arc
nth arcs i = get_or arcs i (arc 0 0 0)

-- THE ARCS OF A LOAD
pub record Listed (n largest : ℕ) (arcs : List Arc) : Type 0 where
  -- both ends are nodes, and they differ: there is no loop
  pub tail_below : (i : ℕ) → i < length arcs → (nth arcs i).tail < n
  pub head_below : (i : ℕ) → i < length arcs → (nth arcs i).head < n
  pub no_loop : (i : ℕ) → i < length arcs → (nth arcs i).tail ≡ (nth arcs i).head → ⊥
  -- no pair stands twice
  pub no_pair_twice : (i j : ℕ) → i < j → j < length arcs → (nth arcs i).tail ≡ (nth arcs j).tail → (nth arcs i).head ≡ (nth arcs j).head → ⊥
  -- the arcs come by tail, and those of a tail by head
  pub by_tail : (i j : ℕ) → i < j → j < length arcs → (nth arcs i).tail ≤ (nth arcs j).tail
  pub by_head : (i j : ℕ) → i < j → j < length arcs → (nth arcs i).tail ≡ (nth arcs j).tail → (nth arcs i).head < (nth arcs j).head
  -- a length is 1 to the largest
  pub some_length : (i : ℕ) → i < length arcs → 1 ≤ (nth arcs i).arc_length
  pub no_longer : (i : ℕ) → i < length arcs → (nth arcs i).arc_length ≤ largest

unfoldable pub LoadListed : Type 0
LoadListed = (n seed chance largest : ℕ) → 0 < largest → Listed n largest (load n seed chance largest)

-- A chance of 0 gives no arc,
unfoldable pub NoChanceNoArc : Type 0
NoChanceNoArc = (n seed largest : ℕ) → load n seed 0 largest ≡ []

-- and one of 65,536 gives one for every pair, of which there are n (n - 1).
unfoldable pub ends : Arc → Pair
ends a = pair a.tail a.head

unfoldable pub EveryPairCertain : Type 0
EveryPairCertain = (n seed largest : ℕ) → (map ends (load n seed certain largest) ≡ pairs n) × (length (pairs n) ≡ n * (n - 1))

-- NUMBER 0: the starts of the columns are the load's, whatever stood there before, so that two labs make the same; the rest is as it was.
pub record LoadThere (n seed chance largest : ℕ) (tails heads lengths tails' heads' lengths' : List ℕ) (r : Made) : Type 0 where
  pub count : r.arcs ≡ length (load n seed chance largest)
  pub tails_are : take r.arcs tails' ≡ tails_of (load n seed chance largest)
  pub heads_are : take r.arcs heads' ≡ heads_of (load n seed chance largest)
  pub lengths_are : take r.arcs lengths' ≡ lengths_of (load n seed chance largest)
  pub rest_stays : (drop r.arcs tails' ≡ drop r.arcs tails) × (drop r.arcs heads' ≡ drop r.arcs heads) × (drop r.arcs lengths' ≡ drop r.arcs lengths)
  -- No link of it is down.
  pub none_down : (i : ℕ) → i < r.arcs → (nth (load n seed chance largest) i).arc_length < down
  -- A planner does not turn the table down, whatever is the origin and whatever nodes are wanted: it is a table as all other promises ask for one,
  pub accepted : (o : ℕ) (wanted : List ℕ) → o < n → length wanted ≤ most_wanted → nodes_below n wanted ≡ true →
      is_table (table_of n o (take r.arcs tails') (take r.arcs heads') (take r.arcs lengths')) wanted ≡ true
  -- and a plan of it is made, with buffers that fit.
  pub planned : (o : ℕ) (wanted distances prices tree marks : List ℕ) → o < n → length wanted ≤ most_wanted → nodes_below n wanted ≡ true →
      length distances ≡ n → length prices ≡ n → length tree ≡ n → length marks ≡ r.arcs →
      let a = plan n o (take r.arcs tails') (take r.arcs heads') (take r.arcs lengths') wanted distances prices tree marks in (a.number ≡ 0) ⊎ (a.number ≡ 8)

-- The largest length is a number of 32 bits, as its type has it.
unfoldable pub LoadsPlanned : Type 0
LoadsPlanned =
    (n seed chance largest : ℕ) (tails heads lengths tails' heads' lengths' : List ℕ) (r : Made) → largest < 2 ^ 32 →
    MakeSays n seed chance largest tails heads lengths tails' heads' lengths' r → r.number ≡ 0 →
    LoadThere n seed chance largest tails heads lengths tails' heads' lengths' r

-- ANY OTHER NUMBER is 1, 3, 16 or 17, at no place, and nothing is touched.
pub record LoadRefused (tails heads lengths tails' heads' lengths' : List ℕ) (r : Made) : Type 0 where
  pub numbers : (r.number ≡ 1) ⊎ (r.number ≡ 3) ⊎ (r.number ≡ 16) ⊎ (r.number ≡ 17)
  pub nothing : (r.place ≡ 0) × (r.arcs ≡ 0)
  pub untouched : (tails' ≡ tails) × (heads' ≡ heads) × (lengths' ≡ lengths)

unfoldable pub LoadRefusals : Type 0
LoadRefusals =
    (n seed chance largest : ℕ) (tails heads lengths tails' heads' lengths' : List ℕ) (r : Made) →
    MakeSays n seed chance largest tails heads lengths tails' heads' lengths' r → (r.number ≡ 0 → ⊥) →
    LoadRefused tails heads lengths tails' heads' lengths' r
