-- What make_load answers and leaves in the three columns that are lent, for every input. Assumes nothing: these are definitions.
use Rattle.std.specs.Prelude.{◌≡◌, Bool, ◌||◌, cond, List, [], ℕ, ltb, eqb, length}
use Rattle.table.specs.Table.{Arc, most_arcs, down, tails_of, heads_of, lengths_of}
use Rattle.table.specs.Refusals.{Refusal, refusal, no_refusal, count_bad, columns_short}
use Rattle.table.specs.Slices.{Buffer, had, left, over}
use Rattle.test_load.specs.Load.{load}
use Rattle.test_load.specs.declared.Made.{Made}

-- the chance that says that every pair has an arc
abbrev pub certain : ℕ
certain = 65536

-- 16: the chance is above that of every pair, or the largest length is no length, or says that the link is down
unfoldable pub range_bad : (chance largest : ℕ) → Bool
range_bad c l = ltb certain c || (eqb l 0 || eqb l down)

-- THE REFUSAL, in order: 1, 3, 16, then 17, more arcs than a table has; with the lengths of the columns
unfoldable pub load_refusal : (n seed chance largest tails heads lengths : ℕ) → Refusal
load_refusal n seed c l ts hs ls =
    cond (count_bad n) (refusal 1 0)
    (cond (columns_short ts hs ls) (refusal 3 0)
    (cond (range_bad c l) (refusal 16 0)
    (cond (ltb most_arcs (length (load n seed c l))) (refusal 17 0) no_refusal)))

-- the arcs that are made: none in a refusal
unfoldable pub made_arcs : Refusal → (arcs : List Arc) → List Arc
made_arcs f arcs = cond (eqb f.number 0) arcs []

-- the answer
unfoldable pub made : Refusal → (arcs : ℕ) → Made
made f m = record { number = f.number; place = f.place; arcs = m }

-- what is answered and left in the columns, given the refusal and the arcs made
pub record LeftByMaking (f : Refusal) (arcs : List Arc) (tails heads lengths tails' heads' lengths' : List ℕ) (r : Made) : Type 0 where
  pub answer : r ≡ made f (length arcs)
  pub tails_are : tails' ≡ over (tails_of arcs) tails
  pub heads_are : heads' ≡ over (heads_of arcs) heads
  pub lengths_are : lengths' ≡ over (lengths_of arcs) lengths

-- what make_load does
abbrev pub MakeSays : (n seed chance largest : ℕ) → (tails heads lengths tails' heads' lengths' : List ℕ) → Made → Type 0
MakeSays n seed c l ts hs ls ts' hs' ls' r =
    let f = load_refusal n seed c l (length ts) (length hs) (length ls) in
    LeftByMaking f (made_arcs f (load n seed c l)) ts hs ls ts' hs' ls' r

-- THE CONTRACT of make_load, of the columns that are lent
abbrev pub MakesLoad : (n seed chance largest : ℕ) → (tails heads lengths : Buffer) → Made → Type 0
MakesLoad n seed c l ts hs ls r = MakeSays n seed c l (had ts) (had hs) (had ls) (left ts) (left hs) (left ls) r
