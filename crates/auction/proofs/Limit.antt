-- The promises of specs/Limit.antt: where a run within a limit ends, the nodes reached are those within it. Assumes nothing.
use mathlib.Core.Path.{◌≡◌, refl, sym, ap, ◌∙◌}
use mathlib.Core.Bool.{Bool, true, false, ◌||◌, and-true, or-false}
use mathlib.Core.List.{List, [], ◌∷◌}
use mathlib.Core.Logic.{◌⊎◌, inl, inr, ⊎_elim}
use mathlib.Core.Option.{none, some}
use Prim.Native.Nat.{ℕ, zero, suc, ◌≤◌, ◌<◌}
use native.Mathlib.Omega.{arith}
use borrow.Author.Tests.{ltb-true, ltb-false, le-ltb, both_ways}
use Rattle.std.proofs.lemmas.Bool.{cases_Bool, cases_lt, or_cases, or_parts}
use Rattle.table.specs.Table.{Table, is_table}
use Rattle.auction.specs.Auction.{State, start, next, after, all_reached, was_reached, distance, price_at, iterations, auction}
use Rattle.auction.specs.HandOver.{tree, returned}
use Rattle.auction.specs.Promises.{last_state, IterationsCounted, EndsByItself}
use Rattle.auction.specs.Limit.{above, decided, limited, limited_state, WalkWithin, WithinLimit, LimitCuts, Unlimited, Limits}
use Rattle.table.proofs.Basics.{some_none, some_same}
use Rattle.auction.proofs.Good.{Good, good}
use Rattle.auction.proofs.Steps.Effects.{reached_status, unreached_status}
use Rattle.auction.proofs.Invariant.Counting.{Invariant}
use Rattle.auction.proofs.Invariant.Starting.{started_price}
use Rattle.auction.proofs.Run.{Running, Finish, finish, preceded, passed, stepped, within, none_after, same_run}
use Rattle.auction.proofs.Walks.{returned_walk, returned_long, unreached_walk, walk_reached}
use Rattle.auction.proofs.Promised.{childless, ends_by_itself, iterations_counted}

-- the origin's price and the limit
is_above : (t : Table) (b : ℕ) (x : State) → above t b x ≡ true → b < price_at x t.origin
unfolding above
is_above t b x e = ltb-true b (price_at x t.origin) e

not_above : (t : Table) (b : ℕ) (x : State) → above t b x ≡ false → price_at x t.origin ≤ b
unfolding above
not_above t b x e = ltb-false b (price_at x t.origin) e

none_above : (t : Table) (b : ℕ) (x : State) → price_at x t.origin ≤ b → above t b x ≡ false
unfolding above
none_above t b x h = le-ltb b (price_at x t.origin) h

module _ (t : Table) (ws : List ℕ) (b : ℕ) where
  abbrev x : State
  x = limited_state t ws b

  -- where it is not decided
  undecided : (y : State) → decided t ws b y ≡ false → (all_reached ws y ≡ false) × (price_at y t.origin ≤ b)
  unfolding decided
  undecided y e =
      let n = or_parts (all_reached ws y) (above t b y) e in
      (n.0, not_above t b y n.1)

  module _ (g : Good t) where
    running : Running t (decided t ws b) x
    unfolding limited limited_state
    running = (finish g).running

    -- IT ENDS where it is decided, or where no iteration follows
    ends : (decided t ws b x ≡ true) ⊎ (next t x ≡ none)
    unfolding limited limited_state
    ends =
        let end : Finish t (decided t ws b) = finish g in
        ⊎_elim (λ (r : (limited t ws b).routed ≡ true). inl (end.found r)) (λ (r : (limited t ws b).routed ≡ false). inr (end.stuck r))
        (cases_Bool (limited t ws b).routed)

    -- A REACHED NODE IS WITHIN THE LIMIT: it is no farther than the origin's price was before it was decided
    low_after : (k : ℕ) (y : State) → after k t ≡ some y → ((m : ℕ) (z : State) → m < k → after m t ≡ some z → decided t ws b z ≡ false) →
        (v : ℕ) → was_reached y v ≡ true → distance y v ≤ b
    unfolding after
    low_after zero y e not_before v r =
        let same : start t ≡ y = some_same refl e in
        omega
        (arith, (passed t g 0 y e).0.sound.nodes.level v (reached_status y v r), ap (λ (z : State). price_at z t.origin) same, started_price t g)
    low_after (suc k) y e not_before v r =
        let before = preceded t k y e in
        let z = before.0 in
        let i = (passed t g k z before.1).0 in
        let s = stepped t g z i y before.2 in
        let low = (undecided z (not_before k z (omega arith) before.1)).1 in
        ⊎_elim
        (λ (q : was_reached z v ≡ true).
        let h = reached_status z v q in omega (arith, s.distances v h, i.sound.nodes.level v h, low))
        (λ (q : was_reached z v ≡ false). omega (arith, s.arrives v (unreached_status z v q) (reached_status y v r), low))
        (cases_Bool (was_reached z v))

    reached_low : (v : ℕ) → was_reached x v ≡ true → distance x v ≤ b
    reached_low = low_after (iterations x) x running.steps running.not_before

    walk_within : (v : ℕ) → was_reached x v ≡ true → WalkWithin t v b
    walk_within v r =
        let d = running.invariant.depth in
        let s = running.invariant.sound in
        record {
          walk = returned t (tree t x) v;
          to_node = returned_walk t g x d s v r;
          low = omega (arith, returned_long t g x d s v r, reached_low v r);
        }

    -- THE PLAN'S RUN STOPS NO SOONER: where it does, this run would have been decided, or stuck
    not_sooner : is_table t ws ≡ true → iterations (last_state t ws) < iterations x → ⊥
    unfolding IterationsCounted EndsByItself
    not_sooner e h =
        let y = last_state t ws in
        let here = (iterations_counted t ws e).steps in
        let more = (undecided y (running.not_before (iterations y) y h here)).0 in
        let end = ends_by_itself t ws e in
        ⊎_elim (λ (r : (auction t ws).routed ≡ true). both_ways (all_reached ws y) more (end.found r))
        (λ (r : (auction t ws).routed ≡ false).
        some_none running.steps (none_after t (iterations y) y here (end.stuck r) (iterations x) h))
        (cases_Bool (auction t ws).routed)

    no_later : is_table t ws ≡ true → iterations x ≤ iterations (last_state t ws)
    no_later e =
        ⊎_elim (λ (h : iterations (last_state t ws) < iterations x). absurd (not_sooner e h))
        (λ (h : iterations x ≤ iterations (last_state t ws)). h)
        (cases_lt (iterations (last_state t ws)) (iterations x))

-- one wanted node
pub alone : (v : ℕ) (x : State) → all_reached (v ∷ []) x ≡ was_reached x v
unfolding all_reached
alone v x = and-true (was_reached x v)

-- A NODE THAT IS NOT REACHED IS FARTHER: the origin's price, which no walk there is below, is above the limit, or it has no walk
pub within_limit : WithinLimit
unfolding WithinLimit decided
within_limit t v b e =
    let ws = v ∷ [] in
    let g = good t ws e in
    let y = x t ws b in
    let d = (running t ws b g).invariant.depth in
    let s = (running t ws b g).invariant.sound in
    record {
      yes = walk_within t ws b g v;
      no = λ q walk w.
          ⊎_elim
          (λ (r : decided t ws b y ≡ true).
          ⊎_elim (λ (a : all_reached ws y ≡ true). absurd (both_ways (was_reached y v) q (sym (alone v y) ∙ a)))
          (λ (a : above t b y ≡ true). omega (arith, is_above t b y a, unreached_walk t g y d s walk v q w))
          (or_cases (all_reached ws y) (above t b y) r))
          (λ (n : next t y ≡ none). absurd (both_ways (was_reached y v) q (walk_reached t g y d s (childless t y n) walk v w)))
          (ends t ws b g);
    }

pub limit_cuts : LimitCuts
unfolding LimitCuts
limit_cuts t ws b e =
    let g = good t ws e in
    record { steps = (running t ws b g).steps; ends = ends t ws b g; not_before = (running t ws b g).not_before; no_later = no_later t ws b g e }

-- where no price is above the limit, it is decided where every wanted node has been reached
pub unlimited : Unlimited
unfolding Unlimited limited auction decided
unlimited t ws b e h =
    let g = good t ws e in
    same_run g
    (λ (y : State) (i : Invariant t y).
    ap (λ (a : Bool). all_reached ws y || a) (none_above t b y (omega (arith, h, (within t g y i).price_small t.origin)))
    ∙ or-false (all_reached ws y))

pub limits : Limits
limits = record { within_limit = within_limit; limit_cuts = limit_cuts; unlimited = unlimited }
