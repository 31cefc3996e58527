-- The promises of specs/Promises.antt, each proved under its own name in small letters. Assumes nothing.
use mathlib.Core.Path.{◌≡◌, refl, sym, ap, subst, ◌∙◌}
use mathlib.Core.Bool.{Bool, true, false, ◌&&◌, cond}
use mathlib.Core.List.{List, [], ◌∷◌}
use mathlib.Core.Logic.{⊎_elim}
use mathlib.Core.Option.{Option, none, some}
use Prim.Native.Nat.{ℕ, zero, suc, ◌+◌, ◌*◌, ◌-◌, ◌≤◌, ◌<◌}
use native.Mathlib.Omega.{arith}
use lib.Dec.{eqb}
use lib.ListN.{length, get_or}
use borrow.Author.Tests.{eqb-true, eq-eqb, both_ways}
use Rattle.std.proofs.lemmas.Bool.{and_from, and_parts, cases_Bool}
use Rattle.table.specs.Table.{Table, is_table, is_walk, arc_count, tail_at, head_at, length_at, longest}
use Rattle.auction.specs.Auction.{State, Bid, auction, next, iteration, deletion, best, terminal, all_reached, was_reached, distance}
use Rattle.auction.specs.HandOver.{prices, first_missing}
use Rattle.auction.specs.Promises.{Promises, last_state, route, price, link, WalkShortest, WalkGiven, PricesFit, equal_along, PricesShow, HasWalk, NoWalk, FirstWithoutWalk, RouteToAll, NoRoute, FewIterations, FewerIterations, EndsByItself, IterationsCounted, Attains, EarliestLink, MarksTallied, NeverAbove, DistancesStay, Ascending, SmallDistances, SmallSums}
use Rattle.table.proofs.Basics.{some_none}
use Rattle.auction.proofs.Good.{Good, good, unrefused_is_table, table_is_unrefused, longest_of_32_bits, lengths_of_32_bits}
use Rattle.auction.proofs.Steps.Effects.{estimate, known_distance, reached_status, status_reached, unreached_status}
use Rattle.auction.proofs.Steps.Bids.{Child, no_child, best_bid}
use Rattle.auction.proofs.Invariant.Sound.{Sound, reached_low}
use Rattle.auction.proofs.Invariant.Counting.{Invariant, few, fewer}
use Rattle.auction.proofs.Invariant.Terminal as at_terminal
use Rattle.auction.proofs.Run.{Finish, finish, passed, stepped}
use Rattle.auction.proofs.Remembering.{remembered_child, scans_between}
use Rattle.auction.proofs.Walks.{All, prices_fit_at, prices_equal, origin_price, no_shorter, kept_link, returned_walk, returned_short, returned_long, returned_links, earliest, walk_reached}
use Rattle.auction.proofs.Tally.{marks_all, marks_tree}

-- THE LAST STATE of a run is sound, and the run stopped there
module _ (t : Table) (ws : List ℕ) (e : is_table t ws ≡ true) where
  g : Good t
  g = good t ws e

  abbrev end : Finish t (all_reached ws)
  end = finish g

  pub invariant : Invariant t (last_state t ws)
  unfolding last_state auction
  invariant = end.running.invariant

  abbrev sound : Sound t (last_state t ws) invariant.depth
  sound = invariant.sound

  abbrev last : State
  last = last_state t ws

  -- the reason for which it stopped
  found : (auction t ws).routed ≡ true → all_reached ws last ≡ true
  unfolding last_state auction
  found = end.found

  stuck : (auction t ws).routed ≡ false → next t last ≡ none
  unfolding last_state auction
  stuck = end.stuck

  missing : (auction t ws).routed ≡ false → all_reached ws last ≡ false
  unfolding last_state auction
  missing = end.missing

-- where no iteration follows, the origin has no children
no_iteration : (t : Table) (x : State) (o : Option Bid) → best t (terminal x) x ≡ o → iteration o t (terminal x) x ≡ none → (i : ℕ) → i < arc_count t →
    Child t t.origin i x → ⊥
unfolding iteration
no_iteration t x none b e i h c =
    ⊎_elim
    (λ (q : eqb (terminal x) t.origin ≡ true).
    no_child t (terminal x) x b i h (subst (λ (v : ℕ). Child t v i x) (sym (eqb-true (terminal x) t.origin q)) c))
    (λ (q : eqb (terminal x) t.origin ≡ false). some_none (ap (λ (r : Bool). cond r none (some (deletion (terminal x) x))) q) e)
    (cases_Bool (eqb (terminal x) t.origin))
no_iteration t x (some d) b e i h c = some_none refl e

pub childless : (t : Table) (x : State) → next t x ≡ none → (i : ℕ) → i < arc_count t → Child t t.origin i x → ⊥
unfolding next
childless t x e = no_iteration t x (best t (terminal x) x) refl e

-- wanted nodes, one by one
wanted_reached : (ws : List ℕ) (x : State) → all_reached ws x ≡ true → (k : ℕ) → k < length ws → was_reached x (get_or ws k 0) ≡ true
unfolding all_reached
wanted_reached [] x e k h = absurd (omega arith)
wanted_reached (w ∷ ws) x e zero h = (and_parts (was_reached x w) (all_reached ws x) e).0
wanted_reached (w ∷ ws) x e (suc k) h = wanted_reached ws x (and_parts (was_reached x w) (all_reached ws x) e).1 k (omega arith)

record Missing (i : ℕ) (ws : List ℕ) (x : State) : Type 0 where
  index : ℕ
  place : first_missing i ws x ≡ i + index
  wanted : index < length ws
  unreached : was_reached x (get_or ws index 0) ≡ false
  earlier : (k : ℕ) → k < index → was_reached x (get_or ws k 0) ≡ true

first_missing_at : (i : ℕ) (ws : List ℕ) (x : State) → all_reached ws x ≡ false → Missing i ws x
unfolding all_reached first_missing
first_missing_at i [] x e = absurd (both_ways true e refl)
first_missing_at i (w ∷ ws) x e =
    ⊎_elim
    (λ (r : was_reached x w ≡ true).
    let later = first_missing_at (suc i) ws x (subst (λ (b : Bool). (b && all_reached ws x) ≡ false) r e) in
    record {
      index = suc later.index;
      place =
          ap (λ (b : Bool). cond b (first_missing (suc i) ws x) i) r ∙ omega (arith, later.place);
      wanted = omega (arith, later.wanted);
      unreached = later.unreached;
      earlier = λ k h. before r later.index later.earlier k h;
    })
    (λ (r : was_reached x w ≡ false).
    record {
      index = 0;
      place = ap (λ (b : Bool). cond b (first_missing (suc i) ws x) i) r ∙ omega arith;
      wanted = omega arith;
      unreached = r;
      earlier = λ k h. absurd (omega (arith, h));
    })
    (cases_Bool (was_reached x w))
  where
    before : was_reached x w ≡ true → (q : ℕ) → ((k : ℕ) → k < q → was_reached x (get_or ws k 0) ≡ true) → (k : ℕ) → k < suc q → was_reached x (get_or (w ∷ ws) k 0) ≡ true
    before r q rest zero h = r
    before r q rest (suc k) h = rest k (omega (arith, h))

-- THE THIRD DEMAND
pub walk_shortest : WalkShortest
unfolding WalkShortest route
walk_shortest t ws v e r =
    let s = sound t ws e in
    let d = (invariant t ws e).depth in
    record {
      walk = returned_walk t (g t ws e) (last t ws e) d s v r;
      short = returned_short t (g t ws e) (last t ws e) d s v r;
      as_long = returned_long t (g t ws e) (last t ws e) d s v r;
      least = λ other w. no_shorter t (g t ws e) (last t ws e) d s other v r w;
    }

pub walk_given : WalkGiven
unfolding WalkGiven
walk_given t ws k walk e h w =
    ⊎_elim (λ (r : (auction t ws).routed ≡ true). wanted_reached ws (last t ws e) (found t ws e r) k h)
    (λ (r : (auction t ws).routed ≡ false).
    walk_reached t (g t ws e) (last t ws e) (invariant t ws e).depth (sound t ws e) (childless t (last t ws e) (stuck t ws e r)) walk (get_or ws k 0) w)
    (cases_Bool (auction t ws).routed)

pub prices_fit : PricesFit
unfolding PricesFit price
prices_fit t ws i e h p = prices_fit_at t (g t ws e) (last t ws e) (invariant t ws e).depth (sound t ws e) i h

all_equal : (t : Table) (ps is : List ℕ) → All (λ i. get_or ps (tail_at t i) 0 ≡ length_at t i + get_or ps (head_at t i) 0) is → equal_along t ps is ≡ true
unfolding All equal_along
all_equal t ps [] a = refl
all_equal t ps (i ∷ is) a =
    and_from (eqb (get_or ps (tail_at t i) 0) (length_at t i + get_or ps (head_at t i) 0)) (equal_along t ps is)
    (eq-eqb (get_or ps (tail_at t i) 0) (length_at t i + get_or ps (head_at t i) 0) a.0)
    (all_equal t ps is a.1)

pub prices_show : PricesShow
unfolding PricesShow price route WalkShortest
prices_show t ws v e r =
    let s = sound t ws e in
    let y = last t ws e in
    let d = (invariant t ws e).depth in
    let ps = prices t y in
    record {
      equal =
          all_equal t ps (route t ws v)
          (returned_links t (g t ws e) y d s (λ i. get_or ps (tail_at t i) 0 ≡ length_at t i + get_or ps (head_at t i) 0) (prices_equal t (g t ws e) y d s) v r);
      difference = omega (arith, origin_price t (g t ws e) y d s v r, (walk_shortest t ws v e r).as_long);
    }

pub route_to_all : RouteToAll
unfolding RouteToAll HasWalk WalkShortest
route_to_all t ws e r k h =
    let w = walk_shortest t ws (get_or ws k 0) e (wanted_reached ws (last t ws e) (found t ws e r) k h) in (route t ws (get_or ws k 0), w.walk)

pub no_route : NoRoute
unfolding NoRoute HasWalk NoWalk WalkGiven WalkShortest
no_route t ws e r =
    let m = first_missing_at 0 ws (last t ws e) (missing t ws e r) in
    let at : first_missing 0 ws (last t ws e) ≡ m.index = m.place ∙ omega arith in
    subst (λ (p : ℕ). FirstWithoutWalk t ws p) (sym at)
    (record {
      wanted = m.wanted;
      without =
          λ walk.
          ⊎_elim
          (λ (w : is_walk t walk (get_or ws m.index 0) ≡ true).
          absurd (both_ways (was_reached (last t ws e) (get_or ws m.index 0)) m.unreached (walk_given t ws m.index walk e m.wanted w)))
          (λ (w : is_walk t walk (get_or ws m.index 0) ≡ false). w)
          (cases_Bool (is_walk t walk (get_or ws m.index 0)));
      earlier = λ k h. (route t ws (get_or ws k 0), (walk_shortest t ws (get_or ws k 0) e (m.earlier k h)).walk);
    })

pub few_iterations : FewIterations
unfolding FewIterations
few_iterations t ws e = few (g t ws e) (sound t ws e) (invariant t ws e).counts

pub fewer_iterations : FewerIterations
unfolding FewerIterations
fewer_iterations t ws e = fewer (g t ws e) (sound t ws e) (invariant t ws e).counts

pub ends_by_itself : EndsByItself
unfolding EndsByItself auction
ends_by_itself t ws e =
    record { found = found t ws e; stuck = stuck t ws e; missing = missing t ws e; no_cap = (end t ws e).no_cap }

pub iterations_counted : IterationsCounted
unfolding IterationsCounted last_state auction
iterations_counted t ws e = let r = (end t ws e).running in record { steps = r.steps; not_before = r.not_before }

-- THE SECOND DEMAND
pub earliest_link : EarliestLink
unfolding EarliestLink link WalkShortest
earliest_link t ws v e r d =
    let s = sound t ws e in
    let y = last t ws e in
    let dep = (invariant t ws e).depth in
    let l = kept_link t (g t ws e) y dep s v r d in
    let u = tail_at t l.position in
    let tail = walk_shortest t ws u e (status_reached y u l.arc.from_reached) in
    record {
      attains =
          subst (λ (k : ℕ). Attains t v (distance y v) k) (sym l.entry)
          (record {
            listed = l.arc.listed;
            into = l.arc.into;
            walk = route t ws u;
            to_tail = tail.walk;
            total = omega (arith, tail.as_long, known_distance y v _ l.arc.bound);
          });
      first =
          λ i a.
          omega (arith, l.entry, earliest t (g t ws e) y dep s v l.position i r l.kept a.listed a.into a.walk a.to_tail a.total);
    }

-- MARKS
pub marks_tallied : MarksTallied
unfolding MarksTallied
marks_tallied t ws e =
    let x = last t ws e in
    record { all = marks_all t x; tree = marks_tree t (g t ws e) x (invariant t ws e).depth (sound t ws e) }

-- OF EVERY STATE OF A RUN
pub never_above : NeverAbove
unfolding NeverAbove
never_above t k x b e p q =
    let i = (passed t (good t [] e) k x p).0 in
    at_terminal.never_above i.sound.nodes (terminal x) b (best_bid t (terminal x) x b q)

pub distances_stay : DistancesStay
unfolding DistancesStay
distances_stay t k x y v e p n r =
    let i = (passed t (good t [] e) k x p).0 in
    let s = stepped t (good t [] e) x i y n in
    let h = reached_status x v r in
    (status_reached y v (s.stays v h), s.distances v h)

pub ascending : Ascending
unfolding Ascending
ascending t k x y u v e p n ru rv rv' =
    let i = (passed t (good t [] e) k x p).0 in
    let s = stepped t (good t [] e) x i y n in
    let hu = reached_status x u ru in
    omega (arith, s.distances u hu, i.sound.nodes.level u hu, s.arrives v (unreached_status x v rv) (reached_status y v rv'))

pub small_distances : SmallDistances
unfolding SmallDistances
small_distances t k x v e p r =
    let good_table = good t [] e in
    let n = (passed t good_table k x p).0.sound.nodes in
    let h = n.shallow v (reached_status x v r) in
    let a = n.small_distance v in
    let b = reached_low t x in
    let c = good_table.few_nodes in
    let low : distance x v ≤ (t.n - 1) * longest = omega arith in
    (low, omega arith)

pub small_sums : SmallSums
unfolding SmallSums estimate
small_sums t k x v d e p b =
    let n = (passed t (good t [] e) k x p).0.sound.nodes in
    omega (arith, n.small_estimate v, known_distance x v d b)

pub promised : Promises
promised =
    record {
      walk_shortest = walk_shortest;
      walk_given = walk_given;
      prices_fit = prices_fit;
      prices_show = prices_show;
      route_to_all = route_to_all;
      no_route = no_route;
      few_iterations = few_iterations;
      fewer_iterations = fewer_iterations;
      ends_by_itself = ends_by_itself;
      iterations_counted = iterations_counted;
      earliest_link = earliest_link;
      marks_tallied = marks_tallied;
      never_above = never_above;
      distances_stay = distances_stay;
      ascending = ascending;
      small_distances = small_distances;
      small_sums = small_sums;
      scans_between = scans_between;
      remembered_child = remembered_child;
      unrefused_is_table = unrefused_is_table;
      table_is_unrefused = table_is_unrefused;
      longest_of_32_bits = longest_of_32_bits;
      lengths_of_32_bits = lengths_of_32_bits;
    }
