-- What a sound state says of walks: distances are least, returned walks attain them, prices show it. Assumes nothing.
use mathlib.Core.Path.{◌≡◌, refl, sym, ap, subst, ◌∙◌}
use mathlib.Core.Bool.{true, false, ◌&&◌, cond}
use mathlib.Core.List.{List, [], ◌∷◌}
use mathlib.Core.Logic.{⊎_elim}
use mathlib.Core.Option.{none, some}
use Prim.Native.Nat.{ℕ, zero, suc, ◌+◌, ◌-◌, ◌≤◌, ◌<◌}
use native.Mathlib.Omega.{arith}
use lib.Dec.{ltb, eqb}
use lib.ListN.{length, get_or}
use borrow.Author.Tests.{eqb-true, lt-ltb, eq-eqb, both_ways}
use Rattle.std.proofs.lemmas.Bool.{and_from, cases_Bool, cases_eq, cases_lt}
use Rattle.table.specs.Table.{Table, arc_count, tail_at, head_at, length_at, leads, is_walk, walk_length, no_arc}
use Rattle.auction.specs.Auction.{State, bound_at, kept_at, status_at, distance, or_zero, was_reached, price_at, deleted}
use Rattle.auction.specs.HandOver.{horizon, prices, tree, arc_or_none, back_from, returned}
use Rattle.table.proofs.Basics.{option_or}
use Rattle.auction.proofs.Sums.{column, past_column, greatest_bound, greatest_least}
use Rattle.auction.proofs.Good.{Good}
use Rattle.auction.proofs.Back.{first, at_origin, one_back}
use Rattle.auction.proofs.Steps.Effects.{known_distance, reached_status, status_reached, unreached_status, status_in}
use Rattle.auction.proofs.Steps.Bids.{Child}
use Rattle.auction.proofs.Invariant.Sound.{KeptArc, Nodes, Sound, reached_bounded, unreached_far, reached_low}

-- what holds of every position of a list
unfoldable pub All : (ℕ → Type 0) → List ℕ → Type 0
All P [] = Unit
All P (i ∷ is) = P i × All P is

plain : (k : ℕ) → or_zero (some k) ≡ k
unfolding or_zero
plain k = refl

module _ (t : Table) (g : Good t) (x : State) (dep : ℕ → ℕ) (s : Sound t x dep) where
  abbrev nodes : Nodes t x dep
  nodes = s.nodes

  -- a node's distance, the horizon where it was not reached
  far : ℕ → ℕ
  far v = cond (was_reached x v) (distance x v) (horizon t x)

  far_reached : (v : ℕ) → was_reached x v ≡ true → far v ≡ distance x v
  unfolding far
  far_reached v r = rw r

  far_unreached : (v : ℕ) → was_reached x v ≡ false → far v ≡ horizon t x
  unfolding far
  far_unreached v r = rw r

  reached_in : (v : ℕ) → was_reached x v ≡ true → v < t.n
  reached_in v r = status_in v nodes.sizes (reached_status x v r)

  reached_distance : ℕ → ℕ
  reached_distance v = cond (was_reached x v) (distance x v) 0

  pub distance_low : (v : ℕ) → was_reached x v ≡ true → distance x v ≤ horizon t x
  unfolding horizon reached_distance
  distance_low v r =
      let here : reached_distance v ≡ distance x v = rw r in
      omega (arith, here, greatest_bound t.n v reached_distance (reached_in v r))

  -- the origin's price is not below the horizon
  horizon_low : horizon t x ≤ price_at x t.origin
  unfolding horizon reached_distance
  horizon_low =
      greatest_least t.n (price_at x t.origin) reached_distance
      (λ v h.
      ⊎_elim
      (λ (r : was_reached x v ≡ true).
      let here : reached_distance v ≡ distance x v = rw r in omega (arith, here, nodes.level v (reached_status x v r)))
      (λ (r : was_reached x v ≡ false). let here : reached_distance v ≡ 0 = rw r in omega (arith, here))
      (cases_Bool (was_reached x v)))

  far_low : (v : ℕ) → far v ≤ horizon t x
  far_low v =
      ⊎_elim (λ (r : was_reached x v ≡ true). omega (arith, far_reached v r, distance_low v r)) (λ (r : was_reached x v ≡ false). omega (arith, far_unreached v r))
      (cases_Bool (was_reached x v))

  -- on every arc, whatever its ends
  far_fits : (i : ℕ) → i < arc_count t → far (head_at t i) ≤ far (tail_at t i) + length_at t i
  far_fits i h =
      ⊎_elim
      (λ (r : was_reached x (tail_at t i) ≡ true).
      let a = s.relaxed i h (reached_status x (tail_at t i) r) in
      ⊎_elim
      (λ (q : was_reached x (head_at t i) ≡ true). omega (arith, far_reached (tail_at t i) r, far_reached (head_at t i) q, a.low))
      (λ (q : was_reached x (head_at t i) ≡ false).
      omega (
        arith,
        far_reached (tail_at t i) r,
        far_unreached (head_at t i) q,
        a.low,
        horizon_low,
        unreached_far nodes (head_at t i) a.bounded (unreached_status x (head_at t i) q),
      ))
      (cases_Bool (was_reached x (head_at t i))))
      (λ (r : was_reached x (tail_at t i) ≡ false). omega (arith, far_unreached (tail_at t i) r, far_low (head_at t i)))
      (cases_Bool (was_reached x (tail_at t i)))

  -- THE PRICES HANDED OVER are what is left to the horizon
  price_far : (v : ℕ) → get_or (prices t x) v 0 + far v ≡ horizon t x
  unfolding prices
  price_far v =
      let f : ℕ → ℕ = λ u. cond (was_reached x u) (horizon t x - distance x u) 0 in
      ⊎_elim
      (λ (r : was_reached x v ≡ true).
      let here : f v ≡ horizon t x - distance x v = rw r in
      omega (arith, column t.n v f 0 (reached_in v r), here, far_reached v r, distance_low v r))
      (λ (r : was_reached x v ≡ false).
      let here : f v ≡ 0 = rw r in
      ⊎_elim (λ (h : v < t.n). omega (arith, column t.n v f 0 h, here, far_unreached v r))
      (λ (h : t.n ≤ v). omega (arith, past_column t.n v f 0 h, far_unreached v r))
      (cases_lt v t.n))
      (cases_Bool (was_reached x v))

  pub prices_fit_at : (i : ℕ) → i < arc_count t → get_or (prices t x) (tail_at t i) 0 ≤ length_at t i + get_or (prices t x) (head_at t i) 0
  prices_fit_at i h =
      omega (arith, price_far (tail_at t i), price_far (head_at t i), far_fits i h, far_low (tail_at t i))

  -- along a kept arc of a reached node the prices differ by just its length
  pub prices_equal : (v k : ℕ) → was_reached x v ≡ true → kept_at x v ≡ some k →
      get_or (prices t x) (tail_at t k) 0 ≡ length_at t k + get_or (prices t x) (head_at t k) 0
  prices_equal v k r e =
      let a = nodes.kept v k e in
      let tail = status_reached x (tail_at t k) a.from_reached in
      omega (
        arith,
        price_far (tail_at t k),
        price_far (head_at t k),
        far_reached (tail_at t k) tail,
        far_reached v r,
        ap far a.into,
        known_distance x v _ a.bound,
        far_low v,
      )

  origin_reached : was_reached x t.origin ≡ true
  origin_reached = status_reached x t.origin (omega (arith, nodes.origin_status))

  origin_distance : distance x t.origin ≡ 0
  origin_distance = known_distance x t.origin 0 nodes.origin_bound

  pub origin_price : (v : ℕ) → was_reached x v ≡ true → get_or (prices t x) t.origin 0 ≡ distance x v + get_or (prices t x) v 0
  origin_price v r =
      omega (
        arith,
        price_far t.origin,
        price_far v,
        far_reached v r,
        far_reached t.origin origin_reached,
        origin_distance,
        distance_low v r,
      )

  -- NO WALK IS SHORTER: the lengths along it add up to at least the difference
  far_leads : (is : List ℕ) (u v : ℕ) → leads t u is v ≡ true → far v ≤ far u + walk_length t is
  unfolding leads walk_length
  far_leads [] u v e = omega (arith, ap far (eqb-true u v e))
  far_leads (i ∷ is) u v e =
      let f = first t u i is v e in
      omega (arith, far_leads is (head_at t i) v f.rest, far_fits i f.listed, ap far f.leaves)

  far_walk : (is : List ℕ) (v : ℕ) → is_walk t is v ≡ true → far v ≤ walk_length t is
  unfolding is_walk
  far_walk is v e = omega (arith, far_leads is t.origin v e, far_reached t.origin origin_reached, origin_distance)

  pub no_shorter : (is : List ℕ) (v : ℕ) → was_reached x v ≡ true → is_walk t is v ≡ true → distance x v ≤ walk_length t is
  no_shorter is v r e = omega (arith, far_walk is v e, far_reached v r)

  -- A WALK TO A NODE THAT WAS NOT REACHED is at least as long as the origin's price: so is the bound of the first such node on it
  unreached_leads : (is : List ℕ) (u v : ℕ) → leads t u is v ≡ true → was_reached x u ≡ true → was_reached x v ≡ false →
      price_at x t.origin ≤ distance x u + walk_length t is
  unfolding leads walk_length
  unreached_leads [] u v e r q = absurd (both_ways (was_reached x u) (ap (was_reached x) (eqb-true u v e) ∙ q) r)
  unreached_leads (i ∷ is) u v e r q =
      let f = first t u i is v e in
      let tail : was_reached x (tail_at t i) ≡ true = ap (was_reached x) f.leaves ∙ r in
      let a = s.relaxed i f.listed (reached_status x (tail_at t i) tail) in
      let here : distance x (tail_at t i) ≡ distance x u = ap (distance x) f.leaves in
      ⊎_elim
      (λ (h : was_reached x (head_at t i) ≡ true). omega (arith, unreached_leads is (head_at t i) v f.rest h q, a.low, here))
      (λ (h : was_reached x (head_at t i) ≡ false).
      omega (arith, unreached_far nodes (head_at t i) a.bounded (unreached_status x (head_at t i) h), a.low, here))
      (cases_Bool (was_reached x (head_at t i)))

  pub unreached_walk : (is : List ℕ) (v : ℕ) → was_reached x v ≡ false → is_walk t is v ≡ true → price_at x t.origin ≤ walk_length t is
  unfolding is_walk
  unreached_walk is v q e = omega (arith, unreached_leads is t.origin v e origin_reached q, origin_distance)

  -- THE TREE
  pub tree_entry : (v k : ℕ) → was_reached x v ≡ true → kept_at x v ≡ some k → get_or (tree t x) v no_arc ≡ k
  unfolding tree arc_or_none
  tree_entry v k r e =
      let f : ℕ → ℕ = λ u. cond (was_reached x u) (arc_or_none (kept_at x u)) no_arc in
      let here : f v ≡ k = rw (r, e) in
      column t.n v f no_arc (reached_in v r) ∙ here

  pub tree_origin : get_or (tree t x) t.origin no_arc ≡ no_arc
  unfolding tree arc_or_none
  tree_origin =
      let f : ℕ → ℕ = λ u. cond (was_reached x u) (arc_or_none (kept_at x u)) no_arc in
      let here : f t.origin ≡ no_arc = rw (origin_reached, nodes.origin_kept) in
      column t.n t.origin f no_arc g.origin_in ∙ here

  pub tree_unreached : (v : ℕ) → was_reached x v ≡ false → get_or (tree t x) v no_arc ≡ no_arc
  unfolding tree
  tree_unreached v r =
      let f : ℕ → ℕ = λ u. cond (was_reached x u) (arc_or_none (kept_at x u)) no_arc in
      let here : f v ≡ no_arc = rw r in
      ⊎_elim (λ (h : v < t.n). column t.n v f no_arc h ∙ here) (λ (h : t.n ≤ v). past_column t.n v f no_arc h) (cases_lt v t.n)

  pub record KeptLink (v : ℕ) : Type 0 where
    pub position : ℕ
    pub kept : kept_at x v ≡ some position
    pub arc : KeptArc t x dep v position
    pub entry : get_or (tree t x) v no_arc ≡ position

  pub kept_link : (v : ℕ) → was_reached x v ≡ true → (v ≡ t.origin → ⊥) → KeptLink v
  kept_link v r d =
      ⊎_elim
      (λ (e : kept_at x v ≡ none).
      absurd (reached_bounded nodes v (reached_status x v r) (nodes.unkept v e d)))
      (λ (k : (k : ℕ) × (kept_at x v ≡ some k)).
      record { position = k.0; kept = k.1; arc = nodes.kept v k.0 k.1; entry = tree_entry v k.0 r k.1 })
      (option_or (kept_at x v))

  -- going back over the tree from a reached node puts a walk in front: kept arcs of reached nodes, as long as the node's distance
  pub record Back (k v : ℕ) (is : List ℕ) : Type 1 where
    pub leads_on : (w : ℕ) → leads t v is w ≡ true → leads t t.origin (back_from k t (tree t x) v is) w ≡ true
    pub long : walk_length t (back_from k t (tree t x) v is) ≡ distance x v + walk_length t is
    pub arcs : length (back_from k t (tree t x) v is) ≡ dep v + length is
    pub links : (P : ℕ → Type 0) → ((u a : ℕ) → was_reached x u ≡ true → kept_at x u ≡ some a → P a) → All P is → All P (back_from k t (tree t x) v is)

  back_by : (k v : ℕ) (is : List ℕ) → (v ≡ t.origin → ⊥) → (a : ℕ) → a < arc_count t → get_or (tree t x) v no_arc ≡ a →
      back_from (suc k) t (tree t x) v is ≡ back_from k t (tree t x) (tail_at t a) (a ∷ is)
  back_by k v is d a h e =
      one_back t (tree t x) k v is d (λ q. omega (arith, e, q, h, g.few_arcs))
      ∙ ap (λ (i : ℕ). back_from k t (tree t x) (tail_at t i) (i ∷ is)) e

  back_origin : (k v : ℕ) (is : List ℕ) → v ≡ t.origin → Back k v is
  back_origin k v is e =
      let stop = at_origin t (tree t x) k v is e in
      record {
        leads_on = λ w l. ap (λ (p : List ℕ). leads t t.origin p w) stop ∙ ap (λ (u : ℕ). leads t u is w) (sym e) ∙ l;
        long = omega (arith, ap (walk_length t) stop, ap (distance x) e, origin_distance);
        arcs = omega (arith, ap length stop, ap dep e, nodes.origin_depth);
        links = λ P q l. subst (λ (p : List ℕ). All P p) (sym stop) l;
      }

  back_one : (k v : ℕ) (is : List ℕ) → was_reached x v ≡ true → (d : v ≡ t.origin → ⊥) → (l : KeptLink v) →
      Back k (tail_at t l.position) (l.position ∷ is) → Back (suc k) v is
  unfolding leads walk_length All
  back_one k v is r d l rest =
      let a = l.position in
      let step = back_by k v is d a l.arc.listed l.entry in
      record {
        leads_on =
            λ w e.
            ap (λ (p : List ℕ). leads t t.origin p w) step
            ∙ rest.leads_on w
            (and_from (ltb a (arc_count t) && eqb (tail_at t a) (tail_at t a)) (leads t (head_at t a) is w)
            (and_from (ltb a (arc_count t)) (eqb (tail_at t a) (tail_at t a)) (lt-ltb a (arc_count t) l.arc.listed) (eq-eqb (tail_at t a) (tail_at t a) refl))
            (ap (λ (u : ℕ). leads t u is w) l.arc.into ∙ e));
        long = omega (arith, ap (walk_length t) step, rest.long, known_distance x v _ l.arc.bound);
        arcs = omega (arith, ap length step, rest.arcs, l.arc.deeper);
        links = λ P q m. subst (λ (p : List ℕ). All P p) (sym step) (rest.links P q (q v a r l.kept, m));
      }

  back : (k v : ℕ) (is : List ℕ) → was_reached x v ≡ true → dep v ≤ k → Back k v is
  back zero v is r h =
      ⊎_elim (λ (e : v ≡ t.origin). back_origin zero v is e)
      (λ (d : v ≡ t.origin → ⊥). absurd (omega (arith, h, (kept_link v r d).arc.deeper)))
      (cases_eq v t.origin)
  back (suc k) v is r h =
      ⊎_elim (λ (e : v ≡ t.origin). back_origin (suc k) v is e)
      (λ (d : v ≡ t.origin → ⊥).
      let l = kept_link v r d in
      back_one k v is r d l
      (back k (tail_at t l.position) (l.position ∷ is) (status_reached x (tail_at t l.position) l.arc.from_reached) (omega (arith, h, l.arc.deeper))))
      (cases_eq v t.origin)

  from_node : (v : ℕ) → was_reached x v ≡ true → Back t.n v []
  from_node v r = back t.n v [] r (omega (arith, nodes.shallow v (reached_status x v r), reached_low t x))

  pub returned_walk : (v : ℕ) → was_reached x v ≡ true → is_walk t (returned t (tree t x) v) v ≡ true
  unfolding is_walk returned leads
  returned_walk v r = (from_node v r).leads_on v (eq-eqb v v refl)

  pub returned_long : (v : ℕ) → was_reached x v ≡ true → walk_length t (returned t (tree t x) v) ≡ distance x v
  unfolding returned walk_length
  returned_long v r = omega (arith, (from_node v r).long)

  pub returned_short : (v : ℕ) → was_reached x v ≡ true → length (returned t (tree t x) v) < t.n
  unfolding returned
  returned_short v r = omega (arith, (from_node v r).arcs, nodes.shallow v (reached_status x v r), reached_low t x)

  pub returned_links : (P : ℕ → Type 0) → ((u a : ℕ) → was_reached x u ≡ true → kept_at x u ≡ some a → P a) → (v : ℕ) → was_reached x v ≡ true →
      All P (returned t (tree t x) v)
  unfolding returned All
  returned_links P q v r = (from_node v r).links P q tt

  -- THE EARLIEST LINK: an arc that attains the distance at the end of some walk is not listed before the kept one
  pub earliest : (v k i : ℕ) → was_reached x v ≡ true → kept_at x v ≡ some k → i < arc_count t → head_at t i ≡ v → (walk : List ℕ) →
      is_walk t walk (tail_at t i) ≡ true → walk_length t walk + length_at t i ≡ distance x v → k ≤ i
  earliest v k i r e h into walk w total =
      ⊎_elim
      (λ (q : was_reached x (tail_at t i) ≡ true).
      let a = s.relaxed i h (reached_status x (tail_at t i) q) in
      let at : distance x (head_at t i) ≡ distance x v = ap (distance x) into in
      let same : distance x (head_at t i) ≡ distance x (tail_at t i) + length_at t i = omega (arith, a.low, no_shorter walk (tail_at t i) q w) in
      omega (arith, a.earliest same, kept_there e into))
      (λ (q : was_reached x (tail_at t i) ≡ false).
      absurd
      (omega (arith, far_walk walk (tail_at t i) w, far_unreached (tail_at t i) q, distance_low v r, g.positive i h)))
      (cases_Bool (was_reached x (tail_at t i)))
    where
      kept_there : kept_at x v ≡ some k → head_at t i ≡ v → or_zero (kept_at x (head_at t i)) ≡ k
      kept_there e into = ap (λ (u : ℕ). or_zero (kept_at x u)) into ∙ ap or_zero e ∙ plain k

  -- THE ORIGIN WITHOUT CHILDREN: every node with a bound has been reached, so no walk leaves the reached nodes
  module _ (childless : (i : ℕ) → i < arc_count t → Child t t.origin i x → ⊥) where
    -- a node that is not deleted hangs on one that is not either, up to the origin
    none_alive : (k v a : ℕ) → dep v ≡ k → kept_at x v ≡ some a → (status_at x v ≡ deleted → ⊥) → ⊥
    none_alive zero v a e q alive = omega (arith, e, (nodes.kept v a q).deeper)
    none_alive (suc k) v a e q alive =
        let arc = nodes.kept v a q in
        let live = nodes.live v a q alive in
        let u = tail_at t a in
        ⊎_elim
        (λ (o : u ≡ t.origin).
        childless a arc.listed
        (record { leaves = o; kept = ap (kept_at x) arc.into ∙ q; undeleted = λ z. alive (ap (status_at x) (sym arc.into) ∙ z) }))
        (λ (o : u ≡ t.origin → ⊥).
        let l = kept_link u (status_reached x u arc.from_reached) o in
        none_alive k u l.position (omega (arith, e, arc.deeper)) l.kept (λ (z : status_at x u ≡ deleted). omega (arith, live.tail_live, z)))
        (cases_eq u t.origin)

    bounded_reached : (v : ℕ) → (bound_at x v ≡ none → ⊥) → was_reached x v ≡ true
    bounded_reached v b =
        ⊎_elim (λ (r : was_reached x v ≡ true). r)
        (λ (r : was_reached x v ≡ false).
        let z = unreached_status x v r in
        let d : v ≡ t.origin → ⊥ = λ e. omega (arith, z, nodes.origin_status, ap (status_at x) e) in
        ⊎_elim (λ (n : kept_at x v ≡ none). absurd (b (nodes.unkept v n d)))
        (λ (a : (a : ℕ) × (kept_at x v ≡ some a)). absurd (none_alive (dep v) v a.0 refl a.1 (λ (q : status_at x v ≡ deleted). omega (arith, z, q))))
        (option_or (kept_at x v)))
        (cases_Bool (was_reached x v))

    leads_reached : (is : List ℕ) (u v : ℕ) → leads t u is v ≡ true → was_reached x u ≡ true → was_reached x v ≡ true
    unfolding leads
    leads_reached [] u v e r = ap (was_reached x) (sym (eqb-true u v e)) ∙ r
    leads_reached (i ∷ is) u v e r =
        let f = first t u i is v e in
        let tail : was_reached x (tail_at t i) ≡ true = ap (was_reached x) f.leaves ∙ r in
        let a = s.relaxed i f.listed (reached_status x (tail_at t i) tail) in
        leads_reached is (head_at t i) v f.rest (bounded_reached (head_at t i) a.bounded)

    pub walk_reached : (is : List ℕ) (v : ℕ) → is_walk t is v ≡ true → was_reached x v ≡ true
    unfolding is_walk
    walk_reached is v e = leads_reached is t.origin v e origin_reached
