-- What a plan of a table hands over is what a plan of the table without its absent arcs hands over, told by places. Assumes nothing.
use mathlib.Core.Path.{◌≡◌, refl, sym, ap, subst, ◌∙◌}
use mathlib.Core.Bool.{true, false, cond}
use mathlib.Core.List.{List, [], ◌∷◌, map}
use mathlib.Core.Logic.{◌⊎◌, inl, inr, ⊎_elim}
use mathlib.Core.Option.{Option, none, some}
use Prim.Native.Nat.{ℕ, zero, suc, ◌≤◌, ◌<◌}
use native.Mathlib.Omega.{arith}
use lib.ListN.{get_or, get_or-map}
use Rattle.std.proofs.lemmas.Bool.{cases_Bool, cases_eq}
use Rattle.table.specs.Table.{Table, table, is_table, arc_count, tail_at, head_at, no_arc, most_arcs}
use Rattle.table.specs.Refusals.{Refusal, refusal, no_refusal}
use Rattle.auction.specs.Auction.{State, state, Ended, ended, auction, was_reached, status_at, bound_at, kept_at, distance, iterations}
use Rattle.auction.specs.HandOver.{entries, horizon, reached_count, distances, prices, arc_or_none, tree, mark, marks, first_missing, route_refusal, handed_over, back_from, returned}
use Rattle.auction.specs.Plan.{routes_of}
use Rattle.auction.specs.Demands.{walk_of}
use Rattle.auction.specs.Promises.{last_state}
use Rattle.auction.specs.Absent.{without_absent, place_of, told, told_state, told_end, AuctionWithoutAbsent, AsWithout, PlanWithoutAbsent}
use Rattle.auction.proofs.Good.{Good, good, parts}
use Rattle.auction.proofs.Back.{at_origin, without_entry, one_back}
use Rattle.auction.proofs.Sums.{column}
use Rattle.auction.proofs.Invariant.Counting.{Invariant}
use Rattle.auction.proofs.Walks.{kept_link, tree_origin, tree_unreached}
use Rattle.auction.proofs.Promised.{invariant}
use Rattle.auction.proofs.Without.Places.{spread, same_tail, same_head, same_present, place_there, place_listed, place_in, tail_there, no_place, closed_good}
use Rattle.auction.proofs.Without.Told.{told_kept, told_is_kept}
use Rattle.auction.proofs.Without.Runs.{placed, auction_without_absent}
use Rattle.auction.proofs.Without.Scans.{told_scans}

-- THE REFUSAL "no route" is the same, however kept arcs are told
told_missing : (f : ℕ → ℕ) (i : ℕ) (ws : List ℕ) (x : State) → first_missing i ws (told_state f x) ≡ first_missing i ws x
unfolding first_missing was_reached status_at told_state state
told_missing f i [] x = refl
told_missing f i (w ∷ ws) x = ap (λ (m : ℕ). cond (was_reached x w) m i) (told_missing f (suc i) ws x)

told_refusal : (f : ℕ → ℕ) (ws : List ℕ) (e : Ended) → route_refusal ws (told_end f e) ≡ route_refusal ws e
unfolding route_refusal told_end ended
told_refusal f ws e = ap (λ (m : ℕ). cond e.routed no_refusal (refusal 8 m)) (told_missing f 0 ws e.last)

-- a column of entries that are told
told_entries : (f : ℕ → ℕ) (k v : ℕ) (h h' : ℕ → ℕ) → ((w : ℕ) → h w ≡ f (h' w)) → entries k v h ≡ map f (entries k v h')
unfolding entries
told_entries f zero v h h' e = refl
told_entries f (suc k) v h h' e = rw (e v, told_entries f k (suc v) h h' e)

-- the entry for a node in the tree column
link_entry : State → (v : ℕ) → ℕ
link_entry x v = cond (was_reached x v) (arc_or_none (kept_at x v)) no_arc

module _ (t : Table) where
  abbrev s : Table
  s = without_absent t

  -- THE MARK of an arc
  told_mark : (x : State) (k : ℕ) → mark t (told_state (spread t.arcs) x) (spread t.arcs k) ≡ mark s x k
  unfolding mark was_reached status_at told_state state
  told_mark x k =
      rw (
        same_present t k,
        same_head t k,
        same_tail t k,
        told_kept (spread t.arcs) x (head_at s k),
        told_is_kept t x (told_state (spread t.arcs) x) k (kept_at x (head_at s k)),
      )

  module _ (few : arc_count t ≤ most_arcs) where
    -- THE TREE COLUMN: each entry is the place of the other's, and no arc stays no arc
    told_link : (o : Option ℕ) → arc_or_none (told (place_of t) o) ≡ place_of t (arc_or_none o)
    unfolding arc_or_none told
    told_link none = sym (no_place t few)
    told_link (some k) = refl

    told_link_entry : (x : State) (v : ℕ) → link_entry (told_state (place_of t) x) v ≡ place_of t (link_entry x v)
    unfolding link_entry was_reached status_at told_state state
    told_link_entry x v =
        ⊎_elim (λ (r : was_reached x v ≡ true). rw (r, told_kept (place_of t) x v) (told_link (kept_at x v)))
        (λ (r : was_reached x v ≡ false). rw r (sym (no_place t few)))
        (cases_Bool (was_reached x v))

    told_tree : (x : State) → tree t (told_state (place_of t) x) ≡ map (place_of t) (tree s x)
    unfolding tree link_entry without_absent table
    told_tree x = told_entries (place_of t) t.n 0 (link_entry (told_state (place_of t) x)) (link_entry x) (told_link_entry x)

    -- THE WALKS that go back over it
    module _ (ts : List ℕ) (listed : (v : ℕ) → (get_or ts v no_arc ≡ no_arc) ⊎ (get_or ts v no_arc < arc_count s)) where
      told_entry : (v : ℕ) → get_or (map (place_of t) ts) v no_arc ≡ place_of t (get_or ts v no_arc)
      told_entry v = ap (get_or (map (place_of t) ts) v) (sym (no_place t few)) ∙ get_or-map (place_of t) ts v no_arc

      told_back : (k v : ℕ) (is : List ℕ) → back_from k t (map (place_of t) ts) v (map (place_of t) is) ≡ map (place_of t) (back_from k s ts v is)
      unfolding back_from without_absent table
      told_back zero v is = refl
      told_back (suc k) v is =
          let ts' = map (place_of t) ts in
          let is' = map (place_of t) is in
          let i = get_or ts v no_arc in
          ⊎_elim
          (λ (o : v ≡ t.origin). at_origin t ts' (suc k) v is' o ∙ ap (map (place_of t)) (sym (at_origin s ts (suc k) v is o)))
          (λ (d : v ≡ t.origin → ⊥).
          ⊎_elim
          (λ (z : i ≡ no_arc).
          without_entry t ts' (suc k) v is' (told_entry v ∙ ap (place_of t) z ∙ no_place t few)
          ∙ ap (map (place_of t)) (sym (without_entry s ts (suc k) v is z)))
          (λ (h : i < arc_count s).
          let in_table = place_in t i h in
          let found : get_or ts' v no_arc ≡ no_arc → ⊥ = λ z. omega (arith, z, told_entry v, in_table, few) in
          let found' : i ≡ no_arc → ⊥ = λ z. omega (arith, ap (place_of t) z, no_place t few, in_table, few) in
          one_back t ts' k v is' d found
          ∙ ap (λ (j : ℕ). back_from k t ts' (tail_at t j) (j ∷ is')) (told_entry v)
          ∙ ap (λ (u : ℕ). back_from k t ts' u (place_of t i ∷ is')) (tail_there t i h)
          ∙ told_back k (tail_at s i) (i ∷ is)
          ∙ ap (map (place_of t)) (sym (one_back s ts k v is d found')))
          (listed v))
          (cases_eq v t.origin)

  -- ALL THAT THE LAST STATE of the run hands over
  module _ (ws : List ℕ) (e : is_table t ws ≡ true) where
    abbrev few : arc_count t ≤ most_arcs
    few = (parts t ws e).few_arcs

    abbrev e' : is_table s ws ≡ true
    e' = closed_good t ws e

    abbrev g : Good s
    g = good s ws e'

    abbrev x : State
    x = last_state s ws

    abbrev i : Invariant s x
    i = invariant s ws e'

    abbrev y : State
    y = told_state (place_of t) x

    -- an entry of its tree column is no arc, or one of the table without the absent arcs
    entry_listed : (v : ℕ) → (get_or (tree s x) v no_arc ≡ no_arc) ⊎ (get_or (tree s x) v no_arc < arc_count s)
    entry_listed v =
        ⊎_elim
        (λ (r : was_reached x v ≡ true).
        ⊎_elim (λ (o : v ≡ s.origin). inl (ap (λ (u : ℕ). get_or (tree s x) u no_arc) o ∙ tree_origin s g x i.depth i.sound))
        (λ (d : v ≡ s.origin → ⊥). let l = kept_link s g x i.depth i.sound v r d in inr (omega (arith, l.entry, l.arc.listed)))
        (cases_eq v s.origin))
        (λ (r : was_reached x v ≡ false). inl (tree_unreached s g x i.depth i.sound v r))
        (cases_Bool (was_reached x v))

    told_walk : (v : ℕ) → returned t (tree t y) v ≡ map (place_of t) (returned s (tree s x) v)
    unfolding returned without_absent table
    told_walk v =
        ap (λ (ts : List ℕ). back_from t.n t ts v []) (told_tree few x) ∙ told_back few (tree s x) entry_listed t.n v []

    told_marks : (k : ℕ) → k < arc_count s → get_or (marks t y) (place_of t k) 0 ≡ get_or (marks s x) k 0
    unfolding marks
    told_marks k h =
        let there = place_there t k h in
        ap (λ (p : ℕ). get_or (marks t y) p 0) there
        ∙ column (arc_count t) (spread t.arcs k) (mark t y) 0 (place_listed t k h)
        ∙ ap (λ (z : State). mark t z (spread t.arcs k)) (sym (placed t g x i))
        ∙ told_mark x k
        ∙ sym (column (arc_count s) k (mark s x) 0 h)

    as_without : AsWithout t (handed_over t ws (told_end (place_of t) (auction s ws))) (handed_over s ws (auction s ws))
    unfolding handed_over walk_of told_end ended last_state reached_count horizon distances prices iterations was_reached status_at distance bound_at told_state state without_absent table
    as_without =
        let same = told_refusal (place_of t) ws (auction s ws) in
        record {
          number = ap (λ (r : Refusal). r.number) same;
          place = ap (λ (r : Refusal). r.place) same;
          reached = refl;
          horizon = refl;
          iterations = refl;
          contractions = refl;
          extensions = refl;
          deletions = refl;
          scans = told_scans t g (iterations x);
          distances = refl;
          prices = refl;
          links = told_tree few x;
          walks = told_walk;
          marks = told_marks;
        }

-- THE PROMISE
pub plan_without_absent : PlanWithoutAbsent
unfolding PlanWithoutAbsent AuctionWithoutAbsent routes_of
plan_without_absent t ws e =
    let s = without_absent t in
    subst (λ (f : Ended). AsWithout t (handed_over t ws f) (routes_of s ws)) (sym (auction_without_absent t ws e)) (as_without t ws e)
