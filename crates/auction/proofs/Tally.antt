-- What a sound state says of marks: each arc has one of the four, and each reached node but the origin has one arc of mark 3, its kept arc. Assumes
-- nothing.
use mathlib.Core.Path.{◌≡◌, refl, sym, ap, ◌∙◌}
use mathlib.Core.Bool.{Bool, true, false, ◌&&◌, cond}
use mathlib.Core.Logic.{⊎_elim}
use mathlib.Core.Option.{none, some}
use Prim.Native.Nat.{ℕ, suc, ◌+◌, ◌<◌}
use native.Mathlib.Omega.{arith}
use Rattle.std.proofs.lemmas.Bool.{and_right, cases_Bool, cases_eq, false_from_ne_true}
use Rattle.table.specs.Table.{Table, arc_count, present_at, tail_at, head_at, no_distance}
use Rattle.auction.specs.Auction.{State, was_reached, distance, kept_at, is_kept, status_at}
use Rattle.auction.specs.HandOver.{how_many, mark_number, mark, marks, distances, reached_count}
use Rattle.table.proofs.Basics.{option_or, some_none, some_same}
use Rattle.table.proofs.Present.{absent_tail}
use Rattle.auction.proofs.Sums.{total, total_same, total_add, total_const, total_only, total_one, total_exchange, how_many_total, only_at, only_same, only_other}
use Rattle.auction.proofs.Good.{Good}
use Rattle.auction.proofs.Steps.Effects.{estimate, status_in, reached_status, unreached_status}
use Rattle.auction.proofs.Steps.Bids.{kept_test, test_kept}
use Rattle.auction.proofs.Invariant.Sound.{Nodes, Sound, one_if_reached, reached_one, unreached_none, reached_total}

-- 1 for a number from 0 to 3, as a mark is
abbrev one_if_mark : (a : ℕ) → ℕ
one_if_mark a = only_at 0 1 a + only_at 1 1 a + only_at 2 1 a + only_at 3 1 a

one_of_four : (into from kept : Bool) → one_if_mark (mark_number into from kept) ≡ 1
unfolding mark_number only_at
one_of_four true from true = refl
one_of_four true from false = refl
one_of_four false true true = refl
one_of_four false true false = refl
one_of_four false false kept = refl

-- a mark is 3 just where the head was reached and keeps the arc
three_if_kept : (into from kept : Bool) → cond (into && kept) 1 0 ≡ only_at 3 1 (mark_number into from kept)
unfolding mark_number only_at
three_if_kept true from true = refl
three_if_kept true from false = refl
three_if_kept false true true = refl
three_if_kept false true false = refl
three_if_kept false false kept = refl

-- the entry for a node in the column of distances
unfoldable pub distance_entry : State → (v : ℕ) → ℕ
distance_entry x v = cond (was_reached x v) (distance x v) no_distance

module _ (t : Table) (x : State) where
  -- 1 where the arc has this mark
  marked : (a i : ℕ) → ℕ
  marked a i = only_at a 1 (mark t x i)

  marks_total : (a : ℕ) → how_many a (marks t x) ≡ total (arc_count t) (marked a)
  unfolding marks marked
  marks_total a = how_many_total (arc_count t) a (mark t x)

  -- the mark of a present arc, and of an absent one
  present_mark : (i : ℕ) → present_at t i ≡ true →
      mark t x i ≡ mark_number (was_reached x (head_at t i)) (was_reached x (tail_at t i)) (is_kept x i (kept_at x (head_at t i)))
  unfolding mark
  present_mark i p = rw p

  pub absent_mark : (i : ℕ) → present_at t i ≡ false → mark t x i ≡ 1
  unfolding mark
  absent_mark i p = rw p

  one_mark : (i : ℕ) → marked 0 i + marked 1 i + marked 2 i + marked 3 i ≡ 1
  unfolding marked only_at
  one_mark i =
      ⊎_elim
      (λ (p : present_at t i ≡ true).
      rw (present_mark i p) (one_of_four (was_reached x (head_at t i)) (was_reached x (tail_at t i)) (is_kept x i (kept_at x (head_at t i)))))
      (λ (p : present_at t i ≡ false). rw (absent_mark i p))
      (cases_Bool (present_at t i))

  -- ALL ARCS have one of the four marks
  pub marks_all : how_many 0 (marks t x) + how_many 1 (marks t x) + how_many 2 (marks t x) + how_many 3 (marks t x) ≡ arc_count t
  marks_all =
      let m = arc_count t in
      let two = total_add m (marked 0) (marked 1) in
      let three = total_add m (λ i. marked 0 i + marked 1 i) (marked 2) in
      let four = total_add m (λ i. marked 0 i + marked 1 i + marked 2 i) (marked 3) in
      let ones = total_same m (λ i. marked 0 i + marked 1 i + marked 2 i + marked 3 i) (λ i. 1) (λ i l. one_mark i) in
      omega (arith, marks_total 0, marks_total 1, marks_total 2, marks_total 3, two, three, four, ones, total_const m 1)

module _ (t : Table) (g : Good t) (x : State) (dep : ℕ → ℕ) (s : Sound t x dep) where
  abbrev nodes : Nodes t x dep
  nodes = s.nodes

  -- 1 where v was reached and keeps the arc
  tree_arc : (i v : ℕ) → ℕ
  tree_arc i v = cond (was_reached x v && is_kept x i (kept_at x v)) 1 0

  kept_here : (i v : ℕ) → was_reached x v ≡ true → kept_at x v ≡ some i → tree_arc i v ≡ 1
  unfolding tree_arc
  kept_here i v r e = rw (r, test_kept x i (kept_at x v) e)

  not_kept : (i v : ℕ) → (kept_at x v ≡ some i → ⊥) → tree_arc i v ≡ 0
  unfolding tree_arc
  not_kept i v h =
      let k = false_from_ne_true (is_kept x i (kept_at x v)) (λ q. h (kept_test x i (kept_at x v) q)) in
      ap (λ (b : Bool). cond b 1 0) (and_right (was_reached x v) (is_kept x i (kept_at x v)) k)

  -- FOR ONE ARC: an absent arc is not kept, since a kept one leaves a node,
  pub absent_unkept : (i v : ℕ) → present_at t i ≡ false → kept_at x v ≡ some i → ⊥
  absent_unkept i v p k =
      omega (arith, absent_tail t i p, status_in (tail_at t i) nodes.sizes (nodes.kept v i k).from_reached, g.few_nodes)

  -- and only its head can keep an arc, and does just where the mark is 3
  at_head : (i : ℕ) → tree_arc i (head_at t i) ≡ marked t x 3 i
  unfolding tree_arc marked only_at
  at_head i =
      ⊎_elim
      (λ (p : present_at t i ≡ true).
      rw (present_mark t x i p) (three_if_kept (was_reached x (head_at t i)) (was_reached x (tail_at t i)) (is_kept x i (kept_at x (head_at t i)))))
      (λ (p : present_at t i ≡ false). not_kept i (head_at t i) (absent_unkept i (head_at t i) p) ∙ sym (ap (only_at 3 1) (absent_mark t x i p)))
      (cases_Bool (present_at t i))

  one_head : (i v : ℕ) → tree_arc i v ≡ only_at (head_at t i) (marked t x 3 i) v
  one_head i v =
      let j = head_at t i in
      let z = marked t x 3 i in
      ⊎_elim (λ (e : v ≡ j). ap (tree_arc i) e ∙ at_head i ∙ sym (only_same j z v e))
      (λ (d : v ≡ j → ⊥). not_kept i v (λ q. d (sym (nodes.kept v i q).into)) ∙ sym (only_other j z v d))
      (cases_eq v j)

  by_arc : (i : ℕ) → i < arc_count t → total t.n (tree_arc i) ≡ marked t x 3 i
  by_arc i h =
      let j = head_at t i in
      let z = marked t x 3 i in
      total_same t.n (tree_arc i) (only_at j z) (λ v l. one_head i v) ∙ total_only t.n j z (g.head_in i h)

  -- FOR ONE NODE: the number of its tree arcs
  tree_arcs : (v : ℕ) → ℕ
  tree_arcs v = total (arc_count t) (λ i. tree_arc i v)

  no_tree_arc : (v : ℕ) → ((i : ℕ) → tree_arc i v ≡ 0) → tree_arcs v ≡ 0
  unfolding tree_arcs
  no_tree_arc v h =
      omega (arith, total_same (arc_count t) (λ i. tree_arc i v) (λ i. 0) (λ i l. h i), total_const (arc_count t) 0)

  -- an unreached node has none,
  unreached_arcs : (v : ℕ) → was_reached x v ≡ false → tree_arcs v ≡ 0
  unfolding tree_arc
  unreached_arcs v r = no_tree_arc v (λ i. rw r)

  -- and so has a node that keeps no arc;
  unkept_arcs : (v : ℕ) → kept_at x v ≡ none → tree_arcs v ≡ 0
  unkept_arcs v k = no_tree_arc v (λ i. not_kept i v (λ q. some_none q k))

  -- a reached node that keeps one has just that one
  kept_one : (v k i : ℕ) → was_reached x v ≡ true → kept_at x v ≡ some k → tree_arc i v ≡ only_at k 1 i
  kept_one v k i r e =
      ⊎_elim (λ (q : i ≡ k). kept_here i v r (e ∙ ap some (sym q)) ∙ sym (only_same k 1 i q))
      (λ (d : i ≡ k → ⊥). not_kept i v (λ q. d (some_same q e)) ∙ sym (only_other k 1 i d))
      (cases_eq i k)

  kept_arcs : (v k : ℕ) → was_reached x v ≡ true → kept_at x v ≡ some k → tree_arcs v ≡ 1
  unfolding tree_arcs
  kept_arcs v k r e =
      let one = total_only (arc_count t) k 1 (nodes.kept v k e).listed in
      total_same (arc_count t) (λ i. tree_arc i v) (only_at k 1) (λ i l. kept_one v k i r e) ∙ one

  reached_arcs : (v : ℕ) → was_reached x v ≡ true → (v ≡ t.origin → ⊥) → tree_arcs v ≡ 1
  reached_arcs v r d =
      ⊎_elim (λ (e : kept_at x v ≡ none). absurd (omega (arith, reached_status x v r, nodes.unbounded v (nodes.unkept v e d))))
      (λ (e : (k : ℕ) × (kept_at x v ≡ some k)). kept_arcs v e.0 r e.1)
      (option_or (kept_at x v))

  -- so every node has as many as it was reached, but the origin one less
  of_reached : (v : ℕ) → was_reached x v ≡ true → tree_arcs v + only_at t.origin 1 v ≡ one_if_reached x v
  of_reached v r =
      let one = reached_one x v (reached_status x v r) in
      ⊎_elim
      (λ (e : v ≡ t.origin). omega (arith, one, unkept_arcs v (ap (kept_at x) e ∙ nodes.origin_kept), only_same t.origin 1 v e))
      (λ (d : v ≡ t.origin → ⊥). omega (arith, one, reached_arcs v r d, only_other t.origin 1 v d))
      (cases_eq v t.origin)

  of_unreached : (v : ℕ) → was_reached x v ≡ false → tree_arcs v + only_at t.origin 1 v ≡ one_if_reached x v
  of_unreached v r =
      let z = unreached_status x v r in
      let d : v ≡ t.origin → ⊥ = λ e. omega (arith, z, ap (status_at x) e, nodes.origin_status) in
      omega (arith, unreached_arcs v r, unreached_none x v z, only_other t.origin 1 v d)

  by_node : (v : ℕ) → tree_arcs v + only_at t.origin 1 v ≡ one_if_reached x v
  by_node v = ⊎_elim (of_reached v) (of_unreached v) (cases_Bool (was_reached x v))

  -- THE TREE ARCS are as many as the reached nodes but the origin: both count where a reached node keeps an arc
  pub marks_tree : suc (how_many 3 (marks t x)) ≡ reached_count t x
  unfolding tree_arcs
  marks_tree =
      let arcs = total_same (arc_count t) (λ i. total t.n (tree_arc i)) (marked t x 3) by_arc in
      let ends = total_same t.n (λ v. tree_arcs v + only_at t.origin 1 v) (one_if_reached x) (λ v l. by_node v) in
      let but_origin = total_one t.n tree_arcs t.origin 1 g.origin_in in
      omega (arith, marks_total t x 3, arcs, total_exchange (arc_count t) t.n tree_arc, ends, but_origin, reached_total t x)

  -- ALL NODES are reached or have the entry 2⁶⁴ − 1 in the column of distances, and no node both
  pub not_no_distance : (v : ℕ) → distance x v ≡ no_distance → ⊥
  unfolding estimate
  not_no_distance v e = omega (arith, e, nodes.small_estimate v, g.few_nodes)

  without : (v : ℕ) → ℕ
  without v = only_at no_distance 1 (distance_entry x v)

  reached_or_without : (v : ℕ) → one_if_reached x v + without v ≡ 1
  unfolding one_if_reached distance_entry without
  reached_or_without v =
      ⊎_elim (λ (r : was_reached x v ≡ true). rw r (omega (arith, only_other no_distance 1 (distance x v) (not_no_distance v))))
      (λ (r : was_reached x v ≡ false). rw r (omega (arith, only_same no_distance 1 no_distance refl)))
      (cases_Bool (was_reached x v))

  pub reached_all : reached_count t x + how_many no_distance (distances t x) ≡ t.n
  unfolding distances distance_entry without
  reached_all =
      let apart = total_add t.n (one_if_reached x) without in
      let ones = total_same t.n (λ v. one_if_reached x v + without v) (λ v. 1) (λ v l. reached_or_without v) in
      let counted = how_many_total t.n no_distance (distance_entry x) in
      omega (arith, reached_total t x, counted, apart, ones, total_const t.n 1)
