-- Where the present arcs of a table stand, and the table without its absent arcs: it is one of which everything is promised. Assumes nothing.
use mathlib.Core.Path.{◌≡◌, refl, sym, ap, subst, ◌∙◌}
use mathlib.Core.Bool.{true, false, cond}
use mathlib.Core.List.{List, [], ◌∷◌}
use mathlib.Core.Logic.{⊎_elim}
use Prim.Native.Nat.{ℕ, zero, suc, ◌+◌, ◌≤◌, ◌<◌}
use native.Mathlib.Omega.{arith}
use lib.Dec.{ltb, eqb}
use lib.ListN.{length, get_or, get_or-eq_default}
use borrow.Author.Tests.{lt-ltb, le-ltb, le-leb, eq-eqb, ne_eqb}
use Rattle.std.proofs.lemmas.Bool.{and_from, and_parts, cases_Bool, cases_eq, cases_lt}
use Rattle.table.specs.Table.{Arc, Table, table, arc, is_table, arc_good, arcs_good, arc_count, arc_at, present, present_at, tail_at, head_at, length_at, no_arc, most_nodes, most_arcs, most_wanted}
use Rattle.auction.specs.Absent.{present_arcs, without_absent, present_from, place_of, AbsentClosedUp}
use Rattle.auction.proofs.Good.{parts}

-- THE PLACE of the k-th present arc in a list. Past the last present arc it goes on counting, so that it rises for every k.
later : (ℕ → ℕ) → ℕ → ℕ
later f zero = 0
later f (suc k) = suc (f k)

pub spread : List Arc → ℕ → ℕ
spread [] k = k
spread (a ∷ more) k = cond (present a) (later (spread more) k) (suc (spread more k))

-- a list whose first arc is present, or absent
module _ (a : Arc) (more : List Arc) (p : present a ≡ true) where
  pub first_place : spread (a ∷ more) 0 ≡ 0
  unfolding spread later
  first_place = rw p

  pub later_place : (k : ℕ) → spread (a ∷ more) (suc k) ≡ suc (spread more k)
  unfolding spread later
  later_place k = rw p

module _ (a : Arc) (more : List Arc) (p : present a ≡ false) where
  pub place_past : (k : ℕ) → spread (a ∷ more) k ≡ suc (spread more k)
  unfolding spread
  place_past k = rw p

-- PLACES RISE, so that they compare as their numbers do
rising : (l : List Arc) (j k : ℕ) → j < k → spread l j < spread l k
unfolding spread later
rising [] j k h = h
rising (a ∷ more) j zero h = absurd (omega (arith, h))
rising (a ∷ more) zero (suc k) h =
    ⊎_elim (λ (p : present a ≡ true). rw p (omega arith)) (λ (p : present a ≡ false). rw p (omega (arith, rising more 0 (suc k) h)))
    (cases_Bool (present a))
rising (a ∷ more) (suc j) (suc k) h =
    ⊎_elim (λ (p : present a ≡ true). rw p (omega (arith, rising more j k (omega (arith, h)))))
    (λ (p : present a ≡ false). rw p (omega (arith, rising more (suc j) (suc k) h)))
    (cases_Bool (present a))

module _ (l : List Arc) (j k : ℕ) where
  pub same_order : ltb (spread l j) (spread l k) ≡ ltb j k
  same_order =
      ⊎_elim (λ (h : j < k). lt-ltb (spread l j) (spread l k) (rising l j k h) ∙ sym (lt-ltb j k h))
      (λ (h : k ≤ j).
      let up : spread l k ≤ spread l j =
      ⊎_elim (λ (e : k ≡ j). omega (arith, ap (spread l) e)) (λ (d : k ≡ j → ⊥). omega (arith, rising l k j (omega (arith, h, d)))) (cases_eq k j) in
      le-ltb (spread l j) (spread l k) up ∙ sym (le-ltb j k h))
      (cases_lt j k)

  pub same_equal : eqb (spread l j) (spread l k) ≡ eqb j k
  same_equal =
      ⊎_elim (λ (e : j ≡ k). eq-eqb (spread l j) (spread l k) (ap (spread l) e) ∙ sym (eq-eqb j k e))
      (λ (d : j ≡ k → ⊥).
      let apart : spread l j ≡ spread l k → ⊥ =
      λ e.
      ⊎_elim (λ (h : j < k). omega (arith, e, rising l j k h)) (λ (h : k ≤ j). omega (arith, e, rising l k j (omega (arith, h, d)))) (cases_lt j k) in
      ne_eqb (spread l j) (spread l k) apart ∙ sym (ne_eqb j k d))
      (cases_eq j k)

-- THE ARC at the place is the k-th present one; past the last there is none, here and there
arc_there : (l : List Arc) (k : ℕ) (d : Arc) → get_or l (spread l k) d ≡ get_or (present_arcs l) k d
unfolding spread later present_arcs
arc_there [] k d = refl
arc_there (a ∷ more) zero d =
    ⊎_elim (λ (p : present a ≡ true). rw p) (λ (p : present a ≡ false). rw p (arc_there more 0 d)) (cases_Bool (present a))
arc_there (a ∷ more) (suc k) d =
    ⊎_elim (λ (p : present a ≡ true). rw p (arc_there more k d)) (λ (p : present a ≡ false). rw p (arc_there more (suc k) d)) (cases_Bool (present a))

-- it is present,
present_there : (l : List Arc) (k : ℕ) (d : Arc) → k < length (present_arcs l) → present (get_or (present_arcs l) k d) ≡ true
unfolding present_arcs
present_there [] k d h = absurd (omega (arith, h))
present_there (a ∷ more) zero d h =
    ⊎_elim (λ (p : present a ≡ true). rw p p) (λ (p : present a ≡ false). rw p (present_there more 0 d (rw p at h))) (cases_Bool (present a))
present_there (a ∷ more) (suc k) d h =
    ⊎_elim
    (λ (p : present a ≡ true).
    let l : suc k < suc (length (present_arcs more)) = rw p at h in
    rw p (present_there more k d (omega (arith, l))))
    (λ (p : present a ≡ false). rw p (present_there more (suc k) d (rw p at h)))
    (cases_Bool (present a))

-- and stands in the list
listed_there : (l : List Arc) (k : ℕ) → k < length (present_arcs l) → spread l k < length l
unfolding spread later present_arcs
listed_there [] k h = h
listed_there (a ∷ more) zero h =
    ⊎_elim (λ (p : present a ≡ true). rw p (omega arith)) (λ (p : present a ≡ false). rw p (omega (arith, listed_there more 0 (rw p at h))))
    (cases_Bool (present a))
listed_there (a ∷ more) (suc k) h =
    ⊎_elim
    (λ (p : present a ≡ true).
    let l : suc k < suc (length (present_arcs more)) = rw p at h in
    rw p (omega (arith, listed_there more k (omega (arith, l)))))
    (λ (p : present a ≡ false). rw p (omega (arith, listed_there more (suc k) (rw p at h))))
    (cases_Bool (present a))

-- each present arc of the list has a number
every_there : (l : List Arc) (i : ℕ) (d : Arc) → i < length l → present (get_or l i d) ≡ true →
    (k : ℕ) × (k < length (present_arcs l)) × (spread l k ≡ i)
unfolding spread later present_arcs
every_there [] i d h q = absurd (omega (arith, h))
every_there (a ∷ more) zero d h q = (0, rw q (omega arith), rw q)
every_there (a ∷ more) (suc i) d h q =
    let r = every_there more i d (omega (arith, h)) q in
    ⊎_elim (λ (p : present a ≡ true). (suc r.0, rw p (omega (arith, r.1)), rw p (ap suc r.2)))
    (λ (p : present a ≡ false). (r.0, rw p r.1, rw p (ap suc r.2)))
    (cases_Bool (present a))

-- THE LIST OF PLACES holds just these
from_there : (l : List Arc) (i k d : ℕ) → k < length (present_arcs l) → get_or (present_from i l) k d ≡ i + spread l k
unfolding spread later present_arcs present_from
from_there [] i k d h = absurd (omega (arith, h))
from_there (a ∷ more) i zero d h =
    ⊎_elim (λ (p : present a ≡ true). rw p (omega arith)) (λ (p : present a ≡ false). rw p (omega (arith, from_there more (suc i) 0 d (rw p at h))))
    (cases_Bool (present a))
from_there (a ∷ more) i (suc k) d h =
    ⊎_elim
    (λ (p : present a ≡ true).
    let l : suc k < suc (length (present_arcs more)) = rw p at h in
    rw p (omega (arith, from_there more (suc i) k d (omega (arith, l)))))
    (λ (p : present a ≡ false). rw p (omega (arith, from_there more (suc i) (suc k) d (rw p at h))))
    (cases_Bool (present a))

from_count : (l : List Arc) (i : ℕ) → length (present_from i l) ≡ length (present_arcs l)
unfolding present_arcs present_from
from_count [] i = refl
from_count (a ∷ more) i =
    ⊎_elim (λ (p : present a ≡ true). rw p (ap suc (from_count more (suc i)))) (λ (p : present a ≡ false). rw p (from_count more (suc i)))
    (cases_Bool (present a))

-- THE PRESENT ARCS are not more, and as good
not_more : (l : List Arc) → length (present_arcs l) ≤ length l
unfolding present_arcs
not_more [] = omega arith
not_more (a ∷ more) =
    ⊎_elim (λ (p : present a ≡ true). rw p (omega (arith, not_more more))) (λ (p : present a ≡ false). rw p (omega (arith, not_more more)))
    (cases_Bool (present a))

as_good : (n : ℕ) (l : List Arc) → arcs_good n l ≡ true → arcs_good n (present_arcs l) ≡ true
unfolding present_arcs arcs_good
as_good n [] e = refl
as_good n (a ∷ more) e =
    let q = and_parts (arc_good n a) (arcs_good n more) e in
    ⊎_elim (λ (p : present a ≡ true). rw p (and_from (arc_good n a) (arcs_good n (present_arcs more)) q.0 (as_good n more q.1)))
    (λ (p : present a ≡ false). rw p (as_good n more q.1))
    (cases_Bool (present a))

-- THE SAME OF A TABLE
module _ (t : Table) where
  abbrev s : Table
  s = without_absent t

  -- the arc at a place
  pub same_arc : (k : ℕ) → arc_at t (spread t.arcs k) ≡ arc_at s k
  unfolding arc_at without_absent table
  same_arc k = arc_there t.arcs k (arc no_arc no_arc 0)

  pub same_tail : (k : ℕ) → tail_at t (spread t.arcs k) ≡ tail_at s k
  unfolding tail_at present_at
  same_tail k = rw (same_arc k)

  pub same_head : (k : ℕ) → head_at t (spread t.arcs k) ≡ head_at s k
  unfolding head_at
  same_head k = ap (λ (a : Arc). a.head) (same_arc k)

  pub same_length : (k : ℕ) → length_at t (spread t.arcs k) ≡ length_at s k
  unfolding length_at
  same_length k = ap (λ (a : Arc). a.arc_length) (same_arc k)

  pub same_present : (k : ℕ) → present_at t (spread t.arcs k) ≡ present_at s k
  unfolding present_at
  same_present k = ap present (same_arc k)

  -- an arc of the table without its absent arcs has its place in the list of places, and no arc has none
  pub place_there : (k : ℕ) → k < arc_count s → place_of t k ≡ spread t.arcs k
  unfolding place_of arc_count without_absent table
  place_there k h = omega (arith, from_there t.arcs 0 k no_arc h)

  pub no_place : arc_count t ≤ most_arcs → place_of t no_arc ≡ no_arc
  unfolding place_of arc_count
  no_place few = get_or-eq_default (present_from 0 t.arcs) no_arc (omega (arith, few, from_count t.arcs 0, not_more t.arcs))

  pub place_listed : (k : ℕ) → k < arc_count s → spread t.arcs k < arc_count t
  unfolding arc_count without_absent table
  place_listed k h = listed_there t.arcs k h

  -- so the arc at its place stands in the table, with the same ends and the same length
  module _ (k : ℕ) (h : k < arc_count s) where
    pub place_in : place_of t k < arc_count t
    place_in = subst (λ (i : ℕ). i < arc_count t) (sym (place_there k h)) (place_listed k h)

    pub tail_there : tail_at t (place_of t k) ≡ tail_at s k
    tail_there = ap (tail_at t) (place_there k h) ∙ same_tail k

    pub head_there : head_at t (place_of t k) ≡ head_at s k
    head_there = ap (head_at t) (place_there k h) ∙ same_head k

    pub length_there : length_at t (place_of t k) ≡ length_at s k
    length_there = ap (length_at t) (place_there k h) ∙ same_length k

  -- all its arcs are present, and each present arc of the table is one of them
  all_present : (k : ℕ) → k < arc_count s → present_at s k ≡ true
  unfolding present_at arc_at arc_count without_absent table
  all_present k h = present_there t.arcs k (arc no_arc no_arc 0) h

  pub every : (i : ℕ) → i < arc_count t → present_at t i ≡ true → (k : ℕ) × (k < arc_count s) × (place_of t k ≡ i)
  unfolding present_at arc_at arc_count without_absent table
  every i h p =
      let r = every_there t.arcs i (arc no_arc no_arc 0) h p in
      (r.0, r.1, place_there r.0 r.1 ∙ r.2)

  -- it is a table of which everything is promised
  pub closed_good : (ws : List ℕ) → is_table t ws ≡ true → is_table s ws ≡ true
  unfolding is_table arc_count without_absent table
  closed_good ws e =
      let p = parts t ws e in
      let few : length (present_arcs t.arcs) ≤ most_arcs = omega (arith, p.few_arcs, not_more t.arcs) in
      rw (
        le-leb 1 t.n p.some_node,
        le-leb t.n most_nodes p.few_nodes,
        lt-ltb t.origin t.n p.origin_in,
        le-leb (length (present_arcs t.arcs)) most_arcs few,
        as_good t.n t.arcs p.arcs,
        le-leb (length ws) most_wanted p.few_wanted,
        p.wanted,
      )

-- THE PROMISE: the table without its absent arcs holds just the present arcs, in their order
pub absent_closed_up : AbsentClosedUp
unfolding AbsentClosedUp
absent_closed_up t ws e =
    let s = without_absent t in
    record {
      good = closed_good t ws e;
      all_present = all_present t;
      listed = place_in t;
      same_arc = λ k h. ap (arc_at t) (place_there t k h) ∙ same_arc t k;
      ascending =
          λ j k h l. omega (arith, place_there t j (omega (arith, h, l)), place_there t k l, rising t.arcs j k h);
      every = every t;
      no_place = no_place t (parts t ws e).few_arcs;
    }
