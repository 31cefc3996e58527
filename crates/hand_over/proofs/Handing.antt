-- The entries that the code makes are the definition's. Assumes nothing.
use mathlib.Core.Path.{◌≡◌, sym, ap, ap₂, subst, ◌∙◌}
use mathlib.Core.Bool.{Bool, true, false, cond}
use mathlib.Core.List.{List, map}
use mathlib.Core.Logic.{⊎_elim}
use Prim.Native.Nat.{ℕ, ◌-◌, ◌≤◌, ◌<◌, max}
use native.Mathlib.Omega.{arith}
use lib.Dec.{ltb, eqb}
use lib.ListN.{length, get_or}
use borrow.Author.Tests.{ltb-true, lt-ltb, eq-eqb, ne_eqb}
use Rattle.std.specs.List.{reduce, filter, count_by}
use Rattle.std.specs.Option.{unwrap_or}
use Rattle.std.proofs.lemmas.Bool.{cases_Bool, cases_eq}
use Rattle.table.specs.Table.{Table, arc_count, down, no_arc, no_distance}
use Rattle.table.specs.declared.links.Columns.{Columns}
use Rattle.table.specs.Refusals.{Refusal, refusal, no_refusal}
use Rattle.auction.specs.Auction.{State, auction, iterations, was_reached, distance, kept_at, is_kept, unreached}
use Rattle.auction.specs.HandOver.{answer, handed_over, route_refusal, entries, greatest, sum, horizon, reached_count, distances, prices, tree, marks, mark, arc_or_none}
use Rattle.auction.specs.Plan.{routes_of}
use Rattle.table.proofs.Present.{present_tail, down_absent, up_present}
use Rattle.auction.proofs.Sums.{greatest_bound}
use Rattle.steps.specs.declared.state.Node.{Node}
use Rattle.steps.specs.declared.state.Progress.{Progress}
use Rattle.steps.specs.Seen.{arc_of, bounds_in, kepts_in, statuses_in, status_number}
use Rattle.steps.specs.Memory.{node_at}
use Rattle.steps.specs.Steps.{Ran}
use Rattle.steps.proofs.Arrays.{seen_status, seen_distance, seen_kept, some_arc, no_kept}
use Rattle.steps.proofs.Nodes.{as_many, entry, status_is}
use Rattle.hand_over.specs.ReadOff.{Known, ArcEnds, ArcsHeld, NoneFarther, state_in, mark_entry}
use Rattle.hand_over.proofs.Entries.{entries_same, column_so, largest, greatest_passing, count_passing}

-- the test whether a node was reached
abbrev pub is_reached : Node → Bool
is_reached n = ltb unreached (status_number n.status)

-- one entry each, as the code makes it: of a node that was reached, or another
abbrev pub chosen : {A : Type 0} → Node → (reached other : A) → A
chosen n a b = cond (is_reached n) a b

abbrev pub distance_entry : (other : ℕ) → List Node → (v : ℕ) → ℕ
distance_entry other ns v = chosen (node_at v ns) (node_at v ns).bound other

abbrev pub reached_entry : List Node → (v : ℕ) → ℕ
reached_entry ns v = chosen (node_at v ns) 1 0

abbrev pub arc_entry : List Node → (v : ℕ) → ℕ
arc_entry ns v = chosen (node_at v ns) (node_at v ns).kept no_arc

-- the largest bound of the nodes that were reached, and how many they are, are made of such entries
pub largest_reached : (ns : List Node) →
    unwrap_or (reduce max (map (λ n. n.bound) (filter is_reached ns))) 0 ≡ greatest (entries (length ns) 0 (distance_entry 0 ns))
largest_reached ns =
    let bound : Node → ℕ = λ n. chosen n n.bound 0 in
    largest _ ∙ greatest_passing is_reached (λ n. n.bound) ns
    ∙ ap greatest (column_so (map bound ns) (length ns) (distance_entry 0 ns) (as_many bound ns) (λ v l. entry bound ns v))

pub reached_counted : (ns : List Node) → count_by is_reached ns ≡ sum (entries (length ns) 0 (reached_entry ns))
reached_counted ns =
    let one : Node → ℕ = λ n. chosen n 1 0 in
    count_passing is_reached ns ∙ ap sum (column_so (map one ns) (length ns) (reached_entry ns) (as_many one ns) (λ v l. entry one ns v))

-- as the definition has it
module _ (ns : List Node) (path price : List ℕ) (g : Progress) where
  abbrev x : State
  x = state_in ns path price g

  reached_is : (v : ℕ) → was_reached x v ≡ ltb unreached (status_number (node_at v ns).status)
  unfolding was_reached
  reached_is v =
      ap (ltb 0) (seen_status path price (bounds_in ns) (kepts_in ns) (statuses_in ns) g v ∙ status_is ns v)

  kept_is : (v : ℕ) → v < length ns → kept_at x v ≡ arc_of (node_at v ns).kept
  kept_is v h =
      seen_kept path price (bounds_in ns) (kepts_in ns) (statuses_in ns) g v (omega (arith, as_many (λ m. m.kept) ns))
      ∙ ap arc_of (entry (λ m. m.kept) ns v)

  module _ (known : Known ns) where
    distance_so : (other v : ℕ) → v < length ns → distance_entry other ns v ≡ cond (was_reached x v) (distance x v) other
    distance_so other v h =
        let bound = entry (λ m. m.bound) ns v in
        rw (reached_is v)
        (⊎_elim
        (λ (e : ltb unreached (status_number (node_at v ns).status) ≡ true).
        let there = known v (omega (arith, status_is ns v, ltb-true 0 _ e)) in
        rw e
        (sym bound
        ∙ sym (seen_distance path price (bounds_in ns) (kepts_in ns) (statuses_in ns) g v (omega (arith, as_many (λ m. m.bound) ns)) there)))
        (λ (e : ltb unreached (status_number (node_at v ns).status) ≡ false). rw e)
        (cases_Bool (ltb unreached (status_number (node_at v ns).status))))

    pub distances_so : (t : Table) → t.n ≡ length ns → entries (length ns) 0 (distance_entry no_distance ns) ≡ distances t x
    unfolding distances
    distances_so t e = rw e (entries_same (length ns) 0 _ _ (λ v h. distance_so no_distance v (omega arith)))

    pub horizon_so : (t : Table) → t.n ≡ length ns → greatest (entries (length ns) 0 (distance_entry 0 ns)) ≡ horizon t x
    unfolding horizon
    horizon_so t e = rw e (ap greatest (entries_same (length ns) 0 _ _ (λ v h. distance_so 0 v (omega arith))))

    pub prices_so : (t : Table) (h : ℕ) → t.n ≡ length ns → h ≡ horizon t x → entries (length ns) 0 (λ v. h - distance_entry h ns v) ≡ prices t x
    unfolding prices
    prices_so t h e eh =
        rw (← eh, e)
        (entries_same (length ns) 0 _ _
        (λ v l.
        ap (λ m. h - m) (distance_so h v (omega arith))
        ∙ ⊎_elim (λ (r : was_reached x v ≡ true). rw r)
        (λ (r : was_reached x v ≡ false). let z : h - h ≡ 0 = omega arith in rw r z)
        (cases_Bool (was_reached x v))))

  pub count_so : (t : Table) → t.n ≡ length ns → sum (entries (length ns) 0 (reached_entry ns)) ≡ reached_count t x
  unfolding reached_count
  count_so t e = rw e (ap sum (entries_same (length ns) 0 _ _ (λ v h. ap (λ (c : Bool). cond c 1 0) (sym (reached_is v)))))

  arc_back : (a : ℕ) → a ≡ arc_or_none (arc_of a)
  unfolding arc_or_none
  arc_back a = ⊎_elim (λ (z : a ≡ no_arc). rw (no_kept a z) z) (λ (z : a ≡ no_arc → ⊥). rw (some_arc a z)) (cases_eq a no_arc)

  pub tree_so : (t : Table) → t.n ≡ length ns → entries (length ns) 0 (arc_entry ns) ≡ tree t x
  unfolding tree
  tree_so t e =
      rw e
      (entries_same (length ns) 0 _ _
      (λ v h.
      ap₂ (λ (c : Bool) (a : ℕ). cond c a no_arc) (sym (reached_is v)) (arc_back (node_at v ns).kept ∙ ap arc_or_none (sym (kept_is v (omega arith))))))

  kept_so : (i v : ℕ) → v < length ns → (i ≡ no_arc → ⊥) → eqb (get_or (kepts_in ns) v 0) i ≡ is_kept x i (kept_at x v)
  unfolding is_kept
  kept_so i v h d =
      let k = (node_at v ns).kept in
      rw (kept_is v h, entry (λ m. m.kept) ns v)
      (⊎_elim
      (λ (z : k ≡ no_arc). rw (no_kept k z) (ne_eqb k i (λ e. d (sym e ∙ z))))
      (λ (z : k ≡ no_arc → ⊥). rw (some_arc k z))
      (cases_eq k no_arc))

  -- the marks of a table's arcs: an absent arc has mark 1, and a present one leaves its tail
  module _ (t : Table) (c : Columns) (ends : ArcEnds c ns) (arcs : ArcsHeld t c) where
    reached_there : (v : ℕ) → ltb 0 (get_or (statuses_in ns) v 0) ≡ was_reached x v
    reached_there v = ap (ltb 0) (status_is ns v) ∙ sym (reached_is v)

    mark_so : (i : ℕ) → i < length c.heads.now → mark_entry c ns i ≡ mark t x i
    unfolding mark
    mark_so i inside =
        let listed : i < arc_count t = omega (arith, arcs.count) in
        let long = arcs.arc_length i listed in
        let here_length = get_or c.lengths.now i 0 in
        ⊎_elim (λ (z : here_length ≡ down). rw (eq-eqb here_length down z, down_absent t i (long ∙ z)))
        (λ (z : here_length ≡ down → ⊥).
        let here = up_present t i (λ e. z (sym long ∙ e)) in
        let hd = arcs.head i listed in
        let tl = present_tail t i here ∙ arcs.tail i listed in
        let kept = kept_so i (get_or c.heads.now i 0) (ends.head_in i inside) (λ q. omega (arith, c.few, c.heads_are)) in
        rw (ne_eqb here_length down z, here, hd, tl, reached_there (get_or c.heads.now i 0), reached_there (get_or c.tails.now i 0), kept))
        (cases_eq here_length down)

    pub marks_so : entries (length c.heads.now) 0 (mark_entry c ns) ≡ marks t x
    unfolding marks
    marks_so = rw arcs.count (entries_same (length c.heads.now) 0 _ _ (λ i h. mark_so i (omega arith)))

-- no distance is above the horizon
pub below_horizon : (ns : List Node) (h : ℕ) → h ≡ greatest (entries (length ns) 0 (distance_entry 0 ns)) → NoneFarther h ns
below_horizon ns h e v l r =
    let q = greatest_bound (length ns) v (distance_entry 0 ns) l in
    let reached : 0 < status_number (node_at v ns).status = omega (arith, entry (λ m. status_number m.status) ns v) in
    let z : distance_entry 0 ns v ≡ (node_at v ns).bound = rw (lt-ltb 0 _ reached) in
    omega (arith, e, q, z, entry (λ m. m.bound) ns v)

pub not_farther : (ns : List Node) (h : ℕ) → NoneFarther h ns → (v : ℕ) → v < length ns → distance_entry h ns v ≤ h
not_farther ns h above v low =
    let n = node_at v ns in
    ⊎_elim
    (λ (e : ltb unreached (status_number n.status) ≡ true).
    let there = above v low (omega (arith, entry (λ m. status_number m.status) ns v, ltb-true 0 _ e)) in
    rw e (omega (arith, there, entry (λ m. m.bound) ns v)))
    (λ (e : ltb unreached (status_number n.status) ≡ false). rw e (omega arith))
    (cases_Bool (ltb unreached (status_number n.status)))

-- THE WHOLE ANSWER
module _ (t : Table) (ws : List ℕ) (missing scanned : ℕ) (x : State) (ran : Ran t ws (auction t ws) missing scanned x)
    (routed : (auction t ws).routed ≡ eqb missing (length ws)) where
  route_so : (f : Refusal) → f ≡ cond (eqb missing (length ws)) no_refusal (refusal 8 missing) → f ≡ route_refusal ws (auction t ws)
  unfolding route_refusal
  route_so f e =
      rw (routed, ran.last_so) (subst (λ (m : ℕ). f ≡ cond (eqb missing (length ws)) no_refusal (refusal 8 m)) ran.first_so e)

  pub assembled : (f : Refusal) (reached h i c e d : ℕ) (ds ps ts ms : List ℕ) →
      f ≡ cond (eqb missing (length ws)) no_refusal (refusal 8 missing) → reached ≡ reached_count t x → h ≡ horizon t x → i ≡ iterations x →
      c ≡ x.contractions → e ≡ x.extensions → d ≡ x.deletions → ds ≡ distances t x → ps ≡ prices t x → ts ≡ tree t x → ms ≡ marks t x →
      answer f.number f.place reached h i c e d scanned ds ps ts ms ≡ routes_of t ws
  unfolding routes_of handed_over refusal
  assembled f reached h i c e d ds ps ts ms ef er eh ei ec ee ed ads aps ats ams =
      let r = route_so f ef in
      let number : f.number ≡ (route_refusal ws (auction t ws)).number = ap (λ (q : Refusal). q.number) r in
      let place : f.place ≡ (route_refusal ws (auction t ws)).place = ap (λ (q : Refusal). q.place) r in
      rw (number, place, er, eh, ei, ec, ee, ed, ran.scans_so, ads, aps, ats, ams, ran.last_so)
