-- What the nodes remember where arcs are offered: a node whose arc is given up has lost a child, so it forgets; the others keep their children.
-- Assumes nothing.
use mathlib.Core.Path.{◌≡◌, refl, sym, ap, subst, ◌∙◌}
use mathlib.Core.Bool.{false, cond}
use mathlib.Core.List.{List, map}
use mathlib.Core.Logic.{◌⊎◌, inl, inr, ⊎_elim}
use mathlib.Core.Option.{none, some}
use Prim.Native.Nat.{ℕ, ◌<◌}
use lib.Dec.{eqb}
use native.Mathlib.Omega.{arith}
use lib.ListN.{length, get_or, set, length-set}
use lib.Seq.{get_or-set_same, get_or-set_other, map-set}
use borrow.Author.Tests.{eq-eqb, ne_eqb, both_ways}
use Rattle.std.proofs.lemmas.Bool.{cases_eq, false_from_ne_true}
use Rattle.table.specs.Table.{Table, arc_count, tail_at, head_at, down, no_arc, no_node}
use Rattle.table.proofs.Basics.{some_none, some_same, inside}
use Rattle.auction.specs.Auction.{State, state, kept_at, status_at, is_deleted, to_child, unreached}
use Rattle.auction.proofs.Steps.Bids.{child, child_test}
use Rattle.steps.specs.declared.state.Progress.{Progress}
use Rattle.steps.specs.Seen.{arc_of, seen}
use Rattle.forward_star.specs.Lists.{star, Outgoing, Tails}
use Rattle.steps.specs.Memory.{ArcInto, KeptArcs, Loses, Remembering, but}
use Rattle.steps.proofs.Arrays.{some_arc, no_kept, seen_kept, seen_status}
use Rattle.forward_star.proofs.Along.{OnList}
use Rattle.steps.proofs.Remembering.{same_child, arcs_alike, seen_alike, in_two, unchanged}

-- THE COLUMN of what the nodes remember, where an arc is given up: the node that it leaves forgets
unfoldable pub tail_forgets : (arc : ℕ) → (tails remembered : List ℕ) → List ℕ
tail_forgets i ts m = cond (eqb i no_arc) m (set m (get_or ts i 0) no_node)

-- one arc offered to its head: nothing is kept, or the head, which is unreached, gives up the arc that it kept
abbrev pub GivesUp : (head position : ℕ) → (tails status kept remembered kept' remembered' : List ℕ) → Type 0
GivesUp j i ts s k m k' m' =
    ((k' ≡ k) × (m' ≡ m)) ⊎ ((get_or s j 0 ≡ 0) × ((k' ≡ set k j i) × (m' ≡ tail_forgets (get_or k j 0) ts m)))

-- each arc that is kept stands in the column of tails
pub record Listed (arcs : ℕ) (kept : List ℕ) : Type 0 where
  pub listed : (u : ℕ) → u < length kept → (get_or kept u 0 ≡ no_arc → ⊥) → get_or kept u 0 < arcs

-- AN ARC IS KEPT between state x and state y
record KeptInstead (j i : ℕ) (x y : State) : Type 0 where
  -- node j keeps the arc i
  pub here : kept_at y j ≡ some i
  -- every other node keeps what it kept
  pub elsewhere : (u : ℕ) → (u ≡ j → ⊥) → kept_at y u ≡ kept_at x u
  -- no status changes
  pub statuses : (u : ℕ) → status_at y u ≡ status_at x u

module _ (t : Table) {j i v : ℕ} {x y : State} (taken : KeptInstead j i x y) (from : tail_at t i ≡ v) (u : ℕ) (other : u ≡ v → ⊥) where
  -- a node other than v, which the arc leaves, has no child at j,
  none_there : (q : ℕ) → head_at t q ≡ j → to_child t u q y ≡ false
  none_there q h =
      false_from_ne_true (to_child t u q y)
      (λ e.
      let c = child t u y q e in
      let same : i ≡ q = some_same taken.here (ap (kept_at y) (sym h) ∙ c.kept) in
      other (sym c.leaves ∙ ap (tail_at t) (sym same) ∙ from))

  -- and over the arcs that lead elsewhere it has the children that it had
  same_elsewhere : (q : ℕ) → (head_at t q ≡ j → ⊥) → to_child t u q y ≡ to_child t u q x
  unfolding is_deleted
  same_elsewhere q d = same_child x y t u q (taken.elsewhere (head_at t q) d) (rw (taken.statuses (head_at t q)))

  -- so it keeps its children where j kept no arc of it,
  keeps_children : ((k : ℕ) → kept_at x j ≡ some k → tail_at t k ≡ u → ⊥) → (q : ℕ) → to_child t u q y ≡ to_child t u q x
  keeps_children unkept q =
      ⊎_elim
      (λ (h : head_at t q ≡ j).
      none_there q h
      ∙ sym (false_from_ne_true (to_child t u q x) (λ e. let c = child t u x q e in unkept q (ap (kept_at x) (sym h) ∙ c.kept) c.leaves)))
      (λ (d : head_at t q ≡ j → ⊥). same_elsewhere q d)
      (cases_eq (head_at t q) j)

  -- and loses the child j where j kept an arc of it
  loses_child : (k : ℕ) (m' : List ℕ) → kept_at x j ≡ some k → ArcInto t j k → tail_at t k ≡ u → status_at x j ≡ unreached → get_or m' u 0 ≡ no_node →
      Loses t u m' x y
  loses_child k m' kept arc leaves new e =
      record {
        arc = k;
        listed = arc.listed;
        child =
            child_test t u x k
            (record { leaves = leaves; kept = ap (kept_at x) arc.into ∙ kept; undeleted = λ z. let same = ap (status_at x) arc.into in omega arith });
        lost = none_there k arc.into;
        gains_none = λ q c.
            ⊎_elim (λ (h : head_at t q ≡ j). absurd (both_ways (to_child t u q y) (none_there q h) c))
            (λ (d : head_at t q ≡ j → ⊥). sym (same_elsewhere q d) ∙ c)
            (cases_eq (head_at t q) j);
        memory = e;
      }

-- the kept arcs are arcs of the table still
still_arcs : {t : Table} {j i : ℕ} {x y : State} → KeptInstead j i x y → ArcInto t j i → KeptArcs t x → KeptArcs t y
still_arcs {t} {j} {i} {x} {y} taken arc arcs = λ u k e.
    ⊎_elim
    (λ (z : u ≡ j).
    let same : i ≡ k = some_same taken.here (ap (kept_at y) (sym z) ∙ e) in
    subst (λ (w : ℕ). ArcInto t w k) (sym z) (subst (λ (q : ℕ). ArcInto t j q) same arc))
    (λ (d : u ≡ j → ⊥). arcs u k (sym (taken.elsewhere u d) ∙ e))
    (cases_eq u j)

-- WHAT IS FORGOTTEN

-- the column's entry for an arc that leaves a node is that node
tail_listed : {t : Table} {ts ls : List ℕ} → Tails t ts ls → (i : ℕ) → i < arc_count t → tail_at t i < t.n → get_or ts i 0 ≡ tail_at t i
tail_listed {t} {ts} {ls} tails i h n =
    ⊎_elim (λ (e : get_or ls i 0 ≡ down). absurd (tails.none i h e n)) (λ (d : get_or ls i 0 ≡ down → ⊥). tails.tail i h d) (cases_eq (get_or ls i 0) down)

-- a node that remembers nothing does not begin to, where some node forgets
still_nothing : (m : List ℕ) (w u : ℕ) → get_or m u 0 ≡ no_node → get_or (set m w no_node) u 0 ≡ no_node
still_nothing m w u e =
    ⊎_elim
    (λ (z : u ≡ w). let h : u < length m = inside m u (omega arith) in ap (λ a. get_or (set m a no_node) u 0) (sym z) ∙ get_or-set_same m u no_node 0 h)
    (λ (d : u ≡ w → ⊥). get_or-set_other m w u no_node 0 d ∙ e)
    (cases_eq u w)

module _ (t : Table) {ts ls : List ℕ} (tails : Tails t ts ls) {j i v : ℕ} {x y : State} (taken : KeptInstead j i x y) (from : tail_at t i ≡ v) (m : List ℕ) where
  -- the head has kept no arc
  gives_none : (k : ℕ) → k ≡ no_arc → kept_at x j ≡ arc_of k → Remembering t (but v x) m (tail_forgets k ts m) x y
  unfolding tail_forgets
  gives_none k e kept =
      rw (eq-eqb k no_arc e)
      (record {
        each = λ u d.
            inl (record { children = keeps_children t taken from u d (λ q h l. some_none h (kept ∙ no_kept k e)); memory = refl });
        nothing = λ u z. z;
      })

  -- or it has kept one
  gives_one : (k : ℕ) → (k ≡ no_arc → ⊥) → kept_at x j ≡ arc_of k → length m ≡ t.n → status_at x j ≡ unreached → KeptArcs t x →
      Remembering t (but v x) m (tail_forgets k ts m) x y
  unfolding tail_forgets
  gives_one k any found long new arcs =
      let kept : kept_at x j ≡ some k = found ∙ some_arc k any in
      let arc = arcs j k kept in
      rw (ne_eqb k no_arc any, tail_listed tails k arc.listed arc.leaves)
      (record {
        each = λ u d.
            ⊎_elim
            (λ (l : tail_at t k ≡ u).
            let at : u < length m = omega (arith, arc.leaves) in
            inr
            (loses_child t taken from u d k (set m (tail_at t k) no_node) kept arc l new
            (ap (λ w. get_or (set m w no_node) u 0) l ∙ get_or-set_same m u no_node 0 at)))
            (λ (n : tail_at t k ≡ u → ⊥).
            inl
            (record {
              children = keeps_children t taken from u d (λ q h l. n (ap (tail_at t) (some_same kept h) ∙ l));
              memory = get_or-set_other m (tail_at t k) u no_node 0 (λ z. n (sym z));
            }))
            (cases_eq (tail_at t k) u);
        nothing = λ u z. still_nothing m (tail_at t k) u z;
      })

-- SINCE STATE X arcs that leave v have been offered
pub record Losing (t : Table) (v : ℕ) (remembered remembered' : List ℕ) (x y : State) : Type 0 where
  -- what the other nodes remember
  pub remembering : Remembering t (but v x) remembered remembered' x y
  -- the kept arcs are arcs of the table
  pub arcs : KeptArcs t y

-- ONE ARC OFFERED: the array of kept arcs gets one, or nothing changes

module _ (p u b b' k s : List ℕ) (g : Progress) {j i : ℕ} (inside : j < length k) (low : i ≡ no_arc → ⊥) where
  kept_instead : KeptInstead j i (seen p u b k s g) (seen p u b' (set k j i) s g)
  unfolding seen state kept_at status_at
  kept_instead =
      record {
        here =
            seen_kept p u b' (set k j i) s g j (omega (arith, length-set k j i)) ∙ ap arc_of (get_or-set_same k j i 0 inside) ∙ some_arc i low;
        elsewhere = λ w d. rw (map-set arc_of k j i) (get_or-set_other (map arc_of k) j w (arc_of i) none d);
        statuses = λ w. refl;
      }

module _ {t : Table} {ts ls : List ℕ} (tails : Tails t ts ls) {v i : ℕ} (on : OnList t v i) (more : i ≡ no_arc → ⊥) {j : ℕ} (to : head_at t i ≡ j)
    (p u b b' k s : List ℕ) (g : Progress) (inside : j < length k) (arcs : KeptArcs t (seen p u b k s g)) where
  kept_since : (m : List ℕ) → length m ≡ t.n → get_or s j 0 ≡ 0 →
      Losing t v m (tail_forgets (get_or k j 0) ts m) (seen p u b k s g) (seen p u b' (set k j i) s g)
  kept_since m long new =
      let at = on.inside more in
      let taken = kept_instead p u b b' k s g inside more in
      let found = seen_kept p u b k s g j inside in
      record {
        remembering =
            ⊎_elim (λ (e : get_or k j 0 ≡ no_arc). gives_none t tails taken at.1 m (get_or k j 0) e found)
            (λ (d : get_or k j 0 ≡ no_arc → ⊥). gives_one t tails taken at.1 m (get_or k j 0) d found long (seen_status p u b k s g j ∙ new) arcs)
            (cases_eq (get_or k j 0) no_arc);
        arcs = still_arcs taken (record { listed = at.0; into = to; leaves = omega (arith, at.1, on.node) }) arcs;
      }

  pub offered_since : {k' m m' : List ℕ} → length m ≡ t.n → GivesUp j i ts s k m k' m' → Losing t v m m' (seen p u b k s g) (seen p u b' k' s g)
  offered_since {k'} {m} {m'} long gives =
      let alike = seen_alike p u b p u b' k s g g in
      ⊎_elim
      (λ (e : (k' ≡ k) × (m' ≡ m)). rw (e.0, e.1) (record { remembering = unchanged alike; arcs = arcs_alike alike arcs }))
      (λ (e : (get_or s j 0 ≡ 0) × ((k' ≡ set k j i) × (m' ≡ tail_forgets (get_or k j 0) ts m))). rw (e.1.0, e.1.1) (kept_since m long e.0))
      gives

-- so does one that is kept now
listed_set : {arcs : ℕ} {k : List ℕ} (j i : ℕ) → i < arcs → Listed arcs k → Listed arcs (set k j i)
listed_set {arcs} {k} j i h a =
    record {
      listed = λ u at any.
          let low : u < length k = omega (arith, length-set k j i) in
          ⊎_elim
          (λ (z : u ≡ j). let e : get_or (set k j i) u 0 ≡ i = ap (λ w. get_or (set k w i) u 0) (sym z) ∙ get_or-set_same k u i 0 low in omega arith)
          (λ (d : u ≡ j → ⊥). let e = get_or-set_other k j u i 0 d in omega (arith, a.listed u low (λ z. any (e ∙ z))))
          (cases_eq u j);
    }

-- ALL ARCS OUT OF A NODE: some of them have been offered
pub record Forgetting (heads lengths first next tails : List ℕ) (v : ℕ) (bound₀ kept₀ remembered₀ status bound kept remembered : List ℕ) : Type 0 where
  -- there are as many entries as before
  pub memory_long : length remembered ≡ length remembered₀
  -- each kept arc stands in the column of tails
  pub kept_in : Listed (length tails) kept
  -- what the nodes remember since the first of them
  pub since : (path price : List ℕ) (g : Progress) (t : Table) → Outgoing t (star heads lengths first next) → Tails t tails lengths →
      KeptArcs t (seen path price bound₀ kept₀ status g) →
      Losing t v remembered₀ remembered (seen path price bound₀ kept₀ status g) (seen path price bound kept status g)

module _ {hs ls first next ts : List ℕ} {v : ℕ} {b₀ k₀ m₀ s : List ℕ} where
  pub none_yet : Listed (length ts) k₀ → Forgetting hs ls first next ts v b₀ k₀ m₀ s b₀ k₀ m₀
  none_yet a =
      record {
        memory_long = refl;
        kept_in = a;
        since = λ path price g t here tails arcs. record { remembering = unchanged (seen_alike path price b₀ path price b₀ k₀ s g g); arcs = arcs };
      }

  pub one_more : {b k m b' k' m' : List ℕ} {p j : ℕ} → Forgetting hs ls first next ts v b₀ k₀ m₀ s b k m →
      ((t : Table) → Outgoing t (star hs ls first next) → OnList t v p) → (p ≡ no_arc → ⊥) → p < length ts → j ≡ get_or hs p 0 → j < length k →
      length m₀ ≡ length first → length m' ≡ length m → GivesUp j p ts s k m k' m' → Forgetting hs ls first next ts v b₀ k₀ m₀ s b' k' m'
  one_more {b} {k} {m} {b'} {k'} {m'} {p} {j} inv walk more listed head inside long same gives =
      record {
        memory_long = same ∙ inv.memory_long;
        kept_in =
            ⊎_elim (λ (e : (k' ≡ k) × (m' ≡ m)). rw e.0 inv.kept_in)
            (λ (e : (get_or s j 0 ≡ 0) × ((k' ≡ set k j p) × (m' ≡ tail_forgets (get_or k j 0) ts m))). rw e.1.0 (listed_set j p listed inv.kept_in))
            gives;
        since = λ path price g t here tails arcs.
            let before = inv.since path price g t here tails arcs in
            let on = walk t here in
            let to : head_at t p ≡ j = sym (here.head p (on.inside more).0) ∙ sym head in
            let long_here : length m ≡ t.n = omega (arith, inv.memory_long, here.linked.first_count) in
            let now = offered_since tails on more to path price b b' k s g inside before.arcs long_here gives in
            record { remembering = in_two before.remembering now.remembering; arcs = now.arcs };
      }
