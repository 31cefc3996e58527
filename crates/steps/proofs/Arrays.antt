-- What the auction's functions read off the arrays, and what a store does to the state that they hold. Assumes nothing.
use mathlib.Core.Path.{◌≡◌, refl, sym, ap, ◌∙◌}
use mathlib.Core.List.{List, [], ◌∷◌, ◌++◌, map}
use mathlib.Core.Option.{Option, none, some}
use Prim.Native.Nat.{ℕ, zero, suc, ◌≤◌, ◌<◌}
use native.Mathlib.Omega.{arith}
use lib.ListN.{length, get_or, set, take, replicate}
use lib.Seq.{take-set-lt, map-set}
use Rattle.std.proofs.lemmas.List.{take-append-le, length-replicate}
use borrow.Author.Tests.{ne_eqb, eq-eqb}
use lib.LanesLaws.{map-replicate}
use Rattle.table.specs.Table.{Table, no_arc, no_node, no_distance}
use Rattle.steps.specs.declared.state.Status.TheVariants.{Unreached}
use Rattle.auction.specs.Auction.{state, price_at, bound_at, kept_at, status_at, distance, or_zero, with_kept, fresh}
use Rattle.steps.specs.declared.state.Progress.{Progress}
use Rattle.steps.specs.Seen.{bound_of, arc_of, nodes_of, seen, run_of, first_of, held, status_number}
use Rattle.steps.specs.declared.state.Node.{Node}
use Rattle.steps.specs.Memory.{node_at}
use Rattle.steps.proofs.Nodes.{written, unwritten}

-- the sentinels
pub some_bound : (b : ℕ) → (b ≡ no_distance → ⊥) → bound_of b ≡ some b
unfolding bound_of
some_bound b h = rw (ne_eqb b no_distance h)

pub some_arc : (k : ℕ) → (k ≡ no_arc → ⊥) → arc_of k ≡ some k
unfolding arc_of
some_arc k h = rw (ne_eqb k no_arc h)

pub no_bound : (b : ℕ) → b ≡ no_distance → bound_of b ≡ none
unfolding bound_of
no_bound b e = rw (eq-eqb b no_distance e)

pub no_kept : (k : ℕ) → k ≡ no_arc → arc_of k ≡ none
unfolding arc_of
no_kept k e = rw (eq-eqb k no_arc e)

-- lists
pub get_d_map : (f : ℕ → Option ℕ) (l : List ℕ) (i : ℕ) → i < length l → get_or (map f l) i none ≡ f (get_or l i 0)
get_d_map f [] i h = absurd (omega arith)
get_d_map f (a ∷ l) zero h = refl
get_d_map f (a ∷ l) (suc i) h = get_d_map f l i (omega arith)

-- what is read
module _ (p u b k s : List ℕ) (g : Progress) where
  pub seen_status : (v : ℕ) → status_at (seen p u b k s g) v ≡ get_or s v 0
  unfolding seen state status_at
  seen_status v = refl

  pub seen_price : (v : ℕ) → price_at (seen p u b k s g) v ≡ get_or u v 0
  unfolding seen state price_at
  seen_price v = refl

  pub seen_bound : (v : ℕ) → v < length b → bound_at (seen p u b k s g) v ≡ bound_of (get_or b v 0)
  unfolding seen state bound_at
  seen_bound v h = get_d_map bound_of b v h

  pub seen_kept : (v : ℕ) → v < length k → kept_at (seen p u b k s g) v ≡ arc_of (get_or k v 0)
  unfolding seen state kept_at
  seen_kept v h = get_d_map arc_of k v h

  pub seen_distance : (v : ℕ) → v < length b → (get_or b v 0 ≡ no_distance → ⊥) → distance (seen p u b k s g) v ≡ get_or b v 0
  unfolding distance or_zero
  seen_distance v h d = ap or_zero (seen_bound v h ∙ some_bound (get_or b v 0) d)

  -- what is stored
  pub store_kept : (j i d : ℕ) → (d ≡ no_distance → ⊥) → (i ≡ no_arc → ⊥) →
      seen p u (set b j d) (set k j i) s g ≡ with_kept j i d (seen p u b k s g)
  unfolding seen with_kept state
  store_kept j i d hd hi =
      rw (map-set bound_of b j d, map-set arc_of k j i, some_bound d hd, some_arc i hi)

-- THE FRESH STATE
take_replicate : {A : Type 0} (m n : ℕ) (a : A) → n ≤ m → take n (replicate m a) ≡ replicate n a
take_replicate m zero a h = refl
take_replicate zero (suc n) a h = absurd (omega arith)
take_replicate (suc m) (suc n) a h = ap (λ l. a ∷ l) (take_replicate m n a (omega arith))

pub taken : {A : Type 0} (m n : ℕ) (a : A) → n ≤ m → length (take n (replicate m a)) ≡ n
taken m n a h = ap length (take_replicate m n a h) ∙ length-replicate n a

path_begins : (m n o : ℕ) → o < n → n ≤ m → get_or (take n (set (replicate m 0) 0 o)) 0 0 ≡ o
path_begins m zero o h l = absurd (omega arith)
path_begins zero (suc n) o h l = absurd (omega arith)
path_begins (suc m) (suc n) o h l = refl

node_filled : (n v : ℕ) (a : Node) → v < n → node_at v (replicate n a) ≡ a
node_filled zero v a h = absurd (omega arith)
node_filled (suc n) zero a h = refl
node_filled (suc n) (suc v) a h = node_filled n v a (omega arith)

-- so many nodes alike, but one, and others behind them
module _ (rest : List Node) (m n v : ℕ) (a b : Node) (low : v < n) (few : n ≤ m) where
  lent_nodes : take n (set (replicate m a ++ rest) v b) ≡ set (replicate n a) v b
  lent_nodes =
      take-set-lt n (replicate m a ++ rest) v b low
      ∙ ap (λ l. set l v b) (take-append-le n (replicate m a) rest (omega (arith, length-replicate m a)) ∙ take_replicate m n a few)

  module _ {A : Type 0} (f : Node → A) where
    column_but_one : map f (take n (set (replicate m a ++ rest) v b)) ≡ set (replicate n (f a)) v (f b)
    column_but_one = ap (map f) lent_nodes ∙ written f (replicate n a) v b ∙ ap (λ l. set l v (f b)) (map-replicate f n a)

    column_alike : f b ≡ f a → map f (take n (set (replicate m a ++ rest) v b)) ≡ replicate n (f a)
    column_alike e =
        ap (map f) lent_nodes ∙ unwritten f (replicate n a) v b (e ∙ sym (ap f (node_filled n v a low))) ∙ map-replicate f n a

-- a node before anything is reached, and the origin's
abbrev fresh_node : (bound : ℕ) → Node
fresh_node b = record { price = 0; bound = b; kept = no_arc; remembered = no_node; status = Unreached }

pub fresh_seen : (k m : ℕ) (front rest : List Node) → front ≡ replicate m (fresh_node no_distance) → (t : Table) (o at : ℕ) (g : Progress) →
    at ≡ o → t.origin ≡ o → t.origin < t.n → t.n ≤ m → m ≤ k →
    (g.depth ≡ 1) → (g.contractions ≡ 0) → (g.extensions ≡ 0) → (g.deletions ≡ 0) →
    held (first_of t.n (run_of (set (replicate k 0) 0 o) (set (front ++ rest) at (fresh_node 0)) g)) ≡ fresh t
unfolding seen fresh nodes_of
fresh_seen k m front rest alike t o at g ea eo h l few ed ec ee ex =
    let n = t.n in
    let a = fresh_node no_distance in
    let b = fresh_node 0 in
    let below : o < n = omega arith in
    rw (alike, ea, ed, ec, ee, ex, path_begins k n o below (omega arith), column_alike rest m n o a b below l (λ i. i.price) refl, column_but_one rest m n o a b below l (λ i. i.bound), column_alike rest m n o a b below l (λ i. i.kept) refl, column_alike rest m n o a b below l (λ i. status_number i.status) refl, map-set bound_of (replicate n no_distance) o 0, map-replicate bound_of n no_distance, map-replicate arc_of n no_arc, some_bound 0 (λ z. omega arith), no_bound no_distance refl, no_kept no_arc refl, eo)
