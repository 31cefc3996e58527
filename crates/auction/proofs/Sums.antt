-- Sums, counts, greatest elements and elements of `entries`. Assumes nothing.
use mathlib.Core.Path.{◌≡◌, refl, sym, ap, ◌∙◌}
use mathlib.Core.Bool.{cond}
use mathlib.Core.List.{List, [], ◌∷◌}
use mathlib.Core.Logic.{⊎_elim}
use Prim.Native.Nat.{ℕ, zero, suc, ◌+◌, ◌*◌, ◌≤◌, ◌<◌}
use native.Mathlib.Omega.{arith}
use native.Mathlib.Nat.{mul-add, mul-zero}
use lib.Dec.{eqb}
use lib.ListN.{length, get_or, get_or-eq_default}
use borrow.Author.Tests.{eq-eqb, ne_eqb}
use Rattle.std.proofs.lemmas.Bool.{cases_eq}
use Rattle.auction.specs.HandOver.{entries, greatest, sum, how_many}

-- the entries are f a, f (a + 1), ..
pub entries_length : (k a : ℕ) (f : ℕ → ℕ) → length (entries k a f) ≡ k
unfolding entries
entries_length zero a f = refl
entries_length (suc k) a f = ap suc (entries_length k (suc a) f)

pub entry : (k a i : ℕ) (f : ℕ → ℕ) (d : ℕ) → i < k → get_or (entries k a f) i d ≡ f (a + i)
unfolding entries
entry zero a i f d h = absurd (omega arith)
entry (suc k) a zero f d h = ap f (omega arith)
entry (suc k) a (suc i) f d h =
    let e : suc a + i ≡ a + suc i = omega arith in entry k (suc a) i f d (omega arith) ∙ ap f e

-- a column of n entries, and past its end
pub column : (n v : ℕ) (f : ℕ → ℕ) (d : ℕ) → v < n → get_or (entries n 0 f) v d ≡ f v
column n v f d h =
    let plain : 0 + v ≡ v = omega arith in
    entry n 0 v f d h ∙ ap f plain

pub past_column : (n v : ℕ) (f : ℕ → ℕ) (d : ℕ) → n ≤ v → get_or (entries n 0 f) v d ≡ d
past_column n v f d h = get_or-eq_default (entries n 0 f) d (omega (arith, entries_length n 0 f))

abbrev pub total : (n : ℕ) → (ℕ → ℕ) → ℕ
total n f = sum (entries n 0 f)

sum_le : (k a : ℕ) (f g : ℕ → ℕ) → ((v : ℕ) → v < a + k → f v ≤ g v) → sum (entries k a f) ≤ sum (entries k a g)
unfolding entries sum
sum_le zero a f g h = omega arith
sum_le (suc k) a f g h =
    let r = sum_le k (suc a) f g (λ v l. h v (omega arith)) in
    let s : f a ≤ g a = h a (omega arith) in omega arith

sum_add : (k a : ℕ) (f g : ℕ → ℕ) → sum (entries k a (λ v. f v + g v)) ≡ sum (entries k a f) + sum (entries k a g)
unfolding entries sum
sum_add zero a f g = refl
sum_add (suc k) a f g = let r = sum_add k (suc a) f g in omega arith

sum_scale : (k a c : ℕ) (f : ℕ → ℕ) → sum (entries k a (λ v. c * f v)) ≡ c * sum (entries k a f)
unfolding entries sum
sum_scale zero a c f = sym (mul-zero c)
sum_scale (suc k) a c f = let r = sum_scale k (suc a) c f in omega (arith, mul-add c (f a) (sum (entries k (suc a) f)))

sum_const : (k a c : ℕ) → sum (entries k a (λ v. c)) ≡ c * k
unfolding entries sum
sum_const zero a c = sym (mul-zero c)
sum_const (suc k) a c = let r = sum_const k (suc a) c in omega (arith, mul-add c 1 k)

-- z at one place, 0 elsewhere
unfoldable pub only_at : (c z v : ℕ) → ℕ
only_at c z v = cond (eqb v c) z 0

pub only_same : (c z v : ℕ) → v ≡ c → only_at c z v ≡ z
unfolding only_at
only_same c z v e = rw (eq-eqb v c e)

pub only_other : (c z v : ℕ) → (v ≡ c → ⊥) → only_at c z v ≡ 0
unfolding only_at
only_other c z v h = rw (ne_eqb v c h)

sum_none : (k a c z : ℕ) → c < a → sum (entries k a (only_at c z)) ≡ 0
unfolding entries sum
sum_none zero a c z h = refl
sum_none (suc k) a c z h =
    let r = sum_none k (suc a) c z (omega arith) in
    let s = only_other c z a (λ e. omega arith) in omega arith

sum_only : (k a c z : ℕ) → a ≤ c → c < a + k → sum (entries k a (only_at c z)) ≡ z
unfolding entries sum
sum_only zero a c z h l = absurd (omega arith)
sum_only (suc k) a c z h l =
    ⊎_elim
    (λ (e : a ≡ c). omega (arith, only_same c z a e, sum_none k (suc a) c z (omega arith)))
    (λ (d : a ≡ c → ⊥). omega (arith, only_other c z a d, sum_only k (suc a) c z (omega arith) (omega arith)))
    (cases_eq a c)

module _ (n : ℕ) where
  pub total_le : (f g : ℕ → ℕ) → ((v : ℕ) → v < n → f v ≤ g v) → total n f ≤ total n g
  total_le f g h = sum_le n 0 f g (λ v l. h v (omega arith))

  pub total_same : (f g : ℕ → ℕ) → ((v : ℕ) → v < n → f v ≡ g v) → total n f ≡ total n g
  total_same f g h =
      let a = total_le f g (λ v l. omega (arith, h v l)) in
      let b = total_le g f (λ v l. omega (arith, h v l)) in omega arith

  pub total_add : (f g : ℕ → ℕ) → total n (λ v. f v + g v) ≡ total n f + total n g
  total_add f g = sum_add n 0 f g

  pub total_scale : (c : ℕ) (f : ℕ → ℕ) → total n (λ v. c * f v) ≡ c * total n f
  total_scale c f = sum_scale n 0 c f

  pub total_const : (c : ℕ) → total n (λ v. c) ≡ c * n
  total_const c = sum_const n 0 c

  -- one entry alone, and one entry more
  pub total_only : (c z : ℕ) → c < n → total n (only_at c z) ≡ z
  total_only c z h = sum_only n 0 c z (omega arith) (omega arith)

  pub total_one : (f : ℕ → ℕ) (c z : ℕ) → c < n → total n (λ v. f v + only_at c z v) ≡ total n f + z
  total_one f c z h = omega (arith, total_add f (only_at c z), total_only c z h)

  -- f' is at most f but at i, and 0 at c: what f has at c is lost, what f' has at i is won
  pub total_trade : (f f' : ℕ → ℕ) (i c : ℕ) → i < n → c < n → (c ≡ i → ⊥) → ((v : ℕ) → (v ≡ i → ⊥) → f' v ≤ f v) → f' c ≡ 0 →
      total n f' + f c ≤ total n f + f' i
  total_trade f f' i c hi hc d low zero_there =
      let a = total_one f' c (f c) hc in
      let b = total_one f i (f' i) hi in
      let e =
      total_le (λ v. f' v + only_at c (f c) v) (λ v. f v + only_at i (f' i) v)
      (λ v l.
      ⊎_elim
      (λ (s : v ≡ c).
      omega (arith, only_same c (f c) v s, ap f s, ap f' s, zero_there))
      (λ (s : v ≡ c → ⊥).
      ⊎_elim
      (λ (q : v ≡ i). omega (arith, only_other c (f c) v s, only_same i (f' i) v q, ap f' q))
      (λ (q : v ≡ i → ⊥). omega (arith, only_other c (f c) v s, low v q))
      (cases_eq v i))
      (cases_eq v c)) in
      omega arith

-- HOW OFTEN a number stands in a list: once more where it is the first, and at most as often as the list is long
module _ (a b : ℕ) (more : List ℕ) where
  pub counted : b ≡ a → how_many a (b ∷ more) ≡ how_many a more + 1
  unfolding how_many
  counted e = rw (eq-eqb b a e) (omega arith)

  pub passed_over : (b ≡ a → ⊥) → how_many a (b ∷ more) ≡ how_many a more
  unfolding how_many
  passed_over d = rw (ne_eqb b a d) (omega arith)

pub how_many_low : (a : ℕ) (l : List ℕ) → how_many a l ≤ length l
unfolding how_many
how_many_low a [] = omega arith
how_many_low a (b ∷ more) =
    ⊎_elim (λ (e : b ≡ a). omega (arith, counted a b more e, how_many_low a more))
    (λ (d : b ≡ a → ⊥). omega (arith, passed_over a b more d, how_many_low a more))
    (cases_eq b a)

-- how many entries are c: 1 for each
how_many_sum : (k a c : ℕ) (f : ℕ → ℕ) → how_many c (entries k a f) ≡ sum (entries k a (λ v. only_at c 1 (f v)))
unfolding entries sum how_many only_at
how_many_sum zero a c f = refl
how_many_sum (suc k) a c f = ap (λ (r : ℕ). only_at c 1 (f a) + r) (how_many_sum k (suc a) c f)

pub how_many_total : (n c : ℕ) (f : ℕ → ℕ) → how_many c (entries n 0 f) ≡ total n (λ v. only_at c 1 (f v))
how_many_total n c f = how_many_sum n 0 c f

-- a sum of sums, in either order
sum_exchange : (k a n : ℕ) (f : ℕ → ℕ → ℕ) → sum (entries k a (λ i. total n (f i))) ≡ total n (λ v. sum (entries k a (λ i. f i v)))
unfolding entries sum
sum_exchange zero a n f = omega (arith, total_const n 0)
sum_exchange (suc k) a n f =
    omega (arith, sum_exchange k (suc a) n f, total_add n (f a) (λ v. sum (entries k (suc a) (λ i. f i v))))

pub total_exchange : (m n : ℕ) (f : ℕ → ℕ → ℕ) → total m (λ i. total n (f i)) ≡ total n (λ v. total m (λ i. f i v))
total_exchange m n f = sum_exchange m 0 n f

-- the greatest entry
greatest_from : (k a v : ℕ) (f : ℕ → ℕ) → a ≤ v → v < a + k → f v ≤ greatest (entries k a f)
unfolding entries greatest
greatest_from zero a v f h l = absurd (omega arith)
greatest_from (suc k) a v f h l =
    ⊎_elim (λ (e : a ≡ v). omega (arith, ap f e)) (λ (d : a ≡ v → ⊥). omega (arith, greatest_from k (suc a) v f (omega arith) (omega arith)))
    (cases_eq a v)

greatest_below : (k a b : ℕ) (f : ℕ → ℕ) → ((v : ℕ) → v < a + k → f v ≤ b) → greatest (entries k a f) ≤ b
unfolding entries greatest
greatest_below zero a b f h = omega arith
greatest_below (suc k) a b f h =
    let r = greatest_below k (suc a) b f (λ v l. h v (omega arith)) in
    let s : f a ≤ b = h a (omega arith) in omega arith

pub greatest_least : (n b : ℕ) (f : ℕ → ℕ) → ((v : ℕ) → v < n → f v ≤ b) → greatest (entries n 0 f) ≤ b
greatest_least n b f h = greatest_below n 0 b f (λ v l. h v (omega arith))

pub greatest_bound : (n v : ℕ) (f : ℕ → ℕ) → v < n → f v ≤ greatest (entries n 0 f)
greatest_bound n v f l = greatest_from n 0 v f (omega arith) (omega arith)
