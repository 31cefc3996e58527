-- Entries: where two columns are made alike, a column whose entries are known, and what is told of the elements that pass a test. Assumes nothing.
use mathlib.Core.Path.{◌≡◌, refl, sym, ap, ap₂, ◌∙◌}
use mathlib.Core.Bool.{Bool, true, false, cond}
use mathlib.Core.List.{List, [], ◌∷◌, map}
use mathlib.Core.Logic.{⊎_elim}
use Prim.Native.Nat.{ℕ, zero, suc, ◌+◌, ◌<◌, max}
use native.Mathlib.Omega.{arith}
use lib.ListN.{length, get_or}
use Rattle.std.specs.List.{fold, reduce, filter, count_by}
use Rattle.std.specs.Option.{unwrap_or}
use Rattle.std.proofs.lemmas.List.Recursion.{is_count_by}
use Rattle.std.proofs.lemmas.Bool.{cases_Bool}
use Rattle.auction.specs.HandOver.{entries, greatest, sum}

pub entries_same : (k a : ℕ) (f g : ℕ → ℕ) → ((v : ℕ) → v < a + k → f v ≡ g v) → entries k a f ≡ entries k a g
unfolding entries
entries_same zero a f g h = refl
entries_same (suc k) a f g h =
    ap₂ (λ (x : ℕ) (l : List ℕ). x ∷ l) (h a (omega arith)) (entries_same k (suc a) f g (λ v l. h v (omega arith)))

-- A COLUMN whose entries are known, one by one, is theirs
column_from : (out : List ℕ) (n a : ℕ) (f : ℕ → ℕ) → length out ≡ n → ((i : ℕ) → i < n → get_or out i 0 ≡ f (a + i)) → out ≡ entries n a f
unfolding entries
column_from [] zero a f e h = refl
column_from [] (suc n) a f e h = absurd (omega arith)
column_from (b ∷ out) zero a f e h = absurd (omega arith)
column_from (b ∷ out) (suc n) a f e h =
    let z : a + 0 ≡ a = omega arith in
    let next : (i : ℕ) → a + suc i ≡ suc a + i = λ i. omega arith in
    ap₂ (λ (m : ℕ) (l : List ℕ). m ∷ l) (h 0 (omega arith) ∙ ap f z)
    (column_from out n (suc a) f (omega arith) (λ i l. h (suc i) (omega arith) ∙ ap f (next i)))

pub column_so : (out : List ℕ) (n : ℕ) (f : ℕ → ℕ) → length out ≡ n → ((i : ℕ) → i < n → get_or out i 0 ≡ f i) → out ≡ entries n 0 f
column_so out n f e h = column_from out n 0 f e (λ i l. let z : i ≡ 0 + i = omega arith in h i l ∙ ap f z)

-- the largest of some numbers, and 0 of none
largest_from : (a : ℕ) (l : List ℕ) → fold max a l ≡ max a (greatest l)
unfolding greatest
largest_from a [] = omega arith
largest_from a (b ∷ l) = omega (arith, largest_from (max a b) l)

pub largest : (l : List ℕ) → unwrap_or (reduce max l) 0 ≡ greatest l
unfolding greatest
largest [] = refl
largest (a ∷ l) = largest_from a l

-- OF THE ELEMENTS THAT PASS A TEST: one that fails has 0
module _ {A : Type 0} (test : A → Bool) where
  -- the greatest,
  pub greatest_passing : (f : A → ℕ) (l : List A) → greatest (map f (filter test l)) ≡ greatest (map (λ x. cond (test x) (f x) 0) l)
  unfolding greatest
  greatest_passing f [] = refl
  greatest_passing f (x ∷ l) =
      ⊎_elim (λ (e : test x ≡ true). rw e (ap (max (f x)) (greatest_passing f l))) (λ (e : test x ≡ false). rw e (greatest_passing f l ∙ omega arith))
      (cases_Bool (test x))

  -- and how many there are
  pub count_passing : (l : List A) → count_by test l ≡ sum (map (λ x. cond (test x) 1 0) l)
  unfolding sum
  count_passing l =
      sym (is_count_by (λ l. sum (map (λ x. cond (test x) 1 0) l)) test refl (λ x xs.
      ⊎_elim (λ (e : test x ≡ true). rw e refl) (λ (e : test x ≡ false). rw e (omega arith)) (cases_Bool (test x))) l)
