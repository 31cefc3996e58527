-- Laws that crates above use and the library does not have: of a Bool, options and lists. Assumes nothing.
use mathlib.Core.Path.{◌≡◌, refl, sym}
use mathlib.Core.Bool.{Bool, true, false, ◌&&◌, not}
use mathlib.Core.List.{List, [], ◌∷◌}
use mathlib.Core.Logic.{◌⊎◌, inl, inr, ⊎_elim}
use mathlib.Core.Option.{Option, none, some}
use Prim.Native.Nat.{ℕ, zero, suc, ◌<◌}
use native.Mathlib.Omega.{arith}
use lib.ListN.{length, get_or}

pub not_and : (a b : Bool) → (a ≡ false) ⊎ (b ≡ false) → not (a && b) ≡ true
not_and true true e = ⊎_elim (λ (z : true ≡ false). sym z) (λ (z : true ≡ false). sym z) e
not_and true false e = refl
not_and false b e = refl

pub option_or {ℓ} : {A : Type ℓ} (o : Option A) → (o ≡ none) ⊎ ((a : A) × (o ≡ some a))
option_or none = inl refl
option_or (some a) = inr (a, refl)

pub some_none : {A : Type 0} {a : A} {o : Option A} → o ≡ some a → o ≡ none → ⊥
some_none p q = let z : ◌≡◌ {A = ℕ} 0 1 = cc in absurd (omega arith)

pub some_same : {A : Type 0} {a b : A} {o : Option A} → o ≡ some a → o ≡ some b → a ≡ b
some_same p q = cc

-- an element that is not the default is inside the list
pub inside : (l : List ℕ) (i : ℕ) → 0 < get_or l i 0 → i < length l
inside [] i h = absurd (omega arith)
inside (a ∷ l) zero h = omega arith
inside (a ∷ l) (suc i) h = let r = inside l i h in omega arith

pub inside_some : {A : Type 0} {a : A} (l : List (Option A)) (i : ℕ) → get_or l i none ≡ some a → i < length l
inside_some [] i h = absurd (some_none h refl)
inside_some (b ∷ l) zero h = omega arith
inside_some (b ∷ l) (suc i) h = let r = inside_some l i h in omega arith
