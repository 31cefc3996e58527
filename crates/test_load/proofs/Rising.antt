-- A list that rises: each element is before all that come after it. Assumes nothing.
use mathlib.Core.List.{List, [], ◌∷◌, ◌++◌}
use Prim.Native.Nat.{ℕ, zero, suc, ◌<◌}
use native.Mathlib.Omega.{arith}
use lib.ListN.{length, get_or}
use Rattle.std.specs.List.{All}
use Rattle.std.proofs.lemmas.List.Elements.{All-head, All-tail, All-append}

module _ {X : Type 0} (R : X → X → Type 0) where
  abbrev pub Rising : List X → Type 0
  Rising [] = Unit
  Rising (x ∷ xs) = All (R x) xs × Rising xs

  -- two lists that rise, all of the first before all of the second
  pub rising_append : (xs ys : List X) → Rising xs → Rising ys → All (λ x. All (R x) ys) xs → Rising (xs ++ ys)
  rising_append [] ys rx ry before = ry
  rising_append (x ∷ xs) ys rx ry before = (
    All-append (R x) xs ys rx.0 (All-head (λ z. All (R z) ys) x xs before),
    rising_append xs ys rx.1 ry (All-tail (λ z. All (R z) ys) x xs before),
  )

  -- an earlier element is before a later one
  pub rising_at : (xs : List X) (d : X) (i j : ℕ) → Rising xs → i < j → j < length xs → R (get_or xs i d) (get_or xs j d)
  rising_at [] d i j r h low = absurd (omega arith)
  rising_at (x ∷ xs) d i zero r h low = absurd (omega arith)
  rising_at (x ∷ xs) d zero (suc j) r h low = r.0 j d (omega arith)
  rising_at (x ∷ xs) d (suc i) (suc j) r h low = rising_at xs d i j r.1 (omega arith) (omega arith)
