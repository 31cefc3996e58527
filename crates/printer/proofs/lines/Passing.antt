-- The first node that has a distance: those before it have none, so the nodes that have one are it and those behind it. Assumes nothing.
use mathlib.Core.Path.{◌≡◌, sym, ap, ◌∙◌}
use mathlib.Core.Bool.{Bool, true, false, not}
use mathlib.Core.List.{List, [], ◌∷◌}
use mathlib.Core.Logic.{⊎_elim}
use Prim.Native.Nat.{ℕ, zero, suc, ◌+◌, ◌-◌, ◌≤◌, ◌<◌, min}
use native.Mathlib.Omega.{arith}
use native.Mathlib.Numerals.{add-one}
use lib.Dec.{eqb}
use lib.ListN.{length, get_or}
use Rattle.std.proofs.Common.{Option, None, Some, MatchOption}
use Rattle.std.proofs.lemmas.Bool.{cases_lt}
use Rattle.std.proofs.lemmas.List.{get_or_default}
use Rattle.table.specs.Table.{most_nodes, no_distance}
use Rattle.sheet.specs.Sheet.{node_count, passing, with_node, has_distance}
use Rattle.printer.specs.Lines.{FirstWithDistance}

module _ (f : ℕ → Bool) (n v : ℕ) where
  one_left : v < n → n - v ≡ suc (n - (v + 1))
  one_left h = omega arith

  passing_here : v < n → f v ≡ true → passing f (n - v) v ≡ v ∷ passing f (n - (v + 1)) (v + 1)
  unfolding passing with_node
  passing_here h e =
      ap (λ (k : ℕ). passing f k v) (one_left h)
      ∙ ap (λ (b : Bool). with_node b v (passing f (n - (v + 1)) (suc v))) e
      ∙ ap (λ (u : ℕ). v ∷ passing f (n - (v + 1)) u) (sym (add-one v))

  passing_later : v < n → f v ≡ false → passing f (n - v) v ≡ passing f (n - (v + 1)) (v + 1)
  unfolding passing with_node
  passing_later h e =
      ap (λ (k : ℕ). passing f k v) (one_left h)
      ∙ ap (λ (b : Bool). with_node b v (passing f (n - (v + 1)) (suc v))) e
      ∙ ap (λ (u : ℕ). passing f (n - (v + 1)) u) (sym (add-one v))

  passing_none : n ≤ v → passing f (n - v) v ≡ []
  unfolding passing
  passing_none h = let z : n - v ≡ 0 = omega arith in ap (λ (k : ℕ). passing f k v) z

-- k nodes that do not pass
passed : (f : ℕ → Bool) (n v k : ℕ) → v + k ≤ n → ((i : ℕ) → v ≤ i → i < v + k → f i ≡ false) → passing f (n - v) v ≡ passing f (n - (v + k)) (v + k)
passed f n v zero low none = ap (λ (u : ℕ). passing f (n - u) u) {y = v + 0} (omega arith)
passed f n v (suc k) low none =
    passing_later f n v (omega arith) (none v (omega arith) (omega arith))
    ∙ passed f n (v + 1) k (omega arith) (λ i a b. none i (omega arith) (omega arith))
    ∙ ap (λ (u : ℕ). passing f (n - u) u) {y = v + suc k} (omega arith)

passed_up_to : (f : ℕ → Bool) (n v u : ℕ) → v ≤ u → u ≤ n → ((i : ℕ) → v ≤ i → i < u → f i ≡ false) → passing f (n - v) v ≡ passing f (n - u) u
passed_up_to f n v u low high none =
    passed f n v (u - v) (omega arith) (λ i a b. none i a (omega arith)) ∙ ap (λ (w : ℕ). passing f (n - w) w) {y = u} (omega arith)

-- what is read at a node that may have a line
abbrev pub read : (distances : List ℕ) → (v : ℕ) → Bool
read ds v = not (eqb (get_or ds v 0) no_distance)

module _ (ds : List ℕ) (from n : ℕ) (all : n ≡ min (length ds) most_nodes) where
  read_so : (v : ℕ) → v < n → has_distance ds v ≡ read ds v
  unfolding has_distance
  read_so v h = ap (λ (d : ℕ). not (eqb d no_distance)) (get_or_default ds v no_distance 0 (omega arith))

  pub first_passing : (r : Option ℕ) →
      MatchOption r ((v : ℕ) → from ≤ v → v < n → read ds v ≡ false)
      (λ u. (from ≤ u) × (u < n) × (read ds u ≡ true) × ((v : ℕ) → from ≤ v → v < u → read ds v ≡ false)) → FirstWithDistance ds from r
  unfolding node_count
  first_passing None none =
      rw (← all)
      (⊎_elim
      (λ (h : from < n).
      passed_up_to (has_distance ds) n from n (omega arith) (omega arith) (λ v a b. read_so v b ∙ none v a b)
      ∙ passing_none (has_distance ds) n n (omega arith))
      (λ (h : n ≤ from). passing_none (has_distance ds) n from h)
      (cases_lt from n))
  first_passing (Some u) f =
      rw (← all) (
        omega (arith, f.1, all),
        passed_up_to (has_distance ds) n from u f.0 (omega (arith, f.1)) (λ v a b. read_so v (omega (arith, f.1)) ∙ f.3 v a b)
            ∙ passing_here (has_distance ds) n u f.1 (read_so u f.1 ∙ f.2),
      )
