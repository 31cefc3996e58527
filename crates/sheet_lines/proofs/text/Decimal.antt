-- `io::decimal`'s fewest digits are as many as `places` says, at most 20. Assumes nothing.
use mathlib.Core.Path.{◌≡◌, sym, ap}
use mathlib.Core.Logic.{⊎_elim}
use Prim.Native.Nat.{ℕ, zero, suc, ◌+◌, ◌-◌, ◌^◌, ◌≤◌, ◌<◌}
use native.Mathlib.Omega.{arith}
use native.Mathlib.Nat.{pow-le-pow_right, le_trans}
use borrow.Author.Tests.{lt-ltb, le-ltb}
use Rattle.std.proofs.lemmas.Bool.{cases_eq, cases_lt}
use Rattle.io.specs.Digits.{last_digits, IsDigitCount}
use Rattle.sheet.specs.Text.{places_from, places, decimal}

tens_rise : (a b : ℕ) → a ≤ b → 10 ^ a ≤ 10 ^ b
tens_rise a b h = pow-le-pow_right (omega arith) h

module _ (n k : ℕ) (f : IsDigitCount 10 1 n k) where
  -- a shorter text holds less
  too_few : (j : ℕ) → 1 ≤ j → j < k → 10 ^ j ≤ n
  too_few j p h = le_trans (tens_rise j (k - 1) (omega arith)) (f.2 (omega arith))

  found : (l j : ℕ) → 1 ≤ j → j ≤ k → k ≤ j + l → places_from l j n ≡ k
  unfolding places_from
  found zero j p h b = omega arith
  found (suc l) j p h b =
      ⊎_elim (λ (e : j ≡ k). rw (lt-ltb n (10 ^ j) (omega (arith, f.1, ap (λ (a : ℕ). 10 ^ a) e))) e)
      (λ (d : j ≡ k → ⊥). rw (le-ltb n (10 ^ j) (too_few j p (omega arith))) (found l (suc j) (omega arith) (omega arith) (omega arith)))
      (cases_eq j k)

  module _ (small : n < 2 ^ 64) where
    few : k ≤ 20
    few =
        ⊎_elim (λ (h : 20 < k). absurd (omega (arith, too_few 20 (omega arith) h, small))) (λ (h : k ≤ 20). h) (cases_lt 20 k)

    pub fewest_few : k ≤ 20
    fewest_few = few

    pub fewest_places : k ≡ places n
    unfolding places
    fewest_places = sym (found 19 1 (omega arith) f.0 (omega (arith, few)))

    pub fewest_decimal : last_digits 10 k n ≡ decimal n
    unfolding decimal
    fewest_decimal = ap (λ (a : ℕ). last_digits 10 a n) fewest_places
