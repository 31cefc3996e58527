-- The sum over the stages in closed form: 6 (1(n − 1) + 2(n − 2) + .. + n·0) is n³ − n. Assumes nothing.
use mathlib.Core.Path.{◌≡◌, refl, ap, ◌∙◌}
use Prim.Native.Nat.{ℕ, zero, suc, ◌+◌, ◌*◌, ◌-◌, ◌/◌, ◌≤◌}
use native.Mathlib.Omega.{arith}
use native.Mathlib.Nat.{mul-add, mul-suc, suc-mul, mul-zero, mul_comm, mul_assoc, add-mul}
use Rattle.auction.specs.Auction.{most_iterations}
use Rattle.auction.proofs.Invariant.Potential.{stages}

-- squares and cubes of a successor
square_suc : (r : ℕ) → suc r * suc r ≡ r * r + (r + suc r)
square_suc r = omega (arith, mul-suc (suc r) r, suc-mul r r)

cube_suc : (r : ℕ) → suc r * suc r * suc r ≡ r * r * r + (3 * (r * r) + (3 * r + 1))
cube_suc r =
    let a : suc r * suc r * r ≡ r * r * r + (r + suc r) * r = ap (λ (s : ℕ). s * r) (square_suc r) ∙ add-mul (r * r) (r + suc r) r in
    omega (arith, mul-suc (suc r * suc r) r, square_suc r, add-mul r (suc r) r, suc-mul r r)

weighted_suc : (n r : ℕ) → n * (suc r * suc r) ≡ n * (r * r) + (2 * (n * r) + n)
weighted_suc n r =
    let a : n * (suc r * suc r) ≡ n * (r * r) + n * (r + suc r) = ap (λ (s : ℕ). n * s) (square_suc r) ∙ mul-add n (r * r) (r + suc r) in
    omega (arith, mul-add n r (suc r), mul-suc n r)

-- 6 S + r(r + 1)(2r + 1) = 3n r(r + 1)
closed : (n r : ℕ) → r ≤ n → 6 * stages n r + (2 * (r * r * r) + (3 * (r * r) + r)) ≡ 3 * (n * (r * r)) + 3 * (n * r)
unfolding stages
closed n zero h = omega (arith, mul-zero n)
closed n (suc r) h =
    let rest : n ≡ (n - suc r) + suc r = omega arith in
    let split : suc r * n ≡ suc r * (n - suc r) + suc r * suc r = ap (λ (k : ℕ). suc r * k) rest ∙ mul-add (suc r) (n - suc r) (suc r) in
    omega
    (arith, closed n r (omega arith), cube_suc r, square_suc r, weighted_suc n r, mul-suc n r, suc-mul r n, mul_comm r n, split)

pub stages_closed : (n : ℕ) → 6 * stages n n + n ≡ n * n * n
stages_closed n = omega (arith, closed n n (omega arith), mul_assoc n n n)

pub stages_rise : (n r k : ℕ) → stages n r ≤ stages n (r + k)
unfolding stages
stages_rise n r zero = let e : r + 0 ≡ r = omega arith in omega (arith, ap (stages n) e)
stages_rise n r (suc k) =
    let e : r + suc k ≡ suc (r + k) = omega arith in
    let up : stages n (suc (r + k)) ≡ stages n (r + k) + suc (r + k) * (n - suc (r + k)) = refl in
    omega (arith, ap (stages n) e, stages_rise n r k)

pub stages_most : (n r : ℕ) → r ≤ n → stages n r ≤ stages n n
stages_most n r h = let e : r + (n - r) ≡ n = omega arith in omega (arith, stages_rise n r (n - r), ap (stages n) e)

pub sharper : (n : ℕ) → 1 ≤ n → (n * n * n - n) / 3 + 3 * (n - 1) ≡ 2 * stages n n + 3 * (n - 1)
sharper n h = omega (arith, stages_closed n)

pub demanded : (n : ℕ) → 1 ≤ n → most_iterations n ≡ 4 * stages n n + 3 * (n - 1)
unfolding most_iterations
demanded n h = omega (arith, stages_closed n)
