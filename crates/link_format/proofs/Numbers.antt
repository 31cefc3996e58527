-- Numbers and their bytes: writing and then reading a number of so many bytes gives it back, and so does reading and then writing. One law for
-- every width. Assumes nothing.
use mathlib.Core.Path.{◌≡◌, refl, ap}
use mathlib.Core.List.{List, [], ◌∷◌, ◌++◌}
use Prim.Native.Nat.{ℕ, zero, suc, ◌+◌, ◌*◌, ◌/◌, ◌%◌, ◌^◌, ◌≤◌, ◌<◌}
use native.Mathlib.Omega.{arith}
use lib.ListN.{length, take, drop, get_or}
use lib.Seq.{drop-cons, get_or-drop}
use Rattle.table.specs.Table.{Below}
use Rattle.link_format.specs.Format.{bytes}
use Rattle.link_format.specs.Reading.{number}

-- one byte more, from the highest down
pub number_more : (k j : ℕ) (part : List ℕ) → j < length part
    → number (suc k) (drop j part) ≡ number k (drop (suc j) part) * 256 + get_or part j 0
unfolding number
number_more k j part h = rw (drop-cons part j 0 h)

pub number_small : (w : ℕ) (bs : List ℕ) → Below 256 bs → number w bs < 256 ^ w
unfolding number Below
number_small zero bs h = omega arith
number_small (suc w) [] h = let ih : number w [] < 256 ^ w = number_small w [] h in omega arith
number_small (suc w) (b ∷ bs) h = let ih : number w bs < 256 ^ w = number_small w bs (λ (i : ℕ). h (suc i)) in omega (arith, h 0)

pub below_drop : (b k : ℕ) (xs : List ℕ) → Below b xs → Below b (drop k xs)
unfolding Below
below_drop b k xs h = λ (i : ℕ). rw (get_or-drop k xs i 0) (h (k + i))

pub length_bytes : (w v : ℕ) → length (bytes w v) ≡ w
unfolding bytes
length_bytes zero v = refl
length_bytes (suc w) v = ap suc (length_bytes w (v / 256))

-- what was written is read
pub number_bytes : (w v : ℕ) (rest : List ℕ) → v < 256 ^ w → number w (bytes w v ++ rest) ≡ v
unfolding number bytes
number_bytes zero v rest h = omega arith
number_bytes (suc w) v rest h =
    let ih : number w (bytes w (v / 256) ++ rest) ≡ v / 256 = number_bytes w (v / 256) rest (omega arith) in
    omega arith

-- what was read is written
pub bytes_number : (w : ℕ) (bs : List ℕ) → Below 256 bs → w ≤ length bs → bytes w (number w bs) ≡ take w bs
unfolding number bytes Below
bytes_number zero bs h k = refl
bytes_number (suc w) [] h k = absurd (omega arith)
bytes_number (suc w) (b ∷ bs) h k =
    let low : (number w bs * 256 + b) % 256 ≡ b = omega (arith, h 0) in
    let high : (number w bs * 256 + b) / 256 ≡ number w bs = omega (arith, h 0) in
    rw (low, high, bytes_number w bs (λ (i : ℕ). h (suc i)) (omega arith))

-- a number of at most three bytes leaves room for one more in 32 bits
pub three_bytes : (k : ℕ) → k ≤ 3 → 256 ^ k ≤ 16777216
three_bytes zero h = omega arith
three_bytes (suc zero) h = omega arith
three_bytes (suc (suc zero)) h = omega arith
three_bytes (suc (suc (suc zero))) h = omega arith
three_bytes (suc (suc (suc (suc k)))) h = absurd (omega arith)
