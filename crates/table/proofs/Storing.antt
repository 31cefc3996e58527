-- Storing a list into a buffer, one element or one piece at a time. Assumes nothing.
use mathlib.Core.List.{List, [], ◌∷◌, ◌++◌, append-nil, append_assoc}
use mathlib.Core.Path.{◌≡◌, refl, ◌∙◌}
use Prim.Native.Nat.{ℕ, suc, ◌+◌, ◌≤◌}
use native.Mathlib.Nat.{add-zero, zero-add}
use native.Mathlib.Numerals.{add-one}
use native.Mathlib.Omega.{arith}
use lib.ListN.{length, take, set, length-set, drop, length-drop, drop_of_length-le}
use lib.Seq.{sets, sets-eq, drop-drop, length-take-le, take_at, drop-append_seam}
use Rattle.table.specs.Slices.{over}
use borrow.Rule.Slice.PartMut.{mid_of, put_mid}

-- two pieces stored one after the other
pub sets_append : (xs ys l : List ℕ) (i : ℕ) → sets l i (xs ++ ys) ≡ sets (sets l i xs) (i + length xs) ys
sets_append [] ys l i = rw (add-zero i)
sets_append (x ∷ xs) ys l i = let e : suc i + length xs ≡ i + suc (length xs) = omega arith in sets_append xs ys (set l i x) (suc i) ∙ rw e

-- Of a list to be stored in a buffer from an index on, the elements that are left, stored from i on, give the buffer with all of them.
pub record Column (first : List ℕ) (start : ℕ) (all buffer : List ℕ) (i : ℕ) (left : List ℕ) : Type 0 where
  -- the buffer is as long as it was
  pub kept : length buffer ≡ length first
  -- storing the rest makes it whole
  pub same : sets buffer i left ≡ sets first start all

pub column_next : {first : List ℕ} {start : ℕ} {all buffer : List ℕ} {i x : ℕ} {left : List ℕ} → Column first start all buffer i (x ∷ left)
    → Column first start all (set buffer i x) (i + 1) left
column_next {first} {start} {all} {buffer} {i} {x} {left} k =
    record { kept = length-set buffer i x ∙ k.kept; same = rw (add-one i) k.same }

-- a list stored over a whole part of the buffer
part_stored : (vs l : List ℕ) (a k : ℕ) → a + k ≤ length l → length vs ≡ k → put_mid a k l (sets (mid_of a k l) 0 vs) ≡ sets l a vs
part_stored vs l a k fits e =
    let size : length (mid_of a k l) ≡ k = length-take-le k (drop a l) (rw length-drop (omega arith)) in
    let none_left : drop (0 + length vs) (mid_of a k l) ≡ [] = drop_of_length-le (mid_of a k l) (omega arith) in
    let whole : sets (mid_of a k l) 0 vs ≡ vs = sets-eq vs (mid_of a k l) 0 (omega arith) ∙ rw (none_left, append-nil) in
    let rest : drop k (drop a l) ≡ drop (a + length vs) l = rw drop-drop (rw e refl) in
    rw (whole, rest, sets-eq vs l a (omega arith), append_assoc)

-- a part of the buffer that was stored into, as many elements as it has, put back in its place
pub part_done : (l : List ℕ) (a k : ℕ) {vs part : List ℕ} {i : ℕ} → Column (mid_of a k l) 0 vs part i [] → a + k ≤ length l → length vs ≡ k → put_mid a k l part ≡ sets l a vs
part_done l a k {vs} column fits size = rw column.same (part_stored vs l a k fits size)

-- the same of a part at the buffer's start
pub start_done : (l : List ℕ) (k : ℕ) {vs part : List ℕ} {i : ℕ} → Column (take k l) 0 vs part i [] → k ≤ length l → length vs ≡ k → part ++ drop k l ≡ sets l 0 vs
start_done l k column fits size = part_done l 0 k column (omega arith) size

-- a list stored from the start of the buffer
pub sets_over : (xs buffer : List ℕ) → length xs ≤ length buffer → sets buffer 0 xs ≡ over xs buffer
unfolding over
sets_over xs buffer h = sets-eq xs buffer 0 (rw (zero-add (length xs)) h) ∙ rw (zero-add (length xs))

-- a list at the start of a buffer is there, and the rest is as it was
pub start_of : (xs buffer : List ℕ) (k : ℕ) → length xs ≡ k → take k (over xs buffer) ≡ xs
unfolding over
start_of xs buffer k e = take_at xs (drop (length xs) buffer) k e

pub rest_of : (xs buffer : List ℕ) (k : ℕ) → length xs ≡ k → drop k (over xs buffer) ≡ drop k buffer
unfolding over
rest_of xs buffer k e = rw (← e) (drop-append_seam xs (drop (length xs) buffer))
