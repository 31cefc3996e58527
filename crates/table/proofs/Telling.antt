-- What a check tells that hands out the first error: the refusal of the first test that refuses. Assumes nothing.
use mathlib.Core.Path.{◌≡◌, refl, ap, ◌∙◌}
use mathlib.Core.Bool.{Bool, true, false, cond}
use Prim.Native.Nat.{ℕ, ◌<◌}
use native.Mathlib.Omega.{arith}
use lib.Dec.{eqb}
use borrow.Author.Tests.{ne_eqb}
use Rattle.std.specs.Prelude.{Result, Ok, Err}
use Rattle.std.specs.Result.{IsErrAnd}
use Rattle.std.proofs.lemmas.Result.{err_from_is_err_and}
use Rattle.table.specs.declared.faults.Fault.{Fault}
use Rattle.table.specs.declared.faults.Fault.TheVariants.{NodeCount, Columns, Buffers, Origin, Wanted, ArcEnd, ArcLength, NoRoute, Cut, BitMap, ImpliedHead, Needless, Room, NoPath, NoWalk, LoadRange, LoadSize}
use Rattle.table.specs.declared.faults.Refusal.{Refusal}
use Rattle.table.specs.Refusals as told_as
use Rattle.table.specs.Told.{number, tells, told}
use Rattle.table.specs.Refusals.{refusal, no_refusal, or_else}

-- no fault has the number 0
pub numbered : (f : Fault) → number f ≡ 0 → ⊥
numbered NodeCount e = omega arith
numbered Columns e = omega arith
numbered Buffers e = omega arith
numbered Origin e = omega arith
numbered Wanted e = omega arith
numbered ArcEnd e = omega arith
numbered ArcLength e = omega arith
numbered NoRoute e = omega arith
numbered Cut e = omega arith
numbered BitMap e = omega arith
numbered ImpliedHead e = omega arith
numbered Needless e = omega arith
numbered Room e = omega arith
numbered NoPath e = omega arith
numbered NoWalk e = omega arith
numbered LoadRange e = omega arith
numbered LoadSize e = omega arith

-- a test that refuses, and another after it
pub first : (b : Bool) (k p : ℕ) (r : told_as.Refusal) → eqb k 0 ≡ false → cond b (refusal k p) r ≡ or_else (cond b (refusal k p) no_refusal) r
unfolding or_else no_refusal refusal
first true k p r e = rw e
first false k p r e = refl

-- a test that passes leaves it to those after it
pub goes_on : {a b x : told_as.Refusal} → no_refusal ≡ a → x ≡ b → x ≡ or_else a b
unfolding or_else no_refusal refusal
goes_on e f = rw (← e) f

-- one that refuses decides
pub stops : (r : Refusal) (a b : told_as.Refusal) → tells r ≡ a → tells r ≡ or_else a b
unfolding or_else refusal
stops r a b e = rw (← e, ne_eqb (number r.fault) 0 (numbered r.fault))

-- what `?` hands out: that of the last test, and that of one before others
pub handed_out : {T : Type 0} (r : Result T Refusal) (y : Refusal) → IsErrAnd r (λ e. e ≡ y) → told r ≡ tells y
handed_out (Ok x) y h = absurd h
handed_out (Err e) y h = ap tells h

pub ends : {T : Type 0} (r : Result T Refusal) (y : Refusal) (a b : told_as.Refusal) → IsErrAnd r (λ e. e ≡ y) → tells y ≡ a → told r ≡ or_else a b
ends r y a b h e = handed_out r y h ∙ stops y a b e

-- a test that fails, and one that passes
pub failed : (r : Refusal) (bad : Bool) (n p : ℕ) → tells r ≡ cond bad (refusal n p) no_refusal → (bad ≡ true) × (tells r ≡ refusal n p)
unfolding refusal no_refusal
failed r true n p e = (refl, e)
failed r false n p e = absurd (numbered r.fault (ap (λ (t : told_as.Refusal). t.number) e))

pub passed : (bad : Bool) (n p : ℕ) → 0 < n → no_refusal ≡ cond bad (refusal n p) no_refusal → bad ≡ false
unfolding refusal no_refusal
passed true n p some e = let zero : 0 ≡ n = ap (λ (t : told_as.Refusal). t.number) e in absurd (omega arith)
passed false n p some e = refl

-- the error that a `?` returns is the callee's
pub passed_on : {T E : Type 0} (r : Result T E) (e : E) → IsErrAnd r (λ x. x ≡ e) → r ≡ Err e
passed_on r e passed = let p = err_from_is_err_and r passed in rw p.2 at p.1
