-- Which iteration leads from a state to the next. Assumes nothing.
use mathlib.Core.Path.{◌≡◌, refl, sym, ap, ◌∙◌}
use mathlib.Core.Bool.{Bool, true, false, cond}
use mathlib.Core.Logic.{⊎_elim}
use mathlib.Core.Option.{Option, none, some}
use Prim.Native.Nat.{◌≤◌, ◌<◌}
use lib.Dec.{ltb, eqb}
use borrow.Author.Tests.{ltb-true, ltb-false, eqb-false}
use Rattle.std.proofs.lemmas.Bool.{cases_Bool}
use Rattle.table.specs.Table.{Table, head_at}
use Rattle.auction.specs.Auction.{State, Bid, price_at, terminal, best, deletion, contraction, extension, iteration, next}
use Rattle.table.proofs.Basics.{some_none, some_same}

-- a deletion, where there is no bid; a contraction, where the best bid is above the price; else an extension
pub data Kind (t : Table) (x y : State) : Type 0 where
  deletes : best t (terminal x) x ≡ none → (terminal x ≡ t.origin → ⊥) → deletion (terminal x) x ≡ y → Kind t x y
  contracts : (b : Bid) → best t (terminal x) x ≡ some b → price_at x (terminal x) < b.value → contraction t (terminal x) b.value x ≡ y → Kind t x y
  extends : (b : Bid) → best t (terminal x) x ≡ some b → b.value ≤ price_at x (terminal x) → extension t (head_at t b.by_arc) x ≡ y → Kind t x y

module _ (t : Table) (x y : State) where
  by_bid : (o : Option Bid) → best t (terminal x) x ≡ o → iteration o t (terminal x) x ≡ some y → Kind t x y
  unfolding iteration
  by_bid none none_there e =
      let left : Bool → Option State = λ c. cond c none (some (deletion (terminal x) x)) in
      ⊎_elim (λ (h : eqb (terminal x) t.origin ≡ true). absurd (some_none e (ap left h)))
      (λ (h : eqb (terminal x) t.origin ≡ false).
      deletes none_there (eqb-false (terminal x) t.origin h) (some_same refl (sym (ap left h) ∙ e)))
      (cases_Bool (eqb (terminal x) t.origin))
  by_bid (some b) there e =
      let price = price_at x (terminal x) in
      let changed : Bool → Option State = λ c. some (cond c (contraction t (terminal x) b.value x) (extension t (head_at t b.by_arc) x)) in
      ⊎_elim (λ (h : ltb price b.value ≡ true). contracts b there (ltb-true price b.value h) (some_same refl (sym (ap changed h) ∙ e)))
      (λ (h : ltb price b.value ≡ false). extends b there (ltb-false price b.value h) (some_same refl (sym (ap changed h) ∙ e)))
      (cases_Bool (ltb price b.value))

  pub kind : next t x ≡ some y → Kind t x y
  unfolding next
  kind e = by_bid (best t (terminal x) x) refl e
