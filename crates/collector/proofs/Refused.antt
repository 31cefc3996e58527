-- A table is refused as its exchanged table is: by the same number, at the same place. Assumes nothing.
use mathlib.Core.Path.{◌≡◌, refl, sym, ap, ◌∙◌}
use mathlib.Core.Bool.{true, or_comm}
use mathlib.Core.List.{List, [], ◌∷◌, map}
use mathlib.Core.Logic.{⊎_elim}
use Prim.Native.Nat.{ℕ, suc}
use lib.Dec.{leb}
use lib.ListN.{length}
use borrow.Author.Tests.{ne_eqb}
use Rattle.std.proofs.lemmas.Bool.{cases_eq}
use Rattle.table.specs.Table.{Arc, arc, arcs_of}
use Rattle.table.specs.Refusals.{columns_bad, arc_fault, arcs_from, arcs_refusal, table_refusal}
use Rattle.auction.specs.Plan.{plan_refusal}
use Rattle.collector.specs.Exchanged.{exchanged_arc}
use Rattle.collector.proofs.Exchange.{columns}

-- 2: columns of unequal length, in either order
unequal : (a b l : ℕ) → (a ≡ b → ⊥) → columns_bad a b l ≡ true
unfolding columns_bad
unequal a b l d = rw (ne_eqb a b d)

-- 6 and 7: an arc's ends, and its length
arcs_alike : (i n : ℕ) (arcs : List Arc) → arcs_from i n (map exchanged_arc arcs) ≡ arcs_from i n arcs
unfolding arcs_from arc_fault exchanged_arc arc
arcs_alike i n [] = refl
arcs_alike i n (a ∷ more) = rw (or_comm (leb n a.head) (leb n a.tail), arcs_alike (suc i) n more)

arcs_refused_alike : (n : ℕ) (ts hs ls : List ℕ) → arcs_refusal n (arcs_of hs ts ls) ≡ arcs_refusal n (arcs_of ts hs ls)
unfolding arcs_refusal
arcs_refused_alike n ts hs ls = ap (arcs_from 0 n) (columns ts hs ls) ∙ arcs_alike 0 n (arcs_of ts hs ls)

pub refused_alike : (n c : ℕ) (ts hs ls ss ds ps tr ms : List ℕ) → plan_refusal n c hs ts ls ss ds ps tr ms ≡ plan_refusal n c ts hs ls ss ds ps tr ms
unfolding plan_refusal table_refusal
refused_alike n c ts hs ls ss ds ps tr ms =
    ⊎_elim (λ (e : length ts ≡ length hs). rw (e, arcs_refused_alike n ts hs ls))
    (λ (d : length ts ≡ length hs → ⊥).
    rw (unequal (length ts) (length hs) (length ls) d, unequal (length hs) (length ts) (length ls) (λ e. d (sym e))))
    (cases_eq (length ts) (length hs))
