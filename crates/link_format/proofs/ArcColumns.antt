-- Arcs of columns of 16 and 32 bits. Assumes nothing.
use mathlib.Core.List.{List, [], ◌∷◌}
use Prim.Native.Nat.{ℕ, suc}
use Rattle.table.specs.Table.{arc, arcs_of, Below}
use Rattle.link_format.specs.Promises.{SmallArcs}

pub small_arcs : (ts hs ls : List ℕ) → Below 65536 ts → Below 65536 hs → Below 4294967296 ls → SmallArcs (arcs_of ts hs ls)
unfolding arcs_of SmallArcs Below arc
small_arcs [] hs ls a b c = tt
small_arcs (t ∷ ts) [] ls a b c = tt
small_arcs (t ∷ ts) (h ∷ hs) [] a b c = tt
small_arcs (t ∷ ts) (h ∷ hs) (l ∷ ls) a b c = (
  record { tail_fits = a 0; head_fits = b 0; length_fits = c 0 },
  small_arcs ts hs ls (λ (i : ℕ). a (suc i)) (λ (i : ℕ). b (suc i)) (λ (i : ℕ). c (suc i)),
)
