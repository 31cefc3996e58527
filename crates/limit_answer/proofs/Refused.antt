-- What is answered where the table is refused, and where it is not. Assumes nothing.
use mathlib.Core.Path.{◌≡◌, sym, ap, ◌∙◌}
use mathlib.Core.List.{List, [], ◌∷◌}
use Prim.Native.Nat.{ℕ, ◌^◌}
use borrow.Author.Tests.{eq-eqb, ne_eqb}
use Rattle.table.specs.Table.{table_of, Below}
use Rattle.table.specs.Refusals.{Refusal}
use Rattle.auction.proofs.Made.{Unrefused, unrefused}
use Rattle.limit_answer.specs.Answer.{within, limit_refusal, limit_of, within_limit}

module _ (n o v : ℕ) (ts hs ls : List ℕ) where
  module _ (f : Refusal) (e : f ≡ limit_refusal n o v ts hs ls) where
    -- where none applies
    pub fine : Below (2 ^ 32) ls → f.number ≡ 0 → Unrefused n o ts hs ls (v ∷ []) []
    unfolding limit_refusal
    fine low z = unrefused n o ts hs ls (v ∷ []) [] low (ap (λ (g : Refusal). g.number) (sym e) ∙ z)

    -- THE ANSWER
    pub asked : (limit : ℕ) → f.number ≡ 0 → within_limit n o v limit ts hs ls ≡ limit_of (table_of n o ts hs ls) v limit
    unfolding within_limit
    asked limit z = rw (← e, eq-eqb f.number 0 z)

    pub refused : (limit : ℕ) → (f.number ≡ 0 → ⊥) → within_limit n o v limit ts hs ls ≡ within f.number f.place 0 0
    unfolding within_limit
    refused limit d = rw (← e, ne_eqb f.number 0 d)
