-- From the run within a limit to its answer, and what the code tests. Assumes nothing.
use mathlib.Core.Path.{◌≡◌, refl, sym, ap, subst, ◌∙◌}
use mathlib.Core.Bool.{Bool, true, false, cond}
use mir.Val.{bool_byte}
use mathlib.Core.List.{List, [], ◌∷◌}
use Prim.Native.Nat.{ℕ}
use lib.Dec.{eqb}
use lib.ListN.{length}
use Rattle.table.specs.Table.{Table}
use Rattle.table.specs.Refusals.{Refusal, table_refusal}
use Rattle.auction.specs.Auction.{State, was_reached, iterations}
use Rattle.auction.specs.Limit.{limited, limited_state}
use Rattle.auction.specs.Plan.{rooms}
use Rattle.auction.proofs.Limit.{alone}
use Rattle.limit_answer.specs.Answer.{within, limit_refusal, limit_of}
use Rattle.auction.proofs.Made.{fitting, without_rooms}
use Rattle.solver.specs.Runs.{RanWithin}
use Rattle.planner.proofs.Planning.{all_found}

-- a truth value as a number
pub one_if : (b : Bool) → bool_byte b ≡ cond b 1 0
one_if true = refl
one_if false = refl

-- AFTER THE RUN
pub limit_so : (t : Table) (ws : List ℕ) (v limit m c found i : ℕ) (x : State) → ws ≡ v ∷ [] → RanWithin t ws limit m c x → found ≡ cond (eqb m (length ws)) 1 0 →
    i ≡ iterations x → within 0 0 found i ≡ limit_of t v limit
unfolding limit_of limited_state
limit_so t ws v limit m c found i x e ran so count =
    let ran_alone = subst (λ (l : List ℕ). RanWithin t l limit m c x) e ran in
    let reached : was_reached (limited t (v ∷ []) limit).last v ≡ eqb m (length ws) =
    ap (λ (z : State). was_reached z v) ran_alone.last_so ∙ sym (alone v x) ∙ all_found ran_alone ∙ ap (λ (l : List ℕ). eqb m (length l)) (sym e) in
    rw (so, count, reached, ran_alone.last_so)

-- THE REFUSALS: no buffers are lent, so the code tests lengths that fit
pub refusal_so : (n o v : ℕ) (ts hs ls : List ℕ) (f : Refusal) → f ≡ table_refusal n o ts hs ls (v ∷ []) (rooms n (length ts) n n n (length ts)) →
    f ≡ limit_refusal n o v ts hs ls
unfolding limit_refusal
refusal_so n o v ts hs ls f e = e ∙ without_rooms n o ts hs ls (v ∷ []) _ (fitting n (length ts) refl refl refl refl)
