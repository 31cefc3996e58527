-- The promise of specs/Promise.antt: an answer 0 or 8 is what the auction hands over, of which the demands hold. Assumes nothing.
use mathlib.Core.Path.{◌≡◌, sym, ap, subst, ◌∙◌}
use mathlib.Core.Bool.{true, false}
use mathlib.Core.List.{List}
use mathlib.Core.Logic.{◌⊎◌, inl, inr, ⊎_elim}
use Prim.Native.Nat.{ℕ}
use Rattle.std.proofs.lemmas.Bool.{cases_Bool}
use Rattle.table.specs.Table.{Table, table_of}
use Rattle.table.specs.Refusals.{refusal, no_refusal}
use Rattle.auction.specs.Auction.{auction}
use Rattle.auction.specs.HandOver.{Answer, handed_over, route_refusal}
use Rattle.auction.specs.Demands.{Demands, DemandsMet}
use Rattle.auction.proofs.Demanded.{demands_met}
use Rattle.auction.proofs.Made.{made, routes_so, refused_so}
use Rattle.auction.specs.Plan.{plan_refusal, plan, routes_of, refused_plan}
use Rattle.hand_over.specs.Answered.{answered}
use Rattle.planner.specs.Promise.{PlansKept, RefusalsTouchNothing}

pub plans_kept : PlansKept
unfolding PlansKept DemandsMet answered routes_of
plans_kept n o ts hs ls ws ds ps tr ms ds' ps' tr' ms' r fits e number =
    let t = table_of n o ts hs ls in
    let same : (plan n o ts hs ls ws ds ps tr ms).number ≡ r.number = ap (λ (a : Answer). a.number) (sym e) in
    let m =
    made n o ts hs ls ws ds ps tr ms fits
    (⊎_elim (λ (z : r.number ≡ 0). inl (same ∙ z)) (λ (z : r.number ≡ 8). inr (same ∙ z)) number) in
    subst (λ (a : Answer). Demands t ws a) (sym (e ∙ m.routes)) (demands_met t ws m.fine.table_good)

-- a table that is not refused gives number 0 or 8
route_number : (t : Table) (ws : List ℕ) → ((routes_of t ws).number ≡ 0) ⊎ ((routes_of t ws).number ≡ 8)
unfolding routes_of handed_over route_refusal no_refusal refusal
route_number t ws =
    ⊎_elim (λ (r : (auction t ws).routed ≡ true). inl (rw r)) (λ (r : (auction t ws).routed ≡ false). inr (rw r)) (cases_Bool (auction t ws).routed)

pub refusals_touch_nothing : RefusalsTouchNothing
unfolding RefusalsTouchNothing answered refused_plan
refusals_touch_nothing n o ts hs ls ws ds ps tr ms ds' ps' tr' ms' r e not_zero not_eight =
    let f = plan_refusal n o ts hs ls ws ds ps tr ms in
    let t = table_of n o ts hs ls in
    let refused : f.number ≡ 0 → ⊥ =
    λ z.
    let number : r.number ≡ (routes_of t ws).number = ap (λ (a : Answer). a.number) (e ∙ routes_so n o ts hs ls ws ds ps tr ms z) in
    ⊎_elim (λ (q : (routes_of t ws).number ≡ 0). not_zero (number ∙ q)) (λ (q : (routes_of t ws).number ≡ 8). not_eight (number ∙ q)) (route_number t ws) in
    let so : answered r ds' ps' tr' ms' ≡ refused_plan f ds ps tr ms = e ∙ refused_so n o ts hs ls ws ds ps tr ms refused in
    record {
      distances_stay = ap (λ (a : Answer). a.distances) so;
      prices_stay = ap (λ (a : Answer). a.prices) so;
      tree_stays = ap (λ (a : Answer). a.tree) so;
      marks_stay = ap (λ (a : Answer). a.marks) so;
      zeros = (
        ap (λ (a : Answer). a.reached) so,
        ap (λ (a : Answer). a.horizon) so,
        ap (λ (a : Answer). a.iterations) so,
        ap (λ (a : Answer). a.contractions) so,
        ap (λ (a : Answer). a.extensions) so,
        ap (λ (a : Answer). a.deletions) so,
        ap (λ (a : Answer). a.scans) so,
      );
    }
