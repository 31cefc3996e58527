-- What the buffers held before a plan does not show on its sheet: a plan that is made fills them, and one that is refused prints one line. Assumes nothing.
use mathlib.Core.Path.{◌≡◌, sym, ap, ◌∙◌}
use mathlib.Core.Bool.{Bool, cond}
use mathlib.Core.List.{List, [], ◌∷◌}
use mathlib.Core.Logic.{⊎_elim}
use Prim.Native.Nat.{ℕ}
use native.Mathlib.Omega.{arith}
use lib.ListN.{length}
use borrow.Author.Tests.{ne_eqb}
use Rattle.std.proofs.lemmas.Bool.{cases_eq}
use Rattle.table.specs.Table.{table_of}
use Rattle.table.specs.Refusals.{Refusal}
use Rattle.auction.specs.HandOver.{Answer}
use Rattle.auction.specs.Plan.{plan_refusal, plan, routes_of, refused_plan}
use Rattle.auction.proofs.Made.{refusal_low, routes_so}
use Rattle.sheet.specs.Sheet.{finished, refused_line, sheet}
use Rattle.sheet.specs.Promises.{RefusalsPrinted}
use Rattle.sheet.proofs.Promised.{refusals_printed}

module _ (n o : ℕ) (ts hs ls ws : List ℕ) where
  refused_line_only : (ds ps tr ms : List ℕ) → ((plan_refusal n o ts hs ls ws ds ps tr ms).number ≡ 0 → ⊥) →
      sheet (finished o ts hs ws (plan n o ts hs ls ws ds ps tr ms))
      ≡ refused_line (plan_refusal n o ts hs ls ws ds ps tr ms).number (plan_refusal n o ts hs ls ws ds ps tr ms).place ∷ []
  unfolding plan refused_plan RefusalsPrinted
  refused_line_only ds ps tr ms d =
      let f = plan_refusal n o ts hs ls ws ds ps tr ms in
      let so : plan n o ts hs ls ws ds ps tr ms ≡ refused_plan f ds ps tr ms =
      ap (λ (b : Bool). cond b (routes_of (table_of n o ts hs ls) ws) (refused_plan f ds ps tr ms)) (ne_eqb f.number 0 d) in
      ap (λ (a : Answer). sheet (finished o ts hs ws a)) so
      ∙ refusals_printed (finished o ts hs ws (refused_plan f ds ps tr ms)) d (λ e. omega (arith, refusal_low n o ts hs ls ws ds ps tr ms))

  pub unseen : (ds ps tr ms ds' ps' tr' ms' : List ℕ) → length ds ≡ length ds' → length ps ≡ length ps' → length tr ≡ length tr' → length ms ≡ length ms' →
      sheet (finished o ts hs ws (plan n o ts hs ls ws ds ps tr ms)) ≡ sheet (finished o ts hs ws (plan n o ts hs ls ws ds' ps' tr' ms'))
  unfolding plan_refusal
  unseen ds ps tr ms ds' ps' tr' ms' a b c d =
      let same : plan_refusal n o ts hs ls ws ds ps tr ms ≡ plan_refusal n o ts hs ls ws ds' ps' tr' ms' = rw (a, b, c, d) in
      ⊎_elim
      (λ (z : (plan_refusal n o ts hs ls ws ds ps tr ms).number ≡ 0).
      ap (λ (x : Answer). sheet (finished o ts hs ws x))
      (routes_so n o ts hs ls ws ds ps tr ms z ∙ sym (routes_so n o ts hs ls ws ds' ps' tr' ms' (ap (λ (f : Refusal). f.number) (sym same) ∙ z))))
      (λ (z : (plan_refusal n o ts hs ls ws ds ps tr ms).number ≡ 0 → ⊥).
      refused_line_only ds ps tr ms z
      ∙ ap (λ (f : Refusal). refused_line f.number f.place ∷ []) same
      ∙ sym (refused_line_only ds' ps' tr' ms' (λ e. z (ap (λ (f : Refusal). f.number) same ∙ e))))
      (cases_eq (plan_refusal n o ts hs ls ws ds ps tr ms).number 0)
