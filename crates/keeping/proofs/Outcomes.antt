-- Keeping by its ways out: number 0 is the choice, any other number a refusal. Assumes nothing.
use mathlib.Core.Path.{◌≡◌, refl, sym, ap, subst, ◌∙◌}
use mathlib.Core.List.{List, []}
use mathlib.Core.Logic.{inr}
use Prim.Native.Nat.{ℕ}
use native.Mathlib.Omega.{arith}
use Rattle.table.specs.Table.{Table}
use Rattle.auction.specs.HandOver.{Answer}
use Rattle.auction.specs.Plan.{refused_plan}
use Rattle.auction.proofs.Made.{refusal_numbered, refused_alike}
use Rattle.keeping.specs.declared.Kept.{Kept}
use Rattle.keeping.specs.Keeping.{table_in, kept, keep, is_standing, given}
use Rattle.keeping.specs.Promises.{KeptShort, KeepRefused}
use Rattle.keeping.proofs.Answers.{Way, refuses, no_walk, chooses, way}
use Rattle.keeping.proofs.Choices.{chooses_short, choice_number}

module _ (n : ℕ) (ts hs ls standing fresh : List ℕ) where
  abbrev t : Table
  t = table_in n ts hs ls

  abbrev k : Kept
  k = keep n ts hs ls standing fresh

  abbrev Short : Kept → Type 0
  Short a = KeptShort t standing fresh (given a standing fresh) a

  abbrev Refused : Kept → Type 0
  Refused a = KeepRefused n ts hs ls fresh (given a standing fresh) a

  short_by : Way n ts hs ls standing fresh → k.number ≡ 0 → Short k
  unfolding kept
  short_by (refuses d numbers e) z = absurd (d (ap (λ (a : Kept). a.number) (sym e) ∙ z))
  short_by (no_walk f e) z = absurd (omega (arith, ap (λ (a : Kept). a.number) e, z))
  short_by (chooses d f e) z = subst Short (sym e) (chooses_short t standing fresh d f)

  refused_by : Way n ts hs ls standing fresh → (k.number ≡ 0 → ⊥) → Refused k
  unfolding kept given is_standing refused_plan
  refused_by (refuses d numbers e) z =
      subst Refused (sym e)
      (record {
        numbers = numbers;
        nothing = (refl, refl, refl);
        as_planned = λ other ds ps tr ms la lb lc ld.
            let planned = refused_alike n 0 ts hs ls [] ds ps tr ms d la lb lc ld in
            (ap (λ (a : Answer). a.number) (sym planned), ap (λ (a : Answer). a.place) (sym planned));
        no_walk = λ q. absurd (omega (arith, (refusal_numbered n 0 ts hs ls [] []).0, q));
      })
  refused_by (no_walk f e) z =
      subst Refused (sym e)
      (record {
        numbers = inr (inr (inr (inr refl)));
        nothing = (refl, refl, refl);
        as_planned = λ other ds ps tr ms la lb lc ld. absurd (other refl);
        no_walk = λ q. (f, refl);
      })
  refused_by (chooses d f e) z = absurd (z (ap (λ (a : Kept). a.number) e ∙ choice_number t standing fresh))

  pub short : k.number ≡ 0 → Short k
  short = short_by (way n ts hs ls standing fresh)

  pub refused : (k.number ≡ 0 → ⊥) → Refused k
  refused = refused_by (way n ts hs ls standing fresh)
