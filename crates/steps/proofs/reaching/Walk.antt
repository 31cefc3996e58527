-- ALONG A NODE'S LIST: what its arcs before the one at p have left of the nodes, when they have been offered. Assumes nothing.
use mathlib.Core.Path.{◌≡◌, refl, sym, subst, ◌∙◌}
use mathlib.Core.List.{List}
use Prim.Native.Nat.{ℕ, ◌+◌, ◌<◌}
use native.Mathlib.Omega.{arith}
use lib.ListN.{length, get_or}
use Rattle.table.specs.Table.{Table, arc_count, no_arc, no_distance}
use Rattle.auction.specs.Auction.{offers}
use Rattle.forward_star.specs.declared.star.ForwardStar.{ForwardStar}
use Rattle.forward_star.specs.Lent.{IsStarOf}
use Rattle.forward_star.proofs.Along.{OnList}
use Rattle.steps.specs.declared.state.Node.{Node}
use Rattle.steps.specs.declared.state.Progress.{Progress}
use Rattle.steps.specs.Seen.{seen, run_of, held, prices_in, bounds_in, kepts_in, memory_in, statuses_in}
use Rattle.steps.specs.Memory.{Ready, Remembers, Remembering, but}
use Rattle.steps.specs.Steps.{Becomes}
use Rattle.steps.proofs.Nodes.{as_many}
use Rattle.steps.proofs.reaching.Offering.{Offering}
use Rattle.steps.proofs.reaching.Offering as offering
use Rattle.steps.proofs.reaching.Losing.{Forgetting, none_yet, one_more}
use Rattle.steps.proofs.reaching.Losing
use Rattle.steps.proofs.reaching.Offered.{NowOffered}

pub record Walk (star : ForwardStar) (v d : ℕ) (ns₀ ns : List Node) (p : ℕ) : Type 0 where
  -- no node comes or goes, and neither prices nor statuses change
  pub long : length ns ≡ length ns₀
  pub prices : prices_in ns ≡ prices_in ns₀
  pub statuses : statuses_in ns ≡ statuses_in ns₀
  -- the bounds and the kept arcs, which those from p on are left to change
  pub offering : Offering star.columns.heads.now star.columns.lengths.now star.first.now star.next.now v d
      (bounds_in ns₀) (kepts_in ns₀) (statuses_in ns₀) (bounds_in ns) (kepts_in ns) p
  -- what the nodes remember
  pub forgetting : Forgetting star.columns.heads.now star.columns.lengths.now star.first.now star.next.now star.columns.tails.now v
      (bounds_in ns₀) (kepts_in ns₀) (memory_in ns₀) (statuses_in ns₀) (bounds_in ns) (kepts_in ns) (memory_in ns)

module _ (star : ForwardStar) {v d : ℕ} {ns₀ : List Node} where
  pub begins : Ready star ns₀ → v < length star.first.now → get_or (bounds_in ns₀) v 0 ≡ d → Walk star v d ns₀ ns₀ (get_or star.first.now v 0)
  begins ready inside e =
      record {
        long = refl;
        prices = refl;
        statuses = refl;
        offering = offering.begins inside e;
        forgetting = none_yet (record { listed = λ u h. ready.kept_in.listed u (omega (arith, as_many (λ m. m.kept) ns₀)) });
      }

  pub on_list : {ns : List Node} {p : ℕ} → Walk star v d ns₀ ns p → (t : Table) → IsStarOf t star → OnList t v p
  on_list w t of = (w.offering.left_over t of).on_list

  pub goes_on : {ns ns' : List Node} {p : ℕ} (i j o : ℕ) → Walk star v d ns₀ ns p → Ready star ns₀ → i ≡ p → j ≡ get_or star.columns.heads.now p 0 →
      o ≡ d + get_or star.columns.lengths.now p 0 → (p ≡ no_arc → ⊥) → d < no_distance → v < length star.first.now → 0 < get_or (statuses_in ns₀) v 0 →
      j < length ns → p < length star.columns.tails.now → NowOffered j p o star.columns.tails.now ns ns' → Walk star v d ns₀ ns' (get_or star.next.now i 0)
  goes_on {ns} {ns'} {p} i j o w ready ei ej eo more fits inside reached head listed now =
      record {
        long = now.long ∙ w.long;
        prices = now.prices ∙ w.prices;
        statuses = now.statuses ∙ w.statuses;
        offering =
            offering.goes_on w.offering i j o ei ej eo more fits (omega (arith, as_many (λ m. m.bound) ns₀, ready.count)) reached
            (as_many (λ m. m.bound) ns' ∙ now.long ∙ sym (as_many (λ m. m.bound) ns)) (as_many (λ m. m.kept) ns' ∙ now.long ∙ sym (as_many (λ m. m.kept) ns))
            (subst (λ s. offering.ArcOffered j p o (bounds_in ns) (kepts_in ns) s (bounds_in ns') (kepts_in ns')) w.statuses now.offered);
        forgetting =
            one_more w.forgetting (λ t here. (w.offering.left_over t here).on_list) more listed ej
            (omega (arith, as_many (λ m. m.kept) ns)) (as_many (λ m. m.remembered) ns₀ ∙ ready.count)
            (as_many (λ m. m.remembered) ns' ∙ now.long ∙ sym (as_many (λ m. m.remembered) ns))
            (subst (λ s. Losing.GivesUp j p star.columns.tails.now s (kepts_in ns) (memory_in ns) (kepts_in ns') (memory_in ns')) w.statuses now.gives_up);
      }

  module _ {ns : List Node} {p : ℕ} (w : Walk star v d ns₀ ns p) (path : List ℕ) (g : Progress) where
    -- the state that is held now, by the columns as they were
    held_so : held (run_of path ns g) ≡ seen path (prices_in ns₀) (bounds_in ns) (kepts_in ns) (statuses_in ns₀) g
    held_so = rw (w.prices, w.statuses)

    pub ends : p ≡ no_arc → (t : Table) → IsStarOf t star → Becomes (offers (arc_count t) 0 t v) (run_of path ns₀ g) (run_of path ns g)
    ends e t of = held_so ∙ offering.ends w.offering e path (prices_in ns₀) g t of

    pub remembers : Remembers star (but v) (run_of path ns₀ g) (run_of path ns g)
    remembers t of tails arcs =
        let since = w.forgetting.since path (prices_in ns₀) g t of tails arcs in
        subst (λ y. Remembering t (but v (held (run_of path ns₀ g))) (memory_in ns₀) (memory_in ns) (held (run_of path ns₀ g)) y) (sym held_so) since.remembering
