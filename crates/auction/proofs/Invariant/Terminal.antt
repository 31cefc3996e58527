-- What the steps share: a path that loses its terminal node, and a child's bid. Assumes nothing.
use mathlib.Core.Path.{◌≡◌, ap, ◌∙◌}
use mathlib.Core.List.{List, [], ◌∷◌}
use Prim.Native.Nat.{ℕ, suc, ◌+◌, ◌≤◌, ◌<◌}
use native.Mathlib.Omega.{arith}
use lib.ListN.{length, get_or}
use Rattle.table.specs.Table.{Table, head_at}
use Rattle.auction.specs.Auction.{State, Bid, price_at, kept_at, status_at, distance, without_terminal, best, reached}
use Rattle.table.proofs.Basics.{some_none}
use Rattle.auction.proofs.Steps.Effects.{Same, estimate, known_distance}
use Rattle.auction.proofs.Steps.Bids.{Child, bid_at, Best}
use Rattle.auction.proofs.Invariant.Sound.{Nodes, Chain, chain_moves}

-- the path loses one node
pub shorter : (p : List ℕ) → length p ≤ suc (length (without_terminal p))
unfolding without_terminal
shorter [] = omega arith
shorter (v ∷ p) = omega arith

module _ {t : Table} {x : State} {dep : ℕ → ℕ} (s : Nodes t x dep) where
  -- the terminal node leaves the path: what lies below it on the path is less deep
  pub pop : (y : State) (p : List ℕ) → Chain t x p → (get_or p 0 0 ≡ t.origin → ⊥) → length p ≡ suc (dep (get_or p 0 0)) →
      ((u : ℕ) → status_at x u ≡ reached → dep u < dep (get_or p 0 0) → Same x y u) →
      Chain t y (without_terminal p) × (length (without_terminal p) ≡ suc (dep (get_or (without_terminal p) 0 0)))
  unfolding Chain without_terminal
  pop y [] c d l same = absurd c
  pop y (v ∷ []) c d l same = absurd (d c)
  pop y (v ∷ u ∷ more) c d l same =
      let a = s.kept v c.0.by_arc c.0.kept in
      let below : dep v ≡ suc (dep u) = a.deeper ∙ ap (λ (w : ℕ). suc (dep w)) c.0.leaves in
      (chain_moves s y (dep v) same u more (omega arith) c.1, omega arith)

  -- the origin is alone on the path when it is terminal
  pub alone : (y : State) (p : List ℕ) → Chain t x p → get_or p 0 0 ≡ t.origin → Chain t y p
  unfolding Chain
  alone y [] c e = absurd c
  alone y (v ∷ []) c e = c
  alone y (v ∷ u ∷ more) c e = absurd (some_none c.0.kept (ap (kept_at x) e ∙ s.origin_kept))

  -- a child's bid and the node's distance together are the child's estimate
  pub bid_estimate : (v i : ℕ) → Child t v i x → bid_at t x i + distance x v ≡ estimate x (head_at t i)
  unfolding bid_at estimate
  bid_estimate v i c =
      let a = s.kept (head_at t i) i c.kept in
      omega (arith, known_distance x (head_at t i) _ a.bound, ap (distance x) c.leaves)

  pub child_depth : (v i : ℕ) → Child t v i x → dep (head_at t i) ≡ suc (dep v)
  child_depth v i c = (s.kept (head_at t i) i c.kept).deeper ∙ ap (λ (w : ℕ). suc (dep w)) c.leaves

  -- 01: the price is never above the least bid
  pub never_above : (v : ℕ) (b : Bid) → Best t v x b → price_at x v ≤ b.value
  unfolding estimate
  never_above v b best =
      let c = best.child in
      let i = b.by_arc in
      let l = s.live (head_at t i) i c.kept c.undeleted in
      omega (arith, l.rising, bid_estimate v i c, best.value, ap (estimate x) c.leaves)
