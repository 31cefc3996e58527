-- Writing the nodes of a path on the way back, the last of them first. Assumes nothing.
use mathlib.Core.Path.{◌≡◌, refl, sym, ap, ◌∙◌}
use mathlib.Core.List.{List, [], ◌∷◌, ◌++◌, reverse, reverse-cons}
use mathlib.Core.Logic.{◌⊎◌, inl, inr, ⊎_elim}
use mathlib.Core.Option as wide
use Prim.Native.Nat.{ℕ, suc, ◌+◌, ◌<◌}
use native.Mathlib.Omega.{arith}
use lib.ListN.{length, set, take}
use Rattle.std.specs.Prelude.{Some}
use Rattle.std.proofs.lemmas.Option.{same_Some}
use Rattle.std.proofs.lemmas.List.{take_more_set, take_all}
use Rattle.listing.specs.Listing.{Tree, node_count, node_before, back_to, path, nodes_of}
use Rattle.listing.proofs.Entries.{leads}
use Rattle.listing.proofs.Ways.{Goes_on, ends_or_goes, path_size}
use Rattle.paths.specs.Trees.{size}

-- a path of so many nodes
pub sized : (p : wide.Option (List ℕ)) (n : ℕ) → size p ≡ Some n → (p ≡ wide.some (nodes_of p)) × (length (nodes_of p) ≡ n)
unfolding nodes_of
sized wide.none n e = cc
sized (wide.some vs) n e = (refl, same_Some _ _ e)

-- On the way back of the path `vs` we are at v, and the first `at` nodes of that way are written.
pub record Writing (o : ℕ) (k : Tree) (vs : List ℕ) (v at : ℕ) (output : List ℕ) : Type 0 where
  -- the nodes behind us, on the path after v
  pub behind : List ℕ
  -- none is written yet, or v is the last of those that are
  pub so_far : ((at ≡ 0) × (behind ≡ [])) ⊎ ((at ≡ suc (length behind)) × (take at output ≡ reverse (v ∷ behind)))
  -- v is a node
  pub low : v < node_count k
  -- the way back from it gives the whole path
  pub left : ℕ
  pub whole : back_to left o k v behind ≡ wide.some vs

module _ (o : ℕ) (k : Tree) (vs output : List ℕ) where
  pub begins : (node : ℕ) → path o node k ≡ wide.some vs → node < node_count k → Writing o k vs node 0 output
  unfolding path
  begins node e low =
      record { behind = []; so_far = inl (refl, refl); low = low; left = node_count k; whole = e }

  module _ (v at : ℕ) (w : Writing o k vs v at output) where
    -- before any is written
    pub first : at ≡ 0 → 0 < length output → Writing o k vs v (at + 1) (set output at v)
    first z inside =
        ⊎_elim
        (λ n.
        record {
          behind = w.behind;
          so_far = inr (omega (arith, ap length n.1), take_more_set output at v (omega arith) ∙ rw (z, n.1) refl);
          low = w.low;
          left = w.left;
          whole = w.whole;
        })
        (λ l. absurd (omega (arith, l.0)))
        w.so_far

    module _ (some : 0 < at) where
      written : (at ≡ suc (length w.behind)) × (take at output ≡ reverse (v ∷ w.behind))
      written = ⊎_elim (λ n. absurd (omega (arith, n.0))) (λ l. l) w.so_far

      -- where the path has more nodes, v's entry leads back
      pub goes : at < length vs → Goes_on o k v w.behind vs
      goes h =
          ⊎_elim (λ (p : vs ≡ v ∷ w.behind). absurd (omega (arith, ap length p, written.0))) (λ (g : Goes_on o k v w.behind vs). g)
          (ends_or_goes w.left o k v w.behind vs w.whole)

      pub goes_on : at < length vs → at < length output → (u : ℕ) → u ≡ node_before k v → Writing o k vs u (at + 1) (set output at u)
      goes_on h inside u e =
          let g = goes h in
          record {
            behind = v ∷ w.behind;
            so_far = inr (omega (arith, written.0), take_more_set output at u inside ∙ ap (λ l. l ++ (u ∷ [])) written.1 ∙ sym (reverse-cons u (v ∷ w.behind)));
            low = omega (arith, e, (leads k v g.leads_on).low);
            left = g.left;
            whole = rw e g.whole;
          }

    pub done : at ≡ length vs → at ≡ length output → output ≡ reverse vs
    done all end =
        let one = path_size w.left o k v w.behind vs w.whole in
        let s = written (omega arith) in
        let here : vs ≡ v ∷ w.behind =
        ⊎_elim (λ (p : vs ≡ v ∷ w.behind). p)
        (λ (g : Goes_on o k v w.behind vs). absurd (omega (arith, path_size g.left o k (node_before k v) (v ∷ w.behind) vs g.whole, s.0)))
        (ends_or_goes w.left o k v w.behind vs w.whole) in
        sym (take_all at output (omega arith)) ∙ s.1 ∙ ap reverse (sym here)
