-- Counting the nodes of a path on the way back. Assumes nothing.
use mathlib.Core.Path.{◌≡◌, refl, sym, ap, ◌∙◌}
use mathlib.Core.Bool.{Bool, true, false}
use mathlib.Core.List.{List, [], ◌∷◌}
use Prim.Native.Nat.{ℕ, suc, ◌+◌, ◌-◌, ◌≤◌, ◌<◌}
use native.Mathlib.Omega.{arith}
use lib.ListN.{length}
use Rattle.std.specs.Prelude.{Option, Some, None, if◌then◌else◌}
use Rattle.std.proofs.lemmas.Option.{same_Some, none-some}
use Rattle.listing.specs.Listing.{Tree, node_count, node_before, leads_back, back_to, path}
use Rattle.listing.proofs.Entries.{leads, at_origin, one_back, not_back}
use Rattle.paths.specs.Trees.{size}

-- the node before v, as the code says it: where v's entry leads back, and where it does not
abbrev pub before : Tree → (v : ℕ) → Option ℕ
before k v = if leads_back k v then Some (node_before k v) else None

pub led : (b : Bool) (x u : ℕ) → Some u ≡ (if b then Some x else None) → (b ≡ true) × (u ≡ x)
led true x u e = (refl, same_Some u x e)
led false x u e = absurd (none-some u (sym e))

not_led : (b : Bool) (x : ℕ) → None ≡ (if b then Some x else None) → b ≡ false
not_led true x e = absurd (none-some x e)
not_led false x e = refl

-- On the way back from `node` we are at v, and have met `count` nodes with it.
pub record Counting (o node : ℕ) (k : Tree) (v count : ℕ) : Type 0 where
  -- the nodes behind us, on the path after v
  pub passed : List ℕ
  pub counted : count ≡ suc (length passed)
  -- v is a node
  pub low : v < node_count k
  -- the way back from v gives the whole path
  pub same : back_to (suc (node_count k) - count) o k v passed ≡ path o node k

module _ (o node : ℕ) (k : Tree) where
  pub begins : node < node_count k → Counting o node k node 1
  unfolding path
  begins h =
      let e : suc (node_count k) - 1 ≡ node_count k = omega arith in
      record { passed = []; counted = refl; low = h; same = ap (λ (l : ℕ). back_to l o k node []) e }

  module _ (v count : ℕ) (w : Counting o node k v count) where
    -- one node more would be too many
    pub too_many : node_count k < count → None ≡ size (path o node k)
    unfolding back_to
    too_many h =
        let e : suc (node_count k) - count ≡ 0 = omega arith in
        ap size (ap (λ (l : ℕ). back_to l o k v w.passed) (sym e) ∙ w.same)

    module _ (few : count ≤ node_count k) where
      one_more : suc (node_count k - count) ≡ suc (node_count k) - count
      one_more = omega arith

      here : back_to (suc (node_count k - count)) o k v w.passed ≡ path o node k
      here = ap (λ (l : ℕ). back_to l o k v w.passed) one_more ∙ w.same

      pub arrived : v ≡ o → Some count ≡ size (path o node k)
      arrived e = ap Some w.counted ∙ ap size (sym (at_origin (node_count k - count) o k v w.passed e) ∙ here)

      module _ (e : v ≡ o → ⊥) where
        pub stray : None ≡ before k v → None ≡ size (path o node k)
        stray b = ap size (sym (not_back (node_count k - count) o k v w.passed e (not_led _ _ b)) ∙ here)

        pub next : (u : ℕ) → Some u ≡ before k v → Counting o node k u (count + 1)
        next u b =
            let b = led (leads_back k v) (node_before k v) u b in
            let f : suc (node_count k) - (count + 1) ≡ node_count k - count = omega arith in
            rw b.1
            (record {
              passed = v ∷ w.passed;
              counted = omega (arith, w.counted);
              low = (leads k v b.0).low;
              same =
                  ap (λ (l : ℕ). back_to l o k (node_before k v) (v ∷ w.passed)) f
                  ∙ sym (one_back (node_count k - count) o k v w.passed e b.0)
                  ∙ here;
            })
