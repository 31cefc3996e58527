-- A way back that gives a path: one step of it, and how many nodes the path has. Assumes nothing.
use mathlib.Core.Path.{◌≡◌, refl, sym, ap, ◌∙◌}
use mathlib.Core.Bool.{true, false}
use mathlib.Core.List.{List, ◌∷◌}
use mathlib.Core.Logic.{◌⊎◌, inl, inr, ⊎_elim}
use mathlib.Core.Option.{Option, none, some}
use Prim.Native.Nat.{ℕ, zero, suc, ◌+◌, ◌≤◌, ◌<◌}
use native.Mathlib.Omega.{arith}
use lib.ListN.{length}
use Rattle.std.proofs.lemmas.Bool.{cases_Bool, cases_eq}
use Rattle.table.proofs.Basics.{some_none, some_same}
use Rattle.listing.specs.Listing.{Tree, node_before, leads_back, back_to, nodes_of}
use Rattle.listing.proofs.Entries.{at_origin, one_back, not_back}

-- A way back from v that gives a path: v is the origin, or its entry leads back and the way goes on from there.
pub record Goes_on (o : ℕ) (k : Tree) (v : ℕ) (passed vs : List ℕ) : Type 0 where
  pub leads_on : leads_back k v ≡ true
  pub left : ℕ
  pub whole : back_to left o k (node_before k v) (v ∷ passed) ≡ some vs

pub ends_or_goes : (left o : ℕ) (k : Tree) (v : ℕ) (passed vs : List ℕ) → back_to left o k v passed ≡ some vs →
    (vs ≡ v ∷ passed) ⊎ Goes_on o k v passed vs
unfolding back_to
ends_or_goes zero o k v passed vs e = absurd (some_none e refl)
ends_or_goes (suc l) o k v passed vs e =
    ⊎_elim
    (λ (h : v ≡ o). inl (some_same e (at_origin l o k v passed h)))
    (λ (h : v ≡ o → ⊥).
    ⊎_elim
    (λ (b : leads_back k v ≡ true). inr (record { leads_on = b; left = l; whole = sym (one_back l o k v passed h b) ∙ e }))
    (λ (b : leads_back k v ≡ false). absurd (some_none e (not_back l o k v passed h b)))
    (cases_Bool (leads_back k v)))
    (cases_eq v o)

-- a path has v and the nodes passed, and at most `left` nodes before those
pub path_size : (left o : ℕ) (k : Tree) (v : ℕ) (passed vs : List ℕ) → back_to left o k v passed ≡ some vs →
    (suc (length passed) ≤ length vs) × (length vs ≤ left + length passed)
unfolding back_to
path_size zero o k v passed vs e = absurd (some_none e refl)
path_size (suc l) o k v passed vs e =
    ⊎_elim
    (λ (h : v ≡ o). omega (arith, ap length (some_same e (at_origin l o k v passed h))))
    (λ (h : v ≡ o → ⊥).
    ⊎_elim
    (λ (b : leads_back k v ≡ true).
    omega (arith, path_size l o k (node_before k v) (v ∷ passed) vs (sym (one_back l o k v passed h b) ∙ e)))
    (λ (b : leads_back k v ≡ false). absurd (some_none e (not_back l o k v passed h b)))
    (cases_Bool (leads_back k v)))
    (cases_eq v o)

-- a path with a node in it
pub is_some : (p : Option (List ℕ)) → 0 < length (nodes_of p) → p ≡ some (nodes_of p)
unfolding nodes_of
is_some none h = absurd (omega arith)
is_some (some vs) h = refl
