-- What it says that a tree entry leads back, what the code's reads of the columns find of it, and one step of the way back. Assumes nothing.
use mathlib.Core.Path.{◌≡◌}
use mathlib.Core.Bool.{true, false, ◌&&◌}
use mathlib.Core.List.{List, ◌∷◌}
use mathlib.Core.Option.{none, some}
use Prim.Native.Nat.{ℕ, suc, ◌≤◌, ◌<◌}
use lib.Dec.{ltb, eqb}
use lib.ListN.{length, get_or}
use borrow.Author.Tests.{ltb-true, eqb-true, lt-ltb, le-ltb, eq-eqb, ne_eqb}
use Rattle.std.proofs.lemmas.Bool.{and_parts}
use Rattle.listing.specs.Listing.{Tree, node_count, entry, node_before, leads_back, back_to}

pub record Leads (k : Tree) (v : ℕ) : Type 0 where
  pub listed : entry k v < length k.tails
  pub into : get_or k.heads (entry k v) 0 ≡ v
  pub low : node_before k v < node_count k

pub leads : (k : Tree) (v : ℕ) → leads_back k v ≡ true → Leads k v
unfolding leads_back
leads k v e =
    let arc = ltb (entry k v) (length k.tails) in
    let into = eqb (get_or k.heads (entry k v) 0) v in
    let p = and_parts (arc && into) (ltb (node_before k v) (node_count k)) e in
    let q = and_parts arc into p.0 in
    record {
      listed = ltb-true (entry k v) (length k.tails) q.0;
      into = eqb-true (get_or k.heads (entry k v) 0) v q.1;
      low = ltb-true (node_before k v) (node_count k) p.1;
    }

-- the entry read, i
module _ (k : Tree) (v i : ℕ) (read : i ≡ entry k v) where
  pub tail_read : get_or k.tails i 0 ≡ node_before k v
  unfolding node_before
  tail_read = rw read

  pub not_listed : length k.tails ≤ i → leads_back k v ≡ false
  unfolding leads_back
  not_listed h = rw (← read, le-ltb i (length k.tails) h)

  pub other_head : i < length k.tails → (get_or k.heads i 0 ≡ v → ⊥) → leads_back k v ≡ false
  unfolding leads_back
  other_head h e = rw (← read, lt-ltb i (length k.tails) h, ne_eqb (get_or k.heads i 0) v e)

  pub by_tail : i < length k.tails → get_or k.heads i 0 ≡ v → leads_back k v ≡ ltb (get_or k.tails i 0) (node_count k)
  unfolding leads_back
  by_tail h e = rw (← tail_read, ← read, lt-ltb i (length k.tails) h, eq-eqb (get_or k.heads i 0) v e)

-- one step back from v with the nodes in `passed` behind
module _ (left o : ℕ) (k : Tree) (v : ℕ) (passed : List ℕ) where
  pub at_origin : v ≡ o → back_to (suc left) o k v passed ≡ some (v ∷ passed)
  unfolding back_to
  at_origin e = rw (eq-eqb v o e)

  pub one_back : (v ≡ o → ⊥) → leads_back k v ≡ true → back_to (suc left) o k v passed ≡ back_to left o k (node_before k v) (v ∷ passed)
  unfolding back_to
  one_back e h = rw (ne_eqb v o e, h)

  pub not_back : (v ≡ o → ⊥) → leads_back k v ≡ false → back_to (suc left) o k v passed ≡ none
  unfolding back_to
  not_back e h = rw (ne_eqb v o e, h)
