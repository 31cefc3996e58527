-- The ways out of a listing, by how many nodes the path has. Assumes nothing.
use mathlib.Core.Path.{◌≡◌, ap, ◌∙◌}
use mathlib.Core.List.{List, []}
use mathlib.Core.Logic.{⊎_elim}
use mathlib.Core.Option.{none, some}
use Prim.Native.Nat.{ℕ, ◌≤◌, ◌<◌}
use native.Mathlib.Omega.{arith}
use lib.ListN.{length}
use borrow.Author.Tests.{eq-eqb, ne_eqb, lt-ltb, le-ltb}
use Rattle.table.proofs.Basics.{option_or}
use Rattle.listing.specs.Listing.{Tree, node_count, path, nodes_of, refused, listed, early_of, into, listing}
use Rattle.listing.proofs.Ways.{path_size, is_some}

-- a path has at most n nodes
pub at_most_n : (o v : ℕ) (k : Tree) → length (nodes_of (path o v k)) ≤ node_count k
unfolding nodes_of path
at_most_n o v k =
    ⊎_elim (λ (h : path o v k ≡ none). omega (arith, ap (λ p. length (nodes_of p)) h))
    (λ (h : (vs : List ℕ) × (path o v k ≡ some vs)).
    omega (arith, path_size (node_count k) o k v [] h.0 h.1, ap (λ p. length (nodes_of p)) h.1))
    (option_or (path o v k))

-- the buffer is too short for the path, or it fits
pub too_short : (room : ℕ) (vs : List ℕ) → room < length vs → into room (some vs) ≡ refused 13
unfolding into
too_short room vs h = rw (lt-ltb room (length vs) h)

pub fitting : (room : ℕ) (vs : List ℕ) → length vs ≤ room → into room (some vs) ≡ listed vs
unfolding into
fitting room vs h = rw (le-ltb room (length vs) h)

module _ (o v : ℕ) (k : Tree) (room : ℕ) where
  pub refused_early : (early_of o v k ≡ 0 → ⊥) → listing o v k room ≡ refused (early_of o v k)
  unfolding listing
  refused_early e = rw (ne_eqb (early_of o v k) 0 e)

  module _ (early : early_of o v k ≡ 0) where
    pub follows : listing o v k room ≡ into room (path o v k)
    unfolding listing
    follows = rw (eq-eqb (early_of o v k) 0 early)

    pub without_path : length (nodes_of (path o v k)) ≡ 0 → listing o v k room ≡ refused 14
    unfolding into nodes_of path
    without_path e =
        ⊎_elim (λ (h : path o v k ≡ none). follows ∙ ap (into room) h)
        (λ (h : (vs : List ℕ) × (path o v k ≡ some vs)).
        absurd (omega (arith, path_size (node_count k) o k v [] h.0 h.1, ap (λ p. length (nodes_of p)) h.1)))
        (option_or (path o v k))

    module _ (some_node : 0 < length (nodes_of (path o v k))) where
      pub without_room : room < length (nodes_of (path o v k)) → listing o v k room ≡ refused 13
      without_room h = follows ∙ ap (into room) (is_some (path o v k) some_node) ∙ too_short room (nodes_of (path o v k)) h

      pub fits : length (nodes_of (path o v k)) ≤ room → listing o v k room ≡ listed (nodes_of (path o v k))
      fits h = follows ∙ ap (into room) (is_some (path o v k) some_node) ∙ fitting room (nodes_of (path o v k)) h
