-- The path that is listed into the array of a path line: it fits, and its nodes stand at the start. Assumes nothing.
use mathlib.Core.Path.{◌≡◌, refl, ap, ◌∙◌}
use mathlib.Core.Bool.{Bool, true, false, cond}
use mathlib.Core.Logic.{⊎_elim}
use mathlib.Core.Option.{Option, none, some}
use mathlib.Core.List.{List}
use Prim.Native.Nat.{ℕ, ◌≤◌}
use native.Mathlib.Omega.{arith}
use lib.Dec.{ltb, eqb}
use lib.ListN.{length, take, drop, length-append}
use lib.Seq.{take_at}
use borrow.Author.Tests.{ltb-false}
use Rattle.listing.specs.declared.Listed.{Listed}
use Rattle.listing.specs.Listing.{Tree, Listing, Lists, listing, into, listed, refused, path, early_of}
use Rattle.std.proofs.lemmas.Bool.{cases_Bool}

-- A LISTING fits into the buffer it was given, and stands at its start
module _ (l : Listing) (r : Listed) (b a : List ℕ) (s : Lists l r b a) where
  pub listed_count : r.count ≤ length a
  listed_count = omega (arith, s.count, ap length s.output, length-append l.nodes (drop (length l.nodes) b))

  pub listed_nodes : take r.count a ≡ l.nodes
  listed_nodes =
      ap (λ (k : ℕ). take k a) s.count
      ∙ ap (λ (m : List ℕ). take (length l.nodes) m) s.output
      ∙ take_at l.nodes (drop (length l.nodes) b) (length l.nodes) refl

into_fits : (room : ℕ) (o : Option (List ℕ)) → length (into room o).nodes ≤ room
unfolding into refused listed
into_fits room none = omega arith
into_fits room (some vs) =
    ⊎_elim
    (λ (e : ltb room (length vs) ≡ true).
    let z : length (cond (ltb room (length vs)) (refused 13) (listed vs)).nodes ≡ 0 = ap (λ (b : Bool). length (cond b (refused 13) (listed vs)).nodes) e in
    omega arith)
    (λ (e : ltb room (length vs) ≡ false).
    let z : length (cond (ltb room (length vs)) (refused 13) (listed vs)).nodes ≡ length vs = ap (λ (b : Bool). length (cond b (refused 13) (listed vs)).nodes) e in
    omega (arith, ltb-false room (length vs) e))
    (cases_Bool (ltb room (length vs)))

pub listing_fits : (o v : ℕ) (k : Tree) (room : ℕ) → length (listing o v k room).nodes ≤ room
unfolding listing refused
listing_fits o v k room =
    ⊎_elim
    (λ (e : eqb (early_of o v k) 0 ≡ true).
    let z : length (listing o v k room).nodes ≡ length (into room (path o v k)).nodes =
    ap (λ (b : Bool). length (cond b (into room (path o v k)) (refused (early_of o v k))).nodes) e in
    omega (arith, into_fits room (path o v k)))
    (λ (e : eqb (early_of o v k) 0 ≡ false).
    let z : length (listing o v k room).nodes ≡ 0 = ap (λ (b : Bool). length (cond b (into room (path o v k)) (refused (early_of o v k))).nodes) e in
    omega arith)
    (cases_Bool (eqb (early_of o v k) 0))
