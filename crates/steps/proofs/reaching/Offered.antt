-- One arc offered to its head, in the nodes: what becomes of their columns. Assumes nothing.
use mathlib.Core.Path.{◌≡◌, refl, sym, ap, ◌∙◌}
use mathlib.Core.Bool.{Bool, true, false}
use mathlib.Core.List.{List, map}
use mathlib.Core.Logic.{◌⊎◌, inl, inr, ⊎_elim}
use Prim.Native.Nat.{ℕ, ◌<◌}
use native.Mathlib.Omega.{arith}
use lib.Dec.{ltb, eqb}
use lib.ListN.{length, get_or, set, length-set}
use borrow.Author.Tests.{ltb-true, ltb-false}
use Rattle.std.proofs.lemmas.Bool.{cases_Bool, cases_eq}
use Rattle.table.specs.Table.{no_arc, no_distance, no_node}
use Rattle.auction.specs.Auction.{improves, unreached}
use Rattle.steps.specs.declared.state.Node.{Node}
use Rattle.steps.specs.Seen.{bound_of, arc_of, status_number, prices_in, bounds_in, kepts_in, memory_in, statuses_in}
use Rattle.steps.specs.Memory.{node_at, without_tail}
use Rattle.steps.specs.Steps.{keeping, offered_arc}
use Rattle.steps.proofs.Nodes.{entry, as_many, written, unwritten, status_is}
use Rattle.steps.proofs.reaching.Offering.{ArcOffered, offered_kept, offered_dropped, offered_reached}
use Rattle.steps.proofs.reaching.Losing.{GivesUp, tail_forgets}

-- where the node that an arc leaves forgets,
module _ (i : ℕ) (ts : List ℕ) (ns : List Node) where
  -- the other columns stay,
  column_stays : {A : Type 0} (f : Node → A) → ((n : Node) → f (record n { remembered = no_node }) ≡ f n) → map f (without_tail i ts ns) ≡ map f ns
  column_stays f h =
      ⊎_elim (λ (e : eqb i no_arc ≡ true). rw e) (λ (e : eqb i no_arc ≡ false). rw e (unwritten f ns (get_or ts i 0) _ (h (node_at (get_or ts i 0) ns))))
      (cases_Bool (eqb i no_arc))

  -- and this one loses an entry
  memory_without : memory_in (without_tail i ts ns) ≡ tail_forgets i ts (memory_in ns)
  unfolding tail_forgets
  memory_without =
      ⊎_elim (λ (e : eqb i no_arc ≡ true). rw e) (λ (e : eqb i no_arc ≡ false). rw e (written (λ n. n.remembered) ns (get_or ts i 0) _))
      (cases_Bool (eqb i no_arc))

  long_without : length (without_tail i ts ns) ≡ length ns
  long_without =
      ⊎_elim (λ (e : eqb i no_arc ≡ true). rw e) (λ (e : eqb i no_arc ≡ false). rw e (length-set ns (get_or ts i 0) _)) (cases_Bool (eqb i no_arc))

-- WHAT OFFERING AN ARC LEAVES, column by column
pub record NowOffered (j i d : ℕ) (ts : List ℕ) (ns ns' : List Node) : Type 0 where
  pub long : length ns' ≡ length ns
  pub prices : prices_in ns' ≡ prices_in ns
  pub statuses : statuses_in ns' ≡ statuses_in ns
  pub offered : ArcOffered j i d (bounds_in ns) (kepts_in ns) (statuses_in ns) (bounds_in ns') (kepts_in ns')
  pub gives_up : GivesUp j i ts (statuses_in ns) (kepts_in ns) (memory_in ns) (kepts_in ns') (memory_in ns')

module _ (j i d : ℕ) (ts : List ℕ) (ns : List Node) (inside : j < length ns) (fits : d < no_distance) (low : i < no_arc) where
  abbrev n : Node
  n = node_at j ns

  abbrev better : Bool
  better = improves d i (bound_of n.bound) (arc_of n.kept)

  bounds_in_reach : j < length (bounds_in ns)
  bounds_in_reach = omega (arith, as_many (λ m. m.bound) ns)

  kepts_in_reach : j < length (kepts_in ns)
  kepts_in_reach = omega (arith, as_many (λ m. m.kept) ns)

  read_so : (b : Bool) → better ≡ b → improves d i (bound_of (get_or (bounds_in ns) j 0)) (arc_of (get_or (kepts_in ns) j 0)) ≡ b
  read_so b e = rw (entry (λ m. m.bound) ns j, entry (λ m. m.kept) ns j) e

  abbrev reached_before : Bool
  reached_before = ltb unreached (status_number n.status)

  -- an arc that is kept, in the place of the one that was
  taken : reached_before ≡ false → better ≡ true → NowOffered j i d ts ns (keeping j i d (without_tail n.kept ts ns))
  taken new wins =
      let ms = without_tail n.kept ts ns in
      let unreached_here : get_or (statuses_in ns) j 0 ≡ 0 = omega (arith, status_is ns j, ltb-false _ _ new) in
      let bounds : bounds_in (keeping j i d ms) ≡ set (bounds_in ns) j d =
      written (λ m. m.bound) ms j _ ∙ ap (λ l. set l j d) (column_stays n.kept ts ns (λ m. m.bound) (λ m. refl)) in
      let kepts : kepts_in (keeping j i d ms) ≡ set (kepts_in ns) j i =
      written (λ m. m.kept) ms j _ ∙ ap (λ l. set l j i) (column_stays n.kept ts ns (λ m. m.kept) (λ m. refl)) in
      let memory : memory_in (keeping j i d ms) ≡ tail_forgets (get_or (kepts_in ns) j 0) ts (memory_in ns) =
      unwritten (λ m. m.remembered) ms j _ refl ∙ memory_without n.kept ts ns ∙ ap (λ k. tail_forgets k ts (memory_in ns)) (sym (entry (λ m. m.kept) ns j)) in
      record {
        long = length-set ms j _ ∙ long_without n.kept ts ns;
        prices = unwritten (λ m. m.price) ms j _ refl ∙ column_stays n.kept ts ns (λ m. m.price) (λ m. refl);
        statuses = unwritten (λ m. status_number m.status) ms j _ refl ∙ column_stays n.kept ts ns (λ m. status_number m.status) (λ m. refl);
        offered = rw (bounds, kepts) (offered_kept bounds_in_reach kepts_in_reach fits low unreached_here (read_so true wins));
        gives_up = inr (unreached_here, (kepts, memory));
      }

  -- nothing is kept
  left_so : reached_before ≡ true ⊎ better ≡ false → NowOffered j i d ts ns ns
  left_so why =
      record {
        long = refl;
        prices = refl;
        statuses = refl;
        offered =
            ⊎_elim
            (λ (e : reached_before ≡ true). offered_reached bounds_in_reach kepts_in_reach (λ z. omega (arith, status_is ns j, ltb-true _ _ e)))
            (λ (e : better ≡ false).
            ⊎_elim
            (λ (z : get_or (statuses_in ns) j 0 ≡ 0). offered_dropped bounds_in_reach kepts_in_reach (read_so false e) z)
            (λ (z : get_or (statuses_in ns) j 0 ≡ 0 → ⊥). offered_reached bounds_in_reach kepts_in_reach z)
            (cases_eq (get_or (statuses_in ns) j 0) 0))
            why;
        gives_up = inl (refl, refl);
      }

  pub now_offered : NowOffered j i d ts ns (offered_arc j i d ts ns)
  now_offered =
      ⊎_elim
      (λ (r : reached_before ≡ true). rw r (left_so (inl r)))
      (λ (r : reached_before ≡ false).
      ⊎_elim (λ (b : better ≡ true). rw (r, b) (taken r b)) (λ (b : better ≡ false). rw (r, b) (left_so (inr b))) (cases_Bool better))
      (cases_Bool reached_before)
