-- What a step's functions do not read. Reaching a node and extending the path read no price, and a scan no bound; so what their contracts say of the prices
-- or bounds that the nodes hold, they say of any others. Of the statuses all of them read only which nodes were reached and which are deleted; so what their
-- contracts say of the three statuses that the nodes hold, they say of any numbers that tell the same. Assumes nothing.
use mathlib.Core.Path.{◌≡◌, refl, sym, ap, subst, ◌∙◌}
use mathlib.Core.Bool.{Bool, true, false, ◌&&◌, not, cond}
use mathlib.Core.List.{List, [], ◌∷◌, map}
use mathlib.Core.Option as maybe
use mathlib.Core.Option.{Option, none, some, some-injective, none-ne-some}
use Prim.Native.Nat.{ℕ, zero, suc, ◌+◌}
use native.Mathlib.Omega.{arith}
use lib.Dec.{ltb, eqb}
use lib.ListN.{length, get_or, set, length-set}
use borrow.Author.Tests.{lt-ltb, ltb-true}
use Rattle.table.specs.Table.{Table, arc_count, tail_at, head_at, length_at}
use Rattle.auction.specs.Auction.{State, state, was_reached, takes, with_kept, distance, reached, offer, offers, with_status, reach, longer, extension, status_at, bound_at, kept_at, is_kept, is_deleted, to_child, with_bid, bid, price_at, best_from, best, unreached, deleted, improves, Bid, deletion, contraction, iteration}
use Rattle.steps.specs.declared.state.Node.{Node}
use Rattle.steps.specs.declared.state.Progress.{Progress}
use Rattle.steps.specs.Seen.{bound_of, seen, run_of, held, prices_in, bounds_in, kepts_in, memory_in, statuses_in}
use Rattle.steps.specs.Memory.{Remembering, but, those_reached}
use Rattle.steps.specs.Steps.{Becomes}
use Rattle.steps.proofs.Remembering.{same_child, in_two, unchanged, fewer}

-- A STATE WITH OTHER PRICES, or with other bounds
unfoldable pub priced : (price : List ℕ) → State → State
priced u x = state x.path u x.bound x.kept x.status x.contractions x.extensions x.deletions

unfoldable pub bounded : (bound : List (Option ℕ)) → State → State
bounded b x = state x.path x.price b x.kept x.status x.contractions x.extensions x.deletions

either : {A B : Type 0} (f : A → B) (b : Bool) (x y : A) → cond b (f x) (f y) ≡ f (cond b x y)
either f true x y = refl
either f false x y = refl

-- NO PRICE IS READ where a node is reached
module _ (t : Table) (u : List ℕ) where
  offer_alike : (v i : ℕ) (x : State) → offer t v i (priced u x) ≡ priced u (offer t v i x)
  unfolding offer takes with_kept priced state was_reached status_at distance bound_at kept_at
  offer_alike v i x = either (priced u) (takes t v i x) (with_kept (head_at t i) i (distance x v + length_at t i) x) x

  offers_alike : (k i v : ℕ) (x : State) → offers k i t v (priced u x) ≡ priced u (offers k i t v x)
  unfolding offers
  offers_alike zero i v x = refl
  offers_alike (suc k) i v x =
      ap (offers k (suc i) t v) (offer_alike v i x) ∙ offers_alike k (suc i) v (offer t v i x)

  reach_alike : (v : ℕ) (x : State) → reach t v (priced u x) ≡ priced u (reach t v x)
  unfolding reach with_status priced state
  reach_alike v x = offers_alike (arc_count t) 0 v (with_status v reached x)

  extension_alike : (j : ℕ) (x : State) → extension t j (priced u x) ≡ priced u (extension t j x)
  unfolding extension longer priced state was_reached status_at
  extension_alike j x =
      ap (λ y. cond (was_reached x j) (priced u (longer j x)) y) (reach_alike j (longer j x))
      ∙ either (priced u) (was_reached x j) (longer j x) (reach t j (longer j x))

-- so what is said of the prices that the nodes hold is said of any
module _ (t : Table) (path path' price : List ℕ) (ns ns' : List Node) (g g' : Progress) where
  pub reaches_with_any_prices : (v : ℕ) → Becomes (reach t v) (run_of path ns g) (run_of path' ns' g') →
      seen path' price (bounds_in ns') (kepts_in ns') (statuses_in ns') g'
      ≡ reach t v (seen path price (bounds_in ns) (kepts_in ns) (statuses_in ns) g)
  unfolding seen priced state
  reaches_with_any_prices v e = ap (priced price) e ∙ sym (reach_alike t price v (held (run_of path ns g)))

  pub extends_with_any_prices : (j : ℕ) → Becomes (extension t j) (run_of path ns g) (run_of path' ns' g') →
      seen path' price (bounds_in ns') (kepts_in ns') (statuses_in ns') g'
      ≡ extension t j (seen path price (bounds_in ns) (kepts_in ns) (statuses_in ns) g)
  unfolding seen priced state
  extends_with_any_prices j e = ap (priced price) e ∙ sym (extension_alike t price j (held (run_of path ns g)))

-- NO BOUND IS READ where a node scans
best_from_alike : (t : Table) (b : List (Option ℕ)) (k i v : ℕ) (x : State) → best_from k i t v (bounded b x) ≡ best_from k i t v x
unfolding best_from bounded state to_child price_at is_kept kept_at is_deleted status_at
best_from_alike t b zero i v x = refl
best_from_alike t b (suc k) i v x =
    ap (with_bid (to_child t v i x) (bid (length_at t i + price_at x (head_at t i)) i)) (best_from_alike t b k (suc i) v x)

pub bids_with_any_bounds : (t : Table) (v : ℕ) (path bound : List ℕ) (ns : List Node) (g : Progress) →
    best t v (seen path (prices_in ns) bound (kepts_in ns) (statuses_in ns) g) ≡ best t v (held (run_of path ns g))
unfolding best seen bounded state
bids_with_any_bounds t v path bound ns g =
    best_from_alike t (map bound_of bound) (arc_count t) 0 v (held (run_of path ns g))

-- A STATE WITH OTHER STATUSES
unfoldable pub statused : (status : List ℕ) → State → State
statused s x = state x.path x.price x.bound x.kept s x.contractions x.extensions x.deletions

-- whether a node was reached, and whether it is deleted, by a list of statuses
abbrev pub reached_in : List ℕ → (v : ℕ) → Bool
reached_in s v = ltb unreached (get_or s v unreached)

abbrev pub deleted_in : List ℕ → (v : ℕ) → Bool
deleted_in s v = eqb (get_or s v unreached) deleted

-- two lists of statuses that tell the same of each node
pub record StatusesAlike (s s' : List ℕ) : Type 0 where
  -- they are of as many nodes,
  pub as_many : length s ≡ length s'
  -- of which the same were reached
  pub same_reached : (v : ℕ) → reached_in s v ≡ reached_in s' v
  -- and the same are deleted
  pub same_deleted : (v : ℕ) → deleted_in s v ≡ deleted_in s' v

-- THEY STAY ALIKE where a node gets the same status in both
same_set : {A : Type 0} (f : ℕ → A) (s s' : List ℕ) (v a : ℕ) → length s ≡ length s' → ((u : ℕ) → f (get_or s u unreached) ≡ f (get_or s' u unreached)) →
    (u : ℕ) → f (get_or (set s v a) u unreached) ≡ f (get_or (set s' v a) u unreached)
same_set f [] [] v a m e u = refl
same_set f [] (b ∷ s') v a m e u = absurd (omega (arith, m))
same_set f (b ∷ s) [] v a m e u = absurd (omega (arith, m))
same_set f (b ∷ s) (c ∷ s') zero a m e zero = refl
same_set f (b ∷ s) (c ∷ s') zero a m e (suc u) = e (suc u)
same_set f (b ∷ s) (c ∷ s') (suc v) a m e zero = e zero
same_set f (b ∷ s) (c ∷ s') (suc v) a m e (suc u) = same_set f s s' v a (omega (arith, m)) (λ w. e (suc w)) u

set_alike : {s s' : List ℕ} (v a : ℕ) → StatusesAlike s s' → StatusesAlike (set s v a) (set s' v a)
set_alike {s} {s'} v a l =
    record {
      as_many = length-set s v a ∙ l.as_many ∙ sym (length-set s' v a);
      same_reached = same_set (ltb unreached) s s' v a l.as_many l.same_reached;
      same_deleted = same_set (λ k. eqb k deleted) s s' v a l.as_many l.same_deleted;
    }

-- and through a choice of two states
either_statused : (b : Bool) (s s' : List ℕ) (x y : State) → cond b (statused s x) (statused s' y) ≡ statused (cond b s s') (cond b x y)
either_statused true s s' x y = refl
either_statused false s s' x y = refl

either_alike : (s : List ℕ) (b : Bool) (x y : State) → StatusesAlike s x.status → StatusesAlike s y.status → StatusesAlike s (cond b x y).status
either_alike s true x y l m = l
either_alike s false x y l m = m

-- THEY ARE READ ALIKE where a node scans,
module _ (t : Table) (s : List ℕ) (v : ℕ) (x : State) (l : StatusesAlike s x.status) where
  child_statused : (i : ℕ) → to_child t v i (statused s x) ≡ to_child t v i x
  unfolding kept_at is_deleted status_at statused state
  child_statused i = same_child x (statused s x) t v i refl (l.same_deleted (head_at t i))

  best_from_statused : (k i : ℕ) → best_from k i t v (statused s x) ≡ best_from k i t v x
  unfolding best_from price_at statused state
  best_from_statused zero i = refl
  best_from_statused (suc k) i =
      let b = bid (length_at t i + price_at x (head_at t i)) i in
      ap (λ (c : Bool). with_bid c b (best_from k (suc i) t v (statused s x))) (child_statused i)
      ∙ ap (with_bid (to_child t v i x) b) (best_from_statused k (suc i))

-- where it is reached,
module _ (t : Table) (s : List ℕ) where
  takes_statused : (v i : ℕ) (x : State) → StatusesAlike s x.status → takes t v i (statused s x) ≡ takes t v i x
  unfolding takes was_reached status_at distance bound_at kept_at statused state
  takes_statused v i x l =
      let better = improves (distance x v + length_at t i) i (bound_at x (head_at t i)) (kept_at x (head_at t i)) in
      ap (λ (r : Bool). eqb (tail_at t i) v && (not r && better)) (l.same_reached (head_at t i))

  offer_statused : (v i : ℕ) (x : State) → StatusesAlike s x.status → offer t v i (statused s x) ≡ statused s (offer t v i x)
  unfolding offer with_kept distance bound_at statused state
  offer_statused v i x l =
      let y = with_kept (head_at t i) i (distance x v + length_at t i) x in
      ap (λ (b : Bool). cond b (statused s y) (statused s x)) (takes_statused v i x l) ∙ either (statused s) (takes t v i x) y x

  offer_stays_alike : (v i : ℕ) (x : State) → StatusesAlike s x.status → StatusesAlike s (offer t v i x).status
  unfolding offer with_kept state
  offer_stays_alike v i x l = either_alike s (takes t v i x) (with_kept (head_at t i) i (distance x v + length_at t i) x) x l l

  offers_statused : (k i v : ℕ) (x : State) → StatusesAlike s x.status → offers k i t v (statused s x) ≡ statused s (offers k i t v x)
  unfolding offers
  offers_statused zero i v x l = refl
  offers_statused (suc k) i v x l =
      ap (offers k (suc i) t v) (offer_statused v i x l) ∙ offers_statused k (suc i) v (offer t v i x) (offer_stays_alike v i x l)

reach_statused : (t : Table) (s : List ℕ) (v : ℕ) (x : State) → StatusesAlike s x.status → reach t v (statused s x) ≡ statused (set s v reached) (reach t v x)
unfolding reach with_status statused state
reach_statused t s v x l = offers_statused t (set s v reached) (arc_count t) 0 v (with_status v reached x) (set_alike v reached l)

-- where the path is extended by it: the statuses then,
abbrev pub after_extension : (child : ℕ) → List ℕ → List ℕ
after_extension j s = cond (reached_in s j) s (set s j reached)

extension_statused : (t : Table) (s : List ℕ) (j : ℕ) (x : State) → StatusesAlike s x.status →
    extension t j (statused s x) ≡ statused (after_extension j s) (extension t j x)
unfolding extension longer was_reached status_at statused state
extension_statused t s j x l =
    let y = longer j x in
    ap (cond (reached_in s j) (statused s y)) (reach_statused t s j y l)
    ∙ either_statused (reached_in s j) s (set s j reached) y (reach t j y)
    ∙ ap (λ (r : Bool). statused (after_extension j s) (cond r y (reach t j y))) (l.same_reached j)

-- and in an iteration at it, whose least bid is given: the statuses then
abbrev pub after_iteration : (least : Option Bid) → Table → (v : ℕ) → State → List ℕ → List ℕ
after_iteration none t v x s = set s v deleted
after_iteration (some b) t v x s = cond (ltb (price_at x v) b.value) s (after_extension (head_at t b.by_arc) s)

iteration_statused : (t : Table) (s : List ℕ) (least : Option Bid) (v : ℕ) (x : State) → StatusesAlike s x.status →
    iteration least t v (statused s x) ≡ maybe.map (statused (after_iteration least t v x s)) (iteration least t v x)
unfolding iteration deletion contraction price_at statused state
iteration_statused t s none v x l = either (maybe.map (statused (set s v deleted))) (eqb v t.origin) none (some (deletion v x))
iteration_statused t s (some b) v x l =
    let contracts = ltb (price_at x v) b.value in
    let j = head_at t b.by_arc in
    let y = contraction t v b.value x in
    ap some (ap (cond contracts (statused s y)) (extension_statused t s j x l) ∙ either_statused contracts s (after_extension j s) y (extension t j x))

-- so what is said of the statuses that the nodes hold is said of any that are alike
module _ (t : Table) (path : List ℕ) (ns : List Node) (g : Progress) (s : List ℕ) (l : StatusesAlike s (statuses_in ns)) where
  pub bids_with_any_statuses : (v : ℕ) →
      best t v (seen path (prices_in ns) (bounds_in ns) (kepts_in ns) s g) ≡ best t v (held (run_of path ns g))
  unfolding best seen statused state
  bids_with_any_statuses v = best_from_statused t s v (held (run_of path ns g)) l (arc_count t) 0

  module _ (path' : List ℕ) (ns' : List Node) (g' : Progress) where
    pub reaches_with_any_statuses : (v : ℕ) → Becomes (reach t v) (run_of path ns g) (run_of path' ns' g') →
        seen path' (prices_in ns') (bounds_in ns') (kepts_in ns') (set s v reached) g'
        ≡ reach t v (seen path (prices_in ns) (bounds_in ns) (kepts_in ns) s g)
    unfolding seen statused state
    reaches_with_any_statuses v e = ap (statused (set s v reached)) e ∙ sym (reach_statused t s v (held (run_of path ns g)) l)

    pub extends_with_any_statuses : (j : ℕ) → Becomes (extension t j) (run_of path ns g) (run_of path' ns' g') →
        seen path' (prices_in ns') (bounds_in ns') (kepts_in ns') (after_extension j s) g'
        ≡ extension t j (seen path (prices_in ns) (bounds_in ns) (kepts_in ns) s g)
    unfolding seen statused state
    extends_with_any_statuses j e = ap (statused (after_extension j s)) e ∙ sym (extension_statused t s j (held (run_of path ns g)) l)

    -- (`Steps` says it with `bid_in` of the least bid that the code is given)
    pub steps_with_any_statuses : (least : Option Bid) (v : ℕ) → iteration least t v (held (run_of path ns g)) ≡ some (held (run_of path' ns' g')) →
        iteration least t v (seen path (prices_in ns) (bounds_in ns) (kepts_in ns) s g)
        ≡ some (seen path' (prices_in ns') (bounds_in ns') (kepts_in ns') (after_iteration least t v (held (run_of path ns g)) s) g')
    unfolding seen statused state
    steps_with_any_statuses least v e =
        let x = held (run_of path ns g) in iteration_statused t s least v x l ∙ ap (maybe.map (statused (after_iteration least t v x s))) e

-- and of any prices, or bounds, at the same time
module _ (t : Table) (path : List ℕ) (ns : List Node) (g : Progress) (s : List ℕ) (l : StatusesAlike s (statuses_in ns)) where
  pub bids_with_any_bounds_and_statuses : (bound : List ℕ) (v : ℕ) →
      best t v (seen path (prices_in ns) bound (kepts_in ns) s g) ≡ best t v (held (run_of path ns g))
  unfolding best seen bounded statused state
  bids_with_any_bounds_and_statuses bound v =
      best_from_alike t (map bound_of bound) (arc_count t) 0 v (statused s (held (run_of path ns g))) ∙ bids_with_any_statuses t path ns g s l v

  module _ (path' price : List ℕ) (ns' : List Node) (g' : Progress) where
    pub reaches_with_any_prices_and_statuses : (v : ℕ) → Becomes (reach t v) (run_of path ns g) (run_of path' ns' g') →
        seen path' price (bounds_in ns') (kepts_in ns') (set s v reached) g'
        ≡ reach t v (seen path price (bounds_in ns) (kepts_in ns) s g)
    unfolding seen priced statused state
    reaches_with_any_prices_and_statuses v e =
        ap (priced price) (reaches_with_any_statuses t path ns g s l path' ns' g' v e) ∙ sym (reach_alike t price v (statused s (held (run_of path ns g))))

    pub extends_with_any_prices_and_statuses : (j : ℕ) → Becomes (extension t j) (run_of path ns g) (run_of path' ns' g') →
        seen path' price (bounds_in ns') (kepts_in ns') (after_extension j s) g'
        ≡ extension t j (seen path price (bounds_in ns) (kepts_in ns) s g)
    unfolding seen priced statused state
    extends_with_any_prices_and_statuses j e =
        ap (priced price) (extends_with_any_statuses t path ns g s l path' ns' g' j e) ∙ sym (extension_alike t price j (statused s (held (run_of path ns g))))

-- THE STATUSES THAT FOLLOW tell the same as those that the nodes hold then
cond_alike : (s s' : List ℕ) (b : Bool) (x y : State) → StatusesAlike s x.status → StatusesAlike s' y.status → StatusesAlike (cond b s s') (cond b x y).status
cond_alike s s' true x y l m = l
cond_alike s s' false x y l m = m

module _ (t : Table) where
  offers_stay_alike : (s : List ℕ) (k i v : ℕ) (x : State) → StatusesAlike s x.status → StatusesAlike s (offers k i t v x).status
  unfolding offers
  offers_stay_alike s zero i v x l = l
  offers_stay_alike s (suc k) i v x l = offers_stay_alike s k (suc i) v (offer t v i x) (offer_stays_alike t s v i x l)

  reach_stays_alike : (s : List ℕ) (v : ℕ) (x : State) → StatusesAlike s x.status → StatusesAlike (set s v reached) (reach t v x).status
  unfolding reach with_status state
  reach_stays_alike s v x l = offers_stay_alike (set s v reached) (arc_count t) 0 v (with_status v reached x) (set_alike v reached l)

  extension_stays_alike : (s : List ℕ) (j : ℕ) (x : State) → StatusesAlike s x.status → StatusesAlike (after_extension j s) (extension t j x).status
  unfolding extension was_reached status_at longer state
  extension_stays_alike s j x l =
      let y = longer j x in
      subst (λ (r : Bool). StatusesAlike (after_extension j s) (cond r y (reach t j y)).status) (l.same_reached j)
      (cond_alike s (set s j reached) (reached_in s j) y (reach t j y) l (reach_stays_alike s j y l))

  made : (b : Bool) (x y : State) → cond b none (some x) ≡ some y → x ≡ y
  made true x y e = absurd (none-ne-some y e)
  made false x y e = some-injective x y e

  iteration_stays_alike : (s : List ℕ) (least : Option Bid) (v : ℕ) (x y : State) → StatusesAlike s x.status → iteration least t v x ≡ some y →
      StatusesAlike (after_iteration least t v x s) y.status
  unfolding iteration deletion contraction state
  iteration_stays_alike s none v x y l e =
      subst (λ (z : State). StatusesAlike (set s v deleted) z.status) (made (eqb v t.origin) (deletion v x) y e) (set_alike v deleted l)
  iteration_stays_alike s (some b) v x y l e =
      let j = head_at t b.by_arc in
      let contracts = ltb (price_at x v) b.value in
      let z = contraction t v b.value x in
      let w = extension t j x in
      subst (λ (r : State). StatusesAlike (cond contracts s (after_extension j s)) r.status) (some-injective (cond contracts z w) y e)
      (cond_alike s (after_extension j s) contracts z w l (extension_stays_alike s j x l))

module _ (t : Table) (path path' : List ℕ) (ns ns' : List Node) (g g' : Progress) (s : List ℕ) (l : StatusesAlike s (statuses_in ns)) where
  pub reaches_stay_alike : (v : ℕ) → Becomes (reach t v) (run_of path ns g) (run_of path' ns' g') → StatusesAlike (set s v reached) (statuses_in ns')
  unfolding seen state
  reaches_stay_alike v e = subst (λ (y : State). StatusesAlike (set s v reached) y.status) (sym e) (reach_stays_alike t s v (held (run_of path ns g)) l)

  pub extends_stay_alike : (j : ℕ) → Becomes (extension t j) (run_of path ns g) (run_of path' ns' g') → StatusesAlike (after_extension j s) (statuses_in ns')
  unfolding seen state
  extends_stay_alike j e =
      subst (λ (y : State). StatusesAlike (after_extension j s) y.status) (sym e) (extension_stays_alike t s j (held (run_of path ns g)) l)

  pub steps_stay_alike : (least : Option Bid) (v : ℕ) → iteration least t v (held (run_of path ns g)) ≡ some (held (run_of path' ns' g')) →
      StatusesAlike (after_iteration least t v (held (run_of path ns g)) s) (statuses_in ns')
  unfolding seen state
  steps_stay_alike least v e = iteration_stays_alike t s least v (held (run_of path ns g)) (held (run_of path' ns' g')) l e

-- with them the nodes remember what they did: all but one of them, or those that were reached
module _ (t : Table) (path path' price price' : List ℕ) (ns ns' : List Node) (g g' : Progress) (s s' : List ℕ) (l : StatusesAlike s (statuses_in ns))
    (l' : StatusesAlike s' (statuses_in ns')) where
  abbrev x : State
  x = held (run_of path ns g)

  abbrev y : State
  y = held (run_of path' ns' g')

  abbrev x' : State
  x' = seen path price (bounds_in ns) (kepts_in ns) s g

  abbrev y' : State
  y' = seen path' price' (bounds_in ns') (kepts_in ns') s' g'

  some_remember : (which : ℕ → Type 0) → Remembering t which (memory_in ns) (memory_in ns') x y → Remembering t which (memory_in ns) (memory_in ns') x' y'
  unfolding seen state kept_at is_deleted status_at
  some_remember which r =
      in_two (unchanged (record { kept = λ u. refl; gone = λ u. sym (l.same_deleted u) }))
      (in_two r (unchanged (record { kept = λ u. refl; gone = l'.same_deleted })))

  pub all_but_one_remember : (v : ℕ) → Remembering t (but v x) (memory_in ns) (memory_in ns') x y →
      Remembering t (but v x') (memory_in ns) (memory_in ns') x' y'
  all_but_one_remember v r = some_remember (but v x) r

  reached_before : (u : ℕ) → those_reached x' u → those_reached x u
  unfolding seen state status_at
  reached_before u h = ltb-true unreached (get_or (statuses_in ns) u unreached) (sym (l.same_reached u) ∙ lt-ltb unreached (get_or s u unreached) h)

  pub those_reached_remember : Remembering t (those_reached x) (memory_in ns) (memory_in ns') x y →
      Remembering t (those_reached x') (memory_in ns) (memory_in ns') x' y'
  those_reached_remember r = fewer reached_before (some_remember (those_reached x) r)
