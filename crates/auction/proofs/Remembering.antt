-- What has changed at a node since its last scan. Assumes nothing.
--
-- A node loses children and gains none, and prices only rise: so while its children are the same and the child that it remembers has the price of
-- the scan, that child's bid is still the best. And the node's price came up to that bid at the scan: so it extends the path by that child.
use mathlib.Core.Path.{◌≡◌, refl, sym, ap, subst, ◌∙◌}
use mathlib.Core.Bool.{Bool, true, false}
use mathlib.Core.List.{[]}
use mathlib.Core.Logic.{◌⊎◌, inl, inr, ⊎_elim}
use mathlib.Core.Option.{none, some}
use Prim.Native.Nat.{ℕ, zero, suc, ◌+◌, ◌≤◌, ◌<◌}
use native.Mathlib.Omega.{arith}
use borrow.Author.Tests.{le-ltb}
use Rattle.std.proofs.lemmas.Bool.{cases_Bool}
use Rattle.table.specs.Table.{Table, arc_count, head_at}
use Rattle.auction.specs.Auction.{State, Bid, terminal, price_at, status_at, state, to_child, best, deletion, contraction, extension, iteration, next, after, iterations, unreached, deleted}
use Rattle.auction.specs.Scans.{same_children, same_price, scans_now, history, last_scan, scan_count, scans}
use Rattle.auction.specs.Promises.{ScansBetween, GoesByMemory, RememberedChild}
use Rattle.table.proofs.Basics.{option_or, some_none, some_same}
use Rattle.auction.proofs.Good.{Good, good}
use Rattle.auction.proofs.Steps.Effects.{deletion_effect, repriced, status_in}
use Rattle.auction.proofs.Steps.Bids.{Child, child, child_test, bid_at, no_child, Best, best_bid, one_best}
use Rattle.auction.proofs.Steps.Kinds.{Kind, deletes, contracts, extends, kind}
use Rattle.auction.proofs.Invariant.Sound.{terminal_status}
use Rattle.auction.proofs.Invariant.Counting.{Invariant, Stepped}
use Rattle.auction.proofs.Invariant.Extending.{as_many}
use Rattle.auction.proofs.Run.{stepped, preceded, passed}
use Rattle.auction.proofs.Scanning.{same_child, no_scan, price_same, history_next, scan_or, has_scanned, scans_more, scans_as_many}

-- NODE V RECALLS A CHILD in state x: it had a best bid at its scan in state s, and its price is not below that
abbrev pub Recalls : Table → (v : ℕ) → (s x : State) → Type 0
Recalls t v s x = (b : Bid) × (best t v s ≡ some b) × (b.value ≤ price_at x v)

-- STATE S IS EARLIER than x, or x itself, for node v
pub record Earlier (t : Table) (v : ℕ) (s x : State) : Type 0 where
  -- v was reached,
  pub there : unreached < status_at x v
  -- it has no child that it had not,
  pub children : (i : ℕ) → i < arc_count t → to_child t v i x ≡ true → to_child t v i s ≡ true
  -- and no price has fallen
  pub dearer : (w : ℕ) → price_at s w ≤ price_at x w

-- SINCE NODE V'S LAST SCAN, in state s
pub record Since (t : Table) (v : ℕ) (s x : State) : Type 0 where
  pub earlier : Earlier t v s x
  -- v has been deleted, or recalls a child
  pub settled : (status_at x v ≡ deleted) ⊎ Recalls t v s x

-- ONE ITERATION, from x to y
module _ (t : Table) (g : Good t) (x : State) (i : Invariant t x) (y : State) (e : next t x ≡ some y) where
  abbrev step : Stepped t x y
  step = stepped t g x i y e

  -- a node that was reached gains no child
  child_before : (v j : ℕ) → unreached < status_at x v → Child t v j y → Child t v j x
  child_before v j h c =
      record {
        leaves = c.leaves;
        kept = step.kepts (head_at t j) j (omega (arith, ap (status_at x) c.leaves, h)) c.kept;
        undeleted = λ q. c.undeleted (step.gone (head_at t j) q);
      }

  was_child : (v j : ℕ) → unreached < status_at x v → to_child t v j y ≡ true → to_child t v j x ≡ true
  was_child v j h c = child_test t v x j (child_before v j h (child t v y j c))

  -- what was so since an earlier scan is so still
  later : (v : ℕ) (s : State) → Since t v s x → Since t v s y
  later v s before =
      let old = before.earlier in
      record {
        earlier =
            record {
              there = step.stays v old.there;
              children = λ j h c. old.children j h (was_child v j old.there c);
              dearer = λ w. omega (arith, old.dearer w, step.dearer w);
            };
        settled =
            ⊎_elim (λ (q : status_at x v ≡ deleted). inl (step.gone v q))
            (λ (q : Recalls t v s x). inr (q.0, q.1, omega (arith, q.2, step.dearer v)))
            before.settled;
      }

  -- and since a scan in x itself: a deletion deletes the node, a contraction brings its price up to the best bid, an extension finds it there
  abbrev v : ℕ
  v = terminal x

  v_in : v < t.n
  v_in = status_in v i.sound.nodes.sizes (omega (arith, terminal_status i.sound))

  settles : Kind t x y → (status_at y v ≡ deleted) ⊎ Recalls t v x y
  settles (deletes none_there inner same) =
      inl (ap (λ (z : State). status_at z v) (sym same) ∙ (deletion_effect t x v i.sound.nodes.sizes v_in).here)
  settles (contracts b there less same) =
      let paid = (repriced t x v b.value i.sound.nodes.sizes v_in).here in
      inr (b, there, omega (arith, ap (λ (z : State). price_at z v) same, paid))
  settles (extends b there equal same) = inr (b, there, omega (arith, step.dearer v))

  at_scan : Since t v x y
  at_scan =
      let here : unreached < status_at x v = omega (arith, terminal_status i.sound) in
      record {
        earlier = record { there = step.stays v here; children = λ j h c. was_child v j here c; dearer = step.dearer };
        settled = settles (kind t x y e);
      }

  -- one contraction or deletion more, if any
  at_most_one : Kind t x y → y.contractions + y.deletions ≤ suc (x.contractions + x.deletions)
  unfolding deletion contraction state
  at_most_one (deletes none_there inner same) = omega (arith, ap (λ (z : State). z.contractions + z.deletions) same)
  at_most_one (contracts b there less same) = omega (arith, ap (λ (z : State). z.contractions + z.deletions) same)
  at_most_one (extends b there equal same) =
      let none_more = as_many t g x i.depth i.sound i.counts b (best_bid t v x b there) equal in
      omega (arith, none_more, ap (λ (z : State). z.contractions + z.deletions) same)

-- since any scan of any node, in every state of the run
pub since : (t : Table) → Good t → (k : ℕ) (x : State) → after k t ≡ some x → (v : ℕ) (s : State) → last_scan t v (history k t) ≡ some s → Since t v s x
unfolding history last_scan
since t g zero x e v s p = absurd (some_none p refl)
since t g (suc k) x e v s p =
    let w = preceded t k x e in
    let i = (passed t g k w.0 w.1).0 in
    ⊎_elim
    (λ (q : (terminal w.0 ≡ v) × (w.0 ≡ s)).
    subst (λ (u : ℕ). Since t u s x) q.0 (subst (λ (z : State). Since t (terminal w.0) z x) q.1 (at_scan t g w.0 i x w.2)))
    (λ (q : last_scan t v (history k t) ≡ some s). later t g w.0 i x w.2 v s (since t g k w.0 w.1 v s q))
    (scan_or t v w.0 (history k t) s (ap (last_scan t v) (sym (history_next k t w.0 w.1)) ∙ p))

-- A NODE THAT DOES NOT SCAN: its best bid is the one of its last scan
module _ (t : Table) (v : ℕ) (s x : State) (since_scan : Since t v s x) (none_now : scans_now t v (some s) x ≡ false) where
  abbrev alike : (same_children t v s x ≡ true) × (same_price t (best t v s) s x ≡ true)
  alike = no_scan t v s x none_now

  child_then : (i : ℕ) → i < arc_count t → Child t v i x → Child t v i s
  child_then i h c = child t v s i (sym (same_child t v s x alike.0 i h) ∙ child_test t v x i c)

  child_now : (i : ℕ) → i < arc_count t → Child t v i s → Child t v i x
  child_now i h c = child t v x i (same_child t v s x alike.0 i h ∙ child_test t v s i c)

  dearer_bid : (i : ℕ) → bid_at t s i ≤ bid_at t x i
  unfolding bid_at
  dearer_bid i = omega (arith, since_scan.earlier.dearer (head_at t i))

  best_now : (b : Bid) → best t v s ≡ some b → Best t v x b
  unfolding bid_at
  best_now b e =
      let was = best_bid t v s b e in
      let paid = price_same t v s x b e alike.1 in
      record {
        listed = was.listed;
        child = child_now b.by_arc was.listed was.child;
        value = omega (arith, was.value);
        least = λ i h c. omega (arith, was.least i h (child_then i h c), dearer_bid i);
        first = λ i h c. omega (arith, was.first i h (child_then i (omega (arith, was.listed)) c), dearer_bid i);
      }

  pub still_best : best t v x ≡ best t v s
  still_best =
      ⊎_elim
      (λ (q : best t v s ≡ none).
      ⊎_elim (λ (p : best t v x ≡ none). p ∙ sym q)
      (λ (p : (c : Bid) × (best t v x ≡ some c)).
      let now = best_bid t v x p.0 p.1 in
      absurd (no_child t v s q p.0.by_arc now.listed (child_then p.0.by_arc now.listed now.child)))
      (option_or (best t v x)))
      (λ (q : (b : Bid) × (best t v s ≡ some b)).
      let now = best_now q.0 q.1 in
      ⊎_elim (λ (p : best t v x ≡ none). absurd (no_child t v x p q.0.by_arc now.listed now.child))
      (λ (p : (c : Bid) × (best t v x ≡ some c)).
      p.1 ∙ ap some (one_best t v x p.0 q.0 (best_bid t v x p.0 p.1) now) ∙ sym q.1)
      (option_or (best t v x)))
      (option_or (best t v s))

-- so the iteration extends the path by the remembered child: the node's price has not been below that child's bid since the scan
extends_by : (t : Table) (x : State) (b : Bid) → best t (terminal x) x ≡ some b → b.value ≤ price_at x (terminal x) →
    next t x ≡ some (extension t (head_at t b.by_arc) x)
unfolding next iteration
extends_by t x b e h = rw (e, le-ltb (price_at x (terminal x)) b.value h)

module _ (t : Table) (g : Good t) (k : ℕ) (x s : State) (e : after k t ≡ some x) (last : last_scan t (terminal x) (history k t) ≡ some s)
    (none_now : scans_now t (terminal x) (some s) x ≡ false) where
  abbrev known : Since t (terminal x) s x
  known = since t g k x e (terminal x) s last

  recalls : Recalls t (terminal x) s x
  recalls =
      ⊎_elim (λ (q : status_at x (terminal x) ≡ deleted). absurd (omega (arith, q, terminal_status (passed t g k x e).0.sound)))
      (λ (q : Recalls t (terminal x) s x). q)
      known.settled

  abbrev b : Bid
  b = recalls.0

  best_there : best t (terminal x) x ≡ some b
  best_there = still_best t (terminal x) s x known none_now ∙ recalls.1

  extends_there : next t x ≡ some (extension t (head_at t b.by_arc) x)
  extends_there = extends_by t x b best_there recalls.2

  pub by_memory : GoesByMemory t s x
  by_memory = record { child = b; remembered = recalls.1; still_best = best_there; extends = extends_there }

  none_more : (y : State) → next t x ≡ some y → y.contractions + y.deletions ≡ x.contractions + x.deletions
  none_more y n =
      let i = (passed t g k x e).0 in
      subst (λ (z : State). z.contractions + z.deletions ≡ x.contractions + x.deletions) (some_same extends_there n)
      (as_many t g x i.depth i.sound i.counts b (best_bid t (terminal x) x b best_there) recalls.2)

pub remembered_child : RememberedChild
unfolding RememberedChild
remembered_child t k x s e = by_memory t (good t [] e) k x s

-- THE SCANS of k iterations: one for each contraction and each deletion, and no more than one an iteration
abbrev Between : Table → (k : ℕ) → State → Type 0
Between t k x = (x.contractions + x.deletions ≤ scans k t) × (scans k t ≤ k)

module _ (t : Table) (g : Good t) (k : ℕ) (x : State) (e : after k t ≡ some x) (y : State) (n : next t x ≡ some y) (before : Between t k x) where
  abbrev now : Bool
  now = scans_now t (terminal x) (last_scan t (terminal x) (history k t)) x

  one_scan : now ≡ true → Between t (suc k) y
  one_scan q =
      let more = scans_more k t x e q in
      let one = at_most_one t g x (passed t g k x e).0 y n (kind t x y n) in
      (omega (arith, before.0), omega (arith, before.1))

  no_scan_more : now ≡ false → Between t (suc k) y
  no_scan_more q =
      let same = scans_as_many k t x e q in
      let last = has_scanned t (terminal x) (last_scan t (terminal x) (history k t)) x q in
      let none = none_more t g k x last.0 e last.1 last.2 y n in
      (omega (arith, before.0), omega (arith, before.1))

pub scans_within : (t : Table) → Good t → (k : ℕ) (x : State) → after k t ≡ some x → (x.contractions + x.deletions ≤ scans k t) × (scans k t ≤ k)
unfolding iterations scans scan_count history
scans_within t g zero x e = let none_yet = (passed t g zero x e).1 in (omega arith, omega arith)
scans_within t g (suc k) x e =
    let w = preceded t k x e in
    let before = scans_within t g k w.0 w.1 in
    let q = cases_Bool (scans_now t (terminal w.0) (last_scan t (terminal w.0) (history k t)) w.0) in
    ⊎_elim (one_scan t g k w.0 w.1 x w.2 before) (no_scan_more t g k w.0 w.1 x w.2 before) q

pub scans_between : ScansBetween
unfolding ScansBetween
scans_between t k x e = scans_within t (good t [] e) k x
