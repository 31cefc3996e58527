-- As many iterations scan as in the auction of the table without its absent arcs. Assumes nothing.
use mathlib.Core.Path.{◌≡◌, refl, sym, ap, ◌∙◌}
use mathlib.Core.Bool.{true, false, ◌&&◌}
use mathlib.Core.List.{List, [], ◌∷◌, map}
use mathlib.Core.Logic.{⊎_elim}
use mathlib.Core.Option.{Option, none, some}
use Prim.Native.Nat.{ℕ, zero, suc, ◌<◌}
use lib.Dec.{eqb}
use lib.ListN.{length}
use Rattle.std.proofs.lemmas.Bool.{cases_Bool}
use Rattle.table.specs.Table.{Arc, Table, table, arc_count, present, present_at, no_node}
use Rattle.auction.specs.Auction.{State, state, Bid, bid, terminal, price_at, best, after}
use Rattle.auction.specs.Scans.{same_at, same_children_from, same_children, same_price, scans_now, and_earlier, history, or_now, last_scan, scan_count, scans}
use Rattle.auction.specs.Absent.{present_arcs, without_absent, told_state, told_step, ScansWithoutAbsent}
use Rattle.table.proofs.Basics.{option_or}
use Rattle.auction.proofs.Good.{Good, good}
use Rattle.auction.proofs.Without.Places.{spread, same_head, closed_good}
use Rattle.auction.proofs.Without.Told.{Aligned, all_left, here, here_place, after_present, after_absent, told_bid, told_child, absent_child, told_best}
use Rattle.auction.proofs.Without.Runs.{terminal_after, told_after}

module _ (t : Table) where
  abbrev s : Table
  s = without_absent t

  abbrev place : ℕ → ℕ
  place = spread t.arcs

  abbrev retold : State → State
  retold x = told_state place x

  -- THE CHILDREN of a node have changed between two states where they have in the other auction: a present arc leads to a child in both auctions or
  -- in neither, and an absent one in neither state
  told_same_at : (v i : ℕ) (x y : State) → same_at t v (place i) (retold x) (retold y) ≡ same_at s v i x y
  unfolding same_at
  told_same_at v i x y = rw (told_child t v i x, told_child t v i y)

  absent_same_at : (v i : ℕ) (x y : State) → v < no_node → present_at t i ≡ false → same_at t v i x y ≡ true
  unfolding same_at
  absent_same_at v i x y h p = rw (absent_child t v i x h p, absent_child t v i y h p)

  told_same_children_from : (v : ℕ) → v < no_node → (rest : List Arc) (i j : ℕ) (x y : State) → Aligned t rest i j →
      same_children_from (length rest) i t v (retold x) (retold y) ≡ same_children_from (length (present_arcs rest)) j s v x y
  unfolding same_children_from present_arcs
  told_same_children_from v h [] i j x y l = refl
  told_same_children_from v h (a ∷ more) i j x y l =
      ⊎_elim
      (λ (p : present a ≡ true).
      rw (
        p,
        sym (told_same_at v j x y),
        here_place t a more i j l p,
        told_same_children_from v h more (suc i) (suc j) x y (after_present t a more i j l p),
      ))
      (λ (p : present a ≡ false).
      rw (p, absent_same_at v i (retold x) (retold y) h (here t a more i j l ∙ p))
      (told_same_children_from v h more (suc i) j x y (after_absent t a more i j l p)))
      (cases_Bool (present a))

  told_same_children : (v : ℕ) (x y : State) → v < no_node → same_children t v (retold x) (retold y) ≡ same_children s v x y
  unfolding same_children arc_count without_absent table
  told_same_children v x y h = told_same_children_from v h t.arcs 0 0 x y (all_left t)

  -- and so has the price of the child that it remembers
  told_same_price : (o : Option Bid) (x y : State) → same_price t (told_bid t o) (retold x) (retold y) ≡ same_price s o x y
  unfolding same_price told_bid bid price_at told_state state
  told_same_price none x y = refl
  told_same_price (some b) x y = rw (same_head t b.by_arc)

  -- SO A NODE SCANS in a state where it does in the other auction,
  told_scans_now : (v : ℕ) → v < no_node → (o : Option State) (x : State) → scans_now t v (told_step place o) (retold x) ≡ scans_now s v o x
  unfolding scans_now told_step
  told_scans_now v h none x = refl
  told_scans_now v h (some y) x = rw (told_same_children v y x h, told_best t v y h, told_same_price (best s v y) y x)

  -- its last scan was in the same state,
  told_or_now : (v : ℕ) → v < no_node → (x : State) (o : Option State) →
      or_now t v (retold x) (told_step place o) ≡ told_step place (or_now s v x o)
  unfolding or_now terminal told_state state told_step
  told_or_now v h x o =
      let now = eqb (terminal x) v && scans_now s v o x in
      ⊎_elim (λ (q : now ≡ true). rw (told_scans_now v h o x, q)) (λ (q : now ≡ false). rw (told_scans_now v h o x, q)) (cases_Bool now)

  told_last_scan : (v : ℕ) → v < no_node → (xs : List State) → last_scan t v (map retold xs) ≡ told_step place (last_scan s v xs)
  unfolding last_scan told_step
  told_last_scan v h [] = refl
  told_last_scan v h (x ∷ xs) = ap (or_now t v (retold x)) (told_last_scan v h xs) ∙ told_or_now v h x (last_scan s v xs)

  -- and an iteration counts as a scan where it does in the other
  told_scan : (x : State) (xs : List State) → terminal x < no_node → scan_count t (map retold xs) ≡ scan_count s xs →
      scan_count t (map retold (x ∷ xs)) ≡ scan_count s (x ∷ xs)
  unfolding scan_count terminal told_state state
  told_scan x xs h e =
      let v = terminal x in
      rw (told_last_scan v h xs, told_scans_now v h (last_scan s v xs) x, e)

  -- THE HISTORY is the same, so that as many of its iterations scan
  told_earlier : (o : Option State) (xs : List State) → and_earlier (told_step place o) (map retold xs) ≡ map retold (and_earlier o xs)
  unfolding and_earlier told_step
  told_earlier none xs = refl
  told_earlier (some x) xs = refl

  module _ (g : Good s) where
    told_history : (k : ℕ) → history k t ≡ map retold (history k s)
    unfolding history
    told_history zero = refl
    told_history (suc k) = rw (told_after t g k, told_history k) (told_earlier (after k s) (history k s))

    told_scan_count : (k : ℕ) → scan_count t (map retold (history k s)) ≡ scan_count s (history k s)
    unfolding history and_earlier scan_count
    told_scan_count zero = refl
    told_scan_count (suc k) =
        ⊎_elim (λ (n : after k s ≡ none). rw n (told_scan_count k))
        (λ (w : (x : State) × (after k s ≡ some x)).
        rw w.1 (told_scan w.0 (history k s) (terminal_after t g k w.0 w.1) (told_scan_count k)))
        (option_or (after k s))

    pub told_scans : (k : ℕ) → scans k t ≡ scans k s
    unfolding scans
    told_scans k = ap (scan_count t) (told_history k) ∙ told_scan_count k

-- THE PROMISE
pub scans_without_absent : ScansWithoutAbsent
unfolding ScansWithoutAbsent
scans_without_absent t k e = told_scans t (good (without_absent t) [] (closed_good t [] e)) k
