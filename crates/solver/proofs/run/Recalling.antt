-- Each iteration keeps what the array of remembered children says; a node that has an entry extends the path by that child, and one that has none
-- scans. Assumes nothing.
use mathlib.Core.Path.{◌≡◌, refl, sym, ap, subst, ◌∙◌}
use mathlib.Core.Bool.{true, false}
use mathlib.Core.List.{List, [], ◌∷◌}
use mathlib.Core.Logic.{⊎_elim}
use mathlib.Core.Option.{Option, none, some}
use Prim.Native.Nat.{ℕ, suc, ◌≤◌, ◌<◌}
use native.Mathlib.Omega.{arith}
use lib.ListN.{length, get_or, set, length-set}
use borrow.Author.Tests.{eq-eqb, ne_eqb, both_ways}
use Rattle.std.proofs.lemmas.Bool.{cases_Bool, cases_eq, false_from_ne_true}
use Rattle.table.specs.Table.{Table, head_at, no_node}
use Rattle.auction.specs.Auction.{State, Bid, state, terminal, price_at, kept_at, status_at, extension, deletion, contraction, best, next, after, without_terminal, reached, deleted}
use Rattle.auction.specs.Scans.{scans_now, history, last_scan, scans}
use Rattle.auction.specs.Promises.{GoesByMemory}
use Rattle.table.proofs.Basics.{some_same}
use Rattle.auction.proofs.Good.{Good}
use Rattle.auction.proofs.Steps.Effects.{deletion_effect, repriced, status_in}
use Rattle.auction.proofs.Steps.Bids.{best_bid}
use Rattle.auction.proofs.Steps.Kinds.{Kind, deletes, contracts, extends, kind}
use Rattle.auction.proofs.Steps.Keeps.{extension_keeps}
use Rattle.auction.proofs.Invariant.Sound.{Nodes, Chain, terminal_status}
use Rattle.auction.proofs.Invariant.Counting.{Invariant}
use Rattle.auction.proofs.Run.{stepped}
use Rattle.auction.proofs.Scanning.{history_next, scan_here, scan_not, scans_more, scans_as_many}
use Rattle.auction.proofs.Remembering.{Earlier, since, by_memory}
use Rattle.steps.specs.Memory.{Remembering, those_reached}
use Rattle.solver.proofs.run.Holding.{Memory, ChildOf, Holds, Led, Holding, AllEarlier, Before, path_led, stored, not_stored, Extended, extended, contracted_origin, contracted, removed}

-- after k iterations: the state of each node's last scan
abbrev pub memory : (k : ℕ) → Table → Memory
memory k t v = last_scan t v (history k t)

-- WHAT AN ITERATION THAT SCANS, from x to y, leaves in the array
pub record Stored (t : Table) (x y : State) (l l' : List ℕ) : Type 0 where
  -- a deletion: the node before the terminal one forgets
  pub deleted : (terminal x ≡ t.origin → ⊥) → best t (terminal x) x ≡ none → l' ≡ set l (get_or x.path 1 0) no_node
  -- a contraction: the terminal node remembers the child of the best bid, and the node before it, where there is one, forgets
  pub contracted : (b : Bid) → best t (terminal x) x ≡ some b → price_at x (terminal x) < b.value → (terminal x ≡ t.origin → ⊥) →
      l' ≡ set (set l (terminal x) (head_at t b.by_arc)) (get_or x.path 1 0) no_node
  pub at_origin : (b : Bid) → best t (terminal x) x ≡ some b → price_at x (terminal x) < b.value → terminal x ≡ t.origin →
      l' ≡ set l (terminal x) (head_at t b.by_arc)
  -- an extension: the terminal node remembers that child, and reached nodes keep their children and entries, or lose a child and forget
  pub extended : (b : Bid) → best t (terminal x) x ≡ some b → b.value ≤ price_at x (terminal x) →
      Remembering t (those_reached x) (set l (terminal x) (head_at t b.by_arc)) l' x y

-- BEFORE the first iteration no node has an entry
pub holding_first : (t : Table) (l : List ℕ) (x : State) → ((v : ℕ) → v < t.n → get_or l v 0 ≡ no_node) → x.path ≡ t.origin ∷ [] → Holding t (memory 0 t) l x
unfolding history last_scan scans_now Led
holding_first t l x none_there e =
    record {
      each = λ v low live. record { forgotten = λ q. none_there v low; recalled = λ q. absurd (both_ways true q refl) };
      led = subst (λ (p : List ℕ). Led t (memory 0 t) p) (sym e) refl;
    }

-- AN ITERATION from state x, which the run comes to after k of them
module _ (t : Table) (g : Good t) (k : ℕ) (x : State) (came : after k t ≡ some x) (i : Invariant t x) where
  abbrev v : ℕ
  v = terminal x

  abbrev nodes : Nodes t x i.depth
  nodes = i.sound.nodes

  top : status_at x v ≡ reached
  top = terminal_status i.sound

  live : status_at x v ≡ deleted → ⊥
  live q = omega (arith, top, q)

  v_in : v < t.n
  v_in = status_in v nodes.sizes (omega (arith, top))

  all_earlier : AllEarlier t (memory k t) x
  all_earlier u s e = (since t g k x came u s e).earlier

  -- the memory after it: another node's as before, the terminal node's new where it scans
  next_is : (u : ℕ) → memory (suc k) t u ≡ last_scan t u (x ∷ history k t)
  next_is u = ap (last_scan t u) (history_next k t x came)

  others : (u : ℕ) → (u ≡ v → ⊥) → memory (suc k) t u ≡ memory k t u
  others u d = next_is u ∙ scan_not t u x (history k t) (λ e. absurd (d (sym e)))

  scanned : scans_now t v (memory k t v) x ≡ true → memory (suc k) t v ≡ some x
  scanned q = next_is v ∙ scan_here t v x (history k t) refl q

  not_scanned : scans_now t v (memory k t v) x ≡ false → memory (suc k) t v ≡ memory k t v
  not_scanned q = next_is v ∙ scan_not t v x (history k t) (λ e. q)

  -- an extension by child j changes no price and lengthens the path
  extends_to : (y : State) → next t x ≡ some y → (j : ℕ) → extension t j x ≡ y → Extended t x y j
  unfolding price_at
  extends_to y step j same =
      let keeps = extension_keeps t j x in
      record {
        prices = λ w. ap (λ (p : List ℕ). get_or p w 0) (ap (λ (a : State). a.price) (sym same) ∙ keeps.1);
        gone = (stepped t g x i y step).gone;
        path = ap (λ (a : State). a.path) (sym same) ∙ keeps.0;
      }

  module _ (l : List ℕ) (h : Holding t (memory k t) l x) where
    abbrev here : Holds t v (get_or l v 0) (memory k t v) x
    here = h.each v v_in live

    -- A NODE THAT HAS AN ENTRY does not scan: the entry is the child of its best bid, by which it extends the path
    module _ (some_child : get_or l v 0 ≡ no_node → ⊥) where
      no_scan : scans_now t v (memory k t v) x ≡ false
      no_scan = false_from_ne_true (scans_now t v (memory k t v) x) (λ q. some_child (here.forgotten q))

      abbrev known : ChildOf t v (memory k t v) (get_or l v 0)
      known = here.recalled no_scan

      goes : GoesByMemory t known.scan x
      goes = by_memory t g k x known.scan came known.at_scan (subst (λ (o : Option State). scans_now t v o x ≡ false) known.at_scan no_scan)

      same_bid : goes.child ≡ known.bid
      same_bid = some_same goes.remembered known.was_best

      entry_is : head_at t goes.child.by_arc ≡ get_or l v 0
      entry_is = ap (λ (b : Bid). head_at t b.by_arc) same_bid ∙ known.is_head

      pub entry_kept : (b : ℕ) × (kept_at x (get_or l v 0) ≡ some b)
      entry_kept =
          (goes.child.by_arc, ap (kept_at x) (sym entry_is) ∙ (best_bid t v x goes.child goes.still_best).child.kept)

      pub extends_by_entry : next t x ≡ some (extension t (get_or l v 0) x)
      extends_by_entry = goes.extends ∙ ap (λ (j : ℕ). some (extension t j x)) entry_is

      pub scans_no_more : scans (suc k) t ≡ scans k t
      scans_no_more = scans_as_many k t x came no_scan

      all_same : (u : ℕ) → memory (suc k) t u ≡ memory k t u
      all_same u =
          ⊎_elim (λ (e : u ≡ v). ap (memory (suc k) t) e ∙ not_scanned no_scan ∙ ap (memory k t) (sym e)) (λ (d : u ≡ v → ⊥). others u d) (cases_eq u v)

      pub holding_recalled : (y : State) → next t x ≡ some y → (l' : List ℕ) → Remembering t (those_reached x) l l' x y → Holding t (memory (suc k) t) l' y
      holding_recalled y step l' r =
          let m' = memory (suc k) t in
          let old : AllEarlier t m' x = λ u s e. all_earlier u s (sym (all_same u) ∙ e) in
          let next_child = subst (λ (o : Option State). ChildOf t v o (get_or l v 0)) (sym (all_same v)) known in
          extended old (extends_to y step (get_or l v 0) (some_same extends_by_entry step)) next_child r (not_stored nodes i.sound.chain all_same h)

    -- A NODE THAT HAS NONE scans
    module _ (none_there : get_or l v 0 ≡ no_node) where
      must_scan : scans_now t v (memory k t v) x ≡ true
      must_scan =
          ⊎_elim (λ (q : scans_now t v (memory k t v) x ≡ true). q)
          (λ (q : scans_now t v (memory k t v) x ≡ false).
          let c = here.recalled q in
          let low = g.head_in c.bid.by_arc (best_bid t v c.scan c.bid c.was_best).listed in
          absurd (omega (arith, none_there, c.is_head, low, g.few_nodes)))
          (cases_Bool (scans_now t v (memory k t v) x))

      pub scans_once_more : scans (suc k) t ≡ suc (scans k t)
      scans_once_more = scans_more k t x came must_scan

      -- the child of its best bid is stored
      module _ (b : Bid) (e : best t v x ≡ some b) where
        abbrev j : ℕ
        j = head_at t b.by_arc

        new_child : ChildOf t v (some x) j
        new_child = record { scan = x; at_scan = refl; bid = b; was_best = e; is_head = refl }

        -- in the same state, with what is remembered after the iteration
        now_stored : length l ≡ t.n → Holding t (memory (suc k) t) (set l v j) x
        now_stored long = stored nodes i.sound.chain long (record { others = others; here = scanned must_scan; child = new_child }) h

      now_earlier : AllEarlier t (memory (suc k) t) x
      now_earlier u s e =
          ⊎_elim
          (λ (q : u ≡ v).
          let same : x ≡ s = some_same (scanned must_scan) (ap (memory (suc k) t) (sym q) ∙ e) in
          subst (λ (a : State). Earlier t u a x) same
          (record { there = omega (arith, ap (status_at x) q, top); children = λ a b c. c; dearer = λ w. omega arith }))
          (λ (d : u ≡ v → ⊥). all_earlier u s (sym (others u d) ∙ e))
          (cases_eq u v)

  -- the node before the terminal one, where that is not the origin
  before : (m : Memory) (p : List ℕ) → v ≡ get_or p 0 0 → Chain t x p → Led t m p → (v ≡ t.origin → ⊥) → Before t m x (get_or p 1 0)
  unfolding Chain Led
  before m [] e c l d = absurd c
  before m (w ∷ []) e c l d = absurd (d (e ∙ c))
  before m (w ∷ u ∷ more) e c l d =
      let a = nodes.kept w c.0.by_arc c.0.kept in
      record {
        by_arc = c.0.by_arc;
        listed = a.listed;
        kept = ap (kept_at x) e ∙ c.0.kept;
        into = a.into ∙ sym e;
        leaves = c.0.leaves;
        remembers = subst (λ (n : ℕ). ChildOf t u (m u) n) (sym e) l.0;
      }

  -- ONE ITERATION THAT SCANS
  module _ (y : State) (step : next t x ≡ some y) (l l' : List ℕ) (long : length l ≡ t.n) (h : Holding t (memory k t) l x) (none_there : get_or l v 0 ≡ no_node)
      (left : Stored t x y l l') where
    abbrev m' : Memory
    m' = memory (suc k) t

    old : AllEarlier t m' x
    old = now_earlier l h none_there

    by_kind : Kind t x y → Holding t m' l' y
    unfolding terminal deletion contraction state
    by_kind (deletes none_bid inner same) =
        let led = path_led nodes (memory k t) m' others x.path refl i.sound.chain h.led in
        let z =
        removed t (memory k t) x long top all_earlier (deletion_effect t x v nodes.sizes v_in)
        (before (memory k t) x.path refl i.sound.chain h.led inner) others led refl h in
        subst (λ (a : List ℕ). Holding t m' a y) (sym (left.deleted inner none_bid))
        (subst (λ (a : State). Holding t m' (set l (get_or x.path 1 0) no_node) a) same z)
    by_kind (contracts b e less same) =
        let now = now_stored l h none_there b e long in
        let j = head_at t b.by_arc in
        let lower = contraction t v b.value x in
        let effect = repriced t x v b.value nodes.sizes v_in in
        ⊎_elim
        (λ (q : v ≡ t.origin).
        let path : lower.path ≡ x.path = rw (eq-eqb v t.origin q) in
        subst (λ (a : List ℕ). Holding t m' a y) (sym (left.at_origin b e less q))
        (subst (λ (a : State). Holding t m' (set l v j) a) same
        (contracted_origin t m' x lower b.value old effect less (ap (kept_at x) q ∙ nodes.origin_kept) path now)))
        (λ (q : v ≡ t.origin → ⊥).
        let path : lower.path ≡ without_terminal x.path = rw (ne_eqb v t.origin q) in
        subst (λ (a : List ℕ). Holding t m' a y) (sym (left.contracted b e less q))
        (subst (λ (a : State). Holding t m' (set (set l v j) (get_or x.path 1 0) no_node) a) same
        (contracted t m' x lower b.value old effect less (length-set l v j ∙ long) (before m' x.path refl i.sound.chain now.led q) path now)))
        (cases_eq v t.origin)
    by_kind (extends b e equal same) =
        let j = head_at t b.by_arc in
        let next_child = subst (λ (o : Option State). ChildOf t v o j) (sym (scanned (must_scan l h none_there))) (new_child l h none_there b e) in
        extended old (extends_to y step j same) next_child (left.extended b e equal) (now_stored l h none_there b e long)

    pub holding_next : Holding t (memory (suc k) t) l' y
    holding_next = by_kind (kind t x y step)
