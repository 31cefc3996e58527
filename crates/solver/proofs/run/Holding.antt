-- What the array of remembered children says in a state of the run: a node that is not deleted has no entry exactly where it has to scan, else the
-- child whose bid was the best at its last scan. Each iteration keeps that. Assumes nothing.
--
-- Only the node before the terminal one on the path can remember the terminal node, and it does: so a contraction or a deletion makes just that
-- node's memory out of date. Reaching a node takes children from others; each of those forgets. And what is out of date stays so until the next
-- scan, since prices only rise and a reached node gains no child.
use mathlib.Core.Path.{◌≡◌, refl, sym, ap, subst, ◌∙◌}
use mathlib.Core.Bool.{true, false}
use mathlib.Core.List.{List, [], ◌∷◌}
use mathlib.Core.Logic.{⊎_elim}
use mathlib.Core.Option.{Option, none, some}
use Prim.Native.Nat.{ℕ, ◌≤◌, ◌<◌}
use native.Mathlib.Omega.{arith}
use lib.ListN.{length, get_or, set}
use lib.Seq.{get_or-set_same, get_or-set_other}
use borrow.Author.Tests.{both_ways}
use Rattle.std.proofs.lemmas.Bool.{cases_eq, false_from_ne_true}
use Rattle.table.specs.Table.{Table, arc_count, tail_at, head_at, no_node}
use Rattle.auction.specs.Auction.{State, Bid, terminal, price_at, kept_at, status_at, is_deleted, to_child, best, without_terminal, unreached, reached, deleted}
use Rattle.auction.specs.Scans.{scans_now}
use Rattle.table.proofs.Basics.{option_or, some_none, some_same}
use Rattle.auction.proofs.Steps.Effects.{Restatused, Repriced}
use Rattle.auction.proofs.Steps.Bids.{child, child_test, best_bid}
use Rattle.auction.proofs.Invariant.Sound.{Nodes, Chain}
use Rattle.auction.proofs.Scanning.{scans_lost, scans_moved, scans_at_once, scans_alike}
use Rattle.auction.proofs.Remembering.{Earlier}
use Rattle.steps.proofs.Remembering.{same_child}
use Rattle.steps.specs.Memory.{Keeps, Loses, Remembering, those_reached}

-- the state of each node's last scan, where it has scanned
abbrev pub Memory : Type 0
Memory = ℕ → Option State

-- THE CHILD THAT NODE V REMEMBERS from its last scan is c
pub record ChildOf (t : Table) (v : ℕ) (last : Option State) (c : ℕ) : Type 0 where
  -- it has scanned, in this state,
  pub scan : State
  pub at_scan : last ≡ some scan
  -- this bid was the best there,
  pub bid : Bid
  pub was_best : best t v scan ≡ some bid
  -- and c made it
  pub is_head : head_at t bid.by_arc ≡ c

-- NODE V'S ENTRY in state x
pub record Holds (t : Table) (v entry : ℕ) (last : Option State) (x : State) : Type 0 where
  -- there is none where it has to scan,
  pub forgotten : scans_now t v last x ≡ true → entry ≡ no_node
  -- else it is the child that the node remembers
  pub recalled : scans_now t v last x ≡ false → ChildOf t v last entry

-- along the path each node remembers the next one
unfoldable pub Led : Table → Memory → List ℕ → Type 0
Led t m [] = t ≡ t
Led t m (v ∷ []) = v ≡ v
Led t m (v ∷ u ∷ more) = ChildOf t u (m u) v × Led t m (u ∷ more)

-- WHAT HOLDS in state x
pub record Holding (t : Table) (m : Memory) (remembered : List ℕ) (x : State) : Type 0 where
  -- of the entry of every node that is not deleted,
  pub each : (v : ℕ) → v < t.n → (status_at x v ≡ deleted → ⊥) → Holds t v (get_or remembered v 0) (m v) x
  -- and along the path
  pub led : Led t m x.path

-- every scan was made in an earlier state
abbrev pub AllEarlier : Table → Memory → State → Type 0
AllEarlier t m x = (v : ℕ) (s : State) → m v ≡ some s → Earlier t v s x

-- an entry that is stored
entry_here : (l : List ℕ) (v c u : ℕ) → u ≡ v → u < length l → get_or (set l v c) u 0 ≡ c
entry_here l v c u e h = ap (λ (k : ℕ). get_or (set l v c) k 0) e ∙ get_or-set_same l v c 0 (omega (arith, e))

-- ONE NODE'S ENTRY
module _ {t : Table} {v : ℕ} {last : Option State} where
  -- it has to scan, and the entry says so
  holds_none : {c : ℕ} {x : State} → scans_now t v last x ≡ true → c ≡ no_node → Holds t v c last x
  holds_none {c} {x} must e = record { forgotten = λ q. e; recalled = λ q. absurd (both_ways (scans_now t v last x) q must) }

  -- nothing of what it goes by has changed
  holds_still : {c c' : ℕ} {x y : State} → ((i : ℕ) → i < arc_count t → to_child t v i y ≡ to_child t v i x) →
      ((s : State) (b : Bid) → last ≡ some s → best t v s ≡ some b → price_at y (head_at t b.by_arc) ≡ price_at x (head_at t b.by_arc)) →
      c' ≡ c → Holds t v c last x → Holds t v c' last y
  holds_still {c} {c'} {x} {y} children price e h =
      let same = scans_alike t v x y last children price in
      record {
        forgotten = λ q. e ∙ h.forgotten (sym same ∙ q);
        recalled = λ q. subst (λ (k : ℕ). ChildOf t v last k) (sym e) (h.recalled (sym same ∙ q));
      }

-- a node that never scanned, and one that has lost a child since its last scan, has to scan
never : (t : Table) (v : ℕ) (last : Option State) (x : State) → last ≡ none → scans_now t v last x ≡ true
unfolding scans_now
never t v last x e = rw e

lost_scans : (t : Table) (v : ℕ) (last : Option State) (x y : State) → ((s : State) → last ≡ some s → Earlier t v s x) →
    (i : ℕ) → i < arc_count t → to_child t v i x ≡ true → to_child t v i y ≡ false → scans_now t v last y ≡ true
lost_scans t v last x y old i h was gone =
    ⊎_elim (λ (e : last ≡ none). never t v last y e)
    (λ (e : (s : State) × (last ≡ some s)).
    subst (λ (o : Option State). scans_now t v o y ≡ true) (sym e.1)
    (scans_lost t v e.0 y i h ((old e.0 e.1).children i h was) gone))
    (option_or last)

-- ALONG THE PATH
module _ {t : Table} {x : State} {dep : ℕ → ℕ} (s : Nodes t x dep) where
  -- what the nodes on it remember, but the terminal one, which is the deepest
  led_moves : (m m' : Memory) (b : ℕ) → ((u : ℕ) → dep u < b → m' u ≡ m u) → (v : ℕ) (more : List ℕ) → dep v ≤ b → Chain t x (v ∷ more) →
      Led t m (v ∷ more) → Led t m' (v ∷ more)
  unfolding Led Chain
  led_moves m m' b same v [] h c l = refl
  led_moves m m' b same v (u ∷ more) h c l =
      let a = s.kept v c.0.by_arc c.0.kept in
      let low : dep u < b = omega (arith, a.deeper, ap dep c.0.leaves) in
      (subst (λ (o : Option State). ChildOf t u o v) (sym (same u low)) l.0, led_moves m m' b same u more (omega arith) c.1 l.1)

  pub path_led : (m m' : Memory) → ((u : ℕ) → (u ≡ terminal x → ⊥) → m' u ≡ m u) → (p : List ℕ) → terminal x ≡ get_or p 0 0 → Chain t x p →
      Led t m p → Led t m' p
  unfolding Chain
  path_led m m' same [] e c l = absurd c
  path_led m m' same (v ∷ more) e c l =
      led_moves m m' (dep v) (λ u h. same u (λ q. omega (arith, ap dep q, ap dep e))) v more (omega arith) c l

-- the path without its terminal node
shorter_led : (t : Table) (m : Memory) (p : List ℕ) → Led t m p → Led t m (without_terminal p)
unfolding Led without_terminal
shorter_led t m [] l = refl
shorter_led t m (v ∷ []) l = refl
shorter_led t m (v ∷ u ∷ more) l = l.1

-- THE TERMINAL NODE HAS SCANNED, in state x itself: its entry is the child of its best bid, c
pub record Looked (t : Table) (m m' : Memory) (x : State) (c : ℕ) : Type 0 where
  -- of no other node is anything new remembered
  pub others : (u : ℕ) → (u ≡ terminal x → ⊥) → m' u ≡ m u
  -- its last scan is this one
  pub here : m' (terminal x) ≡ some x
  pub child : ChildOf t (terminal x) (some x) c

module _ {t : Table} {x : State} {dep : ℕ → ℕ} (s : Nodes t x dep) (chain : Chain t x x.path) where
  pub stored : {m m' : Memory} {l : List ℕ} {c : ℕ} → length l ≡ t.n → Looked t m m' x c → Holding t m l x → Holding t m' (set l (terminal x) c) x
  unfolding terminal
  stored {m} {m'} {l} {c} long look h =
      let v = terminal x in
      record {
        each =
            λ u low live.
            ⊎_elim
            (λ (e : u ≡ v).
            let entry = entry_here l v c u e (omega (arith, low, long)) in
            subst (λ (o : Option State). Holds t u (get_or (set l v c) u 0) o x) (sym (ap m' e ∙ look.here))
            (record {
              forgotten = λ must. absurd (both_ways (scans_now t u (some x) x) (scans_at_once t u x) must);
              recalled =
                  λ none_now.
                  subst (λ (k : ℕ). ChildOf t u (some x) k) (sym entry) (subst (λ (w : ℕ). ChildOf t w (some x) c) (sym e) look.child);
            }))
            (λ (d : u ≡ v → ⊥).
            subst (λ (o : Option State). Holds t u (get_or (set l v c) u 0) o x) (sym (look.others u d))
            (subst (λ (k : ℕ). Holds t u k (m u) x) (sym (get_or-set_other l v u c 0 d)) (h.each u low live)))
            (cases_eq u v);
        led = path_led s m m' look.others x.path refl chain h.led;
      }

  -- or no node has scanned, so that what is remembered is as before
  pub not_stored : {m m' : Memory} {l : List ℕ} → ((u : ℕ) → m' u ≡ m u) → Holding t m l x → Holding t m' l x
  unfolding terminal
  not_stored {m} {m'} {l} same h =
      record {
        each = λ u low live. subst (λ (o : Option State). Holds t u (get_or l u 0) o x) (sym (same u)) (h.each u low live);
        led = path_led s m m' (λ u d. same u) x.path refl chain h.led;
      }

-- AN EXTENSION by child j, from state x to state y
pub record Extended (t : Table) (x y : State) (j : ℕ) : Type 0 where
  -- every price is as it was
  pub prices : (w : ℕ) → price_at y w ≡ price_at x w
  -- a deleted node stays deleted
  pub gone : (w : ℕ) → status_at x w ≡ deleted → status_at y w ≡ deleted
  -- and the child is on the path
  pub path : y.path ≡ j ∷ x.path

-- the node before the child remembers it
onto : (t : Table) (m : Memory) (p : List ℕ) (j : ℕ) → ChildOf t (get_or p 0 0) (m (get_or p 0 0)) j → Led t m p → Led t m (j ∷ p)
unfolding Led
onto t m [] j c l = refl
onto t m (v ∷ more) j c l = (c, l)

-- a reached node keeps its children and its entry, or loses a child and forgets; one that was not reached has never scanned
pub extended : {t : Table} {m : Memory} {l l' : List ℕ} {x y : State} {j : ℕ} → AllEarlier t m x → Extended t x y j →
    ChildOf t (terminal x) (m (terminal x)) j → Remembering t (those_reached x) l l' x y → Holding t m l x → Holding t m l' y
unfolding terminal
extended {t} {m} {l} {l'} {x} {y} {j} old e next r h =
    record {
      each =
          λ u low live.
          let here = h.each u low (λ q. live (e.gone u q)) in
          ⊎_elim
          (λ (z : status_at x u ≡ unreached).
          let never_yet : m u ≡ none =
          ⊎_elim (λ (q : m u ≡ none). q) (λ (q : (s : State) × (m u ≡ some s)). absurd (omega (arith, z, (old u q.0 q.1).there))) (option_or (m u)) in
          holds_none (never t u (m u) y never_yet) (r.nothing u (here.forgotten (never t u (m u) x never_yet))))
          (λ (z : status_at x u ≡ unreached → ⊥).
          ⊎_elim
          (λ (k : Keeps t u l l' x y). holds_still (λ i q. k.children i) (λ s b q p. e.prices (head_at t b.by_arc)) k.memory here)
          (λ (k : Loses t u l' x y). holds_none (lost_scans t u (m u) x y (old u) k.arc k.listed k.child k.lost) k.memory)
          (r.each u (omega (arith, z))))
          (cases_eq (status_at x u) unreached);
      led = subst (λ (p : List ℕ). Led t m p) (sym e.path) (onto t m x.path j next h.led);
    }

-- P IS THE NODE BEFORE THE TERMINAL ONE on the path
pub record Before (t : Table) (m : Memory) (x : State) (p : ℕ) : Type 0 where
  -- the terminal node's kept arc
  pub by_arc : ℕ
  pub listed : by_arc < arc_count t
  pub kept : kept_at x (terminal x) ≡ some by_arc
  pub into : head_at t by_arc ≡ terminal x
  -- leaves p,
  pub leaves : tail_at t by_arc ≡ p
  -- which remembers the terminal node
  pub remembers : ChildOf t p (m p) (terminal x)

-- the same status is deleted, or not
same_gone : (x y : State) (v : ℕ) → status_at y v ≡ status_at x v → is_deleted y v ≡ is_deleted x v
unfolding is_deleted
same_gone x y v e = rw e

module _ (t : Table) (m : Memory) (x : State) where
  -- no other node has the terminal node for a child
  only_before : {p : ℕ} → Before t m x p → (u i : ℕ) → head_at t i ≡ terminal x → to_child t u i x ≡ true → u ≡ p
  only_before b u i e q =
      let c = child t u x i q in
      let same : i ≡ b.by_arc = some_same (sym (ap (kept_at x) e) ∙ c.kept) b.kept in
      sym c.leaves ∙ ap (tail_at t) same ∙ b.leaves

  -- A CONTRACTION at the terminal node: its price rises, and nothing else changes at any node
  module _ (y : State) (a : ℕ) (old : AllEarlier t m x) (e : Repriced t x (terminal x) a y) (risen : price_at x (terminal x) < a) where
    same_children : (u i : ℕ) → to_child t u i y ≡ to_child t u i x
    same_children u i = same_child x y t u i (e.kepts (head_at t i)) (same_gone x y (head_at t i) (e.statuses (head_at t i)))

    -- a node that has no child there keeps what it goes by; where it remembers the terminal node it has lost it before
    untouched : {c : ℕ} (u : ℕ) → ((i : ℕ) → head_at t i ≡ terminal x → to_child t u i x ≡ true → ⊥) → Holds t u c (m u) x → Holds t u c (m u) y
    untouched {c} u no_child h =
        let still : ((s : State) (b : Bid) → m u ≡ some s → best t u s ≡ some b → head_at t b.by_arc ≡ terminal x → ⊥) → Holds t u c (m u) y =
        λ apart. holds_still (λ i q. same_children u i) (λ s b q p. (e.others (head_at t b.by_arc) (apart s b q p)).price) refl h in
        ⊎_elim (λ (q : m u ≡ none). still (λ s b r p. absurd (some_none r q)))
        (λ (q : (s : State) × (m u ≡ some s)).
        ⊎_elim (λ (p : best t u q.0 ≡ none). still (λ s b r z. absurd (some_none z (ap (best t u) (some_same r q.1) ∙ p))))
        (λ (p : (b : Bid) × (best t u q.0 ≡ some b)).
        ⊎_elim
        (λ (z : head_at t p.0.by_arc ≡ terminal x).
        let i = p.0.by_arc in
        let was = best_bid t u q.0 p.0 p.1 in
        let then = child_test t u q.0 i was.child in
        let gone = false_from_ne_true (to_child t u i x) (no_child i z) in
        let must : (a : State) → to_child t u i a ≡ false → scans_now t u (m u) a ≡ true =
        λ a n. subst (λ (o : Option State). scans_now t u o a ≡ true) (sym q.1) (scans_lost t u q.0 a i was.listed then n) in
        holds_none (must y (same_children u i ∙ gone)) (h.forgotten (must x gone)))
        (λ (z : head_at t p.0.by_arc ≡ terminal x → ⊥).
        still
        (λ s b r o.
        let same = some_same (ap (best t u) (some_same q.1 r) ∙ o) p.1 in
        λ w. z (ap (λ (a : Bid). head_at t a.by_arc) (sym same) ∙ w)))
        (cases_eq (head_at t p.0.by_arc) (terminal x)))
        (option_or (best t u q.0)))
        (option_or (m u))

    -- a node that remembers the terminal node has to scan
    dearer_child : (p : ℕ) → ChildOf t p (m p) (terminal x) → scans_now t p (m p) y ≡ true
    dearer_child p c =
        let then = ap (price_at c.scan) c.is_head in
        let now = ap (price_at y) c.is_head in
        let low = (old p c.scan c.at_scan).dearer (terminal x) in
        subst (λ (o : Option State). scans_now t p o y ≡ true) (sym c.at_scan)
        (scans_moved t p c.scan y c.bid c.was_best (λ q. omega (arith, q, then, now, low, e.here, risen)))

    -- at the origin, which is no node's child
    pub contracted_origin : {l : List ℕ} → kept_at x (terminal x) ≡ none → y.path ≡ x.path → Holding t m l x → Holding t m l y
    contracted_origin unkept ep h =
        record {
          each =
              λ u low live.
              untouched u (λ i z q. some_none (sym (ap (kept_at x) z) ∙ (child t u x i q).kept) unkept)
              (h.each u low (λ q. live (e.statuses u ∙ q)));
          led = subst (λ (p : List ℕ). Led t m p) (sym ep) h.led;
        }

    -- at another node: the one before it on the path remembers it
    pub contracted : {l : List ℕ} {p : ℕ} → length l ≡ t.n → Before t m x p → y.path ≡ without_terminal x.path →
        Holding t m l x → Holding t m (set l p no_node) y
    contracted {l} {p} long b ep h =
        record {
          each =
              λ u low live.
              let here = h.each u low (λ q. live (e.statuses u ∙ q)) in
              ⊎_elim
              (λ (z : u ≡ p).
              holds_none (subst (λ (w : ℕ). scans_now t w (m w) y ≡ true) (sym z) (dearer_child p b.remembers))
              (entry_here l p no_node u z (omega (arith, low, long))))
              (λ (d : u ≡ p → ⊥).
              subst (λ (k : ℕ). Holds t u k (m u) y) (sym (get_or-set_other l p u no_node 0 d))
              (untouched u (λ i z q. d (only_before b u i z q)) here))
              (cases_eq u p);
          led = subst (λ (q : List ℕ). Led t m q) (sym ep) (shorter_led t m x.path h.led);
        }

  -- A DELETION of the terminal node, whose status alone changes: the node before it on the path loses it
  pub removed : {y : State} {m' : Memory} {l : List ℕ} {p : ℕ} → length l ≡ t.n → status_at x (terminal x) ≡ reached → AllEarlier t m x →
      Restatused t x (terminal x) deleted y → Before t m x p → ((u : ℕ) → (u ≡ terminal x → ⊥) → m' u ≡ m u) → Led t m' x.path →
      y.path ≡ without_terminal x.path → Holding t m l x → Holding t m' (set l p no_node) y
  removed {y} {m'} {l} {p} long top old e b others led ep h =
      let gone : (u i : ℕ) → head_at t i ≡ terminal x → to_child t u i y ≡ false =
      λ u i z. false_from_ne_true (to_child t u i y) (λ q. (child t u y i q).undeleted (ap (status_at y) z ∙ e.here)) in
      record {
        each =
            λ u low live.
            let other : u ≡ terminal x → ⊥ = λ z. live (ap (status_at y) z ∙ e.here) in
            subst (λ (o : Option State). Holds t u (get_or (set l p no_node) u 0) o y) (sym (others u other))
            (⊎_elim
            (λ (z : u ≡ p).
            let k = b.by_arc in
            let was = child_test t u x k (record {
              leaves = b.leaves ∙ sym z;
              kept = ap (kept_at x) b.into ∙ b.kept;
              undeleted = λ q. omega (arith, sym (ap (status_at x) b.into) ∙ q, top);
            }) in
            holds_none (lost_scans t u (m u) x y (old u) k b.listed was (gone u k b.into))
            (entry_here l p no_node u z (omega (arith, low, long))))
            (λ (d : u ≡ p → ⊥).
            let children : (i : ℕ) → to_child t u i y ≡ to_child t u i x =
            λ i.
            ⊎_elim
            (λ (z : head_at t i ≡ terminal x). gone u i z ∙ sym (false_from_ne_true (to_child t u i x) (λ q. d (only_before b u i z q))))
            (λ (z : head_at t i ≡ terminal x → ⊥). same_child x y t u i (e.kepts (head_at t i)) (same_gone x y (head_at t i) (e.elsewhere (head_at t i) z)))
            (cases_eq (head_at t i) (terminal x)) in
            holds_still (λ i q. children i) (λ s a q r. e.prices (head_at t a.by_arc)) (get_or-set_other l p u no_node 0 d)
            (h.each u low (λ q. live (e.elsewhere u other ∙ q))))
            (cases_eq u p));
        led = subst (λ (q : List ℕ). Led t m' q) (sym ep) (shorter_led t m' x.path led);
      }
