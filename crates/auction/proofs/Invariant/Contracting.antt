-- A contraction keeps the invariant and the counts: its potential falls. Assumes nothing.
use mathlib.Core.Path.{◌≡◌, refl, sym, ap, subst, ◌∙◌}
use mathlib.Core.List.{List}
use mathlib.Core.Logic.{⊎_elim}
use mathlib.Core.Option.{some}
use Prim.Native.Nat.{ℕ, suc, ◌+◌, ◌≤◌, ◌<◌}
use native.Mathlib.Omega.{arith}
use lib.ListN.{length, get_or}
use borrow.Author.Tests.{eq-eqb, ne_eqb}
use Rattle.std.proofs.lemmas.Bool.{cases_eq}
use Rattle.table.specs.Table.{Table, arc_count, tail_at, head_at, length_at}
use Rattle.auction.specs.Auction.{State, Bid, state, price_at, kept_at, status_at, or_zero, terminal, without_terminal, contraction, iterations, unreached, reached, deleted}
use Rattle.auction.proofs.Sums.{total, total_same, total_trade}
use Rattle.auction.proofs.Good.{Good}
use Rattle.auction.proofs.Steps.Effects.{estimate, same_distance, same_estimate, Repriced, repriced, status_in}
use Rattle.auction.proofs.Steps.Bids.{Child, Best}
use Rattle.auction.proofs.Invariant.Sound.{Relaxed, LiveArc, Nodes, Chain, Sound, terminal_status, same_reached}
use Rattle.auction.proofs.Invariant.Potential.{slack, slack_low, slack_tight, slack_loose, slack_falls, stages}
use Rattle.auction.proofs.Invariant.Counting.{Counts, Stepped, one_if_deleted, same_deleted}
use Rattle.auction.proofs.Invariant.Terminal.{shorter, pop, alone, bid_estimate, child_depth}

-- A CONTRACTION at the terminal node v
module _ (t : Table) (g : Good t) (x : State) (dep : ℕ → ℕ) (s : Sound t x dep) (k : Counts t x dep) (b : Bid)
    (best : Best t (terminal x) x b) (less : price_at x (terminal x) < b.value) where
  abbrev v : ℕ
  v = terminal x

  abbrev y : State
  y = contraction t v b.value x

  abbrev nodes : Nodes t x dep
  nodes = s.nodes

  abbrev child : ℕ
  child = head_at t b.by_arc

  v_status : status_at x v ≡ reached
  v_status = terminal_status s

  v_in : v < t.n
  v_in = status_in v nodes.sizes (omega (arith, v_status))

  effect : Repriced t x v b.value y
  effect = repriced t x v b.value nodes.sizes v_in

  same_at : (u : ℕ) → (u ≡ v → ⊥) → estimate y u ≡ estimate x u
  same_at u d = same_estimate (effect.others u d)

  -- the new estimate is the child's, and above the old one
  lifted : estimate y v ≡ estimate x child
  unfolding estimate
  lifted =
      omega
      (arith, effect.here, same_distance x y v (effect.bounds v), best.value, bid_estimate nodes v b.by_arc best.child)

  was_lower : estimate x v < estimate y v
  unfolding estimate
  was_lower = omega (arith, effect.here, same_distance x y v (effect.bounds v), less)

  rises : (u : ℕ) → estimate x u ≤ estimate y u
  rises u = ⊎_elim (λ (e : u ≡ v). omega (arith, was_lower, ap (estimate x) e, ap (estimate y) e)) (λ (d : u ≡ v → ⊥). omega (arith, same_at u d)) (cases_eq u v)

  price_rises : (u : ℕ) → price_at x u ≤ price_at y u
  price_rises u =
      ⊎_elim (λ (e : u ≡ v). omega (arith, less, effect.here, ap (price_at x) e, ap (price_at y) e)) (λ (d : u ≡ v → ⊥). omega (arith, (effect.others u d).price))
      (cases_eq u v)

  -- no child is passed
  under : (i : ℕ) → i < arc_count t → Child t v i x → estimate y v ≤ estimate x (head_at t i)
  under i h c =
      omega
      (arith, lifted, best.least i h c, bid_estimate nodes v i c, best.value, bid_estimate nodes v b.by_arc best.child)

  shallower : (u : ℕ) → dep u < dep v → u ≡ v → ⊥
  shallower u h e = omega (arith, ap dep e)

  contracted_live : (u i : ℕ) → kept_at y u ≡ some i → (status_at y u ≡ deleted → ⊥) → LiveArc t y u i
  contracted_live u i e h =
      let e' = sym (effect.kepts u) ∙ e in
      let a = nodes.kept u i e' in
      let undeleted : status_at x u ≡ deleted → ⊥ = λ q. h (effect.statuses u ∙ q) in
      let l = nodes.live u i e' undeleted in
      record {
        tail_live = effect.statuses (tail_at t i) ∙ l.tail_live;
        rising =
            ⊎_elim
            (λ (at_v : tail_at t i ≡ v).
            let apart : u ≡ v → ⊥ = λ q. omega (arith, a.deeper, ap dep at_v, ap dep q) in
            let c : Child t v i x =
            record {
              leaves = at_v;
              kept = ap (kept_at x) a.into ∙ e';
              undeleted = λ q. undeleted (ap (status_at x) (sym a.into) ∙ q);
            } in
            omega (arith, ap (estimate y) at_v, under i a.listed c, ap (estimate x) a.into, same_at u apart))
            (λ (d : tail_at t i ≡ v → ⊥). omega (arith, same_at (tail_at t i) d, l.rising, rises u))
            (cases_eq (tail_at t i) v);
      }

  contracted_nodes : Nodes t y dep
  contracted_nodes =
      let o = t.origin in
      record {
        sizes = effect.sizes;
        origin_bound = effect.bounds o ∙ nodes.origin_bound;
        origin_kept = effect.kepts o ∙ nodes.origin_kept;
        origin_status = effect.statuses o ∙ nodes.origin_status;
        origin_depth = nodes.origin_depth;
        status_low = λ u. omega (arith, effect.statuses u, nodes.status_low u);
        kept =
            λ u i e.
            let a = nodes.kept u i (sym (effect.kepts u) ∙ e) in
            record {
              listed = a.listed;
              into = a.into;
              from_reached = omega (arith, effect.statuses (tail_at t i), a.from_reached);
              bound =
                  effect.bounds u ∙ a.bound ∙ ap (λ (d : ℕ). some (d + length_at t i)) (sym (same_distance x y (tail_at t i) (effect.bounds (tail_at t i))));
              deeper = a.deeper;
            };
        unkept = λ u e h. effect.bounds u ∙ nodes.unkept u (sym (effect.kepts u) ∙ e) h;
        unbounded = λ u e. effect.statuses u ∙ nodes.unbounded u (sym (effect.bounds u) ∙ e);
        unpriced =
            λ u e.
            let z : status_at x u ≡ unreached = sym (effect.statuses u) ∙ e in
            (effect.others u (λ (q : u ≡ v). omega (arith, v_status, ap (status_at x) q))).price ∙ nodes.unpriced u z;
        live = contracted_live;
        level =
            λ u h.
            omega
            (arith, same_distance x y u (effect.bounds u), nodes.level u (omega (arith, effect.statuses u, h)), price_rises o);
        shallow =
            λ u h. omega (arith, nodes.shallow u (omega (arith, effect.statuses u, h)), same_reached t x y effect.statuses);
        small_distance = λ u. omega (arith, same_distance x y u (effect.bounds u), nodes.small_distance u);
        small_estimate =
            λ u.
            ⊎_elim (λ (e : u ≡ v). omega (arith, ap (estimate y) e, lifted, nodes.small_estimate child))
            (λ (d : u ≡ v → ⊥). omega (arith, same_at u d, nodes.small_estimate u))
            (cases_eq u v);
      }

  contracted_relaxed : (i : ℕ) → i < arc_count t → unreached < status_at y (tail_at t i) → Relaxed t y i
  contracted_relaxed i h r =
      let old = s.relaxed i h (omega (arith, effect.statuses (tail_at t i), r)) in
      let there = same_distance x y (head_at t i) (effect.bounds (head_at t i)) in
      let here = same_distance x y (tail_at t i) (effect.bounds (tail_at t i)) in
      record {
        bounded = λ e. old.bounded (sym (effect.bounds (head_at t i)) ∙ e);
        low = omega (arith, old.low);
        earliest = λ e. omega (arith, ap or_zero (effect.kepts (head_at t i)), old.earliest (omega arith));
      }

  -- the path: the origin stays, any other node leaves it
  stays_path : v ≡ t.origin → y.path ≡ x.path
  unfolding contraction state
  stays_path e = rw (eq-eqb v t.origin e)

  leaves_path : (v ≡ t.origin → ⊥) → y.path ≡ without_terminal x.path
  unfolding contraction state
  leaves_path d = rw (ne_eqb v t.origin d)

  contracted_sound : Sound t y dep
  unfolding terminal
  contracted_sound =
      let path : Chain t y y.path × (length y.path ≡ suc (dep (terminal y))) =
      ⊎_elim
      (λ (e : v ≡ t.origin).
      subst (λ (p : List ℕ). Chain t y p × (length p ≡ suc (dep (get_or p 0 0)))) (sym (stays_path e))
      (alone nodes y x.path s.chain e, s.path_depth))
      (λ (d : v ≡ t.origin → ⊥).
      subst (λ (p : List ℕ). Chain t y p × (length p ≡ suc (dep (get_or p 0 0)))) (sym (leaves_path d))
      (pop nodes y x.path s.chain d s.path_depth (λ u h l. effect.others u (shallower u l))))
      (cases_eq v t.origin) in
      record { nodes = contracted_nodes; relaxed = contracted_relaxed; chain = path.0; path_depth = path.1 }

  -- the potential falls
  apart : child ≡ v → ⊥
  apart e = omega (arith, ap dep e, child_depth nodes v b.by_arc best.child)

  falls : suc (total t.n (slack t y dep)) ≤ total t.n (slack t x dep)
  falls =
      let i = b.by_arc in
      let c = best.child in
      let was = slack_loose t x dep child i c.kept c.undeleted (omega (arith, ap (estimate x) c.leaves, was_lower, lifted)) in
      let now_tight = slack_tight t y dep child i (effect.kepts child ∙ c.kept) (omega (arith, same_at child apart, lifted, ap (estimate y) c.leaves)) in
      let trade =
      total_trade t.n (slack t x dep) (slack t y dep) v child v_in (g.head_in i best.listed) apart
      (λ u d.
      slack_falls t x y dep dep u refl (effect.kepts u) (λ q. effect.statuses u ∙ q)
      (λ j e h. omega (arith, same_at u d, rises (tail_at t j), h)))
      now_tight in
      omega (arith, trade, was, slack_low t y dep v, child_depth nodes v i c)

  path_length : length x.path ≤ suc (length y.path)
  path_length =
      ⊎_elim (λ (e : v ≡ t.origin). omega (arith, ap length (stays_path e)))
      (λ (d : v ≡ t.origin → ⊥). omega (arith, ap length (leaves_path d), shorter x.path))
      (cases_eq v t.origin)

  contracted_counts : Counts t y dep
  unfolding contraction state
  contracted_counts =
      let reached_same = same_reached t x y effect.statuses in
      record {
        contracted = omega (arith, falls, k.contracted, ap (stages t.n) reached_same);
        deleted = k.deleted ∙ total_same t.n (one_if_deleted x) (one_if_deleted y) (λ u h. sym (same_deleted x y u (effect.statuses u)));
        extended = omega (arith, k.extended, path_length);
      }

  pub by_contraction : Stepped t x y
  unfolding contraction state iterations
  by_contraction =
      record {
        invariant = record { depth = dep; sound = contracted_sound; counts = contracted_counts };
        counted = omega arith;
        stays = λ u h. omega (arith, effect.statuses u, h);
        distances = λ u h. same_distance x y u (effect.bounds u);
        arrives = λ u e h. absurd (omega (arith, effect.statuses u, e, h));
        dearer = price_rises;
        gone = λ u e. effect.statuses u ∙ e;
        kepts = λ u i h e. sym (effect.kepts u) ∙ e;
      }
