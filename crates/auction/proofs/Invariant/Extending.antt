-- An extension keeps the invariant and the counts, also where the child is then reached. Assumes nothing.
use mathlib.Core.Path.{◌≡◌, refl, sym, ap, subst, ◌∙◌}
use mathlib.Core.Bool.{Bool, true, false, cond}
use mathlib.Core.List.{List, [], ◌∷◌}
use mathlib.Core.Logic.{◌⊎◌, inl, inr, ⊎_elim}
use mathlib.Core.Option.{some}
use Prim.Native.Nat.{ℕ, suc, ◌+◌, ◌≤◌, ◌<◌}
use native.Mathlib.Omega.{arith}
use lib.ListN.{length, get_or}
use Rattle.std.proofs.lemmas.Bool.{cases_Bool, cases_eq}
use Rattle.table.specs.Table.{Table, arc_count, tail_at, head_at, length_at}
use Rattle.auction.specs.Auction.{State, Bid, state, price_at, bound_at, kept_at, status_at, distance, or_zero, was_reached, terminal, longer, extension, with_status, reach, iterations, unreached, reached, deleted}
use Rattle.auction.specs.HandOver.{reached_count}
use Rattle.table.proofs.Basics.{some_none}
use Rattle.auction.proofs.Sums.{total_le, total_same}
use Rattle.auction.proofs.Good.{Good}
use Rattle.auction.proofs.Steps.Effects.{Sizes, Same, estimate, same_distance, same_estimate, Restatused, restatused, longer_same, longer_sizes, kept_below, reached_status, unreached_status}
use Rattle.auction.proofs.Steps.Bids.{Child, Best}
use Rattle.auction.proofs.Invariant.Sound.{Relaxed, RelaxedTo, Nodes, Chain, Link, Sound, path_moves, terminal_status, top_estimate, same_reached, one_more_reached}
use Rattle.auction.proofs.Invariant.Reaching.{Reaching, Offered, all_offered}
use Rattle.auction.proofs.Invariant.Potential.{slack, slack_falls, stages, reach_potential}
use Rattle.auction.proofs.Invariant.Counting.{Counts, Stepped, one_if_deleted, undeleted_none, same_deleted}
use Rattle.auction.proofs.Invariant.Terminal.{bid_estimate, child_depth, never_above}

-- the invariant speaks of the nodes alone
nodes_alike : {t : Table} {x y : State} {dep : ℕ → ℕ} → ((v : ℕ) → Same x y v) → Sizes t y → Nodes t x dep → Nodes t y dep
nodes_alike {t} {x} {y} {dep} same sizes s =
    let o = t.origin in
    let distances : (v : ℕ) → distance y v ≡ distance x v = λ v. same_distance x y v (same v).bound in
    record {
      sizes = sizes;
      origin_bound = (same o).bound ∙ s.origin_bound;
      origin_kept = (same o).kept ∙ s.origin_kept;
      origin_status = (same o).status ∙ s.origin_status;
      origin_depth = s.origin_depth;
      status_low = λ v. omega (arith, (same v).status, s.status_low v);
      kept =
          λ v i e.
          let a = s.kept v i (sym (same v).kept ∙ e) in
          record {
            listed = a.listed;
            into = a.into;
            from_reached = omega (arith, (same (tail_at t i)).status, a.from_reached);
            bound = (same v).bound ∙ a.bound ∙ ap (λ (d : ℕ). some (d + length_at t i)) (sym (distances (tail_at t i)));
            deeper = a.deeper;
          };
      unkept = λ v e h. (same v).bound ∙ s.unkept v (sym (same v).kept ∙ e) h;
      unbounded = λ v e. (same v).status ∙ s.unbounded v (sym (same v).bound ∙ e);
      unpriced = λ v e. (same v).price ∙ s.unpriced v (sym (same v).status ∙ e);
      live =
          λ v i e h.
          let l = s.live v i (sym (same v).kept ∙ e) (λ q. h ((same v).status ∙ q)) in
          record {
            tail_live = (same (tail_at t i)).status ∙ l.tail_live;
            rising = omega (arith, same_estimate (same v), same_estimate (same (tail_at t i)), l.rising);
          };
      level = λ v h. omega (arith, distances v, (same o).price, s.level v (omega (arith, (same v).status, h)));
      shallow = λ v h. omega (arith, s.shallow v (omega (arith, (same v).status, h)), same_reached t x y (λ u. (same u).status));
      small_distance = λ v. omega (arith, distances v, s.small_distance v);
      small_estimate = λ v. omega (arith, same_estimate (same v), s.small_estimate v);
    }

relaxed_alike : {t : Table} {x y : State} {i : ℕ} → Same x y (tail_at t i) → Same x y (head_at t i) → Relaxed t x i → Relaxed t y i
relaxed_alike {t} {x} {y} {i} tail head old =
    let there = same_distance x y (head_at t i) head.bound in
    let here = same_distance x y (tail_at t i) tail.bound in
    record {
      bounded = λ e. old.bounded (sym head.bound ∙ e);
      low = omega (arith, old.low);
      earliest = λ e. omega (arith, ap or_zero head.kept, old.earliest (omega arith));
    }

-- AN EXTENSION from the terminal node v to its best child j
module _ (t : Table) (g : Good t) (x : State) (dep : ℕ → ℕ) (s : Sound t x dep) (k : Counts t x dep) (b : Bid)
    (best : Best t (terminal x) x b) (equal : b.value ≤ price_at x (terminal x)) where
  abbrev v : ℕ
  v = terminal x

  abbrev j : ℕ
  j = head_at t b.by_arc

  abbrev l : State
  l = longer j x

  abbrev nodes : Nodes t x dep
  nodes = s.nodes

  abbrev child : Child t v b.by_arc x
  child = best.child

  v_status : status_at x v ≡ reached
  v_status = terminal_status s

  -- the child's estimate is the terminal node's, and so the origin's price
  tight : estimate x j ≡ estimate x v
  unfolding estimate
  tight = omega (arith, bid_estimate nodes v b.by_arc child, best.value, equal, never_above nodes v b best)

  at_price : estimate x j ≡ price_at x t.origin
  unfolding terminal
  at_price = tight ∙ top_estimate nodes x.path s.chain

  deeper : dep j ≡ suc (dep v)
  deeper = child_depth nodes v b.by_arc child

  link : (y : State) → kept_at y j ≡ kept_at x j → status_at y j ≡ reached → estimate y j ≡ estimate x j → estimate y v ≡ estimate x v → Link t y j v
  link y kept status here there =
      record
      { by_arc = b.by_arc; kept = kept ∙ child.kept; leaves = child.leaves; status = status; tight = here ∙ tight ∙ sym there }

  onto : (y : State) (p : List ℕ) → Link t y j (get_or p 0 0) → Chain t y p → Chain t y (j ∷ p)
  unfolding Chain
  onto y [] a c = absurd c
  onto y (u ∷ more) a c = (a, c)

  -- to a child reached before
  longer_sound : was_reached x j ≡ true → Sound t l dep
  unfolding longer state terminal
  longer_sound r =
      let status : status_at x j ≡ reached =
      let undeleted : status_at x j ≡ deleted → ⊥ = child.undeleted in
      omega (arith, reached_status x j r, nodes.status_low j) in
      let same = longer_same x j in
      record {
        nodes = nodes_alike same (longer_sizes t x j nodes.sizes) nodes;
        relaxed =
            λ i h q. relaxed_alike (same (tail_at t i)) (same (head_at t i)) (s.relaxed i h (omega (arith, (same (tail_at t i)).status, q)));
        chain =
            onto l x.path (link l (same j).kept ((same j).status ∙ status) (same_estimate (same j)) (same_estimate (same v)))
            (path_moves nodes l (λ u h. same u) x.path s.chain);
        path_depth = omega (arith, s.path_depth, deeper);
      }

  longer_counts : Counts t l dep
  unfolding longer state
  longer_counts =
      let same = longer_same x j in
      let low =
      total_le t.n (slack t l dep) (slack t x dep)
      (λ u h.
      slack_falls t x l dep dep u refl (same u).kept (λ q. (same u).status ∙ q)
      (λ i e q. omega (arith, same_estimate (same u), same_estimate (same (tail_at t i)), q))) in
      record {
        contracted = omega (arith, low, k.contracted, ap (stages t.n) (same_reached t x l (λ u. (same u).status)));
        deleted = k.deleted ∙ total_same t.n (one_if_deleted x) (one_if_deleted l) (λ u h. sym (same_deleted x l u (same u).status));
        extended = omega (arith, k.extended);
      }

  -- to a child not reached before: it is marked as reached, and then its arcs are offered
  module _ (new : was_reached x j ≡ false) where
    abbrev z : State
    z = with_status j reached l

    j_status : status_at x j ≡ unreached
    j_status = unreached_status x j new

    j_in : j < t.n
    j_in = kept_below j nodes.sizes child.kept

    marked : Restatused t l j reached z
    marked = restatused t l j reached (longer_sizes t x j nodes.sizes) j_in

    prices : (u : ℕ) → price_at z u ≡ price_at x u
    prices u = marked.prices u ∙ (longer_same x j u).price

    bounds : (u : ℕ) → bound_at z u ≡ bound_at x u
    bounds u = marked.bounds u ∙ (longer_same x j u).bound

    kepts : (u : ℕ) → kept_at z u ≡ kept_at x u
    kepts u = marked.kepts u ∙ (longer_same x j u).kept

    elsewhere : (u : ℕ) → (u ≡ j → ⊥) → status_at z u ≡ status_at x u
    elsewhere u d = marked.elsewhere u d ∙ (longer_same x j u).status

    distances : (u : ℕ) → distance z u ≡ distance x u
    distances u = same_distance x z u (bounds u)

    estimates : (u : ℕ) → estimate z u ≡ estimate x u
    unfolding estimate
    estimates u = omega (arith, prices u, distances u)

    -- which nodes are reached: those of before, and j
    still : (u : ℕ) → unreached < status_at x u → unreached < status_at z u
    still u h =
        ⊎_elim (λ (e : u ≡ j). omega (arith, marked.here, ap (status_at z) e)) (λ (d : u ≡ j → ⊥). omega (arith, elsewhere u d, h)) (cases_eq u j)

    reached_cases : (u : ℕ) → unreached < status_at z u → (u ≡ j) ⊎ (unreached < status_at x u)
    reached_cases u h = ⊎_elim (λ (e : u ≡ j). inl e) (λ (d : u ≡ j → ⊥). inr (omega (arith, elsewhere u d, h))) (cases_eq u j)

    never : (u : ℕ) → status_at z u ≡ unreached → status_at x u ≡ unreached
    never u e =
        ⊎_elim (λ (q : u ≡ j). absurd (omega (arith, marked.here, ap (status_at z) q))) (λ (d : u ≡ j → ⊥). sym (elsewhere u d) ∙ e) (cases_eq u j)

    still_deleted : (u : ℕ) → status_at x u ≡ deleted → status_at z u ≡ deleted
    still_deleted u q = elsewhere u (λ (e : u ≡ j). omega (arith, j_status, ap (status_at x) e)) ∙ q

    -- the child's distance is the origin's price
    top : distance x j ≡ price_at x t.origin
    unfolding estimate
    top = omega (arith, at_price, nodes.unpriced j j_status)

    one_more : reached_count t z ≡ suc (reached_count t x)
    one_more = one_more_reached t x z j j_in j_status (omega (arith, marked.here)) elsewhere

    marked_nodes : Nodes t z dep
    marked_nodes =
        let o = t.origin in
        let o_apart : o ≡ j → ⊥ = λ e. omega (arith, j_status, nodes.origin_status, ap (status_at x) e) in
        record {
          sizes = marked.sizes;
          origin_bound = bounds o ∙ nodes.origin_bound;
          origin_kept = kepts o ∙ nodes.origin_kept;
          origin_status = elsewhere o o_apart ∙ nodes.origin_status;
          origin_depth = nodes.origin_depth;
          status_low =
              λ u.
              ⊎_elim (λ (e : u ≡ j). omega (arith, marked.here, ap (status_at z) e)) (λ (d : u ≡ j → ⊥). omega (arith, elsewhere u d, nodes.status_low u))
              (cases_eq u j);
          kept =
              λ u i e.
              let a = nodes.kept u i (sym (kepts u) ∙ e) in
              record {
                listed = a.listed;
                into = a.into;
                from_reached = still (tail_at t i) a.from_reached;
                bound = bounds u ∙ a.bound ∙ ap (λ (d : ℕ). some (d + length_at t i)) (sym (distances (tail_at t i)));
                deeper = a.deeper;
              };
          unkept = λ u e h. bounds u ∙ nodes.unkept u (sym (kepts u) ∙ e) h;
          unbounded =
              λ u e.
              let none_there = sym (bounds u) ∙ e in
              elsewhere u
              (λ (q : u ≡ j).
              some_none (nodes.kept j b.by_arc child.kept).bound (ap (bound_at x) (sym q) ∙ none_there))
              ∙ nodes.unbounded u none_there;
          unpriced = λ u e. prices u ∙ nodes.unpriced u (never u e);
          live =
              λ u i e h.
              let a = nodes.live u i (sym (kepts u) ∙ e) (λ q. h (still_deleted u q)) in
              record {
                tail_live =
                    elsewhere (tail_at t i) (λ (q : tail_at t i ≡ j). omega (arith, j_status, a.tail_live, ap (status_at x) q)) ∙ a.tail_live;
                rising = omega (arith, estimates u, estimates (tail_at t i), a.rising);
              };
          level =
              λ u h.
              ⊎_elim (λ (e : u ≡ j). omega (arith, distances u, ap (distance x) e, top, prices o)) (λ (r : unreached < status_at x u). omega (arith, distances u, prices o, nodes.level u r))
              (reached_cases u h);
          shallow =
              λ u h.
              ⊎_elim
              (λ (e : u ≡ j). omega (arith, ap dep e, deeper, nodes.shallow v (omega (arith, v_status)), one_more))
              (λ (r : unreached < status_at x u). omega (arith, nodes.shallow u r, one_more))
              (reached_cases u h);
          small_distance = λ u. omega (arith, distances u, nodes.small_distance u);
          small_estimate = λ u. omega (arith, estimates u, nodes.small_estimate u);
        }

    at_first : Reaching t j 0 z dep
    unfolding RelaxedTo longer with_status state terminal
    at_first =
        let same : (u : ℕ) → (u ≡ j → ⊥) → Same x z u =
        λ u d. record { price = prices u; bound = bounds u; kept = kepts u; status = elsewhere u d } in
        record {
          nodes = marked_nodes;
          relaxed =
              λ i h r passed.
              let apart : tail_at t i ≡ j → ⊥ = λ e. omega (arith, passed e) in
              let old = s.relaxed i h (omega (arith, elsewhere (tail_at t i) apart, r)) in
              let there = distances (head_at t i) in
              let here = distances (tail_at t i) in
              record {
                bounded = λ e. old.bounded (sym (bounds (head_at t i)) ∙ e);
                low = omega (arith, old.low);
                earliest = λ e. omega (arith, ap or_zero (kepts (head_at t i)), old.earliest (omega arith));
              };
          chain =
              onto z x.path (link z (kepts j) marked.here (estimates j) (estimates v))
              (path_moves nodes z (λ u h. same u (λ (e : u ≡ j). omega (arith, j_status, h, ap (status_at x) e))) x.path s.chain);
          path_depth = omega (arith, s.path_depth, deeper);
          status = marked.here;
          price = prices j ∙ nodes.unpriced j j_status;
          top = distances j ∙ top ∙ sym (prices t.origin);
        }

    done : Offered t j (arc_count t) z (reach t j l) dep
    unfolding reach
    done = all_offered t g j (arc_count t) 0 z dep (omega arith) at_first

    abbrev y : State
    y = reach t j l

    abbrev depths : ℕ → ℕ
    depths = done.depth

    still_y : (u : ℕ) → unreached < status_at y u → unreached < status_at z u
    still_y u h = omega (arith, done.unmoved.statuses u, h)

    reached_sound : Sound t y depths
    unfolding RelaxedTo
    reached_sound =
        let r = done.reaching in
        record { nodes = r.nodes; relaxed = λ i h q. r.relaxed i h q (λ e. h); chain = r.chain; path_depth = r.path_depth }

    y_reached : reached_count t y ≡ suc (reached_count t x)
    y_reached = same_reached t z y done.unmoved.statuses ∙ one_more

    -- a reached node is loose only where it was before
    slack_bound : (u : ℕ) → unreached < status_at y u → slack t y depths u ≤ slack t x dep u
    slack_bound u h =
        let m = done.unmoved in
        let r = still_y u h in
        let same = m.reached u r in
        slack_falls t x y dep depths u (m.depths u r) (same.kept ∙ kepts u)
        (λ q. same.status ∙ still_deleted u q)
        (λ i e q.
        let a = nodes.kept u i e in
        let tail = m.reached (tail_at t i) (still (tail_at t i) a.from_reached) in
        omega (arith, same_estimate same, same_estimate tail, estimates u, estimates (tail_at t i), q))

    reached_counts : Counts t y depths
    unfolding longer with_status state
    reached_counts =
        let m = done.unmoved in
        let gain = reach_potential t y depths (slack t x dep) (reached_count t x) reached_sound.nodes slack_bound y_reached in
        let deleted_same =
        total_same t.n (one_if_deleted x) (one_if_deleted y)
        (λ u h.
        ⊎_elim
        (λ (e : u ≡ j).
        undeleted_none x u (λ (q : status_at x u ≡ deleted). omega (arith, j_status, ap (status_at x) e))
        ∙ sym (undeleted_none y u (λ (q : status_at y u ≡ deleted). omega (arith, m.statuses u, marked.here, ap (status_at z) e))))
        (λ (d : u ≡ j → ⊥). sym (same_deleted x y u (m.statuses u ∙ elsewhere u d)))
        (cases_eq u j)) in
        record {
          contracted = omega (arith, gain, k.contracted, m.contractions);
          deleted = m.deletions ∙ k.deleted ∙ deleted_same;
          extended = omega (arith, k.extended, m.contractions, m.deletions, m.extensions, ap length m.path);
        }

  onto_reached : was_reached x j ≡ true → Stepped t x l
  unfolding longer state iterations
  onto_reached r =
      let same = longer_same x j in
      record {
        invariant = record { depth = dep; sound = longer_sound r; counts = longer_counts };
        counted = omega arith;
        stays = λ u h. omega (arith, (same u).status, h);
        distances = λ u h. same_distance x l u (same u).bound;
        arrives = λ u e h. absurd (omega (arith, (same u).status, e, h));
        dearer = λ u. omega (arith, (same u).price);
        gone = λ u e. (same u).status ∙ e;
        kepts = λ u i h e. sym (same u).kept ∙ e;
      }

  onto_new : (new : was_reached x j ≡ false) → Stepped t x (reach t j l)
  unfolding longer with_status state iterations
  onto_new new =
      let m = (done new).unmoved in
      let distance_kept : (u : ℕ) → unreached < status_at (z new) u → distance (y new) u ≡ distance x u =
      λ u h. same_distance (z new) (y new) u (m.reached u h).bound ∙ distances new u in
      record {
        invariant = record { depth = depths new; sound = reached_sound new; counts = reached_counts new };
        counted = omega (arith, m.contractions, m.extensions, m.deletions);
        stays = λ u h. omega (arith, m.statuses u, still new u h);
        distances = λ u h. distance_kept u (still new u h);
        arrives =
            λ u e h.
            let r = still_y new u h in
            ⊎_elim (λ (q : u ≡ j). distance_kept u r ∙ ap (distance x) q ∙ top new) (λ (q : unreached < status_at x u). absurd (omega arith))
            (reached_cases new u r);
        dearer = λ u. omega (arith, m.prices u, prices new u);
        gone = λ u e. m.statuses u ∙ still_deleted new u e;
        kepts =
            λ u i h e. sym (kepts new u) ∙ m.kepts u i (λ (q : tail_at t i ≡ j). omega (arith, j_status new, h, ap (status_at x) q)) e;
      }

  pub by_extension : Stepped t x (extension t j x)
  unfolding extension
  by_extension =
      ⊎_elim (λ (r : was_reached x j ≡ true). subst (λ (c : Bool). Stepped t x (cond c l (reach t j l))) (sym r) (onto_reached r))
      (λ (r : was_reached x j ≡ false). subst (λ (c : Bool). Stepped t x (cond c l (reach t j l))) (sym r) (onto_new r))
      (cases_Bool (was_reached x j))

  -- and makes no contraction and no deletion
  pub as_many : (extension t j x).contractions + (extension t j x).deletions ≡ x.contractions + x.deletions
  unfolding extension longer with_status state
  as_many =
      ⊎_elim (λ (r : was_reached x j ≡ true). rw r)
      (λ (r : was_reached x j ≡ false). let m = (done r).unmoved in rw r (omega (arith, m.contractions, m.deletions)))
      (cases_Bool (was_reached x j))
