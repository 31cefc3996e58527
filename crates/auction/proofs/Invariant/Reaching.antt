-- Reaching a node keeps the invariant: its outgoing arcs are offered one after the other. Assumes nothing.
use mathlib.Core.Path.{◌≡◌, refl, sym, ap, subst, ◌∙◌}
use mathlib.Core.Bool.{true, false, cond}
use mathlib.Core.Logic.{◌⊎◌, inl, inr, ⊎_elim}
use mathlib.Core.Option.{none, some}
use Prim.Native.Nat.{ℕ, zero, suc, ◌+◌, ◌*◌, ◌≤◌, ◌<◌}
use native.Mathlib.Omega.{arith}
use lib.Dec.{eqb}
use lib.ListN.{length}
use borrow.Author.Tests.{eq-eqb, ne_eqb}
use Rattle.std.proofs.lemmas.Bool.{cases_Bool, cases_eq}
use Rattle.table.specs.Table.{Table, arc_count, tail_at, head_at, length_at, longest}
use Rattle.auction.specs.Auction.{State, state, price_at, bound_at, kept_at, status_at, distance, or_zero, terminal, takes, with_kept, offer, offers, unreached, reached, deleted}
use Rattle.table.proofs.Basics.{option_or, some_none, some_same}
use Rattle.auction.proofs.Good.{Good}
use Rattle.auction.proofs.Steps.Effects.{Same, estimate, same_distance, same_estimate, known_distance, Rehung, rehung}
use Rattle.auction.proofs.Steps.Offers.{Taken, NoBetter, taken, dropped}
use Rattle.auction.proofs.Invariant.Sound.{KeptArc, Relaxed, LiveArc, Nodes, RelaxedTo, Chain, reached_bounded, top_status, path_moves, same_reached, reached_low}

-- a depth that changes at one node
unfoldable pub depth_at : (u d : ℕ) → (ℕ → ℕ) → (v : ℕ) → ℕ
depth_at u d dep v = cond (eqb v u) d (dep v)

depth_here : (u d : ℕ) (dep : ℕ → ℕ) (v : ℕ) → v ≡ u → depth_at u d dep v ≡ d
unfolding depth_at
depth_here u d dep v e = rw (eq-eqb v u e)

depth_else : (u d : ℕ) (dep : ℕ → ℕ) (v : ℕ) → (v ≡ u → ⊥) → depth_at u d dep v ≡ dep v
unfolding depth_at
depth_else u d dep v h = rw (ne_eqb v u h)

-- WHAT OFFERING THE ARCS OUT OF J LEAVES AS IT WAS
pub record Unmoved (t : Table) (j : ℕ) (x y : State) (dep dep' : ℕ → ℕ) : Type 0 where
  -- the path,
  pub path : y.path ≡ x.path
  -- the three counts,
  pub contractions : y.contractions ≡ x.contractions
  pub extensions : y.extensions ≡ x.extensions
  pub deletions : y.deletions ≡ x.deletions
  -- every price and every status,
  pub prices : (v : ℕ) → price_at y v ≡ price_at x v
  pub statuses : (v : ℕ) → status_at y v ≡ status_at x v
  -- and of every node that was reached its bound and kept arc too, and its depth;
  pub reached : (v : ℕ) → unreached < status_at x v → Same x y v
  pub depths : (v : ℕ) → unreached < status_at x v → dep' v ≡ dep v
  -- and an arc that is kept and does not leave j was kept before
  pub kepts : (v i : ℕ) → (tail_at t i ≡ j → ⊥) → kept_at y v ≡ some i → kept_at x v ≡ some i

unmoved : (t : Table) (j : ℕ) (x : State) (dep : ℕ → ℕ) → Unmoved t j x x dep dep
unmoved t j x dep =
    record {
      path = refl;
      contractions = refl;
      extensions = refl;
      deletions = refl;
      prices = λ v. refl;
      statuses = λ v. refl;
      reached = λ v h. record { price = refl; bound = refl; kept = refl; status = refl };
      depths = λ v h. refl;
      kepts = λ v i d e. e;
    }

then_unmoved : {t : Table} {j : ℕ} {x y z : State} {a b c : ℕ → ℕ} → Unmoved t j x y a b → Unmoved t j y z b c → Unmoved t j x z a c
then_unmoved {x = x} {y = y} {z = z} p q =
    let still : (v : ℕ) → unreached < status_at x v → unreached < status_at y v = λ v h. omega (arith, p.statuses v) in
    record {
      path = q.path ∙ p.path;
      contractions = q.contractions ∙ p.contractions;
      extensions = q.extensions ∙ p.extensions;
      deletions = q.deletions ∙ p.deletions;
      prices = λ v. q.prices v ∙ p.prices v;
      statuses = λ v. q.statuses v ∙ p.statuses v;
      reached =
          λ v h.
          let s = p.reached v h in
          let r = q.reached v (still v h) in
          record { price = r.price ∙ s.price; bound = r.bound ∙ s.bound; kept = r.kept ∙ s.kept; status = r.status ∙ s.status };
      depths = λ v h. q.depths v (still v h) ∙ p.depths v h;
      kepts = λ v i d e. p.kepts v i d (q.kepts v i d e);
    }

-- THE INVARIANT IN THE MIDDLE OF REACHING J, when its arcs below position q have been offered
pub record Reaching (t : Table) (j q : ℕ) (x : State) (dep : ℕ → ℕ) : Type 0 where
  -- it holds of every node,
  pub nodes : Nodes t x dep
  -- the arcs out of the other reached nodes have been offered, and j's below q,
  pub relaxed : RelaxedTo q j t x
  -- the path is a path in the tree, as long as it should be,
  pub chain : Chain t x x.path
  pub path_depth : length x.path ≡ suc (dep (terminal x))
  -- j counts as reached, still has price 0,
  pub status : status_at x j ≡ reached
  pub price : price_at x j ≡ 0
  -- and is as far as the origin's price: so what it offers is no nearer than any reached node
  pub top : distance x j ≡ price_at x t.origin

-- WHAT OFFERING GIVES: the invariant with depths of its own, and the rest as it was
pub record Offered (t : Table) (j q : ℕ) (x y : State) (dep : ℕ → ℕ) : Type 0 where
  pub depth : ℕ → ℕ
  pub reaching : Reaching t j q y depth
  pub unmoved : Unmoved t j x y dep depth

-- ONE ARC IS KEPT
module _ (t : Table) (g : Good t) (j q : ℕ) (x : State) (dep : ℕ → ℕ) (listed : q < arc_count t) (s : Reaching t j q x dep) (k : Taken t j q x) where
  u : ℕ
  u = head_at t q

  b : ℕ
  b = distance x j + length_at t q

  y : State
  y = with_kept u q b x

  dep' : ℕ → ℕ
  dep' = depth_at u (suc (dep j)) dep

  nodes : Nodes t x dep
  nodes = s.nodes

  effect : Rehung t x u q b y
  unfolding u y
  effect = rehung t x u q b nodes.sizes (g.head_in q listed)

  -- reached nodes are others than u
  other : (v : ℕ) → unreached < status_at x v → v ≡ u → ⊥
  unfolding u
  other v h e = omega (arith, ap (status_at x) e, k.new)

  keep : (v : ℕ) → unreached < status_at x v → Same x y v
  keep v h = effect.others v (other v h)

  keep_distance : (v : ℕ) → unreached < status_at x v → distance y v ≡ distance x v
  keep_distance v h = same_distance x y v (keep v h).bound

  keep_depth : (v : ℕ) → unreached < status_at x v → dep' v ≡ dep v
  unfolding dep'
  keep_depth v h = depth_else u (suc (dep j)) dep v (other v h)

  tail_reached : unreached < status_at x (tail_at t q)
  tail_reached = omega (arith, ap (status_at x) k.leaves, s.status)

  tail_distance : distance y (tail_at t q) ≡ distance x j
  tail_distance = keep_distance (tail_at t q) tail_reached ∙ ap (distance x) k.leaves

  new_distance : distance y u ≡ b
  new_distance = known_distance y u b effect.bound

  new_kept : KeptArc t y dep' u q
  unfolding u b dep'
  new_kept =
      record {
        listed = listed;
        into = refl;
        from_reached = omega (arith, effect.statuses (tail_at t q), tail_reached);
        bound = effect.bound ∙ ap (λ (d : ℕ). some (d + length_at t q)) (sym tail_distance);
        deeper =
            depth_here u (suc (dep j)) dep u refl ∙ ap suc (sym (keep_depth (tail_at t q) tail_reached ∙ ap dep k.leaves));
      }

  new_live : LiveArc t y u q
  unfolding u b estimate
  new_live =
      record {
        tail_live = effect.statuses (tail_at t q) ∙ ap (status_at x) k.leaves ∙ s.status;
        rising =
            omega
            (arith, tail_distance, effect.prices (tail_at t q), ap (price_at x) k.leaves, s.price, new_distance);
      }

  kept_cases : (v i : ℕ) → kept_at y v ≡ some i → ((v ≡ u) × (i ≡ q)) ⊎ ((v ≡ u → ⊥) × (kept_at x v ≡ some i))
  kept_cases v i e =
      ⊎_elim (λ (h : v ≡ u). inl (h, some_same e (ap (kept_at y) h ∙ effect.kept)))
      (λ (h : v ≡ u → ⊥). inr (h, sym (effect.others v h).kept ∙ e))
      (cases_eq v u)

  small : b ≤ suc (dep j) * longest
  unfolding b
  small = omega (arith, nodes.small_distance j, g.not_long q listed)

  new_estimate : estimate y u ≡ b
  unfolding estimate u
  new_estimate = omega (arith, new_distance, effect.prices u, nodes.unpriced u k.new)

  kept_position : or_zero (some q) ≡ q
  unfolding or_zero
  kept_position = refl

  better_than : (bound_at x u ≡ none → ⊥) → (b < distance x u) ⊎ ((b ≡ distance x u) × (q < or_zero (kept_at x u)))
  unfolding u b
  better_than h =
      ⊎_elim (λ (e : bound_at x u ≡ none). absurd (h e))
      (λ (e : (c : ℕ) × (bound_at x u ≡ some c)).
      subst (λ (c : ℕ). (b < c) ⊎ ((b ≡ c) × (q < or_zero (kept_at x u)))) (sym (known_distance x u e.0 e.1)) (k.better e.0 e.1))
      (option_or (bound_at x u))

  kept_nodes : Nodes t y dep'
  unfolding dep'
  kept_nodes =
      let o = t.origin in
      let o_reached : unreached < status_at x o = omega (arith, nodes.origin_status) in
      record {
        sizes = effect.sizes;
        origin_bound = (keep o o_reached).bound ∙ nodes.origin_bound;
        origin_kept = (keep o o_reached).kept ∙ nodes.origin_kept;
        origin_status = effect.statuses o ∙ nodes.origin_status;
        origin_depth = keep_depth o o_reached ∙ nodes.origin_depth;
        status_low = λ v. omega (arith, effect.statuses v, nodes.status_low v);
        kept =
            λ v i e.
            ⊎_elim
            (λ (h : (v ≡ u) × (i ≡ q)). subst (λ (w : ℕ). KeptArc t y dep' w i) (sym h.0) (subst (λ (a : ℕ). KeptArc t y dep' u a) (sym h.1) new_kept))
            (λ (h : (v ≡ u → ⊥) × (kept_at x v ≡ some i)).
            let a = nodes.kept v i h.1 in
            record {
              listed = a.listed;
              into = a.into;
              from_reached = omega (arith, effect.statuses (tail_at t i), a.from_reached);
              bound =
                  (effect.others v h.0).bound ∙ a.bound ∙ ap (λ (d : ℕ). some (d + length_at t i)) (sym (keep_distance (tail_at t i) a.from_reached));
              deeper = depth_else u (suc (dep j)) dep v h.0 ∙ a.deeper ∙ ap suc (sym (keep_depth (tail_at t i) a.from_reached));
            })
            (kept_cases v i e);
        unkept =
            λ v e h.
            ⊎_elim (λ (q : v ≡ u). absurd (some_none (ap (kept_at y) q ∙ effect.kept) e))
            (λ (d : v ≡ u → ⊥). (effect.others v d).bound ∙ nodes.unkept v (sym (effect.others v d).kept ∙ e) h)
            (cases_eq v u);
        unbounded =
            λ v e.
            ⊎_elim (λ (q : v ≡ u). absurd (some_none (ap (bound_at y) q ∙ effect.bound) e))
            (λ (d : v ≡ u → ⊥). effect.statuses v ∙ nodes.unbounded v (sym (effect.others v d).bound ∙ e))
            (cases_eq v u);
        unpriced = λ v e. effect.prices v ∙ nodes.unpriced v (sym (effect.statuses v) ∙ e);
        live =
            λ v i e h.
            ⊎_elim
            (λ (p : (v ≡ u) × (i ≡ q)). subst (λ (w : ℕ). LiveArc t y w i) (sym p.0) (subst (λ (a : ℕ). LiveArc t y u a) (sym p.1) new_live))
            (λ (p : (v ≡ u → ⊥) × (kept_at x v ≡ some i)).
            let a = nodes.kept v i p.1 in
            let l = nodes.live v i p.1 (λ (z : status_at x v ≡ deleted). h (effect.statuses v ∙ z)) in
            record {
              tail_live = effect.statuses (tail_at t i) ∙ l.tail_live;
              rising =
                  omega (arith, same_estimate (keep (tail_at t i) a.from_reached), same_estimate (effect.others v p.0), l.rising);
            })
            (kept_cases v i e);
        level =
            λ v h.
            let r : unreached < status_at x v = omega (arith, effect.statuses v, h) in
            omega (arith, keep_distance v r, effect.prices o, nodes.level v r);
        shallow =
            λ v h.
            let r : unreached < status_at x v = omega (arith, effect.statuses v, h) in
            omega (arith, keep_depth v r, same_reached t x y effect.statuses, nodes.shallow v r);
        small_distance =
            λ v.
            ⊎_elim
            (λ (e : v ≡ u). omega (arith, ap (distance y) e, new_distance, depth_here u (suc (dep j)) dep v e, small))
            (λ (d : v ≡ u → ⊥).
            omega (arith, same_distance x y v (effect.others v d).bound, depth_else u (suc (dep j)) dep v d, nodes.small_distance v))
            (cases_eq v u);
        small_estimate =
            λ v.
            ⊎_elim
            (λ (e : v ≡ u). omega (arith, ap (estimate y) e, new_estimate, small, nodes.shallow j (omega (arith, s.status)), reached_low t x))
            (λ (d : v ≡ u → ⊥). omega (arith, same_estimate (effect.others v d), nodes.small_estimate v))
            (cases_eq v u);
      }

  -- the arcs offered before, and this one
  kept_relaxed : RelaxedTo (suc q) j t y
  unfolding RelaxedTo u b
  kept_relaxed i h reached_tail passed =
      let r : unreached < status_at x (tail_at t i) = omega (arith, effect.statuses (tail_at t i), reached_tail) in
      let tail_kept = keep_distance (tail_at t i) r in
      ⊎_elim
      (λ (e : i ≡ q).
      let at_u : head_at t i ≡ u = ap (head_at t) e in
      let low : distance y (head_at t i) ≡ distance y (tail_at t i) + length_at t i =
      omega
      (arith, ap (distance y) at_u, new_distance, ap (λ (a : ℕ). distance y (tail_at t a)) e, tail_distance, ap (length_at t) e) in
      record {
        bounded = some_none (ap (bound_at y) at_u ∙ effect.bound);
        low = omega arith;
        earliest = λ _. omega (arith, ap or_zero (ap (kept_at y) at_u ∙ effect.kept), kept_position, e);
      })
      (λ (d : i ≡ q → ⊥).
      let old = s.relaxed i h r (λ (e : tail_at t i ≡ j). omega (arith, passed e, d)) in
      ⊎_elim
      (λ (at_u : head_at t i ≡ u).
      let c = distance x u in
      let at_x : distance x (head_at t i) ≡ c = ap (distance x) at_u in
      let at_y : distance y (head_at t i) ≡ b = ap (distance y) at_u ∙ new_distance in
      let kept_y : or_zero (kept_at y (head_at t i)) ≡ q = ap or_zero (ap (kept_at y) at_u ∙ effect.kept) ∙ kept_position in
      let kept_x : or_zero (kept_at x (head_at t i)) ≡ or_zero (kept_at x u) = ap (λ (v : ℕ). or_zero (kept_at x v)) at_u in
      ⊎_elim
      (λ (less : b < c).
      record {
        bounded = some_none (ap (bound_at y) at_u ∙ effect.bound);
        low = omega (arith, old.low);
        earliest = λ e. absurd (omega (arith, old.low));
      })
      (λ (tie : (b ≡ c) × (q < or_zero (kept_at x u))).
      record {
        bounded = some_none (ap (bound_at y) at_u ∙ effect.bound);
        low = omega (arith, old.low);
        earliest = λ e. omega (arith, old.earliest (omega arith));
      })
      (better_than (λ (e : bound_at x u ≡ none). old.bounded (ap (bound_at x) at_u ∙ e))))
      (λ (apart : head_at t i ≡ u → ⊥).
      let same = effect.others (head_at t i) apart in
      let there = same_distance x y (head_at t i) same.bound in
      record {
        bounded = λ e. old.bounded (sym same.bound ∙ e);
        low = omega (arith, old.low);
        earliest = λ e. omega (arith, ap or_zero same.kept, old.earliest (omega arith));
      })
      (cases_eq (head_at t i) u))
      (cases_eq i q)

  kept_unmoved : Unmoved t j x y dep dep'
  unfolding y with_kept state
  kept_unmoved =
      record {
        path = refl;
        contractions = refl;
        extensions = refl;
        deletions = refl;
        prices = effect.prices;
        statuses = effect.statuses;
        reached = keep;
        depths = keep_depth;
        kepts =
            λ v i d e.
            ⊎_elim (λ (h : (v ≡ u) × (i ≡ q)). absurd (d (ap (tail_at t) h.1 ∙ k.leaves)))
            (λ (h : (v ≡ u → ⊥) × (kept_at x v ≡ some i)). h.1)
            (kept_cases v i e);
      }

  kept_reaching : Reaching t j (suc q) y dep'
  unfolding terminal y with_kept state
  kept_reaching =
      let j_reached : unreached < status_at x j = omega (arith, s.status) in
      let o_kept = effect.prices t.origin in
      let terminal_reached : unreached < status_at x (terminal x) = omega (arith, top_status nodes x.path s.chain) in
      record {
        nodes = kept_nodes;
        relaxed = kept_relaxed;
        chain = path_moves nodes y (λ v h. keep v (omega (arith, h))) x.path s.chain;
        path_depth = s.path_depth ∙ ap suc (sym (keep_depth (terminal x) terminal_reached));
        status = effect.statuses j ∙ s.status;
        price = effect.prices j ∙ s.price;
        top = keep_distance j j_reached ∙ s.top ∙ sym o_kept;
      }

  kept_offered : Offered t j (suc q) x (with_kept (head_at t q) q (distance x j + length_at t q) x) dep
  unfolding y u b
  kept_offered = record { depth = dep'; reaching = kept_reaching; unmoved = kept_unmoved }

-- ONE ARC IS DROPPED, or leaves another node
module _ (t : Table) (g : Good t) (j q : ℕ) (x : State) (dep : ℕ → ℕ) (listed : q < arc_count t) (s : Reaching t j q x dep) where
  -- the arc at q, where it leaves j and is dropped, gives its head no better bound
  dropped_here : takes t j q x ≡ false → tail_at t q ≡ j → Relaxed t x q
  dropped_here e leaves =
      let far : distance x (tail_at t q) ≡ distance x j = ap (distance x) leaves in
      ⊎_elim
      (λ (h : unreached < status_at x (head_at t q)).
      let near = s.nodes.level (head_at t q) h in
      let long = g.positive q listed in
      let top = s.top in
      record {
        bounded = reached_bounded s.nodes (head_at t q) h;
        low = omega arith;
        earliest = λ e. absurd (omega arith);
      })
      (λ (n : NoBetter t j q x).
      let at = known_distance x (head_at t q) n.c n.bound in
      record {
        bounded = some_none n.bound;
        low = omega (arith, n.low);
        earliest = λ e. n.earlier (omega arith);
      })
      (dropped t j q x e leaves)

  dropped_reaching : takes t j q x ≡ false → Reaching t j (suc q) x dep
  unfolding RelaxedTo
  dropped_reaching e =
      record {
        nodes = s.nodes;
        relaxed =
            λ i h r passed.
            ⊎_elim
            (λ (at_q : i ≡ q).
            ⊎_elim
            (λ (leaves : tail_at t q ≡ j). subst (λ (a : ℕ). Relaxed t x a) (sym at_q) (dropped_here e leaves))
            (λ (stays : tail_at t q ≡ j → ⊥). s.relaxed i h r (λ (l : tail_at t i ≡ j). absurd (stays (ap (tail_at t) (sym at_q) ∙ l))))
            (cases_eq (tail_at t q) j))
            (λ (d : i ≡ q → ⊥). s.relaxed i h r (λ (l : tail_at t i ≡ j). omega (arith, passed l, d)))
            (cases_eq i q);
        chain = s.chain;
        path_depth = s.path_depth;
        status = s.status;
        price = s.price;
        top = s.top;
      }

-- ONE ARC, AND ALL OF THEM
offer_taken : (t : Table) (v i : ℕ) (x : State) → takes t v i x ≡ true → offer t v i x ≡ with_kept (head_at t i) i (distance x v + length_at t i) x
unfolding offer
offer_taken t v i x e = rw e

offer_dropped : (t : Table) (v i : ℕ) (x : State) → takes t v i x ≡ false → offer t v i x ≡ x
unfolding offer
offer_dropped t v i x e = rw e

module _ (t : Table) (g : Good t) (j : ℕ) where
  offered : (q : ℕ) (x : State) (dep : ℕ → ℕ) → q < arc_count t → Reaching t j q x dep → Offered t j (suc q) x (offer t j q x) dep
  offered q x dep h s =
      ⊎_elim
      (λ (e : takes t j q x ≡ true).
      subst (λ (y : State). Offered t j (suc q) x y dep) (sym (offer_taken t j q x e)) (kept_offered t g j q x dep h s (taken t j q x e)))
      (λ (e : takes t j q x ≡ false).
      subst (λ (y : State). Offered t j (suc q) x y dep) (sym (offer_dropped t j q x e))
      (record { depth = dep; reaching = dropped_reaching t g j q x dep h s e; unmoved = unmoved t j x dep }))
      (cases_Bool (takes t j q x))

  pub all_offered : (left q : ℕ) (x : State) (dep : ℕ → ℕ) → q + left ≡ arc_count t → Reaching t j q x dep →
      Offered t j (arc_count t) x (offers left q t j x) dep
  unfolding offers
  all_offered zero q x dep e s =
      let at : q ≡ arc_count t = omega arith in
      record { depth = dep; reaching = subst (λ (a : ℕ). Reaching t j a x dep) at s; unmoved = unmoved t j x dep }
  all_offered (suc left) q x dep e s =
      let one = offered q x dep (omega arith) s in
      let rest = all_offered left (suc q) (offer t j q x) one.depth (omega arith) one.reaching in
      record { depth = rest.depth; reaching = rest.reaching; unmoved = then_unmoved one.unmoved rest.unmoved }
