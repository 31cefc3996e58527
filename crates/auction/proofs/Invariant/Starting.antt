-- The start: the origin is reached in the fresh state, and the invariant holds. Assumes nothing.
use mathlib.Core.Path.{◌≡◌, refl, sym, ap, ◌∙◌}
use mathlib.Core.Logic.{⊎_elim}
use mathlib.Core.Option.{Option, none, some}
use Prim.Native.Nat.{ℕ, zero, suc, ◌≤◌, ◌<◌}
use native.Mathlib.Omega.{arith}
use native.Mathlib.Nat.{zero-mul}
use lib.ListN.{length, get_or, replicate, length-set, length-replicate}
use lib.Seq.{get_or-set_same, get_or-set_other}
use Rattle.std.proofs.lemmas.Bool.{cases_eq}
use Rattle.table.specs.Table.{Table, arc_count, tail_at}
use Rattle.auction.specs.Auction.{State, state, price_at, bound_at, kept_at, status_at, distance, terminal, with_status, reach, fresh, start, iterations, unreached, reached, deleted}
use Rattle.auction.specs.HandOver.{reached_count}
use Rattle.table.proofs.Basics.{some_none}
use Rattle.auction.proofs.Sums.{total_same, total_const}
use Rattle.auction.proofs.Good.{Good}
use Rattle.auction.proofs.Steps.Effects.{Sizes, estimate, known_distance, zero_distance, Restatused, restatused}
use Rattle.auction.proofs.Invariant.Sound.{RelaxedTo, Nodes, Chain, Sound, same_reached, one_more_reached, one_if_reached, reached_total, unreached_none}
use Rattle.auction.proofs.Invariant.Reaching.{Reaching, Offered, all_offered}
use Rattle.auction.proofs.Invariant.Potential.{slack, slack_unkept, stages, reach_potential}
use Rattle.auction.proofs.Invariant.Counting.{Counts, Invariant, one_if_deleted, undeleted_none}

-- a list of one value has no other, also past its end
blank : {A : Type 0} {a : A} (n i : ℕ) → get_or (replicate n a) i a ≡ a
blank zero i = refl
blank (suc n) zero = refl
blank (suc n) (suc i) = blank n i

-- THE START: the origin is reached in the fresh state, where nothing else has a bound
module _ (t : Table) (g : Good t) where
  abbrev o : ℕ
  o = t.origin

  fresh_sizes : Sizes t (fresh t)
  unfolding fresh state
  fresh_sizes =
      record {
        prices = length-replicate t.n 0;
        bounds = length-set (replicate t.n none) o (some 0) ∙ length-replicate t.n none;
        kepts = length-replicate t.n none;
        statuses = length-replicate t.n unreached;
      }

  fresh_price : (v : ℕ) → price_at (fresh t) v ≡ 0
  unfolding fresh state price_at
  fresh_price v = blank t.n v

  pub fresh_status : (v : ℕ) → status_at (fresh t) v ≡ unreached
  unfolding fresh state status_at
  fresh_status v = blank t.n v

  pub fresh_kept : (v : ℕ) → kept_at (fresh t) v ≡ none
  unfolding fresh state kept_at
  fresh_kept v = blank t.n v

  fresh_bound : (v : ℕ) → (v ≡ o → ⊥) → bound_at (fresh t) v ≡ none
  unfolding fresh state bound_at
  fresh_bound v d = get_or-set_other (replicate t.n none) o v (some 0) none d ∙ blank t.n v

  pub fresh_origin : bound_at (fresh t) o ≡ some 0
  unfolding fresh state bound_at
  fresh_origin = get_or-set_same (replicate t.n none) o (some 0) none (omega (arith, length-replicate {A = Option ℕ} t.n none, g.origin_in))

  abbrev first : State
  first = with_status o reached (fresh t)

  marked_origin : Restatused t (fresh t) o reached first
  marked_origin = restatused t (fresh t) o reached fresh_sizes g.origin_in

  only_origin : (v : ℕ) → unreached < status_at first v → v ≡ o
  only_origin v h =
      ⊎_elim (λ (e : v ≡ o). e) (λ (d : v ≡ o → ⊥). absurd (omega (arith, h, marked_origin.elsewhere v d, fresh_status v))) (cases_eq v o)

  first_distance : (v : ℕ) → distance first v ≡ 0
  first_distance v =
      ⊎_elim
      (λ (e : v ≡ o). known_distance first v 0 (marked_origin.bounds v ∙ ap (bound_at (fresh t)) e ∙ fresh_origin))
      (λ (d : v ≡ o → ⊥). zero_distance first v (marked_origin.bounds v ∙ fresh_bound v d))
      (cases_eq v o)

  first_price : (v : ℕ) → price_at first v ≡ 0
  first_price v = marked_origin.prices v ∙ fresh_price v

  first_kept : (v : ℕ) → kept_at first v ≡ none
  first_kept v = marked_origin.kepts v ∙ fresh_kept v

  one_reached : reached_count t first ≡ 1
  one_reached =
      one_more_reached t (fresh t) first o g.origin_in (fresh_status o) (omega (arith, marked_origin.here)) marked_origin.elsewhere
      ∙ ap suc (reached_total t (fresh t) ∙ total_same t.n (one_if_reached (fresh t)) (λ v. 0) (λ v h. unreached_none (fresh t) v (fresh_status v)) ∙ total_const t.n 0 ∙ zero-mul t.n)

  first_nodes : Nodes t first (λ v. 0)
  unfolding estimate
  first_nodes =
      record {
        sizes = marked_origin.sizes;
        origin_bound = marked_origin.bounds o ∙ fresh_origin;
        origin_kept = first_kept o;
        origin_status = marked_origin.here;
        origin_depth = refl;
        status_low =
            λ v.
            ⊎_elim (λ (e : v ≡ o). omega (arith, marked_origin.here, ap (status_at first) e)) (λ (d : v ≡ o → ⊥). omega (arith, marked_origin.elsewhere v d, fresh_status v))
            (cases_eq v o);
        kept = λ v i e. absurd (some_none e (first_kept v));
        unkept = λ v e d. marked_origin.bounds v ∙ fresh_bound v d;
        unbounded =
            λ v e.
            ⊎_elim
            (λ (q : v ≡ o). absurd (some_none (marked_origin.bounds v ∙ ap (bound_at (fresh t)) q ∙ fresh_origin) e))
            (λ (d : v ≡ o → ⊥). marked_origin.elsewhere v d ∙ fresh_status v)
            (cases_eq v o);
        unpriced = λ v e. first_price v;
        live = λ v i e h. absurd (some_none e (first_kept v));
        level = λ v h. omega (arith, first_distance v);
        shallow = λ v h. omega (arith, one_reached);
        small_distance = λ v. omega (arith, first_distance v);
        small_estimate = λ v. omega (arith, first_distance v, first_price v);
      }

  first_reaching : Reaching t o 0 first (λ v. 0)
  unfolding RelaxedTo Chain terminal with_status fresh state
  first_reaching =
      record {
        nodes = first_nodes;
        relaxed = λ i h r passed. absurd (omega (arith, passed (only_origin (tail_at t i) r)));
        chain = refl;
        path_depth = refl;
        status = marked_origin.here;
        price = first_price o;
        top = first_distance o ∙ sym (first_price o);
      }

  begun : Offered t o (arc_count t) first (start t) (λ v. 0)
  unfolding start reach
  begun = all_offered t g o (arc_count t) 0 first (λ v. 0) (omega arith) first_reaching

  begun_sound : Sound t (start t) begun.depth
  unfolding RelaxedTo
  begun_sound =
      let r = begun.reaching in
      record { nodes = r.nodes; relaxed = λ i h q. r.relaxed i h q (λ e. h); chain = r.chain; path_depth = r.path_depth }

  begun_counts : Counts t (start t) begun.depth
  unfolding with_status fresh state stages
  begun_counts =
      let m = begun.unmoved in
      let y = start t in
      let y_reached : reached_count t y ≡ 1 = same_reached t first y m.statuses ∙ one_reached in
      let no_slack : (u : ℕ) → unreached < status_at y u → slack t y begun.depth u ≤ 0 =
      λ u h.
      let r : unreached < status_at first u = omega (arith, m.statuses u, h) in
      omega (arith, slack_unkept t y begun.depth u ((m.reached u r).kept ∙ first_kept u)) in
      let gain = reach_potential t y begun.depth (λ u. 0) 0 begun_sound.nodes no_slack y_reached in
      let nothing = total_const t.n 0 in
      let none_deleted =
      total_same t.n (one_if_deleted y) (λ u. 0)
      (λ u h.
      undeleted_none y u
      (λ (q : status_at y u ≡ deleted).
      let r : unreached < status_at first u = omega (arith, m.statuses u, q) in
      omega (arith, m.statuses u, q, marked_origin.here, ap (status_at first) (only_origin u r)))) in
      record {
        contracted = omega (arith, gain, nothing, m.contractions);
        deleted = m.deletions ∙ sym (none_deleted ∙ nothing ∙ zero-mul t.n);
        extended = omega (arith, m.contractions, m.deletions, m.extensions, ap length m.path);
      }

  pub started : Invariant t (start t)
  started = record { depth = begun.depth; sound = begun_sound; counts = begun_counts }

  pub started_iterations : iterations (start t) ≡ 0
  unfolding with_status fresh state iterations
  started_iterations = let m = begun.unmoved in omega (arith, m.contractions, m.extensions, m.deletions)

  pub started_price : price_at (start t) t.origin ≡ 0
  started_price = begun.reaching.price
