-- A deletion keeps the invariant and the counts. Assumes nothing.
use mathlib.Core.Path.{◌≡◌, refl, sym, ap, ◌∙◌}
use mathlib.Core.Logic.{⊎_elim}
use mathlib.Core.Option.{none, some}
use Prim.Native.Nat.{ℕ, ◌+◌, ◌<◌}
use native.Mathlib.Omega.{arith}
use Rattle.std.proofs.lemmas.Bool.{cases_eq}
use Rattle.table.specs.Table.{Table, tail_at, head_at, length_at}
use Rattle.auction.specs.Auction.{State, state, kept_at, status_at, or_zero, terminal, deletion, best, iterations, unreached, reached, deleted}
use Rattle.auction.specs.HandOver.{reached_count}
use Rattle.auction.proofs.Sums.{total_le, total_same, total_one, only_at, only_same, only_other}
use Rattle.auction.proofs.Good.{Good}
use Rattle.auction.proofs.Steps.Effects.{Same, estimate, same_distance, Restatused, deletion_effect, status_in}
use Rattle.auction.proofs.Steps.Bids.{no_child}
use Rattle.auction.proofs.Invariant.Sound.{LiveArc, Nodes, Sound, terminal_status, as_reached}
use Rattle.auction.proofs.Invariant.Potential.{slack, slack_falls, stages}
use Rattle.auction.proofs.Invariant.Counting.{Counts, Stepped, one_if_deleted, deleted_one, undeleted_none, same_deleted}
use Rattle.auction.proofs.Invariant.Terminal.{shorter, pop}

-- A DELETION at the terminal node v, which is not the origin and has no children
module _ (t : Table) (g : Good t) (x : State) (dep : ℕ → ℕ) (s : Sound t x dep) (k : Counts t x dep) (childless : best t (terminal x) x ≡ none)
    (inner : terminal x ≡ t.origin → ⊥) where
  abbrev gone : ℕ
  gone = terminal x

  abbrev left : State
  left = deletion gone x

  abbrev before : Nodes t x dep
  before = s.nodes

  gone_status : status_at x gone ≡ reached
  gone_status = terminal_status s

  gone_in : gone < t.n
  gone_in = status_in gone before.sizes (omega (arith, gone_status))

  change : Restatused t x gone deleted left
  change = deletion_effect t x gone before.sizes gone_in

  alike : (u : ℕ) → (u ≡ gone → ⊥) → Same x left u
  alike u d = record { price = change.prices u; bound = change.bounds u; kept = change.kepts u; status = change.elsewhere u d }

  -- every estimate and distance is as it was, and so is which nodes are reached
  estimates : (u : ℕ) → estimate left u ≡ estimate x u
  unfolding estimate
  estimates u = omega (arith, change.prices u, same_distance x left u (change.bounds u))

  still : (u : ℕ) → unreached < status_at x u → unreached < status_at left u
  still u h =
      ⊎_elim (λ (e : u ≡ gone). omega (arith, change.here, ap (status_at left) e)) (λ (d : u ≡ gone → ⊥). omega (arith, change.elsewhere u d, h)) (cases_eq u gone)

  earlier : (u : ℕ) → unreached < status_at left u → unreached < status_at x u
  earlier u h =
      ⊎_elim (λ (e : u ≡ gone). omega (arith, gone_status, ap (status_at x) e)) (λ (d : u ≡ gone → ⊥). omega (arith, change.elsewhere u d, h)) (cases_eq u gone)

  still_deleted : (u : ℕ) → status_at x u ≡ deleted → status_at left u ≡ deleted
  still_deleted u q =
      ⊎_elim (λ (e : u ≡ gone). ap (status_at left) e ∙ change.here) (λ (d : u ≡ gone → ⊥). change.elsewhere u d ∙ q) (cases_eq u gone)

  never : (u : ℕ) → status_at left u ≡ unreached → status_at x u ≡ unreached
  never u e =
      ⊎_elim (λ (q : u ≡ gone). absurd (omega (arith, change.here, ap (status_at left) q))) (λ (d : u ≡ gone → ⊥). sym (change.elsewhere u d) ∙ e) (cases_eq u gone)

  as_before : reached_count t left ≡ reached_count t x
  as_before =
      as_reached t x left
      (λ u e.
      ⊎_elim (λ (q : u ≡ gone). absurd (omega (arith, gone_status, ap (status_at x) q))) (λ (d : u ≡ gone → ⊥). change.elsewhere u d ∙ e)
      (cases_eq u gone))
      still

  deleted_live : (u i : ℕ) → kept_at left u ≡ some i → (status_at left u ≡ deleted → ⊥) → LiveArc t left u i
  deleted_live u i e h =
      let e' = sym (change.kepts u) ∙ e in
      let a = before.kept u i e' in
      let d : u ≡ gone → ⊥ = λ q. h (ap (status_at left) q ∙ change.here) in
      let undeleted : status_at x u ≡ deleted → ⊥ = λ q. h (change.elsewhere u d ∙ q) in
      let l = before.live u i e' undeleted in
      let apart : tail_at t i ≡ gone → ⊥ =
      λ q.
      no_child t gone x childless i a.listed
      (record { leaves = q; kept = ap (kept_at x) a.into ∙ e'; undeleted = λ z. undeleted (ap (status_at x) (sym a.into) ∙ z) }) in
      record {
        tail_live = change.elsewhere (tail_at t i) apart ∙ l.tail_live;
        rising = omega (arith, estimates u, estimates (tail_at t i), l.rising);
      }

  deleted_nodes : Nodes t left dep
  deleted_nodes =
      let o = t.origin in
      record {
        sizes = change.sizes;
        origin_bound = change.bounds o ∙ before.origin_bound;
        origin_kept = change.kepts o ∙ before.origin_kept;
        origin_status = change.elsewhere o (λ q. inner (sym q)) ∙ before.origin_status;
        origin_depth = before.origin_depth;
        status_low =
            λ u.
            ⊎_elim (λ (e : u ≡ gone). omega (arith, change.here, ap (status_at left) e)) (λ (d : u ≡ gone → ⊥). omega (arith, change.elsewhere u d, before.status_low u))
            (cases_eq u gone);
        kept =
            λ u i e.
            let a = before.kept u i (sym (change.kepts u) ∙ e) in
            record {
              listed = a.listed;
              into = a.into;
              from_reached = still (tail_at t i) a.from_reached;
              bound =
                  change.bounds u ∙ a.bound ∙ ap (λ (d : ℕ). some (d + length_at t i)) (sym (same_distance x left (tail_at t i) (change.bounds (tail_at t i))));
              deeper = a.deeper;
            };
        unkept = λ u e h. change.bounds u ∙ before.unkept u (sym (change.kepts u) ∙ e) h;
        unbounded =
            λ u e.
            let z = before.unbounded u (sym (change.bounds u) ∙ e) in
            change.elsewhere u (λ (q : u ≡ gone). omega (arith, gone_status, ap (status_at x) q)) ∙ z;
        unpriced = λ u e. change.prices u ∙ before.unpriced u (never u e);
        live = deleted_live;
        level = λ u h. omega (arith, same_distance x left u (change.bounds u), before.level u (earlier u h), change.prices o);
        shallow = λ u h. omega (arith, before.shallow u (earlier u h), as_before);
        small_distance = λ u. omega (arith, same_distance x left u (change.bounds u), before.small_distance u);
        small_estimate = λ u. omega (arith, estimates u, before.small_estimate u);
      }

  deleted_sound : Sound t left dep
  unfolding terminal deletion state
  deleted_sound =
      let path = pop before left x.path s.chain inner s.path_depth (λ u h l. alike u (λ (e : u ≡ gone). omega (arith, ap dep e, l))) in
      record {
        nodes = deleted_nodes;
        relaxed =
            λ i h r.
            let old = s.relaxed i h (earlier (tail_at t i) r) in
            let there = same_distance x left (head_at t i) (change.bounds (head_at t i)) in
            let here = same_distance x left (tail_at t i) (change.bounds (tail_at t i)) in
            record {
              bounded = λ e. old.bounded (sym (change.bounds (head_at t i)) ∙ e);
              low = omega (arith, old.low);
              earliest = λ e. omega (arith, ap or_zero (change.kepts (head_at t i)), old.earliest (omega arith));
            };
        chain = path.0;
        path_depth = path.1;
      }

  deleted_counts : Counts t left dep
  unfolding deletion state
  deleted_counts =
      let low =
      total_le t.n (slack t left dep) (slack t x dep)
      (λ u h.
      slack_falls t x left dep dep u refl (change.kepts u)
      (still_deleted u)
      (λ j e l. omega (arith, estimates u, estimates (tail_at t j), l))) in
      let one_more =
      total_same t.n (one_if_deleted left) (λ u. one_if_deleted x u + only_at gone 1 u)
      (λ u h.
      ⊎_elim
      (λ (e : u ≡ gone).
      omega (
        arith,
        only_same gone 1 u e,
        deleted_one left u (ap (status_at left) e ∙ change.here),
        undeleted_none x u (λ (q : status_at x u ≡ deleted). omega (arith, gone_status, ap (status_at x) e)),
      ))
      (λ (d : u ≡ gone → ⊥). omega (arith, only_other gone 1 u d, same_deleted x left u (change.elsewhere u d)))
      (cases_eq u gone)) in
      record {
        contracted = omega (arith, low, k.contracted, ap (stages t.n) as_before);
        deleted = omega (arith, k.deleted, one_more, total_one t.n (one_if_deleted x) gone 1 gone_in);
        extended = omega (arith, k.extended, shorter x.path);
      }

  pub by_deletion : Stepped t x left
  unfolding deletion state iterations
  by_deletion =
      record {
        invariant = record { depth = dep; sound = deleted_sound; counts = deleted_counts };
        counted = omega arith;
        stays = still;
        distances = λ u h. same_distance x left u (change.bounds u);
        arrives = λ u e h. absurd (omega (arith, earlier u h, e));
        dearer = λ u. omega (arith, change.prices u);
        gone = still_deleted;
        kepts = λ u i h e. sym (change.kepts u) ∙ e;
      }
