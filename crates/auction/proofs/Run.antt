-- The states of a run: it begins with one, each iteration gives the next, and it ends by itself. Assumes nothing.
use mathlib.Core.Path.{◌≡◌, refl, sym, ap, subst, ◌∙◌}
use mathlib.Core.Bool.{Bool, true, false, cond}
use mathlib.Core.List.{List, [], ◌∷◌}
use mathlib.Core.Logic.{⊎_elim}
use mathlib.Core.Option.{Option, none, some}
use Prim.Native.Nat.{ℕ, zero, suc, ◌+◌, ◌*◌, ◌-◌, ◌≤◌, ◌<◌}
use native.Mathlib.Omega.{arith}
use lib.ListN.{length, get_or}
use borrow.Author.Tests.{both_ways}
use Rattle.std.proofs.lemmas.Bool.{cases_Bool, cases_eq}
use Rattle.table.specs.Table.{Table, arc_count, longest}
use Rattle.auction.specs.Auction.{State, Bid, Ended, price_at, kept_at, distance, terminal, best, next, go_on, run, ended, start, after, then_next, iterations, most_iterations}
use Rattle.table.proofs.Basics.{option_or, some_none, some_same}
use Rattle.auction.proofs.Good.{Good}
use Rattle.auction.proofs.Steps.Effects.{estimate, status_in}
use Rattle.auction.proofs.Steps.Bids.{best_bid}
use Rattle.auction.proofs.Steps.Kinds.{Kind, deletes, contracts, extends, kind}
use Rattle.auction.proofs.Invariant.Sound.{Nodes, Chain, chain_status}
use Rattle.auction.proofs.Invariant.Counting.{Invariant, Stepped, path_short, few}
use Rattle.auction.proofs.Invariant.Terminal.{never_above}
use Rattle.auction.proofs.Invariant.Contracting.{by_contraction}
use Rattle.auction.proofs.Invariant.Deleting.{by_deletion}
use Rattle.auction.proofs.Invariant.Extending.{by_extension}
use Rattle.auction.proofs.Invariant.Starting.{started, started_iterations}

-- ONE ITERATION keeps the invariant
module _ (t : Table) (g : Good t) (x : State) (i : Invariant t x) where
  by_kind : {y : State} → Kind t x y → Stepped t x y
  by_kind (deletes none_there inner same) =
      subst (λ (z : State). Stepped t x z) same (by_deletion t g x i.depth i.sound i.counts none_there inner)
  by_kind (contracts b there less same) =
      subst (λ (z : State). Stepped t x z) same
      (by_contraction t g x i.depth i.sound i.counts b (best_bid t (terminal x) x b there) less)
  by_kind (extends b there equal same) =
      subst (λ (z : State). Stepped t x z) same
      (by_extension t g x i.depth i.sound i.counts b (best_bid t (terminal x) x b there) equal)

  pub stepped : (y : State) → next t x ≡ some y → Stepped t x y
  stepped y e = by_kind (kind t x y e)

-- the state before
pub preceded : (t : Table) (k : ℕ) (y : State) → after (suc k) t ≡ some y → (x : State) × (after k t ≡ some x) × (next t x ≡ some y)
unfolding after then_next
preceded t k y e =
    ⊎_elim (λ (n : after k t ≡ none). absurd (some_none e (ap (then_next t) n)))
    (λ (x : (x : State) × (after k t ≡ some x)). (x.0, x.1, sym (ap (then_next t) x.1) ∙ e))
    (option_or (after k t))

-- once no iteration follows, none does later
pub none_after : (t : Table) (k : ℕ) (y : State) → after k t ≡ some y → next t y ≡ none → (m : ℕ) → k < m → after m t ≡ none
unfolding after then_next
none_after t k y p n zero h = absurd (omega (arith, h))
none_after t k y p n (suc m) h =
    ⊎_elim (λ (s : k ≡ m). ap (λ (q : ℕ). then_next t (after q t)) (sym s) ∙ ap (then_next t) p ∙ n)
    (λ (d : k ≡ m → ⊥). ap (then_next t) (none_after t k y p n m (omega (arith, h, d))))
    (cases_eq k m)

-- every state that a run passes
pub passed : (t : Table) → Good t → (k : ℕ) (x : State) → after k t ≡ some x → Invariant t x × (iterations x ≡ k)
unfolding after
passed t g zero x e =
    let same : start t ≡ x = some_same refl e in
    (subst (λ (y : State). Invariant t y) same (started t g), ap iterations (sym same) ∙ started_iterations t g)
passed t g (suc k) x e =
    let w = preceded t k x e in
    let before = passed t g k w.0 w.1 in
    let s = stepped t g w.0 before.0 x w.2 in
    (s.invariant, s.counted ∙ ap suc before.1)

-- WHAT THE CODE HAS TO KNOW of a state's numbers
pub record Within (t : Table) (x : State) : Type 0 where
  -- there is one price, bound, kept arc and status a node
  pub price_count : length x.price ≡ t.n
  pub bound_count : length x.bound ≡ t.n
  pub kept_count : length x.kept ≡ t.n
  pub status_count : length x.status ≡ t.n
  -- the path has a node, and at most n, all of the table
  pub path_some : 1 ≤ length x.path
  pub path_short : length x.path ≤ t.n
  pub path_in : (i : ℕ) → i < length x.path → get_or x.path i 0 < t.n
  -- a kept arc stands in the table
  pub kept_in : (v k : ℕ) → kept_at x v ≡ some k → k < arc_count t
  -- prices and distances are at most n times the greatest length
  pub price_small : (v : ℕ) → price_at x v ≤ t.n * longest
  pub distance_small : (v : ℕ) → distance x v ≤ t.n * longest
  -- the terminal node's price is not above the least bid
  pub never_above : (b : Bid) → best t (terminal x) x ≡ some b → price_at x (terminal x) ≤ b.value

chain_in : {t : Table} {x : State} {dep : ℕ → ℕ} → Nodes t x dep → (p : List ℕ) → Chain t x p → (i : ℕ) → i < length p → get_or p i 0 < t.n
unfolding Chain
chain_in s [] c i h = absurd c
chain_in s (v ∷ []) c zero h = status_in v s.sizes (omega (arith, chain_status s v [] c))
chain_in s (v ∷ []) c (suc i) h = absurd (omega arith)
chain_in s (v ∷ u ∷ more) c zero h = status_in v s.sizes (omega (arith, c.0.status))
chain_in s (v ∷ u ∷ more) c (suc i) h = chain_in s (u ∷ more) c.1 i (omega arith)

pub within : (t : Table) → Good t → (x : State) → Invariant t x → Within t x
unfolding estimate
within t g x i =
    let s = i.sound.nodes in
    record {
      price_count = s.sizes.prices;
      bound_count = s.sizes.bounds;
      kept_count = s.sizes.kepts;
      status_count = s.sizes.statuses;
      path_some = omega (arith, i.sound.path_depth);
      path_short = path_short g i.sound i.counts;
      path_in = chain_in s x.path i.sound.chain;
      kept_in = λ v k e. (s.kept v k e).listed;
      price_small = λ v. omega (arith, s.small_estimate v);
      distance_small = λ v. omega (arith, s.small_estimate v);
      never_above = λ b e. never_above s (terminal x) b (best_bid t (terminal x) x b e);
    }

-- THE WHOLE RUN that ends when `stop` holds: the auction's is until every wanted node has been reached
abbrev pub until : (stop : State → Bool) → Table → Ended
until stop t = run (suc (most_iterations t.n)) stop t (start t)

-- X IS A STATE OF THE RUN
pub record Running (t : Table) (stop : State → Bool) (x : State) : Type 0 where
  -- the table is not refused
  pub good : Good t
  -- x is sound and its counts are bounded,
  pub invariant : Invariant t x
  -- its numbers are small,
  pub within : Within t x
  -- and its iterations are within the cubic bound;
  pub few : iterations x ≤ most_iterations t.n
  -- the auction comes to x after just so many iterations,
  pub steps : after (iterations x) t ≡ some x
  -- and before, it had not stopped;
  pub not_before : (k : ℕ) (y : State) → k < iterations x → after k t ≡ some y → stop y ≡ false
  -- going on from x with what is left of the count comes to the end of the whole run
  pub left : (more : ℕ) →
      run ((suc (most_iterations t.n) - iterations x) + more) stop t x ≡ run (suc (most_iterations t.n) + more) stop t (start t)

-- THE END OF A RUN
pub record Finish (t : Table) (stop : State → Bool) : Type 0 where
  -- it is a state of the run,
  pub running : Running t stop (until stop t).last
  -- in which the run stops, or from which no iteration follows,
  pub found : (until stop t).routed ≡ true → stop (until stop t).last ≡ true
  pub missing : (until stop t).routed ≡ false → stop (until stop t).last ≡ false
  pub stuck : (until stop t).routed ≡ false → next t (until stop t).last ≡ none
  -- and the same however much further the run could have counted down
  pub no_cap : (more : ℕ) → run (suc (most_iterations t.n) + more) stop t (start t) ≡ until stop t

module _ {t : Table} {stop : State → Bool} where
  -- the run begins with the start
  pub begins : Good t → Running t stop (start t)
  unfolding after
  begins g =
      let i = started t g in
      let zero_yet = started_iterations t g in
      record {
        good = g;
        invariant = i;
        within = within t g (start t) i;
        few = few g i.sound i.counts;
        steps = ap (λ (k : ℕ). after k t) zero_yet;
        not_before = λ k y h p. absurd (omega (arith, zero_yet, h));
        left =
            λ more.
            let same : (suc (most_iterations t.n) - iterations (start t)) + more ≡ suc (most_iterations t.n) + more = omega (arith, zero_yet) in
            ap (λ (k : ℕ). run k stop t (start t)) same;
      }

  module _ {x : State} (r : Running t stop x) where
    abbrev fuel : ℕ
    fuel = most_iterations t.n - iterations x

    one_left : (more : ℕ) → (suc (most_iterations t.n) - iterations x) + more ≡ suc (fuel + more)
    one_left more = omega (arith, r.few)

    -- at an end, however much is left
    ends_done : stop x ≡ true → (more : ℕ) → run (suc (most_iterations t.n) + more) stop t (start t) ≡ ended true x
    unfolding run
    ends_done e more =
        sym (r.left more)
        ∙ ap (λ (k : ℕ). run k stop t x) (one_left more)
        ∙ ap (λ (c : Bool). cond c (ended true x) (go_on (next t x) x (λ y. run (fuel + more) stop t y))) e

    ends_stuck : stop x ≡ false → next t x ≡ none → (more : ℕ) →
        run (suc (most_iterations t.n) + more) stop t (start t) ≡ ended false x
    unfolding run go_on
    ends_stuck e n more =
        sym (r.left more)
        ∙ ap (λ (k : ℕ). run k stop t x) (one_left more)
        ∙ ap (λ (c : Bool). cond c (ended true x) (go_on (next t x) x (λ y. run (fuel + more) stop t y))) e
        ∙ ap (λ (o : Option State). go_on o x (λ y. run (fuel + more) stop t y)) n

    -- the next state is one of the run
    pub goes_on : (y : State) → stop x ≡ false → next t x ≡ some y → Running t stop y × (iterations y ≡ suc (iterations x))
    unfolding run go_on after then_next
    goes_on y e n =
        let g = r.good in
        let s = stepped t g x r.invariant y n in
        let i = s.invariant in
        let here : after (suc (iterations x)) t ≡ some y = ap (then_next t) r.steps ∙ n in (
          record {
            good = g;
            invariant = i;
            within = within t g y i;
            few = few g i.sound i.counts;
            steps = ap (λ (k : ℕ). after k t) s.counted ∙ here;
            not_before =
                λ k z h p.
                ⊎_elim
                (λ (q : k ≡ iterations x).
                let same : x ≡ z = some_same r.steps (ap (λ (a : ℕ). after a t) (sym q) ∙ p) in ap stop (sym same) ∙ e)
                (λ (q : k ≡ iterations x → ⊥). r.not_before k z (omega (arith, s.counted, h, q)) p)
                (cases_eq k (iterations x));
            left =
                λ more.
                let same : (suc (most_iterations t.n) - iterations y) + more ≡ fuel + more = omega (arith, s.counted, r.few) in
                ap (λ (k : ℕ). run k stop t y) same
                ∙ sym
                (ap (λ (k : ℕ). run k stop t x) (one_left more)
                ∙ ap (λ (c : Bool). cond c (ended true x) (go_on (next t x) x (λ w. run (fuel + more) stop t w))) e
                ∙ ap (λ (o : Option State). go_on o x (λ w. run (fuel + more) stop t w)) n)
                ∙ r.left more;
          },
          s.counted,
        )

    no_more : run (suc (most_iterations t.n) + 0) stop t (start t) ≡ until stop t
    no_more = let same : suc (most_iterations t.n) + 0 ≡ suc (most_iterations t.n) = omega arith in ap (λ (k : ℕ). run k stop t (start t)) same

    pub done : stop x ≡ true → until stop t ≡ ended true x
    done e = sym no_more ∙ ends_done e 0

    pub stuck : stop x ≡ false → next t x ≡ none → until stop t ≡ ended false x
    stuck e n = sym no_more ∙ ends_stuck e n 0

  finish_done : {x : State} → Running t stop x → stop x ≡ true → Finish t stop
  unfolding ended
  finish_done {x} r e =
      let same = done r e in
      let last : (until stop t).last ≡ x = ap (λ (f : Ended). f.last) same in
      let routed : (until stop t).routed ≡ true = ap (λ (f : Ended). f.routed) same in
      record {
        running = subst (λ (y : State). Running t stop y) (sym last) r;
        found = λ q. ap stop last ∙ e;
        missing = λ q. absurd (both_ways (until stop t).routed q routed);
        stuck = λ q. absurd (both_ways (until stop t).routed q routed);
        no_cap = λ more. ends_done r e more ∙ sym same;
      }

  finish_stuck : {x : State} → Running t stop x → stop x ≡ false → next t x ≡ none → Finish t stop
  unfolding ended
  finish_stuck {x} r e n =
      let same = stuck r e n in
      let last : (until stop t).last ≡ x = ap (λ (f : Ended). f.last) same in
      let routed : (until stop t).routed ≡ false = ap (λ (f : Ended). f.routed) same in
      record {
        running = subst (λ (y : State). Running t stop y) (sym last) r;
        found = λ q. absurd (both_ways (until stop t).routed routed q);
        missing = λ q. ap stop last ∙ e;
        stuck = λ q. ap (next t) last ∙ n;
        no_cap = λ more. ends_stuck r e n more ∙ sym same;
      }

  by_stop : (x : State) → ((y : State) → iterations y ≡ suc (iterations x) → Running t stop y → Finish t stop) → Running t stop x → Finish t stop
  by_stop x on r =
      ⊎_elim (λ (e : stop x ≡ true). finish_done r e)
      (λ (e : stop x ≡ false).
      ⊎_elim (λ (n : next t x ≡ none). finish_stuck r e n)
      (λ (y : (y : State) × (next t x ≡ some y)).
      let q = goes_on r y.0 e y.1 in
      on y.0 q.1 q.0)
      (option_or (next t x)))
      (cases_Bool (stop x))

  finish_from : (k : ℕ) (x : State) → most_iterations t.n ≤ k + iterations x → Running t stop x → Finish t stop
  finish_from zero x h r = by_stop x (λ y e q. absurd (omega (arith, h, e, q.few))) r
  finish_from (suc k) x h r = by_stop x (λ y e q. finish_from k y (omega (arith, h, e)) q) r

  pub finish : Good t → Finish t stop
  finish g = finish_from (most_iterations t.n) (start t) (omega arith) (begins g)

-- ONE RUN FOR TWO STOPS, where they agree on every state that satisfies the invariant
module _ {t : Table} {stop other : State → Bool} (g : Good t) (agree : (x : State) → Invariant t x → stop x ≡ other x) where
  same_from : (k : ℕ) (x : State) → Invariant t x → run k stop t x ≡ run k other t x
  unfolding run go_on
  same_from zero x i = ap (λ (b : Bool). ended b x) (agree x i)
  same_from (suc k) x i =
      ⊎_elim (λ (e : other x ≡ true). rw (agree x i, e))
      (λ (e : other x ≡ false).
      rw (agree x i, e)
      (⊎_elim (λ (n : next t x ≡ none). rw n)
      (λ (y : (y : State) × (next t x ≡ some y)). rw y.1 (same_from k y.0 (stepped t g x i y.0 y.1).invariant))
      (option_or (next t x))))
      (cases_Bool (other x))

  pub same_run : until stop t ≡ until other t
  same_run = same_from (suc (most_iterations t.n)) (start t) (started t g)
