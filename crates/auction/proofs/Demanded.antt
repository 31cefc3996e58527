-- The promises, carried over to what is handed over; and the demands pin the counts. Assumes nothing.
use mathlib.Core.Path.{◌≡◌, refl, sym, ap, subst, ◌∙◌}
use mathlib.Core.Bool.{true, false}
use mathlib.Core.List.{List}
use mathlib.Core.Logic.{inl, inr, ⊎_elim}
use mathlib.Core.Option.{some}
use Prim.Native.Nat.{ℕ, ◌≤◌, ◌<◌}
use native.Mathlib.Omega.{arith}
use lib.ListN.{get_or}
use borrow.Author.Tests.{both_ways}
use Rattle.std.proofs.lemmas.Bool.{cases_Bool, cases_eq, cases_lt}
use Rattle.table.specs.Table.{Table, is_table, arc_count, present_at, tail_at, walk_length, no_arc, no_distance}
use Rattle.table.specs.Refusals.{refusal, no_refusal}
use Rattle.auction.specs.Auction.{State, auction, after, was_reached, distance, iterations}
use Rattle.auction.specs.HandOver.{Answer, handed_over, distances, mark, marks, first_missing, route_refusal}
use Rattle.auction.specs.Scans.{scans}
use Rattle.auction.specs.Plan.{routes_of}
use Rattle.auction.specs.Promises.{HasWalk, NoWalk, last_state, route, price, link, Shortest, Shown, WalkShortest, WalkGiven, PricesFit, PricesShow, RouteToAll, NoRoute, FirstWithoutWalk, FewIterations, FewerIterations, EndsByItself, IterationsCounted, Attains, EarliestLink, MarksTallied}
use Rattle.auction.specs.Demands.{distance_of, price_of, link_of, walk_of, Given, Demands, DemandsMet, SameCounts, CountsPinned, hollow, HollowFails}
use Rattle.table.proofs.Basics.{some_none, some_same}
use Rattle.auction.proofs.Sums.{column, past_column}
use Rattle.auction.proofs.Good.{Good, good}
use Rattle.auction.proofs.Steps.Effects.{status_in, reached_status, status_reached}
use Rattle.auction.proofs.Invariant.Sound.{Sound}
use Rattle.auction.proofs.Remembering.{scans_within}
use Rattle.auction.proofs.Walks.{kept_link, tree_origin, tree_unreached}
use Rattle.auction.proofs.Tally.{distance_entry, not_no_distance, reached_all, absent_mark, absent_unkept}
use Rattle.auction.proofs.Nowhere.{in_no_walk}
use Rattle.auction.proofs.Run.{none_after}
use Rattle.auction.proofs.Promised.{walk_shortest, walk_given, prices_fit, prices_show, route_to_all, no_route, few_iterations, fewer_iterations, ends_by_itself, iterations_counted, earliest_link, marks_tallied, invariant}

module _ (t : Table) (ws : List ℕ) (e : is_table t ws ≡ true) where
  abbrev x : State
  x = last_state t ws

  abbrev g : Good t
  g = good t ws e

  abbrev dep : ℕ → ℕ
  dep = (invariant t ws e).depth

  abbrev sound : Sound t x dep
  sound = (invariant t ws e).sound

  abbrev a : Answer
  a = routes_of t ws

  -- the distance column: a reached node's distance, 2⁶⁴ − 1 for any other
  reached_entry : (v : ℕ) → was_reached x v ≡ true → distance_of a v ≡ distance x v
  unfolding distance_of routes_of handed_over distances last_state distance_entry
  reached_entry v r =
      let here : distance_entry x v ≡ distance x v = rw r in
      column t.n v (distance_entry x) no_distance (status_in v (invariant t ws e).sound.nodes.sizes (reached_status x v r)) ∙ here

  unreached_entry : (v : ℕ) → was_reached x v ≡ false → distance_of a v ≡ no_distance
  unfolding distance_of routes_of handed_over distances last_state distance_entry
  unreached_entry v r =
      let here : distance_entry x v ≡ no_distance = rw r in
      ⊎_elim (λ (h : v < t.n). column t.n v (distance_entry x) no_distance h ∙ here)
      (λ (h : t.n ≤ v). past_column t.n v (distance_entry x) no_distance h)
      (cases_lt v t.n)

  pub given_reached : (v : ℕ) → Given a v → was_reached x v ≡ true
  unfolding Given
  given_reached v h = ⊎_elim (λ (r : was_reached x v ≡ true). r) (λ (r : was_reached x v ≡ false). absurd (h (unreached_entry v r))) (cases_Bool (was_reached x v))

  reached_given : (v : ℕ) → was_reached x v ≡ true → Given a v
  unfolding Given
  reached_given v r q = not_no_distance t g x dep sound v (sym (reached_entry v r) ∙ q)

  -- a node that is not given a walk is not the origin and has no link
  pub origin_given : Given a t.origin
  origin_given = reached_given t.origin (status_reached x t.origin (omega (arith, sound.nodes.origin_status)))

  pub linked_given : (v : ℕ) → (link_of a v ≡ no_arc → ⊥) → Given a v
  unfolding link_of routes_of handed_over last_state
  linked_given v d =
      ⊎_elim (λ (r : was_reached x v ≡ true). reached_given v r) (λ (r : was_reached x v ≡ false). absurd (d (tree_unreached t g x dep sound v r)))
      (cases_Bool (was_reached x v))

  -- number 8 exactly where the run ended without every wanted node
  number_zero : (auction t ws).routed ≡ true → a.number ≡ 0
  unfolding routes_of handed_over route_refusal no_refusal refusal
  number_zero r = rw r

  number_eight : (auction t ws).routed ≡ false → (a.number ≡ 8) × (a.place ≡ first_missing 0 ws x)
  unfolding routes_of handed_over route_refusal refusal last_state
  number_eight r = (rw r, rw r)

  -- an absent arc is no node's link
  no_absent_link : (i : ℕ) → i < arc_count t → present_at t i ≡ false → (v : ℕ) → link_of a v ≡ i → ⊥
  unfolding link_of routes_of handed_over last_state
  no_absent_link i h p v q =
      ⊎_elim
      (λ (r : was_reached x v ≡ true).
      ⊎_elim (λ (o : v ≡ t.origin). omega (arith, q, ap (link_of a) o, tree_origin t g x dep sound, h, g.few_arcs))
      (λ (o : v ≡ t.origin → ⊥).
      let l = kept_link t g x dep sound v r o in
      absent_unkept t g x dep sound i v p (l.kept ∙ ap some (sym l.entry ∙ q)))
      (cases_eq v t.origin))
      (λ (r : was_reached x v ≡ false). omega (arith, q, tree_unreached t g x dep sound v r, h, g.few_arcs))
      (cases_Bool (was_reached x v))

  demands : Demands t ws a
  unfolding routes_of handed_over last_state price_of link_of walk_of iterations WalkShortest WalkGiven PricesFit PricesShow RouteToAll NoRoute FewIterations FewerIterations EndsByItself IterationsCounted EarliestLink MarksTallied route price link marks
  demands =
      let shortest : (v : ℕ) → Given a v → Shortest t ws v = λ v h. walk_shortest t ws v e (given_reached v h) in
      let shown : (v : ℕ) → Given a v → Shown t ws v = λ v h. prices_show t ws v e (given_reached v h) in
      let at : (v : ℕ) → Given a v → distance x v ≡ distance_of a v = λ v h. sym (reached_entry v (given_reached v h)) in
      let within = scans_within t g (iterations x) x (iterations_counted t ws e).steps in
      record {
        given = λ k walk h w. reached_given (get_or ws k 0) (walk_given t ws k walk e h w);
        walk = λ v h. (shortest v h).walk;
        short = λ v h. (shortest v h).short;
        as_long = λ v h. (shortest v h).as_long ∙ at v h;
        least = λ v h other w. subst (λ (d : ℕ). d ≤ walk_length t other) (at v h) ((shortest v h).least other w);
        attains = λ v h d. subst (λ (k : ℕ). Attains t v k (link t ws v)) (at v h) (earliest_link t ws v e (given_reached v h) d).attains;
        earliest =
            λ v h d i q. (earliest_link t ws v e (given_reached v h) d).first i (subst (λ (k : ℕ). Attains t v k i) (sym (at v h)) q);
        near_end =
            λ v h d.
            let l = kept_link t g x dep sound v (given_reached v h) d in
            subst (λ (i : ℕ). Given a (tail_at t i)) (sym l.entry) (reached_given (tail_at t l.position) (status_reached x (tail_at t l.position) l.arc.from_reached));
        no_link = tree_origin t g x dep sound;
        prices_fit = λ i h p. prices_fit t ws i e h p;
        prices_equal = λ v h. (shown v h).equal;
        prices_show = λ v h. (shown v h).difference;
        numbers =
            ⊎_elim (λ (r : (auction t ws).routed ≡ true). inl (number_zero r)) (λ (r : (auction t ws).routed ≡ false). inr (number_eight r).0)
            (cases_Bool (auction t ws).routed);
        route =
            λ z.
            ⊎_elim (λ (r : (auction t ws).routed ≡ true). route_to_all t ws e r) (λ (r : (auction t ws).routed ≡ false). absurd (omega (arith, z, (number_eight r).0)))
            (cases_Bool (auction t ws).routed);
        no_route =
            λ z.
            ⊎_elim (λ (r : (auction t ws).routed ≡ true). absurd (omega (arith, z, number_zero r)))
            (λ (r : (auction t ws).routed ≡ false). subst (λ (p : ℕ). FirstWithoutWalk t ws p) (sym (number_eight r).1) (no_route t ws e r))
            (cases_Bool (auction t ws).routed);
        marks_all = (marks_tallied t ws e).all;
        marks_tree = (marks_tallied t ws e).tree;
        absent_mark = λ i h p. column (arc_count t) i (mark t x) 0 h ∙ absent_mark t x i p;
        absent_walk = λ i h p v q. in_no_walk t g i p (walk_of t a v) v (shortest v q).walk;
        absent_link = λ i h p v. no_absent_link i h p v;
        reached_all = reached_all t g x dep sound;
        counts = refl;
        last = x;
        steps = (iterations_counted t ws e).steps;
        counted = (refl, refl, refl);
        found =
            λ z.
            ⊎_elim (λ (r : (auction t ws).routed ≡ true). (ends_by_itself t ws e).found r)
            (λ (r : (auction t ws).routed ≡ false). absurd (omega (arith, z, (number_eight r).0)))
            (cases_Bool (auction t ws).routed);
        stuck =
            λ z.
            ⊎_elim (λ (r : (auction t ws).routed ≡ true). absurd (omega (arith, z, number_zero r)))
            (λ (r : (auction t ws).routed ≡ false). (ends_by_itself t ws e).stuck r)
            (cases_Bool (auction t ws).routed);
        not_before = (iterations_counted t ws e).not_before;
        few = few_iterations t ws e;
        fewer = fewer_iterations t ws e;
        scanned = refl;
        scans_least = within.0;
        scans_most = within.1;
      }

pub demands_met : DemandsMet
unfolding DemandsMet
demands_met = demands

-- THE COUNTS ARE PINNED
module _ {t : Table} {ws : List ℕ} where
  -- number 0 and number 8 exclude each other
  one_number : {a b : Answer} → Demands t ws a → Demands t ws b → a.number ≡ 0 → b.number ≡ 8 → ⊥
  unfolding HasWalk NoWalk
  one_number da db z y =
      let f = db.no_route y in
      let w = da.route z _ f.wanted in
      both_ways _ (f.without w.0) w.1

  same_number : {a b : Answer} → Demands t ws a → Demands t ws b → a.number ≡ b.number
  same_number {a} {b} da db =
      ⊎_elim
      (λ (z : a.number ≡ 0).
      ⊎_elim (λ (y : b.number ≡ 0). z ∙ sym y) (λ (y : b.number ≡ 8). absurd (one_number da db z y)) db.numbers)
      (λ (z : a.number ≡ 8).
      ⊎_elim (λ (y : b.number ≡ 0). absurd (one_number db da y z)) (λ (y : b.number ≡ 8). z ∙ sym y) db.numbers)
      da.numbers

  -- the one cannot stop before the other
  not_sooner : {a b : Answer} → Demands t ws a → Demands t ws b → a.iterations < b.iterations → ⊥
  not_sooner {a} {b} da db h =
      ⊎_elim (λ (z : a.number ≡ 0). both_ways _ (db.not_before a.iterations da.last h da.steps) (da.found z))
      (λ (z : a.number ≡ 8). some_none db.steps (none_after t a.iterations da.last da.steps (da.stuck z) b.iterations h))
      da.numbers

  same_counts : {a b : Answer} → Demands t ws a → Demands t ws b → SameCounts a b
  same_counts {a} {b} da db =
      let same : a.iterations ≡ b.iterations = omega (arith, not_sooner da db, not_sooner db da) in
      let last : da.last ≡ db.last = some_same da.steps (ap (λ (k : ℕ). after k t) same ∙ db.steps) in
      let by : (f : State → ℕ) → f da.last ≡ f db.last = λ f. ap f last in
      record {
        number = same_number da db;
        iterations = same;
        contractions = sym da.counted.0 ∙ by (λ x. x.contractions) ∙ db.counted.0;
        extensions = sym da.counted.1 ∙ by (λ x. x.extensions) ∙ db.counted.1;
        deletions = sym da.counted.2 ∙ by (λ x. x.deletions) ∙ db.counted.2;
        scans = da.scanned ∙ ap (λ (k : ℕ). scans k t) same ∙ sym db.scanned;
      }

pub counts_pinned : CountsPinned
unfolding CountsPinned
counts_pinned t ws a b = same_counts

pub hollow_fails : HollowFails
unfolding HollowFails hollow
hollow_fails t ws e h d = omega (arith, h, (same_counts (demands t ws e) d).iterations)
