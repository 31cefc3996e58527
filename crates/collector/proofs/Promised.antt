-- The promises of specs/Promises.antt, each from the planner's promise about the exchanged table and the one result about its walks. Assumes nothing.
use mathlib.Core.Path.{◌≡◌, refl, sym, ap, subst, ◌∙◌}
use mathlib.Core.Bool.{true}
use mathlib.Core.List.{List, [], ◌∷◌, reverse_aux, reverse, reverse-reverse}
use mathlib.Core.Logic.{⊎_elim}
use Prim.Native.Nat.{ℕ, ◌+◌, ◌<◌}
use native.Mathlib.Omega.{arith}
use lib.Dec.{eqb}
use lib.ListN.{length, get_or, length-reverse}
use Rattle.std.proofs.lemmas.Bool.{and_from, and_parts}
use Rattle.table.specs.Table.{Table, table, table_of, is_table, present_at, tail_at, head_at, length_at, leads, is_walk, walk_length}
use Rattle.table.specs.Refusals.{Refusal}
use Rattle.table.proofs.Present.{leaves_present}
use Rattle.auction.specs.HandOver.{Answer}
use Rattle.auction.specs.Plan.{plan_refusal, refused_plan, routes_of, plan}
use Rattle.auction.specs.Promises.{Attains, HasWalk, NoWalk, FirstWithoutWalk, equal_along}
use Rattle.auction.specs.Demands.{Demands, DemandsMet, Given, price_of, link_of, walk_of}
use Rattle.auction.proofs.Good.{Good, good, wanted_in}
use Rattle.auction.proofs.Back.{first, walk_end}
use Rattle.auction.specs.Absent.{AsWithout, PlanWithoutAbsent}
use Rattle.auction.proofs.Absent.{absent}
use Rattle.auction.proofs.Demanded.{demands_met}
use Rattle.auction.proofs.Made.{made, unrefused, routes_so, refused_so}
use Rattle.collector.specs.Exchanged.{exchanged, Backwards, ExchangedWalks, ExchangedIsTable, ExchangedColumns, ExchangedWithoutAbsent}
use Rattle.collector.specs.Plan.{plan_to_collector, collected}
use Rattle.collector.specs.Promises.{collector, is_walk_in, HasWalkIn, walk_from, AttainsIn, equal_in, FirstWithoutWalkIn, Collects, CollectsByExchange, CollectorServed, CollectorRefusals, CollectedWithoutAbsent}
use Rattle.collector.proofs.Exchange.{exchanged_walks, exchanged_is_table, exchanged_columns, exchanged_without_absent, count_kept, length_kept, present_kept, leaves_head, leads_to_tail, leaves_there}
use Rattle.collector.proofs.Refused.{refused_alike}

-- ON A TABLE THAT IS NOT REFUSED
module _ (t : Table) (senders : List ℕ) (table_good : is_table t senders ≡ true) where
  abbrev there : Table
  there = exchanged t

  here_good : Good t
  here_good = good t senders table_good

  there_good : Good there
  unfolding ExchangedIsTable
  there_good = good there senders (exchanged_is_table t senders ∙ table_good)

  -- walks there are walks to the collector, backwards, and the other way round
  module _ (v : ℕ) (low : v < t.n) where
    backwards : (is : List ℕ) → Backwards t (collector t) v is
    unfolding ExchangedWalks
    backwards is = exchanged_walks t senders (collector t) v is table_good here_good.origin_in low

    pub walks_in : (is : List ℕ) → is_walk there is v ≡ is_walk_in t (reverse is) v
    unfolding is_walk is_walk_in exchanged table
    walks_in is = (backwards is).walk

    pub walks_out : (is : List ℕ) → is_walk there (reverse is) v ≡ is_walk_in t is v
    walks_out is = walks_in (reverse is) ∙ ap (λ (l : List ℕ). is_walk_in t l v) (reverse-reverse is)

    pub lengths_out : (is : List ℕ) → walk_length there (reverse is) ≡ walk_length t is
    lengths_out is = (backwards (reverse is)).as_long ∙ ap (walk_length t) (reverse-reverse is)

    has_walk_in : HasWalk there v → HasWalkIn t v
    unfolding HasWalk HasWalkIn
    has_walk_in h = (reverse h.0, sym (walks_in h.0) ∙ h.1)

  -- a walk there ends at a node
  pub end_there : (is : List ℕ) (v : ℕ) → is_walk there is v ≡ true → v < t.n
  unfolding exchanged table
  end_there is v w = walk_end there there_good is v w

  -- an arc that attains a distance there attains it here
  module _ (v d i : ℕ) where
    attains_present : Attains there v d i → present_at t i ≡ true
    attains_present x = leaves_there t here_good i (end_there x.walk (tail_at there i) x.to_tail)

    attains_in : Attains there v d i → AttainsIn t v d i
    attains_in x =
        let here = attains_present x in
        let low = end_there x.walk (tail_at there i) x.to_tail in
        record {
          listed = omega (arith, x.listed, count_kept t);
          out_of = sym (leads_to_tail t i here) ∙ x.into;
          walk = reverse x.walk;
          from_head =
              subst (λ (u : ℕ). is_walk_in t (reverse x.walk) u ≡ true) (leaves_head t i here)
              (sym (walks_in (tail_at there i) low x.walk) ∙ x.to_tail);
          total = omega (arith, x.total, (backwards (tail_at there i) low x.walk).as_long, length_kept t i);
        }

    attains_out : v < t.n → AttainsIn t v d i → Attains there v d i
    attains_out low x =
        let here = leaves_present t i here_good.few_nodes (omega (arith, x.out_of, low)) in
        let head_low = here_good.head_in i x.listed in
        record {
          listed = omega (arith, x.listed, count_kept t);
          into = leads_to_tail t i here ∙ x.out_of;
          walk = reverse x.walk;
          to_tail =
              subst (λ (u : ℕ). is_walk there (reverse x.walk) u ≡ true) (sym (leaves_head t i here))
              (walks_out (head_at t i) head_low x.walk ∙ x.from_head);
          total = omega (arith, x.total, lengths_out (head_at t i) head_low x.walk, length_kept t i);
        }

  -- prices that are equal along a walk there are equal along it backwards
  equal_turned : (prices is onward : List ℕ) (v w : ℕ) → v < t.n → leads there v is w ≡ true → equal_along there prices is ≡ true →
      equal_in t prices onward ≡ true → equal_in t prices (reverse_aux is onward) ≡ true
  unfolding equal_along equal_in exchanged table
  equal_turned ps [] onward v w low e q on = on
  equal_turned ps (i ∷ is) onward v w low e q on =
      let f = first there v i is w e in
      let here = leaves_there t here_good i (omega (arith, f.leaves, low)) in
      let p = and_parts (eqb (get_or ps (tail_at there i) 0) (length_at there i + get_or ps (head_at there i) 0)) (equal_along there ps is) q in
      equal_turned ps is (i ∷ onward) (head_at there i) w (there_good.head_in i f.listed) f.rest p.1
      (and_from (eqb (get_or ps (head_at t i) 0) (length_at t i + get_or ps (tail_at t i) 0)) (equal_in t ps onward)
      (rw (← leaves_head t i here, ← leads_to_tail t i here, ← length_kept t i) p.0) on)

  -- THE DEMANDS on a plan of the exchanged table
  module _ (a : Answer) (d : Demands there senders a) where
    node : (v : ℕ) → Given a v → v < t.n
    node v given = end_there (walk_of there a v) v (d.walk v given)

    sender : (k : ℕ) → k < length senders → get_or senders k 0 < t.n
    sender k h = wanted_in t senders table_good k h

    as_long : (v : ℕ) → Given a v → walk_length t (walk_from t a v) ≡ walk_length there (walk_of there a v)
    unfolding walk_from
    as_long v given = sym (backwards v (node v given) (walk_of there a v)).as_long

    link_present : (v : ℕ) → Given a v → (v ≡ collector t → ⊥) → present_at t (link_of a v) ≡ true
    unfolding exchanged table
    link_present v given away = attains_present v _ (link_of a v) (d.attains v given away)

    first_without : (place : ℕ) → FirstWithoutWalk there senders place → FirstWithoutWalkIn t senders place
    unfolding NoWalk
    first_without place f =
        record {
          sender = f.wanted;
          without = λ walk. sym (walks_out _ (sender place f.wanted) walk) ∙ f.without (reverse walk);
          earlier = λ k h. has_walk_in _ (sender k (omega (arith, h, f.wanted))) (f.earlier k h);
        }

    collects : Collects t senders a
    unfolding walk_from is_walk price_of equal_in exchanged table
    collects =
        record {
          given = λ k walk h w. d.given k (reverse walk) h (walks_out _ (sender k h) walk ∙ w);
          walk = λ v given. sym (walks_in v (node v given) (walk_of there a v)) ∙ d.walk v given;
          short = λ v given. omega (arith, d.short v given, length-reverse (walk_of there a v));
          as_long = λ v given. as_long v given ∙ d.as_long v given;
          least = λ v given other w.
              omega (arith, d.least v given (reverse other) (walks_out v (node v given) other ∙ w), lengths_out v (node v given) other);
          attains = λ v given away. attains_in v _ (link_of a v) (d.attains v given away);
          earliest = λ v given away i x. d.earliest v given away i (attains_out v _ i (node v given) x);
          far_end = λ v given away. subst (λ (u : ℕ). Given a u) (leaves_head t (link_of a v) (link_present v given away)) (d.near_end v given away);
          no_link = d.no_link;
          prices_fit = λ i h here.
              rw (← leaves_head t i here, ← leads_to_tail t i here, ← length_kept t i)
              (d.prices_fit i (omega (arith, h, count_kept t)) (present_kept t i ∙ here));
          prices_equal = λ v given.
              equal_turned a.prices (walk_of there a v) [] (collector t) v here_good.origin_in (d.walk v given) (d.prices_equal v given) refl;
          prices_show = λ v given. omega (arith, d.prices_show v given, as_long v given);
          numbers = d.numbers;
          route = λ e k h. has_walk_in _ (sender k h) (d.route e k h);
          no_route = λ e. first_without a.place (d.no_route e);
          few = d.few;
          fewer = d.fewer;
          planned = d;
        }

pub collects_by_exchange : CollectsByExchange
unfolding CollectsByExchange
collects_by_exchange t senders a table_good d = collects t senders table_good a d

-- THE PLAN TO A COLLECTOR is the plan of the exchanged table
module _ (n c : ℕ) (ts hs ls ss : List ℕ) where
  abbrev t : Table
  t = table_of n c ts hs ls

  same_table : table_of n c hs ts ls ≡ exchanged t
  unfolding ExchangedColumns
  same_table = exchanged_columns n c ts hs ls

  pub good_here : is_table (table_of n c hs ts ls) ss ≡ true → is_table t ss ≡ true
  unfolding ExchangedIsTable
  good_here e = sym (exchanged_is_table t ss) ∙ ap (λ (x : Table). is_table x ss) (sym same_table) ∙ e

  met : is_table (table_of n c hs ts ls) ss ≡ true → Demands (exchanged t) ss (routes_of (table_of n c hs ts ls) ss)
  unfolding DemandsMet
  met e =
      subst (λ (x : Table). Demands x ss (routes_of (table_of n c hs ts ls) ss)) same_table (demands_met (table_of n c hs ts ls) ss e)

pub collector_served : CollectorServed
unfolding CollectorServed plan_to_collector
collector_served n c ts hs ls ss ds ps tr ms low number =
    let m = made n c hs ts ls ss ds ps tr ms low number in
    let ok = m.fine.table_good in
    collects (table_of n c ts hs ls) ss (good_here n c ts hs ls ss ok) _
    (subst (λ (a : Answer). Demands (exchanged (table_of n c ts hs ls)) ss a) (sym m.routes) (met n c ts hs ls ss ok))

pub collector_refusals : CollectorRefusals
unfolding CollectorRefusals plan_to_collector plan_refusal
collector_refusals n c ts hs ls ss ds ps tr ms low not_zero not_eight =
    refused_so n c hs ts ls ss ds ps tr ms
    (λ none.
    let ok = (unrefused n c hs ts ls ss _ low none).table_good in
    let number : (plan n c hs ts ls ss ds ps tr ms).number ≡ (routes_of (table_of n c hs ts ls) ss).number =
    ap (λ (a : Answer). a.number) (routes_so n c hs ts ls ss ds ps tr ms none) in
    ⊎_elim (λ q. not_zero (number ∙ q)) (λ q. not_eight (number ∙ q)) (met n c ts hs ls ss ok).numbers)
    ∙ ap (λ (f : Refusal). refused_plan f ds ps tr ms) (refused_alike n c ts hs ls ss ds ps tr ms)

-- the table without its absent arcs
pub collected_without_absent : CollectedWithoutAbsent
unfolding CollectedWithoutAbsent PlanWithoutAbsent ExchangedWithoutAbsent ExchangedIsTable collected
collected_without_absent t senders table_good =
    subst (λ (x : Table). AsWithout (exchanged t) (collected t senders) (routes_of x senders)) (exchanged_without_absent t).0
    (absent.plan_without_absent (exchanged t) senders (exchanged_is_table t senders ∙ table_good))
