-- What stays where it is, from the demands alone: one theorem on a table and one that follows it, and three uses of it. Assumes nothing.
use mathlib.Core.Path.{◌≡◌, refl, sym, ap, subst, ◌∙◌}
use mathlib.Core.Bool.{true, ◌&&◌, cond}
use mathlib.Core.List.{List, [], ◌∷◌, ◌++◌}
use mathlib.Core.Logic.{⊎_elim}
use Prim.Native.Nat.{ℕ, suc, ◌+◌, ◌≤◌, ◌<◌}
use native.Mathlib.Omega.{arith}
use lib.Dec.{ltb, eqb}
use lib.ListN.{length, get_or, length-append, get_or-append}
use borrow.Author.Tests.{eqb-true, lt-ltb, eq-eqb}
use Rattle.std.proofs.lemmas.Bool.{and_from, cases_eq, cases_lt}
use Rattle.table.specs.Table.{Arc, arc, Table, table, arc_at, present, present_at, is_walk, leads, walk_length, arc_count, tail_at, head_at, length_at, no_arc, no_node}
use Rattle.auction.specs.HandOver.{Answer}
use Rattle.auction.specs.Plan.{routes_of}
use Rattle.auction.specs.Promises.{Attains}
use Rattle.auction.specs.Demands.{distance_of, link_of, walk_of, Given, Demands, DemandsMet}
use Rattle.auction.specs.Stability.{SameRoute, SameChoice, Lengthened, RouteStays, WantedRouteStays, with_link, NoShortCut, LinkAdded, Stability}
use Rattle.table.proofs.Present.{present_tail, leaves_present, up_present, present_up}
use Rattle.auction.proofs.Good.{Good, good}
use Rattle.auction.proofs.Back.{first, walk_end, walk_on, length_on, returned_on, SameEntry, same_returned}
use Rattle.auction.proofs.Walks.{All}
use Rattle.auction.proofs.Demanded.{demands_met}

-- what is so of every arc is so of all
all_same : (is : List ℕ) → All (λ i. i ≡ i) is
unfolding All
all_same [] = tt
all_same (i ∷ is) = (refl, all_same is)

-- THE SECOND TABLE FOLLOWS THE FIRST: it has the first one's arcs at the same positions, none shorter, and perhaps more behind them, and no walk in it
-- is nearer than all those of the first
pub record Follows (t t' : Table) : Type 0 where
  pub nodes : t'.n ≡ t.n
  pub origin : t'.origin ≡ t.origin
  pub listed : (i : ℕ) → i < arc_count t → i < arc_count t'
  -- an arc that leaves a node and is as long as it was leaves it still, and one that leaves a node now left it before
  pub tails : (i : ℕ) → i < arc_count t → tail_at t i < t.n → length_at t' i ≡ length_at t i → tail_at t' i ≡ tail_at t i
  pub left_before : (i : ℕ) → i < arc_count t → tail_at t' i < t.n → tail_at t' i ≡ tail_at t i
  pub heads : (i : ℕ) → i < arc_count t → head_at t' i ≡ head_at t i
  pub longer : (i : ℕ) → i < arc_count t → length_at t i ≤ length_at t' i
  pub not_nearer : (walk : List ℕ) (v : ℕ) → is_walk t' walk v ≡ true →
      (other : List ℕ) × (is_walk t other v ≡ true) × (walk_length t other ≤ walk_length t' walk)

-- walks of a table over arcs that stand in another one too
module _ (t t' : Table) (g : Good t) (over : ℕ → Type 0) (listed : (i : ℕ) → i < arc_count t → i < arc_count t')
    (tails : (i : ℕ) → i < arc_count t → tail_at t i < t.n → over i → tail_at t' i ≡ tail_at t i)
    (heads : (i : ℕ) → i < arc_count t → head_at t' i ≡ head_at t i) where
  leads_there : (is : List ℕ) (u v : ℕ) → u < t.n → All over is → leads t u is v ≡ true → leads t' u is v ≡ true
  unfolding leads All
  leads_there [] u v low all e = e
  leads_there (i ∷ is) u v low all e =
      let f = first t u i is v e in
      let leaves = tails i f.listed (omega (arith, low, f.leaves)) all.0 ∙ f.leaves in
      and_from (ltb i (arc_count t') && eqb (tail_at t' i) u) (leads t' (head_at t' i) is v)
      (and_from (ltb i (arc_count t')) (eqb (tail_at t' i) u) (lt-ltb i (arc_count t') (listed i f.listed)) (eq-eqb (tail_at t' i) u leaves))
      (ap (λ (w : ℕ). leads t' w is v) (heads i f.listed) ∙ leads_there is (head_at t i) v (g.head_in i f.listed) all.1 f.rest)

  walk_there : t'.origin ≡ t.origin → (is : List ℕ) (v : ℕ) → All over is → is_walk t is v ≡ true → is_walk t' is v ≡ true
  unfolding is_walk
  walk_there o is v all e = ap (λ (w : ℕ). leads t' w is v) o ∙ leads_there is t.origin v g.origin_in all e

-- they are no longer than there where the arcs are not,
module _ (t t' : Table) (longer : (i : ℕ) → i < arc_count t → length_at t i ≤ length_at t' i) where
  leads_longer : (is : List ℕ) (u v : ℕ) → leads t u is v ≡ true → walk_length t is ≤ walk_length t' is
  unfolding leads walk_length
  leads_longer [] u v e = omega arith
  leads_longer (i ∷ is) u v e =
      let f = first t u i is v e in omega (arith, longer i f.listed, leads_longer is (head_at t i) v f.rest)

  walk_longer : (is : List ℕ) (v : ℕ) → is_walk t is v ≡ true → walk_length t is ≤ walk_length t' is
  unfolding is_walk
  walk_longer is v e = leads_longer is t.origin v e

  -- so that a walk which is as long as it was has only arcs that are,
  leads_each : (is : List ℕ) (u v : ℕ) → leads t u is v ≡ true → walk_length t' is ≡ walk_length t is → All (λ i. length_at t' i ≡ length_at t i) is
  unfolding leads walk_length All
  leads_each [] u v e s = tt
  leads_each (i ∷ is) u v e s =
      let f = first t u i is v e in
      let p = longer i f.listed in
      let q = leads_longer is (head_at t i) v f.rest in
      (omega (arith, p, q, s), leads_each is (head_at t i) v f.rest (omega (arith, p, q, s)))

  walk_each : (is : List ℕ) (v : ℕ) → is_walk t is v ≡ true → walk_length t' is ≡ walk_length t is → All (λ i. length_at t' i ≡ length_at t i) is
  unfolding is_walk
  walk_each is v e s = leads_each is t.origin v e s

-- and as long where the arcs are
module _ (t t' : Table) (same : (i : ℕ) → i < arc_count t → length_at t' i ≡ length_at t i) where
  leads_same : (is : List ℕ) (u v : ℕ) → leads t u is v ≡ true → walk_length t' is ≡ walk_length t is
  unfolding leads walk_length
  leads_same [] u v e = refl
  leads_same (i ∷ is) u v e = let f = first t u i is v e in omega (arith, same i f.listed, leads_same is (head_at t i) v f.rest)

  walk_same : (is : List ℕ) (v : ℕ) → is_walk t is v ≡ true → walk_length t' is ≡ walk_length t is
  unfolding is_walk
  walk_same is v e = leads_same is t.origin v e

-- ONE THEOREM: a node given in both plans keeps its route, where its walk is as long as it was
module _ {t t' : Table} {ws ws' : List ℕ} {a b : Answer} (g : Good t) (g' : Good t') (f : Follows t t') (da : Demands t ws a) (db : Demands t' ws' b) where
  record Stays (v : ℕ) : Type 0 where
    first : Given a v
    second : Given b v
    as_long : walk_length t' (walk_of t a v) ≡ walk_length t (walk_of t a v)

  there : (v : ℕ) → Given a v → walk_length t' (walk_of t a v) ≡ walk_length t (walk_of t a v) → is_walk t' (walk_of t a v) v ≡ true
  there v h s =
      let w = da.walk v h in
      walk_there t t' g (λ i. length_at t' i ≡ length_at t i) f.listed f.tails f.heads f.origin (walk_of t a v) v
      (walk_each t t' f.longer (walk_of t a v) v w s) w

  same_distance : (v : ℕ) → Stays v → distance_of b v ≡ distance_of a v
  same_distance v k =
      let other = f.not_nearer (walk_of t' b v) v (db.walk v k.second) in
      omega (
        arith,
        k.as_long,
        da.as_long v k.first,
        db.as_long v k.second,
        db.least v k.second (walk_of t a v) (there v k.first k.as_long),
        da.least v k.first other.0 other.1,
        other.2,
      )

  -- such a node but the origin has the same link, and the link's near end is such a node
  module _ (v : ℕ) (k : Stays v) (d : v ≡ t.origin → ⊥) where
    abbrev i : ℕ
    i = link_of a v

    abbrev u : ℕ
    u = tail_at t i

    d' : v ≡ t'.origin → ⊥
    d' e = d (e ∙ f.origin)

    by_i : Attains t v (distance_of a v) i
    by_i = da.attains v k.first d

    given_tail : Given a u
    given_tail = da.near_end v k.first d

    -- its walk is that to the link's near end, and the link
    split : walk_of t a v ≡ walk_of t a u ++ (i ∷ [])
    unfolding walk_of link_of
    split = returned_on t a.tree v d (λ e. omega (arith, e, by_i.listed, g.few_arcs)) (da.short u given_tail)

    -- so both are as long as they were
    lengths : (walk_length t' (walk_of t a u) ≡ walk_length t (walk_of t a u)) × (length_at t' i ≡ length_at t i)
    lengths =
        let p = f.longer i by_i.listed in
        let q = walk_longer t t' f.longer (walk_of t a u) u (da.walk u given_tail) in
        let l = ap (walk_length t) split ∙ length_on t (walk_of t a u) i in
        let l' = ap (walk_length t') split ∙ length_on t' (walk_of t a u) i in
        (omega (arith, p, q, l, l', k.as_long), omega (arith, p, q, l, l', k.as_long))

    same_tail : tail_at t' i ≡ u
    same_tail = f.tails i by_i.listed (walk_end t g by_i.walk u by_i.to_tail) lengths.1

    -- its link attains the distance in the second table, and the second plan's link does in the first
    i_attains : Attains t' v (distance_of b v) i
    i_attains =
        record {
          listed = f.listed i by_i.listed;
          into = f.heads i by_i.listed ∙ by_i.into;
          walk = walk_of t a u;
          to_tail = subst (λ (w : ℕ). is_walk t' (walk_of t a u) w ≡ true) (sym same_tail) (there u given_tail lengths.0);
          total =
              omega (
                arith,
                lengths.0,
                lengths.1,
                ap (walk_length t) split,
                length_on t (walk_of t a u) i,
                da.as_long v k.first,
                same_distance v k,
              );
        }

    abbrev j : ℕ
    j = link_of b v

    j_low : j ≤ i
    j_low = db.earliest v k.second d' i i_attains

    by_j : Attains t' v (distance_of b v) j
    by_j = db.attains v k.second d'

    j_attains : Attains t v (distance_of a v) j
    j_attains =
        let listed : j < arc_count t = omega (arith, j_low, by_i.listed) in
        let other = f.not_nearer by_j.walk (tail_at t' j) by_j.to_tail in
        let low : tail_at t' j < t.n = omega (arith, walk_end t' g' by_j.walk (tail_at t' j) by_j.to_tail, f.nodes) in
        let to_tail = subst (λ (w : ℕ). is_walk t other.0 w ≡ true) (f.left_before j listed low) other.1 in
        let into = sym (f.heads j listed) ∙ by_j.into in
        let whole = subst (λ (w : ℕ). is_walk t (other.0 ++ (j ∷ [])) w ≡ true) into (walk_on t other.0 (tail_at t j) j to_tail listed refl) in
        record {
          listed = listed;
          into = into;
          walk = other.0;
          to_tail = to_tail;
          total =
              omega (
                arith,
                da.least v k.first (other.0 ++ (j ∷ [])) whole,
                length_on t other.0 j,
                other.2,
                f.longer j listed,
                by_j.total,
                same_distance v k,
              );
        }

    same_link : j ≡ i
    same_link = omega (arith, j_low, da.earliest v k.first d j j_attains)

    tail_stays : Stays u
    tail_stays =
        record {
          first = given_tail;
          second = subst (λ (w : ℕ). Given b w) (ap (tail_at t') same_link ∙ same_tail) (db.near_end v k.second d');
          as_long = lengths.0;
        }

    entry : SameEntry t t' a.tree b.tree Stays v
    unfolding link_of
    entry = record { same = same_link; tail = same_tail; before = tail_stays }

  same_route : (v : ℕ) → Stays v → SameRoute t a t' b v
  unfolding walk_of
  same_route v k =
      record {
        distance = same_distance v k;
        link =
            ⊎_elim
            (λ (e : v ≡ t.origin).
            ap (link_of b) (e ∙ sym f.origin) ∙ db.no_link ∙ sym (ap (link_of a) e ∙ da.no_link))
            (λ (d : v ≡ t.origin → ⊥). same_link v k d)
            (cases_eq v t.origin);
        walk = same_returned t t' a.tree b.tree f.origin Stays entry f.nodes v k;
      }

-- LINKS THAT HAVE BECOME LONGER OR GONE DOWN
module _ (t t' : Table) (g : Good t) (g' : Good t') (l : Lengthened t t') where
  -- an arc that is present in both leaves the same node
  same_end : (i : ℕ) → i < arc_count t → present_at t i ≡ true → present_at t' i ≡ true → tail_at t' i ≡ tail_at t i
  same_end i h p p' = present_tail t' i p' ∙ l.tails i h ∙ sym (present_tail t i p)

  still_there : (i : ℕ) → i < arc_count t → tail_at t i < t.n → length_at t' i ≡ length_at t i → tail_at t' i ≡ tail_at t i
  still_there i h low s =
      let p = leaves_present t i g.few_nodes low in
      same_end i h p (up_present t' i (λ d. present_up t i p (sym s ∙ d)))

  -- down is the greatest length, so an arc that is present now was present before
  there_before : (i : ℕ) → i < arc_count t → tail_at t' i < t.n → tail_at t' i ≡ tail_at t i
  there_before i h low =
      let p = leaves_present t' i g'.few_nodes (omega (arith, low, l.nodes)) in
      let most = g'.not_long i (omega (arith, h, l.arcs)) in
      same_end i h (up_present t i (λ d. present_up t' i p (omega (arith, d, l.longer i h, most)))) p

  lengthened_follows : Follows t t'
  lengthened_follows =
      let listed : (i : ℕ) → i < arc_count t' → i < arc_count t = λ i h. omega (arith, h, l.arcs) in
      record {
        nodes = l.nodes;
        origin = l.origin;
        listed = λ i h. omega (arith, h, l.arcs);
        tails = still_there;
        left_before = there_before;
        heads = l.heads;
        longer = l.longer;
        not_nearer =
            λ walk v e.
            let here =
            walk_there t' t g' (λ i. i ≡ i) listed (λ i h low s. sym (there_before i (listed i h) (omega (arith, low, l.nodes))))
            (λ i h. sym (l.heads i (listed i h))) (sym l.origin) walk v (all_same walk) e in
            (walk, here, walk_longer t t' l.longer walk v here);
      }

pub route_stays : RouteStays
unfolding RouteStays DemandsMet
route_stays t t' ws ws' v e e' l h h' w =
    let g = good t ws e in
    let g' = good t' ws' e' in
    same_route g g' (lengthened_follows t t' g g' l) (demands_met t ws e) (demands_met t' ws' e') v (record { first = h; second = h'; as_long = w })

pub wanted_route_stays : WantedRouteStays
unfolding WantedRouteStays RouteStays DemandsMet
wanted_route_stays t t' ws ws' k e e' l h wanted w =
    let v = get_or ws' k 0 in
    let g = good t ws e in
    let g' = good t' ws' e' in
    let d = demands_met t' ws' e' in
    let h' = d.given k (walk_of t (routes_of t ws) v) wanted (there g g' (lengthened_follows t t' g g' l) (demands_met t ws e) d v h w) in
    (h', route_stays t t' ws ws' v e e' l h h' w)

-- ONE TABLE, TWO WANTED LISTS
as_it_was : (t : Table) → Lengthened t t
as_it_was t =
    record { nodes = refl; origin = refl; arcs = refl; tails = λ i h. refl; heads = λ i h. refl; longer = λ i h. omega arith }

pub same_choice : SameChoice
unfolding SameChoice RouteStays
same_choice t ws ws' v e e' h h' = route_stays t t ws ws' v e e' (as_it_was t) h h' refl

-- A LINK AT THE END
last_entry : (l : List Arc) (a d : Arc) → get_or (l ++ (a ∷ [])) (length l) d ≡ a
last_entry [] a d = refl
last_entry (b ∷ l) a d = last_entry l a d

module _ (t : Table) (a : Arc) where
  abbrev t' : Table
  t' = with_link t a

  pub one_more : arc_count t' ≡ suc (arc_count t)
  unfolding with_link table arc_count
  one_more = omega (arith, length-append t.arcs (a ∷ []))

  old_arc : (i : ℕ) → i < arc_count t → arc_at t' i ≡ arc_at t i
  unfolding with_link table arc_count arc_at
  old_arc i h = get_or-append t.arcs (a ∷ []) (arc no_arc no_arc 0) i h

  new_arc : arc_at t' (arc_count t) ≡ a
  unfolding with_link table arc_count arc_at
  new_arc = last_entry t.arcs a (arc no_arc no_arc 0)

  old_tail : (i : ℕ) → i < arc_count t → tail_at t' i ≡ tail_at t i
  unfolding tail_at present_at
  old_tail i h = ap (λ (b : Arc). cond (present b) b.tail no_node) (old_arc i h)

  old_head : (i : ℕ) → i < arc_count t → head_at t' i ≡ head_at t i
  unfolding head_at
  old_head i h = ap (λ (b : Arc). b.head) (old_arc i h)

  old_length : (i : ℕ) → i < arc_count t → length_at t' i ≡ length_at t i
  unfolding length_at
  old_length i h = ap (λ (b : Arc). b.arc_length) (old_arc i h)

  pub new_link : ((arc_at t' (arc_count t)).tail ≡ a.tail) × (head_at t' (arc_count t) ≡ a.head) × (length_at t' (arc_count t) ≡ a.arc_length)
  unfolding head_at length_at
  new_link = (ap (λ (b : Arc). b.tail) new_arc, ap (λ (b : Arc). b.head) new_arc, ap (λ (b : Arc). b.arc_length) new_arc)

  new_present : present_at t' (arc_count t) ≡ present a
  unfolding present_at
  new_present = ap present new_arc

  module _ (g : Good t) (none_shorter : NoShortCut t a) where
    -- a walk of the old table in place of one that goes on in the new one
    old_walk : (is : List ℕ) (u v : ℕ) (walk : List ℕ) → is_walk t walk u ≡ true → leads t' u is v ≡ true →
        (other : List ℕ) × (is_walk t other v ≡ true) × (walk_length t other ≤ walk_length t walk + walk_length t' is)
    unfolding leads walk_length NoShortCut with_link table
    old_walk [] u v walk w e = (walk, subst (λ (x : ℕ). is_walk t walk x ≡ true) (eqb-true u v e) w, omega arith)
    old_walk (i ∷ is) u v walk w e =
        let f = first t' u i is v e in
        ⊎_elim
        (λ (h : i < arc_count t).
        let on = walk_on t walk u i w h (sym (old_tail i h) ∙ f.leaves) in
        let r = old_walk is (head_at t i) v (walk ++ (i ∷ [])) on (ap (λ (x : ℕ). leads t' x is v) (sym (old_head i h)) ∙ f.rest) in
        (r.0, r.1, omega (arith, r.2, length_on t walk i, old_length i h)))
        (λ (h : arc_count t ≤ i).
        let new : i ≡ arc_count t = omega (arith, h, f.listed, one_more) in
        let leaves = sym (ap (tail_at t') new) ∙ f.leaves in
        let here = leaves_present t' (arc_count t) g.few_nodes (omega (arith, leaves, walk_end t g walk u w)) in
        let to_tail = subst (λ (x : ℕ). is_walk t walk x ≡ true) (sym leaves ∙ present_tail t' (arc_count t) here ∙ new_link.0) w in
        let c = none_shorter (sym new_present ∙ here) walk to_tail in
        let r =
        old_walk is a.head v c.0 c.1 (ap (λ (x : ℕ). leads t' x is v) (sym (ap (head_at t') new ∙ new_link.1)) ∙ f.rest) in
        (r.0, r.1, omega (arith, r.2, c.2, ap (length_at t') new, new_link.2)))
        (cases_lt i (arc_count t))

    added_follows : Follows t t'
    unfolding with_link table is_walk leads walk_length
    added_follows =
        record {
          nodes = refl;
          origin = refl;
          listed = λ i h. omega (arith, h, one_more);
          tails = λ i h low s. old_tail i h;
          left_before = λ i h low. old_tail i h;
          heads = old_head;
          longer = λ i h. omega (arith, old_length i h);
          not_nearer =
              λ walk v e. let r = old_walk walk t.origin v [] (eq-eqb t.origin t.origin refl) e in (r.0, r.1, omega (arith, r.2));
        }

pub link_added : LinkAdded
unfolding LinkAdded DemandsMet
link_added t a ws ws' v e e' c h h' =
    let d = demands_met t ws e in
    same_route (good t ws e) (good (with_link t a) ws' e') (added_follows t a (good t ws e) c) d (demands_met (with_link t a) ws' e') v
    (record { first = h; second = h'; as_long = walk_same t (with_link t a) (old_length t a) (walk_of t (routes_of t ws) v) v (d.walk v h) })

pub stability : Stability
stability =
    record { same_choice = same_choice; route_stays = route_stays; wanted_route_stays = wanted_route_stays; link_added = link_added }
