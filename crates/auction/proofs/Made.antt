-- What it says of a table that none of the refusals 1 to 7 applies, what numbers they have, and that an answer 0 or 8 is the auction's. Assumes nothing.
use mathlib.Core.Path.{◌≡◌, refl, sym, ap, ◌∙◌}
use mathlib.Core.Bool.{Bool, true, false, ◌&&◌, ◌||◌, not, cond}
use mathlib.Core.List.{List, [], ◌∷◌}
use mathlib.Core.Logic.{◌⊎◌, ⊎_elim}
use Prim.Native.Nat.{ℕ, suc, ◌^◌, ◌≤◌}
use native.Mathlib.Omega.{arith}
use lib.Dec.{ltb, leb, eqb}
use lib.ListN.{length}
use borrow.Author.Tests.{eqb-true, eqb-false, eq-eqb, ne_eqb, not-false, ltb-false, leb-true}
use Rattle.std.proofs.lemmas.Bool.{and_parts, cases_Bool, cases_eq, or_parts}
use Rattle.table.specs.Table.{Arc, arcs_of, table_of, is_table, most_nodes, most_arcs, most_wanted, Below}
use Rattle.table.specs.Refusals.{Refusal, refusal, no_refusal, or_else, Room, room, table_refusal, count_bad, columns_bad, rooms_fit, wanted_from, wanted_refusal, arc_fault, arcs_from, arcs_refusal}
use Rattle.auction.specs.HandOver.{Answer}
use Rattle.auction.specs.Promises.{UnrefusedIsTable}
use Rattle.auction.specs.Plan.{rooms, plan_refusal, plan, routes_of, refused_plan}
use Rattle.auction.proofs.Good.{unrefused_is_table, passed}

-- the four buffers are as long as they have to be
pub rooms_so : (n m a b c d : ℕ) → rooms_fit (rooms n m a b c d) ≡ true → (a ≡ n) × (b ≡ n) × (c ≡ n) × (d ≡ m)
unfolding rooms_fit rooms room
rooms_so n m a b c d e =
    let p = and_parts (eqb a n) (eqb b n && (eqb c n && (eqb d m && true))) e in
    let q = and_parts (eqb b n) (eqb c n && (eqb d m && true)) p.1 in
    let r = and_parts (eqb c n) (eqb d m && true) q.1 in
    let s = and_parts (eqb d m) true r.1 in
    (eqb-true a n p.0, eqb-true b n q.0, eqb-true c n r.0, eqb-true d m s.0)

-- buffers of these lengths fit; and where buffers fit, the refusal is that of the table without any
pub fitting : (n m : ℕ) {a b c d : ℕ} → a ≡ n → b ≡ n → c ≡ n → d ≡ m → rooms_fit (rooms n m a b c d) ≡ true
unfolding rooms_fit rooms room
fitting n m {a} {b} {c} {d} ea eb ec ed = rw (eq-eqb a n ea, eq-eqb b n eb, eq-eqb c n ec, eq-eqb d m ed)

pub without_rooms : (n o : ℕ) (ts hs ls ws : List ℕ) (rs : List Room) → rooms_fit rs ≡ true →
    table_refusal n o ts hs ls ws rs ≡ table_refusal n o ts hs ls ws []
unfolding table_refusal rooms_fit
without_rooms n o ts hs ls ws rs fit = rw fit

module _ (n o : ℕ) (ts hs ls ws : List ℕ) (rs : List Room) where
  -- a table that is not refused
  pub record Unrefused : Type 0 where
    -- the columns are equally long, and are a table with its wanted list
    pub heads_count : length ts ≡ length hs
    pub lengths_count : length hs ≡ length ls
    pub table_good : is_table (table_of n o ts hs ls) ws ≡ true
    -- there are not too many nodes and arcs
    pub few_nodes : n ≤ most_nodes
    pub few_arcs : length ts ≤ most_arcs
    -- and the buffers are as long as they have to be
    pub rooms_good : rooms_fit rs ≡ true

  pub unrefused : Below (2 ^ 32) ls → (table_refusal n o ts hs ls ws rs).number ≡ 0 → Unrefused
  unfolding table_refusal count_bad columns_bad UnrefusedIsTable
  unrefused low e =
      let p = passed (eqb n 0 || ltb most_nodes n) _ 0 0 e in
      let q = passed (columns_bad (length ts) (length hs) (length ls)) _ 1 0 p.1 in
      let r = passed (not (rooms_fit rs)) _ 2 0 q.1 in
      let c = or_parts (not (eqb (length ts) (length hs) && eqb (length hs) (length ls))) (ltb most_arcs (length ts)) q.0 in
      let h = and_parts (eqb (length ts) (length hs)) (eqb (length hs) (length ls)) (not-false _ c.0) in
      record {
        heads_count = eqb-true (length ts) (length hs) h.0;
        lengths_count = eqb-true (length hs) (length ls) h.1;
        table_good = unrefused_is_table n o ts hs ls ws rs low e;
        few_nodes = ltb-false most_nodes n (or_parts (eqb n 0) (ltb most_nodes n) p.0).1;
        few_arcs = ltb-false most_arcs (length ts) c.1;
        rooms_good = not-false _ r.0;
      }

-- THE NUMBERS of these refusals are at most 7, and 3 only where a buffer does not fit
abbrev pub Numbered : (fits : Bool) → (number : ℕ) → Type 0
Numbered fits k = (k ≤ 7) × (k ≡ 3 → fits ≡ false)

numbered : {fits : Bool} (k : ℕ) → leb k 7 ≡ true → eqb k 3 ≡ false → Numbered fits k
numbered k low other = (leb-true k 7 low, λ e. absurd (eqb-false k 3 other e))

either_numbered : {fits : Bool} (b : Bool) (x y : Refusal) → Numbered fits x.number → Numbered fits y.number → Numbered fits (cond b x y).number
either_numbered true x y p q = p
either_numbered false x y p q = q

wanted_numbered : {fits : Bool} (i n : ℕ) (ws : List ℕ) → Numbered fits (wanted_from i n ws).number
unfolding wanted_from no_refusal refusal
wanted_numbered i n [] = numbered 0 refl refl
wanted_numbered i n (w ∷ ws) =
    either_numbered (ltb w n) (wanted_from (suc i) n ws) (refusal 5 i) (wanted_numbered (suc i) n ws) (numbered 5 refl refl)

fault_numbered : {fits : Bool} (n : ℕ) (a : Arc) → Numbered fits (arc_fault n a)
unfolding arc_fault
fault_numbered n a =
    ⊎_elim (λ (e : (leb n a.tail || leb n a.head) ≡ true). rw e (numbered 6 refl refl))
    (λ (e : (leb n a.tail || leb n a.head) ≡ false).
    rw e
    (⊎_elim (λ (z : eqb a.arc_length 0 ≡ true). rw z (numbered 7 refl refl))
    (λ (z : eqb a.arc_length 0 ≡ false). rw z (numbered 0 refl refl))
    (cases_Bool (eqb a.arc_length 0))))
    (cases_Bool (leb n a.tail || leb n a.head))

arcs_numbered : {fits : Bool} (i n : ℕ) (arcs : List Arc) → Numbered fits (arcs_from i n arcs).number
unfolding arcs_from no_refusal refusal
arcs_numbered i n [] = numbered 0 refl refl
arcs_numbered i n (a ∷ more) =
    either_numbered (eqb (arc_fault n a) 0) (arcs_from (suc i) n more) (refusal (arc_fault n a) i) (arcs_numbered (suc i) n more) (fault_numbered n a)

rooms_numbered : (fits : Bool) (y : Refusal) → Numbered fits y.number → Numbered fits (cond (not fits) (refusal 3 0) y).number
unfolding refusal
rooms_numbered true y q = q
rooms_numbered false y q = (omega arith, λ e. refl)

pub refusal_numbered : (n o : ℕ) (ts hs ls ws : List ℕ) (rs : List Room) → Numbered (rooms_fit rs) (table_refusal n o ts hs ls ws rs).number
unfolding table_refusal or_else wanted_refusal arcs_refusal refusal
refusal_numbered n o ts hs ls ws rs =
    let w = either_numbered (ltb most_wanted (length ws)) (refusal 5 most_wanted) (wanted_from 0 n ws) (numbered 5 refl refl) (wanted_numbered 0 n ws) in
    let a = arcs_numbered 0 n (arcs_of ts hs ls) in
    either_numbered (count_bad n) (refusal 1 0) _ (numbered 1 refl refl)
    (either_numbered (columns_bad (length ts) (length hs) (length ls)) (refusal 2 0) _ (numbered 2 refl refl)
    (rooms_numbered (rooms_fit rs) _
    (either_numbered (leb n o) (refusal 4 0) _ (numbered 4 refl refl)
    (either_numbered (eqb (wanted_refusal n ws).number 0) (arcs_refusal n (arcs_of ts hs ls)) (wanted_refusal n ws) a w))))

-- AN ANSWER 0 OR 8 is the auction's: no other refusal has such a number
module _ (n o : ℕ) (ts hs ls ws ds ps tr ms : List ℕ) where
  abbrev plan_rooms : List Room
  plan_rooms = rooms n (length ts) (length ds) (length ps) (length tr) (length ms)

  pub refusal_low : (plan_refusal n o ts hs ls ws ds ps tr ms).number ≤ 7
  unfolding plan_refusal
  refusal_low = (refusal_numbered n o ts hs ls ws plan_rooms).0

  pub refused_so : ((plan_refusal n o ts hs ls ws ds ps tr ms).number ≡ 0 → ⊥) →
      plan n o ts hs ls ws ds ps tr ms ≡ refused_plan (plan_refusal n o ts hs ls ws ds ps tr ms) ds ps tr ms
  unfolding plan
  refused_so d = rw (ne_eqb (plan_refusal n o ts hs ls ws ds ps tr ms).number 0 d)

  refused_number : ((plan_refusal n o ts hs ls ws ds ps tr ms).number ≡ 0 → ⊥) → (plan n o ts hs ls ws ds ps tr ms).number ≡ (plan_refusal n o ts hs ls ws ds ps tr ms).number
  unfolding refused_plan
  refused_number d = ap (λ (a : Answer). a.number) (refused_so d)

  pub routes_so : (plan_refusal n o ts hs ls ws ds ps tr ms).number ≡ 0 → plan n o ts hs ls ws ds ps tr ms ≡ routes_of (table_of n o ts hs ls) ws
  unfolding plan
  routes_so e = rw (eq-eqb (plan_refusal n o ts hs ls ws ds ps tr ms).number 0 e)

  -- an answer 0 or 8
  pub record Made : Type 0 where
    pub fine : Unrefused n o ts hs ls ws plan_rooms
    pub routes : plan n o ts hs ls ws ds ps tr ms ≡ routes_of (table_of n o ts hs ls) ws

  pub made : Below (2 ^ 32) ls → (((plan n o ts hs ls ws ds ps tr ms).number ≡ 0) ⊎ ((plan n o ts hs ls ws ds ps tr ms).number ≡ 8)) → Made
  unfolding plan_refusal
  made low e =
      ⊎_elim
      (λ (z : (plan_refusal n o ts hs ls ws ds ps tr ms).number ≡ 0). record { fine = unrefused n o ts hs ls ws plan_rooms low z; routes = routes_so z })
      (λ (z : (plan_refusal n o ts hs ls ws ds ps tr ms).number ≡ 0 → ⊥).
      absurd
      (⊎_elim (λ (q : (plan n o ts hs ls ws ds ps tr ms).number ≡ 0). z (sym (refused_number z) ∙ q))
      (λ (q : (plan n o ts hs ls ws ds ps tr ms).number ≡ 8). omega (arith, refused_number z, q, refusal_low))
      e))
      (cases_eq (plan_refusal n o ts hs ls ws ds ps tr ms).number 0)

  -- A REFUSED PLAN with buffers that fit is refused as the table is without them
  pub refused_alike : let f = table_refusal n o ts hs ls ws [] in (f.number ≡ 0 → ⊥) → length ds ≡ n → length ps ≡ n → length tr ≡ n → length ms ≡ length ts →
      plan n o ts hs ls ws ds ps tr ms ≡ refused_plan f ds ps tr ms
  unfolding plan plan_refusal
  refused_alike d la lb lc ld =
      rw (without_rooms n o ts hs ls ws _ (fitting n (length ts) la lb lc ld), ne_eqb (table_refusal n o ts hs ls ws []).number 0 d)
