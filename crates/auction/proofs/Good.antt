-- What `is_table` says of a table's numbers, one fact a field; and it holds just where none of the grounds 1 to 7 applies. Assumes nothing.
use mathlib.Core.Path.{◌≡◌, refl, ap, subst, ◌∙◌}
use mathlib.Core.Bool.{Bool, true, false, ◌&&◌, ◌||◌, not, cond}
use mathlib.Core.List.{List, [], ◌∷◌}
use mathlib.Core.Logic.{⊎_elim}
use Prim.Native.Nat.{ℕ, zero, suc, ◌^◌, ◌≤◌, ◌<◌}
use native.Mathlib.Omega.{arith}
use lib.Dec.{ltb, leb, eqb}
use lib.ListN.{length, get_or}
use borrow.Author.Tests.{ltb-true, leb-true, eqb-true, lt-ltb, le-ltb, le-leb, lt-leb, eq-eqb, ne_eqb, ltb-false, leb-false, eqb-false}
use Rattle.std.proofs.lemmas.Bool.{and_from, and_parts, cases_Bool, or_parts}
use Rattle.table.specs.Table.{Table, Arc, arc, table, table_of, arcs_of, is_table, arc_good, arcs_good, nodes_below, arc_count, arc_at, tail_at, head_at, length_at, longest, no_arc, most_nodes, most_arcs, most_wanted, Below}
use Rattle.table.specs.Refusals.{Refusal, refusal, no_refusal, or_else, table_refusal, count_bad, columns_bad, rooms_fit, wanted_from, wanted_refusal, arc_fault, arcs_from, arcs_refusal}
use Rattle.auction.specs.Promises.{LongestOf32Bits, LengthsOf32Bits, UnrefusedIsTable, TableIsUnrefused}
use Rattle.table.proofs.Columns.{arcs_count}

-- A TABLE THAT IS NOT REFUSED
pub record Good (t : Table) : Type 0 where
  -- it has 1 to 1,024 nodes, one of them the origin, and at most 6,000 arcs;
  pub some_node : 1 ≤ t.n
  pub few_nodes : t.n ≤ 1024
  pub origin_in : t.origin < t.n
  pub few_arcs : arc_count t ≤ 6000
  -- every arc, also an absent one, lies between nodes,
  pub end_in : (i : ℕ) → i < arc_count t → (arc_at t i).tail < t.n
  pub head_in : (i : ℕ) → i < arc_count t → head_at t i < t.n
  -- and its length is at least 1 and at most the greatest
  pub positive : (i : ℕ) → i < arc_count t → 1 ≤ length_at t i
  pub not_long : (i : ℕ) → i < arc_count t → length_at t i ≤ longest

arc_of : (n : ℕ) (arcs : List Arc) (d : Arc) (i : ℕ) → arcs_good n arcs ≡ true → i < length arcs → arc_good n (get_or arcs i d) ≡ true
unfolding arcs_good
arc_of n [] d i e h = absurd (omega arith)
arc_of n (a ∷ more) d zero e h = (and_parts (arc_good n a) (arcs_good n more) e).0
arc_of n (a ∷ more) d (suc i) e h = arc_of n more d i (and_parts (arc_good n a) (arcs_good n more) e).1 (omega arith)

node_of : (n : ℕ) (vs : List ℕ) (i : ℕ) → nodes_below n vs ≡ true → i < length vs → get_or vs i 0 < n
unfolding nodes_below
node_of n [] i e h = absurd (omega arith)
node_of n (v ∷ vs) zero e h = ltb-true v n (and_parts (ltb v n) (nodes_below n vs) e).0
node_of n (v ∷ vs) (suc i) e h = node_of n vs i (and_parts (ltb v n) (nodes_below n vs) e).1 (omega arith)

pub record ArcGood (n : ℕ) (a : Arc) : Type 0 where
  pub tail_in : a.tail < n
  pub head_in : a.head < n
  pub positive : 1 ≤ a.arc_length
  pub not_long : a.arc_length ≤ longest

arc_facts : (n : ℕ) (a : Arc) → arc_good n a ≡ true → ArcGood n a
unfolding arc_good
arc_facts n a e =
    let p = and_parts (ltb a.tail n && ltb a.head n) (leb 1 a.arc_length && leb a.arc_length longest) e in
    let q = and_parts (ltb a.tail n) (ltb a.head n) p.0 in
    let r = and_parts (leb 1 a.arc_length) (leb a.arc_length longest) p.1 in
    record {
      tail_in = ltb-true a.tail n q.0;
      head_in = ltb-true a.head n q.1;
      positive = leb-true 1 a.arc_length r.0;
      not_long = leb-true a.arc_length longest r.1;
    }

-- `is_table` taken apart
pub record Parts (t : Table) (ws : List ℕ) : Type 0 where
  pub some_node : 1 ≤ t.n
  pub few_nodes : t.n ≤ most_nodes
  pub origin_in : t.origin < t.n
  pub few_arcs : arc_count t ≤ most_arcs
  pub arcs : arcs_good t.n t.arcs ≡ true
  pub few_wanted : length ws ≤ most_wanted
  pub wanted : nodes_below t.n ws ≡ true

pub parts : (t : Table) (ws : List ℕ) → is_table t ws ≡ true → Parts t ws
unfolding is_table
parts t ws e =
    let p =
    and_parts ((leb 1 t.n && leb t.n most_nodes) && (ltb t.origin t.n && leb (arc_count t) most_arcs))
    (arcs_good t.n t.arcs && (leb (length ws) most_wanted && nodes_below t.n ws)) e in
    let q = and_parts (leb 1 t.n && leb t.n most_nodes) (ltb t.origin t.n && leb (arc_count t) most_arcs) p.0 in
    let a = and_parts (leb 1 t.n) (leb t.n most_nodes) q.0 in
    let b = and_parts (ltb t.origin t.n) (leb (arc_count t) most_arcs) q.1 in
    let c = and_parts (arcs_good t.n t.arcs) (leb (length ws) most_wanted && nodes_below t.n ws) p.1 in
    let w = and_parts (leb (length ws) most_wanted) (nodes_below t.n ws) c.1 in
    record {
      some_node = leb-true 1 t.n a.0;
      few_nodes = leb-true t.n most_nodes a.1;
      origin_in = ltb-true t.origin t.n b.0;
      few_arcs = leb-true (arc_count t) most_arcs b.1;
      arcs = c.0;
      few_wanted = leb-true (length ws) most_wanted w.0;
      wanted = w.1;
    }

pub good : (t : Table) (ws : List ℕ) → is_table t ws ≡ true → Good t
unfolding arc_count tail_at head_at length_at arc_at
good t ws e =
    let p = parts t ws e in
    let at : (i : ℕ) → i < arc_count t → ArcGood t.n (arc_at t i) =
    (λ i h. arc_facts t.n (arc_at t i) (arc_of t.n t.arcs (arc no_arc no_arc 0) i p.arcs h)) in
    record {
      some_node = p.some_node;
      few_nodes = p.few_nodes;
      origin_in = p.origin_in;
      few_arcs = p.few_arcs;
      end_in = λ i h. (at i h).tail_in;
      head_in = λ i h. (at i h).head_in;
      positive = λ i h. (at i h).positive;
      not_long = λ i h. (at i h).not_long;
    }

pub wanted_in : (t : Table) (ws : List ℕ) → is_table t ws ≡ true → (k : ℕ) → k < length ws → get_or ws k 0 < t.n
wanted_in t ws e k h = node_of t.n ws k (parts t ws e).wanted h

-- the lengths are those of 32 bits but 0
pub longest_of_32_bits : LongestOf32Bits
unfolding LongestOf32Bits
longest_of_32_bits = omega arith

pub lengths_of_32_bits : LengthsOf32Bits
unfolding LengthsOf32Bits
lengths_of_32_bits t ws i e h = let g = good t ws e in (omega (arith, g.positive i h), omega (arith, g.not_long i h))

-- WHAT IS NOT REFUSED IS A TABLE

-- a refusal whose number is not 0 was not met
pub passed : (b : Bool) (r : Refusal) (m p : ℕ) → (cond b (refusal (suc m) p) r).number ≡ 0 → (b ≡ false) × (r.number ≡ 0)
unfolding refusal
passed true r m p e = absurd (omega arith)
passed false r m p e = (refl, e)

or_else_none : (a b : Refusal) → (or_else a b).number ≡ 0 → (a.number ≡ 0) × (b.number ≡ 0)
unfolding or_else
or_else_none a b e =
    ⊎_elim
    (λ (h : eqb a.number 0 ≡ true).
    let z = eqb-true a.number 0 h in
    (z, subst (λ (c : Bool). (cond c b a).number ≡ 0) h e))
    (λ (h : eqb a.number 0 ≡ false).
    absurd (eqb-false a.number 0 h (subst (λ (c : Bool). (cond c b a).number ≡ 0) h e)))
    (cases_Bool (eqb a.number 0))

wanted_pass : (i n : ℕ) (ws : List ℕ) → (wanted_from i n ws).number ≡ 0 → nodes_below n ws ≡ true
unfolding wanted_from nodes_below refusal
wanted_pass i n [] e = refl
wanted_pass i n (w ∷ ws) e =
    ⊎_elim
    (λ (h : ltb w n ≡ true).
    let r : (wanted_from (suc i) n ws).number ≡ 0 = subst (λ (c : Bool). (cond c (wanted_from (suc i) n ws) (refusal 5 i)).number ≡ 0) h e in
    and_from (ltb w n) (nodes_below n ws) h (wanted_pass (suc i) n ws r))
    (λ (h : ltb w n ≡ false).
    let r : ◌≡◌ {A = ℕ} 5 0 = subst (λ (c : Bool). (cond c (wanted_from (suc i) n ws) (refusal 5 i)).number ≡ 0) h e in
    absurd (omega arith))
    (cases_Bool (ltb w n))

fault_none : (a b : Bool) → ◌≡◌ {A = ℕ} (cond a 6 (cond b 7 0)) 0 → (a ≡ false) × (b ≡ false)
fault_none true b e = absurd (omega arith)
fault_none false true e = absurd (omega arith)
fault_none false false e = (refl, refl)

arc_pass : (n : ℕ) (a : Arc) → arc_fault n a ≡ 0 → a.arc_length < 2 ^ 32 → arc_good n a ≡ true
unfolding arc_fault arc_good
arc_pass n a e h =
    let p = fault_none (leb n a.tail || leb n a.head) (eqb a.arc_length 0) e in
    let q = or_parts (leb n a.tail) (leb n a.head) p.0 in
    let far : a.arc_length ≡ 0 → ⊥ = eqb-false a.arc_length 0 p.1 in
    let least : 1 ≤ a.arc_length = omega arith in
    let most : a.arc_length ≤ longest = omega arith in
    rw (lt-ltb a.tail n (leb-false n a.tail q.0), lt-ltb a.head n (leb-false n a.head q.1), le-leb 1 a.arc_length least, le-leb a.arc_length longest most)

arcs_pass : (i n : ℕ) (ts hs ls : List ℕ) → (arcs_from i n (arcs_of ts hs ls)).number ≡ 0 → Below (2 ^ 32) ls → arcs_good n (arcs_of ts hs ls) ≡ true
unfolding arcs_from arcs_good arcs_of Below arc refusal
arcs_pass i n [] hs ls e b = refl
arcs_pass i n (t ∷ ts) [] ls e b = refl
arcs_pass i n (t ∷ ts) (h ∷ hs) [] e b = refl
arcs_pass i n (t ∷ ts) (h ∷ hs) (l ∷ ls) e b =
    ⊎_elim
    (λ (p : eqb (arc_fault n (arc t h l)) 0 ≡ true).
    let r : (arcs_from (suc i) n (arcs_of ts hs ls)).number ≡ 0 =
    subst (λ (c : Bool). (cond c (arcs_from (suc i) n (arcs_of ts hs ls)) (refusal (arc_fault n (arc t h l)) i)).number ≡ 0) p e in
    let fits : l < 2 ^ 32 = b 0 in
    and_from (arc_good n (arc t h l)) (arcs_good n (arcs_of ts hs ls)) (arc_pass n (arc t h l) (eqb-true (arc_fault n (arc t h l)) 0 p) fits)
    (arcs_pass (suc i) n ts hs ls r (λ k. b (suc k))))
    (λ (p : eqb (arc_fault n (arc t h l)) 0 ≡ false).
    absurd
    (eqb-false (arc_fault n (arc t h l)) 0 p
    (subst (λ (c : Bool). (cond c (arcs_from (suc i) n (arcs_of ts hs ls)) (refusal (arc_fault n (arc t h l)) i)).number ≡ 0) p e)))
    (cases_Bool (eqb (arc_fault n (arc t h l)) 0))

arcs_of_length : (ts hs ls : List ℕ) → length (arcs_of ts hs ls) ≤ length ts
unfolding arcs_of
arcs_of_length [] hs ls = omega arith
arcs_of_length (t ∷ ts) [] ls = omega arith
arcs_of_length (t ∷ ts) (h ∷ hs) [] = omega arith
arcs_of_length (t ∷ ts) (h ∷ hs) (l ∷ ls) = let r = arcs_of_length ts hs ls in omega arith

pub unrefused_is_table : UnrefusedIsTable
unfolding UnrefusedIsTable table_refusal is_table table_of table arc_count wanted_refusal count_bad columns_bad arcs_refusal
unrefused_is_table n o ts hs ls ws rooms fits e =
    let p = passed (eqb n 0 || ltb most_nodes n) _ 0 0 e in
    let q = passed (columns_bad (length ts) (length hs) (length ls)) _ 1 0 p.1 in
    let r = passed (not (rooms_fit rooms)) _ 2 0 q.1 in
    let s = passed (leb n o) _ 3 0 r.1 in
    let w = or_else_none (wanted_refusal n ws) (arcs_refusal n (arcs_of ts hs ls)) s.1 in
    let x = passed (ltb most_wanted (length ws)) (wanted_from 0 n ws) 4 most_wanted w.0 in
    let n_facts = or_parts (eqb n 0) (ltb most_nodes n) p.0 in
    let n_not_zero : n ≡ 0 → ⊥ = eqb-false n 0 n_facts.0 in
    let n_low = ltb-false most_nodes n n_facts.1 in
    let m_low = ltb-false most_arcs (length ts) (or_parts (not (eqb (length ts) (length hs) && eqb (length hs) (length ls))) (ltb most_arcs (length ts)) q.0).1 in
    let o_low = leb-false n o s.0 in
    let w_low = ltb-false most_wanted (length ws) x.0 in
    let a_low = arcs_of_length ts hs ls in
    rw (le-leb 1 n (omega arith), le-leb n 1024 n_low, lt-ltb o n o_low, le-leb (length (arcs_of ts hs ls)) 6000 (omega arith), arcs_pass 0 n ts hs ls w.1 fits, le-leb (length ws) 1024 w_low, wanted_pass 0 n ws x.1)

-- AND A TABLE IS NOT REFUSED
wanted_none : (i n : ℕ) (ws : List ℕ) → nodes_below n ws ≡ true → wanted_from i n ws ≡ no_refusal
unfolding wanted_from nodes_below
wanted_none i n [] e = refl
wanted_none i n (w ∷ ws) e =
    let p = and_parts (ltb w n) (nodes_below n ws) e in
    ap (λ (c : Bool). cond c (wanted_from (suc i) n ws) (refusal 5 i)) p.0 ∙ wanted_none (suc i) n ws p.1

faultless : (n : ℕ) (a : Arc) → arc_good n a ≡ true → arc_fault n a ≡ 0
unfolding arc_fault
faultless n a e =
    let p = arc_facts n a e in
    let some_length : a.arc_length ≡ 0 → ⊥ = λ z. omega (arith, z, p.positive) in
    rw (lt-leb n a.tail p.tail_in, lt-leb n a.head p.head_in, ne_eqb a.arc_length 0 some_length)

arcs_none : (i n : ℕ) (arcs : List Arc) → arcs_good n arcs ≡ true → arcs_from i n arcs ≡ no_refusal
unfolding arcs_from arcs_good
arcs_none i n [] e = refl
arcs_none i n (a ∷ more) e =
    let p = and_parts (arc_good n a) (arcs_good n more) e in
    ap (λ (c : Bool). cond c (arcs_from (suc i) n more) (refusal (arc_fault n a) i)) (eq-eqb (arc_fault n a) 0 (faultless n a p.0))
    ∙ arcs_none (suc i) n more p.1

pub table_is_unrefused : TableIsUnrefused
unfolding TableIsUnrefused table_refusal table_of table arc_count wanted_refusal count_bad columns_bad arcs_refusal or_else no_refusal refusal
table_is_unrefused n o ts hs ls ws rooms th hl fit e =
    let p = parts (table_of n o ts hs ls) ws e in
    let count = arcs_count ts hs ls th hl in
    let some_node : n ≡ 0 → ⊥ = λ z. omega (arith, z, p.some_node) in
    rw (
      ne_eqb n 0 some_node,
      le-ltb most_nodes n p.few_nodes,
      eq-eqb (length ts) (length hs) th,
      eq-eqb (length hs) (length ls) hl,
      le-ltb most_arcs (length ts) (omega (arith, count, p.few_arcs)),
      fit,
      lt-leb n o p.origin_in,
      le-ltb most_wanted (length ws) p.few_wanted,
      wanted_none 0 n ws p.wanted,
      arcs_none 0 n (arcs_of ts hs ls) p.arcs,
    )
