-- A table that is not refused: what linking its arcs needs, and that the lists are its forward star. Assumes nothing.
use mathlib.Core.Path.{◌≡◌, refl, sym, ap, subst, ◌∙◌}
use mathlib.Core.List.{List, ◌++◌}
use Prim.Native.Nat.{ℕ, zero, suc, ◌≤◌, ◌<◌}
use native.Mathlib.Omega.{arith}
use lib.ListN.{length, get_or, take, drop, replicate, length-append}
use lib.Seq.{take_at}
use Rattle.table.specs.declared.links.LinkTable.{LinkTable}
use Rattle.table.specs.Lent.{table_in}
use Rattle.table.specs.Table.{Table, arc_count, arc_at, head_at, length_at, no_arc, most_nodes, most_arcs}
use Rattle.table.proofs.Present.{present_tail, absent_tail, down_absent, up_present}
use Rattle.table.proofs.Columns.{count_so, end_so, head_so, length_so, nodes_so, origin_so}
use Rattle.auction.proofs.Good.{Good, good}
use Rattle.table.specs.declared.links.Columns.{Columns}
use Rattle.forward_star.specs.declared.linked.LinkedTable.{LinkedTable}
use Rattle.forward_star.specs.Lists.{Star, star, Tails, Linked, Outgoing, SomeTable}

-- THE TABLE that the code's struct holds
module _ (l : LinkTable) where
  abbrev t : Table
  t = table_in l

  abbrev ts : List ℕ
  ts = l.columns.tails.now

  abbrev hs : List ℕ
  hs = l.columns.heads.now

  abbrev ls : List ℕ
  ls = l.columns.lengths.now

  heads_as : length hs ≡ length ts
  heads_as = sym l.columns.heads_are

  lengths_as : length ls ≡ length ts
  lengths_as = sym (l.columns.heads_are ∙ l.columns.lengths_are)

  pub good_table : Good t
  good_table = good t l.wanted.now l.good

  pub nodes_are : t.n ≡ l.n
  nodes_are = nodes_so l.n l.origin ts hs ls heads_as lengths_as

  pub origin_is : t.origin ≡ l.origin
  origin_is = origin_so l.n l.origin ts hs ls heads_as lengths_as

  pub arcs_are : arc_count t ≡ length ts
  arcs_are = count_so l.n l.origin ts hs ls heads_as lengths_as

  -- an arc is what the columns say
  pub tail_held : (i : ℕ) → i < length ts → (arc_at t i).tail ≡ get_or ts i 0
  tail_held i h = end_so l.n l.origin ts hs ls heads_as lengths_as i h

  pub head_held : (i : ℕ) → i < length ts → head_at t i ≡ get_or hs i 0
  head_held i h = head_so l.n l.origin ts hs ls heads_as lengths_as i h

  pub length_held : (i : ℕ) → i < length ts → length_at t i ≡ get_or ls i 0
  length_held i h = length_so l.n l.origin ts hs ls heads_as lengths_as i h

  pub tails_held : Tails t ts ls
  tails_held =
      let lengths : (i : ℕ) → i < arc_count t → length_at t i ≡ get_or ls i 0 = λ i h. length_held i (omega (arith, arcs_are)) in
      record {
        count = sym arcs_are;
        tail = λ i h up.
            sym (present_tail t i (up_present t i (λ e. up (sym (lengths i h) ∙ e))) ∙ tail_held i (omega (arith, arcs_are)));
        none = λ i h e low. omega (arith, absent_tail t i (down_absent t i (lengths i h ∙ e)), good_table.few_nodes);
      }

  pub few_tails : length ts ≤ most_arcs
  few_tails = l.columns.few

  pub few_nodes : l.n ≤ most_nodes
  few_nodes = omega (arith, nodes_are, good_table.few_nodes)

  pub tails_below : (i : ℕ) → i < length ts → get_or ts i 0 < l.n
  tails_below i h =
      omega (arith, good_table.end_in i (omega (arith, arcs_are)), tail_held i h, nodes_are)

  pub heads_below : (i : ℕ) → i < length ts → get_or hs i 0 < l.n
  heads_below i h =
      omega (arith, good_table.head_in i (omega (arith, arcs_are)), head_held i h, nodes_are)

  pub outgoing : {first next : List ℕ} → Linked t first next → Outgoing t (star hs ls first next)
  outgoing linked =
      record {
        few = good_table.few_arcs;
        head_count = omega (arith, arcs_are, heads_as);
        length_count = omega (arith, arcs_are, lengths_as);
        head = λ i h. sym (head_held i (omega (arith, arcs_are)));
        head_in = good_table.head_in;
        arc_length = λ i h. sym (length_held i (omega (arith, arcs_are)));
        linked = linked;
      }

-- and its forward star, with the column of tails
pub tails_of_star : (s : LinkedTable) → Tails (table_in s.table) s.star.columns.tails.now s.star.columns.lengths.now
tails_of_star s = subst (λ (c : Columns). Tails (table_in s.table) c.tails.now c.lengths.now) (sym s.same_columns) (tails_held s.table)

pub star_tails_below : (s : LinkedTable) (i : ℕ) → i < length s.star.columns.tails.now → get_or s.star.columns.tails.now i 0 < s.table.n
star_tails_below s =
    subst (λ (c : Columns). (i : ℕ) → i < length c.tails.now → get_or c.tails.now i 0 < s.table.n) (sym s.same_columns) (tails_below s.table)

pub nodes_listed : (s : LinkedTable) → length s.star.first.now ≡ s.table.n
nodes_listed s = s.listed.linked.first_count ∙ nodes_are s.table

-- a table's forward star is that of some table
pub some_table : {t : Table} {o : Star} → Outgoing t o → ∥ SomeTable o ∥₁
unfolding SomeTable
some_table {t} {o} of = ∣ (t, of) ∣₁

-- an array whose first part has been lent and has come back
prefix_fits : (a b : List ℕ) (n : ℕ) → length a ≡ n → n ≤ length (a ++ b)
prefix_fits a b n e = omega (arith, length-append a b)

-- a part of a filled array
pub filled_long : (m n a : ℕ) → n ≤ m → length (take n (replicate m a)) ≡ n
filled_long m zero a h = refl
filled_long zero (suc n) a h = absurd (omega arith)
filled_long (suc m) (suc n) a h = ap suc (filled_long m n a (omega arith))

pub filled_with : (m n a v : ℕ) → n ≤ m → v < n → get_or (take n (replicate m a)) v 0 ≡ a
filled_with m zero a v h l = absurd (omega arith)
filled_with zero (suc n) a v h l = absurd (omega arith)
filled_with (suc m) (suc n) a zero h l = refl
filled_with (suc m) (suc n) a (suc v) h l = filled_with m n a v (omega arith) (omega arith)

-- LENDING: the lists of a table's outgoing arcs fill the first parts of two arrays of no arcs, which are lent again then
abbrev pub no_arcs : (room : ℕ) → List ℕ
no_arcs room = replicate room no_arc

-- an array of which the first part has come back as this list, and that part lent again
abbrev pub back_in : (room n : ℕ) → (part : List ℕ) → List ℕ
back_in room n part = part ++ drop n (no_arcs room)

abbrev pub lent_again : (room n : ℕ) → (part : List ℕ) → List ℕ
lent_again room n part = take n (back_in room n part)

-- what linking needs of the parts that are lent
pub record Linkable (n m : ℕ) : Type 0 where
  pub few_nodes : n ≤ most_nodes
  pub few_arcs : m ≤ most_arcs
  pub first_long : length (take n (no_arcs most_nodes)) ≡ n
  pub next_long : length (take m (no_arcs most_arcs)) ≡ m
  pub no_first : (v : ℕ) → v < length (take n (no_arcs most_nodes)) → get_or (take n (no_arcs most_nodes)) v 0 ≡ no_arc

-- what is known of them where they have come back
pub record Relent (l : LinkTable) (first next : List ℕ) : Type 0 where
  pub first_part : l.n ≤ length (back_in most_nodes l.n first)
  pub next_part : length l.columns.tails.now ≤ length (back_in most_arcs (length l.columns.tails.now) next)
  pub listed : Outgoing (table_in l)
      (star l.columns.heads.now l.columns.lengths.now (lent_again most_nodes l.n first) (lent_again most_arcs (length l.columns.tails.now) next))

module _ (l : LinkTable) where
  pub linkable : Linkable l.n (length l.columns.tails.now)
  linkable =
      let long = filled_long most_nodes l.n no_arc (few_nodes l) in
      record {
        few_nodes = few_nodes l;
        few_arcs = few_tails l;
        first_long = long;
        next_long = filled_long most_arcs (length l.columns.tails.now) no_arc (few_tails l);
        no_first = λ v h. filled_with most_nodes l.n no_arc v (few_nodes l) (omega (arith, long));
      }

  pub relent : {first next : List ℕ} → length first ≡ length (take l.n (no_arcs most_nodes)) →
      length next ≡ length (take (length l.columns.tails.now) (no_arcs most_arcs)) →
      ((t : Table) → t.n ≡ length (take l.n (no_arcs most_nodes)) → Tails t l.columns.tails.now l.columns.lengths.now → Linked t first next) →
      Relent l first next
  relent {first} {next} as_first as_next linked =
      let m = length l.columns.tails.now in
      let k = linkable in
      let first_is : length first ≡ l.n = omega (arith, as_first, k.first_long) in
      let next_is : length next ≡ m = omega (arith, as_next, k.next_long) in
      let rest = drop l.n (no_arcs most_nodes) in
      let others = drop m (no_arcs most_arcs) in
      record {
        first_part = prefix_fits first rest l.n first_is;
        next_part = prefix_fits next others m next_is;
        listed =
            outgoing l
            (rw (take_at first rest l.n first_is, take_at next others m next_is)
            (linked (table_in l) (nodes_are l ∙ sym k.first_long) (tails_held l)));
      }
