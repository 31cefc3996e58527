-- From what was read to what is printed of it. Assumes nothing.
use mathlib.Core.Path.{◌≡◌, refl, sym, ap, subst, ◌∙◌}
use mathlib.Core.Bool.{Bool, true, false, cond}
use mathlib.Core.List.{List, [], ◌∷◌, ◌++◌}
use Prim.Native.Nat.{ℕ, ◌≤◌, ◌<◌}
use native.Mathlib.Omega.{arith}
use lib.ListN.{length, take, drop, replicate, length-replicate, length-map, length-take}
use lib.Dec.{ltb}
use lib.Seq.{take_at}
use borrow.Author.Tests.{lt-ltb, le-ltb}
use Rattle.table.specs.Table.{Arc, most_arcs, most_wanted, tails_of, heads_of, lengths_of}
use Rattle.table.specs.Refusals.{refusal, no_refusal, columns_short}
use Rattle.auction.specs.HandOver.{Answer}
use Rattle.table.specs.Slices.{over}
use Rattle.link_format.specs.Format.{Content, content}
use Rattle.link_format.specs.Reading.{Outcome, got, refused, read_file}
use Rattle.link_format.specs.Buffers.{too_short, reading, refusal_of, no_content, content_of}
use Rattle.link_format.proofs.Outcomes.{files_refused_by_number}
use Rattle.link_file.specs.declared.TableRead.{TableRead}
use Rattle.link_file.specs.Entries.{read_answer, LeftByReading, ReadSays}
use Rattle.hand_over.specs.declared.Planned.{Planned}
use Rattle.hand_over.specs.Answered.{answered, nothing_planned}
use Rattle.planner.specs.Plan.{PlanMade}
use Rattle.sheet.specs.Sheet.{finished, refused_line, sheet}
use Rattle.sheet.specs.Printed.{most_input, read_input, plan_of, lines_of}
use Rattle.sheet.specs.Promises.{RefusalsPrinted}
use Rattle.sheet.proofs.Promised.{refusals_printed}
use Rattle.sheet.proofs.Unseen.{unseen}
use Rattle.input.specs.Input.{ColumnsRoomy, printing_read, RefusesWell}

-- a list at the start of a buffer
pub start_of : (xs buffer : List ℕ) (k : ℕ) → k ≡ length xs → take k (over xs buffer) ≡ xs
unfolding over
start_of xs buffer k e = take_at xs (drop (length xs) buffer) k (sym e)

-- as many entries of a buffer as there are
pub part_of : (xs : List ℕ) (k : ℕ) {most : ℕ} → k ≤ most → most ≤ length xs → k ≡ length (take k xs)
part_of xs k low long = omega (arith, length-take k xs)

-- READING: too long an input is refused by 2, and the buffers are as they were
pub input_too_long : (input ts hs ls ws : List ℕ) (r : TableRead) → most_input < length input → r ≡ read_answer (refusal 2 most_arcs) no_content →
    LeftByReading (read_input input) ts hs ls ws ts hs ls ws r
unfolding read_input refusal_of no_content content_of content tails_of heads_of lengths_of over
input_too_long input ts hs ls ws r h e =
    subst (λ (o : Outcome Content). LeftByReading o ts hs ls ws ts hs ls ws r)
    (sym (ap (λ (b : Bool). cond b (refused 2 most_arcs) (read_file input)) (lt-ltb most_input (length input) h)))
    (record { answer = e; tails_are = refl; heads_are = refl; lengths_are = refl; wanted_are = refl })

-- another one is read, with buffers that are long enough
pub input_read : (input ts hs ls ws ts' hs' ls' ws' : List ℕ) (r : TableRead) → length input ≤ most_input → ColumnsRoomy ts hs ls ws →
    ReadSays input ts hs ls ws ts' hs' ls' ws' r → LeftByReading (read_input input) ts hs ls ws ts' hs' ls' ws' r
unfolding read_input reading too_short columns_short
input_read input ts hs ls ws ts' hs' ls' ws' r h room says =
    let long : reading input ts hs ls ws ≡ read_file input =
    rw (
      le-ltb (length ts) most_arcs room.tails_long,
      le-ltb (length hs) most_arcs room.heads_long,
      le-ltb (length ls) most_arcs room.lengths_long,
      le-ltb (length ws) most_wanted room.wanted_long,
    ) in
    subst (λ (o : Outcome Content). LeftByReading o ts hs ls ws ts' hs' ls' ws' r)
    (long ∙ sym (ap (λ (b : Bool). cond b (refused 2 most_arcs) (read_file input)) (le-ltb most_input (length input) h))) says

-- and its refusals have a number that is not 8
refuses_cond : (b : Bool) (input : List ℕ) → RefusesWell (cond b (refused 2 most_arcs) (read_file input))
unfolding RefusesWell
refuses_cond true input n p e = let z : n ≡ 2 = cc in (omega arith, λ q. omega arith)
refuses_cond false input n p e = files_refused_by_number input n p e

pub input_refuses_well : (input : List ℕ) → RefusesWell (read_input input)
unfolding read_input
input_refuses_well input = refuses_cond (ltb most_input (length input)) input

module _ (r : TableRead) (ts₀ hs₀ ls₀ ws₀ ts hs ls ws ds ps tr ms : List ℕ) where
  -- a file that was refused prints its refusal
  pub prints_refusal : (n p : ℕ) → LeftByReading (refused n p) ts₀ hs₀ ls₀ ws₀ ts hs ls ws r → (0 < n) × (n ≡ 8 → ⊥) →
      sheet (printing_read r (nothing_planned r.number r.place) ts hs ws ds ps tr ms) ≡ lines_of (refused n p)
  unfolding refusal_of refusal read_answer printing_read answered lines_of RefusalsPrinted
  prints_refusal n p l well =
      let number : r.number ≡ n = ap (λ (x : TableRead). x.number) l.answer in
      let place : r.place ≡ p = ap (λ (x : TableRead). x.place) l.answer in
      refusals_printed (printing_read r (nothing_planned r.number r.place) ts hs ws ds ps tr ms)
      (λ e. omega (arith, well.0, number)) (λ e. well.1 (sym number ∙ e))
      ∙ ap (λ (k : ℕ). refused_line k r.place ∷ []) number
      ∙ ap (λ (k : ℕ). refused_line n k ∷ []) place

  -- a table that was read prints its plan, whatever the buffers held
  pub prints_plan : (c : Content) (next : ℕ) (rest : List ℕ) → LeftByReading (got c next rest) ts₀ hs₀ ls₀ ws₀ ts hs ls ws r →
      (a : Planned) (ds₀ ps₀ tr₀ ms₀ : List ℕ) → length ds₀ ≡ r.n → length ps₀ ≡ r.n → length tr₀ ≡ r.n → length ms₀ ≡ r.arcs →
      PlanMade r.n r.origin (take r.arcs ts) (take r.arcs hs) (take r.arcs ls) (take r.wanted ws) ds₀ ps₀ tr₀ ms₀
      (take r.n ds) (take r.n ps) (take r.n tr) (take r.arcs ms) a →
      sheet (printing_read r a ts hs ws ds ps tr ms) ≡ lines_of (got c next rest)
  unfolding refusal_of content_of read_answer printing_read lines_of plan_of tails_of heads_of lengths_of
  prints_plan c next rest l a ds₀ ps₀ tr₀ ms₀ d p t m made =
      let n : r.n ≡ c.n = ap (λ (x : TableRead). x.n) l.answer in
      let origin : r.origin ≡ c.origin = ap (λ (x : TableRead). x.origin) l.answer in
      let arcs : r.arcs ≡ length c.arcs = ap (λ (x : TableRead). x.arcs) l.answer in
      let wanted : r.wanted ≡ length c.wanted = ap (λ (x : TableRead). x.wanted) l.answer in
      let tails : take r.arcs ts ≡ tails_of c.arcs =
      ap (take r.arcs) l.tails_are ∙ start_of (tails_of c.arcs) ts₀ r.arcs (arcs ∙ sym (length-map c.arcs (λ (x : Arc). x.tail))) in
      let heads : take r.arcs hs ≡ heads_of c.arcs =
      ap (take r.arcs) l.heads_are ∙ start_of (heads_of c.arcs) hs₀ r.arcs (arcs ∙ sym (length-map c.arcs (λ (x : Arc). x.head))) in
      let lengths : take r.arcs ls ≡ lengths_of c.arcs =
      ap (take r.arcs) l.lengths_are ∙ start_of (lengths_of c.arcs) ls₀ r.arcs (arcs ∙ sym (length-map c.arcs (λ (x : Arc). x.arc_length))) in
      let list : take r.wanted ws ≡ c.wanted = ap (take r.wanted) l.wanted_are ∙ start_of c.wanted ws₀ r.wanted wanted in
      ap (λ (x : Answer). sheet (finished r.origin (take r.arcs ts) (take r.arcs hs) (take r.wanted ws) x)) made
      ∙ rw (n, origin, tails, heads, lengths, list)
      (unseen c.n c.origin (tails_of c.arcs) (heads_of c.arcs) (lengths_of c.arcs) c.wanted ds₀ ps₀ tr₀ ms₀ (replicate c.n 0) (replicate c.n 0)
      (replicate c.n 0) (replicate (length c.arcs) 0) (d ∙ n ∙ sym (length-replicate c.n 0)) (p ∙ n ∙ sym (length-replicate c.n 0))
      (t ∙ n ∙ sym (length-replicate c.n 0)) (m ∙ arcs ∙ sym (length-replicate (length c.arcs) 0)))

  -- whatever reading gave: where it refused, and where it did not
  pub refused_read : (o : Outcome Content) → RefusesWell o → LeftByReading o ts₀ hs₀ ls₀ ws₀ ts hs ls ws r → (r.number ≡ 0 → ⊥) → (a : Planned) →
      a ≡ nothing_planned r.number r.place → sheet (printing_read r a ts hs ws ds ps tr ms) ≡ lines_of o
  unfolding refusal_of no_refusal refusal read_answer RefusesWell
  refused_read (got c next rest) well l d a e = absurd (d (ap (λ (x : TableRead). x.number) l.answer))
  refused_read (refused n p) well l d a e =
      ap (λ (x : Planned). sheet (printing_read r x ts hs ws ds ps tr ms)) e ∙ prints_refusal n p l (well n p refl)

  planned_read : (o : Outcome Content) → RefusesWell o → LeftByReading o ts₀ hs₀ ls₀ ws₀ ts hs ls ws r → r.number ≡ 0 →
      (a : Planned) (ds₀ ps₀ tr₀ ms₀ : List ℕ) → length ds₀ ≡ r.n → length ps₀ ≡ r.n → length tr₀ ≡ r.n → length ms₀ ≡ r.arcs →
      PlanMade r.n r.origin (take r.arcs ts) (take r.arcs hs) (take r.arcs ls) (take r.wanted ws) ds₀ ps₀ tr₀ ms₀
      (take r.n ds) (take r.n ps) (take r.n tr) (take r.arcs ms) a →
      sheet (printing_read r a ts hs ws ds ps tr ms) ≡ lines_of o
  unfolding refusal_of refusal read_answer RefusesWell
  planned_read (got c next rest) well l z a ds₀ ps₀ tr₀ ms₀ d q t m made = prints_plan c next rest l a ds₀ ps₀ tr₀ ms₀ d q t m made
  planned_read (refused n p) well l z a ds₀ ps₀ tr₀ ms₀ d q t m made =
      absurd (omega (arith, (well n p refl).0, z, ap (λ (x : TableRead). x.number) l.answer))

-- the same where the plan was left at the starts of the buffers
pub planned_parts : (r : TableRead) (ts₀ hs₀ ls₀ ws₀ ts hs ls ws : List ℕ) (o : Outcome Content) → RefusesWell o →
    LeftByReading o ts₀ hs₀ ls₀ ws₀ ts hs ls ws r → r.number ≡ 0 →
    (a : Planned) (ds₀ ps₀ tr₀ ms₀ ds ps tr ms ds_rest ps_rest tr_rest ms_rest : List ℕ) →
    length ds₀ ≡ r.n → length ps₀ ≡ r.n → length tr₀ ≡ r.n → length ms₀ ≡ r.arcs →
    length ds ≡ r.n → length ps ≡ r.n → length tr ≡ r.n → length ms ≡ r.arcs →
    PlanMade r.n r.origin (take r.arcs ts) (take r.arcs hs) (take r.arcs ls) (take r.wanted ws) ds₀ ps₀ tr₀ ms₀ ds ps tr ms a →
    sheet (printing_read r a ts hs ws (ds ++ ds_rest) (ps ++ ps_rest) (tr ++ tr_rest) (ms ++ ms_rest)) ≡ lines_of o
planned_parts r ts₀ hs₀ ls₀ ws₀ ts hs ls ws o well l z a ds₀ ps₀ tr₀ ms₀ ds ps tr ms ds_rest ps_rest tr_rest ms_rest d₀ p₀ t₀ m₀ d p t m made =
    planned_read r ts₀ hs₀ ls₀ ws₀ ts hs ls ws (ds ++ ds_rest) (ps ++ ps_rest) (tr ++ tr_rest) (ms ++ ms_rest) o well l z
    a ds₀ ps₀ tr₀ ms₀ d₀ p₀ t₀ m₀
    (rw (take_at ds ds_rest r.n d, take_at ps ps_rest r.n p, take_at tr tr_rest r.n t, take_at ms ms_rest r.arcs m) made)
