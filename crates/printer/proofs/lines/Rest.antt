-- The lines still to come: the first of them, and the rest from the cursor after it. Assumes nothing.
use mathlib.Core.Path.{◌≡◌, refl, sym, ap, ap₂, subst, ◌∙◌}
use mathlib.Core.List.{List, [], ◌∷◌, ◌++◌}
use Prim.Native.Nat.{ℕ, ◌+◌, ◌-◌, ◌≤◌, ◌<◌}
use native.Mathlib.Omega.{arith}
use Rattle.std.proofs.Common.{Option, None, Some}
use native.Mathlib.Numerals.{add-one}
use lib.ListN.{length, get_or, drop, length-append, drop_of_length-le}
use lib.Seq.{drop-cons}
use borrow.Author.Tests.{eq-eqb, ne_eqb}
use Rattle.table.specs.Table.{most_nodes}
use Rattle.auction.specs.Demands.{distance_of, price_of, link_of}
use Rattle.listing.specs.Listing.{listing, tree_in}
use Rattle.sheet.specs.Text.{text, decimal, spaced}
use Rattle.sheet.specs.Sheet.{Finished, reached_line, counts_line, reached_nodes, after_nodes, after_counts, passing, node_count, has_distance, node_line, path_line, marks_line, node_lines, path_lines, marks_lines, from_reached, refused_line, sheet}
use Rattle.sheet_lines.specs.Buffers.{Begins}
use Rattle.mark_tally.specs.declared.Tally.{Tally}
use Rattle.mark_tally.specs.Tally.{tally_of}
use Rattle.printer.specs.declared.plan.Cursor.{Cursor}
use Rattle.printer.specs.declared.plan.Cursor.TheVariants.{Start, Node, Path, End}
use Rattle.printer.specs.declared.plan.Piece.{Piece}
use Rattle.printer.specs.Lines.{FirstWithDistance, nodes_from, paths_from, rest, Gives}

-- a line was put: so many bytes, and a cursor
abbrev pub put : (count : ℕ) → (next : Cursor) → Option Piece
put k c = Some (record { count = k; next = c })

pub gives_put : (p : Finished) (lines : List (List ℕ)) (line : List ℕ) (later : List (List ℕ)) (piece : Piece) (b a : List ℕ) →
    lines ≡ line ∷ later → 0 < length line → Begins line b a piece.count → rest p piece.next ≡ later → Gives p lines (Some piece) b a
unfolding Gives
gives_put p lines line later piece b a e long begins leads =
    subst (λ (ls : List (List ℕ)). Gives p ls (Some piece) b a) (sym e)
    (record { begins = begins; some = omega (arith, long, begins.counted); leads = leads })

-- the same, where the lines to come are others
pub gives_as : (p : Finished) (lines lines' : List (List ℕ)) (r : Option Piece) (b a : List ℕ) → lines ≡ lines' → Gives p lines' r b a →
    Gives p lines r b a
gives_as p lines lines' r b a e g = subst (λ (ls : List (List ℕ)). Gives p ls r b a) (sym e) g

-- EVERY LINE has a byte
pub refused_some : (n p : ℕ) → 0 < length (refused_line n p)
unfolding refused_line
refused_some n p = omega arith

pub reached_some : (r h i : ℕ) → 0 < length (reached_line r h i)
unfolding reached_line
reached_some r h i = omega arith

pub counts_some : (c e d : ℕ) → 0 < length (counts_line c e d)
unfolding counts_line
counts_some c e d = omega arith

node_some : (v d p i : ℕ) → 0 < length (node_line v d p i)
unfolding node_line
node_some v d p i = omega arith

path_some : (v : ℕ) (vs : List ℕ) → 0 < length (path_line v vs)
unfolding path_line
path_some v vs = omega (arith, length-append (spaced (text "path " ++ decimal v ++ text ":") vs) (text "\n"))

marks_some : (u d k t : ℕ) → 0 < length (marks_line u d k t)
unfolding marks_line
marks_some u d k t = omega arith

-- from the first node on come all of them
pub nodes_all : (p : Finished) → nodes_from p 0 ≡ after_counts p
unfolding nodes_from after_counts reached_nodes
nodes_all p =
    let whole : node_count p.answer.distances - 0 ≡ node_count p.answer.distances = omega arith in
    ap (λ (k : ℕ). node_lines p (passing (has_distance p.answer.distances) k 0) ++ after_nodes p) whole

-- the path line at an index of their order, and past the last of them the line of the marks
module _ (p : Finished) (at : ℕ) where
  pub path_last : {count : ℕ} {b a : List ℕ} (tally : Tally) → length p.order ≤ at → tally ≡ tally_of p.answer.marks →
      Begins (marks_line tally.unreached tally.dropped tally.kept tally.tree) b a count → Gives p (paths_from p at) (put count End) b a
  unfolding paths_from path_lines marks_lines tally_of rest
  path_last {count} {b} {a} tally h same begins =
      gives_put p (paths_from p at) _ [] (record { count = count; next = End }) b a
      (ap (λ (vs : List ℕ). path_lines p vs ++ marks_lines p.answer.marks) (drop_of_length-le p.order h)) (marks_some _ _ _ _)
      (subst (λ (t : Tally). Begins (marks_line t.unreached t.dropped t.kept t.tree) b a count) same begins) refl

  pub path_put : {count v : ℕ} {b a vs : List ℕ} → at < length p.order → v ≡ get_or p.order at 0 →
      vs ≡ (listing p.origin v (tree_in p.tails p.heads p.answer.tree) most_nodes).nodes → Begins (path_line v vs) b a count →
      Gives p (paths_from p at) (put count (Path (at + 1))) b a
  unfolding paths_from path_lines rest
  path_put {count} {v} {b} {a} {vs} h stands same begins =
      let here : drop at p.order ≡ v ∷ drop (at + 1) p.order =
      drop-cons p.order at 0 h ∙ ap₂ (λ (u j : ℕ). u ∷ drop j p.order) (sym stands) (sym (add-one at)) in
      gives_put p (paths_from p at) _ _ (record { count = count; next = Path (at + 1) }) b a
      (ap (λ (l : List ℕ). path_lines p l ++ marks_lines p.answer.marks) here) (path_some v _)
      (subst (λ (l : List ℕ). Begins (path_line v l) b a count) same begins) refl

-- the line of the first node that has one, from a node on, and past the last of them the first path line
module _ (p : Finished) (from : ℕ) where
  pub nodes_done : FirstWithDistance p.answer.distances from None → nodes_from p from ≡ paths_from p 0
  unfolding node_lines nodes_from paths_from after_nodes
  nodes_done e = rw e refl

  pub node_put : {count distance price arc v : ℕ} {b a : List ℕ} → FirstWithDistance p.answer.distances from (Some v) → distance ≡ distance_of p.answer v →
      price ≡ price_of p.answer v → arc ≡ link_of p.answer v → Begins (node_line v distance price arc) b a count →
      Gives p (nodes_from p from) (put count (Node (v + 1))) b a
  unfolding node_lines rest nodes_from
  node_put {count} {distance} {price} {arc} {v} {b} {a} first same_distance same_price same_arc begins =
      gives_put p (nodes_from p from) (node_line v distance price arc) (nodes_from p (v + 1)) (record { count = count; next = Node (v + 1) }) b a
      (rw (first.1, same_distance, same_price, same_arc) refl) (node_some v _ _ _) begins refl

-- at the start: the refusal's line first, and what follows it
module _ (p : Finished) where
  pub start_unrefused : p.answer.number ≡ 0 → rest p Start ≡ from_reached p
  unfolding rest sheet
  start_unrefused e = rw (eq-eqb p.answer.number 0 e) refl

  pub start_no_route : (p.answer.number ≡ 0 → ⊥) → p.answer.number ≡ 8 →
      rest p Start ≡ refused_line p.answer.number p.answer.place ∷ from_reached p
  unfolding rest sheet
  start_no_route d e = rw (ne_eqb p.answer.number 0 d, eq-eqb p.answer.number 8 e) refl

  pub start_refused_only : (p.answer.number ≡ 0 → ⊥) → (p.answer.number ≡ 8 → ⊥) →
      rest p Start ≡ refused_line p.answer.number p.answer.place ∷ []
  unfolding rest sheet
  start_refused_only d e = rw (ne_eqb p.answer.number 0 d, ne_eqb p.answer.number 8 e) refl
