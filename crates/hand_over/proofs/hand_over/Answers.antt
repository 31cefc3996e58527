-- Each part of the answer is the definition's. Assumes nothing.
use mathlib.Core.Path.{◌≡◌, refl, ◌∙◌}
use borrow.Author.Rules.{rules}
use Prim.Native.Nat.{ℕ, ◌<◌}
use native.Mathlib.Omega.{arith}
use lib.ListN.{length, get_or}
use Rattle.table.specs.Table.{no_distance}
use Rattle.table.specs.Refusals.{refusal}
use Rattle.auction.specs.Auction.{state, iterations}
use Rattle.steps.specs.Seen.{seen}
use Rattle.hand_over.specs.ReadOff.{price_entry, mark_entry}
use Rattle.hand_over.specs.Answered.{answered}
use Rattle.hand_over.proofs.Entries.{column_so}
use Rattle.hand_over.proofs.Handing.{distance_entry, arc_entry, distances_so, prices_so, tree_so, marks_so, assembled}
use Rattle.hand_over.proofs.hand_over.Goals as goal

pub returns-clause-same : goal.returns-clause-same
returns-clause-same c =
    record {
      distances_same = record { same = search rules; long = omega arith };
      prices_same = record { same = search rules; long = omega arith };
      tree_same = record { same = search rules; long = omega arith };
      marks_same = record { same = search rules; long = omega arith };
    }

pub returns-clause-answer : goal.returns-clause-answer
unfolding answered iterations seen state refusal
returns-clause-answer c = λ t ws path price nodes held wanted ran routed.
    let a = c.args in
    let ns = a.nodes.now in
    let g = a.end.progress in
    let horizon = c.horizon_of-horizon.result in
    let d : (i : ℕ) → i < length ns → get_or c.fill.new.column i 0 ≡ distance_entry no_distance ns i =
    λ i h. search (rules, c.fill.ensures i 0 (omega arith)) in
    let p : (i : ℕ) → i < length ns → get_or c.fill-2.new.column i 0 ≡ price_entry horizon ns i =
    λ i h. search (rules, c.fill-2.ensures i 0 (omega arith)) in
    let k : (i : ℕ) → i < length ns → get_or c.fill-3.new.column i 0 ≡ arc_entry ns i =
    λ i h. search (rules, c.fill-3.ensures i 0 (omega arith)) in
    let m : (i : ℕ) → i < length a.columns.heads.now → get_or c.fill-4.new.column i 0 ≡ mark_entry a.columns ns i =
    λ i h. search (rules, c.fill-4.ensures i 0 (omega arith)) in
    assembled t ws a.end.missing a.end.scans _ ran (rw wanted routed) (refusal c.told-number.result.0 c.told-number.result.1) _ _ _ _ _ _ _ _ _ _
    (rw wanted (c.told-number.ensures ∙ c.route.ensures))
    (c.count_reached.ensures t path price g nodes)
    (c.horizon_of-horizon.ensures.so t path price g nodes) c.iterations.ensures refl refl refl
    (column_so _ _ _ (omega arith) d ∙ distances_so ns path price g c.requires.known t nodes)
    (column_so _ _ _ (omega arith) p
    ∙ prices_so ns path price g c.requires.known t horizon nodes (c.horizon_of-horizon.ensures.so t path price g nodes))
    (column_so _ _ _ (omega arith) k ∙ tree_so ns path price g t nodes)
    (column_so _ _ _ (omega arith) m ∙ marks_so ns path price g t a.columns c.requires.arc_ends held)
