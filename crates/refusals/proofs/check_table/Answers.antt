-- The first test that refuses decides; where none does, the table is one. Assumes nothing.
use mathlib.Core.Path.{◌≡◌, sym, ap, ◌∙◌}
use lib.ListN.{length}
use Rattle.table.specs.Table.{Below}
use Rattle.table.specs.Refusals.{Refusal, refusal, no_refusal, table_refusal}
use Rattle.auction.specs.Promises.{UnrefusedIsTable}
use Rattle.refusals.specs.Lent.{lent_rooms}
use Rattle.auction.proofs.Good.{unrefused_is_table}
use Rattle.table.proofs.Telling.{goes_on, ends, handed_out}
use Rattle.refusals.proofs.Refusing.{in_order}
use Rattle.refusals.proofs.check_table.Goals as goal
use Rattle.refusals.proofs.check_table.Goals.{In_ok-check_arcs}

pub returns-in_err-check_count-clause-told : goal.returns-in_err-check_count-clause-told
returns-in_err-check_count-clause-told c = ends _ _ _ _ c.from_residual.ensures.1 c.in_err-check_count.ensures ∙ in_order _ _ _ _ _ _ _

pub returns-in_err-columns-clause-told : goal.returns-in_err-columns-clause-told
returns-in_err-columns-clause-told c =
    goes_on c.in_ok-check_count.ensures (ends _ _ _ _ c.from_residual-in_err-columns.ensures.1 c.in_err-columns.ensures.told)
    ∙ in_order _ _ _ _ _ _ _

pub returns-in_err-check_rooms-clause-told : goal.returns-in_err-check_rooms-clause-told
returns-in_err-check_rooms-clause-told c =
    goes_on c.in_ok-check_count.ensures
    (goes_on c.in_ok-columns.ensures.told
    (ends _ _ _ _ c.from_residual-in_err-check_rooms.ensures.1 c.in_err-check_rooms.ensures))
    ∙ in_order _ _ _ _ _ _ _

pub returns-in_err-check_node-clause-told : goal.returns-in_err-check_node-clause-told
returns-in_err-check_node-clause-told c =
    goes_on c.in_ok-check_count.ensures
    (goes_on c.in_ok-columns.ensures.told
    (goes_on c.in_ok-check_rooms.ensures
    (ends _ _ _ _ c.from_residual-in_err-check_node.ensures.1 c.in_err-check_node.ensures)))
    ∙ in_order _ _ _ _ _ _ _

pub returns-in_err-check_wanted-clause-told : goal.returns-in_err-check_wanted-clause-told
returns-in_err-check_wanted-clause-told c =
    goes_on c.in_ok-check_count.ensures
    (goes_on c.in_ok-columns.ensures.told
    (goes_on c.in_ok-check_rooms.ensures
    (goes_on c.in_ok-check_node.ensures
    (ends _ _ _ _ c.from_residual-in_err-check_wanted.ensures.1 c.in_err-check_wanted.ensures))))
    ∙ in_order _ _ _ _ _ _ _

pub returns-in_err-check_arcs-clause-told : goal.returns-in_err-check_arcs-clause-told
returns-in_err-check_arcs-clause-told c =
    let same = c.in_ok-columns.ensures.same in
    goes_on c.in_ok-check_count.ensures
    (goes_on c.in_ok-columns.ensures.told
    (goes_on c.in_ok-check_rooms.ensures
    (goes_on c.in_ok-check_node.ensures
    (goes_on c.in_ok-check_wanted.ensures
    (handed_out _ _ c.from_residual-in_err-check_arcs.ensures.1 ∙ rw (← same.0, ← same.1, ← same.2) c.in_err-check_arcs.ensures)))))
    ∙ in_order _ _ _ _ _ _ _

module _ (c : In_ok-check_arcs) where
  abbrev answer : Refusal
  answer = let a = c.args in
      table_refusal a.n a.origin a.tails.now a.heads.now a.lengths.now a.wanted.now (lent_rooms a.n (length a.tails.now) a.lent)

  unrefused : no_refusal ≡ answer
  unrefused =
      let same = c.in_ok-columns.ensures.same in
      goes_on c.in_ok-check_count.ensures
      (goes_on c.in_ok-columns.ensures.told
      (goes_on c.in_ok-check_rooms.ensures
      (goes_on c.in_ok-check_node.ensures
      (goes_on c.in_ok-check_wanted.ensures (rw (← same.0, ← same.1, ← same.2) c.in_ok-check_arcs.ensures)))))
      ∙ in_order _ _ _ _ _ _ _

pub invariant_of-result : goal.invariant_of-result
unfolding UnrefusedIsTable Below no_refusal refusal
invariant_of-result c =
    let same = c.in_ok-columns.ensures.same in
    record {
      good = rw (same.0, same.1, same.2)
          (unrefused_is_table _ _ _ _ c.args.lengths.now _ _ (λ i. (c.type_inv.lengths i).fits) (sym (ap (λ r. r.number) (unrefused c))));
    }

pub returns-clause-told : goal.returns-clause-told
returns-clause-told c = unrefused (goal.at.returns-clause-told c).In_ok-check_arcs
