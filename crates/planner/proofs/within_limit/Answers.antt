-- The run within the limit is made, or the table is refused. Assumes nothing.
use mathlib.Core.Path.{◌≡◌, refl, ap, sym, ◌∙◌}
use mathlib.Core.List.{[], ◌∷◌}
use lib.ListN.{length}
use Prim.Native.Nat.{ℕ}
use Rattle.table.specs.Table.{Table}
use Rattle.table.specs.Told.{tells}
use Rattle.table.specs.Refusals.{Refusal, refusal, no_refusal, table_refusal}
use Rattle.table.proofs.Telling.{numbered}
use Rattle.auction.specs.Plan.{rooms}
use Rattle.limit_answer.specs.Answer.{limit_refusal, limit_of}
use Rattle.limit_answer.proofs.Refused.{asked, refused}
use Rattle.planner.proofs.Planning.{Given, table_so}
use Rattle.planner.proofs.Limiting.{refusal_so}
use Rattle.planner.proofs.within_limit.Goals as goal
use Rattle.planner.proofs.within_limit.Goals.{After-check_table}

-- the lengths that are tested fit
fitting_rooms : (n m d p t k : ℕ) → (d ≡ n) × (p ≡ n) × (t ≡ n) × (k ≡ m) → rooms n m d p t k ≡ rooms n m n n n m
fitting_rooms n m d p t k e = rw (e.0, e.1, e.2, e.3)

module _ (c : After-check_table) where
  abbrev limited : Refusal
  limited = let a = c.args in limit_refusal a.n a.origin a.node a.tails.now a.heads.now a.lengths.now

  told_so : (f : Refusal) → (let a = c.args in let r = c.needed-fitting.result in
      f ≡ table_refusal a.n a.origin a.tails.now a.heads.now a.lengths.now (a.node ∷ []) (rooms a.n (length a.tails.now) r.distances r.prices r.tree r.marks)) →
      f ≡ limited
  told_so f e =
      let a = c.args in
      let r = c.needed-fitting.result in
      refusal_so a.n a.origin a.node a.tails.now a.heads.now a.lengths.now f
      (e
      ∙ ap (table_refusal a.n a.origin a.tails.now a.heads.now a.lengths.now (a.node ∷ []))
      (fitting_rooms a.n (length a.tails.now) r.distances r.prices r.tree r.marks c.needed-fitting.ensures))

pub returns-in-Ok : goal.returns-in-Ok
unfolding no_refusal refusal
returns-in-Ok c =
    let a = c.args in
    let told = c.in-Ok.ensures in
    let given : Given c.in-Ok.table a.n a.origin a.tails.now a.heads.now a.lengths.now (a.node ∷ []) = record { nodes = told.nodes; columns = told.columns } in
    c.limit_table.ensures a.node given.nodes.2
    ∙ ap (λ (t : Table). limit_of t a.node a.limit) (table_so given)
    ∙ sym
    (asked a.n a.origin a.node a.tails.now a.heads.now a.lengths.now no_refusal (told_so (goal.at.returns-in-Ok c).After-check_table no_refusal told.told)
    a.limit refl)

pub returns-in-Err : goal.returns-in-Err
unfolding refusal
returns-in-Err c =
    let a = c.args in
    let r = c.in-Err.refusal in
    c.from.ensures
    ∙ sym
    (refused a.n a.origin a.node a.tails.now a.heads.now a.lengths.now (tells r) (told_so (goal.at.returns-in-Err c).After-check_table (tells r) c.in-Err.ensures.told)
    a.limit (numbered r.fault))
