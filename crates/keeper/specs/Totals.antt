-- How the code says what there may be none of, and what it decides. Assumes nothing: these are definitions.
use Rattle.std.specs.Prelude.{Bool, true, false, cond, if◌then◌else◌, List, ℕ, ltb, eqb, length, Some, None, Result, Ok, Err}
use Rattle.std.specs.Prelude as code
use Rattle.std.proofs.Math.Option.{Option, none, some}
use Rattle.table.specs.Table.{Table, down}
use Rattle.table.specs.declared.faults.Refusal.{Refusal}
use Rattle.table.specs.Told.{number}
use Rattle.keeping.specs.declared.Kept.{Kept}
use Rattle.keeping.specs.Keeping.{step_length, lent_total, fresh_refusal, kept, choice}

-- a length or a total, where there is one
abbrev pub held : code.Option ℕ → Option ℕ
held None = none
held (Some a) = some a

-- the shortest length met so far, where one is: no arc that is listed is down
abbrev pub met : ℕ → code.Option ℕ
met d = if eqb d down then None else Some d

-- a step out of a node below n
abbrev pub step_from : Table → (u v : ℕ) → Option ℕ
step_from t u v = cond (ltb u t.n) (step_length t u v) none

-- the answer, where the code says whether the standing list is kept, or refuses
abbrev pub answer : Result Bool Refusal → (standing fresh : List ℕ) → Kept
answer (Ok true) standing fresh = kept 0 0 1 (length standing)
answer (Ok false) standing fresh = kept 0 0 0 (length fresh)
answer (Err r) standing fresh = kept (number r.fault) r.place 0 0

-- what is answered by a table that is not refused: 15, or one of the lists
unfoldable pub chosen : Table → (standing fresh : List ℕ) → Kept
chosen t standing fresh = cond (eqb (fresh_refusal (lent_total t fresh)).number 0) (choice t standing fresh) (kept 15 0 0 0)
