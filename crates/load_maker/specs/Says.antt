-- What the code's own values say of a load. Assumes nothing: these are definitions.
use Rattle.std.specs.Prelude.{List, ℕ, Result, Ok, Err}
use Rattle.table.specs.Table.{Arc}
use Rattle.table.specs.Told.{tells}
use Rattle.table.specs.declared.faults.Refusal.{Refusal}
use Rattle.test_load.specs.Load.{load}
use Rattle.test_load.specs.Making.{made}
use Rattle.test_load.specs.declared.Made.{Made}
use Rattle.load_maker.specs.declared.arcs.Recipe.{Recipe}

-- the load of a recipe
abbrev pub load_of : Recipe → List Arc
load_of r = load r.n r.seed r.chance r.largest

-- the answer to so many arcs, or to a refusal
abbrev pub made_answer : Result ℕ Refusal → Made
made_answer (Ok m) = record { number = 0; place = 0; arcs = m }
made_answer (Err r) = made (tells r) 0
