-- The answer that is handed over, as the definitions have it. Assumes nothing: these are definitions.
use Rattle.std.specs.Prelude.{List, ℕ}
use Rattle.auction.specs.HandOver.{Answer, answer}
use Rattle.hand_over.specs.declared.Buffers.{Buffers}
use Rattle.hand_over.specs.declared.Planned.{Planned}

-- the code's answer, with what it left in the buffers
unfoldable pub answered : Planned → (distances prices tree marks : List ℕ) → Answer
answered r = answer r.number r.place r.reached r.horizon r.iterations r.contractions r.extensions r.deletions r.scans

-- the same, with what is left in buffers that travel together
abbrev pub answered_in : Planned → Buffers → Answer
answered_in r b = answered r b.distances.now b.prices.now b.tree.now b.marks.now

-- the code's answer where nothing is planned: a refusal's number and place, all else 0
abbrev pub nothing_planned : (number place : ℕ) → Planned
nothing_planned n p =
    record { number = n; place = p; reached = 0; horizon = 0; iterations = 0; contractions = 0; extensions = 0; deletions = 0; scans = 0 }
