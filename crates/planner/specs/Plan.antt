-- How the answer of plan_routes and the four buffers that it left are compared with the plan of crates/auction/specs/Plan.antt, and those of
-- plan_to_collector with the plan of crates/collector/specs/Plan.antt. Assumes nothing: these are definitions.
use Rattle.std.specs.Prelude.{◌≡◌, List, ℕ}
use Rattle.auction.specs.Plan.{plan}
use Rattle.collector.specs.Plan.{plan_to_collector}
use Rattle.table.specs.Slices.{Slice, was, Buffer, had, left}
use Rattle.hand_over.specs.declared.Planned.{Planned}
use Rattle.hand_over.specs.Answered.{answered}

-- THE ANSWER IS THE PLAN, with what the buffers held before and what is left in them
abbrev pub PlanMade : (n origin : ℕ) →
    (tails heads lengths wanted distances prices tree marks distances' prices' tree' marks' : List ℕ) → Planned → Type 0
PlanMade n o ts hs ls ws ds ps tr ms ds' ps' tr' ms' r = answered r ds' ps' tr' ms' ≡ plan n o ts hs ls ws ds ps tr ms

-- and as a contract says it, of the slices that are lent
abbrev pub Plans : (n origin : ℕ) → (tails heads lengths wanted : Slice) → (distances prices tree marks : Buffer) → Planned → Type 0
Plans n o ts hs ls ws ds ps tr ms r =
    PlanMade n o (was ts) (was hs) (was ls) (was ws) (had ds) (had ps) (had tr) (had ms) (left ds) (left ps) (left tr) (left ms) r

-- THE ANSWER IS THE PLAN TO A COLLECTOR, of the slices that are lent
abbrev pub PlansToCollector : (n collector : ℕ) → (tails heads lengths senders : Slice) → (distances prices tree marks : Buffer) → Planned → Type 0
PlansToCollector n c ts hs ls ss ds ps tr ms r =
    answered r (left ds) (left ps) (left tr) (left ms)
    ≡ plan_to_collector n c (was ts) (was hs) (was ls) (was ss) (had ds) (had ps) (had tr) (had ms)
