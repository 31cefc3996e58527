-- A REFUSAL AS A CALLER IS TOLD IT: its fault's number and its place. Assumes nothing: these are definitions.
use Rattle.std.specs.Prelude.{ℕ, Result, Ok, Err}
use Rattle.table.specs.declared.faults.Fault.{Fault}
use Rattle.table.specs.declared.faults.Fault.TheVariants.{NodeCount, Columns, Buffers, Origin, Wanted, ArcEnd, ArcLength, NoRoute, Cut, BitMap, ImpliedHead, Needless, Room, NoPath, NoWalk, LoadRange, LoadSize}
use Rattle.table.specs.declared.faults.Refusal.{Refusal}
use Rattle.table.specs.Refusals as told_as
use Rattle.table.specs.Refusals.{refusal, no_refusal}

abbrev pub number : Fault → ℕ
number NodeCount = 1
number Columns = 2
number Buffers = 3
number Origin = 4
number Wanted = 5
number ArcEnd = 6
number ArcLength = 7
number NoRoute = 8
number Cut = 9
number BitMap = 10
number ImpliedHead = 11
number Needless = 12
number Room = 13
number NoPath = 14
number NoWalk = 15
number LoadRange = 16
number LoadSize = 17

-- one refusal, and that of an answer: none where there is a value
abbrev pub tells : Refusal → told_as.Refusal
tells r = refusal (number r.fault) r.place

abbrev pub told : {T : Type 0} → Result T Refusal → told_as.Refusal
told (Ok x) = no_refusal
told (Err r) = tells r
