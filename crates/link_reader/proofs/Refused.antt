-- What a refusal that is told says of reading. Assumes nothing.
use mathlib.Core.Path.{◌≡◌, ap}
use Prim.Native.Nat.{ℕ}
use Rattle.table.specs.Refusals.{refusal}
use Rattle.table.specs.Told.{number, tells}
use Rattle.table.specs.Refusals as as_told
use Rattle.table.specs.declared.faults.Refusal.{Refusal}
use Rattle.link_format.specs.Reading.{Outcome, refused}

-- an outcome that is refused, by a refusal that tells that number and place
pub refused_as : {A : Type 0} {o : Outcome A} (r : Refusal) {n p : ℕ} → tells r ≡ refusal n p → o ≡ refused n p → o ≡ refused (number r.fault) r.place
unfolding refusal
refused_as r e h =
    let same_number : number r.fault ≡ _ = ap (λ (t : as_told.Refusal). t.number) e in
    let same_place : r.place ≡ _ = ap (λ (t : as_told.Refusal). t.place) e in
    rw (same_number, same_place) h
