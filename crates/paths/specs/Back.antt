-- A listing as it is made at first: from the node back to the origin. Assumes nothing: this is a definition.
use Rattle.std.specs.Prelude.{◌≡◌, List, [], ◌++◌, reverse, ℕ, length, drop, Result, MatchResult}
use Rattle.table.specs.declared.faults.Refusal.{Refusal}
use Rattle.table.specs.Refusals.{refusal}
use Rattle.table.specs.Told.{told}
use Rattle.listing.specs.Listing.{Listing}

-- The nodes stand at the output's start, the last of the listing first, and the rest is as it was; a refusal, which names no place, lists none.
pub record ListsBack (l : Listing) (counted : Result ℕ Refusal) (output_before output_after : List ℕ) : Type 0 where
  pub told : told counted ≡ refusal l.number 0
  pub count : MatchResult counted (λ count. count ≡ length l.nodes) (λ _. l.nodes ≡ [])
  pub output : output_after ≡ reverse l.nodes ++ drop (length l.nodes) output_before
