-- How many arcs have each mark, as the code counts them. Assumes nothing: these are definitions.
use Rattle.std.specs.Prelude.{◌≡◌, List, ◌∷◌, ℕ, ◌^◌, ◌<◌}
use Rattle.auction.specs.HandOver.{how_many}
use Rattle.mark_tally.specs.declared.Tally.{Tally}

unfoldable pub tally_of : (marks : List ℕ) → Tally
tally_of ms = record { unreached = how_many 0 ms; dropped = how_many 1 ms; kept = how_many 2 ms; tree = how_many 3 ms }

-- ONE MORE IS COUNTED: of a tally of some marks comes the tally of these behind another one
abbrev pub Counts : (mark : ℕ) → (tally longer : Tally) → Type 0
Counts m tally longer = (ms : List ℕ) → tally ≡ tally_of ms → longer ≡ tally_of (m ∷ ms)

-- a count can grow by one
pub record Roomy (tally : Tally) : Type 0 where
  pub unreached_small : tally.unreached < 2 ^ 63
  pub dropped_small : tally.dropped < 2 ^ 63
  pub kept_small : tally.kept < 2 ^ 63
  pub tree_small : tally.tree < 2 ^ 63
