-- Listing a path to a collector: the nodes from a node to the collector, found by following tree arcs onward. It is the listing of the tree with tails and
-- heads exchanged, turned round; so an entry leads on where it is an arc's position, the arc's tail is the node, and its head is below n. Assumes nothing:
-- these are definitions.
use Rattle.std.specs.Prelude.{reverse, ℕ, length}
use Rattle.table.specs.Slices.{Slice, Buffer, had, left}
use Rattle.listing.specs.declared.Listed.{Listed}
use Rattle.listing.specs.Listing.{Tree, tree_in, lent_tree, Listing, listing, Lists}

abbrev pub exchanged_tree : Tree → Tree
exchanged_tree k = tree_in k.heads k.tails k.column

-- the same nodes backwards
unfoldable pub turned_round : Listing → Listing
turned_round l = record { number = l.number; nodes = reverse l.nodes }

-- THE LISTING TO A COLLECTOR, its refusals in the order 1, 2, 4 (the collector), 5, 14, 13
unfoldable pub listing_to_collector : (collector node : ℕ) → Tree → (room : ℕ) → Listing
listing_to_collector c v k room = turned_round (listing c v (exchanged_tree k) room)

-- THE CONTRACT of list_to_collector, of the slices that are lent
abbrev pub ListsToCollector : (collector node : ℕ) → (tails heads tree : Slice) → (output : Buffer) → Listed → Type 0
ListsToCollector c v ts hs k out r = Lists (listing_to_collector c v (lent_tree ts hs k) (length (had out))) r (had out) (left out)
