-- Listing a path: the nodes from the origin to a node, found by following tree arcs back, and when a listing is refused.
-- Assumes nothing: these are definitions.
use Rattle.std.specs.Prelude.{◌≡◌, Bool, ◌&&◌, cond, List, [], ◌∷◌, ◌++◌, ℕ, zero, suc, ltb, leb, eqb, length, get_or, drop}
use Rattle.std.proofs.Math.Option.{Option, none, some}
use Rattle.table.specs.Table.{no_arc}
use Rattle.table.specs.Refusals.{count_bad, columns_bad}
use Rattle.table.specs.Slices.{Slice, was, Buffer, had, left}
use Rattle.listing.specs.declared.Listed.{Listed}

-- What a listing goes by: the arcs' tails and heads, and a tree column, which has an entry for each node (a predecessor arc, in the field's terms).
pub record Tree : Type 0 where
  pub tails : List ℕ
  pub heads : List ℕ
  pub column : List ℕ

-- a tree of these columns
abbrev pub tree_in : (tails heads column : List ℕ) → Tree
tree_in ts hs c = record { tails = ts; heads = hs; column = c }

-- the same of the slices that are lent
abbrev pub lent_tree : (tails heads column : Slice) → Tree
lent_tree ts hs c = tree_in (was ts) (was hs) (was c)

-- how many nodes there are: as many as the tree column has entries
abbrev pub node_count : Tree → ℕ
node_count k = length k.column

-- a node's entry, the position of the arc by which a path comes to it, and that arc's tail, the node before it on the path
unfoldable pub entry : Tree → (v : ℕ) → ℕ
entry k v = get_or k.column v no_arc

unfoldable pub node_before : Tree → (v : ℕ) → ℕ
node_before k v = get_or k.tails (entry k v) 0

-- whether a node's entry leads back: it is an arc's position, the arc's head is the node, and its tail is below n
unfoldable pub leads_back : Tree → (v : ℕ) → Bool
leads_back k v =
    (ltb (entry k v) (length k.tails) && eqb (get_or k.heads (entry k v) 0) v) && ltb (node_before k v) (node_count k)

-- Back from a node until the origin: the nodes from the origin to v, and after them those passed before. None where an entry on the way does not
-- lead back, or where the way has more than `left` nodes. The origin's own entry is not looked at.
unfoldable pub back_to : (left origin : ℕ) → Tree → (v : ℕ) → (passed : List ℕ) → Option (List ℕ)
back_to zero o k v passed = none
back_to (suc l) o k v passed =
    cond (eqb v o) (some (v ∷ passed)) (cond (leads_back k v) (back_to l o k (node_before k v) (v ∷ passed)) none)

-- THE PATH: at most n nodes, which are joined by at most n − 1 arcs; none where it is refused by 14
unfoldable pub path : (origin node : ℕ) → Tree → Option (List ℕ)
path o v k = back_to (node_count k) o k v []

-- a path's nodes; none where there is no path
unfoldable pub nodes_of : Option (List ℕ) → List ℕ
nodes_of none = []
nodes_of (some vs) = vs

-- WHAT A LISTING GIVES: a refusal's number, 0 where there is none, and the nodes listed
pub record Listing : Type 0 where
  pub number : ℕ
  pub nodes : List ℕ

-- a refusal lists nothing
unfoldable pub refused : (number : ℕ) → Listing
refused a = record { number = a; nodes = [] }

-- these nodes, and no refusal
unfoldable pub listed : (nodes : List ℕ) → Listing
listed vs = record { number = 0; nodes = vs }

-- 1, 2, 4 and 5, the origin and the node not below n, in this order: the refusal's number, 0 where there is none
unfoldable pub early_number : (n tails heads origin node : ℕ) → ℕ
early_number n a b o v = cond (count_bad n) 1 (cond (columns_bad a b b) 2 (cond (leb n o) 4 (cond (leb n v) 5 0)))

-- the same of a tree
unfoldable pub early_of : (origin node : ℕ) → Tree → ℕ
early_of o v k = early_number (node_count k) (length k.tails) (length k.heads) o v

-- 14, then 13: no path, or one with more nodes than the out buffer has room for
unfoldable pub into : (room : ℕ) → Option (List ℕ) → Listing
into room none = refused 14
into room (some vs) = cond (ltb room (length vs)) (refused 13) (listed vs)

-- THE LISTING, its refusals in the order 1, 2, 4, 5, 14, 13
unfoldable pub listing : (origin node : ℕ) → Tree → (room : ℕ) → Listing
listing o v k room = cond (eqb (early_of o v k) 0) (into room (path o v k)) (refused (early_of o v k))

-- A listing as list_path gives it: its answer, and what the out buffer holds before and after the call. The nodes listed stand at the buffer's start and
-- the rest is as it was; a refusal lists none, so the whole buffer is. No refusal of a listing names a place.
pub record Lists (l : Listing) (answer : Listed) (output_before output_after : List ℕ) : Type 0 where
  pub number : answer.number ≡ l.number
  pub place : answer.place ≡ 0
  pub count : answer.count ≡ length l.nodes
  pub output : output_after ≡ l.nodes ++ drop (length l.nodes) output_before

-- THE CONTRACT of list_path, of the slices that are lent
abbrev pub ListsPath : (origin node : ℕ) → (tails heads tree : Slice) → (output : Buffer) → Listed → Type 0
ListsPath o v ts hs k out r = Lists (listing o v (lent_tree ts hs k) (length (had out))) r (had out) (left out)
