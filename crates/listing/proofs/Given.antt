-- Where a listing is not refused: the node was given a walk, and what is listed are the nodes that are promised. Assumes nothing.
use mathlib.Core.Path.{◌≡◌, refl, sym, ap, subst, ◌∙◌}
use mathlib.Core.Bool.{true, false}
use mathlib.Core.List.{List, []}
use mathlib.Core.Logic.{◌⊎◌, ⊎_elim}
use mathlib.Core.Option.{none}
use Prim.Native.Nat.{ℕ, zero, suc, ◌^◌, ◌≤◌, ◌<◌}
use native.Mathlib.Omega.{arith}
use lib.ListN.{length}
use Rattle.std.proofs.lemmas.Bool.{cases_Bool, cases_eq, cases_lt}
use Rattle.table.specs.Table.{table, table_of, Below}
use Rattle.auction.specs.HandOver.{Answer}
use Rattle.auction.specs.Plan.{plan, routes_of}
use Rattle.auction.specs.Demands.{Given, link_of}
use Rattle.auction.proofs.Made.{made}
use Rattle.auction.proofs.Demanded.{origin_given, linked_given}
use Rattle.listing.specs.Listing.{Tree, tree_in, node_count, entry, leads_back, back_to, path, nodes_of, Listing, refused, listed, early_of, listing}
use Rattle.listing.proofs.Entries.{leads, not_back}
use Rattle.listing.proofs.Answers.{refused_early, without_path}

-- a node that lists and is not the origin has an entry that leads back
no_way : (left o : ℕ) (k : Tree) (v : ℕ) (passed : List ℕ) → (v ≡ o → ⊥) → leads_back k v ≡ false → back_to left o k v passed ≡ none
unfolding back_to
no_way zero o k v passed d b = refl
no_way (suc left) o k v passed d b = not_back left o k v passed d b

lists_back : (o v : ℕ) (k : Tree) (room : ℕ) → (listing o v k room).number ≡ 0 → (v ≡ o → ⊥) → leads_back k v ≡ true
unfolding refused path nodes_of
lists_back o v k room z d =
    ⊎_elim (λ (b : leads_back k v ≡ true). b)
    (λ (b : leads_back k v ≡ false).
    let empty = ap (λ p. length (nodes_of p)) (no_way (node_count k) o k v [] d b) in
    absurd
    (⊎_elim (λ (early : early_of o v k ≡ 0). omega (arith, z, ap (λ (l : Listing). l.number) (without_path o v k room early empty)))
    (λ (early : early_of o v k ≡ 0 → ⊥). early (sym (ap (λ (l : Listing). l.number) (refused_early o v k room early)) ∙ z))
    (cases_eq (early_of o v k) 0)))
    (cases_Bool (leads_back k v))

-- and so it was given a walk: a node without one has no link
pub listed_given : (n o : ℕ) (ts hs ls ws ds ps tr ms : List ℕ) (v room : ℕ) →
    let a = plan n o ts hs ls ws ds ps tr ms in
    Below (2 ^ 32) ls → (a.number ≡ 0) ⊎ (a.number ≡ 8) → (listing o v (tree_in ts hs a.tree) room).number ≡ 0 → Given a v
unfolding entry link_of table_of table
listed_given n o ts hs ls ws ds ps tr ms v room low number z =
    let m = made n o ts hs ls ws ds ps tr ms low number in
    let t = table_of n o ts hs ls in
    let a = routes_of t ws in
    let ok = m.fine.table_good in
    let there : (listing o v (tree_in ts hs a.tree) room).number ≡ 0 =
    subst (λ (b : Answer). (listing o v (tree_in ts hs b.tree) room).number ≡ 0) m.routes z in
    subst (λ (b : Answer). Given b v) (sym m.routes)
    (⊎_elim (λ (s : v ≡ o). subst (Given a) (sym s) (origin_given t ws ok))
    (λ (d : v ≡ o → ⊥).
    let k = tree_in ts hs a.tree in
    linked_given t ws ok v (λ q. omega (arith, (leads k v (lists_back o v k room there d)).listed, q, m.fine.few_arcs)))
    (cases_eq v o))

-- what is listed, where these nodes are listed wherever there is room for them
pub only_listed : (l : (room : ℕ) → Listing) (vs : List ℕ) → ((room : ℕ) → length vs ≤ room → l room ≡ listed vs) →
    ((room : ℕ) → room < length vs → l room ≡ refused 13) → (room : ℕ) → (l room).number ≡ 0 → (l room).nodes ≡ vs
unfolding listed refused
only_listed l vs roomy short room z =
    ⊎_elim (λ (h : room < length vs). absurd (omega (arith, z, ap (λ (m : Listing). m.number) (short room h))))
    (λ (h : length vs ≤ room). ap (λ (m : Listing). m.nodes) (roomy room h))
    (cases_lt room (length vs))
