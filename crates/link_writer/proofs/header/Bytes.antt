-- The bytes of a header and of its wanted list. Assumes nothing.
use mathlib.Core.Bool.{Bool, true, false}
use mathlib.Core.List.{List, [], ◌∷◌, ◌++◌}
use mathlib.Core.Path.{◌≡◌, refl}
use Prim.Native.Nat.{ℕ, ◌+◌, ◌*◌, ◌≤◌, ◌<◌}
use native.Mathlib.Numerals.{add-one}
use native.Mathlib.Omega.{arith}
use mir.Val.{bool_byte}
use lib.ListN.{length, drop, get_or, length-append, drop_of_length-le}
use lib.Seq.{drop-cons}
use Rattle.std.specs.Prelude.{◌==◌}
use Rattle.std.specs.List.{list_all, enumerate_from}
use Rattle.link_format.specs.Format.{bytes, field_bytes, counts_from, nodes_bytes, wanted_bytes, header_bytes}
use Rattle.link_format.proofs.BitMaps.{MadeOf, made_of}
use Rattle.link_format.proofs.Numbers.{length_bytes}
use Rattle.link_fields.specs.Fields.{byte_of}
use Rattle.link_writer.specs.Says.{bytes_of}
use Rattle.link_writer.specs.declared.header.FileHeader.{FileHeader}

-- a list that counts up, by each of its nodes
pub each_in_place : (i : ℕ) (ws : List ℕ) → list_all (λ (p : ℕ × ℕ). p.1 == p.0) (enumerate_from i ws) ≡ counts_from i ws
unfolding counts_from
each_in_place i [] = refl
each_in_place i (w ∷ ws) = rw (each_in_place (i + 1) ws, add-one i)

-- a header's pieces
pub header_pieces : (h : FileHeader) → bytes_of h
    ≡ byte_of h.map ∷ (bytes 2 h.n ++ (field_bytes h.map.second 2 h.origin ++ wanted_bytes h.map.third h.wanted.now))
unfolding header_bytes
header_pieces h =
    let m : MadeOf h.map.first h.map.second h.map.third = made_of h.map.first h.map.second h.map.third in
    rw (← h.canonical, m.second_bit, m.third_bit)

length_nodes : (ws : List ℕ) → length (nodes_bytes ws) ≡ 2 * length ws
unfolding nodes_bytes bytes
length_nodes [] = refl
length_nodes (w ∷ ws) = let ih : length (nodes_bytes ws) ≡ 2 * length ws = length_nodes ws in omega arith

pub length_wanted : (stands : Bool) (ws : List ℕ) → length (wanted_bytes stands ws) ≡ bool_byte stands * (2 + 2 * length ws)
unfolding wanted_bytes
length_wanted true ws = omega (arith, length-append (bytes 2 (length ws)) (nodes_bytes ws), length_bytes 2 (length ws), length_nodes ws)
length_wanted false ws = omega arith

-- the nodes that are left to put: one, and those behind it; or none
pub more_nodes : (ws : List ℕ) (i : ℕ) → i < length ws → nodes_bytes (drop i ws) ≡ bytes 2 (get_or ws i 0) ++ nodes_bytes (drop (i + 1) ws)
unfolding nodes_bytes
more_nodes ws i h = rw (add-one i, drop-cons ws i 0 h)

pub no_nodes : (ws : List ℕ) (i : ℕ) → length ws ≤ i → nodes_bytes (drop i ws) ≡ []
unfolding nodes_bytes
no_nodes ws i h = rw (drop_of_length-le ws h)
