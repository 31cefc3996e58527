-- The records to the end of the file: one more, none left, one too many; and no more of them than are allowed. Assumes nothing.
use mathlib.Core.List.{List, [], ◌∷◌}
use mathlib.Core.Option.{Option, some}
use mathlib.Core.Path.{◌≡◌, refl}
use Prim.Native.Nat.{ℕ, zero, suc, ◌≤◌, ◌<◌}
use native.Mathlib.Omega.{arith}
use lib.ListN.{length}
use Rattle.table.specs.Table.{Arc, most_arcs}
use Rattle.link_format.specs.Reading.{◌>>=◌, Outcome, got, refused, list_got, and_then, give, read_record, read_records}

-- one arc in front of the rest
abbrev pub in_front : Arc → Outcome (List Arc) → Outcome (List Arc)
in_front a rest = and_then rest (λ (more : List Arc). give (a ∷ more))

pub records_none : (k : ℕ) (before : Option Arc) (at : ℕ) → read_records k before at [] ≡ got [] at []
unfolding read_records
records_none zero before at = refl
records_none (suc k) before at = refl

pub records_full : (before : Option Arc) (at : ℕ) (rest : List ℕ) → 0 < length rest → read_records 0 before at rest ≡ refused 2 most_arcs
unfolding read_records
records_full before at [] h = absurd (omega arith)
records_full before at (b ∷ rest) h = refl

pub records_more : (k : ℕ) (before : Option Arc) (at : ℕ) (rest : List ℕ) → 0 < length rest
    → read_records (suc k) before at rest
    ≡ and_then (read_record before at rest) (λ (a : Arc) (next : ℕ) (tl : List ℕ). in_front a (read_records k (some a) next tl))
unfolding read_records ◌>>=◌
records_more k before at [] h = absurd (omega arith)
records_more k before at (b ∷ rest) h = refl

-- no more records than are allowed
one_then : (k : ℕ) (a : Arc) (o : Outcome (List Arc)) → length (list_got o) ≤ k → length (list_got (and_then o (λ (more : List Arc). give (a ∷ more)))) ≤ suc k
unfolding list_got and_then give
one_then k a (got more next tl) h = omega arith
one_then k a (refused n p) h = omega arith

one_more : (k : ℕ) → ((a : Arc) (at : ℕ) (rest : List ℕ) → length (list_got (read_records k (some a) at rest)) ≤ k) → (o : Outcome Arc)
    → length (list_got (and_then o (λ (a : Arc). ◌>>=◌ (read_records k (some a)) (λ (more : List Arc). give (a ∷ more))))) ≤ suc k
unfolding list_got and_then ◌>>=◌
one_more k few (got a next tl) = one_then k a (read_records k (some a) next tl) (few a next tl)
one_more k few (refused n p) = omega arith

pub few_records : (k : ℕ) (before : Option Arc) (at : ℕ) (rest : List ℕ) → length (list_got (read_records k before at rest)) ≤ k
unfolding read_records list_got
few_records zero before at [] = omega arith
few_records zero before at (b ∷ rest) = omega arith
few_records (suc k) before at [] = omega arith
few_records (suc k) before at (b ∷ rest) = one_more k (λ (a : Arc). few_records k (some a)) (read_record before at (b ∷ rest))
