-- One number more, after a space. Assumes nothing.
use mathlib.Core.Path.{◌≡◌, refl, ◌∙◌}
use mathlib.Core.List.{List, [], ◌∷◌, ◌++◌}
use Prim.Native.Nat.{ℕ, ◌+◌, ◌<◌}
use native.Mathlib.Numerals.{add-one}
use lib.ListN.{length, get_or, take}
use lib.Seq.{take-suc}
use Rattle.sheet.specs.Text.{text, decimal, spaced}
use Rattle.sheet_lines.specs.declared.text.Line.{Line}
use Rattle.sheet_lines.specs.Buffers.{Extends, PutsSpaced}

behind : (line xs : List ℕ) (a : ℕ) → spaced line (xs ++ a ∷ []) ≡ spaced line xs ++ text " " ++ decimal a
unfolding spaced
behind line [] a = refl
behind line (x ∷ xs) a = behind (line ++ text " " ++ decimal x) xs a

pub none_spaced : (line : Line) → PutsSpaced [] line line
unfolding spaced
none_spaced line = record { same = refl; long = refl; begins = λ with before b. b }

pub one_spaced : (nodes : List ℕ) (i : ℕ) (old line longer : Line) → i < length nodes → PutsSpaced (take i nodes) old line →
    Extends (λ with. with ++ text " " ++ decimal (get_or nodes i 0)) line longer → PutsSpaced (take (i + 1) nodes) old longer
one_spaced nodes i old line longer h so_far more =
    let next : take (i + 1) nodes ≡ take i nodes ++ get_or nodes i 0 ∷ [] = rw add-one (take-suc nodes i 0 h) in
    record {
      same = more.same ∙ so_far.same;
      long = more.long ∙ so_far.long;
      begins = λ with before b. rw (next, behind with (take i nodes) (get_or nodes i 0)) (more.begins _ before (so_far.begins with before b));
    }
