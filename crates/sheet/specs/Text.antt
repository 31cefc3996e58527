-- Texts as lists of bytes. Assumes nothing: these are definitions.
use Rattle.std.specs.Prelude.{cond, List, [], ◌∷◌, ◌++◌, ℕ, zero, suc, ◌^◌, ltb}
use Prim.Native.String as string
use Prim.Native.Char as char
use Rattle.io.specs.Digits.{last_digits}

-- the bytes of a text in ASCII
abbrev pub text : string.String → List ℕ
text string.[] = []
text (string.◌∷◌ c more) = char.code c ∷ text more

-- how many decimal digits a number below 2⁶⁴ has, and the digits
unfoldable pub places_from : (left k n : ℕ) → ℕ
places_from zero k n = k
places_from (suc l) k n = cond (ltb n (10 ^ k)) k (places_from l (suc k) n)

unfoldable pub places : (n : ℕ) → ℕ
places n = places_from 19 1 n

unfoldable pub decimal : (n : ℕ) → List ℕ
decimal n = last_digits 10 (places n) n

-- the numbers behind one another, each after a space
unfoldable pub spaced : (before numbers : List ℕ) → List ℕ
spaced line [] = line
spaced line (a ∷ more) = spaced (line ++ text " " ++ decimal a) more
