-- The number that a word writes, and what `parse` reads in it. Assumes nothing.
use mathlib.Core.Path.{◌≡◌, refl, ◌∙◌}
use mathlib.Core.Bool.{Bool, true, false, ◌&&◌}
use mathlib.Core.List.{List, [], ◌∷◌, map}
use mathlib.Core.Logic.{⊎_elim}
use Prim.Native.Nat.{ℕ, suc, ◌^◌, ◌<◌, ◌≤◌}
use native.Mathlib.Omega.{arith}
use lib.Dec.{ltb}
use lib.ListN.{length, length-map, get_or, get_or-map, drop, drop_of_length-le}
use lib.Seq.{drop-cons}
use borrow.Author.Tests.{lt-ltb, ltb-true}
use Rattle.std.specs.Prelude.{Result, Ok, Err, Some, None}
use Rattle.std.specs.Result.{result_ok}
use Rattle.std.specs.Str.{all_ascii_digits}
use Rattle.std.specs.Str.Parse.{IsNumeral, ParsesUnsigned, without_leading_plus, digits_value}
use Rattle.std.proofs.lemmas.Bool.{cases_Bool, and_parts}
use Rattle.std.proofs.lemmas.Option.{cond_some}
use Rattle.std.proofs.lemmas.Str.Parse.{IsNumeralModel, numerals_by_value, tells_all_ascii_digits}
use Rattle.load_file.specs.LoadFile.{number_in, load_file_in}

-- digits are tested as the library tests them
digits_tested : IsNumeralModel (λ (ds : List ℕ). all_ascii_digits ds ≡ true) (digits_value 10)
digits_tested = numerals_by_value _ tells_all_ascii_digits

module _ (b : ℕ) (w : List ℕ) where
  abbrev digits : List ℕ
  digits = without_leading_plus w

  abbrev Writes : Type 0
  Writes = IsNumeral 10 digits × (digits_value 10 digits < b)

  -- a word that writes a number below the bound, and one that does not
  written : Writes → number_in b w ≡ Some (digits_value 10 digits)
  unfolding number_in
  written h = rw (lt-ltb 0 (length digits) h.0.0, digits_tested.from digits h.0.1, lt-ltb (digits_value 10 digits) b h.1) refl

  abbrev test : Bool
  test = (ltb 0 (length digits) && all_ascii_digits digits) && ltb (digits_value 10 digits) b

  passes : test ≡ true → Writes
  passes h =
      let outer = and_parts (ltb 0 (length digits) && all_ascii_digits digits) (ltb (digits_value 10 digits) b) h in
      let inner = and_parts (ltb 0 (length digits)) (all_ascii_digits digits) outer.0 in
      ((ltb-true 0 (length digits) inner.0, digits_tested.to digits inner.1), ltb-true (digits_value 10 digits) b outer.1)

  unwritten : (Writes → ⊥) → number_in b w ≡ None
  unfolding number_in
  unwritten d = ⊎_elim (λ (h : test ≡ true). absurd (d (passes h))) (λ (h : test ≡ false). rw h refl) (cases_Bool test)

-- what `parse` reads, if it reads a number
pub parsed : {E : Type 0} (k : ℕ) (w : List ℕ) (r : Result ℕ E) → ParsesUnsigned k 10 w r → number_in (2 ^ k) w ≡ result_ok r
parsed k w (Ok x) h = written (2 ^ k) w h.0 ∙ rw h.1 refl
parsed k w (Err e) h = unwritten (2 ^ k) w h

-- THE WORDS of the code's own texts: each by its position, and how many there are
module _ {A : Type 0} (f : A → List ℕ) where
  pub word_at : (ws : List A) (i : ℕ) (a : A) {w : List ℕ} → i < length ws → a ≡ get_or ws i a → w ≡ f a →
      drop i (map f ws) ≡ w ∷ drop (suc i) (map f ws)
  word_at ws i a inside e g =
      drop-cons (map f ws) i (f a) (rw (length-map ws f) inside) ∙ rw (g, get_or-map f ws i a, ← e)

  pub no_more : (ws : List A) (k : ℕ) → length ws ≤ k → drop k (map f ws) ≡ []
  no_more ws k end = drop_of_length-le (map f ws) (rw (length-map ws f) end)

  pub too_few : (ws : List A) → length ws < 4 → None ≡ load_file_in (map f ws)
  unfolding load_file_in
  too_few [] h = refl
  too_few (a ∷ []) h = refl
  too_few (a ∷ b ∷ []) h = refl
  too_few (a ∷ b ∷ c ∷ []) h = refl
  too_few (a ∷ b ∷ c ∷ d ∷ ws) h = absurd (omega arith)

  pub too_many : (ws : List A) → 6 ≤ length ws → None ≡ load_file_in (map f ws)
  unfolding load_file_in
  too_many [] h = absurd (omega arith)
  too_many (a ∷ []) h = absurd (omega arith)
  too_many (a ∷ b ∷ []) h = absurd (omega arith)
  too_many (a ∷ b ∷ c ∷ []) h = absurd (omega arith)
  too_many (a ∷ b ∷ c ∷ d ∷ []) h = absurd (omega arith)
  too_many (a ∷ b ∷ c ∷ d ∷ e ∷ []) h = absurd (omega arith)
  too_many (a ∷ b ∷ c ∷ d ∷ e ∷ g ∷ ws) h = refl

-- a number that is read is below its bound
pub below : (b : ℕ) (w : List ℕ) (x : ℕ) → number_in b w ≡ Some x → x < b
unfolding number_in
below b w x e = let found = cond_some (test b w) (digits_value 10 (digits b w)) x e in rw found.1 at (passes b w found.0).1
