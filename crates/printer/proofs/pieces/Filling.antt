-- The loop that fills a piece, and the pieces one after the other. Assumes nothing.
use mathlib.Core.Path.{◌≡◌, refl, sym, ap, ◌∙◌}
use mathlib.Core.List.{List, [], ◌∷◌, ◌++◌, append_assoc}
use mathlib.Core.Logic.{⊎_elim}
use Prim.Native.Nat.{ℕ, suc, ◌+◌, ◌-◌, ◌≤◌, ◌<◌}
use native.Mathlib.Omega.{arith}
use Rattle.std.proofs.Common.{None, Some}
use Rattle.std.proofs.lemmas.Bool.{cases_eq}
use lib.ListN.{length, take, drop, length-append, length-drop}
use lib.Seq.{take_at, length-take-le}
use borrow.Rule.Slice.PartMut.{mid_of, post_of, put_mid, same_len_mid}
use Rattle.sheet.specs.Sheet.{Finished}
use Rattle.sheet.specs.Printed.{joined}
use Rattle.sheet_lines.specs.Buffers.{Begins}
use Rattle.printer.specs.declared.plan.Cursor.{Cursor}
use Rattle.printer.specs.declared.plan.Piece.{Piece}
use Rattle.printer.specs.Lines.{rest, Gives}

-- A piece is being filled: it was begun at the cursor `from`, has `at` bytes, and goes on at the cursor `next`.
pub record Filling (p : Finished) (from : Cursor) (before out : List ℕ) (at : ℕ) (next : Cursor) : Type 0 where
  -- the buffer is as long as it was, and the bytes are inside it
  pub same : length out ≡ length before
  pub inside : at ≤ length out
  -- the bytes, followed by the lines still to come, are the lines that were to come
  pub joins : joined (rest p from) ≡ take at out ++ joined (rest p next)
  -- with a byte there is a line fewer to come, and without one nothing has been put
  pub fewer : 0 < at → length (rest p next) < length (rest p from)
  pub nothing_yet : at ≡ 0 → next ≡ from

-- A LINE THAT WAS PUT is the first of those that were to come, and the others are to come from the next cursor on.
pub record Advance (p : Finished) (from : Cursor) (piece : Piece) (before after : List ℕ) : Type 0 where
  pub line : List ℕ
  pub begins : Begins line before after piece.count
  pub some : 0 < piece.count
  pub first : rest p from ≡ line ∷ rest p piece.next

given : (p : Finished) (lines : List (List ℕ)) (from : Cursor) (piece : Piece) (b a : List ℕ) → rest p from ≡ lines → Gives p lines (Some piece) b a →
    Advance p from piece b a
unfolding Gives
given p [] from piece b a e g = absurd g
given p (l ∷ later) from piece b a e g =
    record { line = l; begins = g.begins; some = g.some; first = e ∙ ap (λ (ls : List (List ℕ)). l ∷ ls) (sym g.leads) }

pub none_given : (p : Finished) (lines : List (List ℕ)) (b a : List ℕ) → Gives p lines None b a → lines ≡ []
unfolding Gives
none_given p [] b a g = refl
none_given p (l ∷ later) b a g = absurd g

pub fewer_given : (p : Finished) (from : Cursor) (piece : Piece) (b a : List ℕ) → Gives p (rest p from) (Some piece) b a →
    length (rest p piece.next) < length (rest p from)
fewer_given p from piece b a g = omega (arith, ap length (given p (rest p from) from piece b a refl g).first)

-- a line put behind what the buffer holds
module _ (out part line : List ℕ) (at count : ℕ) (inside : at ≤ length out) (begins : Begins line (mid_of at (length out - at) out) part count) where
  abbrev after : List ℕ
  after = put_mid at (length out - at) out part

  held : take (at + count) after ≡ take at out ++ line
  held =
      let kept = take at out ++ line in
      let left = drop (length line) (mid_of at (length out - at) out) ++ post_of at (length out - at) out in
      let long : length kept ≡ at + count = omega (arith, length-append (take at out) line, length-take-le at out inside, begins.counted) in
      let as_parts : after ≡ kept ++ left =
      ap (λ (l : List ℕ). take at out ++ (l ++ post_of at (length out - at) out)) begins.holds
      ∙ ap (λ (l : List ℕ). take at out ++ l) (append_assoc line (drop (length line) (mid_of at (length out - at) out)) (post_of at (length out - at) out))
      ∙ sym (append_assoc (take at out) line left) in
      ap (take (at + count)) as_parts ∙ take_at kept left (at + count) long

module _ (p : Finished) (from : Cursor) (before out : List ℕ) (at : ℕ) (next : Cursor) (f : Filling p from before out at next) where
  pub filling_next : (part : List ℕ) (piece : Piece) → length part ≡ length (mid_of at (length out - at) out) →
      Gives p (rest p next) (Some piece) (mid_of at (length out - at) out) part →
      Filling p from before (put_mid at (length out - at) out part) (at + piece.count) piece.next
  unfolding joined
  filling_next part piece long g =
      let a = given p (rest p next) next piece _ _ refl g in
      let one_less : length (rest p next) ≡ suc (length (rest p piece.next)) = ap length a.first in
      let long_after = same_len_mid at (length out - at) out part long in
      record {
        same = long_after ∙ f.same;
        inside =
            omega (
              arith,
              long_after,
              a.begins.counted,
              long,
              f.inside,
              ap length a.begins.holds,
              length-append a.line (drop (length a.line) (mid_of at (length out - at) out)),
              length-take-le (length out - at) (drop at out) (omega (arith, length-drop at out)),
              length-drop at out,
            );
        joins =
            f.joins
            ∙ ap (λ (ls : List (List ℕ)). take at out ++ joined ls) a.first
            ∙ sym (append_assoc (take at out) a.line (joined (rest p piece.next)))
            ∙ ap (λ (l : List ℕ). l ++ joined (rest p piece.next)) (sym (held out part a.line at piece.count f.inside a.begins));
        fewer =
            λ h.
            ⊎_elim (λ (z : at ≡ 0). omega (arith, one_less, ap (λ (c : Cursor). length (rest p c)) (f.nothing_yet z)))
            (λ (d : at ≡ 0 → ⊥). omega (arith, one_less, f.fewer (omega arith))) (cases_eq at 0);
        nothing_yet = λ h. absurd (omega (arith, a.some));
      }
