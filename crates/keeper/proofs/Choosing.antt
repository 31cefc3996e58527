-- Whether the standing list is kept beside a fresh one that has a total. Assumes nothing.
use mathlib.Core.Path.{◌≡◌, refl, sym, ap, ◌∙◌}
use mathlib.Core.Bool.{Bool, true, false, not}
use mathlib.Core.List.{List}
use mathlib.Core.Logic.{⊎_elim}
use mathlib.Core.Option.{Option, none, some}
use Prim.Native.Nat.{ℕ, ◌-◌, ◌<◌}
use native.Mathlib.Omega.{arith}
use lib.Dec.{eqb}
use lib.ListN.{length, get_or}
use borrow.Author.Tests.{eq-eqb, ne_eqb, eqb-true, not-false, both_ways}
use denote.Ref.{Bor}
use Rattle.std.specs.Prelude as code
use Rattle.std.specs.Option.{option_eq, option_copied}
use Rattle.std.specs.List.{slice_get}
use Rattle.std.proofs.lemmas.Option.{none-some, same_Some, slice_get-get_or, slice_get_within}
use Rattle.std.proofs.lemmas.Bool.{and_right, cases_eq}
use Rattle.table.specs.Table.{Table}
use Rattle.table.proofs.Basics.{some_none}
use Rattle.keeping.specs.Keeping.{lent_total, first_node, last_node, same_ends, no_greater, stays}
use Rattle.keeper.specs.Totals.{held}
use Rattle.keeper.proofs.Totalling.{lent_none}

-- what the code's comparison of two nodes says, each read off a list, where it has one there
abbrev equal : code.Option (Bor ℕ) → code.Option (Bor ℕ) → Bool
equal = option_eq (λ x y. eqb x.now y.now)

same_now : (a b : code.Option (Bor ℕ)) → not (equal a b) ≡ false → option_copied a ≡ option_copied b
same_now code.None code.None e = refl
same_now code.None (code.Some y) e = absurd (both_ways true e refl)
same_now (code.Some x) code.None e = absurd (both_ways true e refl)
same_now (code.Some x) (code.Some y) e = ap code.Some (eqb-true x.now y.now (not-false (eqb x.now y.now) e))

other_now : (a b : code.Option (Bor ℕ)) → not (equal a b) ≡ true → option_copied a ≡ option_copied b → ⊥
other_now code.None code.None e s = both_ways false refl e
other_now code.None (code.Some y) e s = none-some y.now s
other_now (code.Some x) code.None e s = none-some x.now (sym s)
other_now (code.Some x) (code.Some y) e s = both_ways (not (eqb x.now y.now)) (ap not (eq-eqb x.now y.now (same_Some x.now y.now s))) e

module _ (a b : code.Option (Bor ℕ)) {p q : code.Option ℕ} (read_a : option_copied a ≡ p) (read_b : option_copied b ≡ q) where
  pub same_read : not (equal a b) ≡ false → p ≡ q
  same_read e = sym read_a ∙ same_now a b e ∙ read_b

  pub other_read : not (equal a b) ≡ true → p ≡ q → ⊥
  other_read e s = other_now a b e (read_a ∙ s ∙ sym read_b)

-- BESIDE A FRESH LIST with this total
no_greater_none : (a : Option ℕ) → no_greater none a ≡ false
unfolding no_greater
no_greater_none a = refl

module _ (t : Table) (standing fresh : List ℕ) (most : ℕ) (total : some most ≡ lent_total t fresh) where
  some_node : 0 < length fresh
  some_node =
      ⊎_elim (λ (z : length fresh ≡ 0). absurd (some_none refl (total ∙ sym (lent_none t fresh z)))) (λ (z : length fresh ≡ 0 → ⊥). omega (arith, z))
      (cases_eq (length fresh) 0)

  none_standing : length standing ≡ 0 → false ≡ stays t standing fresh
  unfolding stays
  none_standing e =
      let none_lent = ap (λ (o : Option ℕ). no_greater o (lent_total t fresh)) (sym (lent_none t standing e)) in
      sym (and_right (same_ends standing fresh) _ (none_lent ∙ no_greater_none (lent_total t fresh)))

  -- two nodes that are read and differ
  differ : (i j : ℕ) → i < length standing → j < length fresh → (slice_get standing i ≡ slice_get fresh j → ⊥) →
      eqb (get_or standing i 0) (get_or fresh j 0) ≡ false
  differ i j h l d =
      ne_eqb (get_or standing i 0) (get_or fresh j 0)
      (λ e. d (slice_get-get_or standing i 0 h ∙ ap code.Some e ∙ sym (slice_get-get_or fresh j 0 l)))

  pub other_first : (slice_get standing 0 ≡ slice_get fresh 0 → ⊥) → false ≡ stays t standing fresh
  unfolding stays same_ends first_node
  other_first d =
      ⊎_elim none_standing (λ (z : length standing ≡ 0 → ⊥). rw (differ 0 0 (omega (arith, z)) some_node d)) (cases_eq (length standing) 0)

  pub other_last : (slice_get standing (length standing - 1) ≡ slice_get fresh (length fresh - 1) → ⊥) → false ≡ stays t standing fresh
  unfolding stays same_ends last_node
  other_last d =
      ⊎_elim none_standing
      (λ (z : length standing ≡ 0 → ⊥).
      rw (
        differ (length standing - 1) (length fresh - 1) (omega (arith, z)) (omega (arith, some_node)) d,
        and_right (eqb (first_node standing) (first_node fresh)) false refl,
      ))
      (cases_eq (length standing) 0)

  module _ (first : slice_get standing 0 ≡ slice_get fresh 0)
      (last : slice_get standing (length standing - 1) ≡ slice_get fresh (length fresh - 1)) where
    stands : 0 < length standing
    stands = slice_get_within standing 0 (get_or fresh 0 0) (first ∙ slice_get-get_or fresh 0 0 some_node)

    read : {i j : ℕ} → i < length standing → j < length fresh → slice_get standing i ≡ slice_get fresh j → get_or standing i 0 ≡ get_or fresh j 0
    read {i} {j} h l e = same_Some _ _ (sym (slice_get-get_or standing i 0 h) ∙ e ∙ slice_get-get_or fresh j 0 l)

    pub by_total : (o : code.Option ℕ) → held o ≡ lent_total t standing → no_greater (held o) (some most) ≡ stays t standing fresh
    unfolding stays same_ends first_node last_node
    by_total o e =
        rw (
          eq-eqb (get_or standing 0 0) (get_or fresh 0 0) (read stands some_node first),
          eq-eqb (get_or standing (length standing - 1) 0) (get_or fresh (length fresh - 1) 0)
              (read (omega (arith, stands)) (omega (arith, some_node)) last),
          ← e,
          ← total,
        )
