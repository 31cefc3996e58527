-- The ways out of a listing that is made from the node back to the origin, and what is then answered. Assumes nothing.
use mathlib.Core.Path.{◌≡◌, refl, sym, ap, ◌∙◌}
use mathlib.Core.List.{List, [], ◌++◌, reverse}
use mathlib.Core.Option as wide
use Prim.Native.Nat.{ℕ, ◌≤◌, ◌<◌}
use native.Mathlib.Omega.{arith}
use lib.ListN.{length, take, drop, length-reverse}
use Rattle.std.specs.Prelude.{Some, None, Result, Ok, Err}
use Rattle.std.specs.Result.{IsErr}
use Rattle.std.proofs.lemmas.Option.{none-some}
use Rattle.std.proofs.lemmas.Result.{MatchResult-from_err}
use Rattle.std.proofs.lemmas.List.{take_at, drop_at, reverse-reverse}
use Rattle.table.specs.declared.faults.Refusal.{Refusal}
use Rattle.table.specs.Refusals as told_as
use Rattle.table.specs.Table.{most_nodes}
use Rattle.table.specs.Refusals.{refusal, no_refusal}
use Rattle.table.specs.Told.{number, tells, told}
use Rattle.table.proofs.Telling.{numbered}
use Rattle.listing.specs.declared.Listed.{Listed}
use Rattle.listing.specs.Listing.{Tree, node_count, path, nodes_of, Listing, refused, listed, early_of, into, listing, Lists}
use Rattle.listing.specs.Collecting.{turned_round}
use Rattle.listing.proofs.Early.{Passed, passed}
use Rattle.listing.proofs.Answers.{refused_early, follows, too_short, fitting, at_most_n}
use Rattle.paths.specs.Trees.{size}
use Rattle.paths.specs.Back.{ListsBack}
use Rattle.paths.proofs.Writing.{sized}

number_of : (m n : ℕ) → refusal m 0 ≡ refusal n 0 → m ≡ n
unfolding refusal
number_of m n e = ap (λ (f : told_as.Refusal). f.number) e

pathless : (p : wide.Option (List ℕ)) → size p ≡ None → p ≡ wide.none
pathless wide.none e = refl
pathless (wide.some vs) e = absurd (none-some (length vs) (sym e))

-- nothing is listed
refuses : (l : Listing) (r : Result ℕ Refusal) (before : List ℕ) (n : ℕ) → l ≡ refused n → IsErr r → told r ≡ refusal n 0 →
    ListsBack l r before before
unfolding refused
refuses l r before n e is_err t =
    rw e (record { told = t; count = MatchResult-from_err r (λ c. c ≡ 0) (λ _. [] ≡ []) is_err (λ _. refl); output = refl })

module _ (o v : ℕ) (k : Tree) (room : ℕ) where
  -- 1, 2, 4 and 5
  pub early : (y : Refusal) (r : Result ℕ Refusal) (before : List ℕ) → IsErr r → told r ≡ tells y → tells y ≡ refusal (early_of o v k) 0 →
      ListsBack (listing o v k room) r before before
  unfolding refusal
  early y r before is_err same e =
      let some : early_of o v k ≡ 0 → ⊥ = λ z. numbered y.fault (ap (λ (f : told_as.Refusal). f.number) e ∙ z) in
      refuses (listing o v k room) r before (early_of o v k) (refused_early o v k room some) is_err (same ∙ e)

  module _ (unrefused : no_refusal ≡ refusal (early_of o v k) 0) where
    zero : early_of o v k ≡ 0
    unfolding no_refusal
    zero = sym (number_of 0 (early_of o v k) unrefused)

    pub sound : Passed (node_count k) (length k.tails) (length k.heads) v
    unfolding early_of
    sound = passed (node_count k) (length k.tails) (length k.heads) o v zero

    -- 14
    pub no_path : size (path o v k) ≡ None → (r : Result ℕ Refusal) (before : List ℕ) → IsErr r → told r ≡ refusal 14 0 →
        ListsBack (listing o v k room) r before before
    unfolding into
    no_path e r before is_err t =
        refuses (listing o v k room) r before 14 (follows o v k room zero ∙ ap (into room) (pathless (path o v k) e)) is_err t

    module _ (n : ℕ) (found : size (path o v k) ≡ Some n) where
      abbrev nodes : List ℕ
      nodes = nodes_of (path o v k)

      on : listing o v k room ≡ into room (wide.some nodes)
      on = follows o v k room zero ∙ ap (into room) (sized (path o v k) n found).0

      as_many : length nodes ≡ n
      as_many = (sized (path o v k) n found).1

      pub few : n ≤ most_nodes
      few = omega (arith, as_many, at_most_n o v k, sound.few_nodes)

      -- 13
      pub no_room : room < n → (y : Refusal) (before : List ℕ) → tells y ≡ refusal 13 0 → ListsBack (listing o v k room) (Err y) before before
      no_room h y before t = refuses (listing o v k room) (Err y) before 13 (on ∙ too_short room nodes (omega (arith, as_many))) refl t

      -- so many are written, up to the end
      pub lists : n ≤ room → (before : List ℕ) (end : ℕ) → end ≡ n → ListsBack (listing o v k room) (Ok n) before (reverse nodes ++ drop end before)
      unfolding listed no_refusal
      lists h before end e =
          rw (on ∙ fitting room nodes (omega (arith, as_many)))
          (record { told = refl; count = sym as_many; output = ap (λ i. reverse nodes ++ drop i before) (e ∙ sym as_many) })

-- WHAT IS ANSWERED
module _ (l : Listing) (answer : Listed) (before after : List ℕ) where
  -- so many nodes, as they stand there
  pub as_made : (n : ℕ) → ListsBack l (Ok n) before after → answer.number ≡ 0 → answer.place ≡ 0 → answer.count ≡ n →
      Lists (turned_round l) answer before after
  unfolding turned_round no_refusal
  as_made n b at_number at_place at_count =
      let same = length-reverse l.nodes in
      record {
        number = at_number ∙ number_of 0 l.number b.told;
        place = at_place;
        count = omega (arith, b.count, same);
        output = b.output ∙ ap (λ i. reverse l.nodes ++ drop i before) (sym same);
      }

  -- and turned round
  pub turned : (n : ℕ) (made : List ℕ) → ListsBack l (Ok n) before made → answer.number ≡ 0 → answer.place ≡ 0 → answer.count ≡ n →
      after ≡ reverse (take n made) ++ drop n made → Lists l answer before after
  unfolding no_refusal
  turned n made b at_number at_place at_count e =
      let size = length-reverse l.nodes ∙ sym b.count in
      record {
        number = at_number ∙ number_of 0 l.number b.told;
        place = at_place;
        count = omega (arith, b.count);
        output =
            e
            ∙ ap (λ m. reverse (take n m) ++ drop n m) b.output
            ∙ rw (
              take_at (reverse l.nodes) (drop (length l.nodes) before) n size,
              drop_at (reverse l.nodes) (drop (length l.nodes) before) n size,
              reverse-reverse l.nodes,
            );
      }

  -- none, whichever way round
  pub none : (y : Refusal) → ListsBack l (Err y) before after → answer.number ≡ number y.fault → answer.place ≡ y.place → answer.count ≡ 0 →
      Lists l answer before after
  unfolding refusal
  none y b at_number at_place at_count =
      record {
        number = at_number ∙ ap (λ (f : told_as.Refusal). f.number) b.told;
        place = at_place ∙ ap (λ (f : told_as.Refusal). f.place) b.told;
        count = at_count ∙ ap length (sym b.count);
        output = b.output ∙ rw b.count refl;
      }

  pub none_turned : (y : Refusal) → ListsBack l (Err y) before after → answer.number ≡ number y.fault → answer.place ≡ y.place → answer.count ≡ 0 →
      Lists (turned_round l) answer before after
  unfolding refusal turned_round
  none_turned y b at_number at_place at_count =
      let w = none y b at_number at_place at_count in
      record { number = w.number; place = w.place; count = at_count ∙ rw b.count refl; output = b.output ∙ rw b.count refl }
