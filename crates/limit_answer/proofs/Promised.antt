-- The promises of specs/Promises.antt. Assumes nothing.
use mathlib.Core.Path.{◌≡◌, refl, sym, ap, subst, ◌∙◌}
use mathlib.Core.Bool.{Bool, true, false, cond}
use mathlib.Core.List.{[], ◌∷◌}
use mathlib.Core.Logic.{◌⊎◌, inl, inr, ⊎_elim}
use Prim.Native.Nat.{ℕ, ◌<◌}
use native.Mathlib.Omega.{arith}
use borrow.Author.Tests.{both_ways}
use Rattle.std.proofs.lemmas.Bool.{cases_eq}
use Rattle.table.specs.Table.{Table, table_of, is_table}
use Rattle.table.specs.Refusals.{rooms_fit}
use Rattle.table.proofs.Basics.{some_none}
use Rattle.auction.specs.Auction.{was_reached}
use Rattle.auction.specs.HandOver.{Answer, handed_over}
use Rattle.auction.specs.Plan.{refused_plan, routes_of}
use Rattle.auction.specs.Promises.{last_state}
use Rattle.auction.specs.Limit.{limited_state, WithinLimit, LimitCuts}
use Rattle.auction.proofs.Run.{none_after}
use Rattle.auction.proofs.Limit.{within_limit, limit_cuts}
use Rattle.auction.proofs.Made.{refusal_numbered, refused_alike}
use Rattle.limit_answer.specs.declared.Within.{Within}
use Rattle.limit_answer.specs.Answer.{within, limit_refusal, limit_of}
use Rattle.limit_answer.specs.Promises.{LimitKept, LimitsKept, LimitsPinned, LimitsRefused}
use Rattle.limit_answer.proofs.Refused.{fine, asked, refused}

-- 1 or 0, as a node was reached or not
one_if : Bool → ℕ
one_if b = cond b 1 0

says : (b : Bool) → (one_if b ≡ 0) ⊎ (one_if b ≡ 1)
unfolding one_if
says true = inr refl
says false = inl refl

says_yes : (b : Bool) → one_if b ≡ 1 → b ≡ true
unfolding one_if
says_yes true e = refl
says_yes false e = absurd (omega (arith, e))

says_no : (b : Bool) → one_if b ≡ 0 → b ≡ false
unfolding one_if
says_no true e = absurd (omega (arith, e))
says_no false e = refl

-- THE ANSWER TO A TABLE THAT IS NOT REFUSED
limit_kept : (t : Table) (v limit : ℕ) → is_table t (v ∷ []) ≡ true → LimitKept t v limit (limit_of t v limit)
unfolding one_if limit_of within WithinLimit LimitCuts routes_of handed_over last_state
limit_kept t v limit e =
    let x = limited_state t (v ∷ []) limit in
    let told = within_limit t v limit e in
    let cut = limit_cuts t (v ∷ []) limit e in
    record {
      answers = says (was_reached x v);
      yes = λ q. told.yes (says_yes (was_reached x v) q);
      no = λ q. told.no (says_no (was_reached x v) q);
      last = x;
      steps = cut.steps;
      ends = cut.ends;
      not_before = cut.not_before;
      no_later = cut.no_later;
    }

pub limits_kept : LimitsKept
unfolding LimitsKept within
limits_kept n o v limit ts hs ls r low e number =
    let t = table_of n o ts hs ls in
    let f = limit_refusal n o v ts hs ls in
    ⊎_elim
    (λ (z : f.number ≡ 0).
    subst (λ (a : Within). LimitKept t v limit a) (sym (e ∙ asked n o v ts hs ls f refl limit z))
    (limit_kept t v limit (fine n o v ts hs ls f refl low z).table_good))
    (λ (d : f.number ≡ 0 → ⊥). absurd (d (ap (λ (a : Within). a.number) (sym (e ∙ refused n o v ts hs ls f refl limit d)) ∙ number)))
    (cases_eq f.number 0)

pub limits_refused : LimitsRefused
unfolding LimitsRefused within limit_of limit_refusal rooms_fit refused_plan
limits_refused n o v limit ts hs ls r e d =
    let f = limit_refusal n o v ts hs ls in
    let numbered = refusal_numbered n o ts hs ls (v ∷ []) [] in
    ⊎_elim
    (λ (z : f.number ≡ 0). absurd (d (ap (λ (a : Within). a.number) (e ∙ asked n o v ts hs ls f refl limit z))))
    (λ (q : f.number ≡ 0 → ⊥).
    let so = e ∙ refused n o v ts hs ls f refl limit q in
    let number : r.number ≡ f.number = ap (λ (a : Within). a.number) so in
    record {
      low = omega (arith, number, numbered.0);
      no_buffers = λ z. both_ways true (numbered.1 (sym number ∙ z)) refl;
      as_wanted = λ ds ps tr ms a b c d.
          let planned = refused_alike n o ts hs ls (v ∷ []) ds ps tr ms q a b c d in
          (number ∙ ap (λ (a : Answer). a.number) (sym planned), ap (λ (a : Within). a.place) so ∙ ap (λ (a : Answer). a.place) (sym planned));
      zeros = (ap (λ (a : Within). a.within) so, ap (λ (a : Within). a.iterations) so);
    })
    (cases_eq f.number 0)

-- TWO ANSWERS: the one cannot be yes where the other is no, nor stop before the other
module _ {t : Table} {v limit : ℕ} where
  no_other : {a b : Within} → LimitKept t v limit a → LimitKept t v limit b → a.within ≡ 1 → b.within ≡ 0 → ⊥
  no_other ka kb y z = let w = ka.yes y in omega (arith, w.low, kb.no z w.walk w.to_node)

  not_sooner : {a b : Within} → LimitKept t v limit a → LimitKept t v limit b → a.iterations < b.iterations → ⊥
  not_sooner {a} {b} ka kb h =
      ⊎_elim (λ d. both_ways _ (kb.not_before a.iterations ka.last h ka.steps) d)
      (λ n. some_none kb.steps (none_after t a.iterations ka.last ka.steps n b.iterations h))
      ka.ends

pub limits_pinned : LimitsPinned
unfolding LimitsPinned
limits_pinned t v limit a b ka kb = (
  ⊎_elim
      (λ (z : a.within ≡ 0). ⊎_elim (λ (y : b.within ≡ 0). z ∙ sym y) (λ (y : b.within ≡ 1). absurd (no_other kb ka y z)) kb.answers)
      (λ (z : a.within ≡ 1). ⊎_elim (λ (y : b.within ≡ 0). absurd (no_other ka kb z y)) (λ (y : b.within ≡ 1). z ∙ sym y) kb.answers)
      ka.answers,
  omega (arith, not_sooner ka kb, not_sooner kb ka),
)
