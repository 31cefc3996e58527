-- What is left to test from i on decides. Assumes nothing.
use mathlib.Core.Path.{refl, ◌∙◌}
use native.Mathlib.Omega.{arith}
use Rattle.std.proofs.lemmas.Bool.Decides.{nat_tests}
use Rattle.table.specs.Refusals.{refusal, no_refusal}
use Rattle.table.proofs.Telling.{goes_on, ends}
use Rattle.refusals.proofs.Refusing.{count_first, wanted_good, wanted_bad, wanted_done}
use Rattle.refusals.proofs.check_wanted.Goals as goal

pub returns-in_err-check_wanted_count : goal.returns-in_err-check_wanted_count
returns-in_err-check_wanted_count c = ends _ _ _ _ c.from_residual.ensures.1 c.in_err-check_wanted_count.ensures ∙ count_first _ _

pub loop-i-init : goal.loop-i-init
unfolding refusal no_refusal
loop-i-init c = record {
  few = grind (arith, nat_tests, c.in_ok-check_wanted_count.ensures);
  decides = goes_on c.in_ok-check_wanted_count.ensures refl ∙ count_first _ _;
}

pub returns-then-n-from : goal.returns-then-n-from
returns-then-n-from c =
    c.at.ensures ∙ wanted_bad _ _ _ c.loop-i-test.true (omega arith) ∙ c.loop-i.invariant.decides

pub loop-i-preserved : goal.loop-i-preserved
loop-i-preserved c = record {
  few = c.loop-i.invariant.few;
  decides = wanted_good _ _ _ c.loop-i-test.true (omega arith) ∙ c.loop-i.invariant.decides;
}

pub returns : goal.returns
returns c = wanted_done _ _ _ c.loop-i-test.false ∙ c.loop-i.invariant.decides
