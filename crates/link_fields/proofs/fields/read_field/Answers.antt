-- `fields::read_field` meets its contract. The loop goes from the highest byte down; its value is the number in the bytes passed. Assumes nothing.
use mathlib.Core.Path.{◌≡◌, ap, ◌∙◌}
use Prim.Native.Nat.{ℕ, ◌+◌, ◌-◌, ◌*◌, ◌^◌, ◌<◌}
use lib.ListN.{take, drop, length-drop}
use mir.Syntax.{w8}
use Rattle.std.proofs.Common.{rules, arith}
use Rattle.link_format.proofs.Numbers.{below_drop}
use Rattle.link_fields.proofs.fields.Parts.{Passed, column_below, passed_none, passed_next, passed_small, passed_all, field_got, field_cut}
use Rattle.link_fields.proofs.fields.read_field.Goals as goal
use Rattle.link_fields.proofs.fields.read_field.Goals.{In-Some}

pub returns-then-part-from : goal.returns-then-part-from
returns-then-part-from c = let a = c.args in field_cut a.part.now a.from a.width (omega arith) c.if-part-from.true

pub loop-byte-init : goal.loop-byte-init
loop-byte-init c =
    let a = c.args in
    let field = drop a.from a.part.now in
    let read : c.into_iter-byte-iterator.result.iter.rest.now ≡ take (a.from + a.width - a.from) field = search rules in
    let size : a.from + a.width - a.from ≡ a.width = omega arith in
    passed_none a.width field _ (omega (arith, length-drop a.from a.part.now)) (read ∙ ap (λ (w : ℕ). take w field) size)

-- one byte more
module _ (c : In-Some) where
  next : Passed c.args.width (drop c.args.from c.args.part.now) (c.loop-byte.value * 256 + c.in-Some.byte.now) c.next.new.self.iter.rest.now
  next = passed_next c.loop-byte.invariant _ _ c.in-Some.ensures.steps

  small : c.loop-byte.value * 256 + c.in-Some.byte.now < 256 ^ 4
  small = passed_small next c.requires.1 (below_drop 256 c.args.from _ (column_below w8 _ c.type_inv.part))

pub overflow_mul-value : goal.overflow_mul-value
overflow_mul-value c = omega (arith, small c)

pub overflow_add-value : goal.overflow_add-value
overflow_add-value c = omega (arith, c.from.ensures, small (goal.at.overflow_add-value c).In-Some)

pub loop-byte-preserved : goal.loop-byte-preserved
loop-byte-preserved c = rw c.from.ensures (next (goal.at.loop-byte-preserved c).In-Some)

pub returns : goal.returns
returns c = let a = c.args in
    rw (passed_all c.loop-byte.invariant c.in-None.ensures.steps.0)
    (field_got a.part.now a.from a.width c.requires.0 (omega arith) (column_below w8 _ c.type_inv.part))
