-- Pieces put one after the other, and the room that each has. Assumes nothing.
use mathlib.Core.List.{List, [], ◌++◌, append_assoc}
use mathlib.Core.Path.{◌≡◌, refl, ap, sym, ◌∙◌}
use Prim.Native.Nat.{ℕ, ◌+◌, ◌≤◌}
use native.Mathlib.Nat.{add-zero}
use native.Mathlib.Omega.{arith}
use lib.ListN.{length, length-append}
use lib.Seq.{length-sets}
use Rattle.link_fields.specs.Fields.{Puts}
use Rattle.link_fields.specs.declared.fields.Output.{Output}
use Rattle.table.proofs.Storing.{sets_append}

pub puts_nothing : (out : Output) → Puts [] out out
puts_nothing out = record { same = refl; on = sym (add-zero out.end); is = refl }

pub put_then : {xs ys : List ℕ} {old now new : Output} → Puts xs old now → Puts ys now new → Puts (xs ++ ys) old new
put_then {xs} {ys} {old} p q =
    record {
      same = q.same ∙ p.same;
      on = omega (arith, p.on, q.on, length-append xs ys);
      is = q.is ∙ rw (p.is, p.on) (sym (sets_append xs ys old.bytes.now old.end));
    }

-- the output is as long as it was
pub kept : {piece : List ℕ} {old new : Output} → Puts piece old new → length new.bytes.now ≡ length old.bytes.now
kept {piece} {old} p = ap length p.is ∙ length-sets old.bytes.now old.end piece

-- Of a piece that is put part by part, `left` is still to put.
pub record Putting (all left : List ℕ) (old now : Output) : Type 0 where
  -- there is room for all of it
  pub room : old.end + length all ≤ length old.bytes.now
  -- what is put so far
  pub so_far : List ℕ
  pub puts : Puts so_far old now
  pub same : so_far ++ left ≡ all

pub none_put : (all : List ℕ) (out : Output) → out.end + length all ≤ length out.bytes.now → Putting all all out out
none_put all out room = record { room = room; so_far = []; puts = puts_nothing out; same = refl }

module _ {all left : List ℕ} {old now : Output} (p : Putting all left old now) where
  -- what is left has room
  pub rest_room : now.end + length left ≤ length now.bytes.now
  rest_room = omega (arith, kept p.puts, p.room, p.puts.on, ap length p.same, length-append p.so_far left)

  -- it is put
  pub rest_put : {new : Output} → Puts left now new → Puts all old new
  rest_put q = rw p.same at (put_then p.puts q)

-- nothing is left
pub all_put : {all : List ℕ} {old now : Output} → Putting all [] old now → Puts all old now
all_put {all} {old} {now} p = rest_put p (puts_nothing now)

module _ {all : List ℕ} (part left : List ℕ) {old now : Output} (p : Putting all (part ++ left) old now) where
  -- the next part has room
  pub part_room : now.end + length part ≤ length now.bytes.now
  part_room = omega (arith, rest_room p, length-append part left)

  -- it is put
  pub part_put : {new : Output} → Puts part now new → Putting all left old new
  part_put q = record { room = p.room; so_far = p.so_far ++ part; puts = put_then p.puts q; same = append_assoc p.so_far part left ∙ p.same }
