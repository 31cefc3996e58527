-- What reading and planning do in the workspace that is lent. Assumes nothing: these are definitions.
use Rattle.std.specs.Prelude.{◌≡◌, List, ℕ}
use Rattle.hand_over.specs.ReadOff.{SameSlice}
use Rattle.link_file.specs.declared.TableRead.{TableRead}
use Rattle.link_file.specs.Entries.{LeftByReading}
use Rattle.link_file.specs.Promises.{CountsFit}
use Rattle.sheet.specs.Sheet.{sheet}
use Rattle.sheet.specs.Printed.{read_input, printed}
use Rattle.input.specs.declared.PlannedInput.{PlannedInput}
use Rattle.input.specs.declared.Workspace.{Workspace}
use Rattle.input.specs.Input.{printing_read}

-- a workspace that was lent: each of its eight slices is the same
pub record SameWorkspace (old new : Workspace) : Type 0 where
  -- the columns
  pub tails_same : SameSlice old.tails new.tails
  pub heads_same : SameSlice old.heads new.heads
  pub lengths_same : SameSlice old.lengths new.lengths
  pub wanted_same : SameSlice old.wanted new.wanted
  -- the buffers
  pub distances_same : SameSlice old.distances new.distances
  pub prices_same : SameSlice old.prices new.prices
  pub tree_same : SameSlice old.tree new.tree
  pub marks_same : SameSlice old.marks new.marks

-- what reading the input did to the columns
abbrev pub ReadsInput : (input : List ℕ) → (old new : Workspace) → TableRead → Type 0
ReadsInput input o n r =
    LeftByReading (read_input input) o.tails.now o.heads.now o.lengths.now o.wanted.now n.tails.now n.heads.now n.lengths.now n.wanted.now r

-- THE CONTRACT of plan_input, of the workspace that it leaves
pub record Ready (input : List ℕ) (r : PlannedInput) (o : Workspace) : Type 0 where
  -- the counts are within what is lent
  pub counts : CountsFit r.read
  -- the sheet of the answer, the columns and the buffers is what is printed of the input
  pub prints :
      sheet (printing_read r.read r.answer o.tails.now o.heads.now o.wanted.now o.distances.now o.prices.now o.tree.now o.marks.now) ≡ printed input
