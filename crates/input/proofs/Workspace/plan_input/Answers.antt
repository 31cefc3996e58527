-- `input::Workspace::plan_input` meets its contract: what was read is planned, and what is printed of it is printed of the input. Assumes nothing.
use Rattle.sheet.specs.Printed.{read_input, printed}
use Rattle.input.proofs.Planning.{input_refuses_well}
use Rattle.input.proofs.Workspace.plan_input.Goals as goal

pub returns-clause-ready : goal.returns-clause-ready
unfolding printed
returns-clause-ready c =
    let input = c.args.input.now in
    record {
      counts = c.read_input-read.ensures.fits;
      prints = c.plan_read.ensures.plans (read_input input) _ _ _ _ (input_refuses_well input) c.read_input-read.ensures.reads;
    }
