-- `reason_text::write_name` meets its contract: the name's text is put there. Assumes nothing.
use mathlib.Core.Path.{ap}
use native.Mathlib.Omega.{arith}
use lib.ListN.{length}
use Rattle.reason.proofs.PlainFields.{end-length, end-named}
use Rattle.reason.specs.declared.Reason.TheVariants as reason
use Rattle.sheet.proofs.TextPutting.{put_written}
use Rattle.reason.proofs.reason_text.write_name.Goals as goal

pub returns : goal.returns
returns c =
    let a = c.args in
    put_written a.out.now a.at _
    (omega (arith, c.requires, ap length (end-named a.refusal), end-length (reason.Named a.refusal)))
    (rw c.name_of.ensures at c.put.ensures)
