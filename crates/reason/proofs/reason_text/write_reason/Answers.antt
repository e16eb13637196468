-- `reason_text::write_reason` meets its contract: by the reason. Assumes nothing.
use native.Mathlib.Omega.{arith}
use Rattle.reason.proofs.PlainFields.{end-denied, end-named}
use Rattle.reason.specs.Reasons.{fields_of}
use Rattle.script.specs.Texts.{parted}
use Rattle.sheet.proofs.TextPutting.{put_written}
use Rattle.reason.proofs.reason_text.write_reason.Goals as goal

pub returns-in-Nothing : goal.returns-in-Nothing
unfolding fields_of parted
returns-in-Nothing c =
    rw c.in-Nothing.is (put_written c.args.out.now c.args.at _ (omega (arith, c.requires)) c.put.ensures)

pub returns-in-Named : goal.returns-in-Named
returns-in-Named c =
    rw (c.in-Named.is, end-named) c.write_name.ensures

pub returns-in-Denied : goal.returns-in-Denied
returns-in-Denied c =
    rw (c.in-Denied.is, end-denied) c.write_sheet.ensures

pub returns-in-RegisterWatched : goal.returns-in-RegisterWatched
unfolding fields_of parted
returns-in-RegisterWatched c =
    rw c.in-RegisterWatched.is (put_written c.args.out.now c.args.at _ (omega (arith, c.requires)) c.put-in-RegisterWatched.ensures)

pub returns-in-OutOfRange : goal.returns-in-OutOfRange
unfolding fields_of parted
returns-in-OutOfRange c =
    rw c.in-OutOfRange.is (put_written c.args.out.now c.args.at _ (omega (arith, c.requires)) c.put-in-OutOfRange.ensures)

pub returns-in-EmptyInput : goal.returns-in-EmptyInput
unfolding fields_of parted
returns-in-EmptyInput c =
    rw c.in-EmptyInput.is (put_written c.args.out.now c.args.at _ (omega (arith, c.requires)) c.put-in-EmptyInput.ensures)
