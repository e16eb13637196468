-- `inquiry::refuse` meets its contract: the refusal has room. Assumes nothing.
use native.Mathlib.Omega.{arith}
use Rattle.records.specs.RecordTexts.{ended}
use Rattle.sheet.specs.Verdicts.{refusal}
use Rattle.inquiry.proofs.InquiryTexts.{wrote-room}
use Rattle.inquiry.proofs.refuse.Goals as goal

pub returns : goal.returns
unfolding ended
returns c =
    wrote-room (ended refusal) c.args.out.now (omega (arith, c.write_refusal-arg-1.given)) c.write_refusal.ensures.value c.write_refusal.ensures.out_after
