-- `record::with_bit` meets its contract: one bit ends by bit 64 (`put_whole`). Assumes nothing.
use Rattle.word.proofs.FieldLaws.{put_whole}
use mathlib.Core.Path.{◌∙◌}
use native.Mathlib.Omega.{arith}
use Rattle.processor.proofs.record.with_bit.Goals as goal

pub returns : goal.returns
returns c = c.put.ensures ∙ put_whole _ 1 _ _ c.ranges.word.fits (omega arith)
