-- `FieldPosition::put` meets its contract: a field that ends by bit 64 is put whole. Assumes nothing.
use Rattle.std.proofs.Common.{◌∙◌}
use Rattle.word.proofs.FieldLaws.{put_whole}
use Rattle.word.proofs.field.FieldPosition.put.Goals as goal

pub returns : goal.returns
returns c = c.put.ensures ∙ put_whole _ _ _ _ c.ranges.word.fits c.requires
