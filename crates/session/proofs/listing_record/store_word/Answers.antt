-- `session::listing_record::store_word` meets its contract. Assumes nothing.
use Rattle.std.proofs.Common.{◌∙◌}
use Rattle.session.proofs.Numbering.{stored-word}
use Rattle.session.proofs.listing_record.store_word.Goals as goal

pub returns : goal.returns
returns c = stored-word _ _ _ _ c.requires (c.copy_from_slice.ensures.after ∙ c.to_le_bytes.ensures)
