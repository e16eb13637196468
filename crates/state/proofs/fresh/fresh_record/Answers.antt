-- `fresh::fresh_record` meets its contract: the words are known, and so is what they stand for. Assumes nothing.
use Rattle.processor.specs.Record.{row_of, context_of, context_in, vp_of}
use mathlib.Core.Path.{refl}
use Rattle.state.proofs.fresh.fresh_record.Goals as goal

pub returns : goal.returns
unfolding vp_of context_in context_of row_of
returns c = refl
