-- `store::set_level_bit` meets its contract: the bit of the level. Assumes nothing.
use native.Mathlib.Omega.{arith}
use lib.ListN.{get_or}
use Rattle.word.proofs.FieldLaws.{put_whole}
use Rattle.reader.proofs.store.set_level_bit.Goals as goal

pub returns : goal.returns
returns c =
    let word = get_or c.args.words.now c.args.index 0 in
    rw (c.put.ensures, put_whole c.args.level.0 1 word c.args.value (omega arith) (omega (arith, c.requires)))
