-- `registers::field_of` meets its contract: the field at its position is the one that unpacking gives. Assumes nothing.
use Rattle.word.specs.RegisterLayouts.{layout_of}
use Rattle.word.proofs.RegisterFieldLaws.{field-placed}
use Rattle.word.proofs.registers.field_of.Goals as goal

pub returns : goal.returns
returns c =
    let a = c.args in
    rw (c.take.ensures, c.position_of.ensures) (field-placed 0 (layout_of a.register) a.field a.word)
