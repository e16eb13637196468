-- `field::put` meets its contract: the old field comes off and the new one is added, modulo 2 ^ 64 (`put-swap`).
-- Past bit 63 nothing changes (`put-past`). Assumes nothing.
use Rattle.std.proofs.Common.{◌≡◌, ℕ, ◌*◌, ◌%◌, ◌^◌, ◌<◌, sym, lt_of_le_of_lt, mod-eq_of_lt, div-one}
use native.Mathlib.Nat.{add-mod-mod}
use Rattle.word.specs.Field.{field}
use Rattle.word.proofs.FieldLaws.{field-le, put-swap, put-past}
use Rattle.word.proofs.field.put.Goals as goal

-- The old field, shifted to its place, fits.
old-fits : (offset width word : ℕ) → word < 2 ^ 64
    → field offset width word * 2 ^ offset % 2 ^ 64 ≡ field offset width word * 2 ^ offset
old-fits o k w h = mod-eq_of_lt (lt_of_le_of_lt (field-le o k w) h)

pub returns-then-offset-ge64 : goal.returns-then-offset-ge64
returns-then-offset-ge64 c = sym (put-past _ _ _ _ c.ranges.word.fits c.if-offset-ge64.true)

pub overflow_sub-word : goal.overflow_sub-word
overflow_sub-word c =
    rw (c.take.ensures, old-fits _ _ _ c.ranges.word.fits) (field-le _ _ _)

pub returns : goal.returns
returns c =
    rw (c.wrapping_add_u64.ensures.value, c.take-2.ensures, c.take.ensures)
    (rw (div-one, old-fits _ _ _ c.ranges.word.fits, add-mod-mod, put-swap))
