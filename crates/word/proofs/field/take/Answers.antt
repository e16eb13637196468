-- `field::take` meets its contract: past bit 63 a field is 0, a field of 64 bits or more is all that is left of the word, and any
-- other is a remainder. Assumes nothing.
use Rattle.std.proofs.Common.{◌≡◌, ℕ, ◌*◌, ◌%◌, ◌^◌, ◌<◌, sym, lt_of_lt_of_le, lt_of_le_of_lt, mod-eq_of_lt, one-mul, pow_pos, pow_mono}
use lib.Pow.{pow-lt, shr_le}
use Rattle.word.proofs.FieldLaws.{field_past}
use Rattle.word.proofs.field.take.Goals as goal

-- `1 << k` is 2 ^ k.
one_shifted : (width : ℕ) → width < 64 → 1 * 2 ^ width % 2 ^ 64 ≡ 2 ^ width
one_shifted k h = rw one-mul (mod-eq_of_lt (pow-lt h))

pub returns-then-offset-ge64 : goal.returns-then-offset-ge64
returns-then-offset-ge64 c = sym (field_past _ _ _ (lt_of_lt_of_le c.ranges.word.fits (pow_mono c.if-offset-ge64.true)))

pub returns-then-width-ge64 : goal.returns-then-width-ge64
returns-then-width-ge64 c =
    sym (mod-eq_of_lt (lt_of_le_of_lt (shr_le _ _) (lt_of_lt_of_le c.ranges.word.fits (pow_mono c.if-width-ge64.true))))

pub nonzero_rem-result : goal.nonzero_rem-result
nonzero_rem-result c = rw (one_shifted _ c.if-width-ge64.false) (pow_pos c.args.width)

pub returns : goal.returns
returns c = rw (one_shifted _ c.if-width-ge64.false)
