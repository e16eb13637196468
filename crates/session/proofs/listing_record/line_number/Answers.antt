-- `session::listing_record::line_number` meets its contract: the digits before the last are those of the number's tenth. Assumes nothing.
use Rattle.std.proofs.Common.{refl, arith}
use Rattle.session.proofs.listing_record.line_number.Goals as goal

pub returns-then-number-lt1000000000 : goal.returns-then-number-lt1000000000
returns-then-number-lt1000000000 c = record { number = refl; short = λ few. (c.if-number-lt1000000000.true, c.digits_of-digits.ensures.text, refl) }

pub returns : goal.returns
returns c = record { number = refl; short = λ few. absurd (omega arith) }
