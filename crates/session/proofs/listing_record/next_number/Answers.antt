-- `session::listing_record::next_number` meets its contract: where the last digit is no 9, the others stay. Assumes nothing.
use Rattle.std.proofs.Common.{◌≡◌, ◌+◌, ◌/◌, arith}
use Rattle.listing.specs.Listing.{number_after}
use Rattle.session.proofs.listing_record.next_number.Goals as goal

pub returns-then-line-lt57 : goal.returns-then-line-lt57
returns-then-line-lt57 c =
    let n = c.args.line.number in
    let (small, digits, final) = c.requires.short c.if-line-le8.true in
    let below = c.if-line-lt57.true in
    let more : number_after n ≡ n + 1 = omega arith in
    let tens : number_after n / 10 ≡ n / 10 = omega arith in
    record {
      number = c.wrapping_add_u64-number.ensures.value;
      short = λ few. (omega arith, rw tens digits, omega arith);
    }

pub returns : goal.returns
returns c = rw (← c.wrapping_add_u64-number.ensures.value) c.line_number.ensures

pub overflow_add-result : goal.overflow_add-result
overflow_add-result c = omega (arith, c.if-line-lt57.true)
