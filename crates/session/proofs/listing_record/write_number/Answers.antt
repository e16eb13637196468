-- `session::listing_record::write_number` meets its contract: the digits before the last are stored at once, or the number is written
-- digit by digit. Assumes nothing.
use Rattle.std.proofs.Common.{◌≡◌, length, ap, ◌∙◌, arith, length-set}
use lib.Seq.{length-sets}
use Rattle.script.proofs.StoredTexts.{sets-append}
use Rattle.script.specs.LineForms.{tab}
use Rattle.script.specs.ListingLine.{cell}
use Rattle.session.proofs.Numbering.{cell-size, number-ahead}
use Rattle.session.proofs.listing_record.write_number.Goals as goal

pub write_cell-requires : goal.write_cell-requires
write_cell-requires c = omega (arith, cell-size c.args.line.number tab, c.requires.longest_record_in_bounds)

pub returns-then-line-gt8 : goal.returns-then-line-gt8
returns-then-line-gt8 c =
    let w = c.write_cell.ensures in
    let a = c.args in record {
      value = w.value;
      ahead = record {
        size = ap length w.out_after ∙ simp length-sets;
        ahead = λ more long. rw w.out_after (sets-append (cell a.line.number tab) a.out.now a.at more);
      };
    }

pub bounds-out-end : goal.bounds-out-end
bounds-out-end c =
    let size : length c.store_word.new.out ≡ length c.args.out.now = ap length c.store_word.ensures ∙ simp length-sets in
    omega (arith, size, c.if-line-gt8.false, c.requires.longest_record_in_bounds)

pub bounds-out-end-2 : goal.bounds-out-end-2
bounds-out-end-2 c =
    let size : length c.store_word.new.out ≡ length c.args.out.now = ap length c.store_word.ensures ∙ simp length-sets in
    simp length-set (omega (arith, size, c.if-line-gt8.false, c.requires.longest_record_in_bounds))

pub shape_of-out : goal.shape_of-out
shape_of-out c =
    let size : length c.store_word.new.out ≡ length c.args.out.now = ap length c.store_word.ensures ∙ simp length-sets in
    simp length-set (size)

pub returns : goal.returns
returns c =
    let a = c.args in
    let few = c.if-line-gt8.false in
    rw c.store_word.ensures
    (number-ahead a.out.now a.at a.line.width a.line.front a.line.last a.line.number few (c.requires.numbered.short few))

pub store_word-requires : goal.store_word-requires
store_word-requires c = omega (arith, c.requires.longest_record_in_bounds)

pub overflow_add-end : goal.overflow_add-end
overflow_add-end c = omega (arith, c.if-line-gt8.false, c.requires.longest_record_in_bounds)

pub overflow_add-out : goal.overflow_add-out
overflow_add-out c = omega (arith, c.if-line-gt8.false, c.requires.longest_record_in_bounds)

pub overflow_add-result : goal.overflow_add-result
overflow_add-result c = omega (arith, c.if-line-gt8.false, c.requires.longest_record_in_bounds)
