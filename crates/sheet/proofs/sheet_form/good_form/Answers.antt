-- `sheet_form::good_form` meets its contract: too long, one field, or a receiver and groups. Assumes nothing.
use mathlib.Core.Path.{sym, ◌∙◌}
use Rattle.sheet.proofs.FirstFields.{alone-form, first-length, groups-form, long-form}
use Rattle.sheet.proofs.sheet_form.good_form.Goals as goal

pub returns-then-sheet-gt-LONGEST_LINE : goal.returns-then-sheet-gt-LONGEST_LINE
returns-then-sheet-gt-LONGEST_LINE c = sym (long-form _ c.if-sheet-gt-LONGEST_LINE.true)

pub slice_bounds-is_alone-end : goal.slice_bounds-is_alone-end
slice_bounds-is_alone-end c = first-length _ _ c.find_byte-end.ensures

pub returns-then-sheet-end : goal.returns-then-sheet-end
returns-then-sheet-end c =
    c.is_alone.ensures ∙ sym (alone-form c.args.sheet.now c.find_byte-end.result c.find_byte-end.ensures c.if-sheet-gt-LONGEST_LINE.false c.if-sheet-end.true)

pub slice_bounds-is_receiver-end : goal.slice_bounds-is_receiver-end
slice_bounds-is_receiver-end c = first-length _ _ c.find_byte-end.ensures

pub returns-then-not-is_receiver : goal.returns-then-not-is_receiver
returns-then-not-is_receiver c =
    rw (
      groups-form c.args.sheet.now c.find_byte-end.result c.find_byte-end.ensures c.if-sheet-gt-LONGEST_LINE.false c.if-sheet-end.false,
      ← c.is_receiver.ensures,
      c.if-not-is_receiver.true,
    )

pub returns : goal.returns
returns c =
    rw (
      groups-form c.args.sheet.now c.find_byte-end.result c.find_byte-end.ensures c.if-sheet-gt-LONGEST_LINE.false c.if-sheet-end.false,
      ← c.is_receiver.ensures,
      c.if-not-is_receiver.false,
    )
    c.good_groups.ensures
