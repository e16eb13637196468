-- `reason_text::write_line` meets its contract: four numbers, and what ends the line. Assumes nothing.
use mathlib.Core.List.{List, ◌∷◌, ◌++◌}
use mathlib.Core.Path.{◌≡◌}
use Prim.Native.Nat.{ℕ, ◌+◌, ◌≤◌}
use native.Mathlib.Omega.{arith}
use lib.ListN.{length, length-append}
use Rattle.decimal.proofs.Digits.{text-length}
use Rattle.decimal.specs.Write.{decimal}
use Rattle.reason.proofs.PlainFields.{end-length, line-pieces}
use Rattle.reason.specs.Reasons.{reason_end}
use Rattle.script.proofs.Cells.{Written, written-length, written_next}
use Rattle.script.specs.LineForms.{tab}
use Rattle.sheet.proofs.TextPutting.{Put, first-room, put_written, second-room, written-begun}
use Rattle.reason.proofs.reason_text.write_line.Goals as goal

-- What the function is given.
record Parts : Type 0 where
  out : List ℕ
  number : ℕ
  answer : ℕ
  value : ℕ
  level : ℕ
  size : length out ≡ 255

-- The four pieces.
module _ (s : Parts) where
  abbrev one : List ℕ
  one = decimal s.number

  abbrev two : List ℕ
  two = tab ∷ decimal s.answer

  abbrev three : List ℕ
  three = tab ∷ decimal s.value

  abbrev four : List ℕ
  four = tab ∷ decimal s.level

  -- There is room for the longest.
  numbers : 0 + length (((one ++ two) ++ three) ++ four) + 172 ≤ length s.out
  numbers =
      omega (
        arith,
        s.size,
        length-append ((one ++ two) ++ three) four,
        length-append (one ++ two) three,
        length-append one two,
        text-length s.number,
        text-length s.answer,
        text-length s.value,
        text-length s.level,
      )

  room : 0 + length (((one ++ two) ++ three) ++ four) ≤ length s.out
  room = omega (arith, numbers)

  room-three : 0 + length ((one ++ two) ++ three) ≤ length s.out
  room-three = first-room s.out 0 ((one ++ two) ++ three) four room

  room-two : 0 + length (one ++ two) ≤ length s.out
  room-two = first-room s.out 0 (one ++ two) three room-three

  -- They were written one after another.
  module _ {after-one : ℕ} {out-one : List ℕ} (put : Put s.out 0 one after-one out-one) where
    wrote_one : Written s.out 0 one after-one out-one
    wrote_one = put_written s.out 0 one (omega (arith, s.size, text-length s.number)) put

    module _ {after-two : ℕ} {out-two : List ℕ} (second : Written out-one after-one two after-two out-two) where
      wrote-two : Written s.out 0 (one ++ two) after-two out-two
      wrote-two = written_next s.out 0 one two wrote_one second

      module _ {after-three : ℕ} {out-three : List ℕ} (third : Written out-two after-two three after-three out-three) where
        wrote-three : Written s.out 0 ((one ++ two) ++ three) after-three out-three
        wrote-three = written_next s.out 0 (one ++ two) three wrote-two third

        wrote-four : {after : ℕ} {last : List ℕ} → Written out-three after-three four after last
            → Written s.out 0 (((one ++ two) ++ three) ++ four) after last
        wrote-four fourth = written_next s.out 0 ((one ++ two) ++ three) four wrote-three fourth

pub write_number-after_answer-requires : goal.write_number-after_answer-requires
write_number-after_answer-requires c =
    let s : Parts = record {
      out = c.args.out.now;
      number = c.args.number;
      answer = c.args.shown.answer;
      value = c.args.shown.value;
      level = c.args.shown.level.0;
      size = omega arith;
    } in
    second-room s.out 0 (one s) (two s) (room-two s) (wrote_one s c.write-after_number.ensures)

pub write_number-after_value-requires : goal.write_number-after_value-requires
write_number-after_value-requires c =
    let s : Parts = record {
      out = c.args.out.now;
      number = c.args.number;
      answer = c.args.shown.answer;
      value = c.args.shown.value;
      level = c.args.shown.level.0;
      size = omega arith;
    } in
    second-room s.out 0 (one s ++ two s) (three s) (room-three s) (wrote-two s c.write-after_number.ensures c.write_number-after_answer.ensures)

pub write_number-after_level-requires : goal.write_number-after_level-requires
write_number-after_level-requires c =
    let s : Parts = record {
      out = c.args.out.now;
      number = c.args.number;
      answer = c.args.shown.answer;
      value = c.args.shown.value;
      level = c.args.shown.level.0;
      size = omega arith;
    } in
    second-room s.out 0 ((one s ++ two s) ++ three s) (four s) (room s)
    (wrote-three s c.write-after_number.ensures c.write_number-after_answer.ensures c.write_number-after_value.ensures)

pub write_reason-requires : goal.write_reason-requires
write_reason-requires c =
    let s : Parts = record {
      out = c.args.out.now;
      number = c.args.number;
      answer = c.args.shown.answer;
      value = c.args.shown.value;
      level = c.args.shown.level.0;
      size = omega arith;
    } in
    let w =
    wrote-four s c.write-after_number.ensures c.write_number-after_answer.ensures c.write_number-after_value.ensures
    c.write_number-after_level.ensures in
    omega (arith, numbers s, w.value, written-length s.out 0 (((one s ++ two s) ++ three s) ++ four s) w)

pub returns : goal.returns
returns c =
    let s : Parts = record {
      out = c.args.out.now;
      number = c.args.number;
      answer = c.args.shown.answer;
      value = c.args.shown.value;
      level = c.args.shown.level.0;
      size = omega arith;
    } in
    let why = c.args.why in
    let pieces = ((one s ++ two s) ++ three s) ++ four s in
    let w =
    wrote-four s c.write-after_number.ensures c.write_number-after_answer.ensures c.write_number-after_value.ensures
    c.write_number-after_level.ensures in
    let wrote = written_next s.out 0 pieces (reason_end why) w c.write_reason.ensures in
    let begun = written-begun s.out (pieces ++ reason_end why) wrote in
    rw (line-pieces s.number s.answer s.value s.level why)
    record {
      wrote = begun.value;
      out = begun.out_after;
      within = omega (arith, begun.value, s.size, written-length s.out 0 (pieces ++ reason_end why) wrote, length-append pieces (reason_end why), numbers s, end-length why);
    }
