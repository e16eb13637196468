-- `sheet_text::write_sheet` meets its contract: a word, or the receiver and the fields of each level. Assumes nothing.
use Rattle.std.specs.Prelude.{Option}
use mathlib.Core.List.{List, ◌++◌}
use mathlib.Core.Path.{◌≡◌, ap}
use Prim.Native.Nat.{ℕ, ◌+◌, ◌≤◌}
use native.Mathlib.Omega.{arith}
use lib.ListN.{length}
use Rattle.script.proofs.Cells.{Written, written_next}
use Rattle.script.specs.Bytes.{bytes}
use Rattle.script.specs.Texts.{parted}
use Rattle.sheet.proofs.SheetLengths.{line-length, line-of-levels}
use Rattle.sheet.proofs.TextPutting.{Begun, begun-written, first-room, put-start, second-room, written-begun}
use Rattle.sheet.specs.Sheets.{Denial, Explanation, Levels, group, longest_sheet, receiver_field, sheet_fields, sheet_line}
use Rattle.sheet.proofs.sheet_text.write_sheet.Goals as goal
use Rattle.model.specs.declared.quantity.Level.{Level}

pub returns-in-Allowed : goal.returns-in-Allowed
unfolding sheet_line sheet_fields parted
returns-in-Allowed c =
    rw c.in-Allowed.is (put-start c.args.out.now (bytes "allowed") (omega (arith, c.requires)) c.put.ensures)

pub returns-in-Host : goal.returns-in-Host
unfolding sheet_line sheet_fields parted
returns-in-Host c =
    rw c.in-Host.is (put-start c.args.out.now (bytes "host") (omega (arith, c.requires)) c.put-in-Host.ensures)

-- What the function is given, where levels deny.
record Parts : Type 0 where
  out : List ℕ
  explanation : Explanation
  receiver : Option Level
  first : Option Denial
  second : Option Denial
  third : Option Denial
  denies : explanation ≡ Levels receiver first second third
  requires : longest_sheet ≤ length out

-- The receiver, and the fields of levels 1, 2 and 3.
module _ (d : Parts) where
  abbrev zero : List ℕ
  zero = receiver_field d.receiver

  abbrev one : List ℕ
  one = parted (group 1 d.first)

  abbrev two : List ℕ
  two = parted (group 2 d.second)

  abbrev three : List ℕ
  three = parted (group 3 d.third)

  text : sheet_line d.explanation ≡ ((zero ++ one) ++ two) ++ three
  text = rw d.denies (line-of-levels _ _ _ _)

  -- Each has room after those before it.
  room : 0 + length (((zero ++ one) ++ two) ++ three) ≤ length d.out
  room = omega (arith, ap length text, line-length d.explanation, d.requires)

  room-two : 0 + length ((zero ++ one) ++ two) ≤ length d.out
  room-two = first-room d.out 0 ((zero ++ one) ++ two) three room

  room-one : 0 + length (zero ++ one) ≤ length d.out
  room-one = first-room d.out 0 (zero ++ one) two room-two

  -- They were written one after another.
  module _ {after-zero : ℕ} {out-zero : List ℕ} (wrote : Begun d.out zero after-zero out-zero) where
    wrote-zero : Written d.out 0 zero after-zero out-zero
    wrote-zero = begun-written d.out zero wrote

    module _ {after-one : ℕ} {out-one : List ℕ} (then : Written out-zero after-zero one after-one out-one) where
      wrote_one : Written d.out 0 (zero ++ one) after-one out-one
      wrote_one = written_next d.out 0 zero one wrote-zero then

      wrote-two : {after : ℕ} {last : List ℕ} → Written out-one after-one two after last
          → Written d.out 0 ((zero ++ one) ++ two) after last
      wrote-two w = written_next d.out 0 (zero ++ one) two wrote_one w

pub write_receiver-after_receiver-requires : goal.write_receiver-after_receiver-requires
write_receiver-after_receiver-requires c =
    let d : Parts = record {
      out = c.args.out.now;
      explanation = c.args.explanation;
      receiver = c.in-Levels.receiver;
      first = c.in-Levels.first;
      second = c.in-Levels.second;
      third = c.in-Levels.third;
      denies = c.in-Levels.is;
      requires = c.requires;
    } in
    omega (arith, first-room d.out 0 (zero d) (one d) (room-one d))

pub write_group-after_first-requires : goal.write_group-after_first-requires
write_group-after_first-requires c =
    let d : Parts = record {
      out = c.args.out.now;
      explanation = c.args.explanation;
      receiver = c.in-Levels.receiver;
      first = c.in-Levels.first;
      second = c.in-Levels.second;
      third = c.in-Levels.third;
      denies = c.in-Levels.is;
      requires = c.requires;
    } in
    second-room d.out 0 (zero d) (one d) (room-one d) (wrote-zero d c.write_receiver-after_receiver.ensures)

pub write_group-after_second-requires : goal.write_group-after_second-requires
write_group-after_second-requires c =
    let d : Parts = record {
      out = c.args.out.now;
      explanation = c.args.explanation;
      receiver = c.in-Levels.receiver;
      first = c.in-Levels.first;
      second = c.in-Levels.second;
      third = c.in-Levels.third;
      denies = c.in-Levels.is;
      requires = c.requires;
    } in
    second-room d.out 0 (zero d ++ one d) (two d) (room-two d)
    (wrote_one d c.write_receiver-after_receiver.ensures c.write_group-after_first.ensures)

pub write_group-requires : goal.write_group-requires
write_group-requires c =
    let d : Parts = record {
      out = c.args.out.now;
      explanation = c.args.explanation;
      receiver = c.in-Levels.receiver;
      first = c.in-Levels.first;
      second = c.in-Levels.second;
      third = c.in-Levels.third;
      denies = c.in-Levels.is;
      requires = c.requires;
    } in
    second-room d.out 0 ((zero d ++ one d) ++ two d) (three d) (room d)
    (wrote-two d c.write_receiver-after_receiver.ensures c.write_group-after_first.ensures c.write_group-after_second.ensures)

pub returns-in-Levels : goal.returns-in-Levels
returns-in-Levels c =
    let d : Parts = record {
      out = c.args.out.now;
      explanation = c.args.explanation;
      receiver = c.in-Levels.receiver;
      first = c.in-Levels.first;
      second = c.in-Levels.second;
      third = c.in-Levels.third;
      denies = c.in-Levels.is;
      requires = c.requires;
    } in
    rw (text d)
    (written-begun d.out (((zero d ++ one d) ++ two d) ++ three d)
    (written_next d.out 0 ((zero d ++ one d) ++ two d) (three d)
    (wrote-two d c.write_receiver-after_receiver.ensures c.write_group-after_first.ensures c.write_group-after_second.ensures)
    c.write_group.ensures))
