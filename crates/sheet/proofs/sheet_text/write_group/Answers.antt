-- `sheet_text::write_group` meets its contract: nothing of a level that does not deny; else three numbers and a word, each after a tab.
-- Assumes nothing.
use Rattle.std.specs.Prelude.{Option, Some}
use mathlib.Core.List.{List, ◌∷◌, ◌++◌}
use mathlib.Core.Path.{◌≡◌, refl}
use Prim.Native.Nat.{ℕ, ◌+◌, ◌≤◌}
use native.Mathlib.Omega.{arith}
use lib.ListN.{length}
use Rattle.decimal.specs.Write.{decimal}
use Rattle.script.proofs.Cells.{Written, written_next}
use Rattle.script.specs.LineForms.{tab}
use Rattle.script.specs.Texts.{parted}
use Rattle.sheet.proofs.SheetLengths.{group-text}
use Rattle.sheet.proofs.TextPutting.{first-room, second-room}
use Rattle.sheet.specs.Sheets.{Denial, group, kind_field}
use Rattle.sheet.proofs.sheet_text.write_group.Goals as goal

pub returns-in_default : goal.returns-in_default
unfolding group parted
returns-in_default c = rw c.in_default.is record { value = omega arith; out_after = refl }

-- What the function is given, where the level denies.
record Parts : Type 0 where
  out : List ℕ
  at : ℕ
  level : ℕ
  denial : Option Denial
  by : Denial
  denies : denial ≡ Some by
  requires : at + length (parted (group level denial)) ≤ length out

-- The level's number, its mask, the wanted bit and the word, each after a tab.
module _ (d : Parts) where
  abbrev one : List ℕ
  one = tab ∷ decimal d.level

  abbrev two : List ℕ
  two = tab ∷ decimal d.by.mask

  abbrev three : List ℕ
  three = tab ∷ decimal d.by.wanted

  abbrev four : List ℕ
  four = tab ∷ kind_field d.by.mbec

  text : parted (group d.level d.denial) ≡ ((one ++ two) ++ three) ++ four
  text = rw d.denies (group-text d.level d.by)

  -- Each has room after those before it.
  room : d.at + length (((one ++ two) ++ three) ++ four) ≤ length d.out
  room = rw text at d.requires

  room-three : d.at + length ((one ++ two) ++ three) ≤ length d.out
  room-three = first-room d.out d.at ((one ++ two) ++ three) four room

  room-two : d.at + length (one ++ two) ≤ length d.out
  room-two = first-room d.out d.at (one ++ two) three room-three

  -- They were written one after another.
  module _ {after-one after-two : ℕ} {out-one out-two : List ℕ} (wrote : Written d.out d.at one after-one out-one)
      (then : Written out-one after-one two after-two out-two) where
    wrote-two : Written d.out d.at (one ++ two) after-two out-two
    wrote-two = written_next d.out d.at one two wrote then

    wrote-three : {after : ℕ} {last : List ℕ} → Written out-two after-two three after last
        → Written d.out d.at ((one ++ two) ++ three) after last
    wrote-three w = written_next d.out d.at (one ++ two) three wrote-two w

pub write_number-after_level-requires : goal.write_number-after_level-requires
write_number-after_level-requires c =
    let d : Parts = record {
      out = c.args.out.now;
      at = c.args.at;
      level = c.args.level.0;
      denial = c.args.denial;
      by = c.in-Some.by;
      denies = c.in-Some.is;
      requires = c.requires;
    } in
    first-room d.out d.at (one d) (two d) (room-two d)

pub write_number-after_mask-requires : goal.write_number-after_mask-requires
write_number-after_mask-requires c =
    let d : Parts = record {
      out = c.args.out.now;
      at = c.args.at;
      level = c.args.level.0;
      denial = c.args.denial;
      by = c.in-Some.by;
      denies = c.in-Some.is;
      requires = c.requires;
    } in
    second-room d.out d.at (one d) (two d) (room-two d) c.write_number-after_level.ensures

pub write_number-after_wanted-requires : goal.write_number-after_wanted-requires
write_number-after_wanted-requires c =
    let d : Parts = record {
      out = c.args.out.now;
      at = c.args.at;
      level = c.args.level.0;
      denial = c.args.denial;
      by = c.in-Some.by;
      denies = c.in-Some.is;
      requires = c.requires;
    } in
    second-room d.out d.at (one d ++ two d) (three d) (room-three d)
    (wrote-two d c.write_number-after_level.ensures c.write_number-after_mask.ensures)

pub write_kind-requires : goal.write_kind-requires
write_kind-requires c =
    let d : Parts = record {
      out = c.args.out.now;
      at = c.args.at;
      level = c.args.level.0;
      denial = c.args.denial;
      by = c.in-Some.by;
      denies = c.in-Some.is;
      requires = c.requires;
    } in
    second-room d.out d.at ((one d ++ two d) ++ three d) (four d) (room d)
    (wrote-three d c.write_number-after_level.ensures c.write_number-after_mask.ensures c.write_number-after_wanted.ensures)

pub returns : goal.returns
returns c =
    let d : Parts = record {
      out = c.args.out.now;
      at = c.args.at;
      level = c.args.level.0;
      denial = c.args.denial;
      by = c.in-Some.by;
      denies = c.in-Some.is;
      requires = c.requires;
    } in
    rw (text d)
    (written_next d.out d.at ((one d ++ two d) ++ three d) (four d)
    (wrote-three d c.write_number-after_level.ensures c.write_number-after_mask.ensures c.write_number-after_wanted.ensures)
    c.write_kind.ensures)
