-- The eight proved cases (01, "Script and listing"): lines 3, 5, 9, 10 and 13 of its script, two partition status words, and
-- RIP past 2^64-1. Assumes nothing.
use Rattle.std.specs.Prelude.{List, [], ◌∷◌, ℕ, suc, ◌^◌, ◌-◌, length, take}
use Rattle.model.specs.declared.quantity.Page.{Page}
use Rattle.model.specs.declared.quantity.Processor.{Processor}
use Rattle.model.specs.Answers.{number_of, value_of}
use Rattle.model.specs.Fresh.{fresh}
use Rattle.model.specs.LevelColumn.{level_column, processor_of}
use Rattle.model.specs.State.{FirstLine, level}
use Rattle.model.specs.Step.{Event, Enpart, Envp, Call, Ret, Read, Write, Protect, Config, Rreg, Wreg, Pstat, Vstat, Made, step, final}

-- An event after others, from the fresh machine of the script's first line, which is line 0; and the line of the listing that shows it:
-- its number, the number and the value of the answer, and the level now active.
pub record Case : Type 0 where
  pub before : List Event
  pub event : Event
  pub line : List ℕ

abbrev pub start : FirstLine
start = record { processors = 1; max_level = level 1; pages = 2; dr6_shared = 0; host_mask = 15; smep = 0 }

abbrev pub v0 : Processor
v0 = record { 0 = 0 }

abbrev pub p1 : Page
p1 = record { 0 = 1 }

-- The script of 01, after its first line.
abbrev pub script : List Event
script =
    Made v0 0 (Enpart (level 1) 0) ∷ Made v0 0 (Envp v0 (level 1) 4096 8192 1) ∷ Made v0 0 (Call 3) ∷ Made v0 0 (Wreg (level 0) 3 1) ∷ Made v0 0 (Call 3)
    ∷ Made v0 0 (Config (level 1) 31) ∷ Made v0 0 (Protect p1 0) ∷ Made v0 0 (Write p1 77) ∷ Made v0 0 (Ret 3) ∷ Made v0 0 (Read p1)
    ∷ Made v0 0 Vstat ∷ Made v0 0 (Rreg (level 0) 0) ∷ Made v0 0 (Rreg (level 1) 0) ∷ []

abbrev pub cases : List Case
cases =
    -- line 3: a call in real mode
    record { before = take 2 script; event = Made v0 0 (Call 3); line = 3 ∷ 2 ∷ 0 ∷ 0 ∷ [] }
    -- line 5: the call enters level 1
    ∷ record { before = take 4 script; event = Made v0 0 (Call 3); line = 5 ∷ 0 ∷ 1 ∷ 1 ∷ [] }
    -- line 9: the return goes to level 0
    ∷ record { before = take 8 script; event = Made v0 0 (Ret 3); line = 9 ∷ 0 ∷ 0 ∷ 0 ∷ [] }
    -- line 10: the read of a closed page is an intercept, taken by level 1
    ∷ record { before = take 9 script; event = Made v0 0 (Read p1); line = 10 ∷ 9 ∷ 1 ∷ 1 ∷ [] }
    -- line 13: RIP of level 1 grew by the return's length
    ∷ record { before = take 12 script; event = Made v0 0 (Rreg (level 1) 0); line = 13 ∷ 0 ∷ 4099 ∷ 1 ∷ [] }
    -- the partition status of the fresh machine
    ∷ record { before = []; event = Made v0 0 Pstat; line = 1 ∷ 0 ∷ 65537 ∷ 0 ∷ [] }
    -- and once level 1 has MBEC
    ∷ record { before = Made v0 0 (Enpart (level 1) 1) ∷ []; event = Made v0 0 Pstat; line = 2 ∷ 0 ∷ 2162691 ∷ 0 ∷ [] }
    -- RIP 2^64-1 with call length 1 gives 0
    ∷ record { before = Made v0 0 (Enpart (level 1) 0) ∷ Made v0 0 (Envp v0 (level 1) 0 0 1) ∷ Made v0 0 (Wreg (level 0) 3 1) ∷ Made v0 0 (Wreg (level 0) 0 (2 ^ 64 - 1)) ∷ Made v0 0 (Call 1) ∷ []; event = Made v0 0 (Rreg (level 0) 0); line = 6 ∷ 0 ∷ 0 ∷ 1 ∷ [] }
    ∷ []

-- What the listing shows of a case.
abbrev pub given : Case → List ℕ
given c = let o = step (final (fresh start) c.before) c.event in
    suc (length c.before) ∷ number_of o.answer ∷ value_of o.answer ∷ level_column o (processor_of c.event) ∷ []

abbrev pub expected : Case → List ℕ
expected c = c.line
