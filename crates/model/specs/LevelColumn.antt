-- The level column of the listing (01, "Script and listing"). Assumes nothing.
use Rattle.std.specs.Prelude.{cond, ℕ, eqb}
use Rattle.model.specs.declared.quantity.Processor.{Processor}
use Rattle.model.specs.Answers.{number_of}
use Rattle.model.specs.State.{active}
use Rattle.model.specs.Step.{Event, Made, Int, Outcome}

-- The processor that the level column is about: v, or w where no v is named.
abbrev pub processor_of : Event → Processor
processor_of (Made v mode a) = v
processor_of (Int w g vector) = w

-- The level now active on that processor, and 0 for answer 1.
abbrev pub level_column : Outcome → Processor → ℕ
level_column o v = cond (eqb (number_of o.answer) 1) 0 (active o.next v.0)
