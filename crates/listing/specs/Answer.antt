-- What the listing shows of an answer (01, "Script and listing"), as the code holds it: number, value and level. Assumes nothing.
use Rattle.std.specs.Prelude.{cond, List, ℕ, eqb}
use Rattle.model.specs.Answers.{number_of, value_of}
use Rattle.model.specs.State.{level, is_index}
use Rattle.model.specs.declared.answer.Answer.{Answer}
use Rattle.model.specs.declared.quantity.Level.{Level}
use Rattle.model.specs.declared.quantity.Processor.{Processor}
use Rattle.script.specs.ListingLine.{listing_line}
use Rattle.listing.specs.Listing.{Answered}
use Rattle.listing.specs.declared.Shown.{Shown}

-- The level column for an answer with this number, where this level is active.
abbrev pub level_shown : ℕ → Level → Level
level_shown number active = cond (eqb number 1) (level 0) active

abbrev pub shown_of : Answer → Level → Shown
shown_of a active = record { answer = number_of a; value = value_of a; level = level_shown (number_of a) active }

-- What is shown of the answer to a line.
abbrev pub shown_by : Answered → Shown
shown_by a = record { answer = number_of a.answer; value = value_of a.answer; level = level a.level }

abbrev pub shown_text : ℕ → Shown → List ℕ
shown_text number shown = listing_line number shown.answer shown.value shown.level.0

-- The level that is active on it, where the machine has `active` at its place.
abbrev pub level_on : Processor → ℕ → Level → Level
level_on v processors active = cond (is_index processors v.0) active (level 0)
