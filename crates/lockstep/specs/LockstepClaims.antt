-- What is proved of lockstep: a refusal changes no word, and what is told line by line are the records of the listing (01, "Script and listing"). The
-- links of a run are what the contracts of `open` and `step` give. Proved in proofs/LockstepRun.antt. Assumes nothing.
use Rattle.std.specs.Prelude.{true, List, [], ◌∷◌, ◌++◌, ◌≡◌, ℕ, ◌≤◌, length, Ok, Result}
use Rattle.listing.specs.Listing.{first_done, later_records, listing_of, number_after}
use Rattle.model.specs.Fresh.{admissible}
use Rattle.script.specs.First.{FirstLine, line_first}
use Rattle.script.specs.ListingLine.{listing_line}
use Rattle.lockstep.specs.Lockstep.{opened, shown_words, stepped, stepped_by}
use Rattle.lockstep.specs.MachineWords.{machine_words, state_in}
use Rattle.lockstep.specs.declared.Reply.{Reply}
use Rattle.model.specs.declared.answer.Refusal.{Refusal}
use Rattle.model.specs.declared.event.Event.{Event}

-- Words whose state stays, stay: so no word changes where an event is refused (`Unchanged` of the model's claims), or a line is malformed.
abbrev pub SameWords : Type 0
SameWords =
    (ws : List ℕ) (p : Result Event Refusal) → machine_words ≤ length ws → (stepped_by ws p).state ≡ state_in ws → (stepped_by ws p).words ≡ ws

-- Lines answered one by one: each on the words that the line before left, with room for the machine and for what is shown.
pub data Ran : List ℕ → List (List ℕ) → List Reply → Type 0 where
  none : {ws : List ℕ} → Ran ws [] []
  then : {ws ws' line : List ℕ} {lines : List (List ℕ)} {replies : List Reply} (shown : List ℕ) → machine_words ≤ length ws
      → shown_words ≤ length shown → state_in ws' ≡ (stepped ws line shown).state → Ran ws' lines replies
      → Ran ws (line ∷ lines) ((stepped ws line shown).reply ∷ replies)

-- The records of replies, of which the first has this number.
unfoldable pub records_from : ℕ → List Reply → List ℕ
records_from number [] = []
records_from number (r ∷ replies) =
    listing_line number r.answer r.value r.level.0 ++ records_from (number_after number) replies

-- A run from any words gives the records of its lines in the state of the words.
abbrev pub InStep : Type 0
InStep =
    (ws : List ℕ) (lines : List (List ℕ)) (replies : List Reply) → Ran ws lines replies
    → (number : ℕ) → records_from number replies ≡ later_records number (state_in ws) lines

-- A run from opened words gives the listing of the script.
abbrev pub InStepWithScript : Type 0
InStepWithScript =
    (ws ws' first : List ℕ) (lines : List (List ℕ)) (replies : List Reply) (f : FirstLine) → machine_words ≤ length ws
    → line_first first ≡ Ok f → admissible f ≡ true → state_in ws' ≡ (opened first ws).state → Ran ws' lines replies
    → first_done ++ records_from 1 replies ≡ listing_of (first ∷ lines)
