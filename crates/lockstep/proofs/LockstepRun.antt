-- A run in lockstep gives the listing (01, "Script and listing"): each line is answered by the state that the words stand for, and leaves words
-- that stand for the next. Assumes nothing.
use mathlib.Core.List.{List, ◌∷◌, ◌++◌}
use mathlib.Core.Path.{◌≡◌, refl, ap, ◌∙◌}
use Prim.Native.Nat.{ℕ, ◌≤◌}
use borrow.Author.Tests.{le-ltb}
use lib.ListN.{length}
use Rattle.listing.specs.Listing.{answered, first_done, later_records, number_after, record_of}
use Rattle.model.specs.Fresh.{fresh}
use Rattle.model.specs.State.{State}
use Rattle.script.specs.EventForms.{line_event}
use Rattle.lockstep.specs.Lockstep.{Stepped, opened, stepped, stepped_by, stepped_in}
use Rattle.lockstep.specs.LockstepClaims.{InStep, InStepWithScript, Ran, SameWords, records_from}
use Rattle.lockstep.specs.declared.Reply.{Reply}
use Rattle.lockstep.specs.MachineWords.{machine_words, state_in}
use Rattle.lockstep.proofs.LineTold.{same-words}

pub same-words-stay : SameWords
same-words-stay ws p room e = rw e (same-words ws room)

-- What a line gives where there is room.
answered-line : (ws line shown : List ℕ) → machine_words ≤ length ws → 3 ≤ length shown → stepped ws line shown ≡ stepped_by ws (line_event line)
unfolding stepped stepped_in
answered-line ws line shown room place = rw (le-ltb (length shown) 3 place, le-ltb (length ws) machine_words room)

run-records : {ws : List ℕ} {lines : List (List ℕ)} {replies : List Reply} → Ran ws lines replies
    → (number : ℕ) → records_from number replies ≡ later_records number (state_in ws) lines
unfolding records_from later_records
run-records Ran.none number = refl
run-records (Ran.then {ws} {ws'} {line} {lines} {replies} shown room place next run) number =
    let told = answered-line ws line shown room place in
    ap (λ (s : Stepped). records_from number (s.reply ∷ replies)) told
    ∙ ap (λ (l : List ℕ). record_of number (answered (state_in ws) (line_event line)) ++ l)
    (run-records run (number_after number)
    ∙ ap (λ (s : State). later_records (number_after number) s lines) (next ∙ ap (λ (s : Stepped). s.state) told))

pub in_step : InStep
in_step ws lines replies run number = run-records run number

pub in-step-with-script : InStepWithScript
unfolding opened
in-step-with-script ws ws' first lines replies f room says good next run =
    let begun : state_in ws' ≡ fresh f = next ∙ rw (le-ltb (length ws) machine_words room, says, good) in
    ap (λ (l : List ℕ). first_done ++ l)
    (run-records run 1 ∙ ap (λ (s : State). later_records 1 s lines) begun)
    ∙ rw (says, good)
