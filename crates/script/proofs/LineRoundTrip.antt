-- The theorem that the line of an event says the event, for every event whose numbers are below 2^64, and so for a first line.
-- Assumes nothing.
use Rattle.std.specs.Prelude.{Err, Ok, Result, Some}
use Prim.Native.Nat.{ℕ, ◌+◌, ◌*◌, ◌≤◌}
use mathlib.Core.Bool.{true}
use mathlib.Core.List.{List, [], ◌∷◌, map}
use mathlib.Core.Path.{◌≡◌, refl, sym, ap, ◌∙◌}
use borrow.Author.Tests.{le-ltb, leb-true}
use native.Mathlib.Omega.{arith}
use lib.Dec.{eqb, leb}
use lib.ListN.{length, length-append}
use Rattle.decimal.specs.Write.{decimal}
use Rattle.model.specs.declared.answer.Refusal.{Refusal}
use Rattle.model.specs.declared.event.Event.{Event}
use Rattle.model.specs.declared.event.Action.TheVariants.{Enpart, Envp, Call, Ret, Read, Write, Fetch, Protect, Config, Secure, Flush, Rreg, Wreg, Tpr, Ack, Pstat, Vstat, Caps, Cri, Crm}
use Rattle.model.specs.declared.event.Event.TheVariants.{Made, Int}
use Rattle.model.specs.declared.machine.FirstLine.{FirstLine}
use Rattle.script.specs.Bytes.{same}
use Rattle.script.specs.EventForms.{events, line_event}
use Rattle.script.specs.First.{first_form, first_line, line_first, vsm, vsm_short}
use Rattle.script.specs.LineForms.{Form, among, fields, longest_line, numbers_in, of_numbers, said}
use Rattle.script.specs.Texts.{Numbers, Text, action_text, event_line, event_text, first_line_of, first_text, parted, short_first_line_of, short_first_text, written}
use Rattle.script.proofs.Naming.{no_tab}
use Rattle.script.proofs.Parted.{fields-of, numbers-read, parted-length}

-- What a text has for its line to say `value`: no tab in its word, at most 151 bytes, and a form that is found by the word.
pub record Sound {A R : Type 0} (good : A → R) (bad : Refusal → R) (forms : List (Form A)) (text : Text A) (value : A) : Type 0 where
  pub no-tab : no_tab text.form.word ≡ true
  pub short : leb (length text.form.word + 21 * length text.numbers) 151 ≡ true
  pub found : among good bad forms text.form.word (map decimal text.numbers) ≡ of_numbers good bad text.form (numbers_in (map decimal text.numbers))
  pub made_of : of_numbers good bad text.form (Some text.numbers) ≡ good value

module _ {A R : Type 0} {good : A → R} {bad : Refusal → R} {forms : List (Form A)} {text : Text A} {value : A} (s : Sound good bad forms text value) where
  line-at-most : length (written text) ≤ 151
  unfolding written
  line-at-most =
      omega (
        arith,
        leb-true (length text.form.word + 21 * length text.numbers) 151 s.short,
        parted-length text.numbers,
        length-append text.form.word (parted (map decimal text.numbers)),
      )

  line-says : Numbers text.numbers → said good bad forms (written text) ≡ good value
  unfolding said written
  line-says fit =
      rw (le-ltb longest_line (length (written text)) (omega (arith, line-at-most)), fields-of text.form.word text.numbers s.no-tab)
      (s.found ∙ ap (of_numbers good bad text.form) (numbers-read text.numbers fit) ∙ s.made_of)

-- Each event has a sound text.
sound : (e : Event) → Sound Ok Err events (event_text e) e
unfolding action_text event_text among same
sound (Made v mode (Enpart t mbec)) = record { no-tab = refl; short = refl; found = refl; made_of = refl }
sound (Made v mode (Envp w t rip rsp cr0)) = record { no-tab = refl; short = refl; found = refl; made_of = refl }
sound (Made v mode (Call len)) = record { no-tab = refl; short = refl; found = refl; made_of = refl }
sound (Made v mode (Ret len)) = record { no-tab = refl; short = refl; found = refl; made_of = refl }
sound (Made v mode (Read p)) = record { no-tab = refl; short = refl; found = refl; made_of = refl }
sound (Made v mode (Write p x)) = record { no-tab = refl; short = refl; found = refl; made_of = refl }
sound (Made v mode (Fetch p)) = record { no-tab = refl; short = refl; found = refl; made_of = refl }
sound (Made v mode (Protect p mask)) = record { no-tab = refl; short = refl; found = refl; made_of = refl }
sound (Made v mode (Config g word)) = record { no-tab = refl; short = refl; found = refl; made_of = refl }
sound (Made v mode (Secure l word)) = record { no-tab = refl; short = refl; found = refl; made_of = refl }
sound (Made v mode Flush) = record { no-tab = refl; short = refl; found = refl; made_of = refl }
sound (Made v mode (Rreg g r)) = record { no-tab = refl; short = refl; found = refl; made_of = refl }
sound (Made v mode (Wreg g r x)) = record { no-tab = refl; short = refl; found = refl; made_of = refl }
sound (Made v mode (Tpr class)) = record { no-tab = refl; short = refl; found = refl; made_of = refl }
sound (Made v mode Ack) = record { no-tab = refl; short = refl; found = refl; made_of = refl }
sound (Int w g vector) = record { no-tab = refl; short = refl; found = refl; made_of = refl }
sound (Made v mode Pstat) = record { no-tab = refl; short = refl; found = refl; made_of = refl }
sound (Made v mode Vstat) = record { no-tab = refl; short = refl; found = refl; made_of = refl }
sound (Made v mode Caps) = record { no-tab = refl; short = refl; found = refl; made_of = refl }
sound (Made v mode (Cri word)) = record { no-tab = refl; short = refl; found = refl; made_of = refl }
sound (Made v mode (Crm n mask)) = record { no-tab = refl; short = refl; found = refl; made_of = refl }

-- The line of an event says the event, where its numbers are below 2^64.
pub event-round-trip : (e : Event) → Numbers (event_text e).numbers → line_event (event_line e) ≡ Ok e
unfolding line_event event_line
event-round-trip e fit = line-says (sound e) fit

-- It has at most 151 bytes.
pub event-at-most : (e : Event) → length (event_line e) ≤ 151
unfolding event_line
event-at-most e = line-at-most (sound e)

-- The same of a first line, which has a seventh field.
first-fields : (text : Text FirstLine) → no_tab text.form.word ≡ true → fields (written text) ≡ text.form.word ∷ map decimal text.numbers
unfolding written
first-fields text h = fields-of text.form.word text.numbers h

abbrev said_by : List ℕ → List (List ℕ) → Result FirstLine Refusal
said_by line parts = said Ok Err (first_form (eqb (length parts) 7) ∷ []) line

pub first_said : (first : FirstLine) → Numbers (first_text first).numbers → said Ok Err (vsm ∷ []) (first_line_of first) ≡ Ok first
unfolding first_line_of first_text among same
first_said first fit =
    let s : Sound Ok Err (vsm ∷ []) (first_text first) first = record { no-tab = refl; short = refl; found = refl; made_of = refl } in
    line-says s fit

pub first-round-trip : (first : FirstLine) → Numbers (first_text first).numbers → line_first (first_line_of first) ≡ Ok first
unfolding line_first first_line_of first_text
first-round-trip first fit = ap (said_by (first_line_of first)) (first-fields (first_text first) refl) ∙ first_said first fit

-- Without it a line says that SMEP is not available.
pub short-first-round-trip : (first : FirstLine) → Numbers (short_first_text first).numbers → first.smep ≡ 0 → line_first (short_first_line_of first) ≡ Ok first
unfolding line_first short_first_line_of short_first_text among same
short-first-round-trip first fit none =
    let without : ℕ → FirstLine = first_line first.processors first.max_level.0 first.pages first.dr6_shared first.host_mask in
    let s : Sound Ok Err (vsm_short ∷ []) (short_first_text first) (without 0) = record { no-tab = refl; short = refl; found = refl; made_of = refl } in
    ap (said_by (short_first_line_of first)) (first-fields (short_first_text first) refl) ∙ line-says s fit ∙ ap (λ n. Ok (without n)) (sym none)
