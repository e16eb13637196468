-- Lines that are malformed (01, "Script and listing"), and one whose numbers are out of range and given on, read by computation.
-- Assumes nothing.
use Rattle.std.specs.Prelude.{Err, Ok}
use mathlib.Core.List.{List, [], ◌∷◌, map}
use mathlib.Core.Path.{◌≡◌, refl}
use Prim.Native.String.{String}
use Rattle.decimal.specs.Read.{read_decimal}
use Rattle.model.specs.State.{level}
use Rattle.model.specs.declared.answer.Refusal.TheVariants.{UnknownWord, WrongFieldCount, NotANumber}
use Rattle.model.specs.declared.event.Event.TheVariants.{Int}
use Rattle.script.specs.Bytes.{bytes, same}
use Rattle.script.specs.EventForms.{line_event, processor}
use Rattle.script.specs.LineForms.{among, fields, numbers_in, said}

-- Words: an empty line, a later vsm line, another word, a word with another byte, a space. Numbers of fields: a word alone, a field too
-- few, a field too many, a doubled tab, a trailing tab. Numbers: a carriage return, no digit, an empty field, a sign, a leading zero, 2^64.
unfoldable pub unknown_words : List String
unknown_words = "" ∷ "vsm\t1\t1\t2\t0\t15" ∷ "peek\t0\t0" ∷ "Ack\t0\t0" ∷ "ack 0 0" ∷ []

unfoldable pub wrong_counts : List String
wrong_counts = "ack" ∷ "ack\t0" ∷ "ack\t0\tx\t0" ∷ "ack\t\t0\t0" ∷ "ack\t0\t0\t" ∷ []

unfoldable pub no_numbers : List String
no_numbers = "ack\t0\t0\r" ∷ "ack\t0\tx" ∷ "ack\t0\t" ∷ "ack\t0\t+1" ∷ "ack\t0\t00" ∷ "ack\t0\t18446744073709551616" ∷ []

pub malformed-lines : (map (λ line. line_event (bytes line)) unknown_words ≡ map (λ line. Err UnknownWord) unknown_words)
    × (map (λ line. line_event (bytes line)) wrong_counts ≡ map (λ line. Err WrongFieldCount) wrong_counts)
    × (map (λ line. line_event (bytes line)) no_numbers ≡ map (λ line. Err NotANumber) no_numbers)
unfolding unknown_words wrong_counts no_numbers line_event said fields numbers_in read_decimal among same
malformed-lines = (refl, refl, refl)

-- Numbers out of range are the event's matter.
pub int-line : line_event (bytes "int\t18446744073709551615\t16\t0") ≡ Ok (Int (processor 18446744073709551615) (level 16) 0)
unfolding line_event said fields numbers_in read_decimal among same
int-line = refl
