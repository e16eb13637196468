-- `script::parse` meets its contract: a line says what the word that it begins with and the numbers after it say.
-- Assumes nothing.
use Rattle.std.specs.Prelude.{Err, None, Ok, Option, Some, Result, ok_or}
use Rattle.std.proofs.lemmas.Result.{err_from_is_err_and}
use mathlib.Core.List.{List}
use mathlib.Core.Path.{◌≡◌, refl, sym, ap, ◌∙◌}
use native.Mathlib.Omega.{arith}
use lib.ListN.{length}
use Prim.Native.Nat.{ℕ, ◌≤◌}
use Rattle.model.specs.declared.answer.Refusal.{Refusal}
use Rattle.model.specs.declared.answer.Refusal.TheVariants.{UnknownWord}
use Rattle.script.specs.EventForms.{events, line_event}
use Rattle.script.specs.EventWords.{event_of, form_of, named_among, words}
use Rattle.script.specs.LineForms.{in_form, longest_line}
use Rattle.script.specs.NumberRows.{fields_after, numbers_after}
use Rattle.script.specs.declared.words.Named.{Named}
use Rattle.script.proofs.Naming.{Found, found, line-said, named-said, named_said, too_long}
use Rattle.script.proofs.Saying.{row-malformed, row-said}
use Rattle.script.proofs.parse.Goals as goal

-- What a line of at most 256 bytes says, by the word that was looked for.
module _ (line : List ℕ) (short : length line ≤ longest_line) (word : Option Named) (is : word ≡ named_among words line) where
  by_word : line_event line ≡ named_said word line
  unfolding line_event
  by_word = line-said Ok Err events line refl short ∙ named-said words line ∙ ap (λ n. named_said n line) (sym is)

  -- There is none.
  unknown : {refusal : Refusal} → word ≡ None → ◌≡◌ {A = Result Named Refusal} (Err refusal) (ok_or word UnknownWord) → Err refusal ≡ line_event line
  unknown {refusal} none e =
      let same : refusal ≡ UnknownWord = cc in
      ap Err same ∙ sym (by_word ∙ ap (λ n. named_said n line) none)

  -- It is this one.
  module _ {n : Named} (some : word ≡ Some n) where
    found-word : Found line n.word n.end n.takes
    found-word = found words line refl (sym is ∙ some)

    says : in_form Ok Err (form_of n.word) (fields_after line (length (form_of n.word).word)) ≡ line_event line
    says = sym (by_word ∙ ap (λ n. named_said n line) some)

    refused : {refusal : Refusal} → numbers_after n.takes (fields_after line n.end) ≡ Err refusal → Err refusal ≡ line_event line
    refused e = let f = found-word in row-malformed Ok Err (form_of n.word) f.few _ (rw (f.ends, f.counts) at e) ∙ says

    taken : {values : List ℕ} → numbers_after n.takes (fields_after line n.end) ≡ Ok values → Ok (event_of n.word values) ≡ line_event line
    taken e = let f = found-word in row-said Ok Err (form_of n.word) f.few _ (rw (f.ends, f.counts) at e) ∙ says

pub returns-then-line-gt-LONGEST_LINE : goal.returns-then-line-gt-LONGEST_LINE
unfolding line_event
returns-then-line-gt-LONGEST_LINE c = too_long Ok Err events _ c.if-line-gt-LONGEST_LINE.true

pub returns-in_err-named : goal.returns-in_err-named
returns-in_err-named c =
    let exit = err_from_is_err_and c.from_residual.result c.from_residual.ensures.1 in
    let e = c.in_err-named.ensures in
    rw (exit.1, exit.2) (unknown _ c.if-line-gt-LONGEST_LINE.false _ c.word_of.ensures e.ok_part e.value)

pub numbers-requires : goal.numbers-requires
numbers-requires c =
    let f = found-word _ c.if-line-gt-LONGEST_LINE.false _ c.word_of.ensures c.in_ok-named.ensures.ok_part in
    record { from_in_bounds = omega (arith, f.ends, f.within); takes_bound = omega (arith, f.counts, f.few) }

pub returns-in_err-values : goal.returns-in_err-values
returns-in_err-values c =
    let exit = err_from_is_err_and c.from_residual-in_err-values.result c.from_residual-in_err-values.ensures.1 in
    rw (exit.1, exit.2)
    (refused _ c.if-line-gt-LONGEST_LINE.false _ c.word_of.ensures c.in_ok-named.ensures.ok_part (sym c.numbers.ensures ∙ c.in_err-values.was))

pub returns : goal.returns
returns c =
    ap Ok c.event.ensures
    ∙ taken _ c.if-line-gt-LONGEST_LINE.false _ c.word_of.ensures c.in_ok-named.ensures.ok_part (sym c.numbers.ensures ∙ c.in_ok-values.was)
