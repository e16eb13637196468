-- `script::parse_first` meets its contract: a line that begins with `vsm` says what the row of its numbers says, in the form that it has.
-- Assumes nothing.
use Rattle.std.specs.Prelude.{Err, Ok}
use Rattle.std.proofs.lemmas.Result.{err_from_is_err_and}
use Rattle.model.specs.declared.answer.Refusal.{Refusal}
use mathlib.Core.Bool.{Bool, true}
use mathlib.Core.List.{List, [], ◌∷◌}
use mathlib.Core.Path.{◌≡◌, sym, ap, ◌∙◌}
use Prim.Native.Nat.{ℕ, ◌≤◌}
use lib.Dec.{eqb}
use lib.ListN.{get_or, length}
use native.Mathlib.Omega.{arith}
use Rattle.script.specs.Bytes.{begun, bytes}
use Rattle.script.specs.First.{first_form, first_line, line_first}
use Rattle.script.specs.LineForms.{fields, in_form, longest_line}
use Rattle.script.specs.NumberRows.{fields_after, numbers_after}
use Rattle.script.proofs.FirstForms.{few-numbers, first_made, said-first, seventh-field}
use Rattle.script.proofs.Naming.{begun-within, too_long}
use Rattle.script.proofs.Saying.{row-malformed, row-said}
use Rattle.script.proofs.parse_first.Goals as goal

-- Whether the line has a seventh field: of all its fields, and of those after `vsm`.
abbrev seventh : List ℕ → Bool
seventh line = eqb (length (fields line)) 7

abbrev six_after : List ℕ → Bool
six_after line = eqb (length (fields_after line 3)) 6

-- What a line of at most 256 bytes says that begins with `vsm`.
module _ (line : List ℕ) (short : length line ≤ longest_line) (begins : begun line (bytes "vsm") ≡ true) {takes : ℕ}
    (counted : takes ≡ (first_form (six_after line)).count)
  where
    says : in_form Ok Err (first_form (six_after line)) (fields_after line 3) ≡ line_first line
    unfolding line_first
    says =
        ap (λ t. in_form Ok Err (first_form t) (fields_after line 3)) (sym (seventh-field line begins))
        ∙ sym (rw begins at (said-first (seventh line) line short))

    refused : {refusal : Refusal} → numbers_after takes (fields_after line 3) ≡ Err refusal → Err refusal ≡ line_first line
    refused e = row-malformed Ok Err (first_form (six_after line)) (few-numbers (six_after line)) _ (rw counted at e) ∙ says

    taken : {values : List ℕ} → numbers_after takes (fields_after line 3) ≡ Ok values
        → Ok (first_line (get_or values 0 0) (get_or values 1 0) (get_or values 2 0) (get_or values 3 0) (get_or values 4 0) (get_or values 5 0)) ≡ line_first line
    taken e =
        let six = six_after line in
        let held = rw counted at e in
        ap Ok (first_made six _ held) ∙ row-said Ok Err (first_form six) (few-numbers six) _ held ∙ says

pub returns-then-line-gt-LONGEST_LINE : goal.returns-then-line-gt-LONGEST_LINE
unfolding line_first
returns-then-line-gt-LONGEST_LINE c =
    let line = c.args.line.now in
    too_long Ok Err (first_form (seventh line) ∷ []) line c.if-line-gt-LONGEST_LINE.true

pub returns-then-not-begins : goal.returns-then-not-begins
unfolding line_first
returns-then-not-begins c =
    let line = c.args.line.now in
    rw (sym c.begins.ensures ∙ c.if-not-begins.true) at (sym (said-first (seventh line) line c.if-line-gt-LONGEST_LINE.false))

pub numbers-requires : goal.numbers-requires
numbers-requires c =
    let line = c.args.line.now in
    record {
      from_in_bounds = omega (arith, begun-within line (bytes "vsm") (sym c.begins.ensures ∙ c.if-not-begins.false));
      takes_bound = omega (arith, c.first_takes.ensures, few-numbers (six_after line));
    }

pub returns-in_err-processors : goal.returns-in_err-processors
returns-in_err-processors c =
    let exit = err_from_is_err_and c.from_residual.result c.from_residual.ensures.1 in
    let begins = sym c.begins.ensures ∙ c.if-not-begins.false in
    rw (exit.1, exit.2) (refused _ c.if-line-gt-LONGEST_LINE.false begins c.first_takes.ensures (sym c.numbers.ensures ∙ c.in_err-processors.was))

pub returns : goal.returns
returns c =
    let begins = sym c.begins.ensures ∙ c.if-not-begins.false in
    taken _ c.if-line-gt-LONGEST_LINE.false begins c.first_takes.ensures (sym c.numbers.ensures ∙ c.in_ok-processors.was)
