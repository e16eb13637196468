-- `script::words::word_with_c` meets its contract: a line of one byte begins with no word, and the second byte of another tells whether it
-- can be a word of request 6. Assumes nothing.
use Rattle.std.specs.Prelude.{None}
use Rattle.std.proofs.Common.{rules}
use Rattle.std.specs.Option.{option_or}
use mathlib.Core.List.{List, [], ◌∷◌, map}
use mathlib.Core.Path.{◌≡◌, sym, ap, ◌∙◌}
use Prim.Native.Nat.{ℕ, ◌<◌}
use native.Mathlib.Omega.{arith}
use lib.ListN.{get_or, length}
use Rattle.script.specs.Bytes.{bytes}
use Rattle.script.specs.EventWords.{named_among, words_with_c}
use Rattle.script.specs.declared.words.ActionWord.TheVariants.{Call, Config, Caps, Cri, Crm}
use Rattle.script.specs.declared.words.Word.TheVariants.{Made}
use Rattle.script.proofs.FieldPlaces.{item-read}
use Rattle.script.proofs.Naming.{or-among, or_cases, other_at, too_short}
use Rattle.script.proofs.words.word_with_c.Goals as goal

module _ (line : List ℕ) where
  none-short : length line < 2 → None ≡ named_among words_with_c line
  none-short h =
      rw (
        too_short line (bytes "call") (omega arith),
        too_short line (bytes "config") (omega arith),
        too_short line (bytes "caps") (omega arith),
        too_short line (bytes "cri") (omega arith),
        too_short line (bytes "crm") (omega arith),
      )

  with-r : get_or line 1 0 ≡ 114 → named_among (map Made (Cri ∷ Crm ∷ [])) line ≡ named_among words_with_c line
  with-r h =
      rw (
        other_at line (bytes "call") 1 (omega arith) (λ e. omega arith),
        other_at line (bytes "config") 1 (omega arith) (λ e. omega arith),
        other_at line (bytes "caps") 1 (omega arith) (λ e. omega arith),
      )

  without-r : (get_or line 1 0 ≡ 114 → ⊥) → named_among (map Made (Call ∷ Config ∷ Caps ∷ [])) line ≡ named_among words_with_c line
  without-r h = rw (other_at line (bytes "cri") 1 (omega arith) (λ e. h (sym e)), other_at line (bytes "crm") 1 (omega arith) (λ e. h (sym e)))

pub returns-in_err-get : goal.returns-in_err-get
returns-in_err-get c = c.from_residual.ensures ∙ none-short _ (omega (arith, c.in_err-get.ensures.lookup))

pub returns-in-114 : goal.returns-in-114
returns-in-114 c =
    let second = item-read _ 1 c.in_ok-get.field-0 c.in_ok-get.ensures.lookup in
    let found : c.or_else.result ≡ named_among (map Made (Cri ∷ Crm ∷ [])) c.args.line.now = search rules in
    found ∙ with-r _ (omega arith)

pub returns-in_default : goal.returns-in_default
returns-in_default c =
    let second = item-read _ 1 c.in_ok-get.field-0 c.in_ok-get.ensures.lookup in
    let line = c.args.line.now in
    let first : c.or_else-in_default.result ≡ named_among (map Made (Call ∷ Config ∷ [])) line = search rules in
    let other = named_among (Made Caps ∷ []) line in
    or_cases _ _ other c.or_else-in_default-2.ensures (λ p. search rules) ∙ ap (λ o. option_or o other) first
    ∙ or-among (map Made (Call ∷ Config ∷ [])) (Made Caps ∷ []) line ∙ without-r _ (λ e. omega arith)
