-- `script::words::word_of` meets its contract: each arm looks for the words that begin with its byte.
-- Assumes nothing.
use Rattle.std.proofs.Common.{rules}
use Rattle.std.specs.Option.{option_or}
use mathlib.Core.List.{[], ◌∷◌, map}
use mathlib.Core.Path.{◌≡◌, refl, ap, ◌∙◌}
use native.Mathlib.Omega.{arith}
use lib.ListN.{get_or}
use Rattle.script.specs.EventWords.{named_among, words}
use Rattle.script.specs.declared.words.ActionWord.TheVariants.{Enpart, Envp, Fetch, Flush, Protect, Pstat, Read, Ret, Rreg, Wreg, Write}
use Rattle.script.specs.declared.words.Word.TheVariants.{Made}
use Rattle.script.proofs.FieldPlaces.{item-read}
use Rattle.script.proofs.Naming.{◌and◌, by_first, done, none-empty, none_first, or-among, or_cases, with_first}
use Rattle.script.proofs.words.word_of.Goals as goal

pub returns-in_err-first : goal.returns-in_err-first
returns-in_err-first c = c.from_residual.ensures ∙ none-empty words _ refl (omega (arith, c.in_err-first.ensures.item))

pub returns-in_default : goal.returns-in_default
returns-in_default c =
    let first = item-read _ 0 c.in_ok-first.field-0 c.in_ok-first.ensures.item in
    let no-a : get_or c.args.line.now 0 0 ≡ 97 → ⊥ = λ e. omega arith in
    let no-c : get_or c.args.line.now 0 0 ≡ 99 → ⊥ = λ e. omega arith in
    let no-e : get_or c.args.line.now 0 0 ≡ 101 → ⊥ = λ e. omega arith in
    let no-f : get_or c.args.line.now 0 0 ≡ 102 → ⊥ = λ e. omega arith in
    let no-i : get_or c.args.line.now 0 0 ≡ 105 → ⊥ = λ e. omega arith in
    let no-p : get_or c.args.line.now 0 0 ≡ 112 → ⊥ = λ e. omega arith in
    let no-r : get_or c.args.line.now 0 0 ≡ 114 → ⊥ = λ e. omega arith in
    let no-s : get_or c.args.line.now 0 0 ≡ 115 → ⊥ = λ e. omega arith in
    let no-t : get_or c.args.line.now 0 0 ≡ 116 → ⊥ = λ e. omega arith in
    let no-v : get_or c.args.line.now 0 0 ≡ 118 → ⊥ = λ e. omega arith in
    let no-w : get_or c.args.line.now 0 0 ≡ 119 → ⊥ = λ e. omega arith in
    none_first words _ refl
    (no-i and no-e and no-e and no-c and no-r and no-r and no-w and no-f and no-p and no-c and no-s and no-f and no-r and no-w and no-t and no-a and no-p and no-v and no-c and no-c and no-c and done)

pub returns-in-97 : goal.returns-in-97
unfolding with_first
returns-in-97 c =
    let first = item-read _ 0 c.in_ok-first.field-0 c.in_ok-first.ensures.item in
    rw c.made.ensures (by_first words _ 97 refl (omega arith))

pub returns-in-99 : goal.returns-in-99
unfolding with_first
returns-in-99 c =
    let first = item-read _ 0 c.in_ok-first.field-0 c.in_ok-first.ensures.item in
    rw c.word_with_c.ensures (by_first words _ 99 refl (omega arith))

pub returns-in-101 : goal.returns-in-101
unfolding with_first
returns-in-101 c =
    let first = item-read _ 0 c.in_ok-first.field-0 c.in_ok-first.ensures.item in
    let found : c.or_else.result ≡ named_among (map Made (Enpart ∷ Envp ∷ [])) c.args.line.now = search rules in
    found ∙ by_first words _ 101 refl (omega arith)

pub returns-in-102 : goal.returns-in-102
unfolding with_first
returns-in-102 c =
    let first = item-read _ 0 c.in_ok-first.field-0 c.in_ok-first.ensures.item in
    let found : c.or_else-in-102.result ≡ named_among (map Made (Fetch ∷ Flush ∷ [])) c.args.line.now = search rules in
    found ∙ by_first words _ 102 refl (omega arith)

pub returns-in-105 : goal.returns-in-105
unfolding with_first
returns-in-105 c =
    let first = item-read _ 0 c.in_ok-first.field-0 c.in_ok-first.ensures.item in
    rw c.pick.ensures (by_first words _ 105 refl (omega arith))

pub returns-in-112 : goal.returns-in-112
unfolding with_first
returns-in-112 c =
    let first = item-read _ 0 c.in_ok-first.field-0 c.in_ok-first.ensures.item in
    let found : c.or_else-in-112.result ≡ named_among (map Made (Protect ∷ Pstat ∷ [])) c.args.line.now = search rules in
    found ∙ by_first words _ 112 refl (omega arith)

pub returns-in-114 : goal.returns-in-114
unfolding with_first
returns-in-114 c =
    let first = item-read _ 0 c.in_ok-first.field-0 c.in_ok-first.ensures.item in
    let line = c.args.line.now in
    let two : c.or_else-in-114.result ≡ named_among (map Made (Ret ∷ Read ∷ [])) line = search rules in
    let other = named_among (Made Rreg ∷ []) line in
    or_cases _ _ other c.or_else-in-114-2.ensures (λ p. search rules) ∙ ap (λ o. option_or o other) two
    ∙ or-among (map Made (Ret ∷ Read ∷ [])) (Made Rreg ∷ []) line ∙ by_first words _ 114 refl (omega arith)

pub returns-in-115 : goal.returns-in-115
unfolding with_first
returns-in-115 c =
    let first = item-read _ 0 c.in_ok-first.field-0 c.in_ok-first.ensures.item in
    rw c.made-in-115.ensures (by_first words _ 115 refl (omega arith))

pub returns-in-116 : goal.returns-in-116
unfolding with_first
returns-in-116 c =
    let first = item-read _ 0 c.in_ok-first.field-0 c.in_ok-first.ensures.item in
    rw c.made-in-116.ensures (by_first words _ 116 refl (omega arith))

pub returns-in-118 : goal.returns-in-118
unfolding with_first
returns-in-118 c =
    let first = item-read _ 0 c.in_ok-first.field-0 c.in_ok-first.ensures.item in
    rw c.made-in-118.ensures (by_first words _ 118 refl (omega arith))

pub returns-in-119 : goal.returns-in-119
unfolding with_first
returns-in-119 c =
    let first = item-read _ 0 c.in_ok-first.field-0 c.in_ok-first.ensures.item in
    let found : c.or_else-in-119.result ≡ named_among (map Made (Write ∷ Wreg ∷ [])) c.args.line.now = search rules in
    found ∙ by_first words _ 119 refl (omega arith)
