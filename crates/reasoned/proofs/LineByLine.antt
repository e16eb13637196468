-- For callers: a script that is fed line by line, each time what is left of it, until all is used. Assumes nothing.
use Rattle.std.proofs.Common.{◌≡◌, ℕ, ◌+◌, ◌-◌, ◌<◌, ◌≤◌, List, ◌++◌, length, take, sym, ap, ◌∙◌, arith, length-drop, take-add}
use borrow.Rule.Slice.PartMut.{mid_of}
use Rattle.session.proofs.Callers.{part-whole}
use Rattle.session.specs.Session.{Progress, consumed}
use Rattle.reasoned.specs.ReasonedSession.{line_used, told}
use Rattle.reasoned.proofs.WholeReasons.{cut-in-two}

-- Every line uses something, and no more than is left.
pub line-moves : (input : List ℕ) (at used : ℕ) → used ≡ line_used (mid_of at (length input - at) input) → at < length input
    → (at < at + used) × (at + used ≤ length input)
line-moves input at used e inside =
    let size : length (mid_of at (length input - at) input) ≡ length input - at = ap length (part-whole input at) ∙ length-drop at input in
    omega arith

-- So much of an input was used from p on, and then a line more.
module _ (p q : Progress) (input : List ℕ) (at used : ℕ) (reached : q ≡ (consumed p (take at input)).progress)
    (uses : used ≡ line_used (mid_of at (length input - at) input)) where
  abbrev piece : List ℕ
  piece = take (line_used (mid_of at (length input - at) input)) (mid_of at (length input - at) input)

  both : take (at + used) input ≡ take at input ++ piece
  both = take-add at used input ∙ ap (λ (l : List ℕ). take at input ++ take used l) (sym (part-whole input at)) ∙ ap (λ (n : ℕ). take at input ++ take n (mid_of at (length input - at) input)) uses

  pub line-progress : (r : Progress) → r ≡ (consumed q piece).progress → r ≡ (consumed p (take (at + used) input)).progress
  line-progress r e =
      e
      ∙ ap (λ (x : Progress). (consumed x piece).progress) reached
      ∙ sym (cut-in-two p (take at input) piece).progress
      ∙ ap (λ (l : List ℕ). (consumed p l).progress) (sym both)

  pub line-text : told p (take (at + used) input) ≡ told p (take at input) ++ told q piece
  line-text =
      ap (told p) both
      ∙ (cut-in-two p (take at input) piece).text
      ∙ ap (λ (x : Progress). told p (take at input) ++ told x piece) (sym reached)
