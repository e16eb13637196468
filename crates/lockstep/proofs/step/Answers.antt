-- `lockstep::step` meets its contract: by whether there is room for what is shown. Assumes nothing.
use mathlib.Core.Path.{refl, ap, ◌∙◌}
use borrow.Author.Tests.{le-ltb, lt-ltb}
use lib.Seq.{sets}
use Rattle.lockstep.specs.Lockstep.{shown_after, shown_by, stepped}
use Rattle.lockstep.specs.declared.Reply.{Reply}
use Rattle.lockstep.proofs.step.Goals as goal

pub returns-then-shown-lt-SHOWN_WORDS : goal.returns-then-shown-lt-SHOWN_WORDS
unfolding shown_after stepped
returns-then-shown-lt-SHOWN_WORDS c = rw (lt-ltb _ _ c.if-shown-lt-SHOWN_WORDS.true) record { answer = refl; words = refl; state = refl; shown = refl }

pub returns : goal.returns
unfolding shown_after stepped
returns c =
    let told = c.answer_words-reply.ensures in
    rw (le-ltb _ _ c.if-shown-lt-SHOWN_WORDS.false) record { answer = ap (λ (r : Reply). r.answer) told.reply; words = told.words; state = told.state; shown = c.store_shown.ensures ∙ ap (λ (r : Reply). sets c.args.shown.now 0 (shown_by r)) told.reply }
