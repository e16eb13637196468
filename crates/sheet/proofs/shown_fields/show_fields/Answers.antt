-- `shown_fields::show_fields` meets its contract. The loop's invariant is `Showing`. Assumes nothing.
use lib.Dec.{eqb}
use Rattle.std.proofs.Common.{rules, tests, ◌≡◌, ◌<◌, List, length, get_or, ap, ◌∙◌}
use Rattle.std.specs.Iterator.{Yields}
use Rattle.std.specs.Prelude.{None, Option, Some}
use Rattle.std.proofs.lemmas.Iterator.{YieldsList}
use Rattle.std.proofs.lemmas.Iterator.Consumers.{YieldsList-end, YieldsList-turn}
use Rattle.std.proofs.lemmas.Iterator.Splits.{YieldsList-from_slice_split}
use Rattle.std.proofs.lemmas.List.{length_push}
use Rattle.std.specs.Slice.Iter.{split_callee, split_done, split_rest}
use Rattle.script.specs.LineForms.{tab}
use Rattle.sheet.proofs.FieldShowing.{all_shown, field_room, none-shown, one-shown, parts-fields}
use Rattle.sheet.proofs.shown_fields.show_fields.Goals as goal

-- The lemmas of std, with the list last: what the loop did says which it is.
turned : {S A B : Type 0} {steps : S → Option A → S → Type 0} {v : A → B} {s : S} {all : List B} (xs : List A) (t : S) (y : Yields steps s xs t)
    (r : Option A) (u : S) (x : A) → r ≡ Some x → steps t r u → YieldsList steps v s all → (length xs < length all) × (v x ≡ get_or all (length xs) (v x))
turned xs t y r u x is step e = YieldsList-turn e xs t y r u x is step

ended-after : {S A B : Type 0} {steps : S → Option A → S → Type 0} {v : A → B} {s : S} {all : List B} (xs : List A) (t : S) (y : Yields steps s xs t)
    (r : Option A) (u : S) → r ≡ None → steps t r u → YieldsList steps v s all → length xs ≡ length all
ended-after xs t y r u is step e = (YieldsList-end e xs t y r u is step).1

pub loop-field-init : goal.loop-field-init
loop-field-init c = none-shown _ _ _

pub show_field-at-requires : goal.show_field-at-requires
show_field-at-requires c =
    let gives = c.into_iter-field-iterator.ensures.into_iter_gives in
    let split = c.split-field-items.ensures in
    let there = turned c.loop-field.yielded _ c.loop-field.yielded_by _ _ c.in-Some.field c.in-Some.is c.next.ensures.steps
    (YieldsList-from_slice_split _ (λ b. eqb b tab) c.args.sheet.now (ap split_rest gives ∙ split.rest) (ap split_done gives ∙ split.done)
    (ap split_callee gives ∙ split.closure) (λ x r q k. search (rules, tests))) in
    let field = rw (parts-fields c.args.sheet.now) at there in
    field_room c.loop-field.invariant c.in-Some.field.now field c.requires

pub loop-field-preserved : goal.loop-field-preserved
loop-field-preserved c =
    let gives = c.into_iter-field-iterator.ensures.into_iter_gives in
    let split = c.split-field-items.ensures in
    let there = turned c.loop-field.yielded _ c.loop-field.yielded_by _ _ c.in-Some.field c.in-Some.is c.next.ensures.steps
    (YieldsList-from_slice_split _ (λ b. eqb b tab) c.args.sheet.now (ap split_rest gives ∙ split.rest) (ap split_done gives ∙ split.done)
    (ap split_callee gives ∙ split.closure) (λ x r q k. search (rules, tests))) in
    let field = rw (parts-fields c.args.sheet.now) at there in
    one-shown c.loop-field.invariant c.in-Some.field.now field (length_push c.loop-field.yielded c.in-Some.field) c.show_field-at.ensures

pub returns : goal.returns
returns c =
    let gives = c.into_iter-field-iterator.ensures.into_iter_gives in
    let split = c.split-field-items.ensures in
    let end = ended-after c.loop-field.yielded _ c.loop-field.yielded_by _ _ c.in-None.is c.next.ensures.steps
    (YieldsList-from_slice_split _ (λ b. eqb b tab) c.args.sheet.now (ap split_rest gives ∙ split.rest) (ap split_done gives ∙ split.done)
    (ap split_callee gives ∙ split.closure) (λ x r q k. search (rules, tests))) in
    all_shown c.loop-field.invariant (rw (parts-fields c.args.sheet.now) at end)
