-- `access` meets its contract: who denies, as the rule asks it, and what each answer changes. Assumes nothing.
use mathlib.Core.Path.{refl, sym, ◌∙◌}
use Rattle.model.specs.declared.answer.Answer.TheVariants.{Done, Refused, Intercept}
use Rattle.model.specs.declared.answer.Refusal.{Refusal}
use Rattle.model.specs.Memory.{host_denies}
use Rattle.model.specs.State.{host_mask_of, word_of}
use Rattle.access_events.proofs.AccessOutcome.{access-outcome}
use Rattle.access_events.proofs.Receivers.{receiver-by, denied-by}
use Rattle.model.proofs.Searches.{number-found, number-past}
use borrow.Author.Tests.{le-leb, lt-leb, eq-eqb, ne_eqb}
use Rattle.model.specs.Answers.{first_of}
use Rattle.access_events.proofs.access.Goals as goal

pub returns-then-setup-page : goal.returns-then-setup-page
unfolding first_of host_denies host_mask_of word_of
returns-then-setup-page c s v h k lends =
    let a = c.args in access-outcome s v a.request.mode a.request.page a.value h.there a.request.access (Refused Refusal.NoSuchPage) (rw (k.paged, le-leb _ _ c.if-setup-page.true)) ∙ rw (h.holds, lends.words)

pub returns-in-Some : goal.returns-in-Some
unfolding first_of host_denies host_mask_of word_of
returns-in-Some c s v h k lends =
    let found = number-found _ (sym c.lowest.ensures ∙ c.in-Some.is) in
    let a = c.args in access-outcome s v a.request.mode a.request.page a.value h.there a.request.access (Intercept c.in-Some.receiver) (rw (k.paged, lt-leb _ _ c.if-setup-page.false, receiver-by h k a.request.mode a.request.page a.request.access c.active_of-actor.result c.active_of-actor.ensures c.counting_set.result c.counting_set.ensures c.denying_set-denying.result.0 c.denying_set-denying.ensures c.enabled_set.result.0 _ c.enabled_set.ensures refl, found.0, found.1)) ∙ rw (c.enter.ensures, ← h.shaped, ← h.holds, ← lends.words)

pub returns-then-denying-ne0 : goal.returns-then-denying-ne0
unfolding first_of host_denies host_mask_of word_of
returns-then-denying-ne0 c s v h k lends =
    let a = c.args in access-outcome s v a.request.mode a.request.page a.value h.there a.request.access (Refused Refusal.NoReceiver) (rw (k.paged, lt-leb _ _ c.if-setup-page.false, receiver-by h k a.request.mode a.request.page a.request.access c.active_of-actor.result c.active_of-actor.ensures c.counting_set.result c.counting_set.ensures c.denying_set-denying.result.0 c.denying_set-denying.ensures c.enabled_set.result.0 _ c.enabled_set.ensures refl, number-past _ (sym c.lowest.ensures ∙ c.in_default.is), denied-by h k a.request.mode a.request.page a.request.access c.active_of-actor.result c.active_of-actor.ensures c.counting_set.result c.counting_set.ensures c.denying_set-denying.result.0 c.denying_set-denying.ensures, ne_eqb _ 0 c.if-denying-ne0.true)) ∙ rw (h.holds, lends.words)

pub returns-then-host_denies : goal.returns-then-host_denies
unfolding first_of host_denies host_mask_of word_of
returns-then-host_denies c s v h k lends =
    let a = c.args in access-outcome s v a.request.mode a.request.page a.value h.there a.request.access (Refused Refusal.HostDenies) (rw (k.paged, lt-leb _ _ c.if-setup-page.false, receiver-by h k a.request.mode a.request.page a.request.access c.active_of-actor.result c.active_of-actor.ensures c.counting_set.result c.counting_set.ensures c.denying_set-denying.result.0 c.denying_set-denying.ensures c.enabled_set.result.0 _ c.enabled_set.ensures refl, number-past _ (sym c.lowest.ensures ∙ c.in_default.is), denied-by h k a.request.mode a.request.page a.request.access c.active_of-actor.result c.active_of-actor.ensures c.counting_set.result c.counting_set.ensures c.denying_set-denying.result.0 c.denying_set-denying.ensures, eq-eqb _ 0 c.if-denying-ne0.false, lends.host, ← c.host_denies.ensures, c.if-host_denies.true)) ∙ rw (h.holds, lends.words)

pub returns : goal.returns
unfolding first_of host_denies host_mask_of word_of
returns c s v h k lends =
    let a = c.args in access-outcome s v a.request.mode a.request.page a.value h.there a.request.access (Done c.access_value-result.result) (rw (k.paged, lt-leb _ _ c.if-setup-page.false, receiver-by h k a.request.mode a.request.page a.request.access c.active_of-actor.result c.active_of-actor.ensures c.counting_set.result c.counting_set.ensures c.denying_set-denying.result.0 c.denying_set-denying.ensures c.enabled_set.result.0 _ c.enabled_set.ensures refl, number-past _ (sym c.lowest.ensures ∙ c.in_default.is), denied-by h k a.request.mode a.request.page a.request.access c.active_of-actor.result c.active_of-actor.ensures c.counting_set.result c.counting_set.ensures c.denying_set-denying.result.0 c.denying_set-denying.ensures, eq-eqb _ 0 c.if-denying-ne0.false, lends.host, ← c.host_denies.ensures, c.if-host_denies.false, c.access_value-result.ensures, c.word_at.ensures, ← lends.words)) ∙ rw (c.store_word.ensures, ← h.holds, ← lends.words)
