-- The walk along the sequence of the records: the place that is due after another. Each definition gives the next place of a loop, or what
-- follows the loop. Assumes nothing.
use Rattle.std.specs.Prelude.{cond, ◌&&◌, ℕ, ◌+◌, eqb, ltb, leb, None, Option, Some}
use Rattle.model.specs.declared.machine.Setup.{Setup}
use Rattle.model.specs.declared.quantity.Page.{Page}
use Rattle.model.specs.declared.quantity.Processor.{Processor}
use Rattle.model.specs.declared.quantity.Level.{Level}
use Rattle.model.specs.State.{level, top}
use Rattle.script.specs.EventForms.{processor, page}
use Rattle.records.specs.Places.{Place, PartitionEnabled, Mbec, Config, Active, Shared, Register, Tpr, Pending, Enabled, Secure, Reason, From, Rax, Rcx, Word, Mask, Intercepts, Cr0Mask, Cr4Mask, private_count}
use Rattle.records.specs.declared.place.Place.{Place}

-- The levels from 1 of all processors: the first one from a processor on, and from a level of a processor on.
abbrev pub upper_from : Setup → ℕ → Option (Processor × Level)
upper_from setup v = cond (ltb v setup.processors && ltb 0 (top setup.shape)) (Some (processor v, level 1)) None

unfoldable pub upper_at : Setup → Processor → ℕ → Option (Processor × Level)
upper_at setup v t = cond (leb t (top setup.shape)) (Some (v, level t)) (upper_from setup (v.0 + 1))

-- The place of such a level, or what follows where there is none.
abbrev pub placed : (Processor → Level → Place) → Option Place → Option (Processor × Level) → Option Place
placed place end (Some (v, t)) = Some (place v t)
placed place end None = end

abbrev pub to_cr_mask : Option (Processor × Level) → Option Place
to_cr_mask upper = placed Cr0Mask None upper

abbrev pub to_intercepts : Setup → Option (Processor × Level) → Option Place
to_intercepts setup upper = placed Intercepts (to_cr_mask (upper_from setup 0)) upper

unfoldable pub to_page : Setup → ℕ → Option Place
to_page setup p = cond (ltb p setup.pages) (Some (Word (page p))) (to_intercepts setup (upper_from setup 0))

unfoldable pub to_mask : Setup → Page → ℕ → Option Place
to_mask setup p t = cond (leb t (top setup.shape)) (Some (Mask p (level t))) (to_page setup (p.0 + 1))

unfoldable pub to_contexts : Setup → ℕ → Option Place
to_contexts setup v = cond (ltb v setup.processors) (Some (Register (processor v) (level 0) 0)) (to_page setup 0)

unfoldable pub to_context : Setup → Processor → ℕ → Option Place
to_context setup v l = cond (leb l (top setup.shape)) (Some (Register v (level l) 0)) (to_contexts setup (v.0 + 1))

unfoldable pub to_register : Setup → Processor → Level → ℕ → Option Place
to_register setup v l r = cond (ltb r (private_count setup.shape)) (Some (Register v l r)) (Some (Tpr v l))

unfoldable pub to_pending : Setup → Processor → Level → ℕ → Option Place
to_pending setup v l i =
    cond (ltb i 4) (Some (Pending v l i)) (cond (eqb l.0 0) (to_context setup v (l.0 + 1)) (Some (Enabled v l)))

unfoldable pub to_secure : Processor → Level → ℕ → Option Place
to_secure v l k = cond (ltb k l.0) (Some (Secure v l (level k))) (Some (Reason v l))

unfoldable pub to_processor : Setup → ℕ → Option Place
to_processor setup v = cond (ltb v setup.processors) (Some (Active (processor v))) (to_contexts setup 0)

unfoldable pub to_shared : Setup → Processor → ℕ → Option Place
to_shared setup v r = cond (ltb r 32) (Some (Shared v r)) (to_processor setup (v.0 + 1))

unfoldable pub to_level : Setup → ℕ → Option Place
to_level setup t = cond (leb t (top setup.shape)) (Some (PartitionEnabled (level t))) (to_processor setup 0)

-- The place after another, and the first.
unfoldable pub next_of : Setup → Place → Option Place
next_of setup (PartitionEnabled t) = Some (Mbec t)
next_of setup (Mbec t) = Some (Config t)
next_of setup (Config t) = to_level setup (t.0 + 1)
next_of setup (Active v) = Some (Shared v (private_count setup.shape))
next_of setup (Shared v r) = to_shared setup v (r + 1)
next_of setup (Register v l r) = to_register setup v l (r + 1)
next_of setup (Tpr v l) = Some (Pending v l 0)
next_of setup (Pending v l i) = to_pending setup v l (i + 1)
next_of setup (Enabled v l) = to_secure v l 0
next_of setup (Secure v l k) = to_secure v l (k.0 + 1)
next_of setup (Reason v l) = Some (From v l)
next_of setup (From v l) = Some (Rax v l)
next_of setup (Rax v l) = Some (Rcx v l)
next_of setup (Rcx v l) = to_context setup v (l.0 + 1)
next_of setup (Word p) = to_mask setup p 1
next_of setup (Mask p t) = to_mask setup p (t.0 + 1)
next_of setup (Intercepts v t) = to_intercepts setup (upper_at setup v (t.0 + 1))
next_of setup (Cr0Mask v t) = Some (Cr4Mask v t)
next_of setup (Cr4Mask v t) = to_cr_mask (upper_at setup v (t.0 + 1))

abbrev pub first_due : Setup → Option Place
first_due setup = to_level setup 1
