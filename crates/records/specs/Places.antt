-- The sequence of a state's records after the first (02, request 2): all indices rise, levels to M only. V, M, P and Dr6Shared decide
-- which records there are. A later request adds its places to the end of `places`. Assumes nothing.
use Rattle.std.specs.Prelude.{Bool, not, cond, ◌&&◌, List, [], ◌∷◌, ◌++◌, ℕ, zero, suc, ◌+◌, ◌*◌, eqb, ltb}
use Rattle.model.specs.declared.machine.Setup.{Setup}
use Rattle.model.specs.Registers.{is_private}
use Rattle.model.specs.declared.machine.Shape.{Shape}
use Rattle.model.specs.declared.quantity.Level.{Level}
use Rattle.model.specs.State.{level, top, is_index, is_level}
use Rattle.model.specs.declared.quantity.Page.{Page}
use Rattle.model.specs.declared.quantity.Processor.{Processor}
use Rattle.script.specs.EventForms.{processor, page}
pub use Rattle.records.specs.declared.place.Place.{Place}
pub use Rattle.records.specs.declared.place.Place.TheVariants.{PartitionEnabled, Mbec, Config, Active, Shared, Register, Tpr, Pending, Enabled, Secure, Reason, From, Rax, Rcx, Word, Mask, Intercepts, Cr0Mask, Cr4Mask}

-- What stands at each of `count` numbers from `start` up, one after the other.
unfoldable pub rising : {A : Type 0} → ℕ → ℕ → (ℕ → List A) → List A
rising start zero f = []
rising start (suc count) f = f start ++ rising (suc start) count f

-- Registers 0..11 are private, and 12 unless Dr6Shared is 1; the others, to 31, are shared.
abbrev pub private_count : Shape → ℕ
private_count z = cond z.dr6_shared 12 13

abbrev pub shared_count : Shape → ℕ
shared_count z = cond z.dr6_shared 20 19

-- Per level from 1 `enabled`, `mbec`, `config`.
abbrev pub level_places : Level → List Place
level_places t = PartitionEnabled t ∷ Mbec t ∷ Config t ∷ []

-- Per processor `active`, and `shared` per shared register.
abbrev pub processor_places : Shape → Processor → List Place
processor_places z v = Active v ∷ rising (private_count z) (shared_count z) (λ r. Shared v r ∷ [])

-- From level 1 also `enabled`, `secure` per lower level, and `reason`, `from`, `rax`, `rcx`.
abbrev pub upper_places : Processor → Level → List Place
upper_places v l =
    Enabled v l ∷ rising 0 l.0 (λ k. Secure v l (level k) ∷ []) ++ Reason v l ∷ From v l ∷ Rax v l ∷ Rcx v l ∷ []

-- Per processor and level `reg` per private register, `tpr`, `pend` 0 to 3.
abbrev pub context_places : Shape → Processor → Level → List Place
context_places z v l =
    rising 0 (private_count z) (λ r. Register v l r ∷ [])
    ++ Tpr v l ∷ rising 0 4 (λ i. Pending v l i ∷ []) ++ cond (eqb l.0 0) [] (upper_places v l)

-- Per page `word`, and `mask` per level from 1.
abbrev pub page_places : Shape → Page → List Place
page_places z p = Word p ∷ rising 1 (top z) (λ t. Mask p (level t) ∷ [])

-- What stands at each processor and each level from 1.
abbrev pub per_upper : {A : Type 0} → Setup → (Processor → Level → List A) → List A
per_upper setup f = rising 0 setup.processors (λ v. rising 1 (top setup.shape) (λ t. f (processor v) (level t)))

-- Per processor and level from 1 `crm` for CR0 and for CR4 (02, request 6).
abbrev pub cr_mask_places : Processor → Level → List Place
cr_mask_places v t = Cr0Mask v t ∷ Cr4Mask v t ∷ []

-- The six parts of the sequence, and the whole.
abbrev pub of_levels : Setup → List Place
of_levels setup = rising 1 (top setup.shape) (λ t. level_places (level t))

abbrev pub of_processors : Setup → List Place
of_processors setup = rising 0 setup.processors (λ v. processor_places setup.shape (processor v))

abbrev pub of_contexts : Setup → List Place
of_contexts setup =
    rising 0 setup.processors (λ v. rising 0 (suc (top setup.shape)) (λ l. context_places setup.shape (processor v) (level l)))

abbrev pub of_pages : Setup → List Place
of_pages setup = rising 0 setup.pages (λ p. page_places setup.shape (page p))

-- Request 6 of 02 adds the words of `cri`, then those of `crm`.
abbrev pub of_intercepts : Setup → List Place
of_intercepts setup = per_upper setup (λ v t. Intercepts v t ∷ [])

abbrev pub of_cr_masks : Setup → List Place
of_cr_masks setup = per_upper setup cr_mask_places

unfoldable pub places : Setup → List Place
places setup = of_levels setup ++ of_processors setup ++ of_contexts setup ++ of_pages setup ++ of_intercepts setup ++ of_cr_masks setup

-- The same places by a test of each: one of the V processors, a level from 1 to M, and so on.
abbrev pub known : Setup → Processor → Bool
known setup v = is_index setup.processors v.0

abbrev pub upper : Shape → Level → Bool
upper z t = ltb 0 t.0 && is_level z t.0

unfoldable pub has : Setup → Place → Bool
has setup (PartitionEnabled t) = upper setup.shape t
has setup (Mbec t) = upper setup.shape t
has setup (Config t) = upper setup.shape t
has setup (Active v) = known setup v
has setup (Shared v r) = known setup v && (not (is_private setup.shape r) && ltb r 32)
has setup (Register v l r) = known setup v && (is_level setup.shape l.0 && is_private setup.shape r)
has setup (Tpr v l) = known setup v && is_level setup.shape l.0
has setup (Pending v l i) = known setup v && (is_level setup.shape l.0 && ltb i 4)
has setup (Enabled v l) = known setup v && upper setup.shape l
has setup (Secure v l k) = known setup v && (is_level setup.shape l.0 && ltb k.0 l.0)
has setup (Reason v l) = known setup v && upper setup.shape l
has setup (From v l) = known setup v && upper setup.shape l
has setup (Rax v l) = known setup v && upper setup.shape l
has setup (Rcx v l) = known setup v && upper setup.shape l
has setup (Word p) = ltb p.0 setup.pages
has setup (Mask p t) = upper setup.shape t && (ltb p.0 setup.pages && ltb p.0 64)
has setup (Intercepts v t) = known setup v && upper setup.shape t
has setup (Cr0Mask v t) = known setup v && upper setup.shape t
has setup (Cr4Mask v t) = known setup v && upper setup.shape t

-- A number for each place, rising along the sequence with gaps: a processor has 100, 400, 10 and 10 of them, a level 100, a page 10.
abbrev pub context_rank : Processor → Level → ℕ
context_rank v l = 500 + 400 * v.0 + 100 * l.0

unfoldable pub rank : Place → ℕ
rank (PartitionEnabled t) = 4 * t.0
rank (Mbec t) = 4 * t.0 + 1
rank (Config t) = 4 * t.0 + 2
rank (Active v) = 100 + 100 * v.0
rank (Shared v r) = 100 + 100 * v.0 + r
rank (Register v l r) = context_rank v l + r
rank (Tpr v l) = context_rank v l + 20
rank (Pending v l i) = context_rank v l + 21 + i
rank (Enabled v l) = context_rank v l + 30
rank (Secure v l k) = context_rank v l + 31 + k.0
rank (Reason v l) = context_rank v l + 40
rank (From v l) = context_rank v l + 41
rank (Rax v l) = context_rank v l + 42
rank (Rcx v l) = context_rank v l + 43
rank (Word p) = 2100 + 10 * p.0
rank (Mask p t) = 2100 + 10 * p.0 + t.0
rank (Intercepts v t) = 2800 + 10 * v.0 + t.0
rank (Cr0Mask v t) = 2900 + 10 * v.0 + 2 * t.0
rank (Cr4Mask v t) = 2900 + 10 * v.0 + 2 * t.0 + 1

-- All ranks of a machine lie below this one.
abbrev pub end_rank : Setup → ℕ
end_rank setup = 2900 + 10 * setup.processors
