-- The bounds of the indices of a place that a state has. Assumes nothing.
use mathlib.Core.Path.{◌≡◌, sym, ◌∙◌}
use mathlib.Core.Bool.{Bool, true, not, ◌&&◌}
use Prim.Native.Nat.{◌≤◌, ◌<◌}
use native.Mathlib.Omega.{arith}
use lib.Dec.{ltb, leb}
use borrow.Author.Tests.{ltb-true, ltb-false, not-true}
use Rattle.model.specs.Registers.{is_private}
use Rattle.model.specs.State.{top, is_level}
use Rattle.model.specs.declared.quantity.Level.{Level}
use Rattle.model.specs.declared.quantity.Processor.{Processor}
use Rattle.model.proofs.Bools.{and_left, and_right}
use Rattle.model.specs.declared.machine.Setup.{Setup}
use Rattle.records.specs.Places.{Place, PartitionEnabled, Mbec, Config, Active, Shared, Register, Tpr, Pending, Enabled, Secure, Reason, From, Rax, Rcx, Word, Mask, Intercepts, Cr0Mask, Cr4Mask, known, upper, has, private_count}
use Rattle.records.proofs.Sequence.{private-count, count-bounds, first_two, third}

abbrev pub Limits : Setup → Place → Type 0
Limits c (PartitionEnabled t) = (0 < t.0) × (t.0 < 4)
Limits c (Mbec t) = (0 < t.0) × (t.0 < 4)
Limits c (Config t) = (0 < t.0) × (t.0 < 4)
Limits c (Active v) = (v.0 < 4) × Unit {0}
Limits c (Shared v r) = (v.0 < 4) × (12 ≤ r) × (r < 32)
Limits c (Register v l r) = (v.0 < 4) × (l.0 < 4) × (r < 13)
Limits c (Tpr v l) = (v.0 < 4) × (l.0 < 4)
Limits c (Pending v l i) = (v.0 < 4) × (l.0 < 4) × (i < 4)
Limits c (Enabled v l) = (v.0 < 4) × (l.0 < 4) × (0 < l.0)
Limits c (Secure v l k) = (v.0 < 4) × (l.0 < 4) × (k.0 < l.0)
Limits c (Reason v l) = (v.0 < 4) × (l.0 < 4)
Limits c (From v l) = (v.0 < 4) × (l.0 < 4)
Limits c (Rax v l) = (v.0 < 4) × (l.0 < 4)
Limits c (Rcx v l) = (v.0 < 4) × (l.0 < 4)
Limits c (Word p) = (p.0 < c.pages) × Unit {0}
Limits c (Mask p t) = (p.0 < c.pages) × (p.0 < 64) × (t.0 < 4)
Limits c (Intercepts v l) = (v.0 < 4) × (l.0 < 4)
Limits c (Cr0Mask v l) = (v.0 < 4) × (l.0 < 4)
Limits c (Cr4Mask v l) = (v.0 < 4) × (l.0 < 4)

module _ (c : Setup) where
  four : (l : Level) → is_level c.shape l.0 ≡ true → l.0 < 4
  unfolding is_level
  four l h = ltb-true l.0 4 (and_right (leb l.0 (top c.shape)) (ltb l.0 4) h)

  over : (t : Level) → upper c.shape t ≡ true → (0 < t.0) × (t.0 < 4)
  over t h =
      (ltb-true 0 t.0 (and_left (ltb 0 t.0) (is_level c.shape t.0) h), four t (and_right (ltb 0 t.0) (is_level c.shape t.0) h))

  room : (v : Processor) (b : Bool) → (known c v && b) ≡ true → v.0 < 4
  room v b h = ltb-true v.0 4 (and_right (ltb v.0 c.processors) (ltb v.0 4) (and_left (known c v) b h))

  both : (v : Processor) (l : Level) → (known c v && upper c.shape l) ≡ true → (v.0 < 4) × (l.0 < 4) × (0 < l.0)
  both v l h = let u = over l (and_right (known c v) (upper c.shape l) h) in (room v _ h, u.1, u.0)

  two : (v : Processor) (l : Level) → (known c v && upper c.shape l) ≡ true → (v.0 < 4) × (l.0 < 4)
  two v l h = ((both v l h).0, (both v l h).1)

  middle : (a b d : Bool) → (a && (b && d)) ≡ true → b ≡ true
  middle a b d h = and_right a b (first_two a b d h)

  pub limits : (p : Place) → has c p ≡ true → Limits c p
  unfolding has
  limits (PartitionEnabled t) h = over t h
  limits (Mbec t) h = over t h
  limits (Config t) h = over t h
  limits (Active v) h = (ltb-true v.0 4 (and_right (ltb v.0 c.processors) (ltb v.0 4) h), tt)
  limits (Shared v r) h =
      let low = ltb-false r (private_count c.shape) (sym (private-count c.shape r) ∙ not-true _ (middle (known c v) (not (is_private c.shape r)) (ltb r 32) h)) in
      (room v _ h, omega (arith, count-bounds c.shape), ltb-true r 32 (third (known c v) (not (is_private c.shape r)) (ltb r 32) h))
  limits (Register v l r) h =
      let low = ltb-true r (private_count c.shape) (sym (private-count c.shape r) ∙ third (known c v) (is_level c.shape l.0) (is_private c.shape r) h) in
      (room v _ h, four l (middle (known c v) (is_level c.shape l.0) (is_private c.shape r) h), omega (arith, count-bounds c.shape))
  limits (Tpr v l) h = (room v _ h, four l (and_right (known c v) (is_level c.shape l.0) h))
  limits (Pending v l i) h =
      (room v _ h, four l (middle (known c v) (is_level c.shape l.0) (ltb i 4) h), ltb-true i 4 (third (known c v) (is_level c.shape l.0) (ltb i 4) h))
  limits (Enabled v l) h = both v l h
  limits (Secure v l k) h = (
    room v _ h,
    four l (middle (known c v) (is_level c.shape l.0) (ltb k.0 l.0) h),
    ltb-true k.0 l.0 (third (known c v) (is_level c.shape l.0) (ltb k.0 l.0) h),
  )
  limits (Reason v l) h = two v l h
  limits (From v l) h = two v l h
  limits (Rax v l) h = two v l h
  limits (Rcx v l) h = two v l h
  limits (Word p) h = (ltb-true p.0 c.pages h, tt)
  limits (Mask p t) h = (
    ltb-true p.0 c.pages (middle (upper c.shape t) (ltb p.0 c.pages) (ltb p.0 64) h),
    ltb-true p.0 64 (third (upper c.shape t) (ltb p.0 c.pages) (ltb p.0 64) h),
    (over t (and_left (upper c.shape t) _ h)).1,
  )
  limits (Intercepts v l) h = two v l h
  limits (Cr0Mask v l) h = two v l h
  limits (Cr4Mask v l) h = two v l h
