-- The state that is made of quantities has them at its places. Assumes nothing.
use mathlib.Core.Path.{◌≡◌, refl, sym, ap, ◌∙◌}
use mathlib.Core.Bool.{Bool, true, false, not, cond, ◌&&◌}
use Prim.Native.Nat.{ℕ, ◌+◌, ◌-◌, ◌*◌, ◌/◌, ◌%◌, ◌≤◌, ◌<◌}
use native.Mathlib.Omega.{arith}
use lib.Dec.{ltb, leb, eqb}
use lib.ListN.{get_or}
use borrow.Author.Tests.{ltb-true, ltb-false, eqb-true, eqb-false, ne_eqb, not-true}
use Rattle.model.specs.declared.machine.Context.{Context}
use Rattle.model.specs.declared.machine.VirtualProcessor.{VirtualProcessor}
use Rattle.model.specs.Arrays.{number_at}
use Rattle.model.specs.Registers.{is_private, private_of, shared_of}
use Rattle.model.specs.declared.quantity.Level.{Level}
use Rattle.model.specs.declared.quantity.Page.{Page}
use Rattle.model.specs.declared.quantity.Processor.{Processor}
use Rattle.model.specs.State.{State, level, processors, pages, partition, shape, top, in_set, is_level, is_processor, is_page, vp, context, active_of, active, enabled_at, enabled_on, enabled_for, mbec_for, config_in, config_of, mask_in, mask_of, word_of, secure_of, no_vp, past_vp, past_context}
use Rattle.model.proofs.Bools.{and_left, and_right}
use Rattle.model.proofs.Sets.{bit-bits}
use Rattle.script.specs.EventForms.{processor, page}
use Rattle.model.specs.declared.machine.Setup.{Setup}
use Rattle.records.specs.Places.{Place, PartitionEnabled, Mbec, Config, Active, Shared, Register, Tpr, Pending, Enabled, Secure, Reason, From, Rax, Rcx, Word, Mask, Intercepts, Cr0Mask, Cr4Mask, known, upper, has, private_count}
use Rattle.records.specs.Reading.{is_flag}
use Rattle.records.specs.Values.{number, value_at, set_from, context_from, vp_from, state_from}
use Rattle.records.proofs.Sequence.{private-count, count-bounds, third, first_two}
use Rattle.records.proofs.Tables.{number-table, get_or-table}

pub flag-back : (x : ℕ) → x ≤ 1 → number (eqb x 1) ≡ x
flag-back x h = go (eqb x 1) refl
  where
    go : (b : Bool) → eqb x 1 ≡ b → number b ≡ x
    go true e = sym (eqb-true x 1 e)
    go false e = let apart : (x ≡ 1 → ⊥) = eqb-false x 1 e in omega arith

module _ (c : Setup) (g : Place → ℕ) where
  abbrev S : State
  S = state_from c g

  low : (l : Level) → is_level c.shape l.0 ≡ true → l.0 < 4
  unfolding is_level
  low l h = ltb-true l.0 4 (and_right (leb l.0 (top c.shape)) (ltb l.0 4) h)

  inside : (t : Level) → upper c.shape t ≡ true → is_level c.shape t.0 ≡ true
  inside t h = and_right (ltb 0 t.0) (is_level c.shape t.0) h

  over : (t : Level) → upper c.shape t ≡ true → eqb t.0 0 ≡ false
  over t h = ne_eqb t.0 0 (λ e. omega (arith, ltb-true 0 t.0 (and_left (ltb 0 t.0) (is_level c.shape t.0) h)))

  -- A level above 0 is in a set where its quantity is 1.
  made-set : (lowest : Bool) (quantity : Level → ℕ) (t : Level) → upper c.shape t ≡ true → quantity t ≤ 1
      → number (in_set c.shape (set_from lowest quantity) t.0) ≡ quantity t
  unfolding in_set
  made-set lowest quantity t h f =
      rw (inside t h, bit-bits 4 (λ l. cond (eqb l 0) lowest (eqb (quantity (level l)) 1)) t.0 (low t (inside t h)), over t h)
      (flag-back (quantity t) f)

  made-vp : (v : Processor) → known c v ≡ true → vp S v.0 ≡ vp_from c g v
  unfolding state_from vp is_processor processors
  made-vp v h =
      ap (λ (b : Bool). cond b (get_or S.machine.vps v.0 past_vp) no_vp) h
      ∙ (get_or-table 4 (λ v. vp_from c g (processor v)) v.0 past_vp (ltb-true v.0 4 (and_right (ltb v.0 c.processors) (ltb v.0 4) h)))

  made-context : (v : Processor) (l : Level) → known c v ≡ true → is_level c.shape l.0 ≡ true → context (shape S) (vp S v.0) l.0 ≡ context_from g v l
  unfolding context shape state_from
  made-context v l h k = rw (made-vp v h, k) (get_or-table 4 (λ l. context_from g v (level l)) l.0 past_context (low l k))

  -- The same of a level above 0 of a processor, and what it has besides.
  made-upper : (v : Processor) (l : Level) → (known c v && upper c.shape l) ≡ true → context (shape S) (vp S v.0) l.0 ≡ context_from g v l
  made-upper v l h = made-context v l (and_left (known c v) (upper c.shape l) h) (inside l (and_right (known c v) (upper c.shape l) h))

  config : (t : Level) → upper c.shape t ≡ true → config_of S t.0 ≡ g (Config t)
  unfolding config_of config_in partition state_from shape
  config t h = rw h (number-table 4 (λ l. g (Config (level l))) t.0 (low t (inside t h)))

  word : (p : Page) → p.0 < c.pages → word_of S p.0 ≡ g (Word p)
  unfolding word_of state_from
  word p h = get_or-table c.pages (λ p. g (Word (page p))) p.0 0 h

  mask : (p : Page) (t : Level) → has c (Mask p t) ≡ true → t.0 < 4 → p.0 < 64 → mask_of S t.0 p.0 ≡ g (Mask p t)
  unfolding mask_of mask_in has state_from partition shape is_page pages
  mask p t h k below =
      let of-page : (4 * p.0 + t.0) / 4 ≡ p.0 = omega arith in
      let of-level : (4 * p.0 + t.0) % 4 ≡ t.0 = omega arith in
      rw h (number-table 256 (λ i. g (Mask (page (i / 4)) (level (i % 4)))) (4 * p.0 + t.0) (omega arith) ∙ rw (of-page, of-level))

  pub made : (p : Place) → has c p ≡ true → (is_flag p ≡ true → g p ≤ 1) → value_at S p ≡ g p
  unfolding value_at has is_flag enabled_for mbec_for partition active active_of shared_of private_of enabled_on enabled_at secure_of shape state_from
  made (PartitionEnabled t) h f = made-set true (λ l. g (PartitionEnabled l)) t h (f refl)
  made (Mbec t) h f = made-set false (λ l. g (Mbec l)) t h (f refl)
  made (Config t) h f = config t h
  made (Active v) h f = ap (λ (x : VirtualProcessor). x.active.0) (made-vp v h)
  made (Shared v r) h f =
      let twelve : 12 ≤ r = omega (
        arith,
        count-bounds c.shape,
        ltb-false r (private_count c.shape)
            (sym (private-count c.shape r) ∙ not-true _ (and_right (known c v) _ (first_two (known c v) (not (is_private c.shape r)) (ltb r 32) h))),
      ) in
      let below : r < 32 = ltb-true r 32 (third (known c v) (not (is_private c.shape r)) (ltb r 32) h) in
      let back : 12 + (r - 12) ≡ r = omega arith in
      ap (λ (x : VirtualProcessor). number_at 20 x.shared (r - 12)) (made-vp v (and_left (known c v) _ h)) ∙ (number-table 20 (λ i. g (Shared v (12 + i))) (r - 12) (omega arith) ∙ rw back)
  made (Register v l r) h f =
      let below : r < private_count c.shape = ltb-true r _ (sym (private-count c.shape r) ∙ third (known c v) (is_level c.shape l.0) _ h) in
      ap (λ (k : Context). number_at 13 k.registers r) (made-context v l (and_left (known c v) _ h) (and_right (known c v) _ (first_two (known c v) _ _ h)))
      ∙ (number-table 13 (λ r. g (Register v l r)) r (omega (arith, count-bounds c.shape)))
  made (Tpr v l) h f = ap (λ (k : Context). k.tpr) (made-context v l (and_left (known c v) _ h) (and_right (known c v) _ h))
  made (Pending v l i) h f =
      ap (λ (k : Context). number_at 4 k.pending i) (made-context v l (and_left (known c v) _ h) (and_right (known c v) _ (first_two (known c v) _ _ h)))
      ∙ (number-table 4 (λ i. g (Pending v l i)) i (ltb-true i 4 (third (known c v) (is_level c.shape l.0) _ h)))
  made (Enabled v l) h f =
      ap (λ (x : VirtualProcessor). number (in_set c.shape x.enabled l.0)) (made-vp v (and_left (known c v) _ h))
      ∙ made-set (known c v) (λ l. g (Enabled v l)) l (and_right (known c v) _ h) (f refl)
  made (Secure v l k) h f =
      let on = and_right (known c v) _ (first_two (known c v) (is_level c.shape l.0) (ltb k.0 l.0) h) in
      let below = third (known c v) (is_level c.shape l.0) (ltb k.0 l.0) h in
      ap (λ (x : Context). cond (ltb k.0 l.0) (number_at 4 x.secure k.0) 0) (made-context v l (and_left (known c v) _ h) on)
      ∙ rw below (number-table 4 (λ k. g (Secure v l (level k))) k.0 (omega (arith, low l on, ltb-true k.0 l.0 below)))
  made (Reason v l) h f = ap (λ (k : Context). k.control.reason) (made-upper v l h)
  made (From v l) h f = ap (λ (k : Context). k.control.from.0) (made-upper v l h)
  made (Rax v l) h f = ap (λ (k : Context). k.control.rax) (made-upper v l h)
  made (Rcx v l) h f = ap (λ (k : Context). k.control.rcx) (made-upper v l h)
  made (Intercepts v l) h f = ap (λ (k : Context). k.watch.intercepts) (made-upper v l h)
  made (Cr0Mask v l) h f = ap (λ (k : Context). k.watch.cr0_mask) (made-upper v l h)
  made (Cr4Mask v l) h f = ap (λ (k : Context). k.watch.cr4_mask) (made-upper v l h)
  made (Word p) h f = word p (ltb-true p.0 c.pages h)
  made (Mask p t) h f =
      mask p t h (low t (inside t (and_left (upper c.shape t) _ h))) (ltb-true p.0 64 (third (upper c.shape t) (ltb p.0 c.pages) (ltb p.0 64) h))
