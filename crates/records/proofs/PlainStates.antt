-- A state is what its quantities make: all that is part of a well-formed state follows from its first record and the quantities
-- at its places. Assumes nothing.
use mathlib.Core.Path.{◌≡◌, refl, sym, ap, ◌∙◌}
use mathlib.Core.Bool.{Bool, true, false, not, cond, ◌&&◌, and-false}
use Prim.Native.Nat.{ℕ, zero, suc, ◌+◌, ◌-◌, ◌*◌, ◌/◌, ◌%◌, ◌<◌}
use native.Mathlib.Omega.{arith}
use lib.Dec.{ltb, eqb}
use lib.ListN.{length, get_or}
use borrow.Author.Tests.{lt-ltb, le-ltb, lt-leb, ltb-true, leb-true, eq-eqb, eqb-true, eqb-false, ne_eqb, not-true}
use Rattle.model.specs.Bounded.{bits}
use Rattle.model.specs.Hide.{hides, hide_set, hide_context, hide_level, hide_vp, hide_partition, is_mask, hide_machine, hide}
use Rattle.model.specs.MapAt.{map_at}
use Rattle.model.specs.Registers.{is_private, private_of, shared_of}
use Rattle.model.specs.declared.machine.Context.{Context}
use Rattle.model.specs.declared.machine.Shape.{Shape}
use Rattle.model.specs.declared.quantity.Level.{Level}
use Rattle.model.specs.declared.set.LevelSet.{LevelSet}
use Rattle.model.specs.State.{State, level, level_set, in_range, processors, pages, shape, max_level_of, partition, in_set, is_level, is_processor, is_page, vp, context, active_of, active, enabled_at, enabled_on, enabled_for, mbec_for, config_in, config_of, mask_in, mask_of, word_of, secure_of, no_control, no_watch, no_context, no_vp, past_vp, past_context}
use Rattle.model.specs.declared.quantity.Processor.{Processor}
use Rattle.model.specs.WellFormed.{well_sized, well_formed_context, well_formed_vp, well_formed_parts, well_formed}
use Rattle.model.proofs.Bools.{and_left, and_right, and-off, implied, hold, cond-then}
use Rattle.model.proofs.BoundedLaws.{every-at}
use Rattle.model.proofs.Formed.{well-sized, well-parts, well-vp}
use Rattle.model.proofs.Sets.{bits-cong}
use Rattle.script.specs.EventForms.{processor, page}
use Rattle.model.specs.declared.machine.Setup.{Setup}
use Rattle.records.specs.Places.{Place, PartitionEnabled, Mbec, Config, Active, Shared, Register, Tpr, Pending, Enabled, Secure, Reason, From, Rax, Rcx, Word, Mask, Intercepts, Cr0Mask, Cr4Mask, known, has}
use Rattle.records.specs.Reading.{only}
use Rattle.records.specs.Values.{setup_at, number, value_at, table, set_from, context_from, vp_from, state_from, plain, SizedContext, SizedVp, Lengths}
use Rattle.records.proofs.Sequence.{Small, level-true}
use Rattle.records.proofs.Tables.{map_at-is, list-is, number-get}

-- A quantity at a place that the state has, and at another.
pub only-has : (c : Setup) (g : Place → ℕ) (p : Place) → has c p ≡ true → only c g p ≡ g p
unfolding only
only-has c g p h = rw h

pub only-not : (c : Setup) (g : Place → ℕ) (p : Place) → has c p ≡ false → only c g p ≡ 0
unfolding only
only-not c g p h = rw h

pub flag : (b : Bool) → eqb (number b) 1 ≡ b
flag true = refl
flag false = refl

-- Shared registers are kept from DR6 on.
kept : (z : Shape) (i : ℕ) → is_private z (12 + i) ≡ (eqb i 0 && not z.dr6_shared)
unfolding is_private
kept z i = rw (le-ltb (12 + i) 12 (omega arith)) (go (eqb i 0) refl)
  where
    go : (t : Bool) → eqb i 0 ≡ t → (eqb (12 + i) 12 && not z.dr6_shared) ≡ (eqb i 0 && not z.dr6_shared)
    go true e = rw (e, eq-eqb (12 + i) 12 (omega (arith, eqb-true i 0 e)))
    go false e = let apart : (i ≡ 0 → ⊥) = eqb-false i 0 e in rw (e, ne_eqb (12 + i) 12 (λ k. omega arith))

-- A set of levels by the quantities of its levels above 0.
set_is : (z : Shape) (x : LevelSet) (lowest : Bool) (quantity : Level → ℕ) → in_set z x 0 ≡ lowest
    → ((l : ℕ) → 0 < l → quantity (level l) ≡ cond (is_level z l) (number (in_set z x l)) 0) → hide_set z x ≡ set_from lowest quantity
unfolding hide_set in_set
set_is z x lowest quantity first each = ap level_set (bits-cong 4 (in_set z x) (λ l. cond (eqb l 0) lowest (eqb (quantity (level l)) 1)) (λ l h. go l))
  where
    outside : (l : ℕ) (b : Bool) → is_level z l ≡ b → in_set z x l ≡ eqb (cond b (number (in_set z x l)) 0) 1
    outside l true e = sym (flag (in_set z x l))
    outside l false e = rw e

    go : (l : ℕ) → in_set z x l ≡ cond (eqb l 0) lowest (eqb (quantity (level l)) 1)
    go zero = first
    go (suc l) = rw (ne_eqb (suc l) 0 (λ k. omega arith), each (suc l) (omega arith)) (outside (suc l) (is_level z (suc l)) refl)

-- The sizes of a well-formed state.
module _ (s : State) (w : well_formed s ≡ true) where
  sizes : in_range (processors s) (max_level_of s) (pages s) ≡ true
  unfolding well_sized
  sizes = and_left (in_range (processors s) (max_level_of s) (pages s)) _ (well-sized s w)

  pub small : Small (setup_at s)
  unfolding in_range processors pages max_level_of shape
  small = record {
    processors = leb-true _ _ (hold _ sizes).1.0;
    levels = leb-true _ _ (hold _ sizes).1.1.0;
    pages = leb-true _ _ (hold _ sizes).1.1.1.1.0;
  }

  some-processor : known (setup_at s) (processor 0) ≡ true
  unfolding in_range processors
  some-processor = rw (lt-ltb 0 s.machine.processors (leb-true _ _ (hold _ sizes).0))

  pub words-length : length s.words ≡ s.machine.pages
  unfolding well_sized pages
  words-length = eqb-true _ _ (and_right (in_range (processors s) (max_level_of s) (pages s)) _ (well-sized s w))

module _ (s : State) (w : well_formed s ≡ true) (sized : Lengths s) where
  g : Place → ℕ
  g = only (setup_at s) (value_at s)

  zero-level : is_level s.machine.shape 0 ≡ true
  zero-level = level-true s.machine.shape 0 (small s w).levels (omega arith)

  -- Level 0 is enabled, and the partition has no MBEC for it.
  zero-on : (v : Processor) → known (setup_at s) v ≡ true → enabled_on s v.0 0 ≡ true
  unfolding well_formed_vp is_processor processors enabled_on
  zero-on v h = (hold _ (well-vp s w v.0 h)).1.0

  zero-for : enabled_for s 0 ≡ true
  unfolding well_formed_vp well_formed_context is_processor processors enabled_at enabled_on enabled_for partition
  zero-for =
      implied _ _ (hold _ (every-at 4 _ (hold _ (well-vp s w 0 (some-processor s w))).1.1.1.0 0 (omega arith))).0 (zero-on (processor 0) (some-processor s w))

  zero-mbec : mbec_for s 0 ≡ false
  unfolding well_formed_parts
  zero-mbec = not-true _ (hold _ (well-parts s w)).1.1.1.0

  -- What the partition holds.
  enabled-is : hide_set s.machine.shape s.machine.partition.enabled ≡ set_from true (λ l. g (PartitionEnabled l))
  unfolding g only has value_at enabled_for partition shape
  enabled-is = set_is s.machine.shape s.machine.partition.enabled true (λ l. g (PartitionEnabled l)) zero-for (λ l h. rw (lt-ltb 0 l h))

  mbec-is : hide_set s.machine.shape s.machine.partition.mbec ≡ set_from false (λ l. g (Mbec l))
  unfolding g only has value_at mbec_for partition shape
  mbec-is = set_is s.machine.shape s.machine.partition.mbec false (λ l. g (Mbec l)) zero-mbec (λ l h. rw (lt-ltb 0 l h))

  config-is : (l : ℕ) → l < 4
      → cond (ltb 0 l && is_level (shape s) l) (get_or s.machine.partition.configs l 0) 0 ≡ g (Config (level l))
  unfolding g only has value_at config_of config_in partition shape
  config-is l h = rw (number-get 4 s.machine.partition.configs l h) (sym (cond-then (ltb 0 l && is_level s.machine.shape l) _ 0))

  mask_is : (i : ℕ) → i < 256 → cond (is_mask s i) (get_or s.machine.partition.masks i 0) 0 ≡ g (Mask (page (i / 4)) (level (i % 4)))
  unfolding is_mask g only has value_at mask_of mask_in partition is_page shape pages
  mask_is i h =
      let e : 4 * (i / 4) + i % 4 ≡ i = omega arith in
      rw (e, number-get 256 s.machine.partition.masks i h)
      (sym (cond-then (ltb 0 (i % 4) && is_level s.machine.shape (i % 4) && (ltb (i / 4) s.machine.pages && ltb (i / 4) 64)) _ 0))

  word-is : (p : ℕ) → p < s.machine.pages → get_or s.words p 0 ≡ g (Word (page p))
  unfolding g only has value_at word_of
  word-is p h = rw (lt-ltb p s.machine.pages h)

  -- A processor that there is.
  module _ (v : Processor) (e : known (setup_at s) v ≡ true) where
    vp-is : vp s v.0 ≡ get_or s.machine.vps v.0 past_vp
    unfolding vp is_processor processors
    vp-is = rw e

    vp-sized : SizedVp (vp s v.0)
    vp-sized = rw vp-is (sized.each v.0 (ltb-true v.0 4 (and_right (ltb v.0 s.machine.processors) (ltb v.0 4) e)))

    shared-is : (i : ℕ) → i < 20 → cond (eqb i 0 && not s.machine.shape.dr6_shared) 0 (get_or (vp s v.0).shared i 0) ≡ g (Shared v (12 + i))
    unfolding g only has value_at shared_of
    shared-is i h =
        let k : 12 + i - 12 ≡ i = omega arith in
        rw (e, kept s.machine.shape i, lt-ltb (12 + i) 32 (omega arith), k, number-get 20 (vp s v.0).shared i h)
        (go (eqb i 0 && not s.machine.shape.dr6_shared))
      where
        go : (b : Bool) → cond b 0 (get_or (vp s v.0).shared i 0) ≡ cond (not b && true) (get_or (vp s v.0).shared i 0) 0
        go true = refl
        go false = refl

    on-is : hide_set s.machine.shape (vp s v.0).enabled ≡ set_from (known (setup_at s) v) (λ l. g (Enabled v l))
    unfolding g only has value_at enabled_on enabled_at shape
    on-is =
        set_is s.machine.shape (vp s v.0).enabled (known (setup_at s) v) (λ l. g (Enabled v l)) (zero-on v e ∙ sym e)
        (λ l h. rw (e, lt-ltb 0 l h))

    -- A level of it that there is.
    module _ (l : Level) (low : l.0 < 4) (f : is_level s.machine.shape l.0 ≡ true) where
      k : Context
      k = context s.machine.shape (vp s v.0) l.0

      k-is : k ≡ get_or (vp s v.0).contexts l.0 past_context
      unfolding k context
      k-is = rw f

      k-sized : SizedContext k
      k-sized = rw k-is (vp-sized.each l.0 low)

      control-is : cond (eqb l.0 0) no_control k.control
          ≡ record { reason = g (Reason v l); from = level (g (From v l)); rax = g (Rax v l); rcx = g (Rcx v l) }
      unfolding k g only has value_at shape
      control-is = go (eqb l.0 0) refl
        where
          go : (t : Bool) → eqb l.0 0 ≡ t → cond t no_control k.control
              ≡ record { reason = g (Reason v l); from = level (g (From v l)); rax = g (Rax v l); rcx = g (Rcx v l) }
          go true q = let lowest : l.0 ≡ 0 = eqb-true l.0 0 q in rw (lowest, e)
          go false q =
              let apart : (l.0 ≡ 0 → ⊥) = eqb-false l.0 0 q in
              rw (e, f, lt-ltb 0 l.0 (omega arith))

      watch-is : cond (eqb l.0 0) no_watch k.watch
          ≡ record { intercepts = g (Intercepts v l); cr0_mask = g (Cr0Mask v l); cr4_mask = g (Cr4Mask v l) }
      unfolding k g only has value_at shape
      watch-is = go (eqb l.0 0) refl
        where
          go : (t : Bool) → eqb l.0 0 ≡ t → cond t no_watch k.watch
              ≡ record { intercepts = g (Intercepts v l); cr0_mask = g (Cr0Mask v l); cr4_mask = g (Cr4Mask v l) }
          go true q = let lowest : l.0 ≡ 0 = eqb-true l.0 0 q in rw (lowest, e)
          go false q =
              let apart : (l.0 ≡ 0 → ⊥) = eqb-false l.0 0 q in
              rw (e, f, lt-ltb 0 l.0 (omega arith))

      register-is : (r : ℕ) → r < 13 → cond (is_private s.machine.shape r) (get_or k.registers r 0) 0 ≡ g (Register v l r)
      unfolding k g only has value_at private_of shape
      register-is r h = rw (e, f, number-get 13 k.registers r h)

      pending-is : (i : ℕ) → i < 4 → get_or k.pending i 0 ≡ g (Pending v l i)
      unfolding k g only has value_at shape
      pending-is i h = rw (e, f, lt-ltb i 4 h, number-get 4 k.pending i h)

      secure-is : (j : ℕ) → j < 4 → cond (ltb j l.0) (get_or k.secure j 0) 0 ≡ g (Secure v l (level j))
      unfolding k g only has value_at secure_of shape
      secure-is j h = rw (e, f, number-get 4 k.secure j h) (sym (cond-then (ltb j l.0) _ 0))

      tpr-is : k.tpr ≡ g (Tpr v l)
      unfolding k g only has value_at shape
      tpr-is = rw (e, f)

      context-is : (on : Bool) → hide_context s.machine.shape (hides 4 false l.0 on) on l.0 k ≡ context_from g v l
      unfolding hide_context hides
      context-is on = λ i. record {
        registers = registers i;
        tpr = tpr-is i;
        pending = list-is k.pending 4 0 (λ i. g (Pending v l i)) k-sized.pending pending-is i;
        secure = map_at-is (λ j w. cond (ltb j l.0) w 0) k.secure 4 0 (λ j. g (Secure v l (level j))) k-sized.secure secure-is i;
        control = control-is i;
        watch = watch-is i;
      }
        where
          registers : map_at (λ r x. cond (is_private s.machine.shape r) (cond (hides 4 false l.0 on) (cond (eqb r 3 && on) 1 0) x) 0) k.registers
              ≡ table 13 (λ r. g (Register v l r))
          registers = map_at-is (λ r x. cond (is_private s.machine.shape r) (cond (hides 4 false l.0 on) (cond (eqb r 3 && on) 1 0) x) 0) k.registers
              13 0 (λ r. g (Register v l r)) k-sized.registers (λ r h. rw (hides, lt-leb 4 l.0 low) (register-is r h))

    no-context : (l : ℕ) → is_level s.machine.shape l ≡ false → no_context ≡ context_from g v (level l)
    unfolding g only has table
    no-context l f = rw (e, f, and-false (ltb 0 l))

    active-is : (vp s v.0).active ≡ level (g (Active v))
    unfolding g only has value_at active active_of
    active-is = rw e

    contexts-is : (l : ℕ) → l < 4 → hide_level 4 (λ l. false) s.machine.shape (vp s v.0).enabled l (get_or (vp s v.0).contexts l past_context) ≡ context_from g v (level l)
    unfolding hide_level
    contexts-is l low = go (is_level s.machine.shape l) refl
      where
        go : (b : Bool) → is_level s.machine.shape l ≡ b
            → let on = in_set s.machine.shape (vp s v.0).enabled l in
            cond b (hide_context s.machine.shape (hides 4 false l on) on l (get_or (vp s v.0).contexts l past_context)) no_context ≡ context_from g v (level l)
        go true f = rw (k-is (level l) low f) at (context-is (level l) low f (in_set s.machine.shape (vp s v.0).enabled l))
        go false f = no-context l f

    vp-from : hide_vp 4 (λ l. false) s.machine.shape (vp s v.0) ≡ vp_from (setup_at s) g v
    unfolding hide_vp
    vp-from = λ i. record {
      active = active-is i;
      enabled = on-is i;
      shared = map_at-is (λ i x. cond (eqb i 0 && not s.machine.shape.dr6_shared) 0 x) (vp s v.0).shared 20 0 (λ i. g (Shared v (12 + i))) vp-sized.shared shared-is i;
      contexts = map_at-is (hide_level 4 (λ l. false) s.machine.shape (vp s v.0).enabled) (vp s v.0).contexts 4 past_context (λ l. context_from g v (level l)) vp-sized.contexts contexts-is i;
    }

  vps-is : (v : ℕ) → v < 4
      → cond (is_processor s v) (hide_vp 4 (λ l. false) (shape s) (get_or s.machine.vps v past_vp)) no_vp ≡ vp_from (setup_at s) g (processor v)
  unfolding is_processor processors shape g only has table bits
  vps-is v low = go (known (setup_at s) (processor v)) refl
    where
      go : (b : Bool) → known (setup_at s) (processor v) ≡ b
          → cond b (hide_vp 4 (λ l. false) s.machine.shape (get_or s.machine.vps v past_vp)) no_vp ≡ vp_from (setup_at s) g (processor v)
      go true e = rw (vp-is (processor v) e) at (vp-from (processor v) e)
      go false e = rw (and-off (ltb v s.machine.processors) (ltb v 4) e (lt-ltb v 4 low))

  -- All that is part of a well-formed state is what its quantities make.
  pub plain-is : plain s ≡ state_from (setup_at s) (only (setup_at s) (value_at s))
  unfolding plain hide hide_machine hide_partition state_from shape g
  plain-is = λ i. record {
    machine = record {
      processors = s.machine.processors;
      pages = s.machine.pages;
      host_mask = s.machine.host_mask;
      shape = s.machine.shape;
      partition = record {
        enabled = enabled-is i;
        mbec = mbec-is i;
        configs = map_at-is (λ l w. cond (ltb 0 l && is_level s.machine.shape l) w 0) s.machine.partition.configs 4 0 (λ l. g (Config (level l))) sized.configs config-is i;
        masks = map_at-is (λ i k. cond (is_mask s i) k 0) s.machine.partition.masks 256 0 (λ i. g (Mask (page (i / 4)) (level (i % 4)))) sized.masks mask_is i;
      };
      vps = map_at-is (λ v p. cond (is_processor s v) (hide_vp 4 (λ l. false) s.machine.shape p) no_vp) s.machine.vps 4 past_vp (λ v. vp_from (setup_at s) g (processor v)) sized.vps vps-is i;
    };
    words = map_at-is (λ p x. cond false 0 x) s.words s.machine.pages 0 (λ p. g (Word (page p))) (words-length s w) word-is i;
  }
