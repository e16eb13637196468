-- Where the words of a processor's record keep the quantity at each place. Assumes nothing.
use mathlib.Core.Path.{◌≡◌, refl, sym, ap, ◌∙◌}
use mathlib.Core.Bool.{Bool, true, cond, ◌&&◌}
use mathlib.Core.List.{List, []}
use Prim.Native.Nat.{ℕ, ◌+◌, ◌-◌, ◌*◌, ◌<◌}
use native.Mathlib.Omega.{arith}
use lib.Dec.{ltb}
use lib.ListN.{get_or, take, drop}
use lib.Seq.{get_or-take, get_or-drop}
use borrow.Author.Tests.{ltb-true, lt-ltb}
use Rattle.word.specs.Field.{bit}
use Rattle.model.specs.declared.machine.Context.{Context}
use Rattle.model.specs.declared.machine.Setup.{Setup}
use Rattle.model.specs.declared.machine.VirtualProcessor.{VirtualProcessor}
use Rattle.model.specs.declared.quantity.Level.{Level}
use Rattle.model.specs.declared.quantity.Processor.{Processor}
use Rattle.model.specs.Arrays.{number_at}
use Rattle.model.specs.Registers.{private_of, shared_of}
use Rattle.model.specs.State.{State, processors, pages, partition, shape, in_set, is_level, is_processor, vp, context, active_of, active, enabled_at, enabled_on, enabled_for, mbec_for, config_of, config_in, mask_of, mask_in, word_of, secure_of, no_vp, past_vp, past_context}
use Rattle.model.proofs.Bools.{and_left, and_right}
use Rattle.model.proofs.Four.{four-at}
use Rattle.partition.specs.PartitionView.{enabled_in, mbec_in, configs_in, partition_of}
use Rattle.processor.proofs.RecordWords.{row_word}
use Rattle.processor.specs.Record.{level_words, intercepts, cr0_mask_index, cr4_mask_index, part, row_of, context_of, context_in, vp_of}
use Rattle.state.specs.Lent.{machine_of, lent}
use Rattle.records.specs.declared.place.Place.{Place}
use Rattle.records.specs.declared.place.Place.TheVariants.{PartitionEnabled, Mbec, Config, Active, Shared, Register, Tpr, Pending, Enabled, Secure, Reason, From, Rax, Rcx, Word, Mask, Intercepts, Cr0Mask, Cr4Mask}
use Rattle.records.specs.Places.{known, upper, has}
use Rattle.records.specs.Values.{number, value_at}
use Rattle.records.proofs.Limits.{Limits, limits}
use Rattle.records.proofs.Sequence.{first_two}
use Rattle.records.proofs.Tables.{number-get}

part_at : (from n : ℕ) (ws : List ℕ) (i : ℕ) → i < n → number_at n (part from n ws) i ≡ get_or ws (from + i) 0
part_at from n ws i h = number-get n (part from n ws) i h ∙ get_or-take n (drop from ws) i 0 h ∙ get_or-drop from ws i 0

module _ (c : Setup) (levels masks : List ℕ) (rows : List (List ℕ)) (words : List ℕ) where
  abbrev S : State
  S = lent c levels masks rows words

  abbrev row : Processor → List ℕ
  row v = get_or rows v.0 []

  vp-kept : (v : Processor) → known c v ≡ true → vp S v.0 ≡ vp_of (row v)
  unfolding vp is_processor processors machine_of
  vp-kept v h =
      ap (λ (b : Bool). cond b (get_or S.machine.vps v.0 past_vp) no_vp) h
      ∙ four-at (λ i. vp_of (get_or rows i [])) past_vp v.0 (ltb-true v.0 4 (and_right (ltb v.0 c.processors) (ltb v.0 4) h))

  context-kept : (v : Processor) (l : Level) → known c v ≡ true → is_level c.shape l.0 ≡ true → l.0 < 4
      → context (shape S) (vp S v.0) l.0 ≡ context_in (row v) l.0
  unfolding context shape machine_of vp_of
  context-kept v l h k b = rw (vp-kept v h, k) (four-at (context_in (row v)) past_context l.0 b)

  upper-kept : (v : Processor) (l : Level) → (known c v && upper c.shape l) ≡ true → l.0 < 4
      → context (shape S) (vp S v.0) l.0 ≡ context_in (row v) l.0
  upper-kept v l h b =
      context-kept v l (and_left (known c v) (upper c.shape l) h)
      (and_right (ltb 0 l.0) (is_level c.shape l.0) (and_right (known c v) (upper c.shape l) h)) b

  -- The quantity at a place as the parts keep it.
  abbrev pub kept_at : Place → ℕ
  kept_at (PartitionEnabled t) = number (in_set c.shape (enabled_in levels) t.0)
  kept_at (Mbec t) = number (in_set c.shape (mbec_in levels) t.0)
  kept_at (Config t) = config_in c.shape (configs_in levels) t.0
  kept_at (Active v) = get_or (row v) 0 0
  kept_at (Shared v r) = get_or (row v) (2 + (r - 12)) 0
  kept_at (Register v l r) = get_or (row v) (22 + level_words * l.0 + r) 0
  kept_at (Tpr v l) = get_or (row v) (22 + level_words * l.0 + 13) 0
  kept_at (Pending v l i) = get_or (row v) (22 + level_words * l.0 + (14 + i)) 0
  kept_at (Enabled v l) = number (bit (get_or (row v) 1 0) l.0)
  kept_at (Secure v l k) = get_or (row v) (22 + level_words * l.0 + (18 + k.0)) 0
  kept_at (Reason v l) = get_or (row v) (22 + level_words * l.0 + 22) 0
  kept_at (From v l) = get_or (row v) (22 + level_words * l.0 + 23) 0
  kept_at (Rax v l) = get_or (row v) (22 + level_words * l.0 + 24) 0
  kept_at (Rcx v l) = get_or (row v) (22 + level_words * l.0 + 25) 0
  kept_at (Word p) = get_or words p.0 0
  kept_at (Mask p t) = mask_in c.shape c.pages masks t.0 p.0
  kept_at (Intercepts v l) = get_or (row v) (22 + level_words * l.0 + intercepts) 0
  kept_at (Cr0Mask v l) = get_or (row v) (22 + level_words * l.0 + cr0_mask_index) 0
  kept_at (Cr4Mask v l) = get_or (row v) (22 + level_words * l.0 + cr4_mask_index) 0

  pub kept : (p : Place) → has c p ≡ true → kept_at p ≡ value_at S p
  unfolding value_at has enabled_for mbec_for config_of mask_of partition pages shape machine_of partition_of active active_of shared_of private_of enabled_on enabled_at in_set secure_of vp_of context_in context_of word_of
  kept (PartitionEnabled t) h = refl
  kept (Mbec t) h = refl
  kept (Config t) h = refl
  kept (Active v) h = sym (ap (λ (x : VirtualProcessor). x.active.0) (vp-kept v h))
  kept (Shared v r) h =
      sym (ap (λ (x : VirtualProcessor). number_at 20 x.shared (r - 12)) (vp-kept v (and_left (known c v) _ h))
      ∙ part_at 2 20 (row v) (r - 12) (omega (arith, limits c (Shared v r) h)))
  kept (Register v l r) h =
      let b = limits c (Register v l r) h in
      sym (ap (λ (k : Context). number_at 13 k.registers r) (context-kept v l (and_left (known c v) _ h) (and_right (known c v) _ (first_two (known c v) _ _ h)) b.1)
      ∙ number-get 13 (take 13 (row_of (row v) l.0)) r b.2 ∙ get_or-take 13 (row_of (row v) l.0) r 0 b.2 ∙ row_word (row v) l.0 r (omega arith))
  kept (Tpr v l) h =
      sym (ap (λ (k : Context). k.tpr) (context-kept v l (and_left (known c v) _ h) (and_right (known c v) _ h) (limits c (Tpr v l) h).1) ∙ row_word (row v) l.0 13 (omega arith))
  kept (Pending v l i) h =
      let b = limits c (Pending v l i) h in
      sym (ap (λ (k : Context). number_at 4 k.pending i) (context-kept v l (and_left (known c v) _ h) (and_right (known c v) _ (first_two (known c v) _ _ h)) b.1)
      ∙ part_at 14 4 (row_of (row v) l.0) i b.2 ∙ row_word (row v) l.0 (14 + i) (omega arith))
  kept (Enabled v l) h =
      let on = and_right (ltb 0 l.0) (is_level c.shape l.0) (and_right (known c v) (upper c.shape l) h) in
      sym (ap (λ (x : VirtualProcessor). number (is_level c.shape l.0 && bit x.enabled.0 l.0)) (vp-kept v (and_left (known c v) _ h)) ∙ rw on)
  kept (Secure v l k) h =
      let b = limits c (Secure v l k) h in
      rw (lt-ltb k.0 l.0 b.2)
      (sym (ap (λ (x : Context). number_at 4 x.secure k.0) (context-kept v l (and_left (known c v) _ h) (and_right (known c v) _ (first_two (known c v) _ _ h)) b.1)
      ∙ part_at 18 4 (row_of (row v) l.0) k.0 (omega arith) ∙ row_word (row v) l.0 (18 + k.0) (omega arith)))
  kept (Reason v l) h = sym (ap (λ (k : Context). k.control.reason) (upper-kept v l h (limits c (Reason v l) h).1) ∙ row_word (row v) l.0 22 (omega arith))
  kept (From v l) h = sym (ap (λ (k : Context). k.control.from.0) (upper-kept v l h (limits c (From v l) h).1) ∙ row_word (row v) l.0 23 (omega arith))
  kept (Rax v l) h = sym (ap (λ (k : Context). k.control.rax) (upper-kept v l h (limits c (Rax v l) h).1) ∙ row_word (row v) l.0 24 (omega arith))
  kept (Rcx v l) h = sym (ap (λ (k : Context). k.control.rcx) (upper-kept v l h (limits c (Rcx v l) h).1) ∙ row_word (row v) l.0 25 (omega arith))
  kept (Intercepts v l) h = sym (ap (λ (k : Context). k.watch.intercepts) (upper-kept v l h (limits c (Intercepts v l) h).1) ∙ row_word (row v) l.0 intercepts (omega arith))
  kept (Cr0Mask v l) h = sym (ap (λ (k : Context). k.watch.cr0_mask) (upper-kept v l h (limits c (Cr0Mask v l) h).1) ∙ row_word (row v) l.0 cr0_mask_index (omega arith))
  kept (Cr4Mask v l) h = sym (ap (λ (k : Context). k.watch.cr4_mask) (upper-kept v l h (limits c (Cr4Mask v l) h).1) ∙ row_word (row v) l.0 cr4_mask_index (omega arith))
  kept (Word p) h = refl
  kept (Mask p t) h = refl

  -- The same of a place that is known by its variant.
  pub kept_as : (p q : Place) → has c p ≡ true → p ≡ q → kept_at q ≡ value_at S p
  kept_as p q h e = ap kept_at (sym e) ∙ kept p h

-- The bounds of a place that is known by its variant.
pub limits_of : (c : Setup) (p q : Place) → has c p ≡ true → p ≡ q → Limits c q
limits_of c p q h e = rw e at (limits c p h)
