-- The same for the whole state: what hiding does to each thing that is read of it, and that each update commutes with hiding.
-- E tells the levels enabled on some processor at the start, H the hidden pages. Assumes nothing.
use mathlib.Core.Path.{◌≡◌, refl, sym, ap, ◌∙◌}
use mathlib.Core.Bool.{Bool, true, false, not, cond, ◌&&◌}
use mathlib.Core.List.{List}
use Prim.Native.Nat.{ℕ, zero, suc, ◌+◌, ◌*◌, ◌/◌, ◌%◌, ◌≤◌, ◌<◌}
use native.Mathlib.Omega.{arith}
use lib.Dec.{ltb, eqb}
use lib.ListN.{length, get_or}
use borrow.Author.Tests.{lt-ltb}
use Rattle.model.specs.Arrays.{number_at, stored}
use Rattle.model.specs.Events.{configured}
use Rattle.model.specs.Masks.{turns_on, default_mask, protects_in, protects}
use Rattle.model.specs.Memory.{denies_in}
use Rattle.model.specs.State.{State, Partition, Shape, VirtualProcessor, Access, Mode, level_set, no_context, no_vp, past_vp, processors, shape, top, max_level_of, pages, partition, is_level, is_processor, is_page, vp, active_of, active, enabled_on, enabled_anywhere, enabled_for, mbec_for, config_in, config_of, mask_in, mask_of, host_mask_of, word_of}
use Rattle.model.specs.Updates.{enable_level, set_config, put_vp, put_partition, set_mask, filled, fill_masks, set_word, on_vp, on_partition}
use Rattle.model.proofs.Bools.{and_left, and_right, cond_same, cond-ap}
use Rattle.model.proofs.BoundedLaws.{any-cong}
use Rattle.model.proofs.Four.{level-low}
use Rattle.model.proofs.LevelSets.{none_in, none_hidden, in-hidden, with-hidden}
use Rattle.model.specs.Hide.{closed, hide_level, hide_vp, hide_partition, is_mask, hide_machine, hide}
use Rattle.model.specs.MapAt.{map_at}
use Rattle.model.proofs.Maps.{map_at-nil, length-map_at, get_or-map_at, map_at-set, map_at-stored, map_at-replicate, number-map_at}
use Rattle.model.proofs.Visible.{hide_context-none, active-same, enabled-same}

-- The empty records have nothing to hide.
hide_vp-none : (K : ℕ) (E : ℕ → Bool) (z : Shape) → hide_vp K E z no_vp ≡ no_vp
unfolding hide_vp hide_level
hide_vp-none K E z =
    rw (
      none_hidden z,
      map_at-replicate {A = ℕ} (λ i x. cond (eqb i 0 && not z.dr6_shared) 0 x) 20 0 (λ i. cond_same (eqb i 0 && not z.dr6_shared) 0),
      map_at-replicate (hide_level K E z (level_set 0)) 4 no_context (λ l. rw (none_in z l, hide_context-none z _ l) (cond_same (is_level z l) no_context)),
    )

hide_vp-past : (K : ℕ) (E : ℕ → Bool) (z : Shape) → hide_vp K E z past_vp ≡ past_vp
unfolding hide_vp
hide_vp-past K E z = simp (map_at-nil, none_hidden)

module _ (K : ℕ) (E : ℕ → Bool) (H : ℕ → Bool) where
  -- The sizes, and what else is not hidden.
  pub processors-same : (s : State) → processors (hide K E H s) ≡ processors s
  unfolding hide hide_machine processors
  processors-same s = refl

  pub shape_same : (s : State) → shape (hide K E H s) ≡ shape s
  unfolding hide hide_machine shape
  shape_same s = refl

  pub max_level_of-same : (s : State) → max_level_of (hide K E H s) ≡ max_level_of s
  unfolding max_level_of
  max_level_of-same s = ap top (shape_same s)

  pub pages-same : (s : State) → pages (hide K E H s) ≡ pages s
  unfolding hide hide_machine pages
  pages-same s = refl

  pub processor-same : (s : State) (v : ℕ) → is_processor (hide K E H s) v ≡ is_processor s v
  unfolding is_processor
  processor-same s v = rw processors-same

  pub host-same : (s : State) → (hide K E H s).machine.host_mask ≡ s.machine.host_mask
  unfolding hide hide_machine
  host-same s = refl

  pub lent_same : (s : State) → length (hide K E H s).words ≡ length s.words
  unfolding hide
  lent_same s = length-map_at _ s.words

  -- Processors.
  pub vp-hide : (s : State) (v : ℕ) → vp (hide K E H s) v ≡ hide_vp K E (shape s) (vp s v)
  unfolding vp hide hide_machine
  vp-hide s v = rw processor-same (go (is_processor s v) refl)
    where
      go : (b : Bool) → is_processor s v ≡ b → cond b (get_or (map_at (λ v p. cond (is_processor s v) (hide_vp K E (shape s) p) no_vp) s.machine.vps) v past_vp) no_vp ≡ hide_vp K E (shape s) (cond b (get_or s.machine.vps v past_vp) no_vp)
      go true e = get_or-map_at (λ v p. cond (is_processor s v) (hide_vp K E (shape s) p) no_vp) s.machine.vps v past_vp (rw e (hide_vp-past K E (shape s))) ∙ rw e
      go false e = sym (hide_vp-none K E (shape s))

  pub put_vp-hide : (s : State) (v : ℕ) (p : VirtualProcessor) → is_processor s v ≡ true → put_vp (hide K E H s) v (hide_vp K E (shape s) p) ≡ hide K E H (put_vp s v p)
  unfolding put_vp is_processor processors is_page pages is_mask shape hide hide_machine hide_partition
  put_vp-hide s v p h = rw (map_at-stored, h)

  -- A change of one processor's record that commutes with hiding.
  pub on_vp-hide : (s : State) (v : ℕ) (f : Shape → VirtualProcessor → VirtualProcessor) → is_processor s v ≡ true → f (shape s) (hide_vp K E (shape s) (vp s v)) ≡ hide_vp K E (shape s) (f (shape s) (vp s v)) →
      on_vp (hide K E H s) v f ≡ hide K E H (on_vp s v f)
  unfolding on_vp
  on_vp-hide s v f h e = rw (shape_same, vp-hide, e) (put_vp-hide s v (f (shape s) (vp s v)) h)

  pub active-hide : (s : State) (v : ℕ) → active (hide K E H s) v ≡ active s v
  unfolding active
  active-hide s v = ap active_of (vp-hide s v) ∙ active-same K E (shape s) (vp s v)

  pub enabled_on-hide : (s : State) (v l : ℕ) → enabled_on (hide K E H s) v l ≡ enabled_on s v l
  unfolding enabled_on
  enabled_on-hide s v l = rw (shape_same, vp-hide) (enabled-same K E (shape s) (vp s v) l)

  pub anywhere-hide : (s : State) (l : ℕ) → enabled_anywhere (hide K E H s) l ≡ enabled_anywhere s l
  unfolding enabled_anywhere
  anywhere-hide s l = any-cong 4 _ _ (λ v i. enabled_on-hide s v l)

  -- What the partition holds.
  pub partition-hide : (s : State) → partition (hide K E H s) ≡ hide_partition s (partition s)
  unfolding partition hide hide_machine
  partition-hide s = refl

  pub put_partition-hide : (s : State) (x : Partition) → put_partition (hide K E H s) (hide_partition s x) ≡ hide K E H (put_partition s x)
  unfolding put_partition is_processor processors is_page pages is_mask shape hide hide_machine hide_partition
  put_partition-hide s x = refl

  -- A change of it that commutes with hiding.
  pub on_partition-hide : (s : State) (f : Shape → Partition → Partition) → f (shape s) (hide_partition s (partition s)) ≡ hide_partition s (f (shape s) (partition s)) →
      on_partition (hide K E H s) f ≡ hide K E H (on_partition s f)
  unfolding on_partition
  on_partition-hide s f e = rw (shape_same, partition-hide, e) (put_partition-hide s (f (shape s) (partition s)))

  pub enabled_for-hide : (s : State) (l : ℕ) → enabled_for (hide K E H s) l ≡ enabled_for s l
  unfolding enabled_for hide_partition
  enabled_for-hide s l = rw (shape_same, partition-hide) (in-hidden (shape s) (partition s).enabled l)

  pub mbec_for-hide : (s : State) (l : ℕ) → mbec_for (hide K E H s) l ≡ mbec_for s l
  unfolding mbec_for hide_partition
  mbec_for-hide s l = rw (shape_same, partition-hide) (in-hidden (shape s) (partition s).mbec l)

  config_in-hide : (s : State) (x : Partition) (l : ℕ) → config_in (shape s) (hide_partition s x).configs l ≡ config_in (shape s) x.configs l
  unfolding config_in hide_partition
  config_in-hide s x l = go (ltb 0 l && is_level (shape s) l) refl
    where
      go : (b : Bool) → (ltb 0 l && is_level (shape s) l) ≡ b → cond b (number_at 4 (map_at (λ l w. cond (ltb 0 l && is_level (shape s) l) w 0) x.configs) l) 0 ≡ cond b (number_at 4 x.configs l) 0
      go true e = number-map_at (λ l w. cond (ltb 0 l && is_level (shape s) l) w 0) 4 x.configs l (cond_same (ltb 0 l && is_level (shape s) l) 0) ∙ rw e
      go false e = refl

  pub config-hide : (s : State) (l : ℕ) → config_of (hide K E H s) l ≡ config_of s l
  unfolding config_of
  config-hide s l = rw (shape_same, partition-hide) (config_in-hide s (partition s) l)

  pub protects_in-hide : (s : State) (x : Partition) (l : ℕ) → protects_in (shape s) (hide_partition s x).configs l ≡ protects_in (shape s) x.configs l
  unfolding protects_in
  protects_in-hide s x l = rw config_in-hide

  pub protects-hide : (s : State) (l : ℕ) → protects (hide K E H s) l ≡ protects s l
  unfolding protects
  protects-hide s l = rw (shape_same, partition-hide) (protects_in-hide s (partition s) l)

  pub enable_level-hide : (s : State) (x : Partition) (l : ℕ) (b : Bool) → is_level (shape s) l ≡ true → enable_level (shape s) (hide_partition s x) l b ≡ hide_partition s (enable_level (shape s) x l b)
  unfolding enable_level hide_partition
  enable_level-hide s x l b i = rw (with-hidden (shape s) x.enabled l true i, with-hidden (shape s) x.mbec l b i)

  pub set_config-hide : (s : State) (x : Partition) (l w : ℕ) → 0 < l → is_level (shape s) l ≡ true → set_config (hide_partition s x) l w ≡ hide_partition s (set_config x l w)
  unfolding set_config hide_partition
  set_config-hide s x l w o i = rw (map_at-stored, lt-ltb 0 l o, i)

  -- Masks. A mask that is read is in use.
  mask-place : (s : State) (l p : ℕ) → l < 4 → is_mask s (4 * p + l) ≡ (ltb 0 l && is_level (shape s) l && is_page s p)
  unfolding is_mask
  mask-place s l p h =
      let a : (4 * p + l) % 4 ≡ l = omega arith in
      let b : (4 * p + l) / 4 ≡ p = omega arith in
      rw (a, b)

  mask_in-hide : (s : State) (x : Partition) (l p : ℕ) → mask_in (shape s) (pages s) (hide_partition s x).masks l p ≡ mask_in (shape s) (pages s) x.masks l p
  unfolding mask_in hide_partition is_page
  mask_in-hide s x l p = go (ltb 0 l && is_level (shape s) l && is_page s p) refl
    where
      go : (b : Bool) → (ltb 0 l && is_level (shape s) l && is_page s p) ≡ b → cond b (number_at 256 (map_at (λ i k. cond (is_mask s i) k 0) x.masks) (4 * p + l)) 0 ≡ cond b (number_at 256 x.masks (4 * p + l)) 0
      go true e =
          let below = level-low (shape s) l (and_right (ltb 0 l) (is_level (shape s) l) (and_left (ltb 0 l && is_level (shape s) l) (is_page s p) e)) in
          number-map_at (λ i k. cond (is_mask s i) k 0) 256 x.masks (4 * p + l) (cond_same (is_mask s (4 * p + l)) 0) ∙ rw (mask-place s l p below, e)
      go false e = refl

  pub mask-hide : (s : State) (l p : ℕ) → mask_of (hide K E H s) l p ≡ mask_of s l p
  unfolding mask_of
  mask-hide s l p = rw (shape_same, pages-same, partition-hide) (mask_in-hide s (partition s) l p)

  pub denies-hide : (s : State) (x : Partition) (l : ℕ) (mode : Mode) (p : ℕ) (a : Access) (t : ℕ) (b : Bool) →
      denies_in (shape s) (pages s) (hide_partition s x) l mode p a t b ≡ denies_in (shape s) (pages s) x l mode p a t b
  unfolding denies_in
  denies-hide s x l mode p a t b = rw (protects_in-hide s x t, mask_in-hide s x t p)

  mask-used : (s : State) (l p : ℕ) → 0 < l → is_level (shape s) l ≡ true → is_page s p ≡ true → is_mask s (4 * p + l) ≡ true
  mask-used s l p a b c = mask-place s l p (level-low (shape s) l b) ∙ rw (lt-ltb 0 l a, b, c)

  pub set_mask-hide : (s : State) (x : Partition) (l p k : ℕ) → 0 < l → is_level (shape s) l ≡ true → is_page s p ≡ true → set_mask (hide_partition s x) l p k ≡ hide_partition s (set_mask x l p k)
  unfolding set_mask hide_partition
  set_mask-hide s x l p k a b c = rw (map_at-stored, mask-used s l p a b c)

  filled-hide : (s : State) (l k n : ℕ) → 0 < l → is_level (shape s) l ≡ true → n ≤ 64 → (ms : List ℕ) →
      filled n (pages s) l k (map_at (λ i x. cond (is_mask s i) x 0) ms) ≡ map_at (λ i x. cond (is_mask s i) x 0) (filled n (pages s) l k ms)
  unfolding filled
  filled-hide s l k zero a b c ms = refl
  filled-hide s l k (suc n) a b c ms = rw (filled-hide s l k n a b (omega arith) ms) (go (ltb n (pages s)) refl)
    where
      hidden : List ℕ → List ℕ
      hidden = map_at (λ i x. cond (is_mask s i) x 0)

      go : (d : Bool) → ltb n (pages s) ≡ d → cond d (stored 256 (hidden (filled n (pages s) l k ms)) (4 * n + l) k) (hidden (filled n (pages s) l k ms)) ≡ hidden (cond d (stored 256 (filled n (pages s) l k ms) (4 * n + l) k) (filled n (pages s) l k ms))
      go true e = rw (map_at-stored, mask-used s l n a b (unfold is_page in rw (e, lt-ltb n 64 (omega arith))))
      go false e = refl

  fill_masks-hide : (s : State) (x : Partition) (l k : ℕ) → 0 < l → is_level (shape s) l ≡ true → fill_masks (pages s) (hide_partition s x) l k ≡ hide_partition s (fill_masks (pages s) x l k)
  unfolding fill_masks hide_partition
  fill_masks-hide s x l k a b = rw (filled-hide s l k 64 a b (omega arith) x.masks)

  pub configured-hide : (s : State) (x : Partition) (g w : ℕ) → 0 < g → is_level (shape s) g ≡ true → configured (shape s) (pages s) (hide_partition s x) g w ≡ hide_partition s (configured (shape s) (pages s) x g w)
  unfolding configured
  configured-hide s x g w a b =
      rw (protects_in-hide, set_config-hide s x g w a b, fill_masks-hide s (set_config x g w) g (default_mask w) a b)
      (cond-ap (hide_partition s) (turns_on w && not (protects_in (shape s) x.configs g)) (fill_masks (pages s) (set_config x g w) g (default_mask w)) (set_config x g w))

  -- Words.
  pub word-hide : (s : State) (p : ℕ) → H p ≡ false → word_of (hide K E H s) p ≡ word_of s p
  unfolding word_of hide
  word-hide s p h = rw (get_or-map_at (λ p x. cond (H p) 0 x) s.words p 0 (rw h), h)

  pub set_word-hide : (s : State) (p x : ℕ) → H p ≡ false → set_word (hide K E H s) p x ≡ hide K E H (set_word s p x)
  unfolding set_word is_processor processors is_page pages is_mask shape hide hide_machine hide_partition
  set_word-hide s p x h = rw (map_at-set, h)

  pub closed_same : (s : State) (p : ℕ) → closed K (hide K E H s) p ≡ closed K s p
  unfolding closed host_mask_of
  closed_same s p = simp (host-same, protects-hide, mask-hide)
