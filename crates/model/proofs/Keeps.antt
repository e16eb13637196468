-- A step keeps a state well formed. Assumes nothing.
use mathlib.Core.Path.{◌≡◌, refl, sym, ◌∙◌, ap}
use mathlib.Core.Bool.{Bool, true, false, not, cond, ◌&&◌, ◌||◌, false≢true, and-false, or-true}
use mathlib.Core.List.{List}
use mathlib.Core.Option.{Option, none, some}
use Prim.Native.Nat.{ℕ, zero, suc, ◌+◌, ◌*◌, ◌<◌}
use native.Mathlib.Omega.{arith}
use lib.Dec.{leb, ltb, eqb}
use borrow.Author.Tests.{lt-ltb, le-leb, eq-eqb, ltb-true, ltb-false, eqb-true, eqb-false, not-true, not-false}
use Rattle.word.specs.Field.{bit}
use Rattle.model.specs.Arrays.{number_at, stored}
use Rattle.model.specs.Bounded.{every}
use Rattle.model.specs.Claims.{StepKeeps}
use Rattle.model.specs.Entry.{enter, called, returned, interrupted, started, acknowledged, by_interrupt}
use Rattle.model.specs.Events.{configured, watch_effect}
use Rattle.model.specs.Masks.{valid_mask, kernel_only, default_mask, turns_on, reserved_set, secure_reserved_set, protects_in, protects}
use Rattle.model.specs.State.{State, Partition, Shape, VirtualProcessor, Watch, processors, shape, max_level_of, pages, partition, is_level, is_processor, vp, context, active_of, active, enabled_at, enabled_on, enabled_for, mbec_for, config_in, config_of, mask_in, mask_of, mbec_bit}
use Rattle.model.specs.Step.{Event, Enpart, Envp, Call, Ret, Read, Write, Fetch, Protect, Config, Secure, Flush, Rreg, Wreg, Tpr, Ack, Pstat, Vstat, Caps, Cri, Crm, Made, Int, rule, rule_of, maker, intercepted, next_for, step}
use Rattle.model.specs.Updates.{with_masks, set_register, set_tpr, set_secure, set_watch, with_intercepts, with_cr_mask, enable_level, set_config, set_mask, filled, fill_masks, put_vp, put_partition, set_word, on_vp, on_partition}
use Rattle.model.specs.Watching.{intercept_reserved_set}
use Rattle.model.specs.WellFormed.{well_sized, well_formed_vp, well_formed_level_by, well_formed_level, well_formed_parts, well_moded, well_formed}
use Rattle.model.proofs.AnswerLaws.{Passed, Taken, step-cases}
use Rattle.model.proofs.ArrayLaws.{number-cases, number-new}
use Rattle.model.proofs.Bools.{and_left, and_right, and-not, and-off, and_both, or_left, implied, implies-test, hold, all_hold, cond-holds, positive}
use Rattle.model.proofs.BoundedLaws.{every-at, every-all}
use Rattle.model.specs.Hide.{quiet_maker}
use Rattle.model.proofs.Formed
use Rattle.model.proofs.Formed.{well-sized, well-parts, well-moded, is-processor, is-level, active-level}
use Rattle.model.proofs.Four.{level-low}
use Rattle.model.proofs.LevelSets.{in-here, in-cases}
use Rattle.model.proofs.Moves.{Moved, vp-cases, step-moved, modes-kept}
use Rattle.model.proofs.Sound
use Rattle.model.proofs.Sound.{SoundVp, sound-test, test-sound, sound_more}

-- A well-formed processor's record, as its facts, and back.
abbrev SoundIn : State → VirtualProcessor → Type 0
SoundIn s p = SoundVp (shape s) (enabled_for s) (mbec_for s) p

abbrev formed : State → VirtualProcessor → Bool
formed s p = well_formed_vp (shape s) (partition s) p

vp-sound : (s : State) (p : VirtualProcessor) → formed s p ≡ true → SoundIn s p
unfolding well_formed_vp enabled_for mbec_for
vp-sound s p h =
    let t = hold _ h in
    record { four = eqb-true _ 4 t.0; base = t.1.0; current = t.1.1.0; each = λ l i. test-sound l (enabled_for s l) (enabled_at (shape s) p l) (mbec_for s l) (enabled_at (shape s) p) (context (shape s) p l) (every-at 4 _ t.1.1.1.0 l i) }

sound-vp : (s : State) (p : VirtualProcessor) → SoundIn s p → formed s p ≡ true
unfolding well_formed_vp enabled_for mbec_for
sound-vp s p g =
    all_hold _ (eq-eqb _ 4 g.four, (g.base, (g.current, (every-all 4 _ (λ l i. sound-test l (enabled_for s l) (enabled_at (shape s) p l) (mbec_for s l) (enabled_at (shape s) p) (context (shape s) p l) (g.each l i)), tt))))

-- A level passes the tests of a well-formed one.
abbrev Tested : State → ℕ → Type 0
Tested s l = well_formed_level_by (mask_of s l) (config_of s l) (enabled_for s l) (mbec_for s l) ≡ true

-- A change of one processor's record.
on_vp-parts : (s : State) (v : ℕ) (f : Shape → VirtualProcessor → VirtualProcessor) → well_formed_parts s ≡ true → (is_processor s v ≡ true → SoundIn s (vp s v) → SoundIn s (f (shape s) (vp s v))) → well_formed_parts (on_vp s v f) ≡ true
unfolding well_formed_parts well_formed_vp well_formed_level on_vp put_vp is_processor processors shape partition pages enabled_for mbec_for config_of mask_of
on_vp-parts s v f h g =
    let t = hold _ h in
    let old : (u : ℕ) → u < 4 → is_processor s u ≡ true → formed s (vp s u) ≡ true = λ u i e. implied (is_processor s u) _ (every-at 4 _ t.0 u i) e in
    all_hold _ (
      every-all 4 _ (λ u i. implies-test (is_processor s u) _ (λ e. vp-cases (λ q. formed s q ≡ true) s v u (f (shape s) (vp s v)) (old u i e)
          (λ q. sound-vp s _ (g (rw q at e) (vp-sound s (vp s v) (rw q at (old u i e))))))),
      t.1,
    )

-- A change of what the partition holds: what is enabled and has MBEC still does, and each level above 0 passes.
module _ (s : State) (x : Partition) where
  abbrev changed : State
  changed = put_partition s x

  pub record Grown : Type 0 where
    pub on : (l : ℕ) → enabled_for s l ≡ true → enabled_for changed l ≡ true
    pub mbec : (l : ℕ) → mbec_for s l ≡ true → mbec_for changed l ≡ true
    pub zeroth : not (mbec_for s 0) ≡ true → not (mbec_for changed 0) ≡ true

  partition-parts : well_formed_parts s ≡ true → Grown → ((l : ℕ) → 0 < l → Tested s l → Tested changed l) → well_formed_parts changed ≡ true
  unfolding well_formed_parts well_formed_level
  partition-parts h more tests =
      let t = hold _ h in
      all_hold _ (
        every-all 4 _ (λ u i. implies-test (is_processor changed u) _ (λ e. processor u e (every-at 4 _ t.0 u i))),
        (every-all 3 _ (λ i b. tests (suc i) (omega arith) (every-at 3 _ t.1.0 i b)), (unfold put_partition in t.1.1.0, (more.zeroth t.1.1.1.0, tt))),
      )
    where
      grown : (p : VirtualProcessor) → SoundIn s p → SoundIn changed p
      grown p g = unfold put_partition shape in record {
        four = g.four;
        base = g.base;
        current = g.current;
        each = λ j i. sound_more j _ (enabled_for changed j) _ _ (mbec_for changed j) _ (enabled_at (shape s) p) (context (shape s) p j) (more.on j) (more.mbec j) (λ k e. e) (g.each j i);
      }

      processor : (u : ℕ) → is_processor changed u ≡ true → (not (is_processor s u) || formed s (vp s u)) ≡ true → formed changed (vp changed u) ≡ true
      processor u e h = unfold put_partition is_processor processors vp in sound-vp changed (vp s u) (grown (vp s u) (vp-sound s (vp s u) (implied (is_processor s u) (formed s (vp s u)) h e)))

  -- The sets of levels stay.
  same-sets : x.enabled ≡ (partition s).enabled → x.mbec ≡ (partition s).mbec → Grown
  unfolding enabled_for mbec_for put_partition partition shape
  same-sets p q = record { on = λ l h. rw p h; mbec = λ l h. rw q h; zeroth = λ h. rw q h }

-- A configuration word is stored.
config-parts : (s : State) (g w : ℕ) → well_formed_parts s ≡ true → 0 < g → (well_formed_level_by (mask_of s g) w (enabled_for s g) (mbec_for s g)) ≡ true → well_formed_parts (put_partition s (set_config (partition s) g w)) ≡ true
config-parts s g w h o new = partition-parts s (set_config (partition s) g w) h (unfold set_config in same-sets s _ refl refl) (λ l a old. test l old)
  where
    go : (l : ℕ) → Tested s l → (b : Bool) → (ltb 0 l && is_level (shape s) l) ≡ b
        → (well_formed_level_by (mask_of s l) (cond b (number_at 4 (stored 4 (partition s).configs g w) l) 0) (enabled_for s l) (mbec_for s l)) ≡ true
    go l old true e = number-cases (λ y. (well_formed_level_by (mask_of s l) y (enabled_for s l) (mbec_for s l)) ≡ true) 4 (partition s).configs g l w (unfold config_of config_in in rw e at old) (λ q. rw q new)
    go l old false e = unfold config_of config_in in rw e at old

    test : (l : ℕ) → Tested s l → Tested (put_partition s (set_config (partition s) g w)) l
    test l old = unfold set_config put_partition config_of config_in mask_of mask_in enabled_for mbec_for partition shape pages in go l old (ltb 0 l && is_level (shape s) l) refl

-- New masks that are as good as the old ones, and not KMX alone where that is refused.
masks-tests : (m n : ℕ → ℕ) (w : ℕ) (on mbec : Bool) → ((p : ℕ) → valid_mask (m p) ≡ true → valid_mask (n p) ≡ true) → (mbec ≡ true → turns_on w ≡ true → (p : ℕ) → not (kernel_only (m p)) ≡ true → not (kernel_only (n p)) ≡ true) →
    well_formed_level_by m w on mbec ≡ true → well_formed_level_by n w on mbec ≡ true
masks-tests m n w on mbec valid kernel h =
    let t = hold _ h in
    all_hold _ (
      every-all 64 _ (λ p i. valid p (every-at 64 _ t.0 p i)),
      (
        t.1.0,
        (
          t.1.1.0,
          (
            t.1.1.1.0,
            (
              t.1.1.1.1.0,
              (
                implies-test (mbec && turns_on w) _ (λ b.
                    let q = implied (mbec && turns_on w) _ t.1.1.1.1.1.0 b in
                    and_both (not (kernel_only (default_mask w))) _ (and_left (not (kernel_only (default_mask w))) _ q)
                    (every-all 64 _ (λ p i. kernel (and_left mbec (turns_on w) b) (and_right mbec (turns_on w) b) p (every-at 64 _ (and_right (not (kernel_only (default_mask w))) _ q) p i)))),
                tt,
              ),
            ),
          ),
        ),
      ),
    )

-- Masks are stored, each as good as the old one.
masks-parts : (s : State) (ks : List ℕ) → well_formed_parts s ≡ true →
    ((l q : ℕ) → valid_mask (mask_of s l q) ≡ true → valid_mask (mask_of (put_partition s (with_masks (partition s) ks)) l q) ≡ true) →
    ((l : ℕ) → mbec_for s l ≡ true → turns_on (config_of s l) ≡ true → (q : ℕ) → not (kernel_only (mask_of s l q)) ≡ true → not (kernel_only (mask_of (put_partition s (with_masks (partition s) ks)) l q)) ≡ true) →
    well_formed_parts (put_partition s (with_masks (partition s) ks)) ≡ true
masks-parts s ks h valid kernel = partition-parts s (with_masks (partition s) ks) h (same-sets s _ refl refl) (λ l a old.
    unfold put_partition config_of config_in enabled_for mbec_for partition shape in masks-tests (mask_of s l) (mask_of (put_partition s (with_masks (partition s) ks)) l) (config_of s l) (enabled_for s l) (mbec_for s l) (valid l) (kernel l) old)

-- The mask of level j for page q after one mask of level l is set.
mask-after : (P : ℕ → Type 0) (s : State) (l p k j q : ℕ) → l < 4 → P (mask_of s j q) → (j ≡ l → P k) → P (mask_of (put_partition s (set_mask (partition s) l p k)) j q)
unfolding mask_of mask_in set_mask put_partition partition shape pages
mask-after P s l p k j q b h new = go (ltb 0 j && is_level (shape s) j && (ltb q (pages s) && ltb q 64)) refl h
  where
    go : (g : Bool) → (ltb 0 j && is_level (shape s) j && (ltb q (pages s) && ltb q 64)) ≡ g → P (cond g (number_at 256 (partition s).masks (4 * q + j)) 0) → P (cond g (number_at 256 (stored 256 (partition s).masks (4 * p + l) k) (4 * q + j)) 0)
    go true e o =
        let low : j < 4 = level-low (shape s) j (and_right (ltb 0 j) (is_level (shape s) j) (and_left (ltb 0 j && is_level (shape s) j) _ e)) in
        number-cases P 256 (partition s).masks (4 * p + l) (4 * q + j) k o (λ d. new (omega arith))
    go false e o = o

set_mask-parts : (s : State) (l p k : ℕ) → well_formed_parts s ≡ true → l < 4 → valid_mask k ≡ true → (kernel_only k && mbec_for s l) ≡ false → well_formed_parts (put_partition s (set_mask (partition s) l p k)) ≡ true
set_mask-parts s l p k h b v r = unfold set_mask in masks-parts s (stored 256 (partition s).masks (4 * p + l) k) h
    (λ j q old. unfold set_mask in mask-after (λ y. valid_mask y ≡ true) s l p k j q b old (λ e. v))
    (λ j mb on q old. unfold set_mask in mask-after (λ y. not (kernel_only y) ≡ true) s l p k j q b old (λ e. rw (and-off (kernel_only k) (mbec_for s l) r (rw e at mb))))

-- The mask of level j for page q after level g's masks of all pages are set: the old or the new one, and of level g the new one.
module _ (P : ℕ → Type 0) (s : State) (g k : ℕ) (b : g < 4) where
  abbrev masks : List ℕ
  masks = (partition s).masks

  abbrev after : State
  after = put_partition s (fill_masks (pages s) (partition s) g k)

  filled-cases : (n j q : ℕ) → j < 4 → P (number_at 256 masks (4 * q + j)) → (j ≡ g → P k) → P (number_at 256 (filled n (pages s) g k masks) (4 * q + j))
  unfolding filled
  filled-cases zero j q c h f = h
  filled-cases (suc n) j q c h f =
      cond-holds (λ ks. P (number_at 256 ks (4 * q + j))) (ltb n (pages s)) _ _ (number-cases P 256 (filled n (pages s) g k masks) (4 * n + g) (4 * q + j) k (filled-cases n j q c h f) (λ d. f (omega arith))) (filled-cases n j q c h f)

  filled-new : (n q : ℕ) → q < n → q < pages s → P k → P 0 → P (number_at 256 (filled n (pages s) g k masks) (4 * q + g))
  unfolding filled
  filled-new zero q c d h z = absurd (omega arith)
  filled-new (suc n) q c d h z = go (eqb q n) refl (λ e. filled-new n q e d h z)
    where
      ks : List ℕ
      ks = filled n (pages s) g k masks

      go : (e : Bool) → eqb q n ≡ e → (q < n → P (number_at 256 ks (4 * q + g))) → P (number_at 256 (cond (ltb n (pages s)) (stored 256 ks (4 * n + g) k) ks) (4 * q + g))
      go true e r = rw (eqb-true q n e, lt-ltb n (pages s) (let x = eqb-true q n e in omega arith)) (number-new P 256 ks (4 * n + g) k h z)
      go false e r =
          let ne : (q ≡ n → ⊥) = eqb-false q n e in
          cond-holds (λ ms. P (number_at 256 ms (4 * q + g))) (ltb n (pages s)) (stored 256 ks (4 * n + g) k) ks (number-cases P 256 ks (4 * n + g) (4 * q + g) k (r (omega arith)) (λ d. h)) (r (omega arith))

  mask-filled : (j q : ℕ) → P (mask_of s j q) → (j ≡ g → P k) → P (mask_of after j q)
  unfolding mask_of mask_in fill_masks put_partition partition shape pages
  mask-filled j q h f = go (ltb 0 j && is_level (shape s) j && (ltb q (pages s) && ltb q 64)) refl h
    where
      go : (e : Bool) → (ltb 0 j && is_level (shape s) j && (ltb q (pages s) && ltb q 64)) ≡ e → P (cond e (number_at 256 masks (4 * q + j)) 0) → P (cond e (number_at 256 (filled 64 (pages s) g k masks) (4 * q + j)) 0)
      go true e o = filled-cases 64 j q (level-low (shape s) j (and_right (ltb 0 j) (is_level (shape s) j) (and_left (ltb 0 j && is_level (shape s) j) _ e))) o f
      go false e o = o

  mask-new : (q : ℕ) → P k → P 0 → P (mask_of after g q)
  unfolding mask_of mask_in fill_masks put_partition partition shape pages
  mask-new q h z = go (ltb 0 g && is_level (shape s) g && (ltb q (pages s) && ltb q 64)) refl
    where
      go : (e : Bool) → (ltb 0 g && is_level (shape s) g && (ltb q (pages s) && ltb q 64)) ≡ e → P (cond e (number_at 256 (filled 64 (pages s) g k masks) (4 * q + g)) 0)
      go true e = let i = and_right (ltb 0 g && is_level (shape s) g) (ltb q (pages s) && ltb q 64) e in filled-new 64 q (ltb-true q 64 (and_right (ltb q (pages s)) (ltb q 64) i)) (ltb-true q (pages s) (and_left (ltb q (pages s)) (ltb q 64) i)) h z
      go false e = z

-- A new configuration word. Where it turns protections on, the masks are filled first.
module _ (s : State) (g w : ℕ) (h : well_formed_parts s ≡ true) (o : 0 < g) (b : g < 4) (on : enabled_for s g ≡ true)
    (r : reserved_set w ≡ false) (v : valid_mask (default_mask w) ≡ true) (kx : (kernel_only (default_mask w) && mbec_for s g) ≡ false) where
  -- The word passes, where the masks are as they must be under it.
  word-tests : (m : ℕ → ℕ) → every 64 (λ p. valid_mask (m p)) ≡ true → (mbec_for s g ≡ true → turns_on w ≡ true → every 64 (λ p. not (kernel_only (m p))) ≡ true) → (well_formed_level_by m w (enabled_for s g) (mbec_for s g)) ≡ true
  word-tests m valid kernel = rw on (all_hold _ (
    valid,
    (
      v,
      (
        rw r,
        (
          or-true (not (turns_on w)),
          (
            or-true (not (mbec_for s g)),
            (
              implies-test (mbec_for s g && turns_on w) _ (λ q.
                  let mb = and_left (mbec_for s g) (turns_on w) q in
                  and_both (not (kernel_only (default_mask w))) _ (rw (and-off (kernel_only (default_mask w)) (mbec_for s g) kx mb)) (kernel mb (and_right (mbec_for s g) (turns_on w) q))),
              tt,
            ),
          ),
        ),
      ),
    ),
  ))

  level-tests : Tested s g
  level-tests = unfold well_formed_parts well_formed_level in go g o b (hold _ h).1.0
    where
      go : (l : ℕ) → 0 < l → l < 4 → every 3 (λ i. well_formed_level s (suc i)) ≡ true → well_formed_level s l ≡ true
      go zero x y q = absurd (omega arith)
      go (suc l) x y q = every-at 3 _ q l (omega arith)

  -- The masks filled, in a state whose protections of g are off.
  filled-state : State
  filled-state = put_partition s (fill_masks (pages s) (partition s) g (default_mask w))

  filled-parts : turns_on (config_of s g) ≡ false → well_formed_parts filled-state ≡ true
  filled-parts off = unfold filled-state fill_masks in masks-parts s (filled 64 (pages s) g (default_mask w) (partition s).masks) h
      (λ j q old. unfold fill_masks in mask-filled (λ y. valid_mask y ≡ true) s g (default_mask w) b j q old (λ e. v))
      (λ j mb turned q old. unfold fill_masks in mask-filled (λ y. not (kernel_only y) ≡ true) s g (default_mask w) b j q old (λ e. absurd (false≢true (sym off ∙ (rw e at turned)))))

  -- The word and the masks can be put in either order.
  swapped : put_partition s (fill_masks (pages s) (set_config (partition s) g w) g (default_mask w)) ≡ put_partition filled-state (set_config (partition filled-state) g w)
  unfolding fill_masks set_config put_partition partition filled-state
  swapped = refl

  filled-tests : (well_formed_level_by (mask_of filled-state g) w (enabled_for filled-state g) (mbec_for filled-state g)) ≡ true
  filled-tests =
      unfold enabled_for mbec_for put_partition partition shape fill_masks filled-state in
      word-tests (mask_of filled-state g)
      (every-all 64 _ (λ q i. mask-new (λ y. valid_mask y ≡ true) s g (default_mask w) b q v refl))
      (λ mb turned. every-all 64 _ (λ q i. mask-new (λ y. not (kernel_only y) ≡ true) s g (default_mask w) b q (rw (and-off (kernel_only (default_mask w)) (mbec_for s g) kx mb)) refl))

  configured-parts : well_formed_parts (on_partition s (λ z x. configured z (pages s) x g w)) ≡ true
  unfolding on_partition configured
  configured-parts = go (turns_on w && not (protects_in (shape s) (partition s).configs g)) refl
    where
      config-is : protects s g ≡ turns_on (config_of s g)
      config-is = unfold protects protects_in config_of in refl

      go : (c : Bool) → (turns_on w && not (protects_in (shape s) (partition s).configs g)) ≡ c
          → well_formed_parts (put_partition s (cond c (fill_masks (pages s) (set_config (partition s) g w) g (default_mask w)) (set_config (partition s) g w))) ≡ true
      go true e =
          let off : turns_on (config_of s g) ≡ false = sym config-is ∙ unfold protects in not-true (protects_in (shape s) (partition s).configs g) (and_right (turns_on w) (not (protects_in (shape s) (partition s).configs g)) e) in
          rw swapped (config-parts filled-state g w (filled-parts off) o filled-tests)
      go false e = config-parts s g w h o (word-tests (mask_of s g) (hold _ level-tests).0 (λ mb turned.
          let was : turns_on (config_of s g) ≡ true = sym config-is ∙ unfold protects in not-false (protects_in (shape s) (partition s).configs g) (and-not (turns_on w) (not (protects_in (shape s) (partition s).configs g)) e turned) in
          and_right (not (kernel_only (default_mask (config_of s g)))) _ (implied (mbec_for s g && turns_on (config_of s g)) _ (hold _ level-tests).1.1.1.1.1.0 (rw was (and_both (mbec_for s g) true mb refl)))))

-- A step from a well-formed state.
module _ (s : State) (w : well_formed s ≡ true) where
  parts : well_formed_parts s ≡ true
  parts = well-parts s w

  -- A level that is not enabled for the partition has neither protections nor MBEC.
  enable-parts : (t : ℕ) (mbec : Bool) → 0 < t → is_level (shape s) t ≡ true → enabled_for s t ≡ false → well_formed_parts (on_partition s (λ z x. enable_level z x t mbec)) ≡ true
  unfolding on_partition
  enable-parts t mbec o i off = partition-parts s x parts (record {
    on = λ l h. is-on (λ y. y ≡ true) l h (λ e. refl);
    mbec = λ l h. has-mbec (λ y. y ≡ true) l h (λ e. absurd (false≢true (sym free ∙ (rw e at h))));
    zeroth = λ h. has-mbec (λ y. not y ≡ true) 0 h (λ e. absurd (omega arith));
  }) (λ l a old. go l old (eqb l t) refl)
    where
      x : Partition
      x = enable_level (shape s) (partition s) t mbec

      is-on : (P : Bool → Type 0) (l : ℕ) → P (enabled_for s l) → (l ≡ t → P true) → P (enabled_for (put_partition s x) l)
      is-on P l old new = unfold enabled_for put_partition partition shape enable_level in in-cases (shape s) (partition s).enabled t true i P l old new

      has-mbec : (P : Bool → Type 0) (l : ℕ) → P (mbec_for s l) → (l ≡ t → P mbec) → P (mbec_for (put_partition s x) l)
      has-mbec P l old new = unfold mbec_for put_partition partition shape enable_level in in-cases (shape s) (partition s).mbec t mbec i P l old new

      tests : Tested s t
      tests = unfold well_formed_level in Formed.well-level s w t o (level-low (shape s) t i)

      contra : (a : Bool) → (not a || enabled_for s t) ≡ true → a ≡ false
      contra true h = sym h ∙ off
      contra false h = refl

      none : turns_on (config_of s t) ≡ false
      none = contra (turns_on (config_of s t)) (hold _ tests).1.1.1.0

      free : mbec_for s t ≡ false
      free = contra (mbec_for s t) (hold _ tests).1.1.1.1.0

      enabled : enabled_for (put_partition s x) t ≡ true
      enabled = unfold enabled_for put_partition partition shape enable_level in in-here (shape s) (partition s).enabled t true i

      new-tests : (well_formed_level_by (mask_of s t) (config_of s t) (enabled_for (put_partition s x) t) (mbec_for (put_partition s x) t)) ≡ true
      new-tests =
          let f = hold _ tests in
          rw (enabled, none) (all_hold _ (f.0, (f.1.0, (f.1.1.0, (refl, (or-true (not (mbec_for (put_partition s x) t)), (rw (and-false (mbec_for (put_partition s x) t)), tt)))))))

      go : (l : ℕ) → Tested s l → (b : Bool) → eqb l t ≡ b → Tested (put_partition s x) l
      go l old true e = rw (eqb-true l t e) (unfold enable_level put_partition config_of config_in mask_of mask_in partition shape pages in new-tests)
      go l old false e =
          let n = eqb-false l t e in
          let same-on : enabled_for (put_partition s x) l ≡ enabled_for s l = is-on (λ y. y ≡ enabled_for s l) l refl (λ q. absurd (n q)) in
          let same-mbec : mbec_for (put_partition s x) l ≡ mbec_for s l = has-mbec (λ y. y ≡ mbec_for s l) l refl (λ q. absurd (n q)) in
          rw (same-on, same-mbec) (unfold enable_level put_partition config_of config_in mask_of mask_in partition shape pages in old)

  watch-parts : (v : ℕ) (f : Watch → Watch) → ((u : Watch) → not (intercept_reserved_set u.intercepts) ≡ true → not (intercept_reserved_set (f u).intercepts) ≡ true) → well_formed_parts (watch_effect s v f) ≡ true
  watch-parts v f k =
      on_vp-parts s v (λ z p. set_watch z p (active_of p) (f (context z p (active_of p)).watch)) parts (λ i g. Sound.set_watch-sound (shape s) (enabled_for s) (mbec_for s) (vp s v) (active_of (vp s v)) f (active-level s w v i) k g)

  effect-parts : (e : Event) → Passed (rule s e).refusals → well_formed_parts (rule s e).effect ≡ true
  unfolding rule rule_of active
  effect-parts (Made v mode (Enpart t mbec)) ps = enable-parts t.0 (eqb mbec 1) (positive t.0 search) (is-level s w t.0 search) search
  effect-parts (Made v mode (Envp u t ip sp cr)) ps = on_vp-parts s u.0 (λ z p. started z p t.0 ip sp cr) parts (λ i g. Sound.started-sound (shape s) (enabled_for s) (mbec_for s) (vp s u.0) t.0 ip sp cr (is-level s w t.0 search) (positive t.0 search) (not-false (enabled_for s t.0) search) g)
  effect-parts (Made v mode (Call len)) ps = on_vp-parts s v.0 (λ z p. called z p len) parts (λ i g. Sound.called-sound (shape s) (enabled_for s) (mbec_for s) (vp s v.0) len (search) g)
  effect-parts (Made v mode (Ret len)) ps = on_vp-parts s v.0 (λ z p. returned z p len) parts (λ i g. Sound.returned-sound (shape s) (enabled_for s) (mbec_for s) (vp s v.0) len (positive (active_of (vp s v.0)) search) g)
  effect-parts (Made v mode (Read p)) ps = parts
  effect-parts (Made v mode (Write p x)) ps = unfold set_word well_formed_parts well_formed_vp well_formed_level is_processor processors shape vp partition enabled_for mbec_for config_of mask_of pages in parts
  effect-parts (Made v mode (Fetch p)) ps = parts
  effect-parts (Made v mode (Protect p m)) ps = unfold on_partition in set_mask-parts s (active_of (vp s v.0)) p.0 m parts (level-low (shape s) _ (active-level s w v.0 (is-processor s w v.0 search))) (not-false (valid_mask m) search) search
  effect-parts (Made v mode (Config g x)) ps = configured-parts s g.0 x parts (positive g.0 search) (level-low (shape s) _ (is-level s w g.0 search)) (not-false (enabled_for s g.0) search) (search) (not-false (valid_mask (default_mask x)) search) (search)
  effect-parts (Made v mode (Secure l x)) ps =
      let legal : secure_reserved_set x ≡ false = search in
      let mbec : (bit x mbec_bit && not (mbec_for s (active_of (vp s v.0)))) ≡ false = search in
      on_vp-parts s v.0 (λ z p. set_secure z p (active_of p) l.0 x) parts (λ i g. Sound.set_secure-sound (shape s) (enabled_for s) (mbec_for s) (vp s v.0) (active_of (vp s v.0)) l.0 x (active-level s w v.0 i)
      (and_both (not (secure_reserved_set x)) _ (rw legal) (implies-test (bit x mbec_bit) _ (λ b. not-false (mbec_for s (active_of (vp s v.0))) (and-not (bit x mbec_bit) _ mbec b)))) g)
  effect-parts (Made v mode Flush) ps = parts
  effect-parts (Made v mode (Rreg g r)) ps = parts
  effect-parts (Made v mode (Wreg g r x)) ps = on_vp-parts s v.0 (λ z p. set_register z p g.0 r x) parts (λ i h. Sound.set_register-sound (shape s) (enabled_for s) (mbec_for s) (vp s v.0) g.0 r x (is-level s w g.0 search) h)
  effect-parts (Made v mode (Tpr class)) ps =
      let legal : ltb 15 class ≡ false = search in
      on_vp-parts s v.0 (λ z p. set_tpr z p (active_of p) class) parts (λ i g. Sound.set_tpr-sound (shape s) (enabled_for s) (mbec_for s) (vp s v.0) (active_of (vp s v.0)) class (active-level s w v.0 i) (le-leb class 15 (ltb-false 15 class legal)) g)
  effect-parts (Made v mode Ack) ps = on_vp-parts s v.0 acknowledged parts (λ i g. Sound.acknowledged-sound (shape s) (enabled_for s) (mbec_for s) (vp s v.0) (search) g)
  effect-parts (Int u g n) ps = on_vp-parts s u.0 (λ z p. interrupted z p g.0 n) parts (λ i h. Sound.interrupted-sound (shape s) (enabled_for s) (mbec_for s) (vp s u.0) g.0 n (ltb-false n 16 (or_left (ltb n 16) (ltb 255 n) search)) (unfold enabled_on in not-false (enabled_on s u.0 g.0) search) h)
  effect-parts (Made v mode Pstat) ps = parts
  effect-parts (Made v mode Vstat) ps = parts
  effect-parts (Made v mode Caps) ps = parts
  effect-parts (Made v mode (Cri word)) ps = watch-parts v.0 (λ w. with_intercepts w word) (λ w h. let legal : intercept_reserved_set word ≡ false = search in rw legal)
  effect-parts (Made v mode (Crm n mask)) ps = watch-parts v.0 (λ w. with_cr_mask w (eqb n 4) mask) (λ w h. h)

  intercepted-parts : (e : Event) (l : ℕ) → Taken s e l → well_formed_parts (intercepted s (maker e) l) ≡ true
  intercepted-parts e l t = rw t.made (unfold intercepted in on_vp-parts s t.v (λ z p. enter z p l by_interrupt) parts (λ i g. Sound.enter-sound (shape s) (enabled_for s) (mbec_for s) (vp s t.v) l by_interrupt refl refl (unfold active in t.above) (unfold enabled_on in t.enabled) g))

  -- Above all levels every event is quiet.
  all_quiet : (m : Option ℕ) → quiet_maker 4 s m ≡ true
  unfolding quiet_maker active
  all_quiet none = refl
  all_quiet (some v) = go (leb (processors s) v) refl
    where
      go : (b : Bool) → leb (processors s) v ≡ b → (b || ltb (active_of (vp s v)) 4) ≡ true
      go true e = refl
      go false e = lt-ltb (active_of (vp s v)) 4 (level-low (shape s) _ (active-level s w v (is-processor s w v e)))

  parts-kept : (e : Event) → well_formed_parts (step s e).next ≡ true
  unfolding next_for
  parts-kept e = step-cases s e (λ o. well_formed_parts o.next ≡ true) (λ w ps. effect-parts e ps) (λ r. parts) (λ w l t. intercepted-parts e l t)

pub step_keeps : StepKeeps
unfolding well_formed well_sized max_level_of
step_keeps s e w =
    and_both (well_sized (step s e).next && well_formed_parts (step s e).next) (well_moded (step s e).next)
    (and_both (well_sized (step s e).next) (well_formed_parts (step s e).next) (rw (ap (λ f. f.0) m.frame-kept, ap (λ f. f.1) m.frame-kept, ap (λ f. f.2) m.frame-kept, ap (λ f. f.3) m.frame-kept) (well-sized s w)) (parts-kept s w e))
    (modes-kept 4 s (step s e).next m (well-moded s w))
  where
    m : Moved 4 s (step s e).next
    m = step-moved 4 (omega arith) s e (all_quiet s w (maker e))
