-- What a step leaves as it was: a preorder on contexts, processors and states, each update's place in it, and that of a step.
-- Assumes nothing.
use mathlib.Core.Path.{◌≡◌, refl, sym, ap, ◌∙◌}
use mathlib.Core.Bool.{Bool, true, false, not, cond, ◌&&◌, ◌||◌, false≢true, and-false}
use mathlib.Core.List.{List}
use mathlib.Core.Option.{Option, none, some}
use Prim.Native.Nat.{ℕ, zero, suc, ◌+◌, ◌*◌, ◌≤◌, ◌<◌}
use native.Mathlib.Omega.{arith}
use lib.Dec.{leb, ltb, eqb}
use lib.ListN.{length, get_or, set, length-set}
use lib.Seq.{get_or-set_same, get_or-set_other}
use borrow.Author.Tests.{lt-ltb, le-leb, lt-leb, eq-eqb, eqb-true, eqb-false, ltb-true, ltb-false, leb-true, not-false}
use Rattle.word.specs.Field.{bit}
use Rattle.model.specs.Arrays.{number_at, stored}
use Rattle.model.specs.Entry.{record_of, enter, next_up, advanced, called, restored, waiting, reentered, left, returned, enters, interrupted, started_context, started, acknowledged, by_call, by_interrupt}
use Rattle.model.specs.Events.{configured, watch_effect}
use Rattle.model.specs.Masks.{read_bit, write_bit, turns_on, default_mask, protects_in, protects}
use Rattle.model.specs.Memory.{needed}
use Rattle.model.specs.Registers.{rip, cr0, rax, rcx, protected_bit, is_private, private_of, shared_of}
use Rattle.model.specs.State.{State, Context, Partition, Shape, VirtualProcessor, Access, Watch, no_context, past_context, no_vp, past_vp, processors, shape, pages, partition, is_level, is_processor, vp, context, active_of, active, enabled_at, enabled_on, enabled_anywhere, config_in, mask_in, mask_of, host_mask_of, word_of}
use Rattle.model.specs.Step.{Event, Enpart, Envp, Call, Ret, Read, Write, Fetch, Protect, Config, Secure, Flush, Rreg, Wreg, Tpr, Ack, Pstat, Vstat, Caps, Cri, Crm, Made, Int, rule, rule_of, maker, mode_of, intercepted, next_for, step}
use Rattle.model.specs.Updates.{with_control, with_active, put_context, set_shared, set_private, set_register, set_tpr, set_pending, set_secure, set_watch, with_intercepts, with_cr_mask, unlocked, enable_level, set_config, set_mask, filled, fill_masks, put_vp, put_partition, set_word, on_vp, on_partition}
use Rattle.model.specs.WellFormed.{well_moded_vp, well_moded, well_formed}
use Rattle.model.proofs.AnswerLaws.{Passed, step-cases}
use Rattle.model.proofs.ArrayLaws.{set_cases, stored-cases, number-cases}
use Rattle.model.proofs.Bools.{and_left, and_right, and-not, implied, implies-test, cond-holds}
use Rattle.model.proofs.BoundedLaws.{every-at, every-all, any-cong, any-grows}
use Rattle.model.specs.Hide.{closed, hides}
use Rattle.model.specs.Hide.{quiet_maker}
use Rattle.model.proofs.Formed.{is-processor, is-level, four-contexts}
use Rattle.model.proofs.Four.{level-low}
use Rattle.model.proofs.LevelSets.{in-here, in-other}
use Rattle.model.proofs.Steps.{maker-low, open-page, read-of-write, start-open}

-- What holds of an old record, and of the new one at its own place, holds of what is read after the record is put.
pub context-cases : (P : Context → Type 0) (z : Shape) (p : VirtualProcessor) (l j : ℕ) (c : Context) → P (context z p j) → (j ≡ l → P c) → P (context z (put_context z p l c) j)
unfolding context put_context
context-cases P z p l j c h k = go (is_level z j) (is_level z l) h
  where
    go : (b a : Bool) → P (cond b (get_or p.contexts j past_context) no_context)
        → P (cond b (get_or (cond a (set p.contexts l c) p.contexts) j past_context) no_context)
    go true true q = set_cases P p.contexts l j c past_context q k
    go true false q = q
    go false a q = q

pub vp-cases : (P : VirtualProcessor → Type 0) (s : State) (v w : ℕ) (p : VirtualProcessor) → P (vp s w) → (w ≡ v → P p) → P (vp (put_vp s v p) w)
unfolding vp put_vp is_processor processors
vp-cases P s v w p h k = go (is_processor s w) h
  where
    go : (b : Bool) → P (cond b (get_or s.machine.vps w past_vp) no_vp) → P (cond b (get_or (stored 4 s.machine.vps v p) w past_vp) no_vp)
    go true q = stored-cases P 4 s.machine.vps v w p past_vp q k
    go false q = q

-- A context that is put is there, in an array of four.
pub context-put : (z : Shape) (p : VirtualProcessor) (l : ℕ) (c : Context) → is_level z l ≡ true → length p.contexts ≡ 4 → context z (put_context z p l c) l ≡ c
unfolding context put_context
context-put z p l c i n = rw (i, get_or-set_same p.contexts l c past_context (omega (arith, level-low z l i)))

-- Putting a context changes no set of levels.
pub put-enabled : (z : Shape) (p : VirtualProcessor) (l : ℕ) (c : Context) (j : ℕ) → enabled_at z (put_context z p l c) j ≡ enabled_at z p j
unfolding enabled_at put_context
put-enabled z p l c j = refl

-- Level t starts on a processor.
module _ (z : Shape) (p : VirtualProcessor) (t ip sp cr : ℕ) (i : is_level z t ≡ true) (four : length p.contexts ≡ 4) where
  abbrev pub begun : Context
  begun = started_context (context z p t) ip sp cr

  abbrev pub after : VirtualProcessor
  after = started z p t ip sp cr

  context-begun : context z after t ≡ begun
  unfolding started context put_context
  context-begun = context-put z p t (started_context (context z p t) ip sp cr) i four

  context-other : (P : Context → Type 0) (j : ℕ) → (j ≡ t → ⊥) → P (context z p j) → P (context z after j)
  unfolding started context put_context
  context-other P j n h = context-cases P z p t j (started_context (context z p t) ip sp cr) h (λ e. absurd (n e))

  pub enabled-begun : enabled_at z after t ≡ true
  unfolding enabled_at started
  enabled-begun = in-here z p.enabled t true i

  pub enabled-other : (j : ℕ) → (j ≡ t → ⊥) → enabled_at z after j ≡ enabled_at z p j
  unfolding enabled_at started
  enabled-other j n = in-other z p.enabled t true i j n

  -- What holds of the context that begins, and of the others as they were, holds of each.
  pub started-cases : (P : ℕ → Bool → Context → Type 0) → P t true begun → ((j : ℕ) → (j ≡ t → ⊥) → P j (enabled_at z p j) (context z p j)) → (j : ℕ) → P j (enabled_at z after j) (context z after j)
  started-cases P new old j = go (eqb j t) refl
    where
      go : (b : Bool) → eqb j t ≡ b → P j (enabled_at z after j) (context z after j)
      go true e = rw (eqb-true j t e, enabled-begun, context-begun) new
      go false e = let n = eqb-false j t e in rw (enabled-other j n) (context-other (P j (enabled_at z p j)) j n (old j n))

-- What no event changes of a state: its sizes and the host mask.
abbrev pub frame : State → ℕ × Shape × ℕ × ℕ × ℕ
frame s = (processors s, shape s, pages s, length s.words, s.machine.host_mask)

-- From c to d, contexts of level l, which is enabled there as a and b tell, and on some processor before as e tells: an enabled level stays so, a level from K up
-- that is enabled on some processor is enabled on no further one, the registers of a level from K up change only where it is first enabled, and CR0 bit 0 stays set.
pub record Turned (K l : ℕ) (e a : Bool) (c : Context) (b : Bool) (d : Context) : Type 0 where
  pub grows : a ≡ true → b ≡ true
  pub still : K ≤ l → e ≡ true → b ≡ a
  pub registers : hides K e l b ≡ true → d.registers ≡ c.registers
  pub mode : 0 < l → (a ≡ true → bit (number_at 13 c.registers cr0) protected_bit ≡ true) → b ≡ true → bit (number_at 13 d.registers cr0) protected_bit ≡ true

module _ (K : ℕ) where
  -- Registers as they were.
  quiet-turned : (l : ℕ) (e a : Bool) (c d : Context) → d.registers ≡ c.registers → Turned K l e a c a d
  quiet-turned l e a c d q = record { grows = λ h. h; still = λ h i. refl; registers = λ h. q; mode = λ z h e. rw q (h e) }

  same-turned : (l : ℕ) (e a : Bool) (c : Context) → Turned K l e a c a c
  same-turned l e a c = quiet-turned l e a c c refl

  -- From first to last only what each part hides is hidden: e and f tell of some processor before the parts, b and c of this one after them.
  hides-parts : (l : ℕ) (e f b c : Bool) → (e ≡ true → f ≡ true) → (b ≡ true → c ≡ true) → hides K e l c ≡ true → (hides K e l b ≡ true) × (hides K f l c ≡ true)
  unfolding hides
  hides-parts l true true b c g h q = (q, q)
  hides-parts l true false b c g h q = absurd (false≢true (g refl))
  hides-parts l false f b true g h q = absurd (false≢true (sym (and-false (leb K l)) ∙ q))
  hides-parts l false f true false g h q = absurd (false≢true (h refl))
  hides-parts l false true false false g h q = (q, q)
  hides-parts l false false false false g h q = (q, q)

  then-turned : (l : ℕ) (e f : Bool) → (e ≡ true → f ≡ true) → (x : Bool) (c : Context) (y : Bool) (d : Context) (z : Bool) (r : Context) → Turned K l e x c y d → Turned K l f y d z r → Turned K l e x c z r
  then-turned l e f g x c y d z r a b = record {
    grows = λ h. b.grows (a.grows h);
    still = λ h i. b.still h (g i) ∙ a.still h i;
    registers = λ h. let q = hides-parts l e f y z g b.grows h in b.registers q.1 ∙ a.registers q.0;
    mode = λ z h. b.mode z (a.mode z h);
  }

  -- One processor. E tells the levels enabled on some processor before the event.
  module _ (E : ℕ → Bool) (z : Shape) where
    abbrev pub TurnedAll : VirtualProcessor → VirtualProcessor → Type 0
    TurnedAll p q = (l : ℕ) → Turned K l (E l) (enabled_at z p l) (context z p l) (enabled_at z q l) (context z q l)

    same-all : (p : VirtualProcessor) → TurnedAll p p
    same-all p l = same-turned l _ _ _

    then-all : (p q r : VirtualProcessor) → TurnedAll p q → TurnedAll q r → TurnedAll p r
    then-all p q r a b l = then-turned l _ _ (λ h. h) _ _ _ _ _ _ (a l) (b l)

    put-turned : (p : VirtualProcessor) (l : ℕ) (c : Context) → Turned K l (E l) (enabled_at z p l) (context z p l) (enabled_at z p l) c → TurnedAll p (put_context z p l c)
    put-turned p l c t j = rw (put-enabled z p l c j) (context-cases (λ d. Turned K j (E j) (enabled_at z p j) (context z p j) (enabled_at z p j) d) z p l j c (same-turned j _ _ _) (λ e. rw e t))

    -- An update of a context that keeps registers.
    quiet_put : (p : VirtualProcessor) (l : ℕ) (c : Context) → c.registers ≡ (context z p l).registers → TurnedAll p (put_context z p l c)
    quiet_put p l c q = put-turned p l c (quiet-turned l _ _ (context z p l) c q)

    set_shared-turned : (p : VirtualProcessor) (r x : ℕ) → TurnedAll p (set_shared p r x)
    unfolding enabled_at context set_shared
    set_shared-turned p r x l = same-turned l _ _ _

    active-turned : (p : VirtualProcessor) (a : ℕ) → TurnedAll p (with_active p a)
    unfolding enabled_at context
    active-turned p a l = same-turned l _ _ _

    set_private-turned : (p : VirtualProcessor) (l r x : ℕ) → l < K → (0 < l → r ≡ cr0 → bit x protected_bit ≡ true) → TurnedAll p (set_private z p l r x)
    unfolding set_private hides
    set_private-turned p l r x h b = put-turned p l _ (record {
      grows = λ e. e;
      still = λ h i. refl;
      registers = λ e. absurd (false≢true (rw (lt-leb K l h) at e));
      mode = λ o m e. number-cases (λ y. bit y protected_bit ≡ true) 13 (context z p l).registers r cr0 x (m e) (λ q. b o (sym q));
    })

    set_register-turned : (p : VirtualProcessor) (l r x : ℕ) → l < K → (0 < l → r ≡ cr0 → bit x protected_bit ≡ true) → TurnedAll p (set_register z p l r x)
    unfolding set_register
    set_register-turned p l r x h b = cond-holds (TurnedAll p) (is_private z r) _ _ (set_private-turned p l r x h b) (set_shared-turned p r x)

    enter-turned : (p : VirtualProcessor) (l reason : ℕ) → TurnedAll p (enter z p l reason)
    unfolding enter
    enter-turned p l reason = then-all p _ _ (quiet_put p l (with_control (context z p l) (record_of p reason)) refl) (active-turned _ l)

    set_watch-turned : (p : VirtualProcessor) (l : ℕ) (w : Watch) → TurnedAll p (set_watch z p l w)
    unfolding set_watch
    set_watch-turned p l w = quiet_put p l _ refl

    set_tpr-turned : (p : VirtualProcessor) (l class : ℕ) → TurnedAll p (set_tpr z p l class)
    unfolding set_tpr
    set_tpr-turned p l class = quiet_put p l _ refl

    set_pending-turned : (p : VirtualProcessor) (l n x : ℕ) → TurnedAll p (set_pending z p l n x)
    unfolding set_pending
    set_pending-turned p l n x = quiet_put p l _ refl

    set_secure-turned : (p : VirtualProcessor) (t l w : ℕ) → TurnedAll p (set_secure z p t l w)
    unfolding set_secure
    set_secure-turned p t l w = quiet_put p t _ refl

    unlocked-turned : (p : VirtualProcessor) (t : ℕ) → TurnedAll p (unlocked z p t)
    unfolding unlocked
    unlocked-turned p t = quiet_put p t _ refl

    hidden-on : (t : ℕ) (e : Bool) → K ≤ t → e ≡ true → hides K e t true ≡ true
    unfolding hides
    hidden-on t e up on = rw (on, le-leb K t up)

    started-turned : (p : VirtualProcessor) (t ip sp cr : ℕ) → is_level z t ≡ true → length p.contexts ≡ 4 → hides K (E t) t true ≡ false → bit cr protected_bit ≡ true → TurnedAll p (started z p t ip sp cr)
    unfolding number_at
    started-turned p t ip sp cr i four h b = started-cases z p t ip sp cr i four (λ j on c. Turned K j (E j) (enabled_at z p j) (context z p j) on c) (record {
      grows = λ e. refl;
      still = λ up on. absurd (false≢true (sym h ∙ hidden-on t (E t) up on));
      registers = λ e. absurd (false≢true (sym h ∙ e));
      mode = λ o m e. b;
    }) (λ j n. same-turned j _ _ _)

    advanced-turned : (p : VirtualProcessor) (n : ℕ) → active_of p < K → TurnedAll p (advanced z p n)
    unfolding advanced
    advanced-turned p n h = set_private-turned p (active_of p) rip _ h (λ o e. absurd (let d : ◌≡◌ {A = ℕ} 0 3 = e in omega arith))

    called-turned : (p : VirtualProcessor) (n : ℕ) → active_of p < K → TurnedAll p (called z p n)
    unfolding called
    called-turned p n h = then-all p (advanced z p n) _ (advanced-turned p n h) (enter-turned (advanced z p n) (next_up z p) by_call)

    restored-turned : (p : VirtualProcessor) → TurnedAll p (restored z p)
    unfolding restored
    restored-turned p = cond-holds (TurnedAll p) (eqb (shared_of p rcx) 0) _ p (then-all p q _ (set_shared-turned p rax (context z p (active_of p)).control.rax) (set_shared-turned q rcx _)) (same-all p)
      where
        q : VirtualProcessor
        q = set_shared p rax (context z p (active_of p)).control.rax

    left-turned : (p : VirtualProcessor) → TurnedAll p (left z p)
    unfolding left
    left-turned p = then-all p (restored z p) _ (restored-turned p) (active-turned (restored z p) _)

    reentered-turned : (p : VirtualProcessor) → TurnedAll p (reentered z p)
    unfolding reentered
    reentered-turned p = cond-holds (TurnedAll p) (eqb (waiting z p) 0) p _ (same-all p) (enter-turned p (waiting z p) by_interrupt)

    returned-turned : (p : VirtualProcessor) (n : ℕ) → active_of p < K → TurnedAll p (returned z p n)
    unfolding returned
    returned-turned p n h = then-all p q _ (cond-holds (TurnedAll p) (eqb (context z p (active_of p)).control.reason by_call) (advanced z p n) p (advanced-turned p n h) (same-all p)) (then-all q r _ (unlocked-turned q (active_of p)) (then-all r (left z r) _ (left-turned r) (reentered-turned (left z r))))
      where
        q : VirtualProcessor
        q = cond (eqb (context z p (active_of p)).control.reason by_call) (advanced z p n) p

        r : VirtualProcessor
        r = unlocked z q (active_of p)

    interrupted-turned : (p : VirtualProcessor) (g n : ℕ) → TurnedAll p (interrupted z p g n)
    unfolding interrupted
    interrupted-turned p g n = cond-holds (TurnedAll p) (enters z p g n) _ _ (then-all p (set_pending z p g n 1) _ (set_pending-turned p g n 1) (enter-turned (set_pending z p g n 1) g by_interrupt)) (set_pending-turned p g n 1)

    acknowledged-turned : (p : VirtualProcessor) → TurnedAll p (acknowledged z p)
    unfolding acknowledged
    acknowledged-turned p = set_pending-turned p (active_of p) _ 0

  -- The whole state: the frame, what the levels from K up protect and how, hidden words, and each context.
  pub record Moved (s t : State) : Type 0 where
    pub frame-kept : frame t ≡ frame s
    pub contexts : (v l : ℕ) → Turned K l (enabled_anywhere s l) (enabled_on s v l) (context (shape s) (vp s v) l) (enabled_on t v l) (context (shape t) (vp t v) l)
    pub protections : (l : ℕ) → K ≤ l → protects t l ≡ protects s l
    pub masks : (l p : ℕ) → K ≤ l → mask_of t l p ≡ mask_of s l p
    pub words : (p : ℕ) → closed K s p ≡ true → word_of t p ≡ word_of s p

  pub same-moved : (s : State) → Moved s s
  same-moved s = record {
    frame-kept = refl;
    contexts = λ v l. same-turned l _ _ _;
    protections = λ l h. refl;
    masks = λ l p h. refl;
    words = λ p h. refl;
  }

  -- The closed pages do not change.
  pub closed-kept : (s t : State) → Moved s t → (p : ℕ) → closed K t p ≡ closed K s p
  unfolding closed
  closed-kept s t m p =
      let host : host_mask_of t p ≡ host_mask_of s p = unfold host_mask_of in ap (λ f. f.4) m.frame-kept in
      rw host (ap (λ b. not (bit (host_mask_of s p) read_bit) || b) (any-cong 4 _ _ (λ i l. go i (leb K i) refl)))
    where
      go : (i : ℕ) (b : Bool) → leb K i ≡ b → (leb K i && protects t i && not (bit (mask_of t i p) read_bit)) ≡ (leb K i && protects s i && not (bit (mask_of s i p) read_bit))
      go i true e = let h : K ≤ i = leb-true K i e in rw (e, m.protections i h, m.masks i p h)
      go i false e = rw e

  -- A level that is enabled on some processor stays so.
  pub anywhere-kept : (s t : State) → Moved s t → (l : ℕ) → enabled_anywhere s l ≡ true → enabled_anywhere t l ≡ true
  unfolding enabled_anywhere
  anywhere-kept s t m l = any-grows 4 (λ v. enabled_on s v l) (λ v. enabled_on t v l) (λ v i. (m.contexts v l).grows)

  pub then-moved : (s t u : State) → Moved s t → Moved t u → Moved s u
  then-moved s t u a b = record {
    frame-kept = b.frame-kept ∙ a.frame-kept;
    contexts = λ v l. then-turned l _ _ (anywhere-kept s t a l) _ _ _ _ _ _ (a.contexts v l) (b.contexts v l);
    protections = λ l h. b.protections l h ∙ a.protections l h;
    masks = λ l p h. b.masks l p h ∙ a.masks l p h;
    words = λ p h. b.words p (closed-kept s t a p ∙ h) ∙ a.words p h;
  }

  on_vp-moved : (s : State) (v : ℕ) (f : Shape → VirtualProcessor → VirtualProcessor) → TurnedAll (enabled_anywhere s) (shape s) (vp s v) (f (shape s) (vp s v)) → Moved s (on_vp s v f)
  unfolding on_vp put_vp processors shape pages partition protects mask_of word_of enabled_on
  on_vp-moved s v f t = record {
    frame-kept = refl;
    contexts = λ w l. vp-cases (λ q. Turned K l (enabled_anywhere s l) (enabled_at (shape s) (vp s w) l) (context (shape s) (vp s w) l) (enabled_at (shape s) q l) (context (shape s) q l)) s v w (f (shape s) (vp s v)) (same-turned l _ _ _) (λ e. rw e (t l));
    protections = λ l h. refl;
    masks = λ l q h. refl;
    words = λ q h. refl;
  }

  -- A change of what the partition holds that keeps the configuration words and masks of the levels from K up.
  pub record Below (x y : Partition) : Type 0 where
    pub configs : (l : ℕ) → K ≤ l → number_at 4 y.configs l ≡ number_at 4 x.configs l
    pub masks : (l p : ℕ) → K ≤ l → l < 4 → number_at 256 y.masks (4 * p + l) ≡ number_at 256 x.masks (4 * p + l)

  partition-moved : (s : State) (f : Shape → Partition → Partition) → Below (partition s) (f (shape s) (partition s)) → Moved s (on_partition s f)
  unfolding on_partition put_partition processors shape pages partition is_processor vp protects protects_in config_in mask_of mask_in word_of enabled_on
  partition-moved s f h = record {
    frame-kept = refl;
    contexts = λ w l. same-turned l _ _ _;
    protections = λ l i. rw (h.configs l i);
    masks = λ l q i. go l q i (ltb 0 l && is_level (shape s) l && (ltb q (pages s) && ltb q 64)) refl;
    words = λ q h. refl;
  }
    where
      go : (l q : ℕ) → K ≤ l → (b : Bool) → (ltb 0 l && is_level (shape s) l && (ltb q (pages s) && ltb q 64)) ≡ b →
          cond b (number_at 256 (f (shape s) (partition s)).masks (4 * q + l)) 0 ≡ cond b (number_at 256 (partition s).masks (4 * q + l)) 0
      go l q i true e = h.masks l q i (level-low (shape s) l (and_right (ltb 0 l) (is_level (shape s) l) (and_left (ltb 0 l && is_level (shape s) l) _ e)))
      go l q i false e = refl

  enable_level-below : (z : Shape) (x : Partition) (l : ℕ) (b : Bool) → Below x (enable_level z x l b)
  unfolding enable_level
  enable_level-below z x l b = record { configs = λ l i. refl; masks = λ l p i j. refl }

  -- A mask of a lower level stands at another place.
  stored-below : (ks : List ℕ) (l p k : ℕ) → l < K → (j q : ℕ) → K ≤ j → j < 4 → number_at 256 (stored 256 ks (4 * p + l) k) (4 * q + j) ≡ number_at 256 ks (4 * q + j)
  stored-below ks l p k h j q i b = number-cases (λ y. y ≡ number_at 256 ks (4 * q + j)) 256 ks (4 * p + l) (4 * q + j) k refl (λ e. absurd (omega arith))

  set_mask-below : (x : Partition) (l p k : ℕ) → l < K → Below x (set_mask x l p k)
  unfolding set_mask
  set_mask-below x l p k h = record { configs = λ j i. refl; masks = stored-below x.masks l p k h }

  filled-below : (n P l k : ℕ) (ks : List ℕ) → l < K → (j q : ℕ) → K ≤ j → j < 4 → number_at 256 (filled n P l k ks) (4 * q + j) ≡ number_at 256 ks (4 * q + j)
  unfolding filled
  filled-below zero P l k ks h j q i b = refl
  filled-below (suc n) P l k ks h j q i b =
      cond-holds (λ ms. number_at 256 ms (4 * q + j) ≡ number_at 256 ks (4 * q + j)) (ltb n P) _ _ (stored-below (filled n P l k ks) l n k h j q i b ∙ filled-below n P l k ks h j q i b) (filled-below n P l k ks h j q i b)

  configured-below : (z : Shape) (P : ℕ) (x : Partition) (g w : ℕ) → g < K → Below x (configured z P x g w)
  unfolding configured fill_masks set_config
  configured-below z P x g w h =
      let configs : (j : ℕ) → K ≤ j → number_at 4 (stored 4 x.configs g w) j ≡ number_at 4 x.configs j = λ j i. number-cases (λ y. y ≡ number_at 4 x.configs j) 4 x.configs g j w refl (λ e. absurd (omega arith)) in
      cond-holds (Below x) (turns_on w && not (protects_in z x.configs g)) _ _ (record { configs = configs; masks = filled-below 64 P g (default_mask w) x.masks h }) (record { configs = configs; masks = λ l p i j. refl })

  set_word-moved : (s : State) (p x : ℕ) → closed K s p ≡ false → Moved s (set_word s p x)
  unfolding set_word processors shape pages partition is_processor vp protects mask_of word_of enabled_on
  set_word-moved s p x h = record {
    frame-kept = rw (length-set s.words p x);
    contexts = λ w l. same-turned l _ _ _;
    protections = λ l h. refl;
    masks = λ j q i. refl;
    words = λ q d. get_or-set_other s.words p q x 0 (λ e. false≢true (sym h ∙ (rw e at d)));
  }

-- A step.
module _ (K : ℕ) (k : 1 ≤ K) (s : State) where
  low : (v : ℕ) → quiet_maker K s (some v) ≡ true → active_of (vp s v) < K
  low v c = unfold active in maker-low K (enabled_anywhere s) (closed K s) k s v c

  watch-moved : (v : ℕ) (f : Watch → Watch) → Moved K s (watch_effect s v f)
  watch-moved v f = on_vp-moved K s v (λ z p. set_watch z p (active_of p) (f (context z p (active_of p)).watch)) (set_watch-turned K (enabled_anywhere s) (shape s) (vp s v) _ _)

  effect-moved : well_formed s ≡ true → (e : Event) → quiet_maker K s (maker e) ≡ true → Passed (rule s e).refusals → Moved K s (rule s e).effect
  unfolding rule rule_of maker active
  effect-moved w (Made v mode (Enpart t mbec)) c ps = partition-moved K s (λ z x. enable_level z x t.0 (eqb mbec 1)) (enable_level-below K (shape s) (partition s) t.0 (eqb mbec 1))
  effect-moved w (Made v mode (Envp u t ip sp cr)) c ps = on_vp-moved K s u.0 (λ z p. started z p t.0 ip sp cr) (started-turned K (enabled_anywhere s) (shape s) (vp s u.0) t.0 ip sp cr (is-level s w t.0 search) (four-contexts s w u.0 (is-processor s w u.0 search)) (start-open K (enabled_anywhere s t.0) (enabled_anywhere s t.0) (active s v.0) t.0 (low v.0 c) (λ h. h) search) (not-false (bit cr protected_bit) search))
  effect-moved w (Made v mode (Call len)) c ps = on_vp-moved K s v.0 (λ z p. called z p len) (called-turned K (enabled_anywhere s) (shape s) (vp s v.0) len (low v.0 c))
  effect-moved w (Made v mode (Ret len)) c ps = on_vp-moved K s v.0 (λ z p. returned z p len) (returned-turned K (enabled_anywhere s) (shape s) (vp s v.0) len (low v.0 c))
  effect-moved w (Made v mode (Read p)) c ps = same-moved K s
  effect-moved w (Made v mode (Write p x)) c ps =
      set_word-moved K s p.0 x (open-page K (enabled_anywhere s) (closed K s) k s w (λ l h. h) (λ p h. h) Access.Write write_bit (unfold needed in λ m mode. refl) read-of-write v.0 (mode_of mode) p.0 (low v.0 c) (search) (search))
  effect-moved w (Made v mode (Fetch p)) c ps = same-moved K s
  effect-moved w (Made v mode (Protect p m)) c ps = partition-moved K s (λ z x. set_mask x (active s v.0) p.0 m) (set_mask-below K (partition s) (active s v.0) p.0 m (low v.0 c))
  effect-moved w (Made v mode (Config g x)) c ps = let a : active_of (vp s v.0) < K = low v.0 c in
      partition-moved K s (λ z y. configured z (pages s) y g.0 x) (configured-below K (shape s) (pages s) (partition s) g.0 x (let b : g.0 ≤ active_of (vp s v.0) = ltb-false _ _ search in omega arith))
  effect-moved w (Made v mode (Secure l x)) c ps = on_vp-moved K s v.0 (λ z p. set_secure z p (active_of p) l.0 x) (set_secure-turned K (enabled_anywhere s) (shape s) (vp s v.0) _ l.0 x)
  effect-moved w (Made v mode Flush) c ps = same-moved K s
  effect-moved w (Made v mode (Rreg g r)) c ps = same-moved K s
  effect-moved w (Made v mode (Wreg g r x)) c ps =
      let a : active_of (vp s v.0) < K = low v.0 c in
      let b : g.0 ≤ active_of (vp s v.0) = ltb-false _ _ search in
      let legal : (eqb r cr0 && ltb 0 g.0 && not (bit x protected_bit)) ≡ false = search in
      on_vp-moved K s v.0 (λ z p. set_register z p g.0 r x) (set_register-turned K (enabled_anywhere s) (shape s) (vp s v.0) g.0 r x (omega arith)
      (λ o q. not-false (bit x protected_bit) (and-not (eqb r cr0 && ltb 0 g.0) (not (bit x protected_bit)) legal (rw (eq-eqb r cr0 q, lt-ltb 0 g.0 o)))))
  effect-moved w (Made v mode (Tpr class)) c ps = on_vp-moved K s v.0 (λ z p. set_tpr z p (active_of p) class) (set_tpr-turned K (enabled_anywhere s) (shape s) (vp s v.0) _ class)
  effect-moved w (Made v mode Ack) c ps = on_vp-moved K s v.0 acknowledged (acknowledged-turned K (enabled_anywhere s) (shape s) (vp s v.0))
  effect-moved w (Int u g n) c ps = on_vp-moved K s u.0 (λ z p. interrupted z p g.0 n) (interrupted-turned K (enabled_anywhere s) (shape s) (vp s u.0) g.0 n)
  effect-moved w (Made v mode Pstat) c ps = same-moved K s
  effect-moved w (Made v mode Vstat) c ps = same-moved K s
  effect-moved w (Made v mode Caps) c ps = same-moved K s
  effect-moved w (Made v mode (Cri word)) c ps = watch-moved v.0 (λ w. with_intercepts w word)
  effect-moved w (Made v mode (Crm n mask)) c ps = watch-moved v.0 (λ w. with_cr_mask w (eqb n 4) mask)

  intercepted-moved : (m : Option ℕ) (l : ℕ) → Moved K s (intercepted s m l)
  unfolding intercepted
  intercepted-moved none l = same-moved K s
  intercepted-moved (some v) l = on_vp-moved K s v (λ z p. enter z p l by_interrupt) (enter-turned K (enabled_anywhere s) (shape s) (vp s v) l by_interrupt)

  pub step-moved : (e : Event) → quiet_maker K s (maker e) ≡ true → Moved K s (step s e).next
  unfolding next_for
  step-moved e c = step-cases s e (λ o. Moved K s o.next) (λ w ps. effect-moved w e c ps) (λ r. same-moved K s) (λ w l t. intercepted-moved (maker e) l)

-- CR0 bit 0 stays set where it must be.
pub modes-kept : (K : ℕ) (s t : State) → Moved K s t → well_moded s ≡ true → well_moded t ≡ true
unfolding well_moded well_moded_vp enabled_on private_of
modes-kept K s t m h = every-all 4 _ (λ v i. every-all 4 _ (λ l j. implies-test (ltb 0 l && enabled_at (shape t) (vp t v) l) _ (λ q.
    let o : 0 < l = ltb-true 0 l (and_left (ltb 0 l) _ q) in
    (m.contexts v l).mode o (λ on. implied (ltb 0 l && enabled_at (shape s) (vp s v) l) _ (every-at 4 _ (every-at 4 _ h v i) l j) (rw (lt-ltb 0 l o) on)) (and_right (ltb 0 l) (enabled_at (shape t) (vp t v) l) q))))
