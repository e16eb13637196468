-- A step commutes with hiding: the answer is the same, and the next state is the hidden one of the next state.
-- Assumes nothing.
use mathlib.Core.Path.{◌≡◌, refl, sym, ap, ◌∙◌}
use mathlib.Core.Bool.{Bool, true, false, not, cond, ◌&&◌, ◌||◌, false≢true, and-false}
use mathlib.Core.List.{List, [], ◌∷◌}
use mathlib.Core.Option.{some}
use Prim.Native.Nat.{ℕ, zero, suc, ◌≤◌, ◌<◌}
use native.Mathlib.Omega.{arith}
use lib.Dec.{leb, ltb, eqb}
use borrow.Author.Tests.{lt-ltb, le-ltb, lt-leb, ltb-true, ltb-false, leb-true, leb-false, eqb-true, not-false}
use Rattle.word.specs.Field.{bit}
use Rattle.model.specs.Answers.{Done, Refused, Intercept, Refusal}
use Rattle.model.specs.Arrays.{number_at}
use Rattle.model.specs.Bounded.{every}
use Rattle.model.specs.Entry.{enter, highest_ready, next_up, called, returned, interrupted, started, acknowledged, by_interrupt}
use Rattle.model.specs.Events.{own, configured, locked, watch_effect}
use Rattle.model.specs.Masks.{valid_mask, read_bit, write_bit, secure_reserved_set, protects}
use Rattle.model.specs.Memory.{needed, mbec_on, smep_allows, mbec_counts, denies_in, denies, denied, receiver, host_denies_by, host_denies}
use Rattle.model.specs.Registers.{register_of, cr0, cr4, rflags, rcx, protected_bit, is_private, private_of, shared_of}
use Rattle.model.specs.State.{State, Shape, VirtualProcessor, Access, Mode, Watch, level, processors, shape, pages, partition, is_processor, vp, context, active_of, active, enabled_at, enabled_on, enabled_anywhere, mask_of, host_mask_of, secure_of, mbec_bit}
use Rattle.model.specs.Step.{Event, Enpart, Envp, Call, Ret, Read, Write, Fetch, Protect, Config, Secure, Flush, Rreg, Wreg, Tpr, Ack, Pstat, Vstat, Caps, Cri, Crm, Made, Int, Outcome, rule, rule_of, maker, mode_of, intercepted, next_for, ruled, step}
use Rattle.model.specs.Updates.{enable_level, set_mask, set_register, set_tpr, set_secure, set_watch, with_intercepts, with_cr_mask}
use Rattle.model.specs.Watching.{asks_read, asks_write, watcher}
use Rattle.model.specs.WellFormed.{well_sized, well_formed_context, well_formed_vp, well_formed_level, well_formed_parts, well_moded_vp, well_moded, well_formed}
use Rattle.model.proofs.AnswerLaws.{Passed, Taken, given, condition-cases}
use Rattle.model.proofs.Bools.{and_left, and_right, and-not, not-and, implied, implies-test, and-cong, positive}
use Rattle.model.proofs.BoundedLaws.{every-at, every-all, every-cong, any_at, any_none}
use Rattle.model.specs.Hide.{closed, hides, hide_context, hide_vp, hide_partition, hide}
use Rattle.model.specs.Hide.{quiet_maker}
use Rattle.model.specs.MapAt.{map_at}
use Rattle.model.proofs.Found.{enabled-level}
use Rattle.model.proofs.Formed.{is-processor, is-level, is-page, active-level, host-valid, mask-valid}
use Rattle.model.proofs.LevelSets.{in-hidden}
use Rattle.model.proofs.Visible
use Rattle.model.proofs.Visible.{hidden, context-hide, enabled-same, tpr-same, pending-same, secure-same, control-same, watch-same, highest-same}
use Rattle.model.proofs.Whole
use Rattle.model.proofs.Whole.{processors-same, shape_same, max_level_of-same, pages-same, processor-same, host-same, lent_same, vp-hide, on_vp-hide, on_partition-hide, active-hide, enabled_on-hide, anywhere-hide, partition-hide, enabled_for-hide, mbec_for-hide, config-hide, protects-hide, mask-hide, word-hide, set_word-hide}

ruleset Same = (processors-same, shape_same, max_level_of-same, pages-same, active-hide, enabled_on-hide, anywhere-hide, enabled_for-hide, mbec_for-hide, config-hide, protects-hide, mask-hide)

-- Well-formedness of one processor's record.
module _ (K : ℕ) (E : ℕ → Bool) (z : Shape) (p : VirtualProcessor) where
  secure-number : (l j : ℕ) → j < l → number_at 4 (context z (hide_vp K E z p) l).secure j ≡ number_at 4 (context z p l).secure j
  secure-number l j h = unfold secure_of in (rw (lt-ltb j l h) at (secure-same K E z p l j))

  abbrev formed_in : VirtualProcessor → ℕ → Bool → Bool → Bool
  formed_in q l on mbec = well_formed_context l on (enabled_at z q l) mbec (enabled_at z q (context z q l).control.from.0) (context z q l)

  context-formed : (l : ℕ) (on mbec : Bool) → formed_in (hide_vp K E z p) l on mbec ≡ formed_in p l on mbec
  unfolding well_formed_context
  context-formed l on mbec = go l
    where
      words : (l : ℕ) → every l (λ j. not (secure_reserved_set (number_at 4 (context z (hide_vp K E z p) l).secure j)) && (not (bit (number_at 4 (context z (hide_vp K E z p) l).secure j) mbec_bit) || mbec))
          ≡ every l (λ j. not (secure_reserved_set (number_at 4 (context z p l).secure j)) && (not (bit (number_at 4 (context z p l).secure j) mbec_bit) || mbec))
      words l = every-cong l _ _ (λ j h. rw (secure-number l j h))

      go : (l : ℕ) → formed_in (hide_vp K E z p) l on mbec ≡ formed_in p l on mbec
      go zero = simp (enabled-same, words, tpr-same, pending-same)
      go (suc l) = simp (enabled-same, words, tpr-same, pending-same, control-same K E z p (suc l) (omega arith), watch-same K E z p (suc l) (omega arith))

-- CR0 bit 0 stays set where an enabled level's registers are hidden.
cr0-kept : (z : Shape) (h : Bool) (xs : List ℕ) → bit (number_at 13 xs cr0) protected_bit ≡ true → bit (number_at 13 (map_at (λ r x. cond (is_private z r) (cond h (cond (eqb r cr0 && true) 1 0) x) 0) xs) cr0) protected_bit ≡ true
unfolding number_at map_at is_private
cr0-kept z h [] q = q
cr0-kept z h (a ∷ []) q = q
cr0-kept z h (a ∷ b ∷ []) q = q
cr0-kept z h (a ∷ b ∷ c ∷ []) q = q
cr0-kept z true (a ∷ b ∷ c ∷ d ∷ xs) q = refl
cr0-kept z false (a ∷ b ∷ c ∷ d ∷ xs) q = q

cr0-hide : (K : ℕ) (E : ℕ → Bool) (z : Shape) (p : VirtualProcessor) (l : ℕ) → enabled_at z p l ≡ true → bit (private_of z p l cr0) protected_bit ≡ true → bit (private_of z (hide_vp K E z p) l cr0) protected_bit ≡ true
unfolding private_of enabled_at hidden hide_context
cr0-hide K E z p l on h = rw (context-hide, on) (cr0-kept z (hides K (E l) l true) (context z p l).registers h)

vp-modes : (K : ℕ) (E : ℕ → Bool) (z : Shape) (p : VirtualProcessor) → well_moded_vp z p ≡ true → well_moded_vp z (hide_vp K E z p) ≡ true
unfolding well_moded_vp
vp-modes K E z p h = every-all 4 _ (λ l j. implies-test (ltb 0 l && enabled_at z (hide_vp K E z p) l) _ (λ q.
    let on : (ltb 0 l && enabled_at z p l) ≡ true = rw enabled-same at q in
    cr0-hide K E z p l (and_right (ltb 0 l) (enabled_at z p l) on) (implied (ltb 0 l && enabled_at z p l) _ (every-at 4 _ h l j) on)))

-- Read comes with Write.
pub read-of-write : (m : ℕ) → valid_mask m ≡ true → bit m write_bit ≡ true → bit m read_bit ≡ true
read-of-write m v h = go (eqb m 0) refl (and_right (leb m 15) (eqb m 0 || bit m read_bit) v)
  where
    go : (b : Bool) → eqb m 0 ≡ b → (b || bit m read_bit) ≡ true → bit m read_bit ≡ true
    go true e q = absurd (false≢true (rw (eqb-true m 0 e) at h))
    go false e q = q

-- An actor below K starts a level only below K, or one that is enabled nowhere, and so was at the start: its registers are not hidden.
pub start-open : (K : ℕ) (was now : Bool) (actor t : ℕ) → actor < K → (was ≡ true → now ≡ true) → (now && ltb actor t) ≡ false → hides K was t true ≡ false
unfolding hides
start-open K false now actor t low grows guard = and-false (leb K t)
start-open K true now actor t low grows guard = rw (lt-leb K t (let b : t ≤ actor = ltb-false actor t (and-not now (ltb actor t) guard (grows refl)) in omega arith))

module _ (K : ℕ) (E : ℕ → Bool) (H : ℕ → Bool) where
  -- Well-formedness of the state.
  sized-hide : (s : State) → well_sized (hide K E H s) ≡ well_sized s
  unfolding well_sized
  sized-hide s = simp (processors-same, max_level_of-same, pages-same, lent_same)

  vp-formed : (s : State) (v : ℕ) → well_formed_vp (shape (hide K E H s)) (partition (hide K E H s)) (vp (hide K E H s) v) ≡ well_formed_vp (shape s) (partition s) (vp s v)
  unfolding well_formed_vp hide_partition
  vp-formed s v = simp (shape_same, vp-hide, partition-hide, in-hidden, context-formed, Visible.contexts-same) (simp (Visible.active-same, enabled-same))

  level-formed : (s : State) (i : ℕ) → well_formed_level (hide K E H s) (suc i) ≡ well_formed_level s (suc i)
  unfolding well_formed_level
  level-formed s i = simp (config-hide, enabled_for-hide, mbec_for-hide, mask-hide)

  parts-hide : (s : State) → well_formed_parts (hide K E H s) ≡ well_formed_parts s
  unfolding well_formed_parts
  parts-hide s = simp (host-same, mbec_for-hide, processor-same, vp-formed, level-formed)

  enabled-at : (s : State) (v l : ℕ) → enabled_on s v l ≡ true → enabled_at (shape s) (vp s v) l ≡ true
  unfolding enabled_on
  enabled-at s v l h = h

  modes-hide : (s : State) → well_moded s ≡ true → well_moded (hide K E H s) ≡ true
  unfolding well_moded
  modes-hide s h = every-all 4 _ (λ v i. rw (shape_same, vp-hide) (vp-modes K E (shape s) (vp s v) (every-at 4 _ h v i)))

  pub formed-hide : (s : State) → well_moded s ≡ true → well_formed (hide K E H s) ≡ well_formed s
  unfolding well_formed
  formed-hide s h = and-cong (and-cong (sized-hide s) (λ z. parts-hide s)) (λ z. modes-hide s h ∙ sym h)

  -- What an event asks before it is done.
  needs-same : (s : State) (v t l : ℕ) → mbec_on (hide K E H s) v t l ≡ mbec_on s v t l
  unfolding mbec_on
  needs-same s v t l = simp (shape_same, vp-hide, secure-same)

  -- The actor's own CR4 is seen, so whether MBEC counts is too.
  smep-same : (s : State) (v : ℕ) → active s v < K → smep_allows (shape (hide K E H s)) (vp (hide K E H s) v) (active s v) ≡ smep_allows (shape s) (vp s v) (active s v)
  unfolding smep_allows is_private
  smep-same s v h = rw (shape_same, vp-hide, Visible.private-hide K E (shape s) (vp s v) (active s v) cr4 h refl)

  counts_same : (s : State) (v t : ℕ) → active s v < K → mbec_counts (hide K E H s) v t (active s v) ≡ mbec_counts s v t (active s v)
  unfolding mbec_counts
  counts_same s v t h i = needs-same s v t (active s v) i && smep-same s v h i

  denies-same : (s : State) (v : ℕ) → active s v < K → (mode : Mode) (p : ℕ) (a : Access) (t : ℕ) → denies (hide K E H s) v mode p a t ≡ denies s v mode p a t
  unfolding denies
  denies-same s v h mode p a t = rw (shape_same, pages-same, active-hide, counts_same s v t h, partition-hide) (Whole.denies-hide K E H s (partition s) (active s v) mode p a t (mbec_counts s v t (active s v)))

  denied-same : (s : State) (v : ℕ) → active s v < K → (mode : Mode) (p : ℕ) (a : Access) → denied (hide K E H s) v mode p a ≡ denied s v mode p a
  unfolding denied
  denied-same s v h mode p a = simp (denies-same s v h)

  receiver-same : (s : State) (v : ℕ) → active s v < K → (mode : Mode) (p : ℕ) (a : Access) → receiver (hide K E H s) v mode p a ≡ receiver s v mode p a
  unfolding receiver
  receiver-same s v h mode p a = simp (denies-same s v h, enabled_on-hide)

  host_denies-same : (s : State) (p : ℕ) (a : Access) → host_denies (hide K E H s) p a ≡ host_denies s p a
  unfolding host_denies host_mask_of
  host_denies-same s p a = simp host-same

  own_same : (s : State) (v r : ℕ) → active s v < K → is_private (shape s) r ≡ true → own (hide K E H s) v r ≡ own s v r
  unfolding own
  own_same s v r h e = simp (shape_same, active-hide, vp-hide) (Visible.private-hide K E (shape s) (vp s v) (active s v) r h e)

  rcx-same : (s : State) (v : ℕ) → shared_of (vp (hide K E H s) v) rcx ≡ shared_of (vp s v) rcx
  rcx-same s v = rw vp-hide (Visible.shared-hide K E (shape s) (vp s v) rcx refl)

  locked-same : (s : State) (l : ℕ) → locked (hide K E H s) l ≡ locked s l
  unfolding locked
  locked-same s l = simp (shape_same, vp-hide, secure-same)

  next_up-hide : (s : State) (v : ℕ) → next_up (shape (hide K E H s)) (vp (hide K E H s) v) ≡ next_up (shape s) (vp s v)
  next_up-hide s v = rw (shape_same, vp-hide) (Visible.next_up-same K E (shape s) (vp s v))

  highest-hide : (s : State) (v l : ℕ) → highest_ready (context (shape (hide K E H s)) (vp (hide K E H s) v) l) ≡ highest_ready (context (shape s) (vp s v) l)
  highest-hide s v l = rw (shape_same, vp-hide) (highest-same K E (shape s) (vp s v) l)

  -- Who hears of an access to a register: what a level asks for is the same where g is the actor.
  watcher-hide : (s : State) (v g : ℕ) (f f' : Watch → Bool) → (g ≡ active_of (vp s v) → f' ≡ f) → watcher (shape (hide K E H s)) (vp (hide K E H s) v) g f' ≡ watcher (shape s) (vp s v) g f
  watcher-hide s v g f f' h = rw (shape_same, vp-hide) (Visible.watcher-same K E (shape s) (vp s v) g f f' h)

  own-write : (s : State) (v g r x : ℕ) → active s v < K → g ≡ active_of (vp s v) → asks_write r (register_of (shape (hide K E H s)) (vp (hide K E H s) v) g r) x ≡ asks_write r (register_of (shape s) (vp s v) g r) x
  unfolding active
  own-write s v g r x low e = ap (λ old. asks_write r old x) (rw (shape_same, vp-hide) (Visible.register-hide K E (shape s) (vp s v) g r (omega arith)))

  -- The maker's active level is below K.
  pub maker-low : 1 ≤ K → (s : State) (v : ℕ) → quiet_maker K s (some v) ≡ true → active s v < K
  unfolding quiet_maker active active_of vp is_processor
  maker-low k s v h = go (leb (processors s) v) refl h
    where
      go : (b : Bool) → leb (processors s) v ≡ b → (b || ltb (active s v) K) ≡ true → active s v < K
      go true e d = rw (le-ltb v (processors s) (leb-true (processors s) v e)) k
      go false e d = ltb-true (active s v) K d

  refusals-same : 1 ≤ K → (s : State) (e : Event) → quiet_maker K s (maker e) ≡ true → (rule (hide K E H s) e).refusals ≡ (rule s e).refusals
  unfolding rule rule_of maker is_private
  refusals-same k s (Made v mode (Enpart t mbec)) c = simp Same
  refusals-same k s (Made v mode (Envp w t ip sp cr)) c = simp Same
  refusals-same k s (Made v mode (Call len)) c = let low : active s v.0 < K = maker-low k s v.0 c in simp (processors-same, next_up-hide, own_same s v.0 cr0 low refl, rcx-same)
  refusals-same k s (Made v mode (Ret len)) c = simp (Same, rcx-same)
  refusals-same k s (Made v mode (Read p)) c = let low = maker-low k s v.0 c in simp (Same, receiver-same s v.0 low, denied-same s v.0 low, host_denies-same)
  refusals-same k s (Made v mode (Write p x)) c = let low = maker-low k s v.0 c in simp (Same, receiver-same s v.0 low, denied-same s v.0 low, host_denies-same)
  refusals-same k s (Made v mode (Fetch p)) c = let low = maker-low k s v.0 c in simp (Same, receiver-same s v.0 low, denied-same s v.0 low, host_denies-same)
  refusals-same k s (Made v mode (Protect p m)) c = simp Same
  refusals-same k s (Made v mode (Config g w)) c = simp Same
  refusals-same k s (Made v mode (Secure l w)) c = simp Same
  refusals-same k s (Made v mode Flush) c = simp (Same, locked-same)
  refusals-same k s (Made v mode (Rreg g r)) c = simp (processors-same, max_level_of-same, active-hide, enabled_on-hide, watcher-hide s v.0 g.0 (asks_read r) (asks_read r) (λ e. refl))
  refusals-same k s (Made v mode (Wreg g r x)) c =
      simp (processors-same, max_level_of-same, active-hide, enabled_on-hide, watcher-hide s v.0 g.0 (asks_write r (register_of (shape s) (vp s v.0) g.0 r) x) (asks_write r (register_of (shape (hide K E H s)) (vp (hide K E H s) v.0) g.0 r) x) (λ e. own-write s v.0 g.0 r x (maker-low k s v.0 c) e))
  refusals-same k s (Made v mode (Tpr class)) c = simp Same
  refusals-same k s (Made v mode Ack) c = let low : active s v.0 < K = maker-low k s v.0 c in simp (processors-same, active-hide, highest-hide, own_same s v.0 rflags low refl)
  refusals-same k s (Int w g n) c = simp Same
  refusals-same k s (Made v mode Pstat) c = simp Same
  refusals-same k s (Made v mode Vstat) c = simp Same
  refusals-same k s (Made v mode Caps) c = simp Same
  refusals-same k s (Made v mode (Cri word)) c = simp Same
  refusals-same k s (Made v mode (Crm n mask)) c = simp Same

  abbrev pub hide_outcome : Outcome → Outcome
  hide_outcome o = record { answer = o.answer; next = hide K E H o.next }

  -- Done events, at a well-formed state. The levels enabled at the start still are, and H hides no page that is open now.
  module _ (k : 1 ≤ K) (s : State) (w : well_formed s ≡ true) (grown : (l : ℕ) → E l ≡ true → enabled_anywhere s l ≡ true) (pages-open : (p : ℕ) → closed K s p ≡ false → H p ≡ false) where
    -- A read or write that is done needs bit b of each mask, and a valid mask with bit b has Read: the page is open.
    pub open-page : (a : Access) (b : ℕ) → ((m : Bool) (mode : Mode) → needed m mode a ≡ b) → ((m : ℕ) → valid_mask m ≡ true → bit m b ≡ true → bit m read_bit ≡ true) → (v : ℕ) (mode : Mode) (p : ℕ) → active s v < K →
        denied s v mode p a ≡ false → host_denies s p a ≡ false → H p ≡ false
    unfolding closed denied denies denies_in host_denies host_denies_by mask_of protects
    open-page a b needs weak v mode p h d e =
        pages-open p (rw (weak (host_mask_of s p) (host-valid s w p) (rw needs at (not-false (bit (host_mask_of s p) (needed false Mode.Kernel a)) e)))
        (any_none 4 (λ t. leb K t && protects s t && not (bit (mask_of s t p) read_bit)) (λ t i. not-and (leb K t && protects s t) (not (bit (mask_of s t p) read_bit)) (λ q.
        let above : K ≤ t = leb-true K t (and_left (leb K t) (protects s t) q) in
        let allows : (ltb (active s v) t && protects s t && not (bit (mask_of s t p) b)) ≡ false = rw needs at (any_at 4 (λ t. denies s v mode p a t) d t i) in
        let has : bit (mask_of s t p) b ≡ true =
        not-false (bit (mask_of s t p) b) (and-not (ltb (active s v) t && protects s t) (not (bit (mask_of s t p) b)) allows (rw (lt-ltb (active s v) t (omega arith)) (and_right (leb K t) (protects s t) q))) in
        rw (weak (mask_of s t p) (mask-valid s w t p) has)))))

    watch-hide : (v : ℕ) (f : Watch → Watch) → is_processor s v ≡ true → 0 < active_of (vp s v) → watch_effect (hide K E H s) v f ≡ hide K E H (watch_effect s v f)
    watch-hide v f inside above =
        on_vp-hide K E H s v (λ z p. set_watch z p (active_of p) (f (context z p (active_of p)).watch)) inside
        (rw Visible.active-same (Visible.set_watch-hide K E (shape s) (vp s v) (active_of (vp s v)) f (active-level s w v inside) above))

    effect-hide : (e : Event) → quiet_maker K s (maker e) ≡ true → Passed (rule s e).refusals → (rule (hide K E H s) e).effect ≡ hide K E H (rule s e).effect
    unfolding rule rule_of maker active
    effect-hide (Made v mode (Enpart t mbec)) c ps = on_partition-hide K E H s (λ z x. enable_level z x t.0 (eqb mbec 1)) (Whole.enable_level-hide K E H s (partition s) t.0 (eqb mbec 1) (is-level s w t.0 search))
    effect-hide (Made v mode (Envp u t ip sp cr)) c ps =
        on_vp-hide K E H s u.0 (λ z p. started z p t.0 ip sp cr) (is-processor s w u.0 search) (Visible.started-hide K E (shape s) (vp s u.0) t.0 ip sp cr (is-level s w t.0 search) (start-open K (E t.0) (enabled_anywhere s t.0) (active s v.0) t.0 (maker-low k s v.0 c) (grown t.0) search))
    effect-hide (Made v mode (Call len)) c ps =
        let inside = is-processor s w v.0 search in
        on_vp-hide K E H s v.0 (λ z p. called z p len) inside (Visible.called-hide K E (shape s) (vp s v.0) len (maker-low k s v.0 c) (active-level s w v.0 inside) search)
    effect-hide (Made v mode (Ret len)) c ps =
        let inside = is-processor s w v.0 search in
        let above : 0 < active_of (vp s v.0) = positive (active_of (vp s v.0)) search in
        on_vp-hide K E H s v.0 (λ z p. returned z p len) inside (Visible.returned-hide K E (shape s) (vp s v.0) len (maker-low k s v.0 c) (active-level s w v.0 inside) above)
    effect-hide (Made v mode (Read p)) c ps = refl
    effect-hide (Made v mode (Write p x)) c ps = set_word-hide K E H s p.0 x (open-page Access.Write write_bit (unfold needed in λ m mode. refl) read-of-write v.0 (mode_of mode) p.0 (maker-low k s v.0 c) (search) (search))
    effect-hide (Made v mode (Fetch p)) c ps = refl
    effect-hide (Made v mode (Protect p m)) c ps =
        rw active-hide (on_partition-hide K E H s (λ z x. set_mask x (active s v.0) p.0 m) (Whole.set_mask-hide K E H s (partition s) (active s v.0) p.0 m (positive _ search) (active-level s w v.0 (is-processor s w v.0 search)) (is-page s w p.0 search)))
    effect-hide (Made v mode (Config g x)) c ps =
        rw pages-same (on_partition-hide K E H s (λ z y. configured z (pages s) y g.0 x) (Whole.configured-hide K E H s (partition s) g.0 x (positive _ search) (is-level s w g.0 search)))
    effect-hide (Made v mode (Secure l x)) c ps =
        let inside = is-processor s w v.0 search in
        on_vp-hide K E H s v.0 (λ z p. set_secure z p (active_of p) l.0 x) inside (rw Visible.active-same (Visible.set_secure-hide K E (shape s) (vp s v.0) (active_of (vp s v.0)) l.0 x (active-level s w v.0 inside) (leb-false _ _ search)))
    effect-hide (Made v mode Flush) c ps = refl
    effect-hide (Made v mode (Rreg g r)) c ps = refl
    effect-hide (Made v mode (Wreg g r x)) c ps =
        let low : active_of (vp s v.0) < K = maker-low k s v.0 c in
        let below : g.0 ≤ active_of (vp s v.0) = ltb-false _ _ search in
        on_vp-hide K E H s v.0 (λ z p. set_register z p g.0 r x) (is-processor s w v.0 search) (Visible.set_register-hide K E (shape s) (vp s v.0) g.0 r x (omega arith) (is-level s w g.0 search))
    effect-hide (Made v mode (Tpr class)) c ps =
        let inside = is-processor s w v.0 search in
        on_vp-hide K E H s v.0 (λ z p. set_tpr z p (active_of p) class) inside (rw Visible.active-same (Visible.set_tpr-hide K E (shape s) (vp s v.0) (active_of (vp s v.0)) class (active-level s w v.0 inside)))
    effect-hide (Made v mode Ack) c ps =
        let inside = is-processor s w v.0 search in
        on_vp-hide K E H s v.0 acknowledged inside (Visible.acknowledged-hide K E (shape s) (vp s v.0) (active-level s w v.0 inside))
    effect-hide (Int u g n) c ps =
        on_vp-hide K E H s u.0 (λ z p. interrupted z p g.0 n) (is-processor s w u.0 search) (Visible.interrupted-hide K E (shape s) (vp s u.0) g.0 n (is-level s w g.0 search))
    effect-hide (Made v mode Pstat) c ps = refl
    effect-hide (Made v mode Vstat) c ps = refl
    effect-hide (Made v mode Caps) c ps = refl
    effect-hide (Made v mode (Cri word)) c ps = watch-hide v.0 (λ w. with_intercepts w word) (is-processor s w v.0 search) (positive (active_of (vp s v.0)) search)
    effect-hide (Made v mode (Crm n mask)) c ps = watch-hide v.0 (λ w. with_cr_mask w (eqb n 4) mask) (is-processor s w v.0 search) (positive (active_of (vp s v.0)) search)

    value_same : (e : Event) → quiet_maker K s (maker e) ≡ true → Passed (rule s e).refusals → (rule (hide K E H s) e).value ≡ (rule s e).value
    unfolding rule rule_of maker active
    value_same (Made v mode (Enpart t mbec)) c ps = refl
    value_same (Made v mode (Envp u t ip sp cr)) c ps = refl
    value_same (Made v mode (Call len)) c ps = next_up-hide s v.0
    value_same (Made v mode (Ret len)) c ps =
        let inside = is-processor s w v.0 search in
        let above : 0 < active_of (vp s v.0) = positive (active_of (vp s v.0)) search in
        rw (shape_same, vp-hide, Visible.returned-hide K E (shape s) (vp s v.0) len (maker-low k s v.0 c) (active-level s w v.0 inside) above) (Visible.active-same K E (shape s) _)
    value_same (Made v mode (Read p)) c ps = word-hide K E H s p.0 (open-page Access.Read read_bit (unfold needed in λ m mode. refl) (λ m v h. h) v.0 (mode_of mode) p.0 (maker-low k s v.0 c) (search) (search))
    value_same (Made v mode (Write p x)) c ps = refl
    value_same (Made v mode (Fetch p)) c ps = refl
    value_same (Made v mode (Protect p m)) c ps = refl
    value_same (Made v mode (Config g x)) c ps = refl
    value_same (Made v mode (Secure l x)) c ps = refl
    value_same (Made v mode Flush) c ps = refl
    value_same (Made v mode (Rreg g r)) c ps =
        let low : active_of (vp s v.0) < K = maker-low k s v.0 c in
        let below : g.0 ≤ active_of (vp s v.0) = ltb-false _ _ search in
        rw (shape_same, vp-hide) (Visible.register-hide K E (shape s) (vp s v.0) g.0 r (omega arith))
    value_same (Made v mode (Wreg g r x)) c ps = refl
    value_same (Made v mode (Tpr class)) c ps = refl
    value_same (Made v mode Ack) c ps = simp (active-hide, highest-hide)
    value_same (Int u g n) c ps = simp (shape_same, vp-hide, Visible.enters-same)
    value_same (Made v mode Pstat) c ps = simp Same
    value_same (Made v mode Vstat) c ps = simp (Same, needs-same)
    value_same (Made v mode Caps) c ps = simp Same
    value_same (Made v mode (Cri word)) c ps = refl
    value_same (Made v mode (Crm n mask)) c ps = refl

    -- An intercept enters the receiver, a level above 0, on the maker's processor.
    intercepted-hide : (e : Event) (l : ℕ) → Taken s e l → intercepted (hide K E H s) (maker e) l ≡ hide K E H (intercepted s (maker e) l)
    intercepted-hide e l t = rw t.made (unfold intercepted in on_vp-hide K E H s t.v (λ z p. enter z p l by_interrupt) (is-processor s w t.v (lt-leb _ _ t.inside))
        (Visible.enter-hide K E (shape s) (vp s t.v) l by_interrupt (let a = t.above in omega arith) (enabled-level (shape s) (vp s t.v) l (enabled-at s t.v l t.enabled))))

    ruled-hide : (e : Event) → quiet_maker K s (maker e) ≡ true → ruled (hide K E H s) e ≡ hide_outcome (ruled s e)
    unfolding ruled next_for
    ruled-hide e c = rw (refusals-same k s e c)
        (condition-cases s e (λ g. given (hide K E H s) e (g (Done (rule (hide K E H s) e).value)) ≡ hide_outcome (given s e (g (Done (rule s e).value))))
        (λ ps i. record { answer = Done (value_same e c ps i); next = effect-hide e c ps i })
        (λ r. refl)
        (λ l t i. record { answer = Intercept (level l); next = intercepted-hide e l t i }))

  -- A state reached from the start.
  pub record Reached (s : State) : Type 0 where
    pub modes : well_moded s ≡ true
    pub grown : (l : ℕ) → E l ≡ true → enabled_anywhere s l ≡ true
    pub pages : (p : ℕ) → closed K s p ≡ false → H p ≡ false

  pub step-hide : 1 ≤ K → (s : State) → Reached s → (e : Event) → quiet_maker K s (maker e) ≡ true → step (hide K E H s) e ≡ hide_outcome (step s e)
  unfolding step
  step-hide k s r e c = rw (formed-hide s r.modes) (go (well_formed s) refl)
    where
      refused : State → Outcome
      refused t = record { answer = Refused Refusal.NotWellFormed; next = t }

      go : (b : Bool) → well_formed s ≡ b → cond b (ruled (hide K E H s) e) (refused (hide K E H s)) ≡ hide_outcome (cond b (ruled s e) (refused s))
      go true w = ruled-hide k s w r.grown r.pages e c
      go false w = refl
