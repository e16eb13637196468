-- What hiding does to each thing that is read of one processor, and that each update of its record commutes with hiding.
-- Assumes nothing.
use mathlib.Core.Path.{◌≡◌, refl, sym, ap, ◌∙◌}
use mathlib.Core.Bool.{Bool, true, false, not, cond, ◌&&◌, and-false}
use mathlib.Core.List.{List}
use Prim.Native.Nat.{ℕ, zero, suc, ◌-◌, ◌/◌, ◌%◌, ◌≤◌, ◌<◌}
use native.Mathlib.Omega.{arith}
use lib.Dec.{ltb, eqb}
use lib.ListN.{length}
use borrow.Author.Tests.{lt-ltb, lt-leb, ne_eqb, ltb-true, ltb-false, eqb-true, eqb-false}
use Rattle.word.specs.Field.{put}
use Rattle.model.specs.Arrays.{number_at, stored}
use Rattle.model.specs.Bounded.{least}
use Rattle.model.specs.Entry.{record_of, enter, is_ready, highest_ready, next_up, advanced, called, restored, waiting, reentered, left, returned, enters, interrupted, started_context, started, acknowledged, by_call, by_interrupt}
use Rattle.model.specs.Registers.{rip, cr0, dr6, rax, rcx, is_private, private_of, shared_of, register_of}
use Rattle.model.specs.State.{Context, Shape, VirtualProcessor, LevelSet, Watch, no_level, no_control, no_watch, no_context, past_context, is_level, in_set, context, active_of, enabled_at, secure_of, is_pending, lock_bit}
use Rattle.model.specs.Updates.{with_registers, with_tpr, with_pending, with_secure, with_control, with_watch, with_active, put_context, set_shared, set_private, set_register, set_tpr, set_pending, set_secure, set_watch, cleared, unlocked, with_level}
use Rattle.model.specs.Watching.{watcher}
use Rattle.model.proofs.Bools.{and-not, or_left, or_right, cond_same, cond-ap, cond-holds}
use Rattle.model.proofs.LevelSets.{in-hidden, in-here, in-other, with-hidden}
use Rattle.model.proofs.Found.{enabled-level, next_up-found, waiting-found, advanced-active, unlocked-active}
use Rattle.model.specs.Hide.{hides, hide_context, hide_level, hide_vp}
use Rattle.model.specs.MapAt.{map_at}
use Rattle.model.proofs.Maps.{map_at-nil, length-map_at, get_or-map_at, map_at-set, map_at-set-other, map_at-stored, map_at-replicate, number-map_at}

-- The empty records have nothing to hide.
register-none : (z : Shape) (h : Bool) (r : ℕ) → ◌≡◌ {A = ℕ} (cond (is_private z r) (cond h (cond (eqb r cr0 && false) 1 0) 0) 0) 0
register-none z h r = simp (and-false, cond_same)

pub hide_context-none : (z : Shape) (h : Bool) (l : ℕ) → hide_context z h false l no_context ≡ no_context
unfolding hide_context
hide_context-none z h l =
    rw (map_at-replicate {A = ℕ} (λ r x. cond (is_private z r) (cond h (cond (eqb r cr0 && false) 1 0) x) 0) 13 0 (register-none z h), map_at-replicate {A = ℕ} (λ j w. cond (ltb j l) w 0) 4 0 (λ j. cond_same (ltb j l) 0), cond_same (eqb l 0) no_control, cond_same (eqb l 0) no_watch)

hide_context-past : (z : Shape) (h on : Bool) (l : ℕ) → hide_context z h on l past_context ≡ past_context
unfolding hide_context
hide_context-past z h on l = simp (map_at-nil, cond_same)

module _ (K : ℕ) (E : ℕ → Bool) (z : Shape) where
  -- The context of level l as the hidden processor has it.
  unfoldable pub hidden : LevelSet → ℕ → Context → Context
  hidden x l c = let on = in_set z x l in hide_context z (hides K (E l) l on) on l c

  pub context-hide : (p : VirtualProcessor) (l : ℕ) → context z (hide_vp K E z p) l ≡ hidden p.enabled l (context z p l)
  unfolding context hide_vp hidden hide_level in_set
  context-hide p l = go (is_level z l) refl
    where
      go : (b : Bool) → is_level z l ≡ b → context z (hide_vp K E z p) l ≡ hidden p.enabled l (context z p l)
      go true e = rw (e, get_or-map_at (hide_level K E z p.enabled) p.contexts l past_context (rw e (hide_context-past z _ _ l)), e)
      go false e = rw e (sym (hide_context-none z _ l))

  -- An update of a context that commutes with hiding, put back.
  pub put_context-hide : (p : VirtualProcessor) (l : ℕ) (c : Context) → is_level z l ≡ true → put_context z (hide_vp K E z p) l (hidden p.enabled l c) ≡ hide_vp K E z (put_context z p l c)
  unfolding put_context hide_vp hidden hide_level
  put_context-hide p l c h = rw (h, map_at-set, h)

  pub alter-hide : (p : VirtualProcessor) (l : ℕ) (f : Context → Context) → is_level z l ≡ true → f (hidden p.enabled l (context z p l)) ≡ hidden p.enabled l (f (context z p l)) →
      put_context z (hide_vp K E z p) l (f (context z (hide_vp K E z p) l)) ≡ hide_vp K E z (put_context z p l (f (context z p l)))
  alter-hide p l f h e = rw (context-hide, e) (put_context-hide p l (f (context z p l)) h)

  -- Registers: the private ones that are not hidden, as those of a level below K, and those that are shared.
  pub private-seen : (p : VirtualProcessor) (l r : ℕ) → hides K (E l) l (enabled_at z p l) ≡ false → is_private z r ≡ true → private_of z (hide_vp K E z p) l r ≡ private_of z p l r
  unfolding private_of hidden hide_context enabled_at
  private-seen p l r h e =
      rw context-hide (number-map_at (λ r x. cond (is_private z r) (cond (hides K (E l) l (in_set z p.enabled l)) (cond (eqb r cr0 && in_set z p.enabled l) 1 0) x) 0) 13 (context z p l).registers r (rw (e, h)) ∙ rw (e, h))

  pub private-hide : (p : VirtualProcessor) (l r : ℕ) → l < K → is_private z r ≡ true → private_of z (hide_vp K E z p) l r ≡ private_of z p l r
  unfolding hides
  private-hide p l r h e = private-seen p l r (rw (lt-leb K l h)) e

  -- Register r is kept among the shared ones.
  abbrev pub is_shared : ℕ → Type 0
  is_shared r = (eqb (r - dr6) 0 && not z.dr6_shared) ≡ false

  shared-place : (r : ℕ) → is_private z r ≡ false → is_shared r
  unfolding is_private
  shared-place r h = go (eqb r dr6) refl
    where
      far : dr6 ≤ r
      far = ltb-false r dr6 (or_left (ltb r dr6) (eqb r dr6 && not z.dr6_shared) h)

      go : (b : Bool) → eqb r dr6 ≡ b → is_shared r
      go true e = rw (and-not (eqb r dr6) (not z.dr6_shared) (or_right (ltb r dr6) (eqb r dr6 && not z.dr6_shared) h) e, and-false)
      go false e = rw (ne_eqb (r - dr6) 0 (λ d. eqb-false r dr6 e (let f = far in omega arith)))

  pub shared-hide : (p : VirtualProcessor) (r : ℕ) → is_shared r → shared_of (hide_vp K E z p) r ≡ shared_of p r
  unfolding hide_vp shared_of
  shared-hide p r h = rw (number-map_at (λ i x. cond (eqb i 0 && not z.dr6_shared) 0 x) 20 p.shared (r - dr6) (rw h), h)

  pub set_shared-hide : (p : VirtualProcessor) (r x : ℕ) → is_shared r → set_shared (hide_vp K E z p) r x ≡ hide_vp K E z (set_shared p r x)
  unfolding set_shared hide_vp
  set_shared-hide p r x h = rw (map_at-stored, h)

  pub register-hide : (p : VirtualProcessor) (l r : ℕ) → l < K → register_of z (hide_vp K E z p) l r ≡ register_of z p l r
  unfolding register_of
  register-hide p l r h = go (is_private z r) refl
    where
      go : (b : Bool) → is_private z r ≡ b → register_of z (hide_vp K E z p) l r ≡ register_of z p l r
      go true e = rw (e, private-hide)
      go false e = rw (e, shared-hide p r (shared-place r e))

  pub set_private-hide : (p : VirtualProcessor) (l r x : ℕ) → l < K → is_level z l ≡ true → is_private z r ≡ true → set_private z (hide_vp K E z p) l r x ≡ hide_vp K E z (set_private z p l r x)
  unfolding set_private hidden hide_context hides
  set_private-hide p l r x h k e = alter-hide p l (λ c. with_registers c (stored 13 c.registers r x)) k (rw (map_at-stored, e, lt-leb K l h))

  pub set_register-hide : (p : VirtualProcessor) (l r x : ℕ) → l < K → is_level z l ≡ true → set_register z (hide_vp K E z p) l r x ≡ hide_vp K E z (set_register z p l r x)
  unfolding set_register
  set_register-hide p l r x h k = go (is_private z r) refl
    where
      go : (b : Bool) → is_private z r ≡ b → set_register z (hide_vp K E z p) l r x ≡ hide_vp K E z (set_register z p l r x)
      go true e = rw e (set_private-hide p l r x h k e)
      go false e = rw e (set_shared-hide p r x (shared-place r e))

  -- What no hidden register enters.
  pub active-same : (p : VirtualProcessor) → active_of (hide_vp K E z p) ≡ active_of p
  unfolding active_of hide_vp
  active-same p = refl

  pub contexts-same : (p : VirtualProcessor) → length (hide_vp K E z p).contexts ≡ length p.contexts
  unfolding hide_vp
  contexts-same p = length-map_at _ p.contexts

  pub with_active-hide : (p : VirtualProcessor) (l : ℕ) → with_active (hide_vp K E z p) l ≡ hide_vp K E z (with_active p l)
  unfolding hide_vp
  with_active-hide p l = refl

  pub enabled-same : (p : VirtualProcessor) (l : ℕ) → enabled_at z (hide_vp K E z p) l ≡ enabled_at z p l
  unfolding enabled_at hide_vp
  enabled-same p l = in-hidden z p.enabled l

  pub tpr-same : (p : VirtualProcessor) (l : ℕ) → (context z (hide_vp K E z p) l).tpr ≡ (context z p l).tpr
  unfolding hidden hide_context
  tpr-same p l = ap (λ c. c.tpr) (context-hide p l)

  pub pending-same : (p : VirtualProcessor) (l : ℕ) → (context z (hide_vp K E z p) l).pending ≡ (context z p l).pending
  unfolding hidden hide_context
  pending-same p l = ap (λ c. c.pending) (context-hide p l)

  pub ready-same : (p : VirtualProcessor) (l n : ℕ) → is_ready (context z (hide_vp K E z p) l) n ≡ is_ready (context z p l) n
  unfolding is_ready
  ready-same p l n = rw tpr-same

  pub highest-same : (p : VirtualProcessor) (l : ℕ) → highest_ready (context z (hide_vp K E z p) l) ≡ highest_ready (context z p l)
  unfolding highest_ready is_pending is_ready
  highest-same p l = simp (tpr-same, pending-same)

  pub secure-same : (p : VirtualProcessor) (t l : ℕ) → secure_of z (hide_vp K E z p) t l ≡ secure_of z p t l
  unfolding secure_of hidden hide_context
  secure-same p t l = go (ltb l t) refl
    where
      go : (b : Bool) → ltb l t ≡ b → secure_of z (hide_vp K E z p) t l ≡ secure_of z p t l
      go true e = rw (e, context-hide, number-map_at (λ j w. cond (ltb j t) w 0) 4 (context z p t).secure l (cond_same (ltb l t) 0), e)
      go false e = rw e

  -- The control record of a level above 0.
  pub control-same : (p : VirtualProcessor) (l : ℕ) → 0 < l → (context z (hide_vp K E z p) l).control ≡ (context z p l).control
  unfolding hidden hide_context
  control-same p l o = rw (context-hide, ne_eqb l 0 (λ e. omega arith))

  -- What a level above 0 asks to be told of registers, and the level that hears of an access to level g's. `f` and `f'` are what a level asks for as
  -- the processor and as the hidden one has it: the same where g is the actor.
  pub watch-same : (p : VirtualProcessor) (l : ℕ) → 0 < l → (context z (hide_vp K E z p) l).watch ≡ (context z p l).watch
  unfolding hidden hide_context
  watch-same p l o = rw (context-hide, ne_eqb l 0 (λ e. omega arith))

  pub watcher-same : (p : VirtualProcessor) (g : ℕ) (f f' : Watch → Bool) → (g ≡ active_of p → f' ≡ f) → watcher z (hide_vp K E z p) g f' ≡ watcher z p g f
  unfolding watcher
  watcher-same p g f f' h = ap (least no_level) (λ i t. each t (eqb g (active_of p)) refl (ltb g t) refl i)
    where
      each : (t : ℕ) (a : Bool) → eqb g (active_of p) ≡ a → (b : Bool) → ltb g t ≡ b →
          (eqb g (active_of (hide_vp K E z p)) && ltb g t && enabled_at z (hide_vp K E z p) t && f' (context z (hide_vp K E z p) t).watch) ≡ (eqb g (active_of p) && ltb g t && enabled_at z p t && f (context z p t).watch)
      each t true e true d = rw (active-same p, enabled-same p t, watch-same p t (let o : g < t = ltb-true g t d in omega arith), h (eqb-true g (active_of p) e))
      each t true e false d = rw (active-same p, d, and-false)
      each t false e b d = rw (active-same p, e)

  pub set_watch-hide : (p : VirtualProcessor) (l : ℕ) (f : Watch → Watch) → is_level z l ≡ true → 0 < l →
      set_watch z (hide_vp K E z p) l (f (context z (hide_vp K E z p) l).watch) ≡ hide_vp K E z (set_watch z p l (f (context z p l).watch))
  unfolding set_watch hidden hide_context
  set_watch-hide p l f k o = alter-hide p l (λ c. with_watch c (f c.watch)) k (rw (ne_eqb l 0 (λ e. omega arith)))

  pub set_tpr-hide : (p : VirtualProcessor) (l class : ℕ) → is_level z l ≡ true → set_tpr z (hide_vp K E z p) l class ≡ hide_vp K E z (set_tpr z p l class)
  unfolding set_tpr hidden hide_context
  set_tpr-hide p l class k = alter-hide p l (λ c. with_tpr c class) k refl

  pub set_pending-hide : (p : VirtualProcessor) (l n x : ℕ) → is_level z l ≡ true → set_pending z (hide_vp K E z p) l n x ≡ hide_vp K E z (set_pending z p l n x)
  unfolding set_pending hidden hide_context
  set_pending-hide p l n x k = alter-hide p l (λ c. with_pending c (stored 4 c.pending (n / 64) (put (n % 64) 1 (number_at 4 c.pending (n / 64)) x))) k refl

  pub set_secure-hide : (p : VirtualProcessor) (t l w : ℕ) → is_level z t ≡ true → l < t → set_secure z (hide_vp K E z p) t l w ≡ hide_vp K E z (set_secure z p t l w)
  unfolding set_secure hidden hide_context
  set_secure-hide p t l w k h = alter-hide p t (λ c. with_secure c (stored 4 c.secure l w)) k (rw (map_at-stored, lt-ltb l t h))

  -- A cleared word that is no part of a state stays 0.
  cleared-hide : (t n : ℕ) (ws : List ℕ) → cleared n (map_at (λ j w. cond (ltb j t) w 0) ws) ≡ map_at (λ j w. cond (ltb j t) w 0) (cleared n ws)
  unfolding cleared
  cleared-hide t zero ws = refl
  cleared-hide t (suc n) ws =
      rw (cleared-hide t n ws, map_at-stored, number-map_at (λ j w. cond (ltb j t) w 0) 4 (cleared n ws) n (cond_same (ltb n t) 0))
      (ap (stored 4 (map_at (λ j w. cond (ltb j t) w 0) (cleared n ws)) n) (sym (cond-ap (λ w. put lock_bit 1 w 0) (ltb n t) (number_at 4 (cleared n ws) n) 0)))

  pub unlocked-hide : (p : VirtualProcessor) (t : ℕ) → is_level z t ≡ true → unlocked z (hide_vp K E z p) t ≡ hide_vp K E z (unlocked z p t)
  unfolding unlocked hidden hide_context
  unlocked-hide p t k = alter-hide p t (λ c. with_secure c (cleared 4 c.secure)) k (rw (cleared-hide t 4 (context z p t).secure))

  pub enter-hide : (p : VirtualProcessor) (l reason : ℕ) → 0 < l → is_level z l ≡ true → enter z (hide_vp K E z p) l reason ≡ hide_vp K E z (enter z p l reason)
  unfolding enter hidden hide_context
  enter-hide p l reason o k =
      let same : record_of (hide_vp K E z p) reason ≡ record_of p reason = unfold hide_vp in (λ i. record { reason = reason; from = p.active; rax = shared-hide p rax refl i; rcx = shared-hide p rcx refl i }) in
      rw same (ap (λ q. with_active q l) (alter-hide p l (λ c. with_control c (record_of p reason)) k (rw (ne_eqb l 0 (λ e. omega arith)))) ∙ with_active-hide (put_context z p l (with_control (context z p l) (record_of p reason))) l)

  -- Call, return, interrupt.
  pub next_up-same : (p : VirtualProcessor) → next_up z (hide_vp K E z p) ≡ next_up z p
  unfolding next_up
  next_up-same p = simp (active-same, enabled-same)

  pub advanced-hide : (p : VirtualProcessor) (n : ℕ) → active_of p < K → is_level z (active_of p) ≡ true → advanced z (hide_vp K E z p) n ≡ hide_vp K E z (advanced z p n)
  unfolding advanced is_private
  advanced-hide p n h k = simp (active-same, private-hide p (active_of p) rip h refl) (set_private-hide p (active_of p) rip _ h k refl)

  pub called-hide : (p : VirtualProcessor) (n : ℕ) → active_of p < K → is_level z (active_of p) ≡ true → eqb (next_up z p) 4 ≡ false → called z (hide_vp K E z p) n ≡ hide_vp K E z (called z p n)
  unfolding called
  called-hide p n h k u =
      let f = next_up-found z p u in
      simp (next_up-same, advanced-hide) (enter-hide (advanced z p n) (next_up z p) by_call (omega arith) (enabled-level z p (next_up z p) f.1))

  pub waiting-same : (p : VirtualProcessor) → waiting z (hide_vp K E z p) ≡ waiting z p
  unfolding waiting
  waiting-same p = simp (active-same, enabled-same, highest-same)

  pub reentered-hide : (p : VirtualProcessor) → reentered z (hide_vp K E z p) ≡ hide_vp K E z (reentered z p)
  unfolding reentered
  reentered-hide p = rw waiting-same (go (eqb (waiting z p) 0) refl)
    where
      go : (b : Bool) → eqb (waiting z p) 0 ≡ b → cond b (hide_vp K E z p) (enter z (hide_vp K E z p) (waiting z p) by_interrupt) ≡ hide_vp K E z (cond b p (enter z p (waiting z p) by_interrupt))
      go true e = refl
      go false e = let f = waiting-found z p e in enter-hide p (waiting z p) by_interrupt (omega arith) (enabled-level z p (waiting z p) f.1)

  pub left-hide : (p : VirtualProcessor) → 0 < active_of p → left z (hide_vp K E z p) ≡ hide_vp K E z (left z p)
  unfolding left restored
  left-hide p o =
      simp (
        active-same,
        control-same p (active_of p) o,
        shared-hide p rcx refl,
        set_shared-hide p rax (context z p (active_of p)).control.rax refl,
        set_shared-hide (set_shared p rax (context z p (active_of p)).control.rax) rcx (context z p (active_of p)).control.rcx refl,
        cond-ap (hide_vp K E z),
        with_active-hide,
      )

  pub returned-hide : (p : VirtualProcessor) (n : ℕ) → active_of p < K → is_level z (active_of p) ≡ true → 0 < active_of p → returned z (hide_vp K E z p) n ≡ hide_vp K E z (returned z p n)
  unfolding returned
  returned-hide p n h k o =
      simp (active-same, control-same p (active_of p) o, advanced-hide, cond-ap (hide_vp K E z), unlocked-hide)
      (ap (reentered z) (left-hide (unlocked z q (active_of p)) (rw (unlocked-active z, cond-holds (λ x. active_of x ≡ active_of p) _ (advanced z p n) p (advanced-active z p n) refl) o)) ∙ reentered-hide (left z (unlocked z q (active_of p))))
    where
      q : VirtualProcessor
      q = cond (eqb (context z p (active_of p)).control.reason by_call) (advanced z p n) p

  pub enters-same : (p : VirtualProcessor) (g n : ℕ) → enters z (hide_vp K E z p) g n ≡ enters z p g n
  unfolding enters
  enters-same p g n = simp (active-same, ready-same)

  pub interrupted-hide : (p : VirtualProcessor) (g n : ℕ) → is_level z g ≡ true → interrupted z (hide_vp K E z p) g n ≡ hide_vp K E z (interrupted z p g n)
  unfolding interrupted enters
  interrupted-hide p g n k = rw (enters-same, set_pending-hide p g n 1 k) (go (ltb (active_of p) g) refl (is_ready (context z p g) n))
    where
      q : VirtualProcessor
      q = set_pending z p g n 1

      go : (a : Bool) → ltb (active_of p) g ≡ a → (b : Bool) → cond (a && b) (enter z (hide_vp K E z q) g by_interrupt) (hide_vp K E z q) ≡ hide_vp K E z (cond (a && b) (enter z q g by_interrupt) q)
      go true e true = enter-hide q g by_interrupt (omega (arith, ltb-true (active_of p) g e)) k
      go true e false = refl
      go false e b = refl

  pub acknowledged-hide : (p : VirtualProcessor) → is_level z (active_of p) ≡ true → acknowledged z (hide_vp K E z p) ≡ hide_vp K E z (acknowledged z p)
  unfolding acknowledged
  acknowledged-hide p k = simp (active-same, highest-same) (set_pending-hide p (active_of p) _ 0 k)

  -- A level that starts and is not hidden from then on: its registers are seen, and the other levels are hidden as before.
  module _ (p : VirtualProcessor) (t ip sp cr : ℕ) (k : is_level z t ≡ true) (e : hides K (E t) t true ≡ false) where
    enabled : LevelSet
    enabled = with_level z p.enabled t true

    begun : Context
    begun = started_context (context z p t) ip sp cr

    others : (l : ℕ) → (l ≡ t → ⊥) → (c : Context) → hide_level K E z p.enabled l c ≡ hide_level K E z enabled l c
    unfolding hide_level enabled
    others l n c = rw (in-other z p.enabled t true k l n)

    its_own : started_context (context z (hide_vp K E z p) t) ip sp cr ≡ hide_level K E z enabled t begun
    unfolding hide_level hidden hide_context is_private map_at enabled begun
    its_own = rw (k, context-hide) (simp (in-here z p.enabled t true k, e, cond_same))

    pub started-hide : started z (hide_vp K E z p) t ip sp cr ≡ hide_vp K E z (started z p t ip sp cr)
    unfolding started put_context hide_vp enabled begun
    started-hide = rw (k, with-hidden z p.enabled t true k, its_own, map_at-set-other (hide_level K E z p.enabled) (hide_level K E z enabled) p.contexts t begun others)
