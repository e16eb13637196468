-- A well-formed processor stays so under each update that an event makes of its record.
-- Assumes nothing.
use mathlib.Core.Path.{◌≡◌, refl, sym, ◌∙◌}
use mathlib.Core.Bool.{Bool, true, false, not, cond, ◌&&◌, ◌||◌, true≢false}
use mathlib.Core.List.{List}
use Prim.Native.Nat.{ℕ, zero, suc, ◌/◌, ◌%◌, ◌≤◌, ◌<◌}
use native.Mathlib.Omega.{arith}
use lib.Dec.{leb, ltb, eqb}
use lib.ListN.{length, length-set}
use borrow.Author.Tests.{lt-ltb, ltb-true, not-true}
use Rattle.word.specs.Field.{field, put, bit}
use Rattle.word.proofs.FieldLaws.{take-put-below, take-put-above, bit-put-below}
use Rattle.model.specs.Arrays.{number_at}
use Rattle.model.specs.Bounded.{every}
use Rattle.model.specs.Entry.{record_of, enter, is_ready, highest_ready, next_up, advanced, called, restored, waiting, reentered, left, returned, enters, interrupted, started, acknowledged, by_call, by_interrupt}
use Rattle.model.specs.Masks.{secure_reserved_set}
use Rattle.model.specs.Registers.{rip, rax, rcx, is_private, shared_of}
use Rattle.model.specs.State.{Context, Control, Shape, VirtualProcessor, Watch, is_level, context, active_of, enabled_at, is_pending, mbec_bit, lock_bit}
use Rattle.model.specs.Updates.{with_secure, with_control, with_active, put_context, set_shared, set_private, set_register, set_tpr, set_pending, set_secure, set_watch, cleared, unlocked}
use Rattle.model.specs.Watching.{intercept_reserved_set}
use Rattle.model.specs.WellFormed.{never_entered, well_entered, well_formed_context}
use Rattle.model.proofs.ArrayLaws.{number-cases}
use Rattle.model.proofs.Bools.{and_left, and_right, and_both, implied, implies-test, hold, all_hold, cond-holds}
use Rattle.model.proofs.BoundedLaws.{every-at, every-all, highest-found}
use Rattle.model.proofs.Four.{level-low}
use Rattle.model.proofs.Moves.{context-cases, put-enabled, started-cases}
use Rattle.model.proofs.Found.{enabled-level, next_up-found, waiting-found, advanced-active, unlocked-active}

-- A secure word that well-formedness allows, where the partition has MBEC for the setting level as `mbec` tells.
abbrev pub allowed : Bool → ℕ → Bool
allowed mbec w = not (secure_reserved_set w) && (not (bit w mbec_bit) || mbec)

-- What well-formedness asks of a context of level l, field by field; `up` tells the levels enabled on the processor.
pub record Sound (l : ℕ) (on mbec : Bool) (up : ℕ → Bool) (enabled : Bool) (tpr : ℕ) (pending secure : List ℕ) (control : Control) (watch : Watch) : Type 0 where
  pub part : enabled ≡ true → on ≡ true
  pub entry : 0 < l → enabled ≡ true → well_entered l (up control.from.0) control ≡ true
  pub words : (j : ℕ) → j < l → allowed mbec (number_at 4 secure j) ≡ true
  pub class : leb tpr 15 ≡ true
  pub low : eqb (field 0 16 (number_at 4 pending 0)) 0 ≡ true
  pub idle : enabled ≡ false → every 4 (λ i. eqb (number_at 4 pending i) 0) ≡ true
  pub blank : 0 < l → enabled ≡ false → never_entered control ≡ true
  pub watched : 0 < l → not (intercept_reserved_set watch.intercepts) ≡ true

abbrev pub SoundContext : ℕ → Bool → Bool → Bool → (ℕ → Bool) → Context → Type 0
SoundContext l on enabled mbec up c = Sound l on mbec up enabled c.tpr c.pending c.secure c.control c.watch

-- As the test that the definition makes, and back.
pub sound-test : (l : ℕ) (on enabled mbec : Bool) (up : ℕ → Bool) (c : Context) → SoundContext l on enabled mbec up c → well_formed_context l on enabled mbec (up c.control.from.0) c ≡ true
unfolding well_formed_context
sound-test l on enabled mbec up c g = all_hold _ (
  implies-test enabled on g.part,
  (
    implies-test (ltb 0 l && enabled) _ (λ h. g.entry (ltb-true 0 l (and_left (ltb 0 l) enabled h)) (and_right (ltb 0 l) enabled h)),
    (every-all l _ g.words, (g.class, (g.low, (unless enabled _ g.idle, (implies-test (ltb 0 l && not enabled) _ (λ h. g.blank (ltb-true 0 l (and_left (ltb 0 l) _ h)) (not-true enabled (and_right (ltb 0 l) _ h))), (implies-test (ltb 0 l) _ (λ h. g.watched (ltb-true 0 l h)), tt)))))),
  ),
)
  where
    unless : (b t : Bool) → (b ≡ false → t ≡ true) → (b || t) ≡ true
    unless true t f = refl
    unless false t f = f refl

pub test-sound : (l : ℕ) (on enabled mbec : Bool) (up : ℕ → Bool) (c : Context) → well_formed_context l on enabled mbec (up c.control.from.0) c ≡ true → SoundContext l on enabled mbec up c
unfolding well_formed_context
test-sound l on enabled mbec up c h =
    let t = hold _ h in
    record {
      part = implied enabled on t.0;
      entry = λ o e. implied (ltb 0 l && enabled) _ t.1.0 (rw (lt-ltb 0 l o) e);
      words = every-at l _ t.1.1.0;
      class = t.1.1.1.0;
      low = t.1.1.1.1.0;
      idle = other enabled _ t.1.1.1.1.1.0;
      blank = λ o e. implied (ltb 0 l && not enabled) _ t.1.1.1.1.1.1.0 (rw (lt-ltb 0 l o, e) refl);
      watched = λ o. implied (ltb 0 l) _ t.1.1.1.1.1.1.1.0 (lt-ltb 0 l o);
    }
  where
    other : (b t : Bool) → (b || t) ≡ true → b ≡ false → t ≡ true
    other true t q e = absurd (true≢false e)
    other false t q e = q

-- More levels enabled, on the processor and for the partition.
pub sound_more : (l : ℕ) (on on' enabled mbec mbec' : Bool) (up up' : ℕ → Bool) (c : Context) → (on ≡ true → on' ≡ true) → (mbec ≡ true → mbec' ≡ true) → ((i : ℕ) → up i ≡ true → up' i ≡ true) →
    SoundContext l on enabled mbec up c → SoundContext l on' enabled mbec' up' c
unfolding well_entered
sound_more l on on' enabled mbec mbec' up up' c f m u g = record {
  part = λ e. f (g.part e);
  entry = λ o e. let t = hold _ (g.entry o e) in all_hold _ (t.0, (u c.control.from.0 t.1.0, t.1.1));
  words = λ j h. more (number_at 4 c.secure j) (g.words j h);
  class = g.class;
  low = g.low;
  idle = g.idle;
  blank = g.blank;
  watched = g.watched;
}
  where
    more : (w : ℕ) → allowed mbec w ≡ true → allowed mbec' w ≡ true
    more w h = and_both (not (secure_reserved_set w)) _ (and_left (not (secure_reserved_set w)) _ h) (implies-test (bit w mbec_bit) mbec' (λ b. m (implied (bit w mbec_bit) mbec (and_right (not (secure_reserved_set w)) _ h) b)))

-- One processor. `on` and `mbec` tell what the partition has of each level.
module _ (z : Shape) (on mbec : ℕ → Bool) where
  pub record SoundVp (p : VirtualProcessor) : Type 0 where
    pub four : length p.contexts ≡ 4
    pub base : enabled_at z p 0 ≡ true
    pub current : enabled_at z p (active_of p) ≡ true
    pub each : (l : ℕ) → l < 4 → SoundContext l (on l) (enabled_at z p l) (mbec l) (enabled_at z p) (context z p l)

  -- A context put in place of another.
  put-sound : (p : VirtualProcessor) (l : ℕ) (c : Context) → is_level z l ≡ true → SoundVp p →
      (SoundContext l (on l) (enabled_at z p l) (mbec l) (enabled_at z p) (context z p l) → SoundContext l (on l) (enabled_at z p l) (mbec l) (enabled_at z p) c) → SoundVp (put_context z p l c)
  put-sound p l c i g f = unfold enabled_at active_of put_context in record {
    four = rw i (length-set p.contexts l c ∙ g.four);
    base = g.base;
    current = g.current;
    each = λ j b. context-cases (λ d. SoundContext j (on j) (enabled_at z p j) (mbec j) (enabled_at z p) d) z p l j c (g.each j b) (λ e. rw e (f (g.each l (level-low z l i))));
  }

  -- What does not touch a context.
  active-sound : (p : VirtualProcessor) (l : ℕ) → SoundVp p → enabled_at z p l ≡ true → SoundVp (with_active p l)
  unfolding enabled_at context active_of
  active-sound p l g h = record { four = g.four; base = g.base; current = h; each = g.each }

  set_shared-sound : (p : VirtualProcessor) (r x : ℕ) → SoundVp p → SoundVp (set_shared p r x)
  unfolding enabled_at context active_of set_shared
  set_shared-sound p r x g = record { four = g.four; base = g.base; current = g.current; each = g.each }

  -- Registers.
  set_private-sound : (p : VirtualProcessor) (l r x : ℕ) → is_level z l ≡ true → SoundVp p → SoundVp (set_private z p l r x)
  unfolding set_private
  set_private-sound p l r x i g = put-sound p l _ i g (λ h. h)

  pub set_register-sound : (p : VirtualProcessor) (l r x : ℕ) → is_level z l ≡ true → SoundVp p → SoundVp (set_register z p l r x)
  unfolding set_register
  set_register-sound p l r x i g = cond-holds SoundVp (is_private z r) _ _ (set_private-sound p l r x i g) (set_shared-sound p r x g)

  -- Entry.
  pub enter-sound : (p : VirtualProcessor) (l reason : ℕ) → eqb reason 0 ≡ false → leb reason 2 ≡ true → active_of p < l → enabled_at z p l ≡ true → SoundVp p → SoundVp (enter z p l reason)
  unfolding enter
  enter-sound p l reason a b c u g =
      let i = enabled-level z p l u in
      active-sound _ l (put-sound p l (with_control (context z p l) (record_of p reason)) i g (λ h. record {
        part = h.part;
        entry = λ o e. unfold well_entered active_of in all_hold _ (lt-ltb (active_of p) l c, (g.current, (rw a, (b, tt))));
        words = h.words;
        class = h.class;
        low = h.low;
        idle = h.idle;
        blank = λ o d. absurd (true≢false (sym u ∙ d));
        watched = h.watched;
      })) (rw (put-enabled z p l _ l) u)

  advanced-sound : (p : VirtualProcessor) (n : ℕ) → SoundVp p → SoundVp (advanced z p n)
  unfolding advanced
  advanced-sound p n g = set_private-sound p (active_of p) rip _ (enabled-level z p (active_of p) g.current) g

  pub called-sound : (p : VirtualProcessor) (n : ℕ) → eqb (next_up z p) 4 ≡ false → SoundVp p → SoundVp (called z p n)
  unfolding called
  called-sound p n h g =
      let f = next_up-found z p h in
      enter-sound (advanced z p n) (next_up z p) by_call refl refl (rw (advanced-active z p n) f.0) (rw (advanced-enabled p n (next_up z p)) f.1) (advanced-sound p n g)
    where
      advanced-enabled : (p : VirtualProcessor) (n l : ℕ) → enabled_at z (advanced z p n) l ≡ enabled_at z p l
      advanced-enabled p n l = unfold advanced set_private in put-enabled z p (active_of p) _ l

  -- Pending vectors, from 16 up, at an enabled level.
  pub set_pending-sound : (p : VirtualProcessor) (l n x : ℕ) → 16 ≤ n → enabled_at z p l ≡ true → SoundVp p → SoundVp (set_pending z p l n x)
  unfolding set_pending
  set_pending-sound p l n x a u g = put-sound p l _ (enabled-level z p l u) g (λ h. record {
    part = h.part;
    entry = h.entry;
    words = h.words;
    class = h.class;
    low = number-cases (λ y. eqb (field 0 16 y) 0 ≡ true) 4 (context z p l).pending (n / 64) 0 _ h.low (λ e.
        rw (take-put-below (n % 64) 1 0 16 (number_at 4 (context z p l).pending (n / 64)) x (omega arith), sym e) h.low);
    idle = λ d. absurd (true≢false (sym u ∙ d));
    blank = h.blank;
    watched = h.watched;
  })

  pub interrupted-sound : (p : VirtualProcessor) (g n : ℕ) → 16 ≤ n → enabled_at z p g ≡ true → SoundVp p → SoundVp (interrupted z p g n)
  unfolding interrupted enters
  interrupted-sound p g n a u h = go (ltb (active_of p) g) refl (is_ready (context z p g) n)
    where
      q : VirtualProcessor
      q = set_pending z p g n 1

      sound-q : SoundVp q
      sound-q = set_pending-sound p g n 1 a u h

      still : enabled_at z q g ≡ true
      still = unfold set_pending in rw (put-enabled z p g _ g) u

      go : (b : Bool) → ltb (active_of p) g ≡ b → (c : Bool) → SoundVp (cond (b && c) (enter z q g by_interrupt) q)
      go true e true = enter-sound q g by_interrupt refl refl (unfold set_pending put_context active_of in ltb-true (active_of p) g e) still sound-q
      go true e false = sound-q
      go false e c = sound-q

  -- A vector that is ready is above 15.
  pub acknowledged-sound : (p : VirtualProcessor) → eqb (highest_ready (context z p (active_of p))) 0 ≡ false → SoundVp p → SoundVp (acknowledged z p)
  unfolding acknowledged highest_ready is_ready
  acknowledged-sound p h g =
      let n : ℕ = highest_ready (context z p (active_of p)) in
      let f = highest-found 256 (λ n. is_pending (context z p (active_of p)) n && is_ready (context z p (active_of p)) n) h in
      let r : (context z p (active_of p)).tpr < n / 16 = ltb-true _ _ (and_right (is_pending (context z p (active_of p)) n) _ f.1) in
      set_pending-sound p (active_of p) n 0 (omega arith) g.current g

  pub set_tpr-sound : (p : VirtualProcessor) (l class : ℕ) → is_level z l ≡ true → leb class 15 ≡ true → SoundVp p → SoundVp (set_tpr z p l class)
  unfolding set_tpr
  set_tpr-sound p l class i c g = put-sound p l _ i g (λ h. record { part = h.part; entry = h.entry; words = h.words; class = c; low = h.low; idle = h.idle; blank = h.blank; watched = h.watched })

  -- What a level asks to be told of registers.
  pub set_watch-sound : (p : VirtualProcessor) (l : ℕ) (f : Watch → Watch) → is_level z l ≡ true → ((w : Watch) → not (intercept_reserved_set w.intercepts) ≡ true → not (intercept_reserved_set (f w).intercepts) ≡ true) → SoundVp p →
      SoundVp (set_watch z p l (f (context z p l).watch))
  unfolding set_watch
  set_watch-sound p l f i k g =
      put-sound p l _ i g (λ h. record { part = h.part; entry = h.entry; words = h.words; class = h.class; low = h.low; idle = h.idle; blank = h.blank; watched = λ o. k (context z p l).watch (h.watched o) })

  -- Secure words.
  words-sound : (p : VirtualProcessor) (t : ℕ) (ws : List ℕ) → is_level z t ≡ true → ((j : ℕ) → j < t → allowed (mbec t) (number_at 4 (context z p t).secure j) ≡ true → allowed (mbec t) (number_at 4 ws j) ≡ true) → SoundVp p →
      SoundVp (put_context z p t (with_secure (context z p t) ws))
  words-sound p t ws i f g = put-sound p t _ i g (λ h. record { part = h.part; entry = h.entry; words = λ j b. f j b (h.words j b); class = h.class; low = h.low; idle = h.idle; blank = h.blank; watched = h.watched })

  pub set_secure-sound : (p : VirtualProcessor) (t l w : ℕ) → is_level z t ≡ true → allowed (mbec t) w ≡ true → SoundVp p → SoundVp (set_secure z p t l w)
  unfolding set_secure
  set_secure-sound p t l w i h g = words-sound p t _ i (λ j b old. number-cases (λ y. allowed (mbec t) y ≡ true) 4 (context z p t).secure l j w old (λ e. h)) g

  -- Without its lock bit a word is allowed as before.
  unlock-allowed : (m : Bool) (w : ℕ) → allowed m w ≡ true → allowed m (put lock_bit 1 w 0) ≡ true
  unlock-allowed m w h = rw (take-put-above 1 1 2 62 w 0 (omega arith), bit-put-below 1 1 0 w 0 (omega arith)) h

  cleared-allowed : (m : Bool) (n j : ℕ) (ws : List ℕ) → allowed m (number_at 4 ws j) ≡ true → allowed m (number_at 4 (cleared n ws) j) ≡ true
  unfolding cleared
  cleared-allowed m zero j ws h = h
  cleared-allowed m (suc n) j ws h =
      let q = cleared-allowed m n j ws h in
      number-cases (λ y. allowed m y ≡ true) 4 (cleared n ws) n j _ q (λ e. unlock-allowed m (number_at 4 (cleared n ws) n) (rw e at q))

  unlocked-sound : (p : VirtualProcessor) (t : ℕ) → is_level z t ≡ true → SoundVp p → SoundVp (unlocked z p t)
  unfolding unlocked
  unlocked-sound p t i g = words-sound p t _ i (λ j b old. cleared-allowed (mbec t) 4 j (context z p t).secure old) g

  -- Return: the level that the control record names is enabled.
  restored-sound : (p : VirtualProcessor) → SoundVp p → SoundVp (restored z p)
  unfolding restored
  restored-sound p g = cond-holds SoundVp (eqb (shared_of p rcx) 0) _ p (set_shared-sound _ rcx _ (set_shared-sound p rax _ g)) g

  restored-enabled : (p : VirtualProcessor) (l : ℕ) → enabled_at z (restored z p) l ≡ enabled_at z p l
  unfolding enabled_at context restored set_shared
  restored-enabled p l = cond-holds (λ q. enabled_at z q l ≡ enabled_at z p l) (eqb (shared_of p rcx) 0) _ p refl refl

  left-sound : (p : VirtualProcessor) → 0 < active_of p → SoundVp p → SoundVp (left z p)
  unfolding left
  left-sound p o g =
      let i : active_of p < 4 = level-low z (active_of p) (enabled-level z p (active_of p) g.current) in
      let entered = (g.each (active_of p) i).entry o g.current in
      active-sound (restored z p) _ (restored-sound p g) (rw (restored-enabled p (context z p (active_of p)).control.from.0) (unfold well_entered in (hold _ entered).1.0))

  reentered-sound : (p : VirtualProcessor) → SoundVp p → SoundVp (reentered z p)
  unfolding reentered
  reentered-sound p g = go (eqb (waiting z p) 0) refl
    where
      go : (b : Bool) → eqb (waiting z p) 0 ≡ b → SoundVp (cond b p (enter z p (waiting z p) by_interrupt))
      go true e = g
      go false e = let f = waiting-found z p e in enter-sound p (waiting z p) by_interrupt refl refl f.0 f.1 g

  pub returned-sound : (p : VirtualProcessor) (n : ℕ) → 0 < active_of p → SoundVp p → SoundVp (returned z p n)
  unfolding returned
  returned-sound p n o g = reentered-sound _ (left-sound (unlocked z q (active_of p)) (rw (unlocked-active z q (active_of p), same) o) (unlocked-sound q (active_of p) (enabled-level z p (active_of p) g.current) sound-q))
    where
      q : VirtualProcessor
      q = cond (eqb (context z p (active_of p)).control.reason by_call) (advanced z p n) p

      same : active_of q ≡ active_of p
      same = cond-holds (λ x. active_of x ≡ active_of p) (eqb (context z p (active_of p)).control.reason by_call) (advanced z p n) p (advanced-active z p n) refl

      sound-q : SoundVp q
      sound-q = cond-holds SoundVp (eqb (context z p (active_of p)).control.reason by_call) (advanced z p n) p (advanced-sound p n g) g

  -- A level that is first enabled, where the partition has it enabled.
  pub started-sound : (p : VirtualProcessor) (t ip sp cr : ℕ) → is_level z t ≡ true → 0 < t → on t ≡ true → SoundVp p → SoundVp (started z p t ip sp cr)
  started-sound p t ip sp cr i o e g = record {
    four = unfold started put_context in rw i (length-set p.contexts t _ ∙ g.four);
    base = more 0 g.base;
    current = unfold active_of started put_context in more (active_of p) g.current;
    each = λ j b. started-cases z p t ip sp cr i g.four (λ l up c. l < 4 → SoundContext l (on l) up (mbec l) (enabled_at z q) c)
        (λ b. let h = g.each t b in record {
          part = λ d. e;
          entry = λ d q. unfold well_entered in all_hold _ (lt-ltb 0 t o, (more 0 g.base, (refl, (refl, tt))));
          words = h.words;
          class = refl;
          low = unfold number_at in refl;
          idle = λ d. absurd (true≢false d);
          blank = λ o d. absurd (true≢false d);
          watched = h.watched;
        })
        (λ l n b. sound_more l (on l) (on l) (enabled_at z p l) (mbec l) (mbec l) (enabled_at z p) (enabled_at z q) (context z p l) (λ e. e) (λ e. e) more (g.each l b)) j b;
  }
    where
      q : VirtualProcessor
      q = started z p t ip sp cr

      more : (l : ℕ) → enabled_at z p l ≡ true → enabled_at z (started z p t ip sp cr) l ≡ true
      more l h = started-cases z p t ip sp cr i g.four (λ j up c. enabled_at z p j ≡ true → up ≡ true) (λ h. refl) (λ j n h. h) l h
