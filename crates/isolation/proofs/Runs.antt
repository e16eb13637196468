-- Demand 3: two runs that differ only in what is hidden. Each is followed beside the run of its hidden state, and the two hidden
-- states are the same. Assumes nothing.
use mathlib.Core.Path.{◌≡◌, refl, sym, ap, ◌∙◌}
use mathlib.Core.Bool.{Bool, true, false, not, cond, ◌&&◌, ◌||◌, false≢true, and-false}
use mathlib.Core.List.{List, [], ◌∷◌}
use mathlib.Core.Option.{Option, none, some}
use Prim.Native.Nat.{ℕ, ◌≤◌}
use lib.Dec.{leb, ltb, eqb}
use lib.ListN.{get_or}
use Rattle.model.specs.declared.event.Event.{Event}
use Rattle.model.specs.declared.machine.Context.{Context}
use Rattle.model.specs.declared.machine.Shape.{Shape}
use Rattle.model.specs.declared.machine.VirtualProcessor.{VirtualProcessor}
use Rattle.model.specs.declared.set.LevelSet.{LevelSet}
use Rattle.model.specs.Arrays.{number_at}
use Rattle.model.specs.Registers.{cr0, is_private, private_of}
use Rattle.model.specs.State.{State, no_control, no_watch, no_context, no_vp, past_vp, processors, pages, shape, in_set, is_level, is_processor, is_page, vp, enabled_at, enabled_on, enabled_anywhere}
use Rattle.model.specs.Step.{maker, step, answers, final}
use Rattle.model.specs.WellFormed.{well_moded}
use borrow.Author.Tests.{ltb-true}
use Rattle.model.proofs.Bools.{and_left, and_right, cond-then, cond-else}
use Rattle.model.proofs.BoundedLaws.{any-has}
use Rattle.model.specs.Hide.{closed, hides, hide_set, hide_context, hide_level, hide_vp, hide_partition, is_mask, hide_machine, hide, quiet_maker}
use Rattle.isolation.specs.Isolation.{quiet, every_level, Kept, Guarded, Isolation, RunKeeps}
use Rattle.model.proofs.Formed.{well-moded}
use Rattle.model.proofs.Keeps.{step_keeps}
use Rattle.model.proofs.LevelSets.{in-hidden, hidden-twice}
use Rattle.model.proofs.Maps.{map_at-ext, map_at-same, map_at-absorb, map_at-again}
use Rattle.model.proofs.Moves.{Moved, same-moved, then-moved, closed-kept, anywhere-kept, step-moved, modes-kept}
use Rattle.model.proofs.Steps.{Reached, step-hide}
use Rattle.model.proofs.Visible.{private-seen}
use Rattle.model.proofs.Whole.{processors-same, shape_same, vp-hide, active-hide, enabled_on-hide, anywhere-hide, closed_same}

-- One run beside the run of its hidden state. It starts at o, where E and H are taken.
module _ (K : ℕ) (k : 1 ≤ K) (E : ℕ → Bool) (H : ℕ → Bool) (o : State) (E-is : (l : ℕ) → E l ≡ enabled_anywhere o l) (H-is : (p : ℕ) → H p ≡ closed K o p) where
  reached : (s : State) → Moved K o s → well_moded s ≡ true → Reached K E H s
  reached s m w = record {
    modes = w;
    grown = λ l h. anywhere-kept K o s m l (sym (E-is l) ∙ h);
    pages = λ p h. H-is p ∙ sym (closed-kept K o s m p) ∙ h;
  }

  quiet_maker-same : (s : State) (v : Option ℕ) → quiet_maker K (hide K E H s) v ≡ quiet_maker K s v
  unfolding quiet_maker
  quiet_maker-same s none = refl
  quiet_maker-same s (some v) = simp (processors-same, active-hide)

  -- One step on: the state reached there.
  onward : (s : State) (e : Event) → Moved K o s → well_moded s ≡ true → quiet_maker K s (maker e) ≡ true → Moved K o (step s e).next × (well_moded (step s e).next ≡ true)
  onward s e m w h = let n = step-moved K k s e h in (then-moved K o s (step s e).next m n, modes-kept K s (step s e).next n w)

  quiet-hide : (es : List Event) (s : State) → Moved K o s → well_moded s ≡ true → quiet K s es ≡ true → quiet K (hide K E H s) es ≡ true
  unfolding quiet
  quiet-hide [] s m w c = refl
  quiet-hide (e ∷ es) s m w c =
      let h = and_left (quiet_maker K s (maker e)) (quiet K (step s e).next es) c in
      let n = onward s e m w h in
      rw (quiet_maker-same s (maker e), h, step-hide K E H k s (reached s m w) e h) (quiet-hide es (step s e).next n.0 n.1 (and_right (quiet_maker K s (maker e)) (quiet K (step s e).next es) c))

  record Follows (s : State) (es : List Event) : Type 0 where
    same : answers (hide K E H s) es ≡ answers s es
    end : final (hide K E H s) es ≡ hide K E H (final s es)
    moved : Moved K o (final s es)

  follows : (es : List Event) (s : State) → Moved K o s → well_moded s ≡ true → quiet K (hide K E H s) es ≡ true → Follows s es
  unfolding answers final quiet
  follows [] s m w c = record { same = refl; end = refl; moved = m }
  follows (e ∷ es) s m w c =
      let h = sym (quiet_maker-same s (maker e)) ∙ and_left (quiet_maker K (hide K E H s) (maker e)) (quiet K (step (hide K E H s) e).next es) c in
      let st = step-hide K E H k s (reached s m w) e h in
      let n = onward s e m w h in
      let r = follows es (step s e).next n.0 n.1 (rw st at (and_right (quiet_maker K (hide K E H s) (maker e)) (quiet K (step (hide K E H s) e).next es) c)) in
      record { same = rw (st, r.same); end = rw (st, r.end); moved = r.moved }

-- Enabled, as it stands in the arrays.
on-at : (s : State) (v l : ℕ) → is_processor s v ≡ true → enabled_on s v l ≡ in_set (shape s) (get_or s.machine.vps v past_vp).enabled l
unfolding enabled_on enabled_at vp
on-at s v l b = rw b

-- What is enabled on a processor is enabled on some.
somewhere : (s : State) (v l : ℕ) → is_processor s v ≡ true → enabled_on s v l ≡ true → enabled_anywhere s l ≡ true
unfolding enabled_anywhere is_processor
somewhere s v l i h = any-has 4 (λ w. enabled_on s w l) v (ltb-true v 4 (and_right (ltb v (processors s)) (ltb v 4) i)) h

-- Either branch absorbs.
branch : {A : Type 0} (b : Bool) (f g : A → A) (x d : A) → f (g x) ≡ f x → cond b (f (cond b (g x) d)) d ≡ cond b (f x) d
branch true f g x d h = h
branch false f g x d h = refl

-- Hiding every level from K up, and hiding all but those first enabled.
module _ (K : ℕ) where
  -- At the start no level is first enabled: one that is enabled on a processor is enabled on some.
  hides-start : (l : ℕ) (was is : Bool) → (is ≡ true → was ≡ true) → hides K was l is ≡ hides K true l is
  unfolding hides
  hides-start l true is h = refl
  hides-start l false true h = absurd (false≢true (h refl))
  hides-start l false false h = refl

  hide-start : (E : ℕ → Bool) (H : ℕ → Bool) (s : State) → ((l : ℕ) → E l ≡ enabled_anywhere s l) → hide K E H s ≡ hide K every_level H s
  unfolding hide hide_machine hide_vp hide_level
  hide-start E H s e =
      rw (map_at-ext (λ v p. cond (is_processor s v) (hide_vp K E (shape s) p) no_vp) (λ v p. cond (is_processor s v) (hide_vp K every_level (shape s) p) no_vp) s.machine.vps past_vp (λ v i. processor v (is_processor s v) refl))
    where
      at : ℕ → VirtualProcessor
      at v = get_or s.machine.vps v past_vp

      level : (v l : ℕ) (c : Context) → is_processor s v ≡ true → hide_level K E (shape s) (at v).enabled l c ≡ hide_level K every_level (shape s) (at v).enabled l c
      level v l c i = rw (hides-start l (E l) (in_set (shape s) (at v).enabled l) (λ h. e l ∙ somewhere s v l i (on-at s v l i ∙ h)))

      processor : (v : ℕ) (b : Bool) → is_processor s v ≡ b → cond b (hide_vp K E (shape s) (at v)) no_vp ≡ cond b (hide_vp K every_level (shape s) (at v)) no_vp
      processor v true b = rw (map_at-same (hide_level K E (shape s) (at v).enabled) (hide_level K every_level (shape s) (at v).enabled) (at v).contexts (λ l c. level v l c b))
      processor v false b = refl

  -- Hiding more after hiding less.
  less : (l : ℕ) (was is : Bool) (x y : ℕ) → cond (hides K true l is) x (cond (hides K was l is) x y) ≡ cond (hides K true l is) x y
  unfolding hides
  less l was is x y = go (leb K l)
    where
      go : (b : Bool) → cond (b && true) x (cond (b && (was || not is)) x y) ≡ cond (b && true) x y
      go true = refl
      go false = refl

  context-again : (z : Shape) (was on : Bool) (l : ℕ) (c : Context) → hide_context z (hides K true l on) on l (hide_context z (hides K was l on) on l c) ≡ hide_context z (hides K true l on) on l c
  unfolding hide_context
  context-again z was on l c = λ i. record {
    registers = map_at-absorb (λ r x. cond (is_private z r) (cond (hides K true l on) (cond (eqb r cr0 && on) 1 0) x) 0) (λ r x. cond (is_private z r) (cond (hides K was l on) (cond (eqb r cr0 && on) 1 0) x) 0) c.registers
        (λ r x. branch (is_private z r) (λ y. cond (hides K true l on) (cond (eqb r cr0 && on) 1 0) y) (λ y. cond (hides K was l on) (cond (eqb r cr0 && on) 1 0) y) x 0 (less l was on (cond (eqb r cr0 && on) 1 0) x)) i;
    tpr = c.tpr;
    pending = c.pending;
    secure = map_at-absorb (λ j w. cond (ltb j l) w 0) (λ j w. cond (ltb j l) w 0) c.secure (λ j w. cond-then (ltb j l) w 0) i;
    control = cond-else (eqb l 0) no_control c.control i;
    watch = cond-else (eqb l 0) no_watch c.watch i;
  }

  level-again : (E : ℕ → Bool) (z : Shape) (x : LevelSet) (l : ℕ) (c : Context) → hide_level K (λ l. true) z (hide_set z x) l (hide_level K E z x l c) ≡ hide_level K (λ l. true) z x l c
  unfolding hide_level
  level-again E z x l c = rw (in-hidden z x l) (branch (is_level z l) (hide_context z (hides K true l (in_set z x l)) (in_set z x l) l) (hide_context z (hides K (E l) l (in_set z x l)) (in_set z x l) l) c no_context (context-again z (E l) (in_set z x l) l c))

  vp-again : (E : ℕ → Bool) (z : Shape) (p : VirtualProcessor) → hide_vp K (λ l. true) z (hide_vp K E z p) ≡ hide_vp K (λ l. true) z p
  unfolding hide_vp
  vp-again E z p = λ i. record {
    active = p.active;
    enabled = hidden-twice z p.enabled i;
    shared = map_at-absorb (λ i x. cond (eqb i 0 && not z.dr6_shared) 0 x) (λ i x. cond (eqb i 0 && not z.dr6_shared) 0 x) p.shared (λ i x. cond-else (eqb i 0 && not z.dr6_shared) 0 x) i;
    contexts = map_at-again (hide_level K (λ l. true) z (hide_set z p.enabled)) (hide_level K E z p.enabled) (hide_level K (λ l. true) z p.enabled) p.contexts (level-again E z p.enabled) i;
  }

  hide-again : (E : ℕ → Bool) (H : ℕ → Bool) (s : State) → hide K every_level H (hide K E H s) ≡ hide K every_level H s
  unfolding hide hide_machine is_processor processors is_mask is_page pages shape hide_partition
  hide-again E H s = λ i. record {
    machine = record {
      processors = s.machine.processors;
      pages = s.machine.pages;
      host_mask = s.machine.host_mask;
      shape = s.machine.shape;
      partition = record {
        enabled = hidden-twice (shape s) s.machine.partition.enabled i;
        mbec = hidden-twice (shape s) s.machine.partition.mbec i;
        configs = map_at-absorb (λ l w. cond (ltb 0 l && is_level (shape s) l) w 0) (λ l w. cond (ltb 0 l && is_level (shape s) l) w 0) s.machine.partition.configs (λ l w. cond-then (ltb 0 l && is_level (shape s) l) w 0) i;
        masks = map_at-absorb (λ j k. cond (is_mask s j) k 0) (λ j k. cond (is_mask s j) k 0) s.machine.partition.masks (λ j k. cond-then (is_mask s j) k 0) i;
      };
      vps = map_at-absorb (λ v p. cond (is_processor s v) (hide_vp K (λ l. true) (shape s) p) no_vp) (λ v p. cond (is_processor s v) (hide_vp K E (shape s) p) no_vp) s.machine.vps
          (λ v p. branch (is_processor s v) (hide_vp K (λ l. true) (shape s)) (hide_vp K E (shape s)) p no_vp (vp-again E (shape s) p)) i;
    };
    words = map_at-absorb (λ p x. cond (H p) 0 x) (λ p x. cond (H p) 0 x) s.words (λ p x. cond-else (H p) 0 x) i;
  }

-- A register of a level that was enabled on no processor and is enabled on this one: it is not hidden.
seen : (K : ℕ) (E : ℕ → Bool) (H : ℕ → Bool) (s : State) (v l r : ℕ) → is_private (shape s) r ≡ true → E l ≡ false → enabled_on s v l ≡ true →
    private_of (shape (hide K E H s)) (vp (hide K E H s) v) l r ≡ private_of (shape s) (vp s v) l r
unfolding enabled_on hides
seen K E H s v l r q n o = rw (shape_same, vp-hide) (private-seen K E (shape s) (vp s v) l r (simp (n, o, and-false)) q)

kept : (K : ℕ) (s a : State) → Moved K s a → Kept K s a
unfolding private_of
kept K s a m = record { registers = λ v l r q h. ap (λ rs. number_at 13 rs r) ((m.contexts v l).registers h); pages = m.words }

-- What holds along every run.
pub run-keeps : RunKeeps
unfolding final
run-keeps s [] w = w
run-keeps s (e ∷ es) w = run-keeps (step s e).next es (step_keeps s e w)

pub guards : Guarded
unfolding final quiet
guards K s [] k q v l up on = refl
guards K s (e ∷ es) k q v l up on =
    let m = step-moved K k s e (and_left (quiet_maker K s (maker e)) (quiet K (step s e).next es) q) in
    guards K (step s e).next es k (and_right (quiet_maker K s (maker e)) (quiet K (step s e).next es) q) v l up (anywhere-kept K s (step s e).next m l on) ∙ (m.contexts v l).still up on

pub isolation : Isolation
isolation K s t es k ws wt plain c =
    let E = enabled_anywhere s in
    let H = closed K s in
    let on-is : (l : ℕ) → enabled_anywhere s l ≡ enabled_anywhere t l = λ l. sym (anywhere-hide K every_level H s l) ∙ ap (λ q. enabled_anywhere q l) plain ∙ anywhere-hide K every_level H t l in
    let e : hide K E H s ≡ hide K E H t = hide-start K E H s (λ l. refl) ∙ plain ∙ sym (hide-start K E H t on-is) in
    let cs = quiet-hide K k E H s (λ l. refl) (λ p. refl) es s (same-moved K s) (well-moded s ws) c in
    let a = follows K k E H s (λ l. refl) (λ p. refl) es s (same-moved K s) (well-moded s ws) cs in
    let H-is : (p : ℕ) → closed K s p ≡ closed K t p = λ p. sym (closed_same K E H s p) ∙ ap (λ q. closed K q p) e ∙ closed_same K E H t p in
    let b = follows K k E H t on-is H-is es t (same-moved K t) (well-moded t wt) (rw e at cs) in
    let al : hide K E H (final s es) ≡ hide K E H (final t es) = sym a.end ∙ ap (λ q. final q es) e ∙ b.end in
    record {
      same = sym a.same ∙ ap (λ q. answers q es) e ∙ b.same;
      alike = sym (hide-again K E H (final s es)) ∙ ap (hide K every_level H) al ∙ hide-again K E H (final t es);
      first = λ v l r q n o.
          let ot : enabled_on (final t es) v l ≡ true = sym (enabled_on-hide K E H (final t es) v l) ∙ sym (ap (λ q. enabled_on q v l) al) ∙ enabled_on-hide K E H (final s es) v l ∙ o in
          sym (seen K E H (final s es) v l r (rw (ap (λ f. f.1) a.moved.frame-kept) q) n o) ∙ ap (λ q. private_of (shape q) (vp q v) l r) al ∙ seen K E H (final t es) v l r
          (rw (ap (λ f. f.1) b.moved.frame-kept, sym (shape_same K E H t), sym e, shape_same K E H s) q) n ot;
      kept = kept K s (final s es) a.moved;
      kept' = kept K t (final t es) b.moved;
    }
