-- An input that is read and fed chunk by chunk, and what is written of it. Assumes nothing.
use Rattle.std.proofs.Common.{◌≡◌, ℕ, ◌+◌, ◌<◌, ◌≤◌, true, false, List, [], ◌++◌, None, Some, IfSome, length, take, sym, subst, ap, ◌∙◌, refl, append-nil, arith, length-append}
use Rattle.std.specs.Prelude.{Option}
use Rattle.std.proofs.KnownBytes.{Appends-nil, Appends-trans, Consumes-nil, Consumes-trans}
use Rattle.std.specs.Io.KnownBytes.{Appends, Consumes, IsAtEnd}
use Rattle.session.proofs.Callers.{reached-session, reached-start}
use Rattle.session.specs.Session.{Ended, Progress, consumed, first, is_stopped, later, progress_of, stopped}
use Rattle.session.specs.declared.Session.{Session}
use Rattle.shell.specs.Cutting.{consumed-stopped, progress-joins}
use Rattle.shell.specs.Turns.{ReadWhileOpen, whole}

-- So much of an input was read and fed, at least a byte a turn; what is told of it was written, and the session has come so far.
pub record Ran (told : Progress → List ℕ → List ℕ) (p q : Progress) (had has before then : Option (List ℕ)) (turns : ℕ) : Type 0 where
  pub input : List ℕ
  pub progress : q ≡ (consumed p input).progress
  pub taken : Consumes had has input
  pub written : Appends before then (told p input)
  pub counted : turns ≤ length input

-- The same of what was read, the last read apart: the session had not stopped before it, or nothing was read.
pub record Reads (p q : Progress) (had has : Option (List ℕ)) : Type 0 where
  pub reads : ReadWhileOpen p had has
  pub progress : q ≡ (consumed p (reads.before ++ reads.last)).progress

pub reads-start : (s : Session) (had : Option (List ℕ)) → Reads (progress_of s) (progress_of s) had had
reads-start s had = record {
  reads = record { before = []; last = []; taken = Consumes-nil had; once = omega arith; open_before = λ stops. refl };
  progress = reached-session s (reached-start (progress_of s));
}

-- A session that has not stopped reads a chunk and uses it.
pub reads-turned : (p q r : Progress) (had has has' : Option (List ℕ)) (chunk : List ℕ) → Reads p q had has → is_stopped q ≡ false → length chunk ≤ 65536
    → Consumes has has' chunk → r ≡ (consumed q chunk).progress → Reads p r had has'
reads-turned p q r had has has' chunk w open_still once takes reaches =
    let input = w.reads.before ++ w.reads.last in
    record {
      reads = record {
        before = input;
        last = chunk;
        taken = Consumes-trans had has has' input chunk w.reads.taken takes;
        once = once;
        open_before = λ stops. absurd (cc (ap is_stopped w.progress, open_still, stops));
      };
      progress = reaches ∙ ap (λ (x : Progress). (consumed x chunk).progress) w.progress ∙ sym (progress-joins p input chunk);
    }

-- A read that gives nothing changes nothing.
pub reads-nothing : {p q : Progress} {had has has' : Option (List ℕ)} (n : ℕ) (chunk : List ℕ) → Reads p q had has → n ≡ 0 → Consumes has has' (take n chunk)
    → ReadWhileOpen p had has'
reads-nothing {p} {q} {had} {has} {has'} n chunk w empty takes =
    let input = w.reads.before ++ w.reads.last in
    let none : take n chunk ≡ [] = ap (λ (m : ℕ). take m chunk) empty in
    let all : Consumes had has' (input ++ []) = Consumes-trans had has has' input [] w.reads.taken (subst (Consumes has has') none takes) in
    record {
      before = w.reads.before;
      last = w.reads.last;
      taken = subst (λ (l : List ℕ). Consumes had has' l) (append-nil input) all;
      once = w.reads.once;
      open_before = w.reads.open_before;
    }

-- What is told of nothing is nothing, of two pieces what is told of both, and after a refused first line nothing more.
module _ (told : Progress → List ℕ → List ℕ) (ending : Progress → List ℕ) (nothing : (p : Progress) → told p [] ≡ [])
    (joins : (p : Progress) (one two : List ℕ) → told p (one ++ two) ≡ told p one ++ told (consumed p one).progress two)
    (silent : (chunk : List ℕ) → told stopped chunk ≡ []) where
  pub ran-start : (s : Session) (had before : Option (List ℕ)) → Ran told (progress_of s) (progress_of s) had had before before 0
  ran-start s had before = record {
    input = [];
    progress = reached-session s (reached-start (progress_of s));
    taken = Consumes-nil had;
    written = subst (λ (l : List ℕ). Appends before before l) (sym (nothing (progress_of s))) (Appends-nil before);
    counted = omega arith;
  }

  -- A chunk was read, and all of it was used.
  pub ran-turned : (p q : Progress) (had has before then : Option (List ℕ)) (turns : ℕ) (r : Progress) (chunk : List ℕ) (has' then' : Option (List ℕ))
      → Ran told p q had has before then turns → 0 < length chunk → Consumes has has' chunk → r ≡ (consumed q chunk).progress → Appends then then' (told q chunk)
      → Ran told p r had has' before then' (turns + 1)
  ran-turned p q had has before then turns r chunk has' then' w some takes reaches writes =
      let text : told p w.input ++ told q chunk ≡ told p (w.input ++ chunk) =
      ap (λ (x : Progress). told p w.input ++ told x chunk) w.progress ∙ sym (joins p w.input chunk) in
      record {
        input = w.input ++ chunk;
        progress = reaches ∙ ap (λ (x : Progress). (consumed x chunk).progress) w.progress ∙ sym (progress-joins p w.input chunk);
        taken = Consumes-trans had has has' w.input chunk w.taken takes;
        written = subst (λ (l : List ℕ). Appends before then' l) text (Appends-trans before then then' (told p w.input) (told q chunk) w.written writes);
        counted = omega (arith, w.counted, length-append w.input chunk);
      }

  -- All of the input is used, and what is written at its end was written.
  closed : (p q : Progress) (turns : ℕ) (had has before then then' : Option (List ℕ)) → Ran told p q had has before then turns → IsAtEnd has → Appends then then' (ending q)
      → IfSome had (λ script. Appends before then' (whole told ending p script))
  closed p q turns None has before then then' w end writes = tt
  closed p q turns (Some xs) None before then then' w end writes = absurd w.taken
  closed p q turns (Some xs) (Some ys) before then then' w end writes =
      let all : w.input ≡ xs = sym (w.taken ∙ ap (λ (l : List ℕ). w.input ++ l) end ∙ append-nil w.input) in
      let text : told p w.input ++ ending q ≡ whole told ending p xs =
      ap (λ (x : Progress). told p w.input ++ ending x) w.progress ∙ ap (λ (l : List ℕ). whole told ending p l) all in
      subst (Appends before then') text (Appends-trans before then then' (told p w.input) (ending q) w.written writes)

  -- A read came to the end of the input.
  pub ran-ended : (p q : Progress) (turns : ℕ) (had has has' before then then' : Option (List ℕ)) (n : ℕ) (chunk : List ℕ) → Ran told p q had has before then turns
      → n ≡ 0 → 0 < length chunk → Consumes has has' (take n chunk) × (n ≡ 0 → 0 < length chunk → IsAtEnd has') → Appends then then' (ending q)
      → IfSome had (λ script. Appends before then' (whole told ending p script))
  ran-ended p q turns had has has' before then then' n chunk w empty room taken writes =
      let none : take n chunk ≡ [] = ap (λ (m : ℕ). take m chunk) empty in
      let input : w.input ++ [] ≡ w.input = append-nil w.input in
      let takes : Consumes had has' w.input = subst (λ (l : List ℕ). Consumes had has' l) input (Consumes-trans had has has' w.input [] w.taken (subst (Consumes has has') none taken.0)) in
      closed p q turns had has' before then then'
      (record { input = w.input; progress = w.progress; taken = takes; written = w.written; counted = w.counted })
      (taken.1 empty room) writes

  -- The session has stopped: of what follows nothing is written.
  is-stopped : (q : Progress) → is_stopped q ≡ true → q ≡ stopped
  is-stopped (first line) e = cc
  is-stopped (later number s line) e = cc
  is-stopped stopped e = refl

  pub ran-stopped : (p q : Progress) (turns : ℕ) (had has before then then' : Option (List ℕ)) → Ran told p q had has before then turns → is_stopped q ≡ true → Appends then then' (ending q)
      → IfSome had (λ script. Appends before then' (whole told ending p script))
  ran-stopped p q turns None has before then then' w stops writes = tt
  ran-stopped p q turns (Some xs) None before then then' w stops writes = absurd w.taken
  ran-stopped p q turns (Some xs) (Some ys) before then then' w stops writes =
      let here : q ≡ stopped = is-stopped q stops in
      let at : (consumed p w.input).progress ≡ stopped = sym w.progress ∙ here in
      let rest : told p xs ≡ told p w.input =
      ap (told p) w.taken
      ∙ joins p w.input ys
      ∙ ap (λ (x : Progress). told p w.input ++ told x ys) at
      ∙ ap (λ (l : List ℕ). told p w.input ++ l) (silent ys)
      ∙ append-nil (told p w.input) in
      let stays : (consumed p xs).progress ≡ q =
      ap (λ (l : List ℕ). (consumed p l).progress) w.taken
      ∙ progress-joins p w.input ys
      ∙ ap (λ (x : Progress). (consumed x ys).progress) at
      ∙ ap (λ (e : Ended). e.progress) (consumed-stopped ys)
      ∙ sym here in
      let text : told p w.input ++ ending q ≡ whole told ending p xs =
      ap (λ (l : List ℕ). l ++ ending q) (sym rest) ∙ ap (λ (x : Progress). told p xs ++ ending x) (sym stays) in
      subst (Appends before then') text (Appends-trans before then then' (told p w.input) (ending q) w.written writes)

-- What holds of every input holds of a short one.
pub if-short : (had before then : Option (List ℕ)) (text : List ℕ → List ℕ) (limit : ℕ) → IfSome had (λ script. Appends before then (text script))
    → IfSome had (λ script. length script < limit → Appends before then (text script))
if-short None before then text limit h = tt
if-short (Some xs) before then text limit h = λ short. h

-- The turns have run out: the input has at least as many bytes.
pub ran-out : {told : Progress → List ℕ → List ℕ} {p q : Progress} {turns : ℕ} (had has before then then' : Option (List ℕ)) (text : List ℕ → List ℕ) (limit : ℕ)
    → Ran told p q had has before then turns → limit ≤ turns → IfSome had (λ script. length script < limit → Appends before then' (text script))
ran-out None has before then then' text limit w out = tt
ran-out (Some xs) None before then then' text limit w out = absurd w.taken
ran-out (Some xs) (Some ys) before then then' text limit w out =
    λ short. absurd (omega (arith, short, out, w.counted, ap length w.taken, length-append w.input ys))
