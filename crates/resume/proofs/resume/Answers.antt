-- The answer to the records and the listing of the script that follows them are what resuming writes of the whole input.
use Rattle.std.proofs.Common.{◌≡◌, ◌∙◌, ◌<◌, ◌≤◌, ◌-◌, ◌^◌, ℕ, List, ◌++◌, length, take, drop, sym, subst, ap, append_assoc, append-nil, arith, length-append, None, Some, IfSome}
use Rattle.std.specs.Prelude.{Option}
use Rattle.std.proofs.KnownBytes.{Appends-trans}
use Rattle.std.proofs.lemmas.Result.{on_ok_weaker}
use borrow.Rule.Slice.PartMut.{mid_of}
use Rattle.std.specs.Io.KnownBytes.{Appends, Consumes, IsAtEnd}
use Rattle.passing.proofs.ResumedSessions.{resumed-session}
use Rattle.passing.specs.Passing.{resumed}
use Rattle.passing.specs.PassingSessions.{opened, resumed_text}
use Rattle.session.proofs.Callers.{part-whole}
use Rattle.session.proofs.WholeListing.{finished-after}
use Rattle.session.specs.Session.{Progress, consumed, finished, last_text, progress_of}
use lib.Seq.{sets}
use Rattle.shell.proofs.Using.{handed}
use Rattle.shell.specs.Cutting.{cut-in-two}
use Rattle.resume.proofs.resume.Goals as goal

-- The records of the input's beginning, the script that follows them there, and what is left.
abbrev script_in : List ℕ → List ℕ
script_in bytes = drop (opened bytes).used bytes

-- What was written of the beginning, and then of what is left.
cut : (bytes more : List ℕ) (q : Progress) → q ≡ (consumed (opened bytes).progress (script_in bytes)).progress
    → ((opened bytes).text ++ (consumed (opened bytes).progress (script_in bytes)).text) ++ finished (consumed q more) ≡ resumed_text bytes more
cut bytes more q e =
    let f = opened bytes in
    let d = consumed f.progress (script_in bytes) in
    append_assoc f.text d.text (finished (consumed q more))
    ∙ ap (λ (l : List ℕ). f.text ++ l)
    (ap (λ (x : Progress). d.text ++ finished (consumed x more)) e
    ∙ sym (finished-after d.text (consumed d.progress more))
    ∙ ap finished (sym (cut-in-two f.progress (script_in bytes) more)))

-- The input was read whole.
short : (had has before then : Option (List ℕ)) (bytes : List ℕ) (q : Progress) → Consumes had has bytes → IsAtEnd has
    → q ≡ (consumed (opened bytes).progress (script_in bytes)).progress
    → Appends before then (((opened bytes).text ++ (consumed (opened bytes).progress (script_in bytes)).text) ++ last_text q)
    → IfSome had (λ input. length input < 2 ^ 64 - 1 → Appends before then (resumed input))
short None has before then bytes q takes end e writes = tt
short (Some xs) None before then bytes q takes end e writes = absurd takes
short (Some xs) (Some ys) before then bytes q takes end e writes =
    λ few.
    let f = opened bytes in
    let d = consumed f.progress (script_in bytes) in
    let input : bytes ≡ xs = sym (takes ∙ ap (λ (l : List ℕ). bytes ++ l) end ∙ append-nil bytes) in
    let text : (f.text ++ d.text) ++ last_text q ≡ resumed xs =
    append_assoc f.text d.text (last_text q)
    ∙ ap (λ (x : Progress). f.text ++ (d.text ++ last_text x)) e
    ∙ ap (λ (l : List ℕ). f.text ++ finished (consumed f.progress l)) (sym (append-nil (script_in bytes)))
    ∙ resumed-session.whole bytes
    ∙ ap resumed input in
    subst (Appends before then) text writes

-- The records and as much as has room of what follows them, and then the rest.
long : (had has before then then' : Option (List ℕ)) (bytes : List ℕ) (q : Progress) → Consumes had has bytes → 65536 ≤ length bytes
    → q ≡ (consumed (opened bytes).progress (script_in bytes)).progress
    → Appends before then ((opened bytes).text ++ (consumed (opened bytes).progress (script_in bytes)).text)
    → IfSome has (λ script. length script < 2 ^ 64 - 1 → Appends then then' (finished (consumed q script)))
    → IfSome had (λ input. length input < 2 ^ 64 - 1 → Appends before then' (resumed input))
long None has before then then' bytes q takes full e first rest = tt
long (Some xs) None before then then' bytes q takes full e first rest = absurd takes
long (Some xs) (Some ys) before then then' bytes q takes full e first rest =
    λ few.
    let fewer : length ys < 2 ^ 64 - 1 = omega (arith, few, ap length takes, length-append bytes ys) in
    let f = opened bytes in
    let d = consumed f.progress (script_in bytes) in
    let text : (f.text ++ d.text) ++ finished (consumed q ys) ≡ resumed xs =
    cut bytes ys q e ∙ resumed-session.begun bytes ys full ∙ ap resumed (sym takes) in
    subst (Appends before then') text (Appends-trans before then then' (f.text ++ d.text) (finished (consumed q ys)) first (rest fewer))

-- The answer to the records is what `passing::open` has put at the start of the buffer, and what follows them is fed.
module _ (bytes : List ℕ) (used : ℕ) (p : Progress) (uses : used ≡ (opened bytes).used) (starts : p ≡ (opened bytes).progress) where
  rest : mid_of used (length bytes - used) bytes ≡ script_in bytes
  rest = part-whole bytes used ∙ ap (λ (n : ℕ). drop n bytes) uses

  came : (q : Progress) → q ≡ (consumed p (mid_of used (length bytes - used) bytes)).progress → q ≡ (consumed (opened bytes).progress (script_in bytes)).progress
  came q comes =
      comes
      ∙ ap (λ (x : Progress). (consumed x (mid_of used (length bytes - used) bytes)).progress) starts
      ∙ ap (λ (l : List ℕ). (consumed (opened bytes).progress l).progress) rest

  begun : (before then then' : Option (List ℕ)) (line out : List ℕ) (wrote : ℕ) → wrote ≡ length (opened bytes).text → out ≡ sets line 0 (opened bytes).text → wrote ≤ length out
      → Appends before then (take wrote out) → Appends then then' (consumed p (mid_of used (length bytes - used) bytes)).text
      → Appends before then' ((opened bytes).text ++ (consumed (opened bytes).progress (script_in bytes)).text)
  begun before then then' line out wrote size put within first next =
      let f = opened bytes in
      let answer : take wrote out ≡ f.text = handed line out f.text wrote size put within in
      let text : (consumed p (mid_of used (length bytes - used) bytes)).text ≡ (consumed f.progress (script_in bytes)).text =
      ap (λ (x : Progress). (consumed x (mid_of used (length bytes - used) bytes)).text) starts ∙ ap (λ (l : List ℕ). (consumed f.progress l).text) rest in
      Appends-trans before then then' f.text (consumed f.progress (script_in bytes)).text
      (subst (λ (l : List ℕ). Appends before then l) answer first)
      (subst (λ (l : List ℕ). Appends then then' l) text next)

pub returns-then-n-lt-BUFFER-clause-resumed : goal.returns-then-n-lt-BUFFER-clause-resumed
returns-then-n-lt-BUFFER-clause-resumed g c =
    let bytes : List ℕ = take c.in_ok-n.n c.fill.new.chunk in
    let r = c.in_ok-n.ensures in
    let e = c.open-opened.ensures in
    let n = c.in_ok-next.ensures in
    let p = progress_of c.open-opened.result.session in
    let q = progress_of c.in_ok-next.next in
    let contents = g.W.Write.contents in
    let first = begun bytes c.open-opened.result.used p e.used e.session (contents c.args.output.now) (contents c.write.new.output) (contents c.turn.new.output)
    _ _ c.open-opened.result.wrote e.wrote e.out e.bounds.wrote-within c.in_ok-write.ensures.written n.written in
    on_ok_weaker c.close.result
    (λ writes.
    short (g.R.Read.remaining c.args.input.now) (g.R.Read.remaining c.fill.new.input) (contents c.args.output.now) (contents c.close.new.output) bytes q r.filled.0 (r.filled.1 (omega arith))
    (came bytes c.open-opened.result.used p e.used e.session q n.used.progress)
    (Appends-trans (contents c.args.output.now) (contents c.turn.new.output) (contents c.close.new.output) _ (last_text q) first writes))
    c.close.ensures.written

pub returns-clause-resumed : goal.returns-clause-resumed
returns-clause-resumed g c =
    let bytes : List ℕ = take c.in_ok-n.n c.fill.new.chunk in
    let r = c.in_ok-n.ensures in
    let e = c.open-opened.ensures in
    let n = c.in_ok-next.ensures in
    let p = progress_of c.open-opened.result.session in
    let q = progress_of c.in_ok-next.next in
    let contents = g.W.Write.contents in
    let first = begun bytes c.open-opened.result.used p e.used e.session (contents c.args.output.now) (contents c.write.new.output) (contents c.turn.new.output)
    _ _ c.open-opened.result.wrote e.wrote e.out e.bounds.wrote-within c.in_ok-write.ensures.written n.written in
    on_ok_weaker c.run.result
    (λ rest.
    long (g.R.Read.remaining c.args.input.now) (g.R.Read.remaining c.fill.new.input) (contents c.args.output.now) (contents c.turn.new.output) (contents c.run.new.output) bytes q
    r.filled.0 (omega (arith, r.within.1)) (came bytes c.open-opened.result.used p e.used e.session q n.used.progress) first rest)
    c.run.ensures.listed
