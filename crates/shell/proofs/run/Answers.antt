-- Where nothing failed, all is written that is to be written of the input.
use Rattle.std.proofs.Common.{rules, refl, sym, ◌∙◌, ◌≡◌, ℕ, ◌-◌, ◌^◌, ◌<◌, List, length, take, ap, arith}
use Rattle.std.proofs.lemmas.Result.{on_ok_weaker}
use Rattle.session.specs.Session.{is_stopped, progress_of}
use Rattle.shell.proofs.Running.{if-short, ran-ended, ran-out, ran-start, ran-stopped, ran-turned, reads-nothing, reads-start, reads-turned}
use Rattle.shell.specs.Turns.{whole}
use Rattle.shell.proofs.run.Goals as goal
use Rattle.shell.proofs.run.Goals.{else-loop-turn-test, then-loop-turn-test+then-stopped, then-loop-turn-test+else-stopped+in_ok-n+then-n-eq0}

pub loop-turn-init : goal.loop-turn-init
loop-turn-init g c =
    let t = g.met.T.Transcript in
    (ran-start g.T.Transcript.told g.T.Transcript.ending t.nothing t.joins t.silent c.args.start _ _, refl, search rules, λ stops. (refl, refl), reads-start c.args.start _)

pub loop-turn-preserved : goal.loop-turn-preserved
loop-turn-preserved g c =
    let at = c.loop-turn in
    let t = g.met.T.Transcript in
    let n = c.in_ok-n.n in
    let script : List ℕ = take n c.read.new.chunk in
    let e = c.in_ok-next.ensures in
    let r = c.in_ok-n.ensures in
    let size : n ≡ length script = r.within.1 in
    let some : 0 < length script = omega (arith, c.if-n-eq0.false, size) in (
      ran-turned g.T.Transcript.told g.T.Transcript.ending t.nothing t.joins t.silent
          _ _ _ _ _ _ _ _ script _ _ at.invariant.0 some r.taken.0 e.used.progress e.written,
      search rules,
      omega (arith, at.invariant.2, c.read.auto.chunk),
      λ stops. absurd (cc (ap is_stopped (at.invariant.3 stops).0, stops, c.stopped.ensures, c.if-stopped.false)),
      reads-turned _ _ _ _ _ _ script at.invariant.4 (sym c.stopped.ensures ∙ c.if-stopped.false) (omega (arith, size, r.within.0, at.invariant.2, c.read.auto.chunk)) r.taken.0 e.used.progress,
    )

pub returns-clause-listed : goal.returns-clause-listed
returns-clause-listed g c =
    let at = c.loop-turn in
    let t = g.met.T.Transcript in
    let told = g.T.Transcript.told in
    let ending = g.T.Transcript.ending in
    let text = λ (script : List ℕ). whole told ending (progress_of c.args.start) script in
    on_ok_weaker c.close.result
    (λ writes.
    elim c.loop-turn-test.branch [
      | else-loop-turn-test w ↦ ran-out _ _ _ _ _ text (2 ^ 64 - 1) at.invariant.0 (omega arith)
      | then-loop-turn-test+then-stopped w ↦
          if-short _ _ _ text (2 ^ 64 - 1)
          (ran-stopped told ending t.nothing t.joins t.silent _ _ _ _ _ _ _ _ at.invariant.0 (cc (w.stopped.ensures, w.if-stopped.true)) writes)
      | then-loop-turn-test+else-stopped+in_ok-n+then-n-eq0 w ↦
          if-short _ _ _ text (2 ^ 64 - 1)
          (ran-ended told ending t.nothing t.joins t.silent _ _ _ _ _ _ _ _ _ w.in_ok-n.n w.read.new.chunk at.invariant.0 (omega arith) (omega (arith, at.invariant.2, w.read.auto.chunk))
          w.in_ok-n.ensures.taken writes)
    ])
    c.close.ensures.written

pub returns-clause-once : goal.returns-clause-once
returns-clause-once g c =
    let at = c.loop-turn in
    on_ok_weaker c.close.result
    (λ writes.
    elim c.loop-turn-test.branch [
      | else-loop-turn-test w ↦ rw w.input-is at.invariant.4.reads
      | then-loop-turn-test+then-stopped w ↦ rw w.input-is at.invariant.4.reads
      | then-loop-turn-test+else-stopped+in_ok-n+then-n-eq0 w ↦
          rw w.input-is (reads-nothing w.in_ok-n.n w.read.new.chunk at.invariant.4 (omega arith) w.in_ok-n.ensures.taken.0)
    ])
    c.close.ensures.written
