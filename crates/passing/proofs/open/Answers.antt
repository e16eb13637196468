-- `passing::open` meets its contract: the session and the bytes used are those of what was read. Assumes nothing.
use mathlib.Core.Path.{refl}
use native.Mathlib.Omega.{arith}
use lib.ListN.{length}
use Rattle.passing.proofs.ResumedSessions.{few-pages, opened-done, opened-refused, used-within}
use Rattle.passing.proofs.SavedSessions.{line-zero-within}
use Rattle.passing.proofs.open.Goals as goal

pub returns-in-None : goal.returns-in-None
returns-in-None c =
    let a = c.args in
    let o = opened-refused c.read.result a.input.now c.read.ensures.passed c.in-None.is in
    let wrote = c.write_line_zero-in-None.ensures in
    let bounds = line-zero-within {used = length a.input.now} {input = a.input.now} a.out.now 1 (omega arith) (omega (arith, c.write_line_zero-arg-in-None-1.given)) wrote.value wrote.out_after in
    rw o record { session = c.refused.ensures; used = refl; wrote = wrote.value; out = wrote.out_after; bounds = bounds }

pub session_of-requires : goal.session_of-requires
session_of-requires c = few-pages c.read.result c.args.input.now c.read.ensures.passed _ c.in-Some.is

pub returns-in-Some : goal.returns-in-Some
returns-in-Some c =
    let a = c.args in
    let o = opened-done c.read.result a.input.now c.read.ensures.passed _ c.in-Some.is c.read.ensures.used in
    let wrote = c.write_line_zero.ensures in
    let within = used-within c.read.result a.input.now c.read.ensures.passed _ c.in-Some.is c.read.ensures.used in
    let bounds = line-zero-within a.out.now 0 within (omega (arith, c.write_line_zero-arg-1.given)) wrote.value wrote.out_after in
    rw o record { session = c.session_of.ensures; used = refl; wrote = wrote.value; out = wrote.out_after; bounds = bounds }
