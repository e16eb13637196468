-- `script::search::bytes_before` meets its contract: the byte stands at the first of the four places where it is found, or past them.
-- Assumes nothing.
use Prim.Native.Nat.{◌+◌}
use mathlib.Core.Path.{◌≡◌, sym, ◌∙◌}
use native.Mathlib.Nat.{add-zero}
use native.Mathlib.Omega.{arith}
use Rattle.script.specs.Search.{byte_at}
use Rattle.script.proofs.FieldPlaces.{at_byte, past-byte, past_next}
use Rattle.script.proofs.search.bytes_before.Goals as goal

pub returns-then-bytes-start : goal.returns-then-bytes-start
returns-then-bytes-start c = let a = c.args in at_byte a.byte a.bytes.now a.start (omega arith) c.if-bytes-start.true ∙ sym (add-zero a.start)

pub returns-then-bytes-start-2 : goal.returns-then-bytes-start-2
returns-then-bytes-start-2 c =
    let one-passed : let a = c.args in byte_at a.byte a.bytes.now a.start ≡ byte_at a.byte a.bytes.now (a.start + 1) = let a = c.args in past-byte a.byte a.bytes.now a.start (omega arith) c.if-bytes-start.false in
    let a = c.args in one-passed ∙ at_byte a.byte a.bytes.now (a.start + 1) (omega arith) c.if-bytes-start-2.true

pub returns-then-bytes-start-3 : goal.returns-then-bytes-start-3
returns-then-bytes-start-3 c =
    let one-passed : let a = c.args in byte_at a.byte a.bytes.now a.start ≡ byte_at a.byte a.bytes.now (a.start + 1) = let a = c.args in past-byte a.byte a.bytes.now a.start (omega arith) c.if-bytes-start.false in
    let two-passed : let a = c.args in byte_at a.byte a.bytes.now a.start ≡ byte_at a.byte a.bytes.now (a.start + 2) = let a = c.args in
    one-passed ∙ past_next a.byte a.bytes.now (a.start + 1) (a.start + 2) (omega arith) (omega arith) c.if-bytes-start-2.false in
    let a = c.args in two-passed ∙ at_byte a.byte a.bytes.now (a.start + 2) (omega arith) c.if-bytes-start-3.true

pub returns-then-bytes-start-4 : goal.returns-then-bytes-start-4
returns-then-bytes-start-4 c =
    let one-passed : let a = c.args in byte_at a.byte a.bytes.now a.start ≡ byte_at a.byte a.bytes.now (a.start + 1) = let a = c.args in past-byte a.byte a.bytes.now a.start (omega arith) c.if-bytes-start.false in
    let two-passed : let a = c.args in byte_at a.byte a.bytes.now a.start ≡ byte_at a.byte a.bytes.now (a.start + 2) = let a = c.args in
    one-passed ∙ past_next a.byte a.bytes.now (a.start + 1) (a.start + 2) (omega arith) (omega arith) c.if-bytes-start-2.false in
    let three-passed : let a = c.args in byte_at a.byte a.bytes.now a.start ≡ byte_at a.byte a.bytes.now (a.start + 3) = let a = c.args in
    two-passed ∙ past_next a.byte a.bytes.now (a.start + 2) (a.start + 3) (omega arith) (omega arith) c.if-bytes-start-3.false in
    let a = c.args in three-passed ∙ at_byte a.byte a.bytes.now (a.start + 3) (omega arith) c.if-bytes-start-4.true

pub returns : goal.returns
returns c =
    let one-passed : let a = c.args in byte_at a.byte a.bytes.now a.start ≡ byte_at a.byte a.bytes.now (a.start + 1) = let a = c.args in past-byte a.byte a.bytes.now a.start (omega arith) c.if-bytes-start.false in
    let two-passed : let a = c.args in byte_at a.byte a.bytes.now a.start ≡ byte_at a.byte a.bytes.now (a.start + 2) = let a = c.args in
    one-passed ∙ past_next a.byte a.bytes.now (a.start + 1) (a.start + 2) (omega arith) (omega arith) c.if-bytes-start-2.false in
    let three-passed : let a = c.args in byte_at a.byte a.bytes.now a.start ≡ byte_at a.byte a.bytes.now (a.start + 3) = let a = c.args in
    two-passed ∙ past_next a.byte a.bytes.now (a.start + 2) (a.start + 3) (omega arith) (omega arith) c.if-bytes-start-3.false in
    let a = c.args in
    three-passed ∙ past_next a.byte a.bytes.now (a.start + 3) (a.start + 4) (omega arith) (omega arith) c.if-bytes-start-4.false
