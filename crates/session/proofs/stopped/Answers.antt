-- `session::stopped` meets its contract: the phase says it. Assumes nothing.
use Rattle.std.proofs.Common.{◌∙◌}
use Rattle.session.specs.Session.{state_in}
use Rattle.chunk.specs.Chunk.{held}
use Rattle.session.proofs.Ending.{phase-stopped}
use Rattle.session.proofs.stopped.Goals as goal

pub returns : goal.returns
returns c =
    let s = c.args.session in
    c.has_stopped.ensures ∙ phase-stopped s.phase s.number (state_in s) (held s.line.buffer s.line.length)
