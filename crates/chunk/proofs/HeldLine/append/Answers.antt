-- `HeldLine::append` meets its contract: as many bytes are copied as there is room for. Assumes nothing.
use Rattle.chunk.proofs.ChunkLines.{appended}
use Rattle.chunk.proofs.HeldLine.append.Goals as goal

pub returns : goal.returns
returns c =
    let a = c.args in
    let line = a.self.now in
    appended line.buffer a.more.now c.copy_from_slice.new.self line.length c.min-at.result c.min-count.result _ c.told-self c.min-at.ensures c.min-count.ensures c.copy_from_slice.ensures.after
