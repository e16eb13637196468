-- `record_text::write_closed` meets its contract: the first numbers are written, each with its tab. Assumes nothing.
use lib.ListN.{take}
use Rattle.records.specs.RecordTexts.{closed}
use Rattle.script.proofs.Cells.{Written}
use Rattle.transfer.proofs.record_text.write_closed.Given as goal

abbrev pub invariant-loop-number : goal.invariant-loop-number
invariant-loop-number l = Written l.initial.out l.at (closed (take l.number-index l.numbers)) l.end l.out
