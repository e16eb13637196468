-- `lockstep::open_first` meets its contract: what the first line says, zeros and the fresh parts are stored. Assumes nothing.
use mathlib.Core.Path.{sym}
use Prim.Native.Nat.{ℕ}
use native.Mathlib.Omega.{arith}
use lib.ListN.{replicate}
use lib.Seq.{length-take-le}
use Rattle.model.proofs.FreshFormed.{few-pages}
use Rattle.lockstep.proofs.OpenedMachine.{machine-opened}
use Rattle.lockstep.proofs.open_first.Goals as goal

pub slice_bounds-zeros-end : goal.slice_bounds-zeros-end
slice_bounds-zeros-end c = few-pages _ c.requires.1

pub slice_bounds-store_words-end : goal.slice_bounds-store_words-end
slice_bounds-store_words-end c = sym (length-take-le _ (replicate 64 0) (few-pages _ c.requires.1))

pub store_words-requires : goal.store_words-requires
store_words-requires c =
    let few = few-pages c.args.first c.requires.1 in
    let size = length-take-le {A = ℕ} c.args.first.pages (replicate 64 0) few in
    omega arith

pub returns : goal.returns
returns c =
    machine-opened c.args.first c.requires.1 c.args.machine.now c.requires.0 c.fresh_levels.result
    c.fresh_masks.result c.fresh_record.result c.store_parts.ensures.sizes c.fresh_levels.ensures
    c.fresh_masks.ensures c.fresh_record.ensures _
    (rw (c.store_words.ensures, c.store_setup.ensures) at c.store_parts.ensures.stored)
