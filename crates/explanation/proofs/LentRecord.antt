-- The record of a processor of the lent state, whether the processor is there or not. Assumes nothing.
use mathlib.Core.Path.{◌≡◌, refl, sym, ap}
use mathlib.Core.Bool.{true, false}
use mathlib.Core.List.{List, []}
use Prim.Native.Nat.{ℕ, ◌<◌}
use lib.Dec.{ltb}
use lib.ListN.{get_or, replicate}
use borrow.Author.Tests.{ltb-true}
use Rattle.model.proofs.Bools.{and_right}
use Rattle.model.proofs.Four.{four-at}
use Rattle.model.specs.declared.machine.Setup.{Setup}
use Rattle.model.specs.declared.machine.VirtualProcessor.{VirtualProcessor}
use Rattle.model.specs.State.{State, no_vp, past_vp, processors, shape, pages, partition, is_index, is_processor, vp, active_of, active, host_mask_of}
use Rattle.partition.specs.PartitionView.{partition_of}
use Rattle.processor.specs.Record.{record_words, row_of, context_of, context_in, vp_of}
use Rattle.promise.specs.Promise.{Acts}
use Rattle.state.specs.Lent.{machine_of, lent}

pub index-low : (n v : ℕ) → is_index n v ≡ true → v < 4
index-low n v h = ltb-true v 4 (and_right (ltb v n) (ltb v 4) h)

-- A record of words that are all 0 is the empty one.
empty-record : vp_of (replicate record_words 0) ≡ no_vp
unfolding vp_of context_in context_of row_of
empty-record = refl

module _ (setup : Setup) (levels masks : List ℕ) (rows : List (List ℕ)) (words : List ℕ) where
  abbrev s : State
  s = lent setup levels masks rows words

  pub acts : (v : ℕ) (p : VirtualProcessor) → vp s v ≡ p → Acts setup.shape setup.pages (partition_of levels masks) (active_of p) s v
  unfolding shape pages partition active machine_of
  acts v p holds = record { shaped = refl; paged = refl; keeps = refl; actor = ap active_of holds }

  pub hosted : (page : ℕ) → host_mask_of s page ≡ setup.host_mask
  unfolding host_mask_of machine_of
  hosted page = refl

  pub there : (v : ℕ) → is_index setup.processors v ≡ true → vp s v ≡ vp_of (get_or rows v [])
  unfolding vp is_processor processors machine_of
  there v h = rw h (four-at (λ i. vp_of (get_or rows i [])) past_vp v (index-low setup.processors v h))

  pub missing : (v : ℕ) → is_index setup.processors v ≡ false → vp s v ≡ vp_of (replicate record_words 0)
  unfolding vp is_processor processors machine_of
  missing v h = rw h (sym empty-record)
