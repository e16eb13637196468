-- The state whose parts code lends and changes in place (01, "The bench model"): what stays the same in a run, the words of the levels
-- and the masks of the pages, the words of four processors, and the words of the pages. Assumes nothing.
use Rattle.std.specs.Prelude.{List, [], ◌∷◌, ℕ, eqb, get_or}
use Rattle.model.specs.declared.machine.FirstLine.{FirstLine}
use Rattle.model.specs.declared.machine.Machine.{Machine}
use Rattle.model.specs.declared.machine.Setup.{Setup}
use Rattle.model.specs.State.{State}
use Rattle.partition.specs.PartitionView.{partition_of}
use Rattle.processor.specs.Record.{vp_of}
use Rattle.state.specs.declared.parts.Parts.{Parts}

-- The machine of its parts.
unfoldable pub machine_of : Setup → List ℕ → List ℕ → List (List ℕ) → Machine
machine_of setup levels masks vps = record {
  processors = setup.processors;
  pages = setup.pages;
  host_mask = setup.host_mask;
  shape = setup.shape;
  partition = partition_of levels masks;
  vps = vp_of (get_or vps 0 []) ∷ vp_of (get_or vps 1 []) ∷ vp_of (get_or vps 2 []) ∷ vp_of (get_or vps 3 []) ∷ [];
}

-- The state that the parts make up. Different parts make different states (`Lent-one` of proofs/OneState.antt).
abbrev pub lent : Setup → List ℕ → List ℕ → List (List ℕ) → List ℕ → State
lent setup levels masks vps words = record { machine = machine_of setup levels masks vps; words = words }

-- The state of a machine whose levels, masks and processors are held as one.
abbrev pub state_of : Setup → Parts → List ℕ → State
state_of setup parts words = lent setup parts.levels parts.masks parts.vps words

-- What a first line says that stays the same in a run.
abbrev pub setup_of : FirstLine → Setup
setup_of f = record {
  processors = f.processors;
  pages = f.pages;
  host_mask = f.host_mask;
  shape = record { max_level = f.max_level; dr6_shared = eqb f.dr6_shared 1; smep = eqb f.smep 1 };
}
