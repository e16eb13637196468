-- `acted` meets its contract: each function says what the rule gives of the parts that it is given. Assumes nothing.
use Rattle.std.proofs.lemmas.List.{set-get_or}
use mathlib.Core.Path.{◌≡◌, refl, sym, ap, ◌∙◌}
use mathlib.Core.Bool.{Bool, true}
use mathlib.Core.List.{List, []}
use Prim.Native.Nat.{ℕ, ◌<◌}
use lib.ListN.{get_or, length, set}
use native.Mathlib.Omega.{arith}
use Rattle.model.specs.declared.answer.Answer.{Answer}
use Rattle.model.specs.declared.event.Action.{Action}
use Rattle.model.specs.declared.machine.Setup.{Setup}
use Rattle.model.specs.declared.quantity.Mode.{Mode}
use Rattle.model.specs.declared.quantity.Processor.{Processor}
use Rattle.model.specs.Events.{locked}
use Rattle.model.specs.State.{State, processors, shape, partition, is_index, is_processor, enabled_anywhere, active_of, active}
use Rattle.model.specs.Step.{acted}
use Rattle.model.specs.Updates.{put_vp, put_partition}
use Rattle.partition.specs.PartitionView.{partition_of}
use Rattle.access_events.specs.Access.{put_access}
use Rattle.processor.specs.Record.{vp_of}
use Rattle.promise.specs.Promise.{outcome_of, Runs, Acts, Elsewhere, Lends}
use Rattle.state.specs.Lent.{machine_of, lent}
use Rattle.step.proofs.LentParts.{index-low, lends, shaped, keeps, there, runs, acts, others, record-left, access-left, partition-left}
use Rattle.step.proofs.MissingProcessor.{no_second}
use Rattle.step.proofs.acted.Goals as goal

-- What the function is given.
record Parts : Type 0 where
  setup : Setup
  vp : Processor
  mode : Mode
  action : Action
  levels : List ℕ
  masks : List ℕ
  words : List ℕ
  rows : List (List ℕ)

-- An arm: the action as its function has it, and what the function ensures, said of the state.
module _ (x : Parts) (here : is_index x.setup.processors x.vp.0 ≡ true) (four : length x.rows ≡ 4) {actor : ℕ}
    (acting : actor ≡ active_of (vp_of (get_or x.rows x.vp.0 []))) (a : Action) (told : x.action ≡ a) where
  abbrev v : ℕ
  v = x.vp.0

  abbrev after : List ℕ → List ℕ → List (List ℕ) → List ℕ → State
  after levels masks vps words = lent x.setup levels masks vps words

  abbrev old : State
  old = after x.levels x.masks x.rows x.words

  abbrev To : Answer → State → Type 0
  To r s = outcome_of r s ≡ acted old v x.mode x.action

  lifted : {r : Answer} {s t : State} → acted old v x.mode a ≡ outcome_of r s → s ≡ t → To r t
  lifted {r} e q = sym (e ∙ ap (outcome_of r) q) ∙ ap (acted old v x.mode) (sym told)

  unchanged : {r : Answer} → acted old v x.mode a ≡ outcome_of r old → To r old
  unchanged e = lifted e refl

  its-there : is_processor old v ≡ true
  its-there = there x.setup x.levels x.masks x.rows x.words v here

  its_shape : shape old ≡ x.setup.shape
  its_shape = shaped x.setup x.levels x.masks x.rows x.words

  its-partition : partition old ≡ partition_of x.levels x.masks
  its-partition = keeps x.setup x.levels x.masks x.rows x.words

  its-words : Lends x.setup.host_mask x.words old
  its-words = lends x.setup x.levels x.masks x.rows x.words

  other-runs : (w : Processor) → is_index x.setup.processors w.0 ≡ true → Runs x.setup.shape (vp_of (get_or x.rows w.0 [])) old w.0
  other-runs w h = runs x.setup x.levels x.masks x.rows x.words w.0 h

  other-enabled : (w : Processor) → is_index x.setup.processors w.0 ≡ true → (t : ℕ) (elsewhere : Bool) → enabled_anywhere old t ≡ elsewhere
      → Elsewhere x.setup.shape (vp_of (get_or x.rows w.0 [])) t elsewhere old
  other-enabled w h = others x.setup x.levels x.masks x.rows x.words w.0 h

  its-runs : Runs x.setup.shape (vp_of (get_or x.rows v [])) old v
  its-runs = other-runs x.vp here

  own-acts : Acts x.setup.shape x.setup.pages (partition_of x.levels x.masks) (active_of (vp_of (get_or x.rows v []))) old v
  own-acts = acts x.setup x.levels x.masks x.rows x.words v here _ refl

  its-acts : Acts x.setup.shape x.setup.pages (partition_of x.levels x.masks) actor old v
  its-acts = acts x.setup x.levels x.masks x.rows x.words v here _ acting

  locked-on : {held : Bool} → locked old actor ≡ held → locked old (active old v) ≡ held
  locked-on k = rw its-acts.actor k

  on-other : {r : Answer} (w : Processor) → is_index x.setup.processors w.0 ≡ true → (row : List ℕ) → acted old v x.mode a ≡ outcome_of r (put_vp old w.0 (vp_of row))
      → To r (after x.levels x.masks (set x.rows w.0 row) x.words)
  on-other w h row e = lifted e (record-left x.setup x.levels x.masks x.rows x.words w.0 h row four)

  on-record : {r : Answer} (row : List ℕ) → acted old v x.mode a ≡ outcome_of r (put_vp old v (vp_of row)) → To r (after x.levels x.masks (set x.rows v row) x.words)
  on-record row = on-other x.vp here row

  on-partition : {r : Answer} (levels masks : List ℕ) → acted old v x.mode a ≡ outcome_of r (put_partition old (partition_of levels masks)) → To r (after levels masks x.rows x.words)
  on-partition levels masks e = lifted e (partition-left x.setup x.levels x.masks x.rows x.words levels masks)

  on-page : {r : Answer} (row words : List ℕ) → acted old v x.mode a ≡ outcome_of r (put_access old v (vp_of row) words) → To r (after x.levels x.masks (set x.rows v row) words)
  on-page row words e = lifted e (access-left x.setup x.levels x.masks x.rows x.words v here row words four)

pub returns-then-not-is_processor : goal.returns-then-not-is_processor
unfolding machine_of processors
returns-then-not-is_processor c =
    rw c.in-Envp.is (no_second _ c.requires.0 _ _ _ _ _ _ _ (sym c.is_processor.ensures ∙ c.if-not-is_processor.true))

pub returns-in-Enpart : goal.returns-in-Enpart
returns-in-Enpart c =
    let x : Parts = record { setup = c.args.setup; vp = c.args.operation.vp; mode = c.args.operation.mode; action = c.args.operation.action; levels = c.args.parts.now.levels; masks = c.args.parts.now.masks; words = c.args.words.now; rows = c.args.parts.now.vps } in
    on-partition x c.requires.1 c.record_count.ensures c.active_of-actor.ensures _ c.in-Enpart.is _ _ (c.enpart.ensures _ _ _ _ (its-acts x c.requires.1 c.record_count.ensures c.active_of-actor.ensures _ c.in-Enpart.is))

pub returns-else-not-is_processor : goal.returns-else-not-is_processor
returns-else-not-is_processor c =
    let x : Parts = record { setup = c.args.setup; vp = c.args.operation.vp; mode = c.args.operation.mode; action = c.args.operation.action; levels = c.args.parts.now.levels; masks = c.args.parts.now.masks; words = c.args.words.now; rows = c.args.parts.now.vps } in
    let on-there : is_index c.args.setup.processors c.in-Envp.on.0 ≡ true = sym c.is_processor.ensures ∙ c.if-not-is_processor.false in
    let told = c.in-Envp.is in
    let to = on-there in
    on-other x c.requires.1 c.record_count.ensures c.active_of-actor.ensures _ told _ to _ (c.envp.ensures _ _ _ _ _ (its-acts x c.requires.1 c.record_count.ensures c.active_of-actor.ensures _ told) (other-runs x c.requires.1 c.record_count.ensures c.active_of-actor.ensures _ told _ to) (other-enabled x c.requires.1 c.record_count.ensures c.active_of-actor.ensures _ told _ to _ _ (c.enabled_anywhere-elsewhere.ensures _ _ _)))

pub returns-in-Call : goal.returns-in-Call
returns-in-Call c =
    let x : Parts = record { setup = c.args.setup; vp = c.args.operation.vp; mode = c.args.operation.mode; action = c.args.operation.action; levels = c.args.parts.now.levels; masks = c.args.parts.now.masks; words = c.args.words.now; rows = c.args.parts.now.vps } in
    on-record x c.requires.1 c.record_count.ensures c.active_of-actor.ensures _ c.in-Call.is _ (c.call.ensures _ _ (its-runs x c.requires.1 c.record_count.ensures c.active_of-actor.ensures _ c.in-Call.is))

pub returns-in-Ret : goal.returns-in-Ret
returns-in-Ret c =
    let x : Parts = record { setup = c.args.setup; vp = c.args.operation.vp; mode = c.args.operation.mode; action = c.args.operation.action; levels = c.args.parts.now.levels; masks = c.args.parts.now.masks; words = c.args.words.now; rows = c.args.parts.now.vps } in
    on-record x c.requires.1 c.record_count.ensures c.active_of-actor.ensures _ c.in-Ret.is _ (c.ret.ensures _ _ (its-runs x c.requires.1 c.record_count.ensures c.active_of-actor.ensures _ c.in-Ret.is))

pub returns-in-Read : goal.returns-in-Read
returns-in-Read c =
    let x : Parts = record { setup = c.args.setup; vp = c.args.operation.vp; mode = c.args.operation.mode; action = c.args.operation.action; levels = c.args.parts.now.levels; masks = c.args.parts.now.masks; words = c.args.words.now; rows = c.args.parts.now.vps } in
    on-page x c.requires.1 c.record_count.ensures c.active_of-actor.ensures _ c.in-Read.is _ _ (c.access.ensures _ _ (its-runs x c.requires.1 c.record_count.ensures c.active_of-actor.ensures _ c.in-Read.is) (own-acts x c.requires.1 c.record_count.ensures c.active_of-actor.ensures _ c.in-Read.is) (its-words x c.requires.1 c.record_count.ensures c.active_of-actor.ensures _ c.in-Read.is))

pub returns-in-Write : goal.returns-in-Write
returns-in-Write c =
    let x : Parts = record { setup = c.args.setup; vp = c.args.operation.vp; mode = c.args.operation.mode; action = c.args.operation.action; levels = c.args.parts.now.levels; masks = c.args.parts.now.masks; words = c.args.words.now; rows = c.args.parts.now.vps } in
    on-page x c.requires.1 c.record_count.ensures c.active_of-actor.ensures _ c.in-Write.is _ _ (c.access-in-Write.ensures _ _ (its-runs x c.requires.1 c.record_count.ensures c.active_of-actor.ensures _ c.in-Write.is) (own-acts x c.requires.1 c.record_count.ensures c.active_of-actor.ensures _ c.in-Write.is) (its-words x c.requires.1 c.record_count.ensures c.active_of-actor.ensures _ c.in-Write.is))

pub returns-in-Fetch : goal.returns-in-Fetch
returns-in-Fetch c =
    let x : Parts = record { setup = c.args.setup; vp = c.args.operation.vp; mode = c.args.operation.mode; action = c.args.operation.action; levels = c.args.parts.now.levels; masks = c.args.parts.now.masks; words = c.args.words.now; rows = c.args.parts.now.vps } in
    on-page x c.requires.1 c.record_count.ensures c.active_of-actor.ensures _ c.in-Fetch.is _ _ (c.access-in-Fetch.ensures _ _ (its-runs x c.requires.1 c.record_count.ensures c.active_of-actor.ensures _ c.in-Fetch.is) (own-acts x c.requires.1 c.record_count.ensures c.active_of-actor.ensures _ c.in-Fetch.is) (its-words x c.requires.1 c.record_count.ensures c.active_of-actor.ensures _ c.in-Fetch.is))

pub returns-in-Protect : goal.returns-in-Protect
returns-in-Protect c =
    let x : Parts = record { setup = c.args.setup; vp = c.args.operation.vp; mode = c.args.operation.mode; action = c.args.operation.action; levels = c.args.parts.now.levels; masks = c.args.parts.now.masks; words = c.args.words.now; rows = c.args.parts.now.vps } in
    on-partition x c.requires.1 c.record_count.ensures c.active_of-actor.ensures _ c.in-Protect.is _ _ (c.protect.ensures _ _ (its-acts x c.requires.1 c.record_count.ensures c.active_of-actor.ensures _ c.in-Protect.is))

pub returns-in-Config : goal.returns-in-Config
returns-in-Config c =
    let x : Parts = record { setup = c.args.setup; vp = c.args.operation.vp; mode = c.args.operation.mode; action = c.args.operation.action; levels = c.args.parts.now.levels; masks = c.args.parts.now.masks; words = c.args.words.now; rows = c.args.parts.now.vps } in
    on-partition x c.requires.1 c.record_count.ensures c.active_of-actor.ensures _ c.in-Config.is _ _ (c.config.ensures _ _ (its-acts x c.requires.1 c.record_count.ensures c.active_of-actor.ensures _ c.in-Config.is))

pub returns-in-Secure : goal.returns-in-Secure
returns-in-Secure c =
    let x : Parts = record { setup = c.args.setup; vp = c.args.operation.vp; mode = c.args.operation.mode; action = c.args.operation.action; levels = c.args.parts.now.levels; masks = c.args.parts.now.masks; words = c.args.words.now; rows = c.args.parts.now.vps } in
    on-record x c.requires.1 c.record_count.ensures c.active_of-actor.ensures _ c.in-Secure.is _ (c.secure.ensures _ _ _ (its-runs x c.requires.1 c.record_count.ensures c.active_of-actor.ensures _ c.in-Secure.is) (its-partition x c.requires.1 c.record_count.ensures c.active_of-actor.ensures _ c.in-Secure.is))

pub returns-in-Flush : goal.returns-in-Flush
returns-in-Flush c =
    let x : Parts = record { setup = c.args.setup; vp = c.args.operation.vp; mode = c.args.operation.mode; action = c.args.operation.action; levels = c.args.parts.now.levels; masks = c.args.parts.now.masks; words = c.args.words.now; rows = c.args.parts.now.vps } in
    unchanged x c.requires.1 c.record_count.ensures c.active_of-actor.ensures _ c.in-Flush.is (c.flush.ensures _ _ (its-there x c.requires.1 c.record_count.ensures c.active_of-actor.ensures _ c.in-Flush.is) (locked-on x c.requires.1 c.record_count.ensures c.active_of-actor.ensures _ c.in-Flush.is (c.locked-held.ensures _ _ _)))

pub returns-in-Rreg : goal.returns-in-Rreg
returns-in-Rreg c =
    let x : Parts = record { setup = c.args.setup; vp = c.args.operation.vp; mode = c.args.operation.mode; action = c.args.operation.action; levels = c.args.parts.now.levels; masks = c.args.parts.now.masks; words = c.args.words.now; rows = c.args.parts.now.vps } in
    on-record x c.requires.1 c.record_count.ensures c.active_of-actor.ensures _ c.in-Rreg.is _ (c.rreg.ensures _ _ (its-runs x c.requires.1 c.record_count.ensures c.active_of-actor.ensures _ c.in-Rreg.is))

pub returns-in-Wreg : goal.returns-in-Wreg
returns-in-Wreg c =
    let x : Parts = record { setup = c.args.setup; vp = c.args.operation.vp; mode = c.args.operation.mode; action = c.args.operation.action; levels = c.args.parts.now.levels; masks = c.args.parts.now.masks; words = c.args.words.now; rows = c.args.parts.now.vps } in
    on-record x c.requires.1 c.record_count.ensures c.active_of-actor.ensures _ c.in-Wreg.is _ (c.wreg.ensures _ _ (its-runs x c.requires.1 c.record_count.ensures c.active_of-actor.ensures _ c.in-Wreg.is))

pub returns-in-Tpr : goal.returns-in-Tpr
returns-in-Tpr c =
    let x : Parts = record { setup = c.args.setup; vp = c.args.operation.vp; mode = c.args.operation.mode; action = c.args.operation.action; levels = c.args.parts.now.levels; masks = c.args.parts.now.masks; words = c.args.words.now; rows = c.args.parts.now.vps } in
    on-record x c.requires.1 c.record_count.ensures c.active_of-actor.ensures _ c.in-Tpr.is _ (c.tpr.ensures _ _ (its-runs x c.requires.1 c.record_count.ensures c.active_of-actor.ensures _ c.in-Tpr.is))

pub returns-in-Ack : goal.returns-in-Ack
returns-in-Ack c =
    let x : Parts = record { setup = c.args.setup; vp = c.args.operation.vp; mode = c.args.operation.mode; action = c.args.operation.action; levels = c.args.parts.now.levels; masks = c.args.parts.now.masks; words = c.args.words.now; rows = c.args.parts.now.vps } in
    on-record x c.requires.1 c.record_count.ensures c.active_of-actor.ensures _ c.in-Ack.is _ (c.ack.ensures _ _ (its-runs x c.requires.1 c.record_count.ensures c.active_of-actor.ensures _ c.in-Ack.is))

pub returns-in-Pstat : goal.returns-in-Pstat
returns-in-Pstat c =
    let x : Parts = record { setup = c.args.setup; vp = c.args.operation.vp; mode = c.args.operation.mode; action = c.args.operation.action; levels = c.args.parts.now.levels; masks = c.args.parts.now.masks; words = c.args.words.now; rows = c.args.parts.now.vps } in
    unchanged x c.requires.1 c.record_count.ensures c.active_of-actor.ensures _ c.in-Pstat.is (c.pstat.ensures _ _ _ (its_shape x c.requires.1 c.record_count.ensures c.active_of-actor.ensures _ c.in-Pstat.is) (its-partition x c.requires.1 c.record_count.ensures c.active_of-actor.ensures _ c.in-Pstat.is))

pub returns-in-Vstat : goal.returns-in-Vstat
returns-in-Vstat c =
    let x : Parts = record { setup = c.args.setup; vp = c.args.operation.vp; mode = c.args.operation.mode; action = c.args.operation.action; levels = c.args.parts.now.levels; masks = c.args.parts.now.masks; words = c.args.words.now; rows = c.args.parts.now.vps } in
    rw (set-get_or c.args.parts.now.vps c.args.operation.vp.0 [])
    (unchanged x c.requires.1 c.record_count.ensures c.active_of-actor.ensures _ c.in-Vstat.is (c.vstat.ensures _ _ (its-runs x c.requires.1 c.record_count.ensures c.active_of-actor.ensures _ c.in-Vstat.is)))

pub returns-in-Caps : goal.returns-in-Caps
returns-in-Caps c =
    let x : Parts = record { setup = c.args.setup; vp = c.args.operation.vp; mode = c.args.operation.mode; action = c.args.operation.action; levels = c.args.parts.now.levels; masks = c.args.parts.now.masks; words = c.args.words.now; rows = c.args.parts.now.vps } in
    unchanged x c.requires.1 c.record_count.ensures c.active_of-actor.ensures _ c.in-Caps.is (c.caps.ensures _ _ (its_shape x c.requires.1 c.record_count.ensures c.active_of-actor.ensures _ c.in-Caps.is))

pub returns-in-Cri : goal.returns-in-Cri
returns-in-Cri c =
    let x : Parts = record { setup = c.args.setup; vp = c.args.operation.vp; mode = c.args.operation.mode; action = c.args.operation.action; levels = c.args.parts.now.levels; masks = c.args.parts.now.masks; words = c.args.words.now; rows = c.args.parts.now.vps } in
    on-record x c.requires.1 c.record_count.ensures c.active_of-actor.ensures _ c.in-Cri.is _ (c.cri.ensures _ _ (its-runs x c.requires.1 c.record_count.ensures c.active_of-actor.ensures _ c.in-Cri.is))

pub returns-in-Crm : goal.returns-in-Crm
returns-in-Crm c =
    let x : Parts = record { setup = c.args.setup; vp = c.args.operation.vp; mode = c.args.operation.mode; action = c.args.operation.action; levels = c.args.parts.now.levels; masks = c.args.parts.now.masks; words = c.args.words.now; rows = c.args.parts.now.vps } in
    on-record x c.requires.1 c.record_count.ensures c.active_of-actor.ensures _ c.in-Crm.is _ (c.crm.ensures _ _ (its-runs x c.requires.1 c.record_count.ensures c.active_of-actor.ensures _ c.in-Crm.is))

pub offset_bounds-vps-i : goal.offset_bounds-vps-i
offset_bounds-vps-i c =
    let v_low : c.args.operation.vp.0 < 4 = index-low c.args.setup.processors _ c.requires.1 in
    record { fits = omega (arith, v_low) }

pub bounds-vps-i : goal.bounds-vps-i
bounds-vps-i c =
    let v_low : c.args.operation.vp.0 < 4 = index-low c.args.setup.processors _ c.requires.1 in
    v_low

pub offset_bounds-vps-j : goal.offset_bounds-vps-j
offset_bounds-vps-j c =
    let on-there : is_index c.args.setup.processors c.in-Envp.on.0 ≡ true = sym c.is_processor.ensures ∙ c.if-not-is_processor.false in
    let w-low : c.in-Envp.on.0 < 4 = index-low c.args.setup.processors _ (on-there) in
    record { fits = omega (arith, w-low) }

pub bounds-vps-j : goal.bounds-vps-j
bounds-vps-j c =
    let on-there : is_index c.args.setup.processors c.in-Envp.on.0 ≡ true = sym c.is_processor.ensures ∙ c.if-not-is_processor.false in
    let w-low : c.in-Envp.on.0 < 4 = index-low c.args.setup.processors _ (on-there) in
    w-low

pub offset_bounds-vps-i-in-Call : goal.offset_bounds-vps-i-in-Call
offset_bounds-vps-i-in-Call c =
    let v_low : c.args.operation.vp.0 < 4 = index-low c.args.setup.processors _ c.requires.1 in
    record { fits = omega (arith, v_low) }

pub bounds-vps-i-in-Call : goal.bounds-vps-i-in-Call
bounds-vps-i-in-Call c =
    let v_low : c.args.operation.vp.0 < 4 = index-low c.args.setup.processors _ c.requires.1 in
    v_low

pub offset_bounds-vps-i-in-Ret : goal.offset_bounds-vps-i-in-Ret
offset_bounds-vps-i-in-Ret c =
    let v_low : c.args.operation.vp.0 < 4 = index-low c.args.setup.processors _ c.requires.1 in
    record { fits = omega (arith, v_low) }

pub bounds-vps-i-in-Ret : goal.bounds-vps-i-in-Ret
bounds-vps-i-in-Ret c =
    let v_low : c.args.operation.vp.0 < 4 = index-low c.args.setup.processors _ c.requires.1 in
    v_low

pub offset_bounds-vps-i-in-Read : goal.offset_bounds-vps-i-in-Read
offset_bounds-vps-i-in-Read c =
    let v_low : c.args.operation.vp.0 < 4 = index-low c.args.setup.processors _ c.requires.1 in
    record { fits = omega (arith, v_low) }

pub bounds-vps-i-in-Read : goal.bounds-vps-i-in-Read
bounds-vps-i-in-Read c =
    let v_low : c.args.operation.vp.0 < 4 = index-low c.args.setup.processors _ c.requires.1 in
    v_low

pub offset_bounds-vps-i-in-Write : goal.offset_bounds-vps-i-in-Write
offset_bounds-vps-i-in-Write c =
    let v_low : c.args.operation.vp.0 < 4 = index-low c.args.setup.processors _ c.requires.1 in
    record { fits = omega (arith, v_low) }

pub bounds-vps-i-in-Write : goal.bounds-vps-i-in-Write
bounds-vps-i-in-Write c =
    let v_low : c.args.operation.vp.0 < 4 = index-low c.args.setup.processors _ c.requires.1 in
    v_low

pub offset_bounds-vps-i-in-Fetch : goal.offset_bounds-vps-i-in-Fetch
offset_bounds-vps-i-in-Fetch c =
    let v_low : c.args.operation.vp.0 < 4 = index-low c.args.setup.processors _ c.requires.1 in
    record { fits = omega (arith, v_low) }

pub bounds-vps-i-in-Fetch : goal.bounds-vps-i-in-Fetch
bounds-vps-i-in-Fetch c =
    let v_low : c.args.operation.vp.0 < 4 = index-low c.args.setup.processors _ c.requires.1 in
    v_low

pub offset_bounds-vps-i-in-Secure : goal.offset_bounds-vps-i-in-Secure
offset_bounds-vps-i-in-Secure c =
    let v_low : c.args.operation.vp.0 < 4 = index-low c.args.setup.processors _ c.requires.1 in
    record { fits = omega (arith, v_low) }

pub bounds-vps-i-in-Secure : goal.bounds-vps-i-in-Secure
bounds-vps-i-in-Secure c =
    let v_low : c.args.operation.vp.0 < 4 = index-low c.args.setup.processors _ c.requires.1 in
    v_low

pub offset_bounds-vps-i-in-Rreg : goal.offset_bounds-vps-i-in-Rreg
offset_bounds-vps-i-in-Rreg c =
    let v_low : c.args.operation.vp.0 < 4 = index-low c.args.setup.processors _ c.requires.1 in
    record { fits = omega (arith, v_low) }

pub bounds-vps-i-in-Rreg : goal.bounds-vps-i-in-Rreg
bounds-vps-i-in-Rreg c =
    let v_low : c.args.operation.vp.0 < 4 = index-low c.args.setup.processors _ c.requires.1 in
    v_low

pub offset_bounds-vps-i-in-Wreg : goal.offset_bounds-vps-i-in-Wreg
offset_bounds-vps-i-in-Wreg c =
    let v_low : c.args.operation.vp.0 < 4 = index-low c.args.setup.processors _ c.requires.1 in
    record { fits = omega (arith, v_low) }

pub bounds-vps-i-in-Wreg : goal.bounds-vps-i-in-Wreg
bounds-vps-i-in-Wreg c =
    let v_low : c.args.operation.vp.0 < 4 = index-low c.args.setup.processors _ c.requires.1 in
    v_low

pub offset_bounds-vps-i-in-Tpr : goal.offset_bounds-vps-i-in-Tpr
offset_bounds-vps-i-in-Tpr c =
    let v_low : c.args.operation.vp.0 < 4 = index-low c.args.setup.processors _ c.requires.1 in
    record { fits = omega (arith, v_low) }

pub bounds-vps-i-in-Tpr : goal.bounds-vps-i-in-Tpr
bounds-vps-i-in-Tpr c =
    let v_low : c.args.operation.vp.0 < 4 = index-low c.args.setup.processors _ c.requires.1 in
    v_low

pub offset_bounds-vps-i-in-Ack : goal.offset_bounds-vps-i-in-Ack
offset_bounds-vps-i-in-Ack c =
    let v_low : c.args.operation.vp.0 < 4 = index-low c.args.setup.processors _ c.requires.1 in
    record { fits = omega (arith, v_low) }

pub bounds-vps-i-in-Ack : goal.bounds-vps-i-in-Ack
bounds-vps-i-in-Ack c =
    let v_low : c.args.operation.vp.0 < 4 = index-low c.args.setup.processors _ c.requires.1 in
    v_low

pub offset_bounds-vps-i-in-Vstat : goal.offset_bounds-vps-i-in-Vstat
offset_bounds-vps-i-in-Vstat c =
    let v_low : c.args.operation.vp.0 < 4 = index-low c.args.setup.processors _ c.requires.1 in
    record { fits = omega (arith, v_low) }

pub bounds-vps-i-in-Vstat : goal.bounds-vps-i-in-Vstat
bounds-vps-i-in-Vstat c =
    let v_low : c.args.operation.vp.0 < 4 = index-low c.args.setup.processors _ c.requires.1 in
    v_low

pub offset_bounds-vps-i-in-Cri : goal.offset_bounds-vps-i-in-Cri
offset_bounds-vps-i-in-Cri c =
    let v_low : c.args.operation.vp.0 < 4 = index-low c.args.setup.processors _ c.requires.1 in
    record { fits = omega (arith, v_low) }

pub bounds-vps-i-in-Cri : goal.bounds-vps-i-in-Cri
bounds-vps-i-in-Cri c =
    let v_low : c.args.operation.vp.0 < 4 = index-low c.args.setup.processors _ c.requires.1 in
    v_low

pub offset_bounds-vps-i-in-Crm : goal.offset_bounds-vps-i-in-Crm
offset_bounds-vps-i-in-Crm c =
    let v_low : c.args.operation.vp.0 < 4 = index-low c.args.setup.processors _ c.requires.1 in
    record { fits = omega (arith, v_low) }

pub bounds-vps-i-in-Crm : goal.bounds-vps-i-in-Crm
bounds-vps-i-in-Crm c =
    let v_low : c.args.operation.vp.0 < 4 = index-low c.args.setup.processors _ c.requires.1 in
    v_low
