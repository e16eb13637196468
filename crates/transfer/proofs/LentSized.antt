-- The state of the parts that code lends is `Sized`: its arrays have their sizes, and each quantity is a word, as the parts are arrays of
-- words. So the theorems of crate `records` hold of it. Assumes nothing.
use Rattle.std.specs.Prelude.{Some}
use mathlib.Core.Path.{◌≡◌, refl}
use mathlib.Core.Bool.{Bool, true, false, cond, ◌&&◌}
use mathlib.Core.List.{List, [], ◌∷◌, ◌++◌}
use Prim.Native.Nat.{ℕ, zero, suc, ◌+◌, ◌*◌, ◌<◌, ◌^◌}
use native.Mathlib.Omega.{arith}
use lib.Dec.{ltb}
use lib.ListN.{get_or, length, length-drop, replicate, take, drop}
use lib.Seq.{length-take-le}
use borrow.Author.Tests.{ltb-true}
use Rattle.model.specs.declared.machine.Context.{Context}
use Rattle.model.specs.declared.machine.Setup.{Setup}
use Rattle.model.specs.declared.machine.Shape.{Shape}
use Rattle.model.specs.declared.machine.VirtualProcessor.{VirtualProcessor}
use Rattle.model.specs.Arrays.{number_at}
use Rattle.model.specs.Registers.{private_of, shared_of}
use Rattle.model.specs.State.{State, processors, pages, partition, shape, is_level, is_processor, vp, context, active_of, active, enabled_on, enabled_for, mbec_for, config_of, config_in, mask_of, mask_in, word_of, secure_of, no_context, no_vp, past_vp, past_context}
use Rattle.model.proofs.Bools.{and_right, cond-holds}
use Rattle.model.proofs.Four.{four-at}
use Rattle.partition.specs.PartitionView.{configs_in, partition_of}
use Rattle.processor.proofs.RecordWords.{row-length}
use Rattle.processor.specs.Record.{record_words, level_words, intercepts, cr0_mask_index, cr4_mask_index, part, row_of, context_of, context_in, vp_of}
use Rattle.state.proofs.OneState.{Records}
use Rattle.state.specs.Lent.{machine_of, lent}
use Rattle.records.specs.declared.place.Place.{Place}
use Rattle.records.specs.declared.place.Place.TheVariants.{PartitionEnabled, Mbec, Config, Active, Shared, Register, Tpr, Pending, Enabled, Secure, Reason, From, Rax, Rcx, Word, Mask, Intercepts, Cr0Mask, Cr4Mask}
use Rattle.model.specs.WellFormed.{well_formed}
use Rattle.records.proofs.SameBytes.{read_back}
use Rattle.records.specs.Reading.{passed_on}
use Rattle.records.specs.RecordTexts.{records_text}
use Rattle.records.specs.Values.{number, plain, value_at, Sized, SizedContext, SizedVp}
use Rattle.script.specs.Records.{lines}

-- Each entry of a list is a word.
abbrev pub Words : List ℕ → Type 0
Words ws = (i : ℕ) → get_or ws i 0 < 2 ^ 64

none-fits : Words []
none-fits i = omega arith

zeros-fit : (n : ℕ) → Words (replicate n 0)
zeros-fit zero i = omega arith
zeros-fit (suc n) zero = omega arith
zeros-fit (suc n) (suc i) = zeros-fit n i

take-fits : (n : ℕ) (ws : List ℕ) → Words ws → Words (take n ws)
take-fits zero ws h i = omega arith
take-fits (suc n) [] h i = omega arith
take-fits (suc n) (x ∷ ws) h zero = h 0
take-fits (suc n) (x ∷ ws) h (suc i) = take-fits n ws (λ j. h (suc j)) i

drop-fits : (n : ℕ) (ws : List ℕ) → Words ws → Words (drop n ws)
drop-fits zero ws h = h
drop-fits (suc n) [] h = none-fits
drop-fits (suc n) (x ∷ ws) h = drop-fits n ws (λ j. h (suc j))

part-fits : (from n : ℕ) (ws : List ℕ) → Words ws → Words (part from n ws)
part-fits from n ws h = take-fits n (drop from ws) (drop-fits from ws h)

chosen : (b : Bool) {x : ℕ} → x < 2 ^ 64 → cond b x 0 < 2 ^ 64
chosen true h = h
chosen false h = omega arith

number_fits : (n : ℕ) (ws : List ℕ) → Words ws → (i : ℕ) → number_at n ws i < 2 ^ 64
unfolding number_at
number_fits n ws h i = chosen (ltb i n) (h i)

flag-fits : (b : Bool) → number b < 2 ^ 64
flag-fits true = omega arith
flag-fits false = omega arith

-- What a processor holds of a level, and a processor.
record FitContext (k : Context) : Type 0 where
  registers : Words k.registers
  tpr : k.tpr < 2 ^ 64
  pending : Words k.pending
  secure : Words k.secure
  reason : k.control.reason < 2 ^ 64
  from : k.control.from.0 < 2 ^ 64
  rax : k.control.rax < 2 ^ 64
  rcx : k.control.rcx < 2 ^ 64
  intercepts : k.watch.intercepts < 2 ^ 64
  cr0-mask : k.watch.cr0_mask < 2 ^ 64
  cr4-mask : k.watch.cr4_mask < 2 ^ 64

no-fits : FitContext no_context
no-fits = record {
  registers = zeros-fit 13;
  tpr = omega arith;
  pending = zeros-fit 4;
  secure = zeros-fit 4;
  reason = omega arith;
  from = omega arith;
  rax = omega arith;
  rcx = omega arith;
  intercepts = omega arith;
  cr0-mask = omega arith;
  cr4-mask = omega arith;
}

past_fits : FitContext past_context
past_fits = record {
  registers = none-fits;
  tpr = omega arith;
  pending = none-fits;
  secure = none-fits;
  reason = omega arith;
  from = omega arith;
  rax = omega arith;
  rcx = omega arith;
  intercepts = omega arith;
  cr0-mask = omega arith;
  cr4-mask = omega arith;
}

row_fits : (row : List ℕ) → Words row → FitContext (context_of row)
unfolding context_of
row_fits row h = record {
  registers = take-fits 13 row h;
  tpr = h 13;
  pending = part-fits 14 4 row h;
  secure = part-fits 18 4 row h;
  reason = h 22;
  from = h 23;
  rax = h 24;
  rcx = h 25;
  intercepts = h intercepts;
  cr0-mask = h cr0_mask_index;
  cr4-mask = h cr4_mask_index;
}

in-fits : (ws : List ℕ) → Words ws → (l : ℕ) → FitContext (context_in ws l)
unfolding context_in row_of
in-fits ws h l = row_fits (part (22 + level_words * l) level_words ws) (part-fits (22 + level_words * l) level_words ws h)

record FitVp (z : Shape) (p : VirtualProcessor) : Type 0 where
  active : p.active.0 < 2 ^ 64
  shared : Words p.shared
  contexts : (l : ℕ) → FitContext (context z p l)

module _ (z : Shape) where
  no-vp-fits : FitVp z no_vp
  unfolding context
  no-vp-fits = record {
    active = omega arith;
    shared = zeros-fit 20;
    contexts = λ l. cond-holds FitContext (is_level z l) (get_or no_vp.contexts l past_context) no_context (each l) no-fits;
  }
    where
      each : (l : ℕ) → FitContext (get_or no_vp.contexts l past_context)
      each zero = no-fits
      each (suc zero) = no-fits
      each (suc (suc zero)) = no-fits
      each (suc (suc (suc zero))) = no-fits
      each (suc (suc (suc (suc l)))) = past_fits

  vp-fits : (ws : List ℕ) → Words ws → FitVp z (vp_of ws)
  unfolding context vp_of
  vp-fits ws h = record {
    active = h 0;
    shared = part-fits 2 20 ws h;
    contexts = λ l. cond-holds FitContext (is_level z l) (get_or (vp_of ws).contexts l past_context) no_context (each l) no-fits;
  }
    where
      each : (l : ℕ) → FitContext (get_or (vp_of ws).contexts l past_context)
      each zero = in-fits ws h 0
      each (suc zero) = in-fits ws h 1
      each (suc (suc zero)) = in-fits ws h 2
      each (suc (suc (suc zero))) = in-fits ws h 3
      each (suc (suc (suc (suc l)))) = past_fits

-- The sizes of a record's parts.
context-sized : (ws : List ℕ) (l : ℕ) → length ws ≡ record_words → l < 4 → SizedContext (context_in ws l)
unfolding context_in context_of
context-sized ws l n h =
    let size = row-length ws l n h in
    record {
      registers = length-take-le 13 (row_of ws l) (omega arith);
      pending = length-take-le 4 (drop 14 (row_of ws l)) (omega (arith, length-drop 14 (row_of ws l)));
      secure = length-take-le 4 (drop 18 (row_of ws l)) (omega (arith, length-drop 18 (row_of ws l)));
    }

vp-sized : (ws : List ℕ) → length ws ≡ record_words → SizedVp (vp_of ws)
unfolding vp_of
vp-sized ws n = record {
  shared = length-take-le 20 (drop 2 ws) (omega (arith, length-drop 2 ws));
  contexts = refl;
  each = λ l h. rw (four-at (context_in ws) past_context l h) (context-sized ws l n h);
}

module _ (setup : Setup) (levels masks words : List ℕ) (rows : List (List ℕ)) where
  abbrev S : State
  S = lent setup levels masks rows words

  -- The parts are arrays of words.
  pub record Parts : Type 0 where
    pub records : Records rows
    pub size : length masks ≡ 256
    pub levels-fit : Words levels
    pub masks-fit : Words masks
    pub words-fit : Words words
    pub rows_fit : (v : ℕ) → v < 4 → Words (get_or rows v [])

  module _ (parts : Parts) where
    processor-fits : (v : ℕ) → FitVp setup.shape (vp S v)
    unfolding vp is_processor processors machine_of
    processor-fits v = go (ltb v setup.processors && ltb v 4) refl
      where
        go : (b : Bool) → (ltb v setup.processors && ltb v 4) ≡ b → FitVp setup.shape (cond b (get_or S.machine.vps v past_vp) no_vp)
        go true e =
            let low : v < 4 = ltb-true v 4 (and_right (ltb v setup.processors) (ltb v 4) e) in
            rw (four-at (λ i. vp_of (get_or rows i [])) past_vp v low) (vp-fits setup.shape (get_or rows v []) (parts.rows_fit v low))
        go false e = no-vp-fits setup.shape

    configs-fit : Words (configs_in levels)
    configs-fit zero = parts.levels-fit 2
    configs-fit (suc zero) = parts.levels-fit 3
    configs-fit (suc (suc zero)) = parts.levels-fit 4
    configs-fit (suc (suc (suc zero))) = parts.levels-fit 5
    configs-fit (suc (suc (suc (suc i)))) = omega arith

    value-fits : (p : Place) → value_at S p < 2 ^ 64
    unfolding value_at active active_of shared_of private_of secure_of config_of config_in mask_of mask_in word_of partition pages shape machine_of partition_of
    value-fits (PartitionEnabled t) = flag-fits (enabled_for S t.0)
    value-fits (Mbec t) = flag-fits (mbec_for S t.0)
    value-fits (Config t) = chosen (ltb 0 t.0 && is_level setup.shape t.0) (number_fits 4 (configs_in levels) configs-fit t.0)
    value-fits (Active v) = (processor-fits v.0).active
    value-fits (Shared v r) = number_fits 20 _ (processor-fits v.0).shared _
    value-fits (Register v l r) = number_fits 13 _ ((processor-fits v.0).contexts l.0).registers r
    value-fits (Tpr v l) = ((processor-fits v.0).contexts l.0).tpr
    value-fits (Pending v l i) = number_fits 4 _ ((processor-fits v.0).contexts l.0).pending i
    value-fits (Enabled v l) = flag-fits (enabled_on S v.0 l.0)
    value-fits (Secure v l k) = chosen (ltb k.0 l.0) (number_fits 4 (context setup.shape (vp S v.0) l.0).secure ((processor-fits v.0).contexts l.0).secure k.0)
    value-fits (Reason v l) = ((processor-fits v.0).contexts l.0).reason
    value-fits (From v l) = ((processor-fits v.0).contexts l.0).from
    value-fits (Rax v l) = ((processor-fits v.0).contexts l.0).rax
    value-fits (Rcx v l) = ((processor-fits v.0).contexts l.0).rcx
    value-fits (Intercepts v l) = ((processor-fits v.0).contexts l.0).intercepts
    value-fits (Cr0Mask v l) = ((processor-fits v.0).contexts l.0).cr0-mask
    value-fits (Cr4Mask v l) = ((processor-fits v.0).contexts l.0).cr4-mask
    value-fits (Word p) = parts.words-fit p.0
    value-fits (Mask p t) = chosen (ltb 0 t.0 && is_level setup.shape t.0 && (ltb p.0 setup.pages && ltb p.0 64)) (number_fits 256 masks parts.masks-fit (4 * p.0 + t.0))

    pub lent-sized : Sized S
    unfolding machine_of partition_of
    lent-sized = record {
      lengths = record {
        configs = refl;
        masks = parts.size;
        vps = refl;
        each = λ v h. rw (four-at (λ i. vp_of (get_or rows i [])) past_vp v h) (vp-sized (get_or rows v []) (parts.records.each v h));
      };
      fits = value-fits;
    }

    -- Reading what was written of these parts gives their state, and leaves the script that follows.
    pub lent_back : well_formed S ≡ true → (script : List ℕ)
        → passed_on (lines (records_text S ++ script)) ≡ Some (record { state = plain S; rest = lines script })
    lent_back formed script = read_back S formed lent-sized script
