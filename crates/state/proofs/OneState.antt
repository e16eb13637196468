-- Different parts make different states (01, "The bench model"), where the arrays have the lengths that code lends: each part can be
-- read back. So an equation between states fixes every bit of every word that is lent. Assumes nothing.
use mathlib.Core.Path.{◌≡◌, sym, ap, ◌∙◌}
use mathlib.Core.List.{List, []}
use Prim.Native.Nat.{ℕ, ◌<◌}
use native.Mathlib.Omega.{arith}
use lib.ListN.{get_or, length}
use lib.Seq.{ext_get_or}
use Rattle.model.specs.declared.machine.Setup.{Setup}
use Rattle.model.specs.State.{State, past_vp}
use Rattle.partition.proofs.PartitionWords.{partition-one}
use Rattle.processor.proofs.RecordOne.{record-one}
use Rattle.processor.specs.Record.{record_words, vp_of}
use Rattle.model.proofs.Four.{four-at}
use Rattle.state.specs.Lent.{machine_of, lent}

-- Four records, each of all its words.
pub record Records (vps : List (List ℕ)) : Type 0 where
  pub four : length vps ≡ 4
  pub each : (v : ℕ) → v < 4 → length (get_or vps v []) ≡ record_words

-- The setup of a state.
abbrev setup_in : State → Setup
setup_in s =
    let m = s.machine in
    record { processors = m.processors; pages = m.pages; host_mask = m.host_mask; shape = m.shape }

module _ (setup setup' : Setup) (levels levels' masks masks' words words' : List ℕ) (vps vps' : List (List ℕ)) where
  pub record Same : Type 0 where
    pub setup-same : setup ≡ setup'
    pub levels-same : levels ≡ levels'
    pub masks-same : masks ≡ masks'
    pub vps-same : vps ≡ vps'
    pub words_same : words ≡ words'

  pub lent_one : length levels ≡ 6 → length levels' ≡ 6 → Records vps → Records vps'
      → lent setup levels masks vps words ≡ lent setup' levels' masks' vps' words' → Same
  unfolding machine_of
  lent_one n n' r r' e =
      let halves = partition-one levels levels' masks masks' n n' (ap (λ (s : State). s.machine.partition) e) in
      record {
        setup-same = ap setup_in e;
        levels-same = halves.0;
        masks-same = halves.1;
        vps-same = ext_get_or [] vps vps' (r.four ∙ sym r'.four) (λ v h. each v (omega (arith, r.four)));
        words_same = ap (λ (s : State). s.words) e;
      }
    where
      each : (v : ℕ) → v < 4 → get_or vps v [] ≡ get_or vps' v []
      each v h =
          record-one (get_or vps v []) (get_or vps' v []) (r.each v h) (r'.each v h)
          (sym (four-at (λ i. vp_of (get_or vps i [])) past_vp v h)
          ∙ ap (λ (s : State). get_or s.machine.vps v past_vp) e
          ∙ four-at (λ i. vp_of (get_or vps' i [])) past_vp v h)
