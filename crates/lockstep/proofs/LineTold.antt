-- What the code has of a line that was answered on the words of a machine, against the definitions. Assumes nothing.
use Rattle.std.specs.Prelude.{Err, Ok}
use mathlib.Core.Bool.{Bool, true, false, cond}
use mathlib.Core.List.{List, ◌++◌, append_assoc}
use mathlib.Core.Path.{◌≡◌, refl, sym, ap, ◌∙◌}
use Prim.Native.Nat.{ℕ, ◌+◌, ◌-◌, ◌%◌, ◌≤◌}
use native.Mathlib.Omega.{arith}
use borrow.Rule.Slice.PartMut.{mid_of, put_mid}
use lib.Dec.{eqb}
use lib.ListN.{drop, get_or, length, length-drop, take}
use lib.Seq.{drop-drop, length-take-le, sets, sets-eq}
use Rattle.listing.proofs.LevelShown.{event-shown, level-column}
use Rattle.listing.specs.Answer.{level_on}
use Rattle.listing.specs.Listing.{answered}
use Rattle.listing.specs.declared.Shown.{Shown}
use Rattle.model.specs.Answers.{refusal_number}
use Rattle.model.specs.LevelColumn.{processor_of}
use Rattle.model.specs.State.{State, level, past_vp}
use Rattle.model.specs.Step.{Outcome, step}
use Rattle.model.specs.declared.answer.Answer.{Answer}
use Rattle.model.specs.declared.answer.Answer.TheVariants.{Refused}
use Rattle.model.specs.declared.answer.Refusal.{Refusal}
use Rattle.model.specs.declared.event.Event.{Event}
use Rattle.model.specs.declared.machine.Setup.{Setup}
use Rattle.model.specs.declared.quantity.Level.{Level}
use Rattle.model.specs.declared.quantity.Processor.{Processor}
use Rattle.processor.specs.Record.{record_words, part}
use Rattle.state.specs.Lent.{lent}
use Rattle.lockstep.specs.Lockstep.{reply_by, stepped_by}
use Rattle.lockstep.specs.LockstepParts.{AnsweredIn, reply_of}
use Rattle.lockstep.specs.MachineWords.{machine_words, words_at, fourth_at, third_at, second_at, records_at, PartSizes, flat, lent_words, parts_of, records_in, setup_in, state_in}
use Rattle.lockstep.specs.ReasonNumbers.{reason_number}
use Rattle.lockstep.specs.declared.Reply.{Reply}
use Rattle.lockstep.proofs.StateStored.{state-read, state-words}
use Rattle.lockstep.proofs.StoredWords.{part_length, parts-stored, put_back}

-- The words of the pages came back from a step that they were lent to.
came-back : (ws words : List ℕ) (k : ℕ) → words_at + k ≤ length ws → length words ≡ k → put_mid words_at k ws words ≡ sets ws words_at words
came-back ws words k h e =
    rw (drop-drop k words_at ws, ← e)
    (sym (append_assoc (take words_at ws) words (drop (words_at + length words) ws)) ∙ sym (sets-eq words ws words_at (omega arith)))

module _ (ws : List ℕ) (room : machine_words ≤ length ws) (e : Event) (a : Answer) (setup : Setup) (levels masks : List ℕ) (vps : List (List ℕ))
    (end : ℕ) (setup-is : setup ≡ setup_in ws) (levels-is : levels ≡ part 6 6 ws) (masks-is : masks ≡ part 12 256 ws)
    (vps-is : vps ≡ records_in ws) (end_is : end ≡ words_at + lent_words ws) (levels' masks' : List ℕ) (vps' : List (List ℕ))
    (words' : List ℕ) (sizes : PartSizes levels' masks' vps') (kept : length words' ≡ length (mid_of words_at (end - words_at) ws))
    (done : record { answer = a; next = lent setup levels' masks' vps' words' }
    ≡ step (lent setup levels masks vps (mid_of words_at (end - words_at) ws)) e)
    (after : List ℕ) (stored : after ≡ sets (put_mid words_at (end - words_at) ws words') 6 (levels' ++ masks' ++ flat vps'))
  where
    count : end - words_at ≡ lent_words ws
    count = omega arith

    few : lent_words ws ≤ 64
    few = omega arith

    words-length : length words' ≡ lent_words ws
    words-length = kept ∙ rw count (length-take-le (lent_words ws) (drop words_at ws) (omega (arith, length-drop words_at ws)))

    abbrev next : State
    next = lent (setup_in ws) levels' masks' vps' words'

    event-done : record { answer = a; next = next } ≡ step (state_in ws) e
    unfolding state_in
    event-done = rw (setup-is, levels-is, masks-is, vps-is, count) at done

    stored-words : after ≡ sets (sets ws words_at words') 6 (levels' ++ masks' ++ flat vps')
    stored-words =
        stored
        ∙ ap (λ (w : List ℕ). sets w 6 (levels' ++ masks' ++ flat vps'))
        (rw count (came-back ws words' (lent_words ws) (omega arith) words-length))

    told-words : after ≡ (stepped_by ws (Ok e)).words
    told-words =
        stored-words
        ∙ state-words ws levels' masks' vps' words' sizes (setup_in ws)
        ∙ ap (λ (o : Outcome). sets ws 6 (parts_of o.next)) event-done

    told-state : state_in after ≡ (stepped_by ws (Ok e)).state
    told-state =
        ap state_in stored-words
        ∙ state-read ws levels' masks' vps' words' sizes room (lent_words ws) few words-length refl
        ∙ ap (λ (o : Outcome). o.next) event-done

    told-reply : (v : Processor) → v ≡ processor_of e
        → (on : Level) → on ≡ level_on v next.machine.processors (get_or next.machine.vps (v.0 % 4) past_vp).active
        → reply_of a on ≡ (stepped_by ws (Ok e)).reply
    told-reply v here on there =
        let r = reply_by (answered (state_in ws) (Ok e)) in
        ap (λ (x : Shown). record { answer = x.answer; value = x.value; level = x.level; reason = reason_number a })
        (event-shown (state_in ws) next e a event-done v here on there)
        ∙ ap (λ (o : Outcome). record { answer = r.answer; value = r.value; level = r.level; reason = reason_number o.answer })
        event-done

    pub event-told : (v : Processor) → v ≡ processor_of e
        → (on : Level) → on ≡ level_on v next.machine.processors (get_or next.machine.vps (v.0 % 4) past_vp).active
        → (r : Reply) → r ≡ reply_of a on → AnsweredIn (stepped_by ws (Ok e)) r after
    event-told v here on there r is =
        record { reply = is ∙ told-reply v here on there; words = told-words; state = told-state }

-- The words of the state that the words stand for are these.
module _ (ws : List ℕ) (room : machine_words ≤ length ws) where
  at : (place n : ℕ) → place + n ≤ machine_words → sets ws place (part place n ws) ≡ ws
  at place n h = put_back ws place n (omega arith)

  size : (place n : ℕ) → place + n ≤ machine_words → length (part place n ws) ≡ n
  size place n h = part_length ws place n (omega arith)

  pub same-words : sets ws 6 (parts_of (state_in ws)) ≡ ws
  unfolding state_in
  same-words =
      let sizes : PartSizes (part 6 6 ws) (part 12 256 ws) (records_in ws) = record {
        levels-length = size 6 6 (omega arith);
        masks-length = size 12 256 (omega arith);
        first-length = size records_at record_words (omega arith);
        second-length = size second_at record_words (omega arith);
        third-length = size third_at record_words (omega arith);
        fourth-length = size fourth_at record_words (omega arith);
      } in
      sym (state-words ws (part 6 6 ws) (part 12 256 ws) (records_in ws) (part words_at (lent_words ws) ws) sizes (setup_in ws))
      ∙ ap (λ (w : List ℕ). sets w 6 (part 6 6 ws ++ part 12 256 ws ++ flat (records_in ws))) (at words_at (lent_words ws) (omega arith))
      ∙ sym
      (parts-stored ws (part 6 6 ws) (part 12 256 ws) (part records_at record_words ws) (part second_at record_words ws) (part third_at record_words ws) (part fourth_at record_words ws)
      sizes.levels-length sizes.masks-length sizes.first-length sizes.second-length sizes.third-length)
      ∙ rw (at 6 6 (omega arith), at 12 256 (omega arith), at records_at record_words (omega arith), at second_at record_words (omega arith), at third_at record_words (omega arith))
      (at fourth_at record_words (omega arith))

-- A malformed line: the words stay.
pub malformed-told : (ws : List ℕ) → machine_words ≤ length ws → (refusal : Refusal) (r : Reply) → r ≡ reply_of (Refused refusal) (level 0) → AnsweredIn (stepped_by ws (Err refusal)) r ws
malformed-told ws room refusal r is = record {
  reply =
      is
      ∙ ap (λ (l : Level). record { answer = refusal_number refusal; value = 0; level = l; reason = reason_number (Refused refusal) })
      (level-column (refusal_number refusal) 0 ∙ zero (eqb (refusal_number refusal) 1));
  words = sym (same-words ws room);
  state = refl;
}
  where
    zero : (t : Bool) → level (cond t 0 0) ≡ level 0
    zero true = refl
    zero false = refl
