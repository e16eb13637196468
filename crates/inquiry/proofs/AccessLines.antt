-- An access line gets answer 1 exactly where there is no such processor, mode or page. Assumes nothing.
use Rattle.std.specs.Prelude.{Err, None, Ok, Result, Some}
use mathlib.Core.Bool.{Bool, true, false, cond, ◌&&◌, false≢true}
use mathlib.Core.List.{List}
use mathlib.Core.Path.{◌≡◌, refl}
use Prim.Native.Nat.{ℕ, ◌≤◌, ◌<◌}
use borrow.Author.Tests.{leb-true, leb-false, ltb-true, ltb-false, le-leb, lt-ltb, ne_eqb}
use native.Mathlib.Omega.{arith}
use lib.Dec.{eqb, leb, ltb}
use Rattle.access_events.specs.Access.{accessed}
use Rattle.explanation.proofs.Explains.{answer-is-explained}
use Rattle.explanation.specs.ExplainedClaims.{Explains}
use Rattle.listing.specs.Listing.{answered}
use Rattle.model.specs.Answers.{first_of, number_of}
use Rattle.model.specs.State.{State, pages, processors}
use Rattle.model.specs.Step.{rule, rule_of, ruled, step}
use Rattle.model.specs.WellFormed.{well_formed}
use Rattle.model.specs.declared.answer.Answer.{Answer}
use Rattle.model.specs.declared.answer.Answer.TheVariants.{Refused}
use Rattle.model.specs.declared.machine.Setup.{Setup}
use Rattle.model.specs.declared.event.Action.{Action}
use Rattle.model.specs.declared.event.Action.TheVariants.{Enpart, Envp, Call, Ret, Read, Write, Fetch, Protect, Config, Secure, Flush, Rreg, Wreg, Tpr, Ack, Pstat, Vstat, Caps, Cri, Crm}
use Rattle.model.specs.declared.event.Event.TheVariants.{Made, Int}
use Rattle.model.specs.declared.quantity.Access.{Access}
use Rattle.model.specs.declared.quantity.Page.{Page}
use Rattle.model.specs.declared.quantity.Processor.{Processor}
use Rattle.records.specs.RecordTexts.{ended}
use Rattle.sheet.specs.Sheets.{Explanation, Allowed, Host, Levels}
use Rattle.sheet.specs.Verdicts.{refusal}
use Rattle.inquiry.specs.AskedLines.{ranged_by}
use Rattle.asked.specs.AskedAccess.{asked_by, asks}
use Rattle.inquiry.specs.Inquiry.{of_asked, of_line}
use Rattle.model.specs.declared.answer.Refusal.{Refusal}
use Rattle.model.specs.declared.event.Event.{Event}

-- An answer that has an explanation is not 1.
not-one : (a : Answer) (e : Explanation) → Explains a e → eqb (number_of a) 1 ≡ false
not-one a Allowed x = let n = x.allowed.0 refl in ne_eqb (number_of a) 1 (λ one. omega arith)
not-one a Host x = let n = x.host.0 refl in ne_eqb (number_of a) 1 (λ one. omega arith)
not-one a (Levels None first second third) x =
    let n = x.unreceived.0 (record { first = first; second = second; third = third; is = refl }) in ne_eqb (number_of a) 1 (λ one. omega arith)
not-one a (Levels (Some l) first second third) x =
    let n = (x.received l).0 (record { first = first; second = second; third = third; is = refl }) in ne_eqb (number_of a) 1 (λ one. omega (arith, n))

-- The refusals of an access begin with these three, each of number 1.
abbrev first_three : Bool → Bool → Bool → Answer → Answer
first_three a b c more = cond a (Refused Refusal.NoSuchProcessor) (cond b (Refused Refusal.NoSuchMode) (cond c (Refused Refusal.NoSuchPage) more))

-- One of them holds.
data Outside (a b c : Bool) : Type 0 where
  one : a ≡ true → Outside a b c
  two : b ≡ true → Outside a b c
  three : c ≡ true → Outside a b c

is_one : (a b c : Bool) (more : Answer) → Outside a b c → eqb (number_of (first_three a b c more)) 1 ≡ true
is_one true b c more h = refl
is_one false true c more h = refl
is_one false false true more h = refl
is_one false false false more (one h) = absurd (false≢true h)
is_one false false false more (two h) = absurd (false≢true h)
is_one false false false more (three h) = absurd (false≢true h)

module _ (s : State) (w : well_formed s ≡ true) (v : Processor) (mode : ℕ) (p : Page) where
  outside : (access : Access) (x : ℕ) → Outside (leb (processors s) v.0) (ltb 1 mode) (leb (pages s) p.0)
      → eqb (number_of (step s (Made v mode (accessed access p x))).answer) 1 ≡ true
  unfolding step ruled rule rule_of first_of
  outside Access.Read x h = rw w (is_one _ _ _ _ h)
  outside Access.Write x h = rw w (is_one _ _ _ _ h)
  outside Access.Fetch x h = rw w (is_one _ _ _ _ h)

  inside : (access : Access) (x : ℕ) → v.0 < processors s → mode ≤ 1 → p.0 < pages s
      → eqb (number_of (step s (Made v mode (accessed access p x))).answer) 1 ≡ false
  inside access x h m i = not-one _ _ (answer-is-explained s v mode p access x w h m i)

  -- So an access line is taken by its answer, or by its numbers.
  module _ (setup : Setup) (vs : processors s ≡ setup.processors) (ps : pages s ≡ setup.pages) (more : List (List ℕ)) where
    ranged-access : (access : Access) (x : ℕ)
        → cond (eqb (number_of (step s (Made v mode (accessed access p x))).answer) 1) (ended refusal) (of_asked s (asks v mode p access) more)
        ≡ of_asked s (ranged_by setup (asks v mode p access)) more
    ranged-access access x = go (ltb v.0 setup.processors) refl (leb mode 1) refl (ltb p.0 setup.pages) refl
      where
        go : (a : Bool) → ltb v.0 setup.processors ≡ a → (b : Bool) → leb mode 1 ≡ b → (c : Bool) → ltb p.0 setup.pages ≡ c
            → cond (eqb (number_of (step s (Made v mode (accessed access p x))).answer) 1) (ended refusal) (of_asked s (asks v mode p access) more)
            ≡ of_asked s (cond (a && b && c) (asks v mode p access) None) more
        go true e true f true g =
            let on : v.0 < processors s = rw vs (ltb-true v.0 setup.processors e) in
            let at : p.0 < pages s = rw ps (ltb-true p.0 setup.pages g) in
            rw (inside access x on (leb-true mode 1 f) at)
        go true e true f false g =
            let past : leb (pages s) p.0 ≡ true = rw ps (le-leb setup.pages p.0 (ltb-false p.0 setup.pages g)) in
            rw (outside access x (three past))
        go true e false f c g =
            let past : ltb 1 mode ≡ true = lt-ltb 1 mode (leb-false mode 1 f) in
            rw (outside access x (two past))
        go false e b f c g =
            let past : leb (processors s) v.0 ≡ true = rw vs (le-leb setup.processors v.0 (ltb-false v.0 setup.processors e)) in
            rw (outside access x (one past))

-- The same of any line: one that asks for no access is refused either way.
pub either_way : (b : Bool) → cond b (ended refusal) (ended refusal) ≡ ended refusal
either_way true = refl
either_way false = refl

module _ (s : State) (w : well_formed s ≡ true) (setup : Setup) (vs : processors s ≡ setup.processors) (ps : pages s ≡ setup.pages) (more : List (List ℕ)) where
  abbrev Ranged : Result Event Refusal → Type 0
  Ranged said = of_line s said more ≡ of_asked s (ranged_by setup (asked_by said)) more

  nothing-asked : (said : Result Event Refusal) → asked_by said ≡ None → Ranged said
  nothing-asked said e = rw e (either_way (eqb (number_of (answered s said).answer) 1))

  ranged-action : (v : Processor) (mode : ℕ) (a : Action) → Ranged (Ok (Made v mode a))
  ranged-action v mode (Enpart t mbec) = nothing-asked (Ok (Made v mode (Enpart t mbec))) refl
  ranged-action v mode (Envp u t ip sp cr) = nothing-asked (Ok (Made v mode (Envp u t ip sp cr))) refl
  ranged-action v mode (Call len) = nothing-asked (Ok (Made v mode (Call len))) refl
  ranged-action v mode (Ret len) = nothing-asked (Ok (Made v mode (Ret len))) refl
  ranged-action v mode (Read p) = ranged-access s w v mode p setup vs ps more Access.Read 0
  ranged-action v mode (Write p x) = ranged-access s w v mode p setup vs ps more Access.Write x
  ranged-action v mode (Fetch p) = ranged-access s w v mode p setup vs ps more Access.Fetch 0
  ranged-action v mode (Protect p k) = nothing-asked (Ok (Made v mode (Protect p k))) refl
  ranged-action v mode (Config g word) = nothing-asked (Ok (Made v mode (Config g word))) refl
  ranged-action v mode (Secure l word) = nothing-asked (Ok (Made v mode (Secure l word))) refl
  ranged-action v mode Flush = nothing-asked (Ok (Made v mode Flush)) refl
  ranged-action v mode (Rreg g r) = nothing-asked (Ok (Made v mode (Rreg g r))) refl
  ranged-action v mode (Wreg g r x) = nothing-asked (Ok (Made v mode (Wreg g r x))) refl
  ranged-action v mode (Tpr class) = nothing-asked (Ok (Made v mode (Tpr class))) refl
  ranged-action v mode Ack = nothing-asked (Ok (Made v mode Ack)) refl
  ranged-action v mode Pstat = nothing-asked (Ok (Made v mode Pstat)) refl
  ranged-action v mode Vstat = nothing-asked (Ok (Made v mode Vstat)) refl
  ranged-action v mode Caps = nothing-asked (Ok (Made v mode Caps)) refl
  ranged-action v mode (Cri word) = nothing-asked (Ok (Made v mode (Cri word))) refl
  ranged-action v mode (Crm n mask) = nothing-asked (Ok (Made v mode (Crm n mask))) refl

  pub ranged : (said : Result Event Refusal) → Ranged said
  ranged (Err r) = nothing-asked (Err r) refl
  ranged (Ok (Made v mode a)) = ranged-action v mode a
  ranged (Ok (Int u g n)) = nothing-asked (Ok (Int u g n)) refl
