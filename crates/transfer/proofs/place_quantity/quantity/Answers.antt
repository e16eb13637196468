-- `place_quantity::quantity` meets its contract: each part keeps what `kept_at` says. Assumes nothing.
use mathlib.Core.Path.{ap, ◌∙◌}
use native.Mathlib.Omega.{arith}
use Rattle.records.specs.Values.{number}
use Rattle.transfer.proofs.QuantityWords.{kept_as, limits_of}
use Rattle.transfer.proofs.place_quantity.quantity.Goals as goal

pub record_word-requires : goal.record_word-requires
record_word-requires c = omega (arith, limits_of c.args.setup c.args.place _ c.requires.0 c.in-Active.is)

pub overflow_sub-r : goal.overflow_sub-r
overflow_sub-r c = omega (arith, limits_of c.args.setup c.args.place _ c.requires.0 c.in-Shared.is)

pub record_word-requires-in-Shared : goal.record_word-requires-in-Shared
record_word-requires-in-Shared c = omega (arith, limits_of c.args.setup c.args.place _ c.requires.0 c.in-Shared.is)

pub row_word-requires : goal.row_word-requires
row_word-requires c = omega (arith, limits_of c.args.setup c.args.place _ c.requires.0 c.in-Register.is)

pub row_word-requires-in-Tpr : goal.row_word-requires-in-Tpr
row_word-requires-in-Tpr c = omega (arith, limits_of c.args.setup c.args.place _ c.requires.0 c.in-Tpr.is)

pub overflow_add-i : goal.overflow_add-i
overflow_add-i c = omega (arith, limits_of c.args.setup c.args.place _ c.requires.0 c.in-Pending.is)

pub row_word-requires-in-Pending : goal.row_word-requires-in-Pending
row_word-requires-in-Pending c = omega (arith, limits_of c.args.setup c.args.place _ c.requires.0 c.in-Pending.is)

pub is_enabled-requires : goal.is_enabled-requires
is_enabled-requires c = omega (arith, limits_of c.args.setup c.args.place _ c.requires.0 c.in-Enabled.is)

pub overflow_add-k : goal.overflow_add-k
overflow_add-k c = omega (arith, limits_of c.args.setup c.args.place _ c.requires.0 c.in-Secure.is)

pub row_word-requires-in-Secure : goal.row_word-requires-in-Secure
row_word-requires-in-Secure c = omega (arith, limits_of c.args.setup c.args.place _ c.requires.0 c.in-Secure.is)

pub row_word-requires-in-Reason : goal.row_word-requires-in-Reason
row_word-requires-in-Reason c = omega (arith, limits_of c.args.setup c.args.place _ c.requires.0 c.in-Reason.is)

pub row_word-requires-in-From : goal.row_word-requires-in-From
row_word-requires-in-From c = omega (arith, limits_of c.args.setup c.args.place _ c.requires.0 c.in-From.is)

pub row_word-requires-in-Rax : goal.row_word-requires-in-Rax
row_word-requires-in-Rax c = omega (arith, limits_of c.args.setup c.args.place _ c.requires.0 c.in-Rax.is)

pub row_word-requires-in-Rcx : goal.row_word-requires-in-Rcx
row_word-requires-in-Rcx c = omega (arith, limits_of c.args.setup c.args.place _ c.requires.0 c.in-Rcx.is)

pub word_at-requires : goal.word_at-requires
word_at-requires c = omega (arith, limits_of c.args.setup c.args.place _ c.requires.0 c.in-Word.is)

pub row_word-requires-in-Intercepts : goal.row_word-requires-in-Intercepts
row_word-requires-in-Intercepts c = omega (arith, limits_of c.args.setup c.args.place _ c.requires.0 c.in-Intercepts.is)

pub row_word-requires-in-Cr0Mask : goal.row_word-requires-in-Cr0Mask
row_word-requires-in-Cr0Mask c = omega (arith, limits_of c.args.setup c.args.place _ c.requires.0 c.in-Cr0Mask.is)

pub row_word-requires-in-Cr4Mask : goal.row_word-requires-in-Cr4Mask
row_word-requires-in-Cr4Mask c = omega (arith, limits_of c.args.setup c.args.place _ c.requires.0 c.in-Cr4Mask.is)

pub returns-in-PartitionEnabled : goal.returns-in-PartitionEnabled
returns-in-PartitionEnabled c =
    c.one_if.ensures ∙ ap number c.enabled_for.ensures ∙ kept_as c.args.setup c.args.parts.now.levels c.args.parts.now.masks c.args.parts.now.vps c.args.words.now c.args.place _ c.requires.0 c.in-PartitionEnabled.is

pub returns-in-Mbec : goal.returns-in-Mbec
returns-in-Mbec c =
    c.one_if-in-Mbec.ensures ∙ ap number c.mbec_for.ensures ∙ kept_as c.args.setup c.args.parts.now.levels c.args.parts.now.masks c.args.parts.now.vps c.args.words.now c.args.place _ c.requires.0 c.in-Mbec.is

pub returns-in-Config : goal.returns-in-Config
returns-in-Config c =
    c.config_at.ensures ∙ kept_as c.args.setup c.args.parts.now.levels c.args.parts.now.masks c.args.parts.now.vps c.args.words.now c.args.place _ c.requires.0 c.in-Config.is

pub returns-in-Active : goal.returns-in-Active
returns-in-Active c =
    c.record_word.ensures ∙ kept_as c.args.setup c.args.parts.now.levels c.args.parts.now.masks c.args.parts.now.vps c.args.words.now c.args.place _ c.requires.0 c.in-Active.is

pub returns-in-Shared : goal.returns-in-Shared
returns-in-Shared c =
    c.record_word-in-Shared.ensures ∙ kept_as c.args.setup c.args.parts.now.levels c.args.parts.now.masks c.args.parts.now.vps c.args.words.now c.args.place _ c.requires.0 c.in-Shared.is

pub returns-in-Register : goal.returns-in-Register
returns-in-Register c =
    c.row_word.ensures ∙ kept_as c.args.setup c.args.parts.now.levels c.args.parts.now.masks c.args.parts.now.vps c.args.words.now c.args.place _ c.requires.0 c.in-Register.is

pub returns-in-Tpr : goal.returns-in-Tpr
returns-in-Tpr c =
    c.row_word-in-Tpr.ensures ∙ kept_as c.args.setup c.args.parts.now.levels c.args.parts.now.masks c.args.parts.now.vps c.args.words.now c.args.place _ c.requires.0 c.in-Tpr.is

pub returns-in-Pending : goal.returns-in-Pending
returns-in-Pending c =
    c.row_word-in-Pending.ensures ∙ kept_as c.args.setup c.args.parts.now.levels c.args.parts.now.masks c.args.parts.now.vps c.args.words.now c.args.place _ c.requires.0 c.in-Pending.is

pub returns-in-Enabled : goal.returns-in-Enabled
returns-in-Enabled c =
    c.is_enabled.ensures ∙ kept_as c.args.setup c.args.parts.now.levels c.args.parts.now.masks c.args.parts.now.vps c.args.words.now c.args.place _ c.requires.0 c.in-Enabled.is

pub returns-in-Secure : goal.returns-in-Secure
returns-in-Secure c =
    c.row_word-in-Secure.ensures ∙ kept_as c.args.setup c.args.parts.now.levels c.args.parts.now.masks c.args.parts.now.vps c.args.words.now c.args.place _ c.requires.0 c.in-Secure.is

pub returns-in-Reason : goal.returns-in-Reason
returns-in-Reason c =
    c.row_word-in-Reason.ensures ∙ kept_as c.args.setup c.args.parts.now.levels c.args.parts.now.masks c.args.parts.now.vps c.args.words.now c.args.place _ c.requires.0 c.in-Reason.is

pub returns-in-From : goal.returns-in-From
returns-in-From c =
    c.row_word-in-From.ensures ∙ kept_as c.args.setup c.args.parts.now.levels c.args.parts.now.masks c.args.parts.now.vps c.args.words.now c.args.place _ c.requires.0 c.in-From.is

pub returns-in-Rax : goal.returns-in-Rax
returns-in-Rax c =
    c.row_word-in-Rax.ensures ∙ kept_as c.args.setup c.args.parts.now.levels c.args.parts.now.masks c.args.parts.now.vps c.args.words.now c.args.place _ c.requires.0 c.in-Rax.is

pub returns-in-Rcx : goal.returns-in-Rcx
returns-in-Rcx c =
    c.row_word-in-Rcx.ensures ∙ kept_as c.args.setup c.args.parts.now.levels c.args.parts.now.masks c.args.parts.now.vps c.args.words.now c.args.place _ c.requires.0 c.in-Rcx.is

pub returns-in-Word : goal.returns-in-Word
returns-in-Word c =
    c.word_at.ensures ∙ kept_as c.args.setup c.args.parts.now.levels c.args.parts.now.masks c.args.parts.now.vps c.args.words.now c.args.place _ c.requires.0 c.in-Word.is

pub returns-in-Mask : goal.returns-in-Mask
returns-in-Mask c =
    c.mask_at.ensures ∙ kept_as c.args.setup c.args.parts.now.levels c.args.parts.now.masks c.args.parts.now.vps c.args.words.now c.args.place _ c.requires.0 c.in-Mask.is

pub returns-in-Intercepts : goal.returns-in-Intercepts
returns-in-Intercepts c =
    c.row_word-in-Intercepts.ensures ∙ kept_as c.args.setup c.args.parts.now.levels c.args.parts.now.masks c.args.parts.now.vps c.args.words.now c.args.place _ c.requires.0 c.in-Intercepts.is

pub returns-in-Cr0Mask : goal.returns-in-Cr0Mask
returns-in-Cr0Mask c =
    c.row_word-in-Cr0Mask.ensures ∙ kept_as c.args.setup c.args.parts.now.levels c.args.parts.now.masks c.args.parts.now.vps c.args.words.now c.args.place _ c.requires.0 c.in-Cr0Mask.is

pub returns-in-Cr4Mask : goal.returns-in-Cr4Mask
returns-in-Cr4Mask c =
    c.row_word-in-Cr4Mask.ensures ∙ kept_as c.args.setup c.args.parts.now.levels c.args.parts.now.masks c.args.parts.now.vps c.args.words.now c.args.place _ c.requires.0 c.in-Cr4Mask.is
