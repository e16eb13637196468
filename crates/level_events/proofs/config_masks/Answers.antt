-- `level_events::config_masks` meets its contract: the masks are filled only where protections turn on. Assumes nothing.
use Rattle.level_events.proofs.config_masks.Goals as goal

pub returns-then-turns_on-protects_at : goal.returns-then-turns_on-protects_at
returns-then-turns_on-protects_at c = rw (← c.turns_on.ensures, ← c.protects_at.ensures, c.if-turns_on-protects_at.true, c.fill_masks.ensures, c.default_mask.ensures)

pub returns-else-turns_on-protects_at : goal.returns-else-turns_on-protects_at
returns-else-turns_on-protects_at c = rw (← c.turns_on.ensures, ← c.protects_at.ensures, c.if-turns_on-protects_at.false)
