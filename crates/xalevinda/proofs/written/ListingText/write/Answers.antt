-- `xalevinda::written::Listing::write` meets its contract: what a fresh session writes of a script is its listing. Assumes nothing.
use Rattle.session.proofs.WholeListing.{listing-consumed}
use Rattle.xalevinda.proofs.written.ListingText.write.Goals as goal

pub returns : goal.returns
returns c = rw (← listing-consumed c.args.input.now, ← c.fresh.ensures) c.write.ensures
