-- Whether a level asks to be told of an access to a register, read or written (02, request 6). Assumes nothing.
use Rattle.std.specs.Prelude.{Bool}
use Rattle.model.specs.declared.machine.Watch.{Watch}
use Rattle.model.specs.Watching.{asks_read, asks_write}
use Rattle.watch.specs.declared.asking.RegisterAccess.{RegisterAccess}
use Rattle.watch.specs.declared.asking.RegisterAccess.TheVariants.{Read, Write}

abbrev pub asks_for : RegisterAccess → Watch → Bool
asks_for (Read r) = asks_read r
asks_for (Write r old new) = asks_write r old new
