-- `access::denying_set` meets its contract: the set of four tests, of which that of level 0 fails. Assumes nothing.
use Rattle.std.proofs.Common.{◌≡◌, rules, tests}
use Rattle.partition.specs.Denying.{denies_attempt}
use Rattle.partition.specs.PartitionView.{partition_of}
use Rattle.partition.proofs.DenyingLevels.{denying-three}
use Rattle.partition.proofs.access.denying_set.Goals as goal

pub returns : goal.returns
returns c =
    let a = c.args in
    let x = partition_of a.levels.now a.masks.now in
    let one : c.denied_by.result ≡ denies_attempt a.shape a.pages x a.mbecs a.attempt 1 = search (rules, tests) in
    let two : c.denied_by-2.result ≡ denies_attempt a.shape a.pages x a.mbecs a.attempt 2 = search (rules, tests) in
    let three : c.denied_by-3.result ≡ denies_attempt a.shape a.pages x a.mbecs a.attempt 3 = search (rules, tests) in
    rw (c.level_set.ensures, three, two, one) (denying-three _ _ _ _ _)
