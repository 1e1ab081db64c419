-- W-207 of lists of exported calls: they are lists of calls on what the bytes mean, and those lose nothing.
use Rattle.chain.proofs.NothingLost.{nothing_lost}
use Rattle.host.specs.Exports.{lent_in}
use Rattle.delivered.specs.NothingLost.{HostLosesNothing}
use Rattle.delivered.proofs.Lists.{as_chain}

pub host_loses_nothing : HostLosesNothing
host_loses_nothing pack P C only events store slots list d words =
    nothing_lost pack P C only events (lent_in store slots list) (as_chain pack P C events store slots list d).0 words
