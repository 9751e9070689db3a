use Rattle.std.proofs.Common.{rules}
use Rattle.listing.specs.Listing.{pieces_of}
use Rattle.listing.proofs.Judged.{listing_as}
use Rattle.listing.proofs.put_listing.Goals as goal

pub returns-in-Ok : goal.returns-in-Ok
unfolding pieces_of
returns-in-Ok c = let listed = listing_as _ c.in-Ok.is c.read.ensures.value in search (rules, listed)

pub returns-in-Err : goal.returns-in-Err
unfolding pieces_of
returns-in-Err c = let listed = listing_as _ c.in-Err.is c.read.ensures.value in search (rules, listed)
