use Rattle.std.proofs.Common.{length, vec_items}
use Rattle.listing.proofs.Listings.{Listing}
use Rattle.listing.proofs.list.push_records.Given as goal

-- the records before the rest are listed
abbrev pub invariant-loop-entry : goal.invariant-loop-entry
invariant-loop-entry l = Listing l.header.products l.records l.rest (vec_items l.initial.text) (vec_items l.text)

abbrev pub decreases-loop-entry : goal.decreases-loop-entry
decreases-loop-entry l = length l.rest
