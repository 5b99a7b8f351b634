-- The bytes of an entry are put one behind the other: the laws in Entries.
use Rattle.results.proofs.Entries.{put-cut, put-retry, put-received}
use Rattle.results.proofs.sort.put_entry.Goals as goal

pub returns-in-Cut : goal.returns-in-Cut
returns-in-Cut c = put-cut _ _ _ c.requires _ _ _ c.in-Cut.is c.put_number.ensures c.put_number-in-Cut.ensures

pub returns-in-Retry : goal.returns-in-Retry
returns-in-Retry c = put-retry _ _ _ _ c.in-Retry.is c.put_number-in-Retry.ensures

pub returns-in-Received : goal.returns-in-Received
returns-in-Received c = put-received _ _ _ _ c.in-Received.is c.put_number-in-Received.ensures
