use Rattle.lp_files.proofs.Used.{begins_named, have_used, used_once}
use Rattle.lp_files.proofs.laws.objects_in_order_are_all_that_are_used.Goals as goal

pub returns-clause-first : goal.returns-clause-first
returns-clause-first c = begins_named

pub returns-clause-used : goal.returns-clause-used
returns-clause-used c = have_used

pub returns-clause-once : goal.returns-clause-once
returns-clause-once c = used_once
