use Rattle.lp_build.proofs.Reading.{none_read}
use Rattle.lp_build.proofs.Walking.{walk_begun}
use Rattle.lp_build.proofs.load.gather_with.Goals as goal

pub returns-in-Ok-clause-read : goal.returns-in-Ok-clause-read
returns-in-Ok-clause-read g c = c.in-Ok.ensures.read (none_read _ c.new-loading.ensures.files)

pub returns-clause-read_so_far : goal.returns-clause-read_so_far
returns-clause-read_so_far g c = c.in-Err.ensures.read (none_read _ c.new-loading.ensures.files)

pub returns-in-Ok-clause-ordered : goal.returns-in-Ok-clause-ordered
returns-in-Ok-clause-ordered g c = c.in-Ok.ensures.walked c.args.all
    (walk_begun c.args.all c.args.root.now c.new-loading.result c.new-loading.ensures.all c.new-loading.ensures.files c.new-loading.ensures.refused c.new-loading.ensures.work c.new-loading.ensures.names)

pub returns-clause-ordered_so_far : goal.returns-clause-ordered_so_far
returns-clause-ordered_so_far g c = c.in-Err.ensures.so_far c.args.all
    (walk_begun c.args.all c.args.root.now c.new-loading.result c.new-loading.ensures.all c.new-loading.ensures.files c.new-loading.ensures.refused c.new-loading.ensures.work c.new-loading.ensures.names)
