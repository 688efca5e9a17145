use Rattle.std.proofs.Common.{◌≡◌, []}
use Rattle.lp_gen.specs.declared.listing.Task.TheVariants as on
use Rattle.lp_gen.specs.inner.Sizes.{term_work}
use Rattle.lp_gen.specs.Steps.{constant_function}
use Rattle.lp_gen.specs.inner.Listing.{around_of}
use Rattle.lp_gen.specs.inner.Tasks.{course, act, done}
use Rattle.lp_gen.proofs.listing.list_steps.Given as goal

abbrev pub decreases-terms : goal.decreases-terms
decreases-terms l = term_work l.tables.bank.now l.work.items

abbrev pub invariant-terms : goal.invariant-terms
invariant-terms l =
    done (constant_function l.tables.bank.now l.tables.constants.now) l.tables.bank.now l.work.items (course l.tables.bank.now l.environment l.lists)
    ≡ act (constant_function l.tables.bank.now l.tables.constants.now) l.tables.bank.now (on.Visit l.fn.term l.fn.of)
    (record { bound = []; steps = []; around = around_of l.tables.bank.now l.fn.environment })
