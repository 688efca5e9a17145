use Rattle.std.proofs.Common.{◌≡◌, []}
use Rattle.lp_gen.specs.declared.written_types.TypeTask.TheVariants as on
use Rattle.lp_gen.specs.inner.Sizes.{type_work}
use Rattle.lp_gen.specs.inner.Spending.{Spent}
use Rattle.lp_gen.specs.inner.Works.{IsGrown, work_now, act, done}
use Rattle.lp_gen.proofs.written_types.put_type.Given as goal

abbrev pub decreases-types : goal.decreases-types
decreases-types l = type_work l.bank l.work.items

abbrev pub invariant-types : goal.invariant-types
invariant-types l = IsGrown l.fn.emitter l.emitter × (done l.bank l.work.items (work_now l.emitter l.made.items) ≡ act l.bank (on.Visit l.fn.of) (work_now l.fn.emitter []))
    × Spent l.fn.emitter l.emitter
