use Rattle.std.proofs.Common.{◌≡◌, [], map, take}
use Rattle.lp_term.specs.Nodes.{tree}
use Rattle.lp_gen.specs.Steps.{constant_function, head_type}
use Rattle.lp_gen.specs.inner.Listing.{around_of, read_function}
use Rattle.lp_gen.specs.inner.Written.{left_by}
use Rattle.lp_gen.specs.inner.Heading.{ArgumentsGot}
use Rattle.lp_gen.specs.Registers.{head_arguments_take, behind_arguments}
use Rattle.lp_gen.specs.inner.Using.{Uses}
use Rattle.lp_gen.proofs.head.get_arguments.Given as goal

abbrev pub invariant-loop-at : goal.invariant-loop-at
invariant-loop-at l =
    ArgumentsGot (constant_function l.tables.bank.now l.tables.constants.now) l.fn.emitter l.emitter (around_of l.tables.bank.now l.fn.environment) (around_of l.tables.bank.now l.environment)
    (head_type (constant_function l.tables.bank.now l.tables.constants.now) [] (around_of l.tables.bank.now l.fn.environment)
    (tree l.tables.bank.now l.fn.head.0)) (map (λ t. tree l.tables.bank.now t.0)
    (take l.at l.args))
    × (read_function l.tables.bank.now l.function ≡ left_by (head_type (constant_function l.tables.bank.now l.tables.constants.now) [] (around_of l.tables.bank.now l.fn.environment)
    (tree l.tables.bank.now l.fn.head.0)) l.at)
    × (around_of l.tables.bank.now l.environment ≡ behind_arguments (constant_function l.tables.bank.now l.tables.constants.now) (around_of l.tables.bank.now l.fn.environment) (head_type (constant_function l.tables.bank.now l.tables.constants.now) [] (around_of l.tables.bank.now l.fn.environment) (tree l.tables.bank.now l.fn.head.0)) (map (λ t. tree l.tables.bank.now t.0) (take l.at l.args)))
    × Uses l.fn.emitter l.emitter (head_arguments_take (constant_function l.tables.bank.now l.tables.constants.now) (around_of l.tables.bank.now l.fn.environment) 0 (head_type (constant_function l.tables.bank.now l.tables.constants.now) [] (around_of l.tables.bank.now l.fn.environment) (tree l.tables.bank.now l.fn.head.0)) (map (λ t. tree l.tables.bank.now t.0) (take l.at l.args)))
