use Rattle.std.proofs.Common.{◌≡◌, [], map, length}
use Rattle.lp_term.specs.Nodes.{tree}
use Rattle.lp_gen.specs.Steps.{constant_function, head_type}
use Rattle.lp_gen.specs.inner.Listing.{around_of, read_function}
use Rattle.lp_gen.specs.inner.Written.{ArgumentsWritten, left_by}
use Rattle.lp_gen.specs.Registers.{terms_take, behind_terms}
use Rattle.lp_gen.specs.inner.Using.{Uses}
use Rattle.lp_gen.proofs.terms.put_arguments.Given as goal

abbrev pub invariant-loop-arg : goal.invariant-loop-arg
invariant-loop-arg l =
    ArgumentsWritten (constant_function l.tables.bank.now l.tables.constants.now) l.fn.emitter l.emitter (around_of l.tables.bank.now l.fn.environment) (around_of l.tables.bank.now l.environment)
    l.registers.items (head_type (constant_function l.tables.bank.now l.tables.constants.now) [] (around_of l.tables.bank.now l.fn.environment)
    (tree l.tables.bank.now l.fn.head.0)) (map (λ t. tree l.tables.bank.now t.0)
    l.yielded)
    × (read_function l.tables.bank.now l.function ≡ left_by (head_type (constant_function l.tables.bank.now l.tables.constants.now) [] (around_of l.tables.bank.now l.fn.environment)
    (tree l.tables.bank.now l.fn.head.0)) (length l.yielded))
    × (around_of l.tables.bank.now l.environment ≡ behind_terms (constant_function l.tables.bank.now l.tables.constants.now) (around_of l.tables.bank.now l.fn.environment) (head_type (constant_function l.tables.bank.now l.tables.constants.now) [] (around_of l.tables.bank.now l.fn.environment) (tree l.tables.bank.now l.fn.head.0)) (map (λ t. tree l.tables.bank.now t.0) l.yielded))
    × (length l.registers.items ≡ length l.yielded)
    × Uses l.fn.emitter l.emitter (terms_take (constant_function l.tables.bank.now l.tables.constants.now) (around_of l.tables.bank.now l.fn.environment) (head_type (constant_function l.tables.bank.now l.tables.constants.now) [] (around_of l.tables.bank.now l.fn.environment) (tree l.tables.bank.now l.fn.head.0)) (map (λ t. tree l.tables.bank.now t.0) l.yielded))
