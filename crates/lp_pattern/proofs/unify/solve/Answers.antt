use Rattle.std.proofs.Common.{◌≡◌, ℕ, List, Some, map, length}
use Rattle.lp_calculus.specs.Types.{var}
use Rattle.lp_term.proofs.Moves.{passed_up}
use Rattle.lp_model.specs.Pair.{Closing}
use Rattle.lp_model.specs.Proofs.{Declared}
use Rattle.lp_model.specs.Answers.{Variable}
use Rattle.lp_model.specs.Unify.{Unified, Solution, solve}
use Rattle.lp_unify_laws.specs.Solutions.{IsTypedInput, IsSolution as SolvesInput}
use Rattle.lp_pattern.specs.declared.fault.PatternRefusal.TheVariants.{Fails}
use Rattle.lp_pattern.specs.declared.fault.PatternRefusal.TheVariants as PatternRefusal
use Rattle.lp_pattern.proofs.SolutionsFound.{right_found, none_found}
use Rattle.lp_pattern.specs.Reading.{type_pairs_of}
use Rattle.lp_pattern.specs.Turning.{AreKnownPairs}
use Rattle.lp_pattern.specs.Unifying.{pair_of, pairs_at, run, unbound, ComesToOutcome, IsSolution, IsTypedRun, IsRefusedAs}
use Rattle.lp_pattern.proofs.TypedRuns.{typed_comes}
use Rattle.lp_pattern.proofs.Unbound.{unbound_reading, pairs_unbound, listed}
use Rattle.lp_pattern.proofs.unify.solve.Goals as goal

pub returns-in_err-residual-clause-refused : goal.returns-in_err-residual-clause-refused
returns-in_err-residual-clause-refused c =
    passed_up c.from_residual.result c.in_err-residual.field-0.0
    (λ e. (levels : ℕ → ℕ) → AreKnownPairs levels c.args.next.now (map (pair_of c.args.bank.now) c.args.pairs.now) → AreKnownPairs levels c.args.next.now (map (pair_of c.args.bank.now) c.args.delayed.now) → (n : ℕ) (u : Unified) →
    solve n c.args.limit (type_pairs_of c.args.bank.now var c.args.types.now) (map (pair_of c.args.bank.now) c.args.pairs.now) (map (pair_of c.args.bank.now) c.args.delayed.now) c.args.next.now ≡ Some u → IsRefusedAs e n u)
    c.from_residual.ensures.1
    (λ lv k m n u h. c.in_err-residual.ensures.refused unbound (unbound_reading c.args.bank.now c.new-bindings.result c.args.next.now c.new-bindings.ensures.terms c.new-bindings.ensures.types) lv (map (pair_of c.args.bank.now) c.args.pairs.now) (map (pair_of c.args.bank.now) c.args.delayed.now)
    (pairs_unbound c.args.bank.now c.args.pairs.now) (pairs_unbound c.args.bank.now c.args.delayed.now) k m n u h)

pub returns-in_err-residual-clause-none : goal.returns-in_err-residual-clause-none
returns-in_err-residual-clause-none c =
    passed_up c.from_residual.result c.in_err-residual.field-0.0
    (λ e. e ≡ Fails → (d : Declared) (V : List Variable) (z : Closing) → length V ≡ c.args.next.now → IsTypedInput z.types d V (type_pairs_of c.args.bank.now var c.args.types.now) (pairs_at c.args.bank.now c.args.pairs.now) (pairs_at c.args.bank.now c.args.delayed.now) →
    (n : ℕ) (u : Unified) → run n c.args.limit c.args.bank.now c.args.types.now c.args.pairs.now c.args.delayed.now c.args.next.now ≡ Some u →
    SolvesInput d V z (type_pairs_of c.args.bank.now var c.args.types.now) (pairs_at c.args.bank.now c.args.pairs.now)
    (pairs_at c.args.bank.now c.args.delayed.now) → ⊥)
    c.from_residual.ensures.1
    (λ fails d V z count i n u h w. none_found c.in_err-residual.field-0.0 fails d V z c.args.next.now n c.args.limit (type_pairs_of c.args.bank.now var c.args.types.now) (pairs_at c.args.bank.now c.args.pairs.now) (pairs_at c.args.bank.now c.args.delayed.now) u count i h
    (λ lv k m. c.in_err-residual.ensures.refused unbound (unbound_reading c.args.bank.now c.new-bindings.result c.args.next.now c.new-bindings.ensures.terms c.new-bindings.ensures.types) lv (pairs_at c.args.bank.now c.args.pairs.now) (pairs_at c.args.bank.now c.args.delayed.now)
    (pairs_unbound c.args.bank.now c.args.pairs.now) (pairs_unbound c.args.bank.now c.args.delayed.now) k m n u h) w)

pub returns-clause-right : goal.returns-clause-right
returns-clause-right c = λ d V θ count i n s h k m.
    right_found d V θ c.args.next.now n c.args.limit (type_pairs_of c.args.bank.now var c.args.types.now) (pairs_at c.args.bank.now c.args.pairs.now) (pairs_at c.args.bank.now c.args.delayed.now) s c.solve_under.new.bank c.solve_under.new.next
    (record { bindings = c.in_ok-term_entries.field-0; types = c.in_ok-type_entries.field-0; residual = c.in_ok-residual.residual }) count i h k m
    (λ lv p q. listed lv c.args.next.now c.solve_under.new.next c.solve_under.new.bank c.solve_under.new.bindings
    (record { bindings = c.in_ok-term_entries.field-0; types = c.in_ok-type_entries.field-0; residual = c.in_ok-residual.residual }) (Solution s)
    c.in_ok-term_entries.ensures c.in_ok-type_entries.ensures
    (c.in_ok-residual.ensures.solved unbound (unbound_reading c.args.bank.now c.new-bindings.result c.args.next.now c.new-bindings.ensures.terms c.new-bindings.ensures.types) lv (pairs_at c.args.bank.now c.args.pairs.now) (pairs_at c.args.bank.now c.args.delayed.now)
    (pairs_unbound c.args.bank.now c.args.pairs.now) (pairs_unbound c.args.bank.now c.args.delayed.now) p q n (Solution s) h))

pub returns-clause-solved : goal.returns-clause-solved
returns-clause-solved c = λ lv k m n u h.
    listed lv c.args.next.now c.solve_under.new.next c.solve_under.new.bank c.solve_under.new.bindings (record { bindings = c.in_ok-term_entries.field-0; types = c.in_ok-type_entries.field-0; residual = c.in_ok-residual.residual }) u c.in_ok-term_entries.ensures c.in_ok-type_entries.ensures
    (c.in_ok-residual.ensures.solved unbound (unbound_reading c.args.bank.now c.new-bindings.result c.args.next.now c.new-bindings.ensures.terms c.new-bindings.ensures.types) lv (map (pair_of c.args.bank.now) c.args.pairs.now) (map (pair_of c.args.bank.now) c.args.delayed.now)
    (pairs_unbound c.args.bank.now c.args.pairs.now) (pairs_unbound c.args.bank.now c.args.delayed.now) k m n u h)

pub returns-clause-typed : goal.returns-clause-typed
returns-clause-typed c = λ d V t lv k m.
    typed_comes d V c.args.limit c.args.bank.now c.args.types.now c.args.pairs.now c.args.delayed.now c.args.next.now t
    (λ n u. IsSolution lv c.args.next.now c.solve_under.new.bank c.solve_under.new.next (record { bindings = c.in_ok-term_entries.field-0; types = c.in_ok-type_entries.field-0; residual = c.in_ok-residual.residual }) u)
    (λ n u h. returns-clause-solved c lv k m n u h)

pub returns-in_err-residual-clause-typed_refused : goal.returns-in_err-residual-clause-typed_refused
returns-in_err-residual-clause-typed_refused c =
    passed_up c.from_residual.result c.in_err-residual.field-0.0
    (λ e. (d : Declared) (V : List Variable) → IsTypedRun d V c.args.bank.now c.args.types.now c.args.pairs.now c.args.delayed.now c.args.next.now → (levels : ℕ → ℕ) → AreKnownPairs levels c.args.next.now (pairs_at c.args.bank.now c.args.pairs.now) →
    AreKnownPairs levels c.args.next.now (pairs_at c.args.bank.now c.args.delayed.now) → ComesToOutcome c.args.limit c.args.bank.now c.args.types.now c.args.pairs.now c.args.delayed.now c.args.next.now (IsRefusedAs e))
    c.from_residual.ensures.1
    (λ d V t lv k m. typed_comes d V c.args.limit c.args.bank.now c.args.types.now c.args.pairs.now c.args.delayed.now c.args.next.now t (IsRefusedAs c.in_err-residual.field-0.0)
    (λ n u h. c.in_err-residual.ensures.refused unbound (unbound_reading c.args.bank.now c.new-bindings.result c.args.next.now c.new-bindings.ensures.terms c.new-bindings.ensures.types) lv (pairs_at c.args.bank.now c.args.pairs.now) (pairs_at c.args.bank.now c.args.delayed.now)
    (pairs_unbound c.args.bank.now c.args.pairs.now) (pairs_unbound c.args.bank.now c.args.delayed.now) k m n u h))

pub returns-in_err-term_entries-clause-typed_refused : goal.returns-in_err-term_entries-clause-typed_refused
returns-in_err-term_entries-clause-typed_refused c =
    passed_up c.from_residual-in_err-term_entries.result PatternRefusal.Memory
    (λ e. (d : Declared) (V : List Variable) → IsTypedRun d V c.args.bank.now c.args.types.now c.args.pairs.now c.args.delayed.now c.args.next.now → (levels : ℕ → ℕ) → AreKnownPairs levels c.args.next.now (pairs_at c.args.bank.now c.args.pairs.now) →
    AreKnownPairs levels c.args.next.now (pairs_at c.args.bank.now c.args.delayed.now) → ComesToOutcome c.args.limit c.args.bank.now c.args.types.now c.args.pairs.now c.args.delayed.now c.args.next.now (IsRefusedAs e))
    c.from_residual-in_err-term_entries.ensures.1
    (λ d V t lv k m. typed_comes d V c.args.limit c.args.bank.now c.args.types.now c.args.pairs.now c.args.delayed.now c.args.next.now t (IsRefusedAs PatternRefusal.Memory) (λ n u h. tt))

pub returns-in_err-type_entries-clause-typed_refused : goal.returns-in_err-type_entries-clause-typed_refused
returns-in_err-type_entries-clause-typed_refused c =
    passed_up c.from_residual-in_err-type_entries.result PatternRefusal.Memory
    (λ e. (d : Declared) (V : List Variable) → IsTypedRun d V c.args.bank.now c.args.types.now c.args.pairs.now c.args.delayed.now c.args.next.now → (levels : ℕ → ℕ) → AreKnownPairs levels c.args.next.now (pairs_at c.args.bank.now c.args.pairs.now) →
    AreKnownPairs levels c.args.next.now (pairs_at c.args.bank.now c.args.delayed.now) → ComesToOutcome c.args.limit c.args.bank.now c.args.types.now c.args.pairs.now c.args.delayed.now c.args.next.now (IsRefusedAs e))
    c.from_residual-in_err-type_entries.ensures.1
    (λ d V t lv k m. typed_comes d V c.args.limit c.args.bank.now c.args.types.now c.args.pairs.now c.args.delayed.now c.args.next.now t (IsRefusedAs PatternRefusal.Memory) (λ n u h. tt))
