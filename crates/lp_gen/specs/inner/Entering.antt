-- The variables that a record begins with: its own ones, in the next registers.
use Rattle.std.specs.Prelude.{◌≡◌, ℕ, zero, suc, ◌+◌, List, [], ◌∷◌, ◌++◌, map, length, false}
use Rattle.lp_calculus.specs.Types.{Ty}
use Rattle.lp_term.specs.Nodes.{Nodes, type_tree}
use Rattle.lp_term.specs.declared.node.TypeId.{TypeId}
use Rattle.lp_code.specs.declared.instruction.Instr.{Instr}
use Rattle.lp_code.specs.declared.instruction.Instr.TheVariants as on
use Rattle.lp_gen.specs.declared.emitter.Emitter.{Emitter}
use Rattle.lp_gen.specs.declared.environment.Environment.{Environment}
use Rattle.lp_gen.specs.Steps.{Seen, Around}
use Rattle.lp_gen.specs.inner.Listing.{around_of}

-- a variable that is still to be made
abbrev pub unmade : (register : ℕ) → Ty → Seen
unmade r T = record { register = r; of = T; is_set = false }

-- those of a clause from a register on, index 0 the first of them: the outermost one first
abbrev pub clause_own : (first : ℕ) → List Ty → List Seen
clause_own r [] = []
clause_own r (T ∷ Ts) = clause_own (r + 1) Ts ++ unmade r T ∷ []

-- those of a query, the outermost index the first of them
abbrev pub query_own : (first : ℕ) → List Ty → List Seen
query_own r [] = []
query_own r (T ∷ Ts) = unmade r T ∷ query_own (r + 1) Ts

abbrev pub behind : Around → List Seen → Around
behind a vs = record { own = a.own ++ vs; base = a.base; captured = a.captured }

-- so many registers are taken, and these variables are around
pub record Entered (e e' : Emitter) (env env' : Environment) (count : ℕ) (own : Nodes → List Seen) : Type 0 where
  pub code_stays : e'.code.items ≡ e.code.items
  pub types_stay : e'.types ≡ e.types
  pub registers_are : e'.registers ≡ e.registers + count
  pub around : (b : Nodes) → around_of b env' ≡ behind (around_of b env) (own b)

abbrev pub types_at : Nodes → List TypeId → List Ty
types_at b ids = map (λ t. type_tree b t.0) ids

abbrev pub ClauseEntered : (e e' : Emitter) → (env env' : Environment) → List TypeId → Type 0
ClauseEntered e e' env env' ids = Entered e e' env env' (length ids) (λ b. clause_own e.registers (types_at b ids))

abbrev pub QueryEntered : (e e' : Emitter) → (env env' : Environment) → List TypeId → Type 0
QueryEntered e e' env env' ids = Entered e e' env env' (length ids) (λ b. query_own e.registers (types_at b ids))

-- the type variables that a record makes itself, in registers from one on
abbrev pub news : (first count : ℕ) → List Instr
news r zero = []
news r (suc n) = on.TyNew r ∷ news (suc r) n

pub record TypesMade (e e' : Emitter) (count : ℕ) : Type 0 where
  pub code_is : e'.code.items ≡ e.code.items ++ news e.types count
  pub types_are : e'.types ≡ e.types + count
  pub registers_stay : e'.registers ≡ e.registers
