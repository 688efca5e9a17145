-- What the code of a body takes, step by step: what stands around each step, and the blocks that are open, each by how many variables the record had before it, the innermost one first.
use Rattle.std.specs.Prelude.{◌≡◌, ℕ, ◌+◌, ◌-◌, ◌≤◌, List, [], ◌∷◌, ◌++◌, map, reverse, length, sum_by, Option, Some, None, slice_get}
use Rattle.lp_calculus.specs.Types.{Ty}
use Rattle.lp_term.specs.Nodes.{Nodes, tree, type_tree}
use Rattle.lp_code.specs.declared.instruction.Instr.{Instr}
use Rattle.lp_code.specs.declared.instruction.Instr.TheVariants as instr
use Rattle.lp_code.specs.Length.{length_of}
use Rattle.lp_gen.specs.declared.emitter.Emitter.{Emitter}
use Rattle.lp_gen.specs.declared.environment.Environment.{Environment}
use Rattle.lp_gen.specs.declared.body.Block.{Block}
use Rattle.lp_gen.specs.declared.plan.Assumption.{Assumption}
use Rattle.lp_gen.specs.declared.plan.Step.{Step}
use Rattle.lp_gen.specs.declared.plan.Step.TheVariants as on
use Rattle.lp_gen.specs.Registers.{Amount, nothing, both, plain_code, atom_takes, variable_takes, assume_takes, with_variable}
use Rattle.lp_gen.specs.inner.Alike.{IsAlike}
use Rattle.lp_gen.specs.inner.Fitting.{misfits_of}
use Rattle.lp_gen.specs.Steps.{Around}
use Rattle.lp_gen.specs.inner.Listing.{around_of}
use Rattle.lp_gen.specs.inner.TermLaw.{AreSet}
use Rattle.lp_gen.specs.inner.OpenGoals.{cut_to}
use Rattle.lp_gen.specs.inner.BodyCode.{levels_found}
use Rattle.lp_gen.specs.inner.Using.{Uses}

-- an instruction that sets no register
abbrev pub instr_takes : Instr → Amount
instr_takes i = plain_code (length_of i) (misfits_of i)

-- an assumption is told by its number; without one there is a cut
abbrev pub assumption_takes : (type_vars : ℕ) → Around → Option Assumption → Amount
assumption_takes v a None = plain_code 1 0
assumption_takes v a (Some x) = assume_takes v (length (levels_found a x.captured.keys)) x.count

abbrev pub block_step_takes : Nodes → (type_vars : ℕ) → List Assumption → (constants : ℕ → List Ty → Ty) → Around → Step → Amount
block_step_takes b v xs K a (on.Atom t) = atom_takes K a (tree b t.0)
block_step_takes b v xs K a on.Cut = plain_code 1 0
block_step_takes b v xs K a on.Either = plain_code 5 0
block_step_takes b v xs K a on.Turn = plain_code 5 0
block_step_takes b v xs K a on.EndEither = nothing
block_step_takes b v xs K a (on.Some T) = variable_takes (type_tree b T.0)
block_step_takes b v xs K a (on.All T) = variable_takes (type_tree b T.0)
block_step_takes b v xs K a on.EndAll = plain_code 1 0
block_step_takes b v xs K a (on.Assume n) = assumption_takes v a (slice_get xs n)
block_step_takes b v xs K a on.EndAssume = plain_code 1 0
block_step_takes b v xs K a on.Not = plain_code 1 0
block_step_takes b v xs K a on.EndNot = plain_code 1 0

-- behind the innermost block, where one is open

abbrev pub around_left : List ℕ → Around → Around
around_left [] a = a
around_left (m ∷ ms) a = cut_to m a

abbrev pub blocks_left : List ℕ → List ℕ
blocks_left [] = []
blocks_left (m ∷ ms) = ms

abbrev pub around_behind : Nodes → (blocks : List ℕ) → Around → Step → Around
around_behind b ms a (on.Atom t) = a
around_behind b ms a on.Cut = a
around_behind b ms a on.Either = a
around_behind b ms a on.Turn = around_left ms a
around_behind b ms a on.EndEither = around_left ms a
around_behind b ms a (on.Some T) = with_variable a (type_tree b T.0)
around_behind b ms a (on.All T) = with_variable a (type_tree b T.0)
around_behind b ms a on.EndAll = around_left ms a
around_behind b ms a (on.Assume n) = a
around_behind b ms a on.EndAssume = around_left ms a
around_behind b ms a on.Not = a
around_behind b ms a on.EndNot = around_left ms a

abbrev pub blocks_behind : (blocks : List ℕ) → Around → Step → List ℕ
blocks_behind ms a (on.Atom t) = ms
blocks_behind ms a on.Cut = ms
blocks_behind ms a on.Either = length a.own ∷ ms
blocks_behind ms a on.Turn = length (around_left ms a).own ∷ blocks_left ms
blocks_behind ms a on.EndEither = blocks_left ms
blocks_behind ms a (on.Some T) = ms
blocks_behind ms a (on.All T) = length a.own ∷ ms
blocks_behind ms a on.EndAll = blocks_left ms
blocks_behind ms a (on.Assume n) = length a.own ∷ ms
blocks_behind ms a on.EndAssume = blocks_left ms
blocks_behind ms a on.Not = length a.own ∷ ms
blocks_behind ms a on.EndNot = blocks_left ms

abbrev pub block_steps_take : Nodes → (type_vars : ℕ) → List Assumption → (constants : ℕ → List Ty → Ty) → Around → (blocks : List ℕ) → List Step → Amount
block_steps_take b v xs K a ms [] = nothing
block_steps_take b v xs K a ms (s ∷ ss) = both (block_step_takes b v xs K a s) (block_steps_take b v xs K (around_behind b ms a s) (blocks_behind ms a s) ss)

-- NECK before, and PROCEED behind them
abbrev pub body_code_takes : Nodes → (type_vars : ℕ) → List Assumption → (constants : ℕ → List Ty → Ty) → Around → List Step → Amount
body_code_takes b v xs K a ss = both (plain_code 1 0) (both (block_steps_take b v xs K a [] ss) (plain_code 1 0))

-- the open blocks, the innermost one first
abbrev pub block_counts : List Block → List ℕ
block_counts bs = map (λ (l : Block). l.variables) (reverse bs)

-- what stands around behind a step, and which blocks are open, but for the registers of variables
abbrev pub IsStepped : Nodes → (env env' : Environment) → (bs bs' : List Block) → Step → Type 0
IsStepped b env env' bs bs' s =
    AreSet (around_of b env) → IsAlike (around_of b env') (around_behind b (block_counts bs) (around_of b env) s) × (block_counts bs' ≡ blocks_behind (block_counts bs) (around_of b env) s)

-- steps so far, as far as they go
pub record HasUsed (b : Nodes) (v : ℕ) (xs : List Assumption) (K : ℕ → List Ty → Ty) (old new : Emitter) (a : Around) (env : Environment) (bs : List Block) (done : List Step) : Type 0 where
  pub amount : Amount
  pub used : Uses old new amount
  pub around : Around
  pub blocks : List ℕ
  pub alike : IsAlike (around_of b env) around
  pub blocks_are : block_counts bs ≡ blocks
  pub set : AreSet (around_of b env)
  pub rest : (ss : List Step) → block_steps_take b v xs K a [] (done ++ ss) ≡ both amount (block_steps_take b v xs K around blocks ss)

-- the instruction that opened a block has the count of bytes behind it, without those of its own
pub record IsPatched (old new : Emitter) (l : Block) : Type 0 where
  pub bytes : ℕ
  pub counted : l.from + 5 ≤ sum_by length_of old.code.items → bytes ≡ sum_by length_of old.code.items - (l.from + 5)
  pub either : (xs ys : List Instr) (n : ℕ) → old.code.items ≡ xs ++ instr.Either n ∷ ys → l.at ≡ length xs → new.code.items ≡ xs ++ instr.Either bytes ∷ ys
  pub jump : (xs ys : List Instr) (n : ℕ) → old.code.items ≡ xs ++ instr.Jump n ∷ ys → l.at ≡ length xs → new.code.items ≡ xs ++ instr.Jump bytes ∷ ys
