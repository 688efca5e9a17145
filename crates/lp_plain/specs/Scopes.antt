-- The values of the variables around a goal, as the blocks of a search hold them.
use Rattle.std.specs.Prelude.{◌≡◌, ℕ, suc, ◌+◌, ◌≤◌, List, [], ◌++◌, length, take, drop, Option, Some, None, slice_get}
use Rattle.lp_term.specs.declared.node.TermId.{TermId}
use Rattle.lp_plain.specs.declared.scope.Block.{Block}
use Rattle.lp_plain.specs.declared.scope.ScopeMark.{ScopeMark}
use Rattle.lp_plain.specs.declared.scope.Scopes.{Scopes}

-- the values of a scope, innermost first. Around each block is an older one
pub data Holds (values : List TermId) : List Block → Option ℕ → List TermId → Type 0 where
  outermost : {bs : List Block} {o : Option ℕ} {vs : List TermId} → o ≡ None → vs ≡ [] → Holds values bs o vs
  inside : {bs : List Block} {o : Option ℕ} {vs : List TermId} → (i : ℕ) → (k : Block) → (us : List TermId) → o ≡ Some i → slice_get bs i ≡ Some k → k.from + k.count ≤ length values →
      Holds values (take i bs) k.around us → vs ≡ take k.count (drop k.from values) ++ us → Holds values bs o vs

-- so within the oldest blocks and values, as many as this
abbrev pub IsScope : Scopes → (blocks values : ℕ) → Option ℕ → List TermId → Type 0
IsScope s nb nv o vs = Holds (take nv s.values.items) (take nb s.blocks.items) o vs

-- the blocks and values of scopes
pub record Blocks : Type 0 where
  pub blocks : List Block
  pub values : List TermId

abbrev pub blocks_of : Scopes → Blocks
blocks_of s = record { blocks = s.blocks.items; values = s.values.items }

-- the oldest of them, up to a mark
abbrev pub blocks_at : ScopeMark → Scopes → Blocks
blocks_at k s = record { blocks = take k.blocks s.blocks.items; values = take k.values s.values.items }

abbrev pub block_count : Scopes → ℕ
block_count s = length s.blocks.items

abbrev pub value_count : Scopes → ℕ
value_count s = length s.values.items

-- a scope within these blocks and values stays as it is
abbrev pub KeepsScopes : (old new : Scopes) → (blocks values : ℕ) → Type 0
KeepsScopes old new nb nv = (o : Option ℕ) → (vs : List TermId) → IsScope old nb nv o vs → IsScope new nb nv o vs

-- how many blocks there are up to this one
abbrev pub blocks_to : Option ℕ → ℕ
blocks_to None = 0
blocks_to (Some i) = suc i

-- on the way to the value of an index: what is left is that of the rest of the values
pub record IsOnWay (blocks : List Block) (values vs : List TermId) (index : ℕ) (at : Option ℕ) (left : ℕ) : Type 0 where
  pub front : List Block
  pub rest : List TermId
  pub holds : Holds values front at rest
  pub stands : (i : ℕ) → (k : Block) → slice_get front i ≡ Some k → slice_get blocks i ≡ Some k
  pub same : slice_get rest left ≡ slice_get vs index
