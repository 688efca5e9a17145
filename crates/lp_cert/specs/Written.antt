-- Proofs as lists of nodes: each node stands before those below it.
use Rattle.std.specs.Prelude.{◌≡◌, ℕ, List, ◌∷◌, map, true, false}
use Rattle.lp_calculus.specs.Types.{Ty}
use Rattle.lp_calculus.specs.Term.{Term}
use Rattle.lp_term.specs.Nodes.{Nodes, tree, type_tree}
use Rattle.lp_model.specs.Proofs.{Proof, Focus, Conv, True, And, Left, Right, Witness, All, Assume, Equal, Arith, Back, Fails, FConv, FAll, FTake, FNeed, FHit}
use Rattle.lp_model.specs.declared.certificate.ProofNode as code
use Rattle.lp_model.specs.declared.certificate.ProofNode.TheVariants as code_of

pub data Node : Type 0 where
  converted : Term → Node
  trivial : Node
  pair : Node
  left_side : Node
  right_side : Node
  witness : Term → Node
  general : Node
  assuming : Node
  equated : Node
  counted : Node
  back_to : (clause : ℕ) → List Ty → Node
  focus_converted : Term → Node
  focus_witness : Term → Node
  side : ℕ → Node
  premise : Node
  hit : Node

-- a node over the numbers of a bank
abbrev pub node_of : Nodes → code.ProofNode → Node
node_of b (code_of.Conv t) = converted (tree b t.0)
node_of b code_of.True = trivial
node_of b code_of.And = pair
node_of b code_of.Left = left_side
node_of b code_of.Right = right_side
node_of b (code_of.Some t) = witness (tree b t.0)
node_of b code_of.All = general
node_of b code_of.Assume = assuming
node_of b code_of.Equal = equated
node_of b code_of.Arith = counted
node_of b (code_of.Back i ts) = back_to i (map (λ t. type_tree b t.0) ts.items)
node_of b (code_of.FocusConv t) = focus_converted (tree b t.0)
node_of b (code_of.FocusAll t) = focus_witness (tree b t.0)
node_of b (code_of.Take s) = side s
node_of b code_of.Need = premise
node_of b code_of.Hit = hit

-- the list is the nodes of the proof, and then the rest; a search that fails is no node
abbrev mutual
  pub IsWritten : Proof → (ns rest : List Node) → Type 0
  IsWritten (Conv t p) ns rest = (more : List Node) × (ns ≡ converted t ∷ more) × IsWritten p more rest
  IsWritten True ns rest = ns ≡ trivial ∷ rest
  IsWritten (And p q) ns rest = (more : List Node) × (behind : List Node) × (ns ≡ pair ∷ more) × IsWritten p more behind × IsWritten q behind rest
  IsWritten (Left p) ns rest = (more : List Node) × (ns ≡ left_side ∷ more) × IsWritten p more rest
  IsWritten (Right p) ns rest = (more : List Node) × (ns ≡ right_side ∷ more) × IsWritten p more rest
  IsWritten (Witness t p) ns rest = (more : List Node) × (ns ≡ witness t ∷ more) × IsWritten p more rest
  IsWritten (All p) ns rest = (more : List Node) × (ns ≡ general ∷ more) × IsWritten p more rest
  IsWritten (Assume p) ns rest = (more : List Node) × (ns ≡ assuming ∷ more) × IsWritten p more rest
  IsWritten Equal ns rest = ns ≡ equated ∷ rest
  IsWritten Arith ns rest = ns ≡ counted ∷ rest
  IsWritten (Back i ts f) ns rest = (more : List Node) × (ns ≡ back_to i ts ∷ more) × IsFocusWritten f more rest
  IsWritten (Fails s) ns rest = ⊥

  pub IsFocusWritten : Focus → (ns rest : List Node) → Type 0
  IsFocusWritten (FConv t f) ns rest = (more : List Node) × (ns ≡ focus_converted t ∷ more) × IsFocusWritten f more rest
  IsFocusWritten (FAll t f) ns rest = (more : List Node) × (ns ≡ focus_witness t ∷ more) × IsFocusWritten f more rest
  IsFocusWritten (FTake true f) ns rest = (more : List Node) × (ns ≡ side 1 ∷ more) × IsFocusWritten f more rest
  IsFocusWritten (FTake false f) ns rest = (more : List Node) × (ns ≡ side 0 ∷ more) × IsFocusWritten f more rest
  IsFocusWritten (FNeed p f) ns rest = (more : List Node) × (behind : List Node) × (ns ≡ premise ∷ more) × IsWritten p more behind × IsFocusWritten f behind rest
  IsFocusWritten FHit ns rest = ns ≡ hit ∷ rest
