-- The laws of the grammar of terms.
use Rattle.std.specs.Prelude.{◌≡◌, List}
use Rattle.lp_syntax.specs.declared.symbol.Sym.{Sym}
use Rattle.lp_syntax.specs.declared.symbol.Fault.{Fault}
use Rattle.lp_syntax.specs.Symbols.{Tree}
use Rattle.lp_syntax.specs.Machine.{read, Given, Faulty}
use Rattle.lp_syntax.specs.Text.{IsTerm, FaultAt}
use Rattle.lp_syntax.specs.Tokens.{Lexeme, Operators}
use Rattle.lp_syntax.specs.Queries.{IsQuery}
use Rattle.std.specs.Prelude.{ℕ}
use Rattle.lp_syntax.specs.declared.class.Class.TheVariants.{Backslash}
use Rattle.lp_syntax.specs.Tokens.{class_at}
use Rattle.lp_syntax.specs.Types.{TypeTree, Whole, IsType}
use Rattle.lp_syntax.specs.Declarations.{Line}
use Rattle.lp_syntax.specs.Signatures.{IsSignature}
use Rattle.lp_syntax.specs.Modules.{Clause, IsModule}
use Rattle.lp_syntax.specs.Depth.{HasDepth}

-- a text of symbols is a term in one way
abbrev pub HasOneTree : Type 0
HasOneTree = (ts : List Sym) (t u : Tree) → IsTerm ts t → IsTerm ts u → t ≡ u

-- the reader gives the tree that the grammar gives, and gives it wherever the grammar does
abbrev pub ReadsTheGrammar : Type 0
ReadsTheGrammar = (ts : List Sym) (t : Tree) → record { sound : read ts ≡ Given t → IsTerm ts t; complete : IsTerm ts t → read ts ≡ Given t }

-- a fault of the reader is at the first symbol such that no term begins with the symbols up to it
abbrev pub FaultsFirst : Type 0
FaultsFirst = (ts : List Sym) (f : Fault) (rest : List Sym) → read ts ≡ Faulty f rest → FaultAt ts rest

-- a text is a query in one way
abbrev pub HasOneQuery : Type 0
HasOneQuery = (ops : Operators) (ls : List Lexeme) (t u : Tree) → IsQuery ops ls t → IsQuery ops ls u → t ≡ u

-- an annotation, up to its backslash, is one type, and ends at one place
abbrev pub HasOneAnnotation : Type 0
HasOneAnnotation = (ls : List Lexeme) (i j k : ℕ) (t u : TypeTree) → IsType ls Whole i j t → class_at ls j ≡ Backslash → IsType ls Whole i k u → class_at ls k ≡ Backslash → (j ≡ k) × (t ≡ u)

-- a text is a signature in one way
abbrev pub HasOneSignature : Type 0
HasOneSignature = (ls : List Lexeme) (ds es : List Line) → IsSignature ls ds → IsSignature ls es → ds ≡ es

-- a text is a module in one way, with one set of operators behind it
abbrev pub HasOneModule : Type 0
HasOneModule = (ops : Operators) (ls : List Lexeme) (ss ts : List Clause) (a b : Operators) → IsModule ops ls ss a → IsModule ops ls ts b → (ss ≡ ts) × ((name : List ℕ) → a name ≡ b name)

-- a term has one depth
abbrev pub HasOneDepth : Type 0
HasOneDepth = (ls : List Lexeme) (t : Tree) (m n : ℕ) → HasDepth ls t m → HasDepth ls t n → m ≡ n
