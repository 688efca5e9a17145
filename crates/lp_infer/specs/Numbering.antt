-- The numbers of the type variables of a typing: by first place in the variables' types and then in the formula.
use Rattle.std.specs.Prelude.{◌≡◌, ℕ, suc, ◌<◌, ◌⊎◌, List, [], ◌∷◌, ◌++◌, map, reverse}
use Rattle.lp_calculus.specs.Types.{Ty, Tys, var, param, con, arrow, no_types, types}
use Rattle.lp_term.specs.Nodes.{Nodes, type_tree, tree}
use Rattle.lp_syntax.specs.declared.text.RawTerm.{RawTerm}
use Rattle.lp_model.specs.declared.program.Typed.{Typed}
use Rattle.lp_sig.specs.declared.signature.Signature.{Signature}
use Rattle.lp_infer.specs.Typing.{Typing, term_arguments}
use Rattle.lp_infer.specs.Texts.{IsPrincipalTyping}

-- the type variables of a type, in order
abbrev mutual
  pub type_variables : Ty → List ℕ
  type_variables (var x) = x ∷ []
  type_variables (param k) = []
  type_variables (con c ts) = types_variables ts
  type_variables (arrow a b) = type_variables a ++ type_variables b

  pub types_variables : Tys → List ℕ
  types_variables no_types = []
  types_variables (types t ts) = type_variables t ++ types_variables ts

abbrev pub all_variables : List Ty → List ℕ
all_variables [] = []
all_variables (t ∷ ts) = type_variables t ++ all_variables ts

-- those of the variables' types, the first variable's first, and of the type arguments of the formula, a head before its arguments
abbrev pub typing_variables : Typing → List ℕ
typing_variables T = all_variables (reverse T.free ++ term_arguments T.formula)

-- with n numbers met before and m behind, each is one that was met or the next one
abbrev pub AreNumbered : ℕ → List ℕ → ℕ → Type 0
AreNumbered n [] m = n ≡ m
AreNumbered n (x ∷ xs) m = ((x < n) × AreNumbered n xs m) ⊎ ((x ≡ n) × AreNumbered (suc n) xs m)

-- what a typed formula is: the first variable is the outermost index
abbrev pub typing_of : Nodes → Typed → Typing
typing_of b t = record { free = reverse (map (λ v. type_tree b v.1.0) t.vars.items); formula = tree b t.formula.0 }

-- a typed formula is the principal typing of a text, its type variables numbered by first place
pub record IsTyped (sig : Signature) (text : List ℕ) (raw : RawTerm) (b : Nodes) (t : Typed) : Type 0 where
  pub principal : IsPrincipalTyping sig text raw (map (λ v. v.0) t.vars.items) (typing_of b t)
  pub numbered : AreNumbered 0 (typing_variables (typing_of b t)) t.type_vars
