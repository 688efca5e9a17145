-- What a fixed constant makes of its arguments, and terms taken apart up to two arguments.
use Rattle.std.specs.Prelude.{◌<◌, [], ◌∷◌, length}
use Rattle.lp_calculus.specs.Term.{Term, index, atom, abs, app}
use Rattle.lp_standard.specs.Connectives.{Connective, connective_at}
use Rattle.lp_standard.specs.Connectives as connective
use Rattle.lp_standard.specs.declared.constant.Constant.{Constant}
use Rattle.lp_standard.specs.declared.constant.Constant.TheVariants as constant
use Rattle.lp_term.specs.Nodes.{Nodes, tree}
use Rattle.lp_term.specs.declared.node.TermId.{TermId}
use Rattle.lp_term.specs.declared.node.TypeId.{TypeId}
use Rattle.lp_model.specs.declared.connective.Connective as code_type
use Rattle.lp_model.specs.declared.connective.Connective.TheVariants as code
use Rattle.lp_model.specs.declared.connective.Spine.{Spine}
use Rattle.lp_model.specs.declared.connective.Spine.TheVariants as spine

abbrev pub alone_by : Constant → code_type.Connective
alone_by constant.True = code.True
alone_by constant.Cut = code.Cut
alone_by _ = code.Atomic

abbrev pub negated_by : Constant → TermId → code_type.Connective
negated_by constant.Not a = code.Not a
negated_by _ a = code.Atomic

abbrev pub quantified_by : Constant → TypeId → TermId → code_type.Connective
quantified_by constant.ForAll T a = code.ForAll T a
quantified_by constant.Exists T a = code.Exists T a
quantified_by _ T a = code.Atomic

abbrev pub joined_by : Constant → (left right : TermId) → code_type.Connective
joined_by constant.And l r = code.And l r
joined_by constant.Or l r = code.Or l r
joined_by constant.Implies l r = code.Implies l r
joined_by constant.If l r = code.Implies r l
joined_by _ l r = code.Atomic

abbrev pub IsSpineIn : Nodes → Spine → Type 0
IsSpineIn b (spine.Alone h) = Unit {0}
IsSpineIn b (spine.One h a) = a.0 < length b.terms
IsSpineIn b (spine.Two h a c) = (a.0 < length b.terms) × (c.0 < length b.terms)
IsSpineIn b spine.More = Unit {0}

-- the connective of a term that is taken apart so
abbrev pub spine_connective : Nodes → Spine → Connective
spine_connective b (spine.Alone h) = connective_at (tree b h.0) []
spine_connective b (spine.One h a) = connective_at (tree b h.0) (tree b a.0 ∷ [])
spine_connective b (spine.Two h a c) = connective_at (tree b h.0) (tree b a.0 ∷ tree b c.0 ∷ [])
spine_connective b spine.More = connective.Atomic

abbrev pub IsApplication : Term → Type 0
IsApplication (index i) = ⊥
IsApplication (atom a) = ⊥
IsApplication (abs b) = ⊥
IsApplication (app t u) = Unit {0}
