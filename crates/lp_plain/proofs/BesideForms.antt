-- A connective that is not taken apart and no atom is a form that no positive term has.
use Rattle.std.proofs.Common.{◌≡◌, refl, sym, inl, inr, subst}
use Rattle.lp_standard.specs.Connectives as connective
use Rattle.lp_term.specs.Nodes.{Nodes}
use Rattle.lp_model.specs.Connected.{connective_in}
use Rattle.lp_model.specs.declared.connective.Connective.{Connective}
use Rattle.lp_model.specs.declared.connective.Connective.TheVariants as code
use Rattle.lp_plain.specs.AtRunTime.{IsAtomOrNoForm, IsNoForm}

no_atom : (b : Nodes) (k : Connective) → (k ≡ code.Atomic → ⊥) → connective_in b k ≡ connective.Atomic → ⊥
no_atom b code.True n e = cc
no_atom b code.Cut n e = cc
no_atom b (code.And l r) n e = cc
no_atom b (code.Or l r) n e = cc
no_atom b (code.Implies c g) n e = cc
no_atom b (code.ForAll T t) n e = cc
no_atom b (code.Exists T t) n e = cc
no_atom b (code.Not g) n e = cc
no_atom b code.Atomic n e = n refl

pub no_form_of : (b : Nodes) (k : Connective) (g : connective.Connective) → (k ≡ code.Atomic → ⊥) → g ≡ connective_in b k → IsAtomOrNoForm (connective_in b k) → IsNoForm g
no_form_of b k g n e (inl i) = absurd (no_atom b k n i)
no_form_of b k g n e (inr i) = subst IsNoForm (sym e) i
