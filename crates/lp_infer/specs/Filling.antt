-- The formula of a text from the type arguments of its constants, as a whole and part by part.
use Rattle.std.specs.Prelude.{◌≡◌, ◌<◌, List, [], ◌∷◌, ◌++◌, map, reverse, length, take, drop, All}
use Rattle.lp_calculus.specs.Types.{Ty}
use Rattle.lp_calculus.specs.Term.{Term, index, atom, abs, app, apply, constant, integer, text}
use Rattle.lp_term.specs.Nodes.{Nodes, tree, Extends}
use Rattle.lp_term.specs.declared.node.TermId.{TermId}
use Rattle.lp_term.specs.declared.node.TypeId.{TypeId}
use Rattle.lp_infer.specs.Typing.{Raw, raw_index, raw_constant, raw_integer, raw_text, raw_abs, raw_app}
use Rattle.lp_infer.specs.Postfix.{Mark, is_index, is_constant, is_integer, is_text, opens, closes, applies}
use Rattle.lp_term.specs.Within.{IsTermOf, AreTermsOf, AreTypesOf}
use Rattle.lp_infer.specs.Copies.{trees_of}
use Rattle.lp_infer.specs.declared.terms.Spine.{Spine}
use Rattle.lp_infer.specs.declared.terms.Terms.{Terms}

-- the formula of a text whose constants take their type arguments from the front of a list, each as many as it has, a head before its
-- arguments; and what is left of the list
abbrev pub fills : Raw → List Ty → Term × List Ty
fills (raw_index i) Ts = (index i, Ts)
fills (raw_constant c s) Ts = (atom (constant c (take s.count Ts)), drop s.count Ts)
fills (raw_integer z) Ts = (atom (integer z), Ts)
fills (raw_text t) Ts = (atom (text t), Ts)
fills (raw_abs given b) Ts = let body = fills b Ts in (abs body.0, body.1)
fills (raw_app f u) Ts = let head = fills f Ts in let argument = fills u head.1 in (app head.0 argument.0, argument.1)

-- a term of the bank
abbrev pub IsTerm : Nodes → TermId → Term → Type 0
IsTerm b id t = (id.0 < length b.terms) × (tree b id.0 ≡ t)

-- the terms of the parts so far, the newest first, and the type arguments that are left
pub record Formed : Type 0 where
  pub terms : List Term
  pub left : List Ty

abbrev pub formed : List Term → List Ty → Formed
formed ts Ts = record { terms = ts; left = Ts }

-- one term more
abbrev pub one_more : Term → Formed → Formed
one_more t f = formed (t ∷ f.terms) f.left

abbrev pub abstracted : List Term → List Term
abstracted [] = []
abstracted (b ∷ ts) = abs b ∷ ts

abbrev pub on_argument : List Term → List Term
on_argument (u ∷ f ∷ ts) = app f u ∷ ts
on_argument (u ∷ []) = u ∷ []
on_argument [] = []

-- what a part of a text does
abbrev pub form : Mark → Formed → Formed
form (is_index i) f = one_more (index i) f
form (is_constant c s) f = formed (atom (constant c (take s.count f.left)) ∷ f.terms) (drop s.count f.left)
form (is_integer z) f = one_more (atom (integer z)) f
form (is_text t) f = one_more (atom (text t)) f
form (opens given) f = f
form closes f = formed (abstracted f.terms) f.left
form applies f = formed (on_argument f.terms) f.left

abbrev pub form_all : List Mark → Formed → Formed
form_all [] f = f
form_all (m ∷ ms) f = form_all ms (form m f)

-- a head on the arguments that it has so far
abbrev pub spine_tree : Nodes → Spine → Term
spine_tree b s = apply (tree b s.head.0) (map (λ t. tree b t.0) s.arguments.items)

abbrev pub IsSpine : Nodes → Spine → Type 0
IsSpine b s = IsTermOf b s.head × AreTermsOf b s.arguments.items

-- what was made so far, as trees
abbrev pub terms_so_far : Nodes → List TypeId → Terms → Formed
terms_so_far b types t = formed (reverse (map (spine_tree b) t.stack.items)) (drop t.used (trees_of b types))

-- all that is named stands in the bank
pub record AreSound (b : Nodes) (types : List TypeId) (t : Terms) : Type 0 where
  pub known : AreTypesOf b types
  pub spines : All (IsSpine b) t.stack.items

-- what was made is changed so, while the bank grows
pub record Forms (b c : Nodes) (types : List TypeId) (old new : Terms) (f : Formed → Formed) : Type 0 where
  pub kept : Extends b c
  pub sound : AreSound b types old → AreSound c types new
  pub changed : AreSound b types old → terms_so_far c types new ≡ f (terms_so_far b types old)

-- a head is put on the stack
pub record IsPushed (head : TermId) (old new : Terms) : Type 0 where
  pub spine : Spine
  pub at_head : spine.head ≡ head
  pub bare : spine.arguments.items ≡ []
  pub stack : new.stack.items ≡ old.stack.items ++ spine ∷ []
  pub used : new.used ≡ old.used

-- the newest spine is taken off
pub record IsPopped (old new : Terms) (spine : Spine) : Type 0 where
  pub stack : old.stack.items ≡ new.stack.items ++ spine ∷ []
  pub used : new.used ≡ old.used

-- the newest spine is taken off, and its term was made
pub record IsTaken (b c : Nodes) (old new : Terms) (id : TermId) : Type 0 where
  pub spine : Spine
  pub popped : IsPopped old new spine
  pub is : IsSpine b spine → IsTerm c id (spine_tree b spine)
