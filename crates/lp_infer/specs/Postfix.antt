-- A text as a list of its parts, each behind those that it is made of.
use Rattle.std.specs.Prelude.{ℕ, suc, ◌+◌, ◌-◌, ◌^◌, ◌<◌, List, [], ◌∷◌, ◌++◌, Option, Some, None, ℤ}
use Rattle.lp_calculus.specs.Types.{Ty}
use Rattle.lp_calculus.specs.Typing.{Scheme, o_type}
use Rattle.lp_term.specs.Nodes.{Nodes, type_tree}
use Rattle.lp_term.specs.declared.node.TypeId.{TypeId}
use Rattle.lp_standard.specs.Schemes.{standard_schemes, entry}
use Rattle.lp_sig.specs.Pieces.{spelled}
use Rattle.lp_infer.specs.Typing.{Raw, raw_index, raw_constant, raw_integer, raw_text, raw_abs, raw_app}
use Rattle.lp_infer.specs.Texts.{string_bytes}
use Rattle.lp_infer.specs.declared.lookup.Step.{Step}
use Rattle.lp_infer.specs.declared.lookup.Step.TheVariants as step

pub data Mark : Type 0 where
  is_index : ℕ → Mark
  is_constant : ℕ → Scheme → Mark
  is_integer : ℤ → Mark
  is_text : List ℕ → Mark
  -- an abstraction begins, whose bound name may have a type
  opens : Option Ty → Mark
  -- what stands before is the body of the innermost abstraction
  closes : Mark
  -- what stands before is the argument of what stands before that
  applies : Mark

abbrev pub postfix : Raw → List Mark
postfix (raw_index i) = is_index i ∷ []
postfix (raw_constant c s) = is_constant c s ∷ []
postfix (raw_integer z) = is_integer z ∷ []
postfix (raw_text s) = is_text s ∷ []
postfix (raw_abs given b) = opens given ∷ (postfix b ++ closes ∷ [])
postfix (raw_app f u) = postfix f ++ (postfix u ++ applies ∷ [])

abbrev pub scheme_or : Option Scheme → Scheme
scheme_or None = record { count = 0; body = o_type }
scheme_or (Some s) = s

abbrev pub given_type : (ℕ → Ty) → Option TypeId → Option Ty
given_type τ None = None
given_type τ (Some id) = Some (τ id.0)

-- what a step says in a text with so many variables, where τ gives the types of annotations and b has those of the signature
abbrev pub mark : List ℕ → Nodes → (count : ℕ) → (τ : ℕ → Ty) → Step → Mark
mark text b count τ (step.Bound i) = is_index i
mark text b count τ (step.Variable depth k) = is_index (depth + (count - suc k))
mark text b count τ (step.Standard c) = is_constant c (scheme_or (entry standard_schemes c))
mark text b count τ (step.Declared c vars id) = is_constant c (record { count = vars; body = type_tree b id.0 })
mark text b count τ (step.Integer z) = is_integer z
mark text b count τ (step.Text s) = is_text (string_bytes (spelled text s))
mark text b count τ (step.Open given) = opens (given_type τ given)
mark text b count τ step.Close = closes
mark text b count τ step.Apply = applies

-- the type of an annotation is among the first n of its bank
abbrev pub IsGivenKnown : ℕ → Option TypeId → Type 0
IsGivenKnown n None = Unit {0}
IsGivenKnown n (Some id) = id.0 < n

-- the types that a step names are there, and a variable stands below fewer abstractions than a list has elements
abbrev pub IsStep : ℕ → Step → Type 0
IsStep n (step.Standard c) = c < 25
IsStep n (step.Variable depth k) = depth < 2 ^ 63
IsStep n (step.Open given) = IsGivenKnown n given
IsStep n _ = Unit {0}
