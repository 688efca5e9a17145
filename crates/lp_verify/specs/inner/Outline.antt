-- What the rules on the order of instructions see of a state: the numbers in it, and what was set.
use Rattle.std.specs.Prelude.{ℕ, suc, ◌+◌, Bool, true, List, [], ◌∷◌, ◌++◌, map, length}
use Rattle.lp_code.specs.declared.instruction.Instr.{Instr}
use Rattle.lp_code.specs.declared.instruction.Instr.TheVariants as on
use Rattle.lp_code.specs.Length.{length_of}
use Rattle.lp_code.specs.Operands.{type_set, term_set}
use Rattle.lp_calculus.specs.Types.{Ty}
use Rattle.lp_code.specs.Symbolic.{type_in}
use Rattle.lp_code.specs.States.{Captured, State}
use Rattle.lp_code.specs.Rules.{names_of}

pub record Outline : Type 0 where
  pub place : ℕ
  pub types_set : List ℕ
  pub terms_set : List ℕ
  pub in_body : Bool
  pub types : ℕ
  pub taken : List Ty
  pub arguments : ℕ
  pub named : List ℕ
  pub assumed : List (ℕ × Captured)

abbrev pub outline : State → Outline
outline s = record {
  place = s.place;
  types_set = s.types_set;
  terms_set = s.terms_set;
  in_body = s.in_body;
  types = length s.head_types;
  taken = s.head_types;
  arguments = length s.head_arguments;
  named = map (λ a. a.0) s.assumed;
  assumed = s.assumed;
}

-- behind the head
abbrev pub body_behind : Instr → Bool → Bool
body_behind on.Neck b = true
body_behind i b = b

-- the type arguments of the head, and its arguments
abbrev pub types_behind : Instr → ℕ → ℕ
types_behind (on.GetType j t) n = suc n
types_behind i n = n

abbrev pub arguments_behind : Instr → ℕ → ℕ
arguments_behind (on.GetVar i d) n = suc n
arguments_behind (on.Get i r) n = suc n
arguments_behind (on.GetConst i c ts) n = suc n
arguments_behind (on.GetInt i z) n = suc n
arguments_behind (on.GetStr i b) n = suc n
arguments_behind i n = n

-- the records that were named, and what was handed to them
abbrev pub with_more : {A : Type 0} → List A → (more : List A) → List A
with_more ns [] = ns
with_more ns (m ∷ ms) = ns ++ m ∷ ms

-- the type that an instruction takes for the head
abbrev pub taken_by : State → Instr → List Ty
taken_by s (on.GetType j t) = type_in s.now t ∷ []
taken_by s i = []

abbrev pub outline_behind : Instr → (handed : List (ℕ × Captured)) → (taken : List Ty) → Outline → Outline
outline_behind i cs us o = record {
  place = o.place + length_of i;
  types_set = o.types_set ++ type_set i;
  terms_set = o.terms_set ++ term_set i;
  in_body = body_behind i o.in_body;
  types = types_behind i o.types;
  taken = with_more o.taken us;
  arguments = arguments_behind i o.arguments;
  named = with_more o.named (names_of i);
  assumed = with_more o.assumed cs;
}
