-- Worked records, over the tables of a module with one kind, one constant `a` of it and one predicate `q` on it: what they denote, how long their
-- instructions are, and the first fault of some that denote nothing.
use Rattle.std.specs.Global.{Global}
use Rattle.std.specs.Prelude.{◌≡◌, ℕ, nat_eq, List, [], ◌∷◌, Option, Some, None, Bool, true, false, if◌then◌else◌, Vec, map}
use Rattle.lp_calculus.specs.Types.{con, arrow, tys}
use Rattle.lp_calculus.specs.Term.{Term, atom, app, constant}
use Rattle.lp_calculus.specs.Typing.{Scheme, o_type}
use Rattle.lp_model.specs.Flat.{Goals, Clause, Atomic, clause, denied, no_goals, goals}
use Rattle.lp_code.specs.declared.instruction.Instr.{Instr}
use Rattle.lp_code.specs.declared.instruction.Instr.TheVariants as on
use Rattle.lp_code.specs.declared.record.Record.{Record}
use Rattle.lp_code.specs.declared.record.RecordHead.TheVariants.{Const}
use Rattle.lp_code.specs.declared.record.Key.{Key}
use Rattle.lp_code.specs.declared.record.Key.TheVariants as key
use Rattle.lp_code.specs.declared.rule.Rule.{Rule}
use Rattle.lp_code.specs.declared.rule.Rule.TheVariants as rule
use Rattle.lp_code.specs.Length.{length_of}
use Rattle.lp_code.specs.Symbolic.{Tables}
use Rattle.lp_code.specs.Denote.{denote, CodeFault, first_fault}

-- kind 8, `a` with number 32 and `q` with number 33
abbrev pub no_variables : (of : Rattle.lp_calculus.specs.Types.Ty) → Option Scheme
no_variables T = Some (record { count = 0; body = T })

abbrev pub tables : Tables
tables = record {
  kinds = λ k. if nat_eq k 8 then Some 0 else None;
  constants = λ c. if nat_eq c 32 then no_variables (con 8 (tys [])) else (if nat_eq c 33 then no_variables (arrow (con 8 (tys [])) o_type) else None);
}

abbrev pub a : Term
a = atom (constant 32 [])

abbrev pub q_a : Term
q_a = app (atom (constant 33 [])) a

-- a clause of `q` with registers, a key and instructions
abbrev pub of_q : (registers : ℕ) → Key → Vec Instr Global → Record
of_q n k code = record {
  program = true;
  head = Some (Const 33);
  captured_types = 0;
  captured = 0;
  types = 0;
  registers = n;
  key = k;
  code = code;
}

-- a list of registers without one, and with register 0
pub record AreLists (none first : Vec ℕ Global) : Type 0 where
  pub none_is : none.items ≡ []
  pub first_is : first.items ≡ 0 ∷ []

abbrev pub fact : Vec ℕ Global → List Instr
fact none = on.GetConst 0 32 none ∷ on.Neck ∷ on.Proceed ∷ []

-- `q a :- not (q a)`
abbrev pub negated : (none first : Vec ℕ Global) → List Instr
negated none first = on.GetConst 0 32 none ∷ on.Neck ∷ on.Not ∷ on.PutConst 0 32 none ∷ on.Call 33 none first ∷ on.EndNot ∷ on.Proceed ∷ []

abbrev pub unset : List Instr
unset = on.Get 0 0 ∷ on.Neck ∷ on.Proceed ∷ []

abbrev pub set_twice : Vec ℕ Global → List Instr
set_twice none = on.PutConst 0 32 none ∷ on.PutConst 0 32 none ∷ on.Get 0 0 ∷ on.Neck ∷ on.Proceed ∷ []

abbrev pub fault : (at : ℕ) → Rule → Option CodeFault
fault at r = Some (record { record_number = 0; at = at; rule = r })

pub record IsWorked : Type 0 where
  pub fact_lengths : (none first : Vec ℕ Global) → AreLists none first → map length_of (fact none) ≡ 5 ∷ 1 ∷ 1 ∷ []
  pub fact_denotes : (none first : Vec ℕ Global) (code : Vec Instr Global) → AreLists none first → code.items ≡ fact none
      → denote tables (of_q 0 (key.Const 32) code ∷ []) ≡ Some (clause 0 [] q_a no_goals ∷ [])
  pub negation_denotes : (none first : Vec ℕ Global) (code : Vec Instr Global) → AreLists none first → code.items ≡ negated none first
      → denote tables (of_q 1 (key.Const 32) code ∷ []) ≡ Some (clause 0 [] q_a (goals (denied (goals (Atomic q_a) no_goals)) no_goals) ∷ [])
  pub unset_register : (code : Vec Instr Global) → code.items ≡ unset → first_fault tables (of_q 1 key.None code ∷ []) ≡ fault 0 rule.Unset
  pub register_too_high : (code : Vec Instr Global) → code.items ≡ unset → first_fault tables (of_q 0 key.None code ∷ []) ≡ fault 0 rule.Register
  pub register_set_twice : (none first : Vec ℕ Global) (code : Vec Instr Global) → AreLists none first → code.items ≡ set_twice none → first_fault tables (of_q 1 (key.Const 32) code ∷ []) ≡ fault 6 rule.Set
  pub wrong_key : (none first : Vec ℕ Global) (code : Vec Instr Global) → AreLists none first → code.items ≡ fact none → first_fault tables (of_q 0 key.None code ∷ []) ≡ fault 0 rule.Key
