-- Which registers stand for what is written in a negated block, or in an assumed clause: what has to be known before the block is searched.
use Rattle.std.specs.Prelude.{ℕ, zero, suc, nat_eq, Bool, false, ◌||◌, if◌then◌else◌, List, [], ◌∷◌, ◌++◌, Option, Some, None, slice_get, slice_index_or, option_map, option_and_then}
use Rattle.lp_calculus.specs.Types.{Ty, var}
use Rattle.lp_calculus.specs.Term.{Term, index, atom, abs, app, logic}
use Rattle.lp_calculus.specs.Typing.{o_type}
use Rattle.lp_model.specs.Flat.{Goals, Clause, no_clauses, clauses, collect_goals, collect_clauses, type_variables_in}
use Rattle.lp_code.specs.declared.instruction.Instr.{Instr}
use Rattle.lp_code.specs.declared.instruction.Instr.TheVariants as on
use Rattle.lp_code.specs.declared.record.Record.{Record}
use Rattle.lp_code.specs.Symbolic.{Tables, Built, variable, whole}
use Rattle.lp_code.specs.States.{Captured, Frame, State, Home, member, passing, is_sigma, end_variables}
use Rattle.lp_code.specs.Steps.{Later, own_types, after}
use Rattle.lp_code.specs.Denote.{clause_of, first_state, home_of}

-- no table is needed to see which names stand in a term
abbrev pub no_tables : Tables
no_tables = record { kinds = λ k. None; constants = λ c. None }

-- an assumed record starts with its own registers, each standing for itself
abbrev pub own_types_from : (count : ℕ) → List Ty
own_types_from zero = []
own_types_from (suc n) = own_types_from n ++ var n ∷ []

abbrev pub own_terms_from : (home count : ℕ) → List Built
own_terms_from home zero = []
own_terms_from home (suc n) = own_terms_from home n ++ whole (variable n home) o_type ∷ []

abbrev pub itself : (number : ℕ) → Record → Captured
itself n r = record { types = own_types_from r.captured_types; terms = own_terms_from n r.captured }

-- the state behind all instructions, no rule judged
abbrev pub behind : Home → Later → State → List Instr → Option State
behind h later s [] = Some s
behind h later s (i ∷ is) = option_and_then (λ t. behind h later t is) (after h later s i)

-- what the records from number n on denote, no rule judged
abbrev pub plain_from : (all : List Record) → (n : ℕ) → List Record → Later
plain_from all n [] m c = None
plain_from all n (r ∷ rs) m c =
    if nat_eq m n
    then option_map (clause_of (home_of no_tables all n r)) (behind (home_of no_tables all n r) (plain_from all (suc n) rs) (first_state r c) r.code.items)
    else plain_from all (suc n) rs m c

abbrev pub records_from : ℕ → List Record → List Record
records_from zero rs = rs
records_from (suc n) [] = []
records_from (suc n) (r ∷ rs) = records_from n rs

-- the innermost frame that is no variable's
abbrev pub innermost_frame : List Frame → Option Frame
innermost_frame [] = None
innermost_frame (f ∷ fs) = if is_sigma f.block then innermost_frame fs else Some f

abbrev pub is_from : Option Frame → ℕ → Bool
is_from None at = false
is_from (Some f) at = nat_eq f.from at

-- the goals of the negated block that was opened at an offset
abbrev pub goals_of_block : Home → Later → (at : ℕ) → State → List Instr → Option Goals
goals_of_block h later at s [] = None
goals_of_block h later at s (on.EndNot ∷ is) =
    if is_from (innermost_frame s.frames) at
    then Some (end_variables h.number s.goals s.frames).goals
    else option_and_then (λ t. goals_of_block h later at t is) (after h later s on.EndNot)
goals_of_block h later at s (i ∷ is) = option_and_then (λ t. goals_of_block h later at t is) (after h later s i)

-- the variables of a record that stand in a term
abbrev pub registers_in : (home : ℕ) → Term → List ℕ
registers_in home (index i) = []
registers_in home (atom (logic r h)) = if nat_eq h home then r ∷ [] else []
registers_in home (atom a) = []
registers_in home (abs b) = registers_in home b
registers_in home (app t u) = registers_in home t ++ registers_in home u

pub record Stands : Type 0 where
  pub types : List ℕ
  pub registers : List ℕ

-- a type variable by its register: an own one of a program record, a captured one of an assumed record
abbrev pub type_register : Record → ℕ → ℕ
type_register r k = if r.program then slice_index_or (own_types r) k 0 else k

abbrev pub is_register_of_type : Record → List ℕ → ℕ → Bool
is_register_of_type r [] t = false
is_register_of_type r (k ∷ ks) t = nat_eq (type_register r k) t || is_register_of_type r ks t

-- ascending
abbrev pub stands_by : Record → (type_vars registers : List ℕ) → Stands
stands_by r ks rs = record { types = passing r.types (is_register_of_type r ks); registers = passing r.registers (λ s. member s rs) }

abbrev pub stand_in_goals : (home : ℕ) → Record → Goals → Stands
stand_in_goals home r gs = stands_by r (collect_goals (λ d t. type_variables_in t) 0 gs) (collect_goals (λ d t. registers_in home t) 0 gs)

abbrev pub stand_in_clause : (home : ℕ) → Record → Clause → Stands
stand_in_clause home r c = stands_by r (collect_clauses (λ d t. type_variables_in t) 0 (clauses c no_clauses)) (collect_clauses (λ d t. registers_in home t) 0 (clauses c no_clauses))

abbrev pub standing_at : (all : List Record) → (number : ℕ) → Record → (block : Option ℕ) → Option Stands
standing_at all n r (Some at) =
    option_map (stand_in_goals n r) (goals_of_block (home_of no_tables all n r) (plain_from all (suc n) (records_from (suc n) all)) at (first_state r (itself n r)) r.code.items)
standing_at all n r None =
    option_map (λ s. stand_in_clause n r (clause_of (home_of no_tables all n r) s)) (behind (home_of no_tables all n r) (plain_from all (suc n) (records_from (suc n) all)) (first_state r (itself n r)) r.code.items)

-- of the record of a number: the registers of the type variables in constants' type arguments, and of the variables, that stand in the goals of the negated block
-- at an offset; without an offset, of those that the record starts with, the ones that stand in its clause
abbrev pub standing : (all : List Record) → (number : ℕ) → (block : Option ℕ) → Option Stands
standing all n block = option_and_then (λ r. standing_at all n r block) (slice_get all n)
