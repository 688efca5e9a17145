-- The rules of code: when an instruction, or a record as a whole, denotes nothing. Each rule looks at the state before the instruction; the rules stand here in
-- the order in which they are named where several are broken.
use Rattle.std.specs.Prelude.{ℕ, ◌+◌, ◌-◌, nat_eq, nat_lt, nat_le, Bool, true, false, not, ◌&&◌, ◌||◌, if◌then◌else◌, List, [], ◌∷◌, ◌++◌, map, length, Option, Some, None, is_none, is_some, slice_get}
use Rattle.std.specs.List.{list_any, list_all}
use Rattle.lp_calculus.specs.Types.{Ty}
use Rattle.lp_calculus.specs.Term.{Term, index, atom, abs, app, logic}
use Rattle.lp_calculus.specs.Typing.{Scheme, o_type, int_type, string_type}
use Rattle.lp_code.specs.declared.instruction.Instr.{Instr}
use Rattle.lp_code.specs.declared.instruction.Instr.TheVariants as on
use Rattle.lp_code.specs.declared.record.Record.{Record}
use Rattle.lp_code.specs.declared.record.RecordHead.{RecordHead}
use Rattle.lp_code.specs.declared.record.RecordHead.TheVariants.{Const, Register}
use Rattle.lp_code.specs.Length.{length_of}
use Rattle.lp_code.specs.Operands.{types_read, terms_read, type_set, term_set}
use Rattle.lp_code.specs.Symbolic.{Built, held, type_in, types_in, term_in, terms_in, equal_types, applied_type, argument_type, result_type, agree_at, all_agree, is_closed, innermost}
use Rattle.lp_code.specs.States.{Block, under_all, under_assumption, under_not, left_side, right_side, under_sigma, Frame, State, Home, member, innermost_block, depth}
use Rattle.lp_code.specs.Steps.{constant_of, own_variables, head_built}

abbrev pub nesting_limit : ℕ
nesting_limit = 2000

-- `register`: a register's number is not below the record's count
abbrev pub breaks_register : Home → State → Instr → Bool
breaks_register h s i =
    list_any (λ t. nat_le h.self.types t) (types_read i ++ type_set i) || list_any (λ r. nat_le h.self.registers r) (terms_read i ++ term_set i)

-- `unset`: a register is read before it is set on this path
abbrev pub breaks_unset : State → Instr → Bool
breaks_unset s i = list_any (λ t. is_none (held s.now.types t)) (types_read i) || list_any (λ r. is_none (held s.now.terms r)) (terms_read i)

-- `set`: a register is set twice
abbrev pub breaks_set : State → Instr → Bool
breaks_set s i = list_any (λ t. member t s.types_set) (type_set i) || list_any (λ r. member r s.terms_set) (term_set i)

-- `constant`: a number is unknown, or the count of types is wrong
abbrev pub has_count : Option Scheme → ℕ → Bool
has_count None n = false
has_count (Some c) n = nat_eq c.count n

abbrev pub is_count : Option ℕ → ℕ → Bool
is_count None n = false
is_count (Some m) n = nat_eq m n

abbrev pub breaks_constant : Home → Instr → Bool
breaks_constant h (on.TyCon d k ts) = not (is_count (h.tables.kinds k) (length ts.items))
breaks_constant h (on.PutConst d c ts) = not (has_count (h.tables.constants c) (length ts.items))
breaks_constant h (on.GetConst i c ts) = not (has_count (h.tables.constants c) (length ts.items))
breaks_constant h (on.Call c ts rs) = not (has_count (h.tables.constants c) (length ts.items))
breaks_constant h i = false

-- `type`: something is ill typed

abbrev pub has_type : Option Ty → Ty → Bool
has_type None T = false
has_type (Some U) T = equal_types U T

abbrev pub built_types : List Built → List Ty
built_types bs = map (λ (b : Built). b.type) bs

abbrev pub applies : Built → List Built → Bool
applies f [] = false
applies f (b ∷ bs) = is_some (applied_type f.type (built_types (b ∷ bs))) && all_agree f.loose (b ∷ bs)

abbrev pub is_argument : Home → State → ℕ → Ty → Bool
is_argument h s i T = has_type (argument_type (head_built h s).type i) T

abbrev pub have_type : State → (registers : List ℕ) → Ty → Bool
have_type s rs T = list_all (λ r. equal_types (term_in s.now r).type T) rs

abbrev pub breaks_type : Home → State → Instr → Bool
breaks_type h s (on.PutAbs d b t) = not (agree_at (innermost (term_in s.now b).loose) (Some (type_in s.now t)))
breaks_type h s (on.PutApp d f rs) = not (applies (term_in s.now f) (terms_in s.now rs.items))
breaks_type h s (on.GetVar i d) = is_none (argument_type (head_built h s).type i)
breaks_type h s (on.Get i r) = not (is_argument h s i (term_in s.now r).type)
breaks_type h s (on.GetConst i c ts) = not (is_argument h s i (constant_of h.tables c (types_in s.now ts.items)).type)
breaks_type h s (on.GetInt i z) = not (is_argument h s i int_type)
breaks_type h s (on.GetStr i b) = not (is_argument h s i string_type)
breaks_type h s (on.Call c ts rs) = not (has_type (applied_type (constant_of h.tables c (types_in s.now ts.items)).type (built_types (terms_in s.now rs.items))) o_type)
breaks_type h s (on.CallTerm r) = not (have_type s (r ∷ []) o_type)
breaks_type h s (on.Equal t l r) = not (have_type s (l ∷ r ∷ []) (type_in s.now t))
breaks_type h s (on.Is t l r) = not (have_type s (l ∷ r ∷ []) (type_in s.now t))
breaks_type h s (on.Less l r) = not (have_type s (l ∷ r ∷ []) int_type)
breaks_type h s (on.Greater l r) = not (have_type s (l ∷ r ∷ []) int_type)
breaks_type h s (on.AtMost l r) = not (have_type s (l ∷ r ∷ []) int_type)
breaks_type h s (on.AtLeast l r) = not (have_type s (l ∷ r ∷ []) int_type)
breaks_type h s i = false

-- `index`: a goal or head has a loose index

abbrev pub stands_alone : Instr → List ℕ
stands_alone (on.PutAbs d b t) = []
stands_alone (on.PutApp d f rs) = []
stands_alone (on.Assume ns ts rs) = []
stands_alone i = terms_read i

abbrev pub breaks_index : State → Instr → Bool
breaks_index s i = list_any (λ r. not (is_closed (term_in s.now r).loose)) (stands_alone i)

-- `term`: a term has a constant of implication, cut or negation
abbrev pub is_no_term : ℕ → Bool
is_no_term c = member c (2 ∷ 3 ∷ 7 ∷ 24 ∷ [])

abbrev pub breaks_term : Instr → Bool
breaks_term (on.PutConst d c ts) = is_no_term c
breaks_term (on.GetConst i c ts) = is_no_term c
breaks_term (on.Call c ts rs) = is_no_term c
breaks_term i = false

-- `order`: the instructions of the head stand before NECK, in the order of the head's types and arguments; goals stand behind it

abbrev pub out_of_turn : State → ℕ → Bool
out_of_turn s i = s.in_body || not (nat_eq i (length s.head_arguments))

abbrev pub has_none : {A : Type 0} → List A → Bool
has_none [] = true
has_none (x ∷ xs) = false

abbrev pub breaks_order : State → Instr → Bool
breaks_order s (on.TyNew d) = s.in_body
breaks_order s (on.New d t) = s.in_body
breaks_order s (on.GetType j t) = s.in_body || not (nat_eq j (length s.head_types)) || not (has_none s.head_arguments)
breaks_order s (on.GetVar i d) = out_of_turn s i
breaks_order s (on.Get i r) = out_of_turn s i
breaks_order s (on.GetConst i c ts) = out_of_turn s i
breaks_order s (on.GetInt i z) = out_of_turn s i
breaks_order s (on.GetStr i b) = out_of_turn s i
breaks_order s on.Neck = s.in_body
breaks_order s (on.Call c ts rs) = not s.in_body
breaks_order s (on.CallTerm r) = not s.in_body
breaks_order s (on.Equal t l r) = not s.in_body
breaks_order s (on.Is t l r) = not s.in_body
breaks_order s (on.Less l r) = not s.in_body
breaks_order s (on.Greater l r) = not s.in_body
breaks_order s (on.AtMost l r) = not s.in_body
breaks_order s (on.AtLeast l r) = not s.in_body
breaks_order s on.Cut = not s.in_body
breaks_order s (on.Sigma d t) = not s.in_body
breaks_order s (on.All d t) = not s.in_body
breaks_order s (on.Assume ns ts rs) = not s.in_body
breaks_order s (on.Either n) = not s.in_body
breaks_order s on.Not = not s.in_body
breaks_order s i = false

-- `head`: an argument or type argument is missing or too many; a variable of the clause stands in no earlier argument, and is no new one by GET_VAR

abbrev pub scheme_count : Option Scheme → ℕ
scheme_count None = 0
scheme_count (Some c) = c.count

abbrev pub count_of : Home → Option RecordHead → ℕ
count_of h None = 0
count_of h (Some (Const c)) = scheme_count (h.tables.constants c)
count_of h (Some (Register r)) = 0

abbrev pub head_count : Home → ℕ
head_count h = count_of h h.self.head

abbrev pub is_variable_of : Term → (register home : ℕ) → Bool
is_variable_of (atom (logic r h)) s k = nat_eq r s && nat_eq h k
is_variable_of t s k = false

-- the variable stands in the term
abbrev pub stands_in : (register home : ℕ) → Term → Bool
stands_in r h (index i) = false
stands_in r h (atom (logic x k)) = nat_eq x r && nat_eq k h
stands_in r h (atom a) = false
stands_in r h (abs b) = stands_in r h b
stands_in r h (app t u) = stands_in r h t || stands_in r h u

abbrev pub is_new_variable : Home → State → (register : ℕ) → Bool
is_new_variable h s r = list_any (λ v. is_variable_of (term_in s.now r).term v h.number && not (list_any (λ (b : Built). stands_in v h.number b.term) s.head_arguments)) (own_variables h.self)

abbrev pub breaks_head : Home → State → Instr → Bool
breaks_head h s on.Neck = is_some h.self.head && (not (nat_eq (length s.head_types) (head_count h)) || not (equal_types (result_type (head_built h s).type (length s.head_arguments)) o_type))
breaks_head h s (on.GetType j t) = is_some h.self.head && nat_le (head_count h) j
breaks_head h s (on.Get i r) = is_some h.self.head && is_new_variable h s r
breaks_head h s i = false

-- `block`: blocks nest, each is ended by its own instruction, the two sides of an EITHER have as many bytes as it and its JUMP say, and PROCEED ends the record

-- n bytes end with a JUMP
abbrev pub ends_with_jump : ℕ → List Instr → Bool
ends_with_jump n [] = false
ends_with_jump n (on.Jump m ∷ is) = if nat_eq n 5 then true else (if nat_lt n 5 then false else ends_with_jump (n - 5) is)
ends_with_jump n (i ∷ is) = if nat_le n (length_of i) then false else ends_with_jump (n - length_of i) is

-- behind n bytes an instruction begins
abbrev pub begins_behind : ℕ → List Instr → Bool
begins_behind n [] = false
begins_behind n (i ∷ is) = if nat_eq n 0 then true else (if nat_lt n (length_of i) then false else begins_behind (n - length_of i) is)

abbrev pub is_left_end : ℕ → Option Block → Bool
is_left_end place (Some (left_side n)) = nat_eq n place
is_left_end place o = false

-- an instruction ends this kind of block
abbrev pub ends_block : Instr → Option Block → Bool
ends_block on.EndAll (Some (under_all r T)) = true
ends_block on.EndAssume (Some (under_assumption cs)) = true
ends_block on.EndNot (Some under_not) = true
ends_block i o = false

-- a side that should have ended is still open
abbrev pub side_is_passed : ℕ → Block → Bool
side_is_passed place (left_side n) = nat_le n place
side_is_passed place (right_side n l) = nat_le n place
side_is_passed place b = false

abbrev pub is_passed : ℕ → Frame → Bool
is_passed place f = side_is_passed place f.block

abbrev pub is_too_deep : State → Bool
is_too_deep s = nat_le nesting_limit (depth s.frames)

abbrev pub breaks_nesting : State → (rest : List Instr) → Instr → Bool
breaks_nesting s rest (on.Either n) = is_too_deep s || not (ends_with_jump n rest)
breaks_nesting s rest (on.Jump n) = not (is_left_end (s.place + 5) (innermost_block s.frames)) || not (begins_behind n rest)
breaks_nesting s rest (on.All d t) = is_too_deep s
breaks_nesting s rest (on.Assume ns ts rs) = is_too_deep s
breaks_nesting s rest on.Not = is_too_deep s
breaks_nesting s rest on.EndAll = not (ends_block on.EndAll (innermost_block s.frames))
breaks_nesting s rest on.EndAssume = not (ends_block on.EndAssume (innermost_block s.frames))
breaks_nesting s rest on.EndNot = not (ends_block on.EndNot (innermost_block s.frames))
breaks_nesting s rest on.Proceed = is_some (innermost_block s.frames) || not (has_none rest)
breaks_nesting s rest i = false

abbrev pub breaks_block : State → (rest : List Instr) → Instr → Bool
breaks_block s rest i = list_any (is_passed s.place) s.frames || breaks_nesting s rest i

-- `clause`: an ASSUME names later records, each an assumed one that starts with as many types and terms and was not named before; a type variable is made by
-- no assumed record

abbrev pub starts_with_as_many : Record → (types terms : ℕ) → Bool
starts_with_as_many r ts rs = not r.program && nat_eq r.captured_types ts && nat_eq r.captured rs

abbrev pub is_assumed_record : Option Record → (types terms : ℕ) → Bool
is_assumed_record None ts rs = false
is_assumed_record (Some r) ts rs = starts_with_as_many r ts rs

-- the records that the instructions assume
abbrev pub names_of : Instr → List ℕ
names_of (on.Assume ns ts rs) = ns.items
names_of i = []

abbrev pub names_in : List Instr → List ℕ
names_in [] = []
names_in (i ∷ is) = names_of i ++ names_in is

-- those of the first n records
abbrev pub named_before : ℕ → List Record → List ℕ
named_before ℕ.zero rs = []
named_before (ℕ.suc n) [] = []
named_before (ℕ.suc n) (r ∷ rs) = names_in r.code.items ++ named_before n rs

abbrev pub are_fine_names : Home → (named : List ℕ) → (types terms : ℕ) → List ℕ → Bool
are_fine_names h named ts rs [] = true
are_fine_names h named ts rs (n ∷ ns) = nat_lt h.number n && is_assumed_record (slice_get h.records n) ts rs && not (member n named) && are_fine_names h (n ∷ named) ts rs ns

abbrev pub breaks_clause : Home → State → Instr → Bool
breaks_clause h s (on.Assume ns ts rs) =
    not (are_fine_names h (named_before h.number h.records ++ map (λ a. a.0) s.assumed) (length ts.items) (length rs.items) ns.items)
breaks_clause h s (on.TyNew d) = not h.self.program
breaks_clause h s i = false
