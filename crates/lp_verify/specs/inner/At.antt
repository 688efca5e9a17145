-- A record at work, and the state that its instructions have come to.
use Rattle.std.specs.Prelude.{◌≡◌, ℕ, suc, ◌+◌, ◌≤◌, ◌<◌, ◌^◌, nat_eq, ◌||◌, ◌&&◌, Bool, List, [], ◌++◌, map, reverse, length, Option, Some, None, true, false, nat_lt, not, if◌then◌else◌}
use Rattle.std.specs.BTreeMap.{BTreeMap}
use Rattle.lp_code.specs.declared.instruction.Instr.{Instr}
use Rattle.lp_code.specs.declared.record.Record.{Record}
use Rattle.lp_code.specs.declared.rule.Rule.{Rule}
use Rattle.lp_code.specs.declared.rule.Rule.TheVariants as rule
use Rattle.lp_code.specs.Length.{length_of}
use Rattle.lp_code.specs.Operands.{type_set, term_set}
use Rattle.lp_code.specs.Rules.{breaks_order, named_before, names_of, names_in}
use Rattle.lp_code.specs.Symbolic.{Tables}
use Rattle.lp_code.specs.States.{State, Home, Captured, member}
use Rattle.lp_code.specs.Denote.{Ran, Done, Broken, broken_by_record, rules, run, any_clause, first_state, captured_of, fault_from, first_fault, head_passes, is_known_head, has_neck, ends_with_proceed, has_right_key}
use Rattle.lp_term.specs.declared.node.TypeId.{TypeId}
use Rattle.lp_verify.specs.declared.built.Built as kept_built
use Rattle.lp_verify.specs.inner.FirstNumbers.{IsType, HasBasics, UsesAre}
use Rattle.lp_verify.specs.inner.Indices.{Store, store}
use Rattle.lp_verify.specs.inner.Known.{IsHead, makes_own_type, FollowsHead, HeadIsLow, HeadStays, KnowsHead, Knows}
use Rattle.lp_verify.specs.inner.Reads.{reads_unset}
use Rattle.lp_verify.specs.declared.record.Work.{Work}
use Rattle.lp_verify.specs.declared.record.Shared.{Shared}
use Rattle.lp_verify.specs.declared.record.Home as code_home
use Rattle.lp_verify.specs.declared.whole.Whole.{Whole}
use Rattle.lp_verify.specs.Held.{was_set, is_lacking}
use Rattle.lp_verify.specs.Named.{was_named}
use Rattle.lp_verify.specs.Scheme.{tables_in}
use Rattle.lp_verify.specs.Judged.{bytes_of}
use Rattle.lp_verify.specs.inner.Sides.{sides_in, sides_of, sides_run, sides_settled, AreEnds, HasPlaces}
use Rattle.lp_verify.specs.declared.record.Captured as kept_captured
use Rattle.lp_verify.specs.inner.Stack.{type_heights, term_heights, stack_of, types_in_stack, terms_in_stack, IsStack, IsFilled, IsStacked, IsStackRun}
use Rattle.lp_verify.specs.inner.Handed.{SameType, SameTerm, captured_in, types_captured, terms_captured, IsNamed, assumption_of, IsHandedOn, AreHanded}
use Rattle.lp_verify.specs.inner.Made.{type_made, IsPutBy}
use Rattle.lp_verify.specs.inner.Outline.{body_behind, types_behind, arguments_behind}
use Rattle.lp_verify.specs.inner.Taken.{before_neck, AreFirstTaken, TakenIn}
use Rattle.lp_verify.specs.inner.Low.{AllHoldLow, HandedLow}

abbrev pub home_in : code_home.Home → Home
home_in h = record { tables = tables_in h.tables.now; records = h.records.now; number = h.number; self = h.record.now }

abbrev pub kept_in : Shared → Store
kept_in x = store x.types x.lists

pub record IsAt (l : Store) (w : Work) (s : State) : Type 0 where
  pub place_is : w.place ≡ s.place
  pub body_is : w.in_body ≡ s.in_body
  pub types_are : length w.head.types.items ≡ length s.head_types
  pub arguments_are : w.head.arguments ≡ length s.head_arguments
  pub types_set : (r : ℕ) → was_set w.types r ≡ member r s.types_set
  pub terms_set : (r : ℕ) → was_set w.terms r ≡ member r s.terms_set
  pub types_stand : IsStack (SameType l) w.home.record.now.types w.types (type_heights (reverse w.blocks.frames.items)) (types_in_stack (stack_of s))
  pub terms_stand : IsStack (SameTerm l) w.home.record.now.registers w.terms (term_heights (reverse w.blocks.frames.items)) (terms_in_stack (stack_of s))
  pub few_arguments : length s.head_arguments ≤ s.place
  pub few_instructions : w.number ≤ s.place
  pub sides_are : sides_in w.blocks.frames.items ≡ sides_of s.frames
  pub ends_are : AreEnds (reverse w.blocks.frames.items)

-- an instruction was run, which puts this type or this term into its register
pub record IsRun (i : Instr) (u : TypeId) (v : kept_built.Built) (old new : Work) : Type 0 where
  pub home_stays : new.home ≡ old.home
  pub places_stay : new.places ≡ old.places
  pub takings_stay : new.takings ≡ old.takings
  pub own_stay : new.own_types ≡ old.own_types
  pub place_moves : old.place + length_of i < 2 ^ 64 → new.place ≡ old.place + length_of i
  pub number_moves : old.number + 1 < 2 ^ 64 → new.number ≡ old.number + 1
  pub sides_move : old.place + length_of i < 2 ^ 63 → sides_in new.blocks.frames.items ≡ sides_settled (old.place + length_of i) (sides_run i old.place (sides_in old.blocks.frames.items))
  pub ends_stay : AreEnds (reverse old.blocks.frames.items) → AreEnds (reverse new.blocks.frames.items)
  pub body_is : new.in_body ≡ body_behind i old.in_body
  pub types_are : length new.head.types.items ≡ types_behind i (length old.head.types.items)
  pub arguments_are : old.head.arguments + 1 < 2 ^ 64 → new.head.arguments ≡ arguments_behind i old.head.arguments
  pub types_run : old.place + length_of i < 2 ^ 63 → IsStackRun i (type_set i) u (old.place + length_of i) (sides_run i old.place (sides_in old.blocks.frames.items)) (type_heights (reverse old.blocks.frames.items)) old.types (type_heights (reverse new.blocks.frames.items)) new.types
  pub terms_run : old.place + length_of i < 2 ^ 63 → IsStackRun i (term_set i) v (old.place + length_of i) (sides_run i old.place (sides_in old.blocks.frames.items)) (term_heights (reverse old.blocks.frames.items)) old.terms (term_heights (reverse new.blocks.frames.items)) new.terms

-- the same, before the instruction is passed
pub record IsActed (i : Instr) (u : TypeId) (v : kept_built.Built) (old new : Work) : Type 0 where
  pub home_stays : new.home ≡ old.home
  pub places_stay : new.places ≡ old.places
  pub takings_stay : new.takings ≡ old.takings
  pub own_stay : new.own_types ≡ old.own_types
  pub place_stays : new.place ≡ old.place
  pub number_stays : new.number ≡ old.number
  pub sides_act : old.place < 2 ^ 63 → sides_in new.blocks.frames.items ≡ sides_run i old.place (sides_in old.blocks.frames.items)
  pub ends_stay : AreEnds (reverse old.blocks.frames.items) → AreEnds (reverse new.blocks.frames.items)
  pub body_is : new.in_body ≡ body_behind i old.in_body
  pub types_are : length new.head.types.items ≡ types_behind i (length old.head.types.items)
  pub arguments_are : old.head.arguments + 1 < 2 ^ 64 → new.head.arguments ≡ arguments_behind i old.head.arguments
  pub types_act : IsStacked i (type_set i) u (type_heights (reverse old.blocks.frames.items)) old.types (type_heights (reverse new.blocks.frames.items)) new.types
  pub terms_act : IsStacked i (term_set i) v (term_heights (reverse old.blocks.frames.items)) old.terms (term_heights (reverse new.blocks.frames.items)) new.terms

-- the types that it puts and takes, where what it reads was set and it breaks no rule on the order
pub record IsTypedRun (i : Instr) (m : Store) (new : Work) (u : TypeId) (h : Home) (s : State) : Type 0 where
  pub type : IsType m.types u (type_made h s i)
  pub head : (t : State) → FollowsHead h s i t → UsesAre h.tables m.types × IsHead m.types new.head h t

abbrev pub IsTypedBy : Instr → (l m : Store) → (old new : Work) → TypeId → Type 0
IsTypedBy i l m old new u =
    (h : Home) (s : State) → old.head.arguments + 1 < 2 ^ 64 → Knows l old h s → reads_unset (is_lacking old.types) (is_lacking old.terms) i ≡ false → breaks_order s i ≡ false → makes_own_type h.self i ≡ true → IsTypedRun i m new u h s

-- an instruction was run, and named its records and handed on what they start with, or a rule is told at it
pub record IsPassed (i : Instr) (x y : Shared) (old new : Work) : Type 0 where
  pub type : TypeId
  pub value : kept_built.Built
  pub runs : IsRun i type value old new
  pub typed : IsTypedBy i (kept_in x) (kept_in y) old new type
  pub puts : IsPutBy (kept_in x) (kept_in y) old i value
  pub names : IsNamed (names_of i) (length x.handed.items) x.named y.named
  pub hands : IsHandedOn (assumption_of i) old.types old.terms x.handed.items y.handed.items

abbrev pub IsStepped : Instr → (x y : Shared) → (old new : Work) → Option Rule → Type 0
IsStepped i x y old new None = IsPassed i x y old new
IsStepped i x y old new (Some r) = new.place ≡ old.place

-- what is kept for the records is what was handed to them
abbrev pub HandedIn : Shared → List Record → List (ℕ × Captured) → Type 0
HandedIn x all handed = AreHanded (kept_in x) all x.handed.items x.named handed

-- a record of the program starts with something, or an assumed one was not named before
abbrev pub starts_badly : Home → (named : ℕ → Bool) → Bool
starts_badly h f = if h.self.program then not (nat_eq (h.self.captured_types + h.self.captured) 0) else not (f h.number)

-- what the record breaks as a whole, where these records were named
pub record IsJudgedWhole (h : Home) (f : ℕ → Bool) (x : Whole) : Type 0 where
  pub register_is : x.register ≡ (nat_lt h.self.types h.self.captured_types || nat_lt h.self.registers h.self.captured)
  pub constant_is : x.constant ≡ not (head_passes (is_known_head h) h.self.head)
  pub order_is : x.order ≡ not (has_neck h.self.code.items)
  pub head_low : x.head ≡ false → HeadIsLow h
  pub block_is : x.block ≡ not (ends_with_proceed h.self.code.items)
  pub clause_is : x.clause ≡ starts_badly h f
  pub key_is : x.key ≡ not (has_right_key h)

-- what the record breaks as a whole, told before its first instruction alone
pub record IsWhole (h : Home) (s : State) (x : Whole) : Type 0 where
  pub register_is : x.register ≡ (nat_eq s.place 0 && broken_by_record h s rule.Register)
  pub constant_is : x.constant ≡ (nat_eq s.place 0 && broken_by_record h s rule.Constant)
  pub order_is : x.order ≡ (nat_eq s.place 0 && broken_by_record h s rule.Order)
  pub head_is : x.head ≡ (nat_eq s.place 0 && broken_by_record h s rule.Head)
  pub head_low : x.head ≡ false → HeadIsLow h
  pub block_is : x.block ≡ (nat_eq s.place 0 && broken_by_record h s rule.Block)
  pub clause_is : x.clause ≡ (nat_eq s.place 0 && broken_by_record h s rule.Clause)
  pub key_is : x.key ≡ (nat_eq s.place 0 && broken_by_record h s rule.Key)

-- the record before its first instruction
pub record IsStarted (hs : List kept_captured.Captured) (m : BTreeMap ℕ ℕ) (w : Work) : Type 0 where
  pub place_is : w.place ≡ 0
  pub number_is : w.number ≡ 0
  pub frames_are : w.blocks.frames.items ≡ []
  pub places_are : HasPlaces w.home.record.now.code.items w.places.jumps
  pub takings_are : AreFirstTaken 0 (before_neck w.home.record.now.code.items) w.takings.first
  pub body_is : w.in_body ≡ false
  pub types_are : length w.head.types.items ≡ 0
  pub arguments_are : w.head.arguments ≡ 0
  pub types_set : (r : ℕ) → was_set w.types r ≡ nat_lt r w.home.record.now.captured_types
  pub terms_set : (r : ℕ) → was_set w.terms r ≡ nat_lt r w.home.record.now.captured
  pub types_filled : length (types_captured (captured_in hs m w.home.number)) < 2 ^ 16 → IsFilled (types_captured (captured_in hs m w.home.number)) w.types
  pub terms_filled : length (terms_captured (captured_in hs m w.home.number)) < 2 ^ 16 → IsFilled (terms_captured (captured_in hs m w.home.number)) w.terms

-- nothing is broken as a whole
abbrev pub IsNoWhole : Whole → Type 0
IsNoWhole x = (x.register ≡ false) × (x.constant ≡ false) × (x.order ≡ false) × (x.block ≡ false) × (x.clause ≡ false) × (x.key ≡ false) × (x.head ≡ false)

-- types and constants are kept as they are in these tables
abbrev pub KeepsTypes : Tables → Shared → Type 0
KeepsTypes t x = HasBasics x.types × UsesAre t x.types

-- what is told of a run, and what is handed on where it ends
abbrev pub IsRan : Tables → List Record → Shared → (before : List (ℕ × Captured)) → Ran → Option (ℕ × Rule) → Type 0
IsRan t all x before ran None = (s : State) × (ran ≡ Done s) × HandedIn x all (before ++ s.assumed) × KeepsTypes t x × HandedLow (before ++ s.assumed)
IsRan t all x before ran (Some (at, r)) = (ran ≡ Broken at r) × (at < 2 ^ 32)

-- those of the records before the one of a number
abbrev pub AreNamedBefore : (number : ℕ) → List Record → BTreeMap ℕ ℕ → Type 0
AreNamedBefore k all m = (n : ℕ) → was_named m n ≡ member n (named_before k all)

-- those of the instructions that are left are all that are still to be named
abbrev pub NamesLeft : (code left : List Instr) → (start now : BTreeMap ℕ ℕ) → Type 0
NamesLeft code left start now = (n : ℕ) → (was_named now n || member n (names_in left)) ≡ (was_named start n || member n (names_in code))

-- those of the records before, and those of the instructions so far
abbrev pub NamedAt : Home → State → BTreeMap ℕ ℕ → Type 0
NamedAt h s m = (n : ℕ) → was_named m n ≡ member n (named_before h.number h.records ++ map (λ a. a.0) s.assumed)

-- a record in the midst of its instructions, of which these are left: whatever it starts with, the run goes on from here
-- the instructions that were run, and how many; the places of all are known where sides are opened
pub record Past (all left : List Instr) (s : State) (w : Work) : Type 0 where
  pub run : List Instr
  pub parts : all ≡ run ++ left
  pub length_is : bytes_of run ≡ s.place
  pub all_is : all ≡ w.home.record.now.code.items
  pub count_is : w.number + length left ≡ length all
  pub places_are : HasPlaces all w.places.jumps

-- in the head, it is told by the registers that were taken which variables stand in an argument
abbrev pub TakesAre : Home → (all left : List Instr) → Work → State → Type 0
TakesAre h all left w s = AreFirstTaken 0 (before_neck all) w.takings.first × (s.in_body ≡ false → TakenIn h all left w.number s)

abbrev pub GoesOn : Home → (before : List (ℕ × Captured)) → (all left : List Instr) → Work → Shared → Whole → Type 0
GoesOn h before all left w x whole =
    (s : State) × (run h any_clause (first_state h.self (captured_of before h.number)) all ≡ run h any_clause s left) × IsAt (kept_in x) w s × (s.place + bytes_of left ≡ bytes_of all) × IsWhole h s whole × NamedAt h s x.named × Past all left s w
    × HandedIn x h.records (before ++ s.assumed) × KnowsHead (kept_in x) w h s × HeadStays h s × TakesAre h all left w s × AllHoldLow (suc h.number) (terms_in_stack (stack_of s)) × HandedLow (before ++ s.assumed)

-- the records from a number on are left: the first fault is theirs, where this was handed to them
abbrev pub FaultsGoOn : Tables → (all : List Record) → Shared → (n : ℕ) → (left : List Record) → Type 0
FaultsGoOn t all x n left = (handed : List (ℕ × Captured)) × (first_fault t all ≡ fault_from rules t all handed n left) × HandedIn x all handed × KeepsTypes t x × HandedLow handed
