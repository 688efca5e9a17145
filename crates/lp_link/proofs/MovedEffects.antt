-- What a moved instruction does to a moved state is what the instruction did, moved.
use Rattle.std.proofs.Common.{◌≡◌, ◌∙◌, ◌+◌, ℕ, zero, suc, List, [], ◌∷◌, ◌++◌, map, length, Bool, true, false, Option, Some, None, ap, refl, sym}
use Rattle.std.specs.Prelude.{option_map, option_and_then, if◌then◌else◌, unwrap_or}
use Rattle.std.proofs.lemmas.Bool.{not-false}
use Rattle.lp_calculus.specs.Types.{Ty, con, arrow, no_types, types, tys}
use Rattle.lp_calculus.specs.Term.{Term, atom, apply, constant, integer, text}
use Rattle.lp_calculus.specs.Typing.{o_type, int_type, string_type}
use Rattle.lp_term.specs.Mapped.{Map, mapped, mapped_type}
use Rattle.lp_model.specs.Flat.{Clause, Clauses, Cut, clauses, map_clause}
use Rattle.lp_code.specs.declared.instruction.Instr.{Instr}
use Rattle.lp_code.specs.declared.instruction.Instr.TheVariants as on
use Rattle.lp_code.specs.declared.record.Record.{Record}
use Rattle.lp_code.specs.declared.record.RecordHead.{RecordHead}
use Rattle.lp_code.specs.declared.record.RecordHead.TheVariants.{Const, Register}
use Rattle.lp_code.specs.Operands.{own_set}
use Rattle.lp_code.specs.Symbolic.{Built, Registers, variable, type_in, types_in, term_in, terms_in, whole, plain_terms, argument_type, bound_index, abstraction_of, application_of}
use Rattle.lp_code.specs.States.{Captured, State, Home, member, passing, Ended, end_variables, Block, Block, under_sigma, under_all, under_assumption, depth}
use Rattle.lp_code.specs.Steps.{Later, constant_of, is_made, is_own_type, own_types, own_variables, own_type, built_of, head_built, argument_at, with_argument, with_atom, put_type, put_term, opens, leave, turn, clauses_of_records, captured_by, handed, sides, order, effect, passed, settled, after}
use Rattle.lp_code.specs.Rules.{breaks_type, applies}
use Rattle.lp_link.specs.Renumbering.{moving, moved_head, IsMoved, AllMoved, IsMovedRecord, KeepsStandard}
use Rattle.lp_link.specs.inner.Renumbering.{moved_built, moved_registers, moved_term, same_depth, moved_clauses, moved_block, moved_captured, moved_state, IsMovedHome}
use Rattle.lp_link.proofs.MovedTerms.{apply_moved}
use Rattle.lp_link.proofs.MovedStates.{type_in_moved, types_in_moved, term_in_moved, terms_in_moved, plain_moved, with_goal_moved, ended_moved, depth_moved, leave_moved, settled_moved}
use Rattle.lp_link.proofs.MovedSteps.{tys_moved, constant_moved, index_moved, abstraction_moved, application_moved, put_type_moved, put_term_moved, argument_taken, type_taken, atom_said, side_turned, argument_at_moved, same_o}
use Rattle.lp_link.proofs.MovedOperands.{type_made, operands_same}

-- what the instructions of a record make
module _ (m : Map) (n : ℕ) where
  made_same : (sets : Instr → List ℕ) → ((i j : Instr) → IsMoved m n i j → sets j ≡ sets i) → (is js : List Instr) → AllMoved m n is js → (r : ℕ) → is_made sets js r ≡ is_made sets is r
  made_same sets h [] [] a r = refl
  made_same sets h (i ∷ is) (j ∷ js) (x, a) r = λ k. if member r (h i j x k) then true else made_same sets h is js a r k
  made_same sets h [] (j ∷ js) a r = absurd a
  made_same sets h (i ∷ is) [] a r = absurd a

  passing_same : (k : ℕ) (f g : ℕ → Bool) → ((r : ℕ) → g r ≡ f r) → passing k g ≡ passing k f
  passing_same zero f g h = refl
  passing_same (suc k) f g h = λ j. passing_same k f g h j ++ (if h k j then k ∷ [] else [])

  by_made : (f g : Instr → List ℕ) → ((i : Instr) → f i ≡ g i) → (is : List Instr) (d : ℕ) → is_made f is d ≡ is_made g is d
  by_made f g h [] d = refl
  by_made f g h (i ∷ is) d = λ j. if member d (h i j) then true else by_made f g h is d j

  own_is : (r : Record) (d : ℕ) → is_own_type r d ≡ is_made type_made r.code.items d
  own_is r d = by_made _ type_made (λ i. elim i [
    | on.TyCon x0 x1 x2 ↦ refl
    | on.TyArr x0 x1 x2 ↦ refl
    | on.TyNew x0 ↦ refl
    | on.New x0 x1 ↦ refl
    | on.PutConst x0 x1 x2 ↦ refl
    | on.PutInt x0 x1 ↦ refl
    | on.PutStr x0 x1 ↦ refl
    | on.PutIndex x0 x1 x2 ↦ refl
    | on.PutAbs x0 x1 x2 ↦ refl
    | on.PutApp x0 x1 x2 ↦ refl
    | on.GetType x0 x1 ↦ refl
    | on.GetVar x0 x1 ↦ refl
    | on.Get x0 x1 ↦ refl
    | on.GetConst x0 x1 x2 ↦ refl
    | on.GetInt x0 x1 ↦ refl
    | on.GetStr x0 x1 ↦ refl
    | on.Neck ↦ refl
    | on.Call x0 x1 x2 ↦ refl
    | on.CallTerm x0 ↦ refl
    | on.Equal x0 x1 x2 ↦ refl
    | on.Is x0 x1 x2 ↦ refl
    | on.Less x0 x1 ↦ refl
    | on.Greater x0 x1 ↦ refl
    | on.AtMost x0 x1 ↦ refl
    | on.AtLeast x0 x1 ↦ refl
    | on.Cut ↦ refl
    | on.Sigma x0 x1 ↦ refl
    | on.All x0 x1 ↦ refl
    | on.EndAll ↦ refl
    | on.Assume x0 x1 x2 ↦ refl
    | on.EndAssume ↦ refl
    | on.Either x0 ↦ refl
    | on.Jump x0 ↦ refl
    | on.Proceed ↦ refl
    | on.Not ↦ refl
    | on.EndNot ↦ refl
  ]) r.code.items d

  module _ (r q : Record) (moved : IsMovedRecord m n r q) where
    own_type_same : (d : ℕ) → is_own_type q d ≡ is_own_type r d
    own_type_same d = own_is q d ∙ made_same type_made (λ i j x. (operands_same m n i j x).makes_type) r.code.items q.code.items moved.code d ∙ sym (own_is r d)

    pub own_types_same : own_types q ≡ own_types r
    own_types_same = ap (λ k. passing k (is_own_type q)) moved.types ∙ passing_same r.types (is_own_type r) (is_own_type q) own_type_same

    pub own_variables_same : own_variables q ≡ own_variables r
    own_variables_same = ap (λ k. passing k (is_made own_set q.code.items)) moved.registers
        ∙ passing_same r.registers (is_made own_set r.code.items) (is_made own_set q.code.items) (made_same own_set (λ i j x. (operands_same m n i j x).makes) r.code.items q.code.items moved.code)

    pub own_number_same : (d : ℕ) → own_type q d ≡ own_type r d
    own_number_same d = ap (λ l. Rattle.lp_calculus.specs.Types.var (length l)) (passing_same d (is_own_type r) (is_own_type q) own_type_same)

module _ (f g : ℕ → ℕ) (n : ℕ) (keeps : KeepsStandard f g) where
  abbrev m : Map
  m = moving f g n

  abbrev proposition : f 0 ≡ 0
  proposition = keeps.kinds 0 refl

  abbrev at_rest : State → State
  at_rest s = moved_state m n s

  pub same_int : mapped_type m int_type ≡ int_type
  same_int = ap (λ k. con k no_types) (keeps.kinds 1 refl)

  pub same_string : mapped_type m string_type ≡ string_type
  same_string = ap (λ k. con k no_types) (keeps.kinds 2 refl)

  abbrev pub moved_clause : Clause → Clause
  moved_clause c = map_clause same_depth (moved_term m) (mapped_type m) 0 c

  -- what later records denote goes along
  abbrev pub IsMovedLater : Later → Later → Type 0
  IsMovedLater old new = (k : ℕ) (c : Captured) (d : Clause) → old k c ≡ Some d → new (n + k) (moved_captured m c) ≡ Some (moved_clause d)

  clauses_moved : (old new : Later) → IsMovedLater old new → (c : Captured) (ns : List ℕ) (cs : Clauses) → clauses_of_records old ns c ≡ Some cs →
      clauses_of_records new (map (λ r. n + r) ns) (moved_captured m c) ≡ Some (moved_clauses m 0 cs)
  clauses_moved old new go c [] cs e = ap (option_map (moved_clauses m 0)) e
  clauses_moved old new go c (k ∷ ns) cs e = first (λ ds. clauses_moved old new go c ns ds) (old k c) refl e
    where
      Goes : Type 0
      Goes = (ds : Clauses) → clauses_of_records old ns c ≡ Some ds → clauses_of_records new (map (λ r. n + r) ns) (moved_captured m c) ≡ Some (moved_clauses m 0 ds)

      rest : Goes → (d : Clause) (o : Option Clauses) → clauses_of_records old ns c ≡ o → option_map (clauses d) o ≡ Some cs → option_map
          (clauses (moved_clause d)) (clauses_of_records new (map (λ r. n + r) ns) (moved_captured m c)) ≡ Some (moved_clauses m 0 cs)
      rest more d None h e = absurd (let z : None ≡ Some cs = e in cc)
      rest more d (Some ds) h e = ap (option_map (clauses (moved_clause d))) (more ds h) ∙ ap (option_map (moved_clauses m 0)) e

      first : Goes → (o : Option Clause) → old k c ≡ o → option_and_then (λ d. option_map (clauses d) (clauses_of_records old ns c)) o ≡ Some cs
          → option_and_then (λ d. option_map (clauses d) (clauses_of_records new (map (λ r. n + r) ns) (moved_captured m c))) (new (n + k) (moved_captured m c)) ≡ Some (moved_clauses m 0 cs)
      first more None h e = absurd (let z : None ≡ Some cs = e in cc)
      first more (Some d) h e = ap (option_and_then (λ d. option_map (clauses d) (clauses_of_records new (map (λ r. n + r) ns) (moved_captured m c))))
          (go k c d h) ∙ rest more d (clauses_of_records old ns c) refl e

  abbrev moved_names : List (ℕ × Captured) → List (ℕ × Captured)
  moved_names l = map (λ (a : ℕ × Captured). (n + a.0, moved_captured m a.1)) l

  handed_moved : (c : Captured) (ns : List ℕ) → handed (map (λ r. n + r) ns) (moved_captured m c) ≡ moved_names (handed ns c)
  handed_moved c [] = refl
  handed_moved c (k ∷ ns) = ap (λ l. (n + k, moved_captured m c) ∷ l) (handed_moved c ns)

  names_behind : (l k : List (ℕ × Captured)) → moved_names l ++ moved_names k ≡ moved_names (l ++ k)
  names_behind [] k = refl
  names_behind (a ∷ l) k = ap (λ l. (n + a.0, moved_captured m a.1) ∷ l) (names_behind l k)

  module _ (old new : Home) (along : IsMovedHome m n old new) where
    built_moved : (s : State) (o : Option RecordHead) → built_of new (at_rest s) (option_map (moved_head m) o) ≡ moved_built m (built_of old s o)
    built_moved s None = λ j. whole (atom (constant (sym (keeps.constants 6 refl) j) [])) (sym (same_o f g n proposition) j)
    built_moved s (Some (Const c)) = constant_moved f g n proposition old.tables new.tables along.tables c s.head_types
    built_moved s (Some (Register r)) = term_in_moved f g n proposition s.now r

    pub head_moved : (s : State) → head_built new (at_rest s) ≡ moved_built m (head_built old s)
    head_moved s = ap (built_of new (at_rest s)) along.self.head ∙ built_moved s old.self.head

    argument_moved : (s : State) (i : ℕ) → argument_at new (at_rest s) i ≡ mapped_type m (argument_at old s i)
    argument_moved s i = ap (λ (b : Built). unwrap_or (argument_type b.type i) o_type) (head_moved s) ∙ argument_at_moved f g n proposition (head_built old s).type i

    module _ (s : State) where
      abbrev now : Registers
      now = moved_registers m s.now

      pub type_same : (t : ℕ) → type_in now t ≡ mapped_type m (type_in s.now t)
      type_same t = type_in_moved f g n proposition s.now t

      pub types_same : (ts us : List ℕ) → us ≡ ts → types_in now us ≡ map (mapped_type m) (types_in s.now ts)
      types_same ts us e = ap (types_in now) e ∙ types_in_moved f g n proposition s.now ts

      pub term_same : (r : ℕ) → term_in now r ≡ moved_built m (term_in s.now r)
      term_same r = term_in_moved f g n proposition s.now r

      pub terms_same : (rs us : List ℕ) → us ≡ rs → terms_in now us ≡ map (moved_built m) (terms_in s.now rs)
      terms_same rs us e = ap (terms_in now) e ∙ terms_in_moved f g n proposition s.now rs

      pub constant_same : (c : ℕ) (ts us : List ℕ) → us ≡ ts → constant_of new.tables (g c) (types_in now us) ≡ moved_built m (constant_of old.tables c (types_in s.now ts))
      constant_same c ts us e = ap (constant_of new.tables (g c)) (types_same ts us e) ∙ constant_moved f g n proposition old.tables new.tables along.tables c (types_in s.now ts)

      int_same : (z : _) → whole (atom (integer z)) int_type ≡ moved_built m (whole (atom (integer z)) int_type)
      int_same z = ap (whole (atom (integer z))) (sym same_int)

      text_same : (b us : List ℕ) → us ≡ b → whole (atom (text us)) string_type ≡ moved_built m (whole (atom (text b)) string_type)
      text_same b us e = λ j. whole (atom (text (e j))) (sym same_string j)

      variable_same : (d : ℕ) (T U : Ty) → U ≡ mapped_type m T → whole (variable d new.number) U ≡ moved_built m (whole (variable d old.number) T)
      variable_same d T U e = λ j. whole (variable d (along.number j)) (e j)

      -- a term, a type, an argument that is the moved one
      put : (d : ℕ) (b c : Built) → c ≡ moved_built m b → Some (put_term (at_rest s) d c) ≡ Some (at_rest (put_term s d b))
      put d b c e = ap (λ b. Some (put_term (at_rest s) d b)) e ∙ ap Some (put_term_moved f g n proposition s d b)

      put_of_type : (d : ℕ) (T U : Ty) → U ≡ mapped_type m T → Some (put_type (at_rest s) d U) ≡ Some (at_rest (put_type s d T))
      put_of_type d T U e = ap (λ T. Some (put_type (at_rest s) d T)) e ∙ ap Some (put_type_moved f g n proposition s d T)

      got : (b c : Built) → c ≡ moved_built m b → Some (with_argument (at_rest s) c) ≡ Some (at_rest (with_argument s b))
      got b c e = ap (λ b. Some (with_argument (at_rest s) b)) e ∙ ap Some (argument_taken f g n proposition s b)

      said : (t u : Term) → u ≡ mapped m t → Some (with_atom (at_rest s) u) ≡ Some (at_rest (with_atom s t))
      said t u e = ap (λ t. Some (with_atom (at_rest s) t)) e ∙ ap Some (atom_said f g n proposition s t)

      sides_same : (c : ℕ) → g c ≡ c → (t l r : ℕ) → sides c (at_rest s) t l r ≡ mapped m (sides c s t l r)
      sides_same c e t l r = λ j. apply (atom (constant (sym e j) (type_same t j ∷ []))) ((term_same l j).term ∷ (term_same r j).term ∷ [])

      order_same : (c : ℕ) → g c ≡ c → (l r : ℕ) → order c (at_rest s) l r ≡ mapped m (order c s l r)
      order_same c e l r = λ j. apply (atom (constant (sym e j) [])) ((term_same l j).term ∷ (term_same r j).term ∷ [])

      called : (c : ℕ) (ts us rs vs : List ℕ) → us ≡ ts → vs ≡ rs
          → apply (atom (constant (g c) (types_in now us))) (plain_terms (terms_in now vs)) ≡ mapped m (apply (atom (constant c (types_in s.now ts))) (plain_terms (terms_in s.now rs)))
      called c ts us rs vs e h =
          (λ j. apply (atom (constant (g c) (types_same ts us e j))) (plain_terms (terms_same rs vs h j)))
          ∙ ap (apply (mapped m (atom (constant c (types_in s.now ts))))) (plain_moved f g n proposition (terms_in s.now rs))
          ∙ sym (apply_moved m (atom (constant c (types_in s.now ts))) (plain_terms (terms_in s.now rs)))

      left : Some (leave new.number (at_rest s)) ≡ Some (at_rest (leave old.number s))
      left = ap (λ k. Some (leave k (at_rest s))) along.number ∙ ap Some (leave_moved f g n proposition old.number s)

      captured_same : (ts us rs vs : List ℕ) → us ≡ ts → vs ≡ rs → captured_by (at_rest s) us vs ≡ moved_captured m (captured_by s ts rs)
      captured_same ts us rs vs e h = λ j. record { types = types_same ts us e j; terms = terms_same rs vs h j }

      got_variable : (i d : ℕ) → Some (with_argument (put_term (at_rest s) d (whole (variable d new.number) (argument_at new (at_rest s) i)))
          (whole (variable d new.number) (argument_at new (at_rest s) i)))
          ≡ Some (at_rest (with_argument (put_term s d (whole (variable d old.number) (argument_at old s i))) (whole (variable d old.number) (argument_at old s i))))
      got_variable i d =
          let b = whole (variable d old.number) (argument_at old s i) in
          ap (λ v. Some (with_argument (put_term (at_rest s) d v) v)) (variable_same d (argument_at old s i) (argument_at new (at_rest s) i) (argument_moved s i))
          ∙ ap (λ t. Some (with_argument t (moved_built m b))) (put_term_moved f g n proposition s d b) ∙ ap Some (argument_taken f g n proposition (put_term s d b) b)

      opened : (block : Ty → Block) → ((T : Ty) → block (mapped_type m T) ≡ moved_block m (block T)) → (d t : ℕ)
          → Some (put_term (opens (at_rest s) (block (type_in now t))) d (whole (variable d new.number) (type_in now t))) ≡ Some
          (at_rest (put_term (opens s (block (type_in s.now t))) d (whole (variable d old.number) (type_in s.now t))))
      opened block is d t =
          let b = whole (variable d old.number) (type_in s.now t) in
          (λ j. Some (put_term (opens (at_rest s) (block (type_same t j))) d (variable_same d (type_in s.now t) (type_in now t) (type_same t) j)))
          ∙ ap (λ h. Some (put_term (opens (at_rest s) h) d (moved_built m b))) (is (type_in s.now t)) ∙ ap Some (put_term_moved f g n proposition (opens s (block (type_in s.now t))) d b)

      abbrev proceeding : Ended → Option State
      proceeding x = Some (record (at_rest s) { goals = x.goals; frames = x.frames })

      ended : proceeding (end_variables new.number (at_rest s).goals (at_rest s).frames) ≡ Some
          (at_rest (record s {
            goals = (end_variables old.number s.goals s.frames).goals;
            frames = (end_variables old.number s.goals s.frames).frames;
          }))
      ended = ap (λ h. proceeding (end_variables h (at_rest s).goals (at_rest s).frames)) along.number ∙ ap proceeding (ended_moved f g n proposition old.number s.goals s.frames)

      module _ (later later' : Later) (go : IsMovedLater later later') where
        abbrev assuming_in : List (ℕ × Captured) → Clauses → State
        assuming_in l cs = record (opens s (under_assumption cs)) { assumed = l }

        abbrev assuming_at_rest : List (ℕ × Captured) → Clauses → State
        assuming_at_rest l cs = record (opens (at_rest s) (under_assumption cs)) { assumed = l }

        assumed : (ns ms ts us rs vs : List ℕ) (t : State) → ms ≡ map (λ r. n + r) ns → us ≡ ts → vs ≡ rs → (o : Option Clauses) → clauses_of_records later ns (captured_by s ts rs) ≡ o
            → option_map (assuming_in (s.assumed ++ handed ns (captured_by s ts rs))) o ≡ Some t
            → option_map (assuming_at_rest (moved_names s.assumed ++ handed ms (captured_by (at_rest s) us vs))) (clauses_of_records later' ms (captured_by (at_rest s) us vs)) ≡ Some (at_rest t)
        assumed ns ms ts us rs vs t w x y None h e = absurd (let z : None ≡ Some t = e in cc)
        assumed ns ms ts us rs vs t w x y (Some cs) h e =
            let c = captured_by s ts rs in
            let same : captured_by (at_rest s) us vs ≡ moved_captured m c = captured_same ts us rs vs x y in
            (λ j. option_map (assuming_at_rest (moved_names s.assumed ++ handed (w j) (same j))) (clauses_of_records later' (w j) (same j)))
            ∙ ap (option_map (assuming_at_rest (moved_names s.assumed ++ handed (map (λ r. n + r) ns) (moved_captured m c)))) (clauses_moved later later' go c ns cs h)
            ∙ ap (λ l. Some (assuming_at_rest l (moved_clauses m 0 cs))) (ap (λ l. moved_names s.assumed ++ l) (handed_moved c ns) ∙ names_behind s.assumed (handed ns c))
            ∙ ap (option_map at_rest) e

        pub effect_moved : (i j : Instr) (t : State) → IsMoved m n i j → breaks_type old s i ≡ false → effect old later s i ≡ Some t → effect new later' (at_rest s) j ≡ Some (at_rest t)
        effect_moved (on.TyCon d k ts) j q (us, e, x) b h =
            ap (effect new later' (at_rest s)) e
            ∙ (put_of_type d (con k (tys (types_in s.now ts.items))) (con (f k) (tys (types_in now us.items)))
            (ap (λ l. con (f k) (tys l)) (types_same ts.items us.items x) ∙ ap (con (f k)) (tys_moved f g n proposition (types_in s.now ts.items))))
            ∙ ap (option_map at_rest) h
        effect_moved (on.TyArr d a b) j q e w h =
            ap (effect new later' (at_rest s)) e
            ∙ put_of_type d (arrow (type_in s.now a) (type_in s.now b)) (arrow (type_in now a) (type_in now b)) (λ j. arrow (type_same a j) (type_same b j))
            ∙ ap (option_map at_rest) h
        effect_moved (on.TyNew d) j q e b h =
            ap (effect new later' (at_rest s)) e
            ∙ put_of_type d (own_type old.self d) (own_type new.self d) (own_number_same m n old.self new.self along.self d)
            ∙ ap (option_map at_rest) h
        effect_moved (on.New d t) j q e b h =
            ap (effect new later' (at_rest s)) e
            ∙ put d (whole (variable d old.number) (type_in s.now t)) (whole (variable d new.number) (type_in now t)) (variable_same d (type_in s.now t) (type_in now t) (type_same t))
            ∙ ap (option_map at_rest) h
        effect_moved (on.PutConst d c ts) j q (us, e, x) b h =
            ap (effect new later' (at_rest s)) e
            ∙ put d (constant_of old.tables c (types_in s.now ts.items)) (constant_of new.tables (g c) (types_in now us.items)) (constant_same c ts.items us.items x)
            ∙ ap (option_map at_rest) h
        effect_moved (on.PutInt d z) j q e b h =
            ap (effect new later' (at_rest s)) e
            ∙ put d (whole (atom (integer z)) int_type) (whole (atom (integer z)) int_type) (int_same z)
            ∙ ap (option_map at_rest) h
        effect_moved (on.PutStr d b) j q (us, e, x) w h =
            ap (effect new later' (at_rest s)) e
            ∙ put d (whole (atom (text b.items)) string_type) (whole (atom (text us.items)) string_type) (text_same b.items us.items x)
            ∙ ap (option_map at_rest) h
        effect_moved (on.PutIndex d i t) j q e b h =
            ap (effect new later' (at_rest s)) e
            ∙ (put d (bound_index i (type_in s.now t)) (bound_index i (type_in now t)) (ap (bound_index i) (type_same t) ∙ index_moved f g n proposition i (type_in s.now t)))
            ∙ ap (option_map at_rest) h
        effect_moved (on.PutAbs d b t) j q e w h =
            ap (effect new later' (at_rest s)) e
            ∙ (put d (abstraction_of (term_in s.now b) (type_in s.now t)) (abstraction_of (term_in now b) (type_in now t))
            ((λ j. abstraction_of (term_same b j) (type_same t j)) ∙ abstraction_moved f g n proposition (term_in s.now b) (type_in s.now t)))
            ∙ ap (option_map at_rest) h
        effect_moved (on.PutApp d x rs) j q (us, e, y) b h =
            ap (effect new later' (at_rest s)) e
            ∙ (put d (application_of (term_in s.now x) (terms_in s.now rs.items)) (application_of (term_in now x) (terms_in now us.items))
            ((λ j. application_of (term_same x j) (terms_same rs.items us.items y j)) ∙ application_moved f g n proposition (term_in s.now x)
            (terms_in s.now rs.items) (not-false (applies (term_in s.now x) (terms_in s.now rs.items)) b)))
            ∙ ap (option_map at_rest) h
        effect_moved (on.GetType i t) j q e b h =
            ap (effect new later' (at_rest s)) e
            ∙ (ap (λ T. Some (record (at_rest s) { head_types = map (mapped_type m) s.head_types ++ T ∷ [] })) (type_same t) ∙ ap Some (type_taken f g n proposition s (type_in s.now t)))
            ∙ ap (option_map at_rest) h
        effect_moved (on.GetVar i d) j q e b h =
            ap (effect new later' (at_rest s)) e
            ∙ got_variable i d
            ∙ ap (option_map at_rest) h
        effect_moved (on.Get i r) j q e b h =
            ap (effect new later' (at_rest s)) e
            ∙ got (term_in s.now r) (term_in now r) (term_same r)
            ∙ ap (option_map at_rest) h
        effect_moved (on.GetConst i c ts) j q (us, e, x) b h =
            ap (effect new later' (at_rest s)) e
            ∙ got (constant_of old.tables c (types_in s.now ts.items)) (constant_of new.tables (g c) (types_in now us.items)) (constant_same c ts.items us.items x)
            ∙ ap (option_map at_rest) h
        effect_moved (on.GetInt i z) j q e b h =
            ap (effect new later' (at_rest s)) e
            ∙ got (whole (atom (integer z)) int_type) (whole (atom (integer z)) int_type) (int_same z)
            ∙ ap (option_map at_rest) h
        effect_moved (on.GetStr i b) j q (us, e, x) w h =
            ap (effect new later' (at_rest s)) e
            ∙ got (whole (atom (text b.items)) string_type) (whole (atom (text us.items)) string_type) (text_same b.items us.items x)
            ∙ ap (option_map at_rest) h
        effect_moved on.Neck j q e b h =
            ap (effect new later' (at_rest s)) e
            ∙ ap (option_map at_rest) h
        effect_moved (on.Call c ts rs) j q (us, vs, e, x, y) b h =
            ap (effect new later' (at_rest s)) e
            ∙ (said (apply (atom (constant c (types_in s.now ts.items))) (plain_terms (terms_in s.now rs.items)))
            (apply (atom (constant (g c) (types_in now us.items))) (plain_terms (terms_in now vs.items)))
            (called c ts.items us.items rs.items vs.items x y))
            ∙ ap (option_map at_rest) h
        effect_moved (on.CallTerm r) j q e b h =
            ap (effect new later' (at_rest s)) e
            ∙ said (term_in s.now r).term (term_in now r).term (ap (λ (b : Built). b.term) (term_same r))
            ∙ ap (option_map at_rest) h
        effect_moved (on.Equal t l r) j q e b h =
            ap (effect new later' (at_rest s)) e
            ∙ said (sides 8 s t l r) (sides 8 (at_rest s) t l r) (sides_same 8 (keeps.constants 8 refl) t l r)
            ∙ ap (option_map at_rest) h
        effect_moved (on.Is t l r) j q e b h =
            ap (effect new later' (at_rest s)) e
            ∙ said (sides 9 s t l r) (sides 9 (at_rest s) t l r) (sides_same 9 (keeps.constants 9 refl) t l r)
            ∙ ap (option_map at_rest) h
        effect_moved (on.Less l r) j q e b h =
            ap (effect new later' (at_rest s)) e
            ∙ said (order 10 s l r) (order 10 (at_rest s) l r) (order_same 10 (keeps.constants 10 refl) l r)
            ∙ ap (option_map at_rest) h
        effect_moved (on.Greater l r) j q e b h =
            ap (effect new later' (at_rest s)) e
            ∙ said (order 11 s l r) (order 11 (at_rest s) l r) (order_same 11 (keeps.constants 11 refl) l r)
            ∙ ap (option_map at_rest) h
        effect_moved (on.AtMost l r) j q e b h =
            ap (effect new later' (at_rest s)) e
            ∙ said (order 12 s l r) (order 12 (at_rest s) l r) (order_same 12 (keeps.constants 12 refl) l r)
            ∙ ap (option_map at_rest) h
        effect_moved (on.AtLeast l r) j q e b h =
            ap (effect new later' (at_rest s)) e
            ∙ said (order 13 s l r) (order 13 (at_rest s) l r) (order_same 13 (keeps.constants 13 refl) l r)
            ∙ ap (option_map at_rest) h
        effect_moved on.Cut j q e b h =
            ap (effect new later' (at_rest s)) e
            ∙ ap (λ gs. Some (record (at_rest s) { goals = gs })) (with_goal_moved f g n proposition s.goals Cut)
            ∙ ap (option_map at_rest) h
        effect_moved (on.Sigma d t) j q e b h =
            ap (effect new later' (at_rest s)) e
            ∙ opened (λ T. under_sigma d T) (λ T. refl) d t
            ∙ ap (option_map at_rest) h
        effect_moved (on.All d t) j q e b h =
            ap (effect new later' (at_rest s)) e
            ∙ opened (λ T. under_all d T) (λ T. refl) d t
            ∙ ap (option_map at_rest) h
        effect_moved on.EndAll j q e b h =
            ap (effect new later' (at_rest s)) e
            ∙ left
            ∙ ap (option_map at_rest) h
        effect_moved (on.Assume ns ts rs) j q (ms, us, vs, e, w, x, y) b h =
            ap (effect new later' (at_rest s)) e ∙ assumed ns.items ms.items ts.items us.items rs.items vs.items q w x y (clauses_of_records later ns.items (captured_by s ts.items rs.items)) refl h
        effect_moved on.EndAssume j q e b h =
            ap (effect new later' (at_rest s)) e
            ∙ left
            ∙ ap (option_map at_rest) h
        effect_moved (on.Either k) j q e b h =
            ap (effect new later' (at_rest s)) e
            ∙ ap (option_map at_rest) h
        effect_moved (on.Jump k) j q e b h =
            ap (effect new later' (at_rest s)) e
            ∙ (ap (λ h. Some (turn h (at_rest s) k)) along.number ∙ ap Some (side_turned f g n proposition old.number s k))
            ∙ ap (option_map at_rest) h
        effect_moved on.Proceed j q e b h =
            ap (effect new later' (at_rest s)) e
            ∙ ended
            ∙ ap (option_map at_rest) h
        effect_moved on.Not j q e b h =
            ap (effect new later' (at_rest s)) e
            ∙ ap (option_map at_rest) h
        effect_moved on.EndNot j q e b h =
            ap (effect new later' (at_rest s)) e
            ∙ left
            ∙ ap (option_map at_rest) h

        -- the next instruction stands as far behind it, and right sides end where they did
        passed_same : (i j : Instr) → IsMoved m n i j → (t : State) → passed j (at_rest t) ≡ at_rest (passed i t)
        passed_same i j x t =
            let same = operands_same m n i j x in
            λ k. record (at_rest t) { place = t.place + same.long k; types_set = t.types_set ++ same.sets_type k; terms_set = t.terms_set ++ same.sets_term k }

        pub after_moved : (i j : Instr) (t : State) → IsMoved m n i j → breaks_type old s i ≡ false → after old later s i ≡ Some t → after new later' (at_rest s) j ≡ Some (at_rest t)
        after_moved i j t x b h = by (effect old later s i) refl h
          where
            by : (o : Option State) → effect old later s i ≡ o → option_map (λ u. settled old.number (depth u.frames) (passed i u)) o ≡ Some t → after new later' (at_rest s) j ≡ Some (at_rest t)
            by None e h = absurd (let z : None ≡ Some t = h in cc)
            by (Some u) e h =
                ap (option_map (λ u. settled new.number (depth u.frames) (passed j u))) (effect_moved i j u x b e)
                ∙ (λ k. Some (settled (along.number k) (depth_moved f g n proposition u.frames k) (passed_same i j x u k)))
                ∙ ap Some (settled_moved f g n proposition old.number (depth u.frames) (passed i u)) ∙ ap (option_map at_rest) h
