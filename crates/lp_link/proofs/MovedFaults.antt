-- A moved instruction breaks no rule where the instruction broke none, rule by rule.
use Rattle.std.proofs.Common.{◌≡◌, ◌∙◌, ◌+◌, ℕ, List, [], ◌∷◌, ◌++◌, map, length, Bool, true, false, Option, Some, None, ap, refl, sym, arith}
use Rattle.std.specs.Prelude.{option_map, not, nat_eq, nat_lt, nat_le, ◌&&◌, ◌||◌, is_some, is_none, slice_get}
use Rattle.std.specs.List.{list_any}
use Rattle.std.proofs.lemmas.Bool.{not-false, ltb-true, ltb-false, lt-ltb, le-ltb}
use Rattle.std.proofs.lemmas.List.{length-map}
use Rattle.lp_lemmas.proofs.Booleans.{and_true_left, and_true_right, or_false_left, or_false_right, or_assoc}
use Rattle.lp_calculus.specs.Types.{Ty}
use Rattle.lp_calculus.specs.Typing.{o_type, int_type, string_type}
use Rattle.lp_term.specs.Mapped.{Map, mapped, mapped_type}
use Rattle.lp_code.specs.declared.instruction.Instr.{Instr}
use Rattle.lp_code.specs.declared.instruction.Instr.TheVariants as on
use Rattle.lp_code.specs.declared.record.Record.{Record}
use Rattle.lp_code.specs.declared.record.RecordHead.{RecordHead}
use Rattle.lp_code.specs.declared.record.RecordHead.TheVariants.{Const, Register}
use Rattle.lp_code.specs.Symbolic.{Built, held, type_in, types_in, term_in, terms_in, equal_types, applied_type, argument_type, result_type, agree_at, is_closed, innermost}
use Rattle.lp_code.specs.States.{Frame, Captured, State, Home, member, innermost_block}
use Rattle.lp_code.specs.Steps.{constant_of, head_built}
use Rattle.lp_code.specs.Rules.{nesting_limit, breaks_register, breaks_unset, breaks_set, breaks_constant, breaks_type, breaks_index, breaks_term, breaks_order, breaks_head, breaks_block, breaks_clause, has_count, is_count, has_type, built_types, applies, is_argument, have_type, out_of_turn, scheme_count, count_of, head_count, is_variable_of, stands_in, is_new_variable, is_left_end, ends_block, is_passed, is_too_deep, breaks_nesting, is_assumed_record, named_before, are_fine_names}
use Rattle.lp_link.specs.Renumbering.{moving, moved_head, IsMoved, AllMoved, KeepsStandard}
use Rattle.lp_link.specs.inner.Renumbering.{moved_built, moved_block, moved_frame, moved_captured, moved_state, IsMovedHome}
use Rattle.lp_link.proofs.MovedTerms.{equal_moved, closed_moved, result_moved}
use Rattle.lp_link.proofs.MovedGoals.{same_home}
use Rattle.lp_link.proofs.MovedStates.{held_moved, depth_moved, innermost_moved}
use Rattle.lp_link.proofs.MovedSteps.{argument_left, same_o}
use Rattle.lp_link.proofs.MovedOperands.{SameOperands, operands_same}
use Rattle.lp_link.proofs.MovedEffects.{own_variables_same, head_moved, type_same, term_same, terms_same, constant_same, same_int, same_string}
use Rattle.lp_link.proofs.MovedRules.{any_mapped, none_mapped, is_none_mapped, is_some_mapped, count_mapped, scheme_mapped, type_kept, built_types_moved, applied_kept, applies_kept, loose_kept, no_term_moved, variable_kept, stands_kept, passed_kept, left_end_kept, all_ended, assumption_ended, denial_ended, begins_kept, nothing_kept, jump_kept}

module _ (f g : ℕ → ℕ) (n : ℕ) (keeps : KeepsStandard f g) (old new : Home) (along : IsMovedHome (moving f g n) n old new) (s : State) where
  abbrev m : Map
  m = moving f g n

  abbrev proposition : f 0 ≡ 0
  proposition = keeps.kinds 0 refl

  abbrev rest : State
  rest = moved_state m n s

  abbrev now_term : (r : ℕ) → term_in rest.now r ≡ moved_built m (term_in s.now r)
  now_term r = term_same f g n keeps old new along s r

  abbrev now_terms : (rs us : List ℕ) → us ≡ rs → terms_in rest.now us ≡ map (moved_built m) (terms_in s.now rs)
  now_terms rs us e = terms_same f g n keeps old new along s rs us e

  abbrev now_type : (t : ℕ) → type_in rest.now t ≡ mapped_type m (type_in s.now t)
  now_type t = type_same f g n keeps old new along s t

  abbrev now_head : head_built new rest ≡ moved_built m (head_built old s)
  now_head = head_moved f g n keeps old new along s

  module _ (i j : Instr) (x : IsMoved m n i j) where
    abbrev same : SameOperands n i j
    same = operands_same m n i j x

    pub register_kept : breaks_register new rest j ≡ breaks_register old s i
    register_kept = λ z. list_any (λ t. nat_le (along.self.types z) t) (same.reads_types z ++ same.sets_type z) || list_any
        (λ r. nat_le (along.self.registers z) r) (same.reads_terms z ++ same.sets_term z)

    pub unset_kept : breaks_unset rest j ≡ breaks_unset s i
    unset_kept = λ z. list_any (λ t. type_unset t z) (same.reads_types z) || list_any (λ r. term_unset r z) (same.reads_terms z)
      where
        type_unset : (t : ℕ) → is_none (held rest.now.types t) ≡ is_none (held s.now.types t)
        type_unset t = ap is_none (held_moved (mapped_type m) s.now.types t) ∙ is_none_mapped (mapped_type m) (held s.now.types t)

        term_unset : (r : ℕ) → is_none (held rest.now.terms r) ≡ is_none (held s.now.terms r)
        term_unset r = ap is_none (held_moved (moved_built m) s.now.terms r) ∙ is_none_mapped (moved_built m) (held s.now.terms r)

    pub set_kept : breaks_set rest j ≡ breaks_set s i
    set_kept = λ z. list_any (λ t. member t s.types_set) (same.sets_type z) || list_any (λ r. member r s.terms_set) (same.sets_term z)

    pub index_kept : breaks_index rest j ≡ breaks_index s i
    index_kept = λ z. list_any (λ r. not (closed r z)) (same.alone z)
      where
        closed : (r : ℕ) → is_closed (term_in rest.now r).loose ≡ is_closed (term_in s.now r).loose
        closed r = ap (λ (b : Built). is_closed b.loose) (now_term r) ∙ closed_moved m (term_in s.now r).loose

  count_same : (c : ℕ) (ts us : List ℕ) → us ≡ ts → not (has_count (new.tables.constants (g c)) (length us)) ≡ not (has_count (old.tables.constants c) (length ts))
  count_same c ts us e = (λ z. not (has_count (along.tables.constants c z) (length (e z)))) ∙ ap not (count_mapped m (old.tables.constants c) (length ts))

  pub constant_kept : (i j : Instr) → IsMoved m n i j → breaks_constant new j ≡ breaks_constant old i
  constant_kept (on.TyCon d k ts) j (us, e, x) = ap (breaks_constant new) e ∙ (λ z. not (is_count (along.tables.kinds k z) (length (x z))))
  constant_kept (on.TyArr d a b) j e = ap (breaks_constant new) e
  constant_kept (on.TyNew d) j e = ap (breaks_constant new) e
  constant_kept (on.New d t) j e = ap (breaks_constant new) e
  constant_kept (on.PutConst d c ts) j (us, e, x) = ap (breaks_constant new) e ∙ count_same c ts.items us.items x
  constant_kept (on.PutInt d z) j e = ap (breaks_constant new) e
  constant_kept (on.PutStr d b) j (us, e, x) = ap (breaks_constant new) e
  constant_kept (on.PutIndex d i t) j e = ap (breaks_constant new) e
  constant_kept (on.PutAbs d b t) j e = ap (breaks_constant new) e
  constant_kept (on.PutApp d x rs) j (us, e, y) = ap (breaks_constant new) e
  constant_kept (on.GetType i t) j e = ap (breaks_constant new) e
  constant_kept (on.GetVar i d) j e = ap (breaks_constant new) e
  constant_kept (on.Get i r) j e = ap (breaks_constant new) e
  constant_kept (on.GetConst i c ts) j (us, e, x) = ap (breaks_constant new) e ∙ count_same c ts.items us.items x
  constant_kept (on.GetInt i z) j e = ap (breaks_constant new) e
  constant_kept (on.GetStr i b) j (us, e, x) = ap (breaks_constant new) e
  constant_kept on.Neck j e = ap (breaks_constant new) e
  constant_kept (on.Call c ts rs) j (us, vs, e, x, y) = ap (breaks_constant new) e ∙ count_same c ts.items us.items x
  constant_kept (on.CallTerm r) j e = ap (breaks_constant new) e
  constant_kept (on.Equal t l r) j e = ap (breaks_constant new) e
  constant_kept (on.Is t l r) j e = ap (breaks_constant new) e
  constant_kept (on.Less l r) j e = ap (breaks_constant new) e
  constant_kept (on.Greater l r) j e = ap (breaks_constant new) e
  constant_kept (on.AtMost l r) j e = ap (breaks_constant new) e
  constant_kept (on.AtLeast l r) j e = ap (breaks_constant new) e
  constant_kept on.Cut j e = ap (breaks_constant new) e
  constant_kept (on.Sigma d t) j e = ap (breaks_constant new) e
  constant_kept (on.All d t) j e = ap (breaks_constant new) e
  constant_kept on.EndAll j e = ap (breaks_constant new) e
  constant_kept (on.Assume ns ts rs) j (ms, us, vs, e, w, x, y) = ap (breaks_constant new) e
  constant_kept on.EndAssume j e = ap (breaks_constant new) e
  constant_kept (on.Either k) j e = ap (breaks_constant new) e
  constant_kept (on.Jump k) j e = ap (breaks_constant new) e
  constant_kept on.Proceed j e = ap (breaks_constant new) e
  constant_kept on.Not j e = ap (breaks_constant new) e
  constant_kept on.EndNot j e = ap (breaks_constant new) e

  pub term_kept : (i j : Instr) → IsMoved m n i j → breaks_term j ≡ breaks_term i
  term_kept (on.TyCon d k ts) j (us, e, x) = ap breaks_term e
  term_kept (on.TyArr d a b) j e = ap breaks_term e
  term_kept (on.TyNew d) j e = ap breaks_term e
  term_kept (on.New d t) j e = ap breaks_term e
  term_kept (on.PutConst d c ts) j (us, e, x) = ap breaks_term e ∙ no_term_moved f g keeps c
  term_kept (on.PutInt d z) j e = ap breaks_term e
  term_kept (on.PutStr d b) j (us, e, x) = ap breaks_term e
  term_kept (on.PutIndex d i t) j e = ap breaks_term e
  term_kept (on.PutAbs d b t) j e = ap breaks_term e
  term_kept (on.PutApp d x rs) j (us, e, y) = ap breaks_term e
  term_kept (on.GetType i t) j e = ap breaks_term e
  term_kept (on.GetVar i d) j e = ap breaks_term e
  term_kept (on.Get i r) j e = ap breaks_term e
  term_kept (on.GetConst i c ts) j (us, e, x) = ap breaks_term e ∙ no_term_moved f g keeps c
  term_kept (on.GetInt i z) j e = ap breaks_term e
  term_kept (on.GetStr i b) j (us, e, x) = ap breaks_term e
  term_kept on.Neck j e = ap breaks_term e
  term_kept (on.Call c ts rs) j (us, vs, e, x, y) = ap breaks_term e ∙ no_term_moved f g keeps c
  term_kept (on.CallTerm r) j e = ap breaks_term e
  term_kept (on.Equal t l r) j e = ap breaks_term e
  term_kept (on.Is t l r) j e = ap breaks_term e
  term_kept (on.Less l r) j e = ap breaks_term e
  term_kept (on.Greater l r) j e = ap breaks_term e
  term_kept (on.AtMost l r) j e = ap breaks_term e
  term_kept (on.AtLeast l r) j e = ap breaks_term e
  term_kept on.Cut j e = ap breaks_term e
  term_kept (on.Sigma d t) j e = ap breaks_term e
  term_kept (on.All d t) j e = ap breaks_term e
  term_kept on.EndAll j e = ap breaks_term e
  term_kept (on.Assume ns ts rs) j (ms, us, vs, e, w, x, y) = ap breaks_term e
  term_kept on.EndAssume j e = ap breaks_term e
  term_kept (on.Either k) j e = ap breaks_term e
  term_kept (on.Jump k) j e = ap breaks_term e
  term_kept on.Proceed j e = ap breaks_term e
  term_kept on.Not j e = ap breaks_term e
  term_kept on.EndNot j e = ap breaks_term e

  turn_same : (k : ℕ) → out_of_turn rest k ≡ out_of_turn s k
  turn_same k = ap (λ l. s.in_body || not (nat_eq k l)) (length-map s.head_arguments (moved_built m))

  pub order_kept : (i j : Instr) → IsMoved m n i j → breaks_order rest j ≡ breaks_order s i
  order_kept (on.TyCon d k ts) j (us, e, x) = ap (breaks_order rest) e
  order_kept (on.TyArr d a b) j e = ap (breaks_order rest) e
  order_kept (on.TyNew d) j e = ap (breaks_order rest) e
  order_kept (on.New d t) j e = ap (breaks_order rest) e
  order_kept (on.PutConst d c ts) j (us, e, x) = ap (breaks_order rest) e
  order_kept (on.PutInt d z) j e = ap (breaks_order rest) e
  order_kept (on.PutStr d b) j (us, e, x) = ap (breaks_order rest) e
  order_kept (on.PutIndex d i t) j e = ap (breaks_order rest) e
  order_kept (on.PutAbs d b t) j e = ap (breaks_order rest) e
  order_kept (on.PutApp d x rs) j (us, e, y) = ap (breaks_order rest) e
  order_kept (on.GetType i t) j e = ap (breaks_order rest) e ∙ (λ z. s.in_body || not (nat_eq i (length-map s.head_types (mapped_type m) z)) || not (none_mapped (moved_built m) s.head_arguments z))
  order_kept (on.GetVar i d) j e = ap (breaks_order rest) e ∙ turn_same i
  order_kept (on.Get i r) j e = ap (breaks_order rest) e ∙ turn_same i
  order_kept (on.GetConst i c ts) j (us, e, x) = ap (breaks_order rest) e ∙ turn_same i
  order_kept (on.GetInt i z) j e = ap (breaks_order rest) e ∙ turn_same i
  order_kept (on.GetStr i b) j (us, e, x) = ap (breaks_order rest) e ∙ turn_same i
  order_kept on.Neck j e = ap (breaks_order rest) e
  order_kept (on.Call c ts rs) j (us, vs, e, x, y) = ap (breaks_order rest) e
  order_kept (on.CallTerm r) j e = ap (breaks_order rest) e
  order_kept (on.Equal t l r) j e = ap (breaks_order rest) e
  order_kept (on.Is t l r) j e = ap (breaks_order rest) e
  order_kept (on.Less l r) j e = ap (breaks_order rest) e
  order_kept (on.Greater l r) j e = ap (breaks_order rest) e
  order_kept (on.AtMost l r) j e = ap (breaks_order rest) e
  order_kept (on.AtLeast l r) j e = ap (breaks_order rest) e
  order_kept on.Cut j e = ap (breaks_order rest) e
  order_kept (on.Sigma d t) j e = ap (breaks_order rest) e
  order_kept (on.All d t) j e = ap (breaks_order rest) e
  order_kept on.EndAll j e = ap (breaks_order rest) e
  order_kept (on.Assume ns ts rs) j (ms, us, vs, e, w, x, y) = ap (breaks_order rest) e
  order_kept on.EndAssume j e = ap (breaks_order rest) e
  order_kept (on.Either k) j e = ap (breaks_order rest) e
  order_kept (on.Jump k) j e = ap (breaks_order rest) e
  order_kept on.Proceed j e = ap (breaks_order rest) e
  order_kept on.Not j e = ap (breaks_order rest) e
  order_kept on.EndNot j e = ap (breaks_order rest) e

  -- types
  argument_kept : (k : ℕ) (T U : Ty) → U ≡ mapped_type m T → is_argument old s k T ≡ true → is_argument new rest k U ≡ true
  argument_kept k T U e h =
      (λ z. has_type (argument_type (now_head z).type k) (e z)) ∙ ap (λ o. has_type o (mapped_type m T)) (argument_left f g n proposition (head_built old s).type k)
      ∙ type_kept m (argument_type (head_built old s).type k) T h

  have_kept : (T U : Ty) → U ≡ mapped_type m T → (rs : List ℕ) → have_type s rs T ≡ true → have_type rest rs U ≡ true
  have_kept T U e [] h = refl
  have_kept T U e (r ∷ rs) h =
      λ z. ((λ y. equal_types (now_term r y).type (e y)) ∙ equal_moved m (term_in s.now r).type T (and_true_left (equal_types (term_in s.now r).type T) (have_type s rs T) h)) z
      && have_kept T U e rs (and_true_right (equal_types (term_in s.now r).type T) (have_type s rs T) h) z

  pub type_rule_kept : (i j : Instr) → IsMoved m n i j → breaks_type old s i ≡ false → breaks_type new rest j ≡ false
  type_rule_kept (on.TyCon d k ts) j (us, e, x) h = ap (breaks_type new rest) e
  type_rule_kept (on.TyArr d a b) j e h = ap (breaks_type new rest) e
  type_rule_kept (on.TyNew d) j e h = ap (breaks_type new rest) e
  type_rule_kept (on.New d t) j e h = ap (breaks_type new rest) e
  type_rule_kept (on.PutConst d c ts) j (us, e, x) h = ap (breaks_type new rest) e
  type_rule_kept (on.PutInt d z) j e h = ap (breaks_type new rest) e
  type_rule_kept (on.PutStr d b) j (us, e, x) h = ap (breaks_type new rest) e
  type_rule_kept (on.PutIndex d i t) j e h = ap (breaks_type new rest) e
  type_rule_kept (on.PutAbs d b t) j e h = ap (breaks_type new rest) e ∙ ap not ((λ z. agree_at (innermost (now_term b z).loose)
      (Some (now_type t z))) ∙ loose_kept m (term_in s.now b).loose (type_in s.now t)
      (not-false (agree_at (innermost (term_in s.now b).loose) (Some (type_in s.now t))) h))
  type_rule_kept (on.PutApp d x rs) j (us, e, y) h = ap (breaks_type new rest) e ∙ ap not
      ((λ z. applies (now_term x z) (now_terms rs.items us.items y z)) ∙ applies_kept m (term_in s.now x) (terms_in s.now rs.items)
      (not-false (applies (term_in s.now x) (terms_in s.now rs.items)) h))
  type_rule_kept (on.GetType i t) j e h = ap (breaks_type new rest) e
  type_rule_kept (on.GetVar i d) j e h = ap (breaks_type new rest) e ∙ (λ z. is_none (argument_type (now_head z).type i)) ∙ ap is_none
      (argument_left f g n proposition (head_built old s).type i) ∙ is_none_mapped (mapped_type m) (argument_type (head_built old s).type i) ∙ h
  type_rule_kept (on.Get i r) j e h = ap (breaks_type new rest) e ∙ ap not (argument_kept i (term_in s.now r).type (term_in rest.now r).type
      (ap (λ (b : Built). b.type) (now_term r)) (not-false (is_argument old s i (term_in s.now r).type) h))
  type_rule_kept (on.GetConst i c ts) j (us, e, x) h = ap (breaks_type new rest) e ∙ ap not
      (argument_kept i (constant_of old.tables c (types_in s.now ts.items)).type (constant_of new.tables (g c) (types_in rest.now us.items)).type
      (ap (λ (b : Built). b.type) (constant_same f g n keeps old new along s c ts.items us.items x))
      (not-false (is_argument old s i (constant_of old.tables c (types_in s.now ts.items)).type) h))
  type_rule_kept (on.GetInt i z) j e h = ap (breaks_type new rest) e ∙ ap not (argument_kept i int_type int_type (sym (same_int f g n keeps)) (not-false (is_argument old s i int_type) h))
  type_rule_kept (on.GetStr i b) j (us, e, x) h = ap (breaks_type new rest) e ∙ ap not
      (argument_kept i string_type string_type (sym (same_string f g n keeps)) (not-false (is_argument old s i string_type) h))
  type_rule_kept on.Neck j e h = ap (breaks_type new rest) e
  type_rule_kept (on.Call c ts rs) j (us, vs, e, x, y) h = ap (breaks_type new rest) e ∙ ap not
      ((λ z. has_type (applied_type (constant_same f g n keeps old new along s c ts.items us.items x z).type
      (built_types (now_terms rs.items vs.items y z))) (sym (same_o f g n proposition) z)) ∙ ap
      (λ l. has_type (applied_type (mapped_type m (constant_of old.tables c (types_in s.now ts.items)).type) l) (mapped_type m o_type))
      (built_types_moved m (terms_in s.now rs.items)) ∙ applied_kept m (constant_of old.tables c (types_in s.now ts.items)).type
      (built_types (terms_in s.now rs.items)) o_type (not-false (has_type (applied_type (constant_of old.tables c (types_in s.now ts.items)).type
      (built_types (terms_in s.now rs.items))) o_type) h))
  type_rule_kept (on.CallTerm r) j e h = ap (breaks_type new rest) e ∙ ap not (have_kept o_type o_type (sym (same_o f g n proposition)) (r ∷ []) (not-false (have_type s (r ∷ []) o_type) h))
  type_rule_kept (on.Equal t l r) j e h = ap (breaks_type new rest) e ∙ ap not (have_kept (type_in s.now t) (type_in rest.now t) (now_type t)
      (l ∷ r ∷ []) (not-false (have_type s (l ∷ r ∷ []) (type_in s.now t)) h))
  type_rule_kept (on.Is t l r) j e h = ap (breaks_type new rest) e ∙ ap not (have_kept (type_in s.now t) (type_in rest.now t) (now_type t)
      (l ∷ r ∷ []) (not-false (have_type s (l ∷ r ∷ []) (type_in s.now t)) h))
  type_rule_kept (on.Less l r) j e h = ap (breaks_type new rest) e ∙ ap not (have_kept int_type int_type (sym (same_int f g n keeps)) (l ∷ r ∷ []) (not-false (have_type s (l ∷ r ∷ []) int_type) h))
  type_rule_kept (on.Greater l r) j e h = ap (breaks_type new rest) e ∙ ap not (have_kept int_type int_type (sym (same_int f g n keeps)) (l ∷ r ∷ []) (not-false (have_type s (l ∷ r ∷ []) int_type) h))
  type_rule_kept (on.AtMost l r) j e h = ap (breaks_type new rest) e ∙ ap not (have_kept int_type int_type (sym (same_int f g n keeps)) (l ∷ r ∷ []) (not-false (have_type s (l ∷ r ∷ []) int_type) h))
  type_rule_kept (on.AtLeast l r) j e h = ap (breaks_type new rest) e ∙ ap not (have_kept int_type int_type (sym (same_int f g n keeps)) (l ∷ r ∷ []) (not-false (have_type s (l ∷ r ∷ []) int_type) h))
  type_rule_kept on.Cut j e h = ap (breaks_type new rest) e
  type_rule_kept (on.Sigma d t) j e h = ap (breaks_type new rest) e
  type_rule_kept (on.All d t) j e h = ap (breaks_type new rest) e
  type_rule_kept on.EndAll j e h = ap (breaks_type new rest) e
  type_rule_kept (on.Assume ns ts rs) j (ms, us, vs, e, w, x, y) h = ap (breaks_type new rest) e
  type_rule_kept on.EndAssume j e h = ap (breaks_type new rest) e
  type_rule_kept (on.Either k) j e h = ap (breaks_type new rest) e
  type_rule_kept (on.Jump k) j e h = ap (breaks_type new rest) e
  type_rule_kept on.Proceed j e h = ap (breaks_type new rest) e
  type_rule_kept on.Not j e h = ap (breaks_type new rest) e
  type_rule_kept on.EndNot j e h = ap (breaks_type new rest) e

  -- the head
  head_count_same : (o : Option RecordHead) → count_of new (option_map (moved_head m) o) ≡ count_of old o
  head_count_same None = refl
  head_count_same (Some (Const c)) = ap scheme_count (along.tables.constants c) ∙ scheme_mapped m (old.tables.constants c)
  head_count_same (Some (Register r)) = refl

  counts_same : head_count new ≡ head_count old
  counts_same = ap (count_of new) along.self.head ∙ head_count_same old.self.head

  has_head : is_some new.self.head ≡ is_some old.self.head
  has_head = ap is_some along.self.head ∙ is_some_mapped (moved_head m) old.self.head

  new_variable_same : (r : ℕ) → is_new_variable new rest r ≡ is_new_variable old s r
  new_variable_same r = (λ z. list_any (λ v. one v z) (own_variables_same m n old.self new.self along.self z))
    where
      stands : (v : ℕ) → list_any (λ (b : Built). stands_in v new.number b.term) rest.head_arguments ≡ list_any (λ (b : Built). stands_in v old.number b.term) s.head_arguments
      stands v = any_mapped (λ (b : Built). stands_in v new.number b.term) (λ (b : Built). stands_in v old.number b.term) (moved_built m)
          (λ b. ap (λ h. stands_in v h (mapped m b.term)) along.number ∙ stands_kept f g n v old.number b.term) s.head_arguments

      one : (v : ℕ) → (is_variable_of (term_in rest.now r).term v new.number && not (list_any (λ (b : Built). stands_in v new.number b.term) rest.head_arguments))
          ≡ (is_variable_of (term_in s.now r).term v old.number && not (list_any (λ (b : Built). stands_in v old.number b.term) s.head_arguments))
      one v = λ z. ((λ y. is_variable_of (now_term r y).term v (along.number y)) ∙ variable_kept f g n (term_in s.now r).term v old.number) z && not (stands v z)

  neck_kept : (is_some old.self.head && (not (nat_eq (length s.head_types) (head_count old)) || not (equal_types (result_type (head_built old s).type (length s.head_arguments)) o_type))) ≡ false
      → (is_some new.self.head && (not (nat_eq (length rest.head_types) (head_count new)) || not (equal_types (result_type (head_built new rest).type (length rest.head_arguments)) o_type))) ≡ false
  neck_kept h = by (is_some old.self.head) refl h
    where
      U : Ty
      U = result_type (head_built old s).type (length s.head_arguments)

      result_same : result_type (head_built new rest).type (length rest.head_arguments) ≡ mapped_type m U
      result_same = (λ z. result_type (now_head z).type (length-map s.head_arguments (moved_built m) z)) ∙ result_moved m (λ i. refl) (head_built old s).type (length s.head_arguments)

      count : nat_eq (length rest.head_types) (head_count new) ≡ nat_eq (length s.head_types) (head_count old)
      count = λ z. nat_eq (length-map s.head_types (mapped_type m) z) (counts_same z)

      both : (not (nat_eq (length s.head_types) (head_count old)) || not (equal_types U o_type)) ≡ false →
          (not (nat_eq (length rest.head_types) (head_count new)) || not (equal_types
          (result_type (head_built new rest).type (length rest.head_arguments)) o_type)) ≡ false
      both h =
          (λ z. not (count z) || not (equal_types (result_same z) (sym (same_o f g n proposition) z)))
          ∙ (λ z. or_false_left (not (nat_eq (length s.head_types) (head_count old))) (not (equal_types U o_type)) h z || not
          (equal_moved m U o_type (not-false (equal_types U o_type) (or_false_right (not (nat_eq (length s.head_types) (head_count old)))
          (not (equal_types U o_type)) h)) z))

      by : (b : Bool) → is_some old.self.head ≡ b → (b && (not (nat_eq (length s.head_types) (head_count old)) || not (equal_types U o_type))) ≡ false
          → (is_some new.self.head && (not (nat_eq (length rest.head_types) (head_count new)) || not
          (equal_types (result_type (head_built new rest).type (length rest.head_arguments)) o_type))) ≡ false
      by true e h = λ z. (has_head ∙ e) z && both h z
      by false e h = ap (λ b. b && (not (nat_eq (length rest.head_types) (head_count new)) || not
          (equal_types (result_type (head_built new rest).type (length rest.head_arguments)) o_type))) (has_head ∙ e)

  pub head_kept : (i j : Instr) → IsMoved m n i j → breaks_head old s i ≡ false → breaks_head new rest j ≡ false
  head_kept (on.TyCon d k ts) j (us, e, x) h = ap (breaks_head new rest) e
  head_kept (on.TyArr d a b) j e h = ap (breaks_head new rest) e
  head_kept (on.TyNew d) j e h = ap (breaks_head new rest) e
  head_kept (on.New d t) j e h = ap (breaks_head new rest) e
  head_kept (on.PutConst d c ts) j (us, e, x) h = ap (breaks_head new rest) e
  head_kept (on.PutInt d z) j e h = ap (breaks_head new rest) e
  head_kept (on.PutStr d b) j (us, e, x) h = ap (breaks_head new rest) e
  head_kept (on.PutIndex d i t) j e h = ap (breaks_head new rest) e
  head_kept (on.PutAbs d b t) j e h = ap (breaks_head new rest) e
  head_kept (on.PutApp d x rs) j (us, e, y) h = ap (breaks_head new rest) e
  head_kept (on.GetType i t) j e h = ap (breaks_head new rest) e ∙ (λ z. has_head z && nat_le (counts_same z) i) ∙ h
  head_kept (on.GetVar i d) j e h = ap (breaks_head new rest) e
  head_kept (on.Get i r) j e h = ap (breaks_head new rest) e ∙ (λ z. has_head z && new_variable_same r z) ∙ h
  head_kept (on.GetConst i c ts) j (us, e, x) h = ap (breaks_head new rest) e
  head_kept (on.GetInt i z) j e h = ap (breaks_head new rest) e
  head_kept (on.GetStr i b) j (us, e, x) h = ap (breaks_head new rest) e
  head_kept on.Neck j e h = ap (breaks_head new rest) e ∙ neck_kept h
  head_kept (on.Call c ts rs) j (us, vs, e, x, y) h = ap (breaks_head new rest) e
  head_kept (on.CallTerm r) j e h = ap (breaks_head new rest) e
  head_kept (on.Equal t l r) j e h = ap (breaks_head new rest) e
  head_kept (on.Is t l r) j e h = ap (breaks_head new rest) e
  head_kept (on.Less l r) j e h = ap (breaks_head new rest) e
  head_kept (on.Greater l r) j e h = ap (breaks_head new rest) e
  head_kept (on.AtMost l r) j e h = ap (breaks_head new rest) e
  head_kept (on.AtLeast l r) j e h = ap (breaks_head new rest) e
  head_kept on.Cut j e h = ap (breaks_head new rest) e
  head_kept (on.Sigma d t) j e h = ap (breaks_head new rest) e
  head_kept (on.All d t) j e h = ap (breaks_head new rest) e
  head_kept on.EndAll j e h = ap (breaks_head new rest) e
  head_kept (on.Assume ns ts rs) j (ms, us, vs, e, w, x, y) h = ap (breaks_head new rest) e
  head_kept on.EndAssume j e h = ap (breaks_head new rest) e
  head_kept (on.Either k) j e h = ap (breaks_head new rest) e
  head_kept (on.Jump k) j e h = ap (breaks_head new rest) e
  head_kept on.Proceed j e h = ap (breaks_head new rest) e
  head_kept on.Not j e h = ap (breaks_head new rest) e
  head_kept on.EndNot j e h = ap (breaks_head new rest) e

  -- blocks
  deep_same : is_too_deep rest ≡ is_too_deep s
  deep_same = ap (nat_le nesting_limit) (depth_moved f g n proposition s.frames)

  around_same : innermost_block rest.frames ≡ option_map (moved_block m) (innermost_block s.frames)
  around_same = innermost_moved f g n proposition s.frames

  module _ (is js : List Instr) (a : AllMoved m n is js) where
    nesting_kept : (i j : Instr) → IsMoved m n i j → breaks_nesting rest js j ≡ breaks_nesting s is i
    nesting_kept (on.TyCon d k ts) j (us, e, x) = ap (breaks_nesting rest js) e
    nesting_kept (on.TyArr d a b) j e = ap (breaks_nesting rest js) e
    nesting_kept (on.TyNew d) j e = ap (breaks_nesting rest js) e
    nesting_kept (on.New d t) j e = ap (breaks_nesting rest js) e
    nesting_kept (on.PutConst d c ts) j (us, e, x) = ap (breaks_nesting rest js) e
    nesting_kept (on.PutInt d z) j e = ap (breaks_nesting rest js) e
    nesting_kept (on.PutStr d b) j (us, e, x) = ap (breaks_nesting rest js) e
    nesting_kept (on.PutIndex d i t) j e = ap (breaks_nesting rest js) e
    nesting_kept (on.PutAbs d b t) j e = ap (breaks_nesting rest js) e
    nesting_kept (on.PutApp d x rs) j (us, e, y) = ap (breaks_nesting rest js) e
    nesting_kept (on.GetType i t) j e = ap (breaks_nesting rest js) e
    nesting_kept (on.GetVar i d) j e = ap (breaks_nesting rest js) e
    nesting_kept (on.Get i r) j e = ap (breaks_nesting rest js) e
    nesting_kept (on.GetConst i c ts) j (us, e, x) = ap (breaks_nesting rest js) e
    nesting_kept (on.GetInt i z) j e = ap (breaks_nesting rest js) e
    nesting_kept (on.GetStr i b) j (us, e, x) = ap (breaks_nesting rest js) e
    nesting_kept on.Neck j e = ap (breaks_nesting rest js) e
    nesting_kept (on.Call c ts rs) j (us, vs, e, x, y) = ap (breaks_nesting rest js) e
    nesting_kept (on.CallTerm r) j e = ap (breaks_nesting rest js) e
    nesting_kept (on.Equal t l r) j e = ap (breaks_nesting rest js) e
    nesting_kept (on.Is t l r) j e = ap (breaks_nesting rest js) e
    nesting_kept (on.Less l r) j e = ap (breaks_nesting rest js) e
    nesting_kept (on.Greater l r) j e = ap (breaks_nesting rest js) e
    nesting_kept (on.AtMost l r) j e = ap (breaks_nesting rest js) e
    nesting_kept (on.AtLeast l r) j e = ap (breaks_nesting rest js) e
    nesting_kept on.Cut j e = ap (breaks_nesting rest js) e
    nesting_kept (on.Sigma d t) j e = ap (breaks_nesting rest js) e
    nesting_kept (on.All d t) j e = ap (breaks_nesting rest js) e ∙ deep_same
    nesting_kept on.EndAll j e = ap (breaks_nesting rest js) e ∙ ap not (ap (ends_block on.EndAll) around_same ∙ all_ended m (innermost_block s.frames))
    nesting_kept (on.Assume ns ts rs) j (ms, us, vs, e, w, x, y) = ap (breaks_nesting rest js) e ∙ deep_same
    nesting_kept on.EndAssume j e = ap (breaks_nesting rest js) e ∙ ap not (ap (ends_block on.EndAssume) around_same ∙ assumption_ended m (innermost_block s.frames))
    nesting_kept (on.Either k) j e = ap (breaks_nesting rest js) e ∙ (λ z. deep_same z || not (jump_kept m n k is js a z))
    nesting_kept (on.Jump k) j e = ap (breaks_nesting rest js) e ∙ (λ z. not ((ap (is_left_end (s.place + 5)) around_same ∙ left_end_kept m
        (s.place + 5) (innermost_block s.frames)) z) || not (begins_kept m n k is js a z))
    nesting_kept on.Proceed j e = ap (breaks_nesting rest js) e ∙ (λ z. (ap is_some around_same ∙ is_some_mapped (moved_block m) (innermost_block s.frames)) z || not (nothing_kept m n is js a z))
    nesting_kept on.Not j e = ap (breaks_nesting rest js) e ∙ deep_same
    nesting_kept on.EndNot j e = ap (breaks_nesting rest js) e ∙ ap not (ap (ends_block on.EndNot) around_same ∙ denial_ended m (innermost_block s.frames))

    pub block_kept : (i j : Instr) → IsMoved m n i j → breaks_block rest js j ≡ breaks_block s is i
    block_kept i j x = λ z. any_mapped (is_passed s.place) (is_passed s.place) (moved_frame m) (λ (y : Frame). passed_kept m s.place y.block) s.frames z || nesting_kept i j x z

  -- records that are assumed
  add_comm : (a b : ℕ) → a + b ≡ b + a
  add_comm a b = omega arith

  same_order : (h k : ℕ) → nat_lt (n + h) (n + k) ≡ nat_lt h k
  same_order h k = by (nat_lt h k) refl
    where
      by : (b : Bool) → nat_lt h k ≡ b → nat_lt (n + h) (n + k) ≡ b
      by true e = let l = ltb-true h k e in lt-ltb (n + h) (n + k) (omega (arith, l))
      by false e = let l = ltb-false h k e in le-ltb (n + h) (n + k) (omega (arith, l))

  member_behind : (k : ℕ) (xs ys : List ℕ) → member k (xs ++ ys) ≡ (member k xs || member k ys)
  member_behind k [] ys = refl
  member_behind k (y ∷ xs) ys = ap (λ b. nat_eq k y || b) (member_behind k xs ys) ∙ sym (or_assoc (nat_eq k y) (member k xs) (member k ys))

  same_number : (k l : ℕ) → nat_eq (n + k) (n + l) ≡ nat_eq k l
  same_number k l = (λ z. nat_eq (add_comm n k z) (add_comm n l z)) ∙ same_home f g n k l

  assumed_same : (k : ℕ) (l : List (ℕ × Captured)) → member (n + k) (map (λ (a : ℕ × Captured). a.0)
      (map (λ (a : ℕ × Captured). (n + a.0, moved_captured m a.1)) l)) ≡ member k (map (λ (a : ℕ × Captured). a.0) l)
  assumed_same k [] = refl
  assumed_same k (a ∷ l) = λ z. same_number k a.0 z || assumed_same k l z

  later_same : (k : ℕ) → nat_lt new.number (n + k) ≡ nat_lt old.number k
  later_same k = (λ z. nat_lt ((along.number ∙ add_comm old.number n) z) (n + k)) ∙ same_order old.number k

  record_kept : (k ts rs : ℕ) → is_assumed_record (slice_get old.records k) ts rs ≡ true → is_assumed_record (slice_get new.records (n + k)) ts rs ≡ true
  record_kept k ts rs e = by (slice_get old.records k) refl e
    where
      by : (o : Option Record) → slice_get old.records k ≡ o → is_assumed_record o ts rs ≡ true → is_assumed_record (slice_get new.records (n + k)) ts rs ≡ true
      by None h e = absurd (let z : false ≡ true = e in cc)
      by (Some r) h e =
          let there = along.others k r h in
          ap (λ o. is_assumed_record o ts rs) there.1 ∙ (λ z. not (there.2.program z) && nat_eq (there.2.captured_types z) ts && nat_eq (there.2.captured z) rs) ∙ e

  names_kept : (named names : List ℕ) → ((k : ℕ) → member (n + k) names ≡ member k named) → (ts rs : ℕ) (ns : List ℕ) → are_fine_names old named ts rs
      ns ≡ true → are_fine_names new names ts rs (map (λ r. n + r) ns) ≡ true
  names_kept named names h ts rs [] e = refl
  names_kept named names h ts rs (k ∷ ns) e =
      let first = nat_lt old.number k in
      let second = is_assumed_record (slice_get old.records k) ts rs in
      let third = not (member k named) in
      let last = are_fine_names old (k ∷ named) ts rs ns in
      let c = and_true_left ((first && second) && third) last e in
      let b = and_true_left (first && second) third c in
      λ z. (later_same k ∙ and_true_left first second b) z
      && record_kept k ts rs (and_true_right first second b) z
      && (ap not (h k) ∙ and_true_right (first && second) third c) z
      && names_kept (k ∷ named) ((n + k) ∷ names) (λ l. λ y. same_number l k y || h l y) ts rs ns (and_true_right ((first && second) && third) last e) z

  pub clause_kept : (i j : Instr) → IsMoved m n i j → breaks_clause old s i ≡ false → breaks_clause new rest j ≡ false
  clause_kept (on.TyCon d k ts) j (us, e, x) h = ap (breaks_clause new rest) e
  clause_kept (on.TyArr d a b) j e h = ap (breaks_clause new rest) e
  clause_kept (on.TyNew d) j e h = ap (breaks_clause new rest) e ∙ ap not along.self.program ∙ h
  clause_kept (on.New d t) j e h = ap (breaks_clause new rest) e
  clause_kept (on.PutConst d c ts) j (us, e, x) h = ap (breaks_clause new rest) e
  clause_kept (on.PutInt d z) j e h = ap (breaks_clause new rest) e
  clause_kept (on.PutStr d b) j (us, e, x) h = ap (breaks_clause new rest) e
  clause_kept (on.PutIndex d i t) j e h = ap (breaks_clause new rest) e
  clause_kept (on.PutAbs d b t) j e h = ap (breaks_clause new rest) e
  clause_kept (on.PutApp d x rs) j (us, e, y) h = ap (breaks_clause new rest) e
  clause_kept (on.GetType i t) j e h = ap (breaks_clause new rest) e
  clause_kept (on.GetVar i d) j e h = ap (breaks_clause new rest) e
  clause_kept (on.Get i r) j e h = ap (breaks_clause new rest) e
  clause_kept (on.GetConst i c ts) j (us, e, x) h = ap (breaks_clause new rest) e
  clause_kept (on.GetInt i z) j e h = ap (breaks_clause new rest) e
  clause_kept (on.GetStr i b) j (us, e, x) h = ap (breaks_clause new rest) e
  clause_kept on.Neck j e h = ap (breaks_clause new rest) e
  clause_kept (on.Call c ts rs) j (us, vs, e, x, y) h = ap (breaks_clause new rest) e
  clause_kept (on.CallTerm r) j e h = ap (breaks_clause new rest) e
  clause_kept (on.Equal t l r) j e h = ap (breaks_clause new rest) e
  clause_kept (on.Is t l r) j e h = ap (breaks_clause new rest) e
  clause_kept (on.Less l r) j e h = ap (breaks_clause new rest) e
  clause_kept (on.Greater l r) j e h = ap (breaks_clause new rest) e
  clause_kept (on.AtMost l r) j e h = ap (breaks_clause new rest) e
  clause_kept (on.AtLeast l r) j e h = ap (breaks_clause new rest) e
  clause_kept on.Cut j e h = ap (breaks_clause new rest) e
  clause_kept (on.Sigma d t) j e h = ap (breaks_clause new rest) e
  clause_kept (on.All d t) j e h = ap (breaks_clause new rest) e
  clause_kept on.EndAll j e h = ap (breaks_clause new rest) e
  clause_kept (on.Assume ns ts rs) j (ms, us, vs, e, w, x, y) h =
      let before = named_before old.number old.records ++ map (λ (a : ℕ × Captured). a.0) s.assumed in
      let before_now = named_before new.number new.records ++ map (λ (a : ℕ × Captured). a.0) rest.assumed in
      let named : (k : ℕ) → member (n + k) before_now ≡ member k before = λ k.
      member_behind (n + k) (named_before new.number new.records) (map (λ (a : ℕ × Captured). a.0) rest.assumed)
      ∙ (λ z. along.named k z || assumed_same k s.assumed z) ∙ sym (member_behind k (named_before old.number old.records) (map (λ (a : ℕ × Captured). a.0) s.assumed)) in
      ap (breaks_clause new rest) e
      ∙ ap not ((λ z. are_fine_names new before_now (length (x z)) (length (y z)) (w z)) ∙ names_kept before before_now named (length ts.items)
      (length rs.items) ns.items (not-false (are_fine_names old before (length ts.items) (length rs.items) ns.items) h))
  clause_kept on.EndAssume j e h = ap (breaks_clause new rest) e
  clause_kept (on.Either k) j e h = ap (breaks_clause new rest) e
  clause_kept (on.Jump k) j e h = ap (breaks_clause new rest) e
  clause_kept on.Proceed j e h = ap (breaks_clause new rest) e
  clause_kept on.Not j e h = ap (breaks_clause new rest) e
  clause_kept on.EndNot j e h = ap (breaks_clause new rest) e
