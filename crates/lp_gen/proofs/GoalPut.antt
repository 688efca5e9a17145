-- The code of a goal, and of a part of the head, that was put: its instruction breaks no rule, and does what it should.
use Rattle.std.proofs.Common.{◌≡◌, ◌∙◌, ◌<◌, ℕ, ◌+◌, ℤ, List, [], ◌∷◌, ◌++◌, Bool, true, false, Option, Some, None, Vec, Global, ap, refl, sym, subst, arith, eq-eqb, length}
use Rattle.std.specs.Prelude.{nat_lt, nat_eq, nat_le, not, ◌||◌, ◌&&◌, if◌then◌else◌, is_none, sum_by, unwrap_or, option_map}
use Rattle.std.specs.List.{list_any}
use Rattle.std.proofs.lemmas.List.{append-nil}
use Rattle.std.proofs.lemmas.Bool.{and_from, eqb-true, lt-leb}
use Rattle.lp_lemmas.proofs.Booleans.{or_false_left, or_false_right, and_true_left, and_true_right}
use Rattle.lp_calculus.specs.Types.{Ty, Tys, var, param as type_param, con, arrow, no_types, types}
use Rattle.lp_calculus.specs.Term.{atom, apply, constant, integer, text}
use Rattle.lp_calculus.specs.Typing.{o_type, int_type, string_type, scheme_type}
use Rattle.lp_standard.specs.declared.constant.Constant.{Constant}
use Rattle.lp_standard.specs.declared.constant.Constant.TheVariants as standard
use Rattle.lp_standard.specs.Constants.{numbered}
use Rattle.lp_standard.specs.Schemes.{IsStandard}
use Rattle.lp_model.specs.Flat.{Goals, Atomic}
use Rattle.lp_model.proofs.Numbers.{number_back}
use Rattle.lp_code.specs.declared.instruction.Instr.{Instr}
use Rattle.lp_code.specs.declared.instruction.Instr.TheVariants as on
use Rattle.lp_code.specs.declared.rule.Rule.{Rule}
use Rattle.lp_code.specs.declared.rule.Rule.TheVariants as rule
use Rattle.lp_code.specs.Length.{length_of}
use Rattle.lp_code.specs.Operands.{types_read, terms_read, type_set, term_set}
use Rattle.lp_code.specs.Symbolic.{Built, held, whole, equal_types, equal_lists, applied_type, type_in, types_in, term_in, terms_in, plain_terms}
use Rattle.lp_code.specs.States.{State, Home, member, with_goal, depth}
use Rattle.lp_code.specs.Steps.{Later, constant_of, settled, passed, effect}
use Rattle.lp_code.specs.Rules.{has_type, have_type, is_passed, breaks_constant, breaks_type, breaks_index, breaks_term, breaks_order, breaks_head, breaks_nesting, breaks_clause}
use Rattle.lp_code.specs.Denote.{broken_by}
use Rattle.lp_gen.specs.declared.emitter.Emitter.{Emitter}
use Rattle.lp_gen.specs.inner.Owned.{IsPlain}
use Rattle.lp_gen.specs.inner.Running.{HasRegisters, TypesStand, TermsStand, HasRoom}
use Rattle.lp_gen.specs.inner.Fitting.{is_short}
use Rattle.lp_gen.specs.inner.Saying.{own_numbered, own_by, equation_by, order_by, turned, Turns, IsPartPut, AreGoalParts, CallPut}
use Rattle.lp_gen.specs.inner.Saying.{IsGoalTerm, TermCallPut, IsNext, IsNextConstant, ConstantGot, IntegerGot, TextGot, IsNextTerm, TermGot, IsNextType, TypeGot}
use Rattle.lp_gen.proofs.Bytes.{some_length}
use Rattle.lp_gen.proofs.Denoting.{or_none, steps, may_strict}
use Rattle.lp_gen.proofs.TermPut.{set_within, no_sides}

-- an instruction that adds a goal, or a part of the head
pub turns_one : (h : Home) (later : Later) (vars n k : ℕ) (s : State) (i : Instr) (gs : Goals) (Ts : List Ty) (bs : List Built) → effect h later s i ≡ Some (turned s gs Ts bs) →
    type_set i ≡ [] → term_set i ≡ [] →
    0 < length_of i → TypesStand h vars n s → TermsStand h k s → ((rest : List Instr) (r : Rule) → broken_by h s rest i r ≡ false) →
    (t : State) × Turns h later vars n k s (i ∷ []) gs Ts bs t
turns_one h later vars n k s i gs Ts bs eff ts rs long st te fine = (
  t,
  record {
    runs = λ rest. steps h later s (settled h.number (depth t.frames) t) i rest st.sound (fine rest) (ap (option_map (λ (u : State). settled h.number (depth u.frames) (passed i u))) eff);
    place_is = let one : sum_by length_of (i ∷ []) ≡ 0 + length_of i = refl in omega (arith, one);
    goals_are = refl;
    head_types_are = refl;
    arguments_are = refl;
    now_stays = refl;
    in_body_stays = refl;
    frames_stay = refl;
    assumed_stay = refl;
    types_stand = record {
      few = st.few;
      own = st.own;
      as_many = st.as_many;
      stand = st.stand;
      unset = λ r l. ap (λ ds. member r (s.types_set ++ ds)) ts ∙ ap (member r) (append-nil s.types_set) ∙ st.unset r l;
      sound = λ e r. let q = eqb-true (s.place + length_of i) 0 e in absurd (omega (arith, q, long));
    };
    terms_stand = record {
      as_many = te.as_many;
      unset = λ r l. ap (λ ds. member r (s.terms_set ++ ds)) rs ∙ ap (member r) (append-nil s.terms_set) ∙ te.unset r l;
      fresh = λ e r q. ap (λ ds. member r (s.terms_set ++ ds)) rs ∙ ap (member r) (append-nil s.terms_set) ∙ te.fresh e r q;
    };
  },
)
  where
    t : State
    t = passed i (turned s gs Ts bs)

any_within : {A : Type 0} (xs : List (Option A)) (n : ℕ) (rs : List ℕ) → HasRegisters xs n → list_any (λ r. is_none (held xs r)) rs ≡ false → list_any (λ r. nat_le n r) (rs ++ []) ≡ false
any_within xs n [] e u = refl
any_within xs n (r ∷ rs) e u =
    or_none (nat_le n r) (list_any (λ r. nat_le n r) (rs ++ [])) (lt-leb n r (set_within xs n r e (or_false_left (is_none (held xs r)) (list_any (λ r. is_none (held xs r)) rs) u)))
    (any_within xs n rs e (or_false_right (is_none (held xs r)) (list_any (λ r. is_none (held xs r)) rs) u))

-- how an instruction reads its parts, and that it breaks no rule
pub record Keeps (h : Home) (s : State) (i : Instr) (ts rs : List ℕ) : Type 0 where
  pub types_read_is : types_read i ≡ ts
  pub terms_read_is : terms_read i ≡ rs
  pub types_set_is : type_set i ≡ []
  pub terms_set_is : term_set i ≡ []
  pub types_are : list_any (λ t. is_none (held s.now.types t)) ts ≡ false
  pub terms_are : list_any (λ r. is_none (held s.now.terms r)) rs ≡ false
  pub constant_is : breaks_constant h i ≡ false
  pub type_is : breaks_type h s i ≡ false
  pub index_is : breaks_index s i ≡ false
  pub term_is : breaks_term i ≡ false
  pub order_is : breaks_order s i ≡ false
  pub head_is : breaks_head h s i ≡ false
  pub nesting_is : (rest : List Instr) → breaks_nesting s rest i ≡ false
  pub clause_is : breaks_clause h s i ≡ false

pub keeps_rules : (h : Home) (vars n k : ℕ) (s : State) (i : Instr) (ts rs : List ℕ) → TypesStand h vars n s → TermsStand h k s → Keeps h s i ts rs → HasRoom s s.place →
    (rest : List Instr) (r : Rule) → broken_by h s rest i r ≡ false
keeps_rules h vars n k s i ts rs st te b room rest rule.Register =
    (λ j. list_any (λ t. nat_le h.self.types t) (b.types_read_is j ++ b.types_set_is j) || list_any (λ r. nat_le h.self.registers r) (b.terms_read_is j ++ b.terms_set_is j))
    ∙ or_none (list_any (λ t. nat_le h.self.types t) (ts ++ [])) (list_any (λ r. nat_le h.self.registers r) (rs ++ [])) (any_within s.now.types h.self.types ts st.as_many b.types_are)
    (any_within s.now.terms h.self.registers rs te.as_many b.terms_are)
keeps_rules h vars n k s i ts rs st te b room rest rule.Unset =
    (λ j. list_any (λ t. is_none (held s.now.types t)) (b.types_read_is j) || list_any (λ r. is_none (held s.now.terms r)) (b.terms_read_is j))
    ∙ or_none (list_any (λ t. is_none (held s.now.types t)) ts) (list_any (λ r. is_none (held s.now.terms r)) rs) b.types_are b.terms_are
keeps_rules h vars n k s i ts rs st te b room rest rule.Set = λ j. list_any (λ t. member t s.types_set) (b.types_set_is j) || list_any (λ r. member r s.terms_set) (b.terms_set_is j)
keeps_rules h vars n k s i ts rs st te b room rest rule.Constant = b.constant_is
keeps_rules h vars n k s i ts rs st te b room rest rule.Typing = b.type_is
keeps_rules h vars n k s i ts rs st te b room rest rule.Index = b.index_is
keeps_rules h vars n k s i ts rs st te b room rest rule.Term = b.term_is
keeps_rules h vars n k s i ts rs st te b room rest rule.Order = b.order_is
keeps_rules h vars n k s i ts rs st te b room rest rule.Head = b.head_is
keeps_rules h vars n k s i ts rs st te b room rest rule.Block = ap (λ x. list_any (is_passed s.place) s.frames || x) (b.nesting_is rest) ∙ no_sides s room
keeps_rules h vars n k s i ts rs st te b room rest rule.Clause = b.clause_is
keeps_rules h vars n k s i ts rs st te b room rest rule.Key = refl

-- an instruction that reads and sets no register
pub plain_rules : (h : Home) (vars n k : ℕ) (s : State) (i : Instr) → TypesStand h vars n s → TermsStand h k s → types_read i ≡ [] → terms_read i ≡ [] → type_set i ≡ [] → term_set i ≡ [] →
    breaks_constant h i ≡ false → breaks_type h s i ≡ false → breaks_index s i ≡ false → breaks_term i ≡ false → breaks_order s i ≡ false → breaks_head h s i ≡ false →
    ((rest : List Instr) → breaks_nesting s rest i ≡ false) → breaks_clause h s i ≡ false → HasRoom s s.place → (rest : List Instr) (r : Rule) → broken_by h s rest i r ≡ false
plain_rules h vars n k s i st te a b c d counted typed closed in_terms ordered headed nested assumed room = keeps_rules h vars n k s i [] [] st te (record {
  types_read_is = a;
  terms_read_is = b;
  types_set_is = c;
  terms_set_is = d;
  types_are = refl;
  terms_are = refl;
  constant_is = counted;
  type_is = typed;
  index_is = closed;
  term_is = in_terms;
  order_is = ordered;
  head_is = headed;
  nesting_is = nested;
  clause_is = assumed;
}) room

-- what an instruction does, and what it reads
record Stands (h : Home) (later : Later) (s : State) (i : Instr) (ts rs : List ℕ) (gs : Goals) (Ts : List Ty) (bs : List Built) : Type 0 where
  reads : Keeps h s i ts rs
  does : effect h later s i ≡ Some (turned s gs Ts bs)
  long : 0 < length_of i

-- the same, one fact after the other
read_by : {h : Home} {later : Later} {s : State} {i : Instr} {ts rs : List ℕ} {gs : Goals} {Ts : List Ty} {bs : List Built} → types_read i ≡ ts →
    terms_read i ≡ rs → type_set i ≡ [] → term_set i ≡ [] →
    list_any (λ t. is_none (held s.now.types t)) ts ≡ false → list_any (λ r. is_none (held s.now.terms r)) rs ≡ false → breaks_constant h i ≡ false → breaks_type h s i ≡ false →
    breaks_index s i ≡ false → breaks_term i ≡ false → breaks_order s i ≡ false → breaks_head h s i ≡ false → ((rest : List Instr) → breaks_nesting s rest i ≡ false) → breaks_clause h s i ≡ false →
    effect h later s i ≡ Some (turned s gs Ts bs) → 0 < length_of i → Stands h later s i ts rs gs Ts bs
read_by a b c d of_types of_terms counted typed closed in_terms ordered headed nested assumed does long = record {
  reads = record {
    types_read_is = a;
    terms_read_is = b;
    types_set_is = c;
    terms_set_is = d;
    types_are = of_types;
    terms_are = of_terms;
    constant_is = counted;
    type_is = typed;
    index_is = closed;
    term_is = in_terms;
    order_is = ordered;
    head_is = headed;
    nesting_is = nested;
    clause_is = assumed;
  };
  does = does;
  long = long;
}

-- types that are equal one way are so the other way
mutual
  equal_flip : (T U : Ty) → equal_types T U ≡ true → equal_types U T ≡ true
  equal_flip (var i) (var j) e = eq-eqb j i (sym (eqb-true i j e))
  equal_flip (type_param i) (type_param j) e = eq-eqb j i (sym (eqb-true i j e))
  equal_flip (con c ts) (con d us) e =
      and_from (nat_eq d c) (equal_lists us ts) (eq-eqb d c (sym (eqb-true c d (and_true_left (nat_eq c d) (equal_lists ts us) e)))) (lists_flip ts us (and_true_right (nat_eq c d)
      (equal_lists ts us) e))
  equal_flip (arrow a b) (arrow c d) e =
      and_from (equal_types c a) (equal_types d b) (equal_flip a c (and_true_left (equal_types a c) (equal_types b d) e)) (equal_flip b d (and_true_right (equal_types a c) (equal_types b d) e))
  equal_flip _ _ e = absurd (cc)

  lists_flip : (ts us : Tys) → equal_lists ts us ≡ true → equal_lists us ts ≡ true
  lists_flip no_types no_types e = refl
  lists_flip (types t ts) (types u us) e =
      and_from (equal_types u t) (equal_lists us ts) (equal_flip t u (and_true_left (equal_types t u) (equal_lists ts us) e)) (lists_flip ts us (and_true_right (equal_types t u)
      (equal_lists ts us) e))
  lists_flip _ _ e = absurd (cc)

-- both sides have the type
both_sides : (s : State) (l r : ℕ) (T : Ty) → has_type (applied_type (arrow T (arrow T o_type)) ((term_in s.now l).type ∷ (term_in s.now r).type ∷ [])) o_type ≡ true →
    not (have_type s (l ∷ r ∷ []) T) ≡ false
both_sides s l r T e =
    let w = go (equal_types T (term_in s.now l).type) (equal_types T (term_in s.now r).type) e in
    λ j. not (equal_flip T (term_in s.now l).type w.0 j && (equal_flip T (term_in s.now r).type w.1 j && true))
  where
    go : (x y : Bool) → has_type (if x then (if y then Some o_type else None) else None) o_type ≡ true → (x ≡ true) × (y ≡ true)
    go true true e = (refl, refl)
    go true false e = absurd (cc)
    go false y e = absurd (cc)

equation_fits : (h : Home) (s : State) (c t l r : ℕ) → h.tables.constants c ≡ Some (record { count = 1; body = arrow (var 0) (arrow (var 0) o_type) }) →
    AreGoalParts h s c (t ∷ []) (l ∷ r ∷ []) → not (have_type s (l ∷ r ∷ []) (type_in s.now t)) ≡ false
equation_fits h s c t l r e a =
    both_sides s l r (type_in s.now t)
    (sym (ap (λ o. has_type (applied_type (unwrap_or (scheme_type (type_in s.now t ∷ []) o) o_type) ((term_in s.now l).type ∷ (term_in s.now r).type ∷ [])) o_type) e) ∙ a.typed)

order_fits : (h : Home) (s : State) (c l r : ℕ) → h.tables.constants c ≡ Some (record { count = 0; body = arrow int_type (arrow int_type o_type) }) → AreGoalParts h s c [] (l ∷ r ∷ []) →
    not (have_type s (l ∷ r ∷ []) int_type) ≡ false
order_fits h s c l r e a =
    both_sides s l r int_type (sym (ap (λ o. has_type (applied_type (unwrap_or (scheme_type [] o) o_type) ((term_in s.now l).type ∷ (term_in s.now r).type ∷ [])) o_type) e) ∙ a.typed)

-- the instruction of a constant
abbrev StandsFor : Home → Later → State → Instr → (c : ℕ) → (ts rs : List ℕ) → Type 0
StandsFor h later s i c ts rs = Stands h later s i ts rs (with_goal s.goals (Atomic (apply (atom (constant c (types_in s.now ts))) (plain_terms
    (terms_in s.now rs))))) s.head_types s.head_arguments

plain_stands : (h : Home) (later : Later) (s : State) (c : ℕ) (v w : Vec ℕ Global) → AreGoalParts h s c v.items w.items → StandsFor h later s (on.Call c v w) c v.items w.items
plain_stands h later s c v w a = read_by refl refl refl refl a.types_set a.terms_set (ap (λ x. not x) a.declared) (ap (λ x. not x) a.typed) a.closed
    a.in_goals (ap (λ x. not x) a.behind_head) refl (λ rest. refl) refl refl (omega arith)

abbrev StandsAs : Home → Later → State → Option Instr → Instr → (c : ℕ) → (ts rs : List ℕ) → Type 0
StandsAs h later s o i c ts rs = o ≡ Some i → StandsFor h later s i c ts rs

equation_stands : (h : Home) (later : Later) (s : State) (k : Constant) (c t l r : ℕ) (i : Instr) → IsStandard h.tables.constants → numbered c ≡ Some k →
    AreGoalParts h s c (t ∷ []) (l ∷ r ∷ []) → StandsAs h later s (equation_by k t l r) i c (t ∷ []) (l ∷ r ∷ [])
equation_stands h later s standard.Equal c t l r i d n a e =
    let is : on.Equal t l r ≡ i = cc in
    let eight = number_back c standard.Equal n in
    let fits = equation_fits h s c t l r (ap h.tables.constants eight ∙ d.at 8 (omega arith)) a in
    subst (λ i. StandsFor h later s i c (t ∷ []) (l ∷ r ∷ [])) is (read_by refl refl refl refl a.types_set a.terms_set refl fits a.closed refl
    (ap (λ x. not x) a.behind_head) refl (λ rest. refl) refl (ap (λ m. Some (turned s
    (with_goal s.goals (Atomic (apply (atom (constant m (type_in s.now t ∷ []))) ((term_in s.now l).term ∷ (term_in s.now r).term ∷ []))))
    s.head_types s.head_arguments)) (sym eight)) (omega arith))
equation_stands h later s standard.Is c t l r i d n a e =
    let is : on.Is t l r ≡ i = cc in
    let nine = number_back c standard.Is n in
    let fits = equation_fits h s c t l r (ap h.tables.constants nine ∙ d.at 9 (omega arith)) a in
    subst (λ i. StandsFor h later s i c (t ∷ []) (l ∷ r ∷ [])) is (read_by refl refl refl refl a.types_set a.terms_set refl fits a.closed refl
    (ap (λ x. not x) a.behind_head) refl (λ rest. refl) refl (ap (λ m. Some (turned s
    (with_goal s.goals (Atomic (apply (atom (constant m (type_in s.now t ∷ []))) ((term_in s.now l).term ∷ (term_in s.now r).term ∷ []))))
    s.head_types s.head_arguments)) (sym nine)) (omega arith))
equation_stands h later s _ c t l r i d n a e = absurd (cc)

order_stands : (h : Home) (later : Later) (s : State) (k : Constant) (c l r : ℕ) (i : Instr) → IsStandard h.tables.constants → numbered c ≡ Some k → AreGoalParts h s c [] (l ∷ r ∷ []) →
    StandsAs h later s (order_by k l r) i c [] (l ∷ r ∷ [])
order_stands h later s standard.Less c l r i d n a e =
    let is : on.Less l r ≡ i = cc in
    let number = number_back c standard.Less n in
    let fits = order_fits h s c l r (ap h.tables.constants number ∙ d.at 10 (omega arith)) a in
    subst (λ i. StandsFor h later s i c [] (l ∷ r ∷ [])) is (read_by refl refl refl refl a.types_set a.terms_set refl fits a.closed refl
    (ap (λ x. not x) a.behind_head) refl (λ rest. refl) refl (ap (λ m. Some (turned s
    (with_goal s.goals (Atomic (apply (atom (constant m [])) ((term_in s.now l).term ∷ (term_in s.now r).term ∷ [])))) s.head_types
    s.head_arguments)) (sym number)) (omega arith))
order_stands h later s standard.Greater c l r i d n a e =
    let is : on.Greater l r ≡ i = cc in
    let number = number_back c standard.Greater n in
    let fits = order_fits h s c l r (ap h.tables.constants number ∙ d.at 11 (omega arith)) a in
    subst (λ i. StandsFor h later s i c [] (l ∷ r ∷ [])) is (read_by refl refl refl refl a.types_set a.terms_set refl fits a.closed refl
    (ap (λ x. not x) a.behind_head) refl (λ rest. refl) refl (ap (λ m. Some (turned s
    (with_goal s.goals (Atomic (apply (atom (constant m [])) ((term_in s.now l).term ∷ (term_in s.now r).term ∷ [])))) s.head_types
    s.head_arguments)) (sym number)) (omega arith))
order_stands h later s standard.AtMost c l r i d n a e =
    let is : on.AtMost l r ≡ i = cc in
    let number = number_back c standard.AtMost n in
    let fits = order_fits h s c l r (ap h.tables.constants number ∙ d.at 12 (omega arith)) a in
    subst (λ i. StandsFor h later s i c [] (l ∷ r ∷ [])) is (read_by refl refl refl refl a.types_set a.terms_set refl fits a.closed refl
    (ap (λ x. not x) a.behind_head) refl (λ rest. refl) refl (ap (λ m. Some (turned s
    (with_goal s.goals (Atomic (apply (atom (constant m [])) ((term_in s.now l).term ∷ (term_in s.now r).term ∷ [])))) s.head_types
    s.head_arguments)) (sym number)) (omega arith))
order_stands h later s standard.AtLeast c l r i d n a e =
    let is : on.AtLeast l r ≡ i = cc in
    let number = number_back c standard.AtLeast n in
    let fits = order_fits h s c l r (ap h.tables.constants number ∙ d.at 13 (omega arith)) a in
    subst (λ i. StandsFor h later s i c [] (l ∷ r ∷ [])) is (read_by refl refl refl refl a.types_set a.terms_set refl fits a.closed refl
    (ap (λ x. not x) a.behind_head) refl (λ rest. refl) refl (ap (λ m. Some (turned s
    (with_goal s.goals (Atomic (apply (atom (constant m [])) ((term_in s.now l).term ∷ (term_in s.now r).term ∷ [])))) s.head_types
    s.head_arguments)) (sym number)) (omega arith))
order_stands h later s _ c l r i d n a e = absurd (cc)

own_stands : (h : Home) (later : Later) (s : State) (k : Constant) (c : ℕ) (ts rs : List ℕ) (i : Instr) → IsStandard h.tables.constants → numbered c ≡ Some k → AreGoalParts h s c ts rs →
    StandsAs h later s (own_by k ts rs) i c ts rs
own_stands h later s k c ts [] i d n a e = absurd (cc)
own_stands h later s k c ts (l ∷ []) i d n a e = absurd (cc)
own_stands h later s k c [] (l ∷ r ∷ []) i d n a e = order_stands h later s k c l r i d n a e
own_stands h later s k c (t ∷ []) (l ∷ r ∷ []) i d n a e = equation_stands h later s k c t l r i d n a e
own_stands h later s k c (t ∷ u ∷ ts) (l ∷ r ∷ []) i d n a e = absurd (cc)
own_stands h later s k c ts (l ∷ r ∷ x ∷ xs) i d n a e = absurd (cc)

numbered_stands : (h : Home) (later : Later) (s : State) (o : Option Constant) (c : ℕ) (ts rs : List ℕ) (i : Instr) → IsStandard h.tables.constants → numbered c ≡ o →
    AreGoalParts h s c ts rs → StandsAs h later s (own_numbered o ts rs) i c ts rs
numbered_stands h later s None c ts rs i d n a e = absurd (cc)
numbered_stands h later s (Some k) c ts rs i d n a e = own_stands h later s k c ts rs i d n a e

-- none of them makes a variable

abbrev IsNonePlain : Option Instr → Type 0
IsNonePlain None = Unit {0}
IsNonePlain (Some i) = IsPlain (i ∷ [])

equation_plain : (k : Constant) (t l r : ℕ) → IsNonePlain (equation_by k t l r)
equation_plain standard.Equal t l r = record { no_own = refl; no_types = refl }
equation_plain standard.Is t l r = record { no_own = refl; no_types = refl }
equation_plain _ t l r = tt

order_plain : (k : Constant) (l r : ℕ) → IsNonePlain (order_by k l r)
order_plain standard.Less l r = record { no_own = refl; no_types = refl }
order_plain standard.Greater l r = record { no_own = refl; no_types = refl }
order_plain standard.AtMost l r = record { no_own = refl; no_types = refl }
order_plain standard.AtLeast l r = record { no_own = refl; no_types = refl }
order_plain _ l r = tt

own_plain : (k : Constant) (ts rs : List ℕ) → IsNonePlain (own_by k ts rs)
own_plain k ts [] = tt
own_plain k ts (l ∷ []) = tt
own_plain k [] (l ∷ r ∷ []) = order_plain k l r
own_plain k (t ∷ []) (l ∷ r ∷ []) = equation_plain k t l r
own_plain k (t ∷ u ∷ ts) (l ∷ r ∷ []) = tt
own_plain k ts (l ∷ r ∷ x ∷ xs) = tt

numbered_plain : (o : Option Constant) (ts rs : List ℕ) → IsNonePlain (own_numbered o ts rs)
numbered_plain None ts rs = tt
numbered_plain (Some k) ts rs = own_plain k ts rs

-- nor has a string or records

abbrev IsNoneShort : Option Instr → Type 0
IsNoneShort None = Unit {0}
IsNoneShort (Some i) = is_short i ≡ true

equation_short : (k : Constant) (t l r : ℕ) → IsNoneShort (equation_by k t l r)
equation_short standard.Equal t l r = refl
equation_short standard.Is t l r = refl
equation_short _ t l r = tt

order_short : (k : Constant) (l r : ℕ) → IsNoneShort (order_by k l r)
order_short standard.Less l r = refl
order_short standard.Greater l r = refl
order_short standard.AtMost l r = refl
order_short standard.AtLeast l r = refl
order_short _ l r = tt

own_short : (k : Constant) (ts rs : List ℕ) → IsNoneShort (own_by k ts rs)
own_short k ts [] = tt
own_short k ts (l ∷ []) = tt
own_short k [] (l ∷ r ∷ []) = order_short k l r
own_short k (t ∷ []) (l ∷ r ∷ []) = equation_short k t l r
own_short k (t ∷ u ∷ ts) (l ∷ r ∷ []) = tt
own_short k ts (l ∷ r ∷ x ∷ xs) = tt

pub numbered_short : (o : Option Constant) (ts rs : List ℕ) (i : Instr) → own_numbered o ts rs ≡ Some i → is_short i ≡ true
numbered_short o ts rs i e = subst IsNoneShort e (of o)
  where
    of : (o : Option Constant) → IsNoneShort (own_numbered o ts rs)
    of None = tt
    of (Some k) = own_short k ts rs

part_put : (old new : Emitter) (i : Instr) (ts rs : List ℕ) (asks : Home → State → Type 0) (goals : State → Goals) (head_types : State → List Ty) (arguments : Home → State → List Built) →
    new.code.items ≡ old.code.items ++ i ∷ [] → new.types ≡ old.types → new.registers ≡ old.registers → IsPlain (i ∷ []) →
    ((h : Home) (later : Later) (s : State) → IsStandard h.tables.constants → asks h s → Stands h later s i ts rs (goals s) (head_types s) (arguments h s)) →
    IsPartPut old new asks goals head_types arguments
part_put old new i ts rs asks goals head_types arguments code same_types same_registers plain stands = record {
  more = i ∷ [];
  code_is = code;
  some = let long = some_length i in let one : sum_by length_of (i ∷ []) ≡ 0 + length_of i = refl in omega (arith, one, long);
  types_stay = same_types;
  registers_stay = same_registers;
  plain = plain;
  denotes = λ h later vars s d st te a room.
      let x = stands h later s d a in
      let one : sum_by length_of (i ∷ []) ≡ 0 + length_of i = refl in
      let long = x.long in
      let here : HasRoom s s.place = may_strict s.place (s.place + sum_by length_of (i ∷ [])) s.frames (omega (arith, one, long)) room in
      turns_one h later vars old.types old.registers s i (goals s) (head_types s) (arguments h s) x.does x.reads.types_set_is x.reads.terms_set_is x.long st te
      (keeps_rules h vars old.types old.registers s i ts rs st te x.reads here);
}

goal_put : (old new : Emitter) (i : Instr) (c : ℕ) (ts rs : List ℕ) → new.code.items ≡ old.code.items ++ i ∷ [] → new.types ≡ old.types → new.registers ≡ old.registers → IsPlain (i ∷ []) →
    ((h : Home) (later : Later) (s : State) → IsStandard h.tables.constants → AreGoalParts h s c ts rs → StandsFor h later s i c ts rs) → CallPut old new c ts rs
goal_put old new i c ts rs code same_types same_registers plain stands =
    part_put old new i ts rs (λ h s. AreGoalParts h s c ts rs) (λ s. with_goal s.goals (Atomic (apply (atom (constant c (types_in s.now ts))) (plain_terms (terms_in s.now rs)))))
    (λ s. s.head_types) (λ h s. s.head_arguments) code same_types same_registers plain stands

pub own_put : (old new : Emitter) (i : Instr) (c : ℕ) (ts rs : List ℕ) → own_numbered (numbered c) ts rs ≡ Some i → new.code.items ≡ old.code.items ++ i ∷ [] → new.types ≡ old.types →
    new.registers ≡ old.registers → CallPut old new c ts rs
own_put old new i c ts rs e code same_types same_registers = goal_put old new i c ts rs code same_types same_registers
    (subst IsNonePlain e (numbered_plain (numbered c) ts rs)) (λ h later s d a. numbered_stands h later s
    (numbered c) c ts rs i d refl a e)

pub call_put : (old new : Emitter) (c : ℕ) (v w : Vec ℕ Global) → new.code.items ≡ old.code.items ++ on.Call c v w ∷ [] → new.types ≡ old.types → new.registers ≡ old.registers →
    CallPut old new c v.items w.items
call_put old new c v w code same_types same_registers = goal_put old new (on.Call c v w) c v.items w.items code same_types same_registers
    (record { no_own = refl; no_types = refl }) (λ h later s d a. plain_stands h later s c v w a)

pub term_call_put : (old new : Emitter) (r : ℕ) → new.code.items ≡ old.code.items ++ on.CallTerm r ∷ [] → new.types ≡ old.types → new.registers ≡ old.registers → TermCallPut old new r
term_call_put old new r code same_types same_registers =
    part_put old new (on.CallTerm r) [] (r ∷ []) (λ h s. IsGoalTerm s r) (λ s. with_goal s.goals (Atomic (term_in s.now r).term)) (λ s. s.head_types)
    (λ h s. s.head_arguments) code same_types same_registers (record { no_own = refl; no_types = refl })
    (λ h later s d a. read_by refl refl refl refl refl a.terms_set refl (ap (λ x. not x) a.typed) a.closed refl (ap (λ x. not x) a.behind_head)
    refl (λ rest. refl) refl refl (omega arith))

-- parts of the head

pub constant_got : (old new : Emitter) (i c : ℕ) (v : Vec ℕ Global) → new.code.items ≡ old.code.items ++ on.GetConst i c v ∷ [] → new.types ≡ old.types → new.registers ≡ old.registers →
    ConstantGot old new i c v.items
constant_got old new i c v code same_types same_registers =
    part_put old new (on.GetConst i c v) v.items [] (λ h s. IsNextConstant h s i c v.items) (λ s. s.goals) (λ s. s.head_types) (λ h s. s.head_arguments ++ constant_of h.tables c
    (types_in s.now v.items) ∷ []) code same_types same_registers (record { no_own = refl; no_types = refl })
    (λ h later s d a. read_by refl refl refl refl a.types_set refl (ap (λ x. not x) a.declared) (ap (λ x. not x) a.next.typed) refl a.in_terms
    a.next.in_turn refl (λ rest. refl) refl refl (omega arith))

pub integer_got : (old new : Emitter) (i : ℕ) (z : ℤ) → new.code.items ≡ old.code.items ++ on.GetInt i z ∷ [] → new.types ≡ old.types → new.registers ≡ old.registers → IntegerGot old new i z
integer_got old new i z code same_types same_registers =
    part_put old new (on.GetInt i z) [] [] (λ h s. IsNext h s i int_type) (λ s. s.goals) (λ s. s.head_types) (λ h s. s.head_arguments ++ whole (atom
    (integer z)) int_type ∷ []) code same_types same_registers (record { no_own = refl; no_types = refl })
    (λ h later s d a. read_by refl refl refl refl refl refl refl (ap (λ x. not x) a.typed) refl refl a.in_turn refl (λ rest. refl) refl refl
    (omega arith))

pub text_got : (old new : Emitter) (i : ℕ) (v : Vec ℕ Global) → new.code.items ≡ old.code.items ++ on.GetStr i v ∷ [] → new.types ≡ old.types → new.registers ≡ old.registers →
    TextGot old new i v.items
text_got old new i v code same_types same_registers =
    part_put old new (on.GetStr i v) [] [] (λ h s. IsNext h s i string_type × (nat_lt (length v.items) 65536 ≡ true)) (λ s. s.goals) (λ s. s.head_types) (λ h s. s.head_arguments ++ whole (atom
    (text v.items)) string_type ∷ []) code same_types same_registers (record { no_own = refl; no_types = refl })
    (λ h later s d a. read_by refl refl refl refl refl refl refl (ap (λ x. not x) a.0.typed) refl refl a.0.in_turn refl (λ rest. refl) refl refl
    (omega arith))

-- a string that was cut, where it is too long
pub text_cut : (old new : Emitter) (i : ℕ) (t b : List ℕ) → (nat_lt (length b) 65536 ≡ true → t ≡ b) → TextGot old new i t → TextGot old new i b
text_cut old new i t b same x = record {
  more = x.more;
  code_is = x.code_is;
  some = x.some;
  types_stay = x.types_stay;
  registers_stay = x.registers_stay;
  plain = x.plain;
  denotes = λ h later vars s std st te asks may.
      subst (λ l. (u : State) × Turns h later vars old.types old.registers s x.more s.goals s.head_types (s.head_arguments ++ whole (atom (text l)) string_type ∷ []) u) (same asks.1)
      (x.denotes h later vars s std st te (asks.0, subst (λ l. nat_lt (length l) 65536 ≡ true) (sym (same asks.1)) asks.1) may);
}

pub term_got : (old new : Emitter) (i r : ℕ) → new.code.items ≡ old.code.items ++ on.Get i r ∷ [] → new.types ≡ old.types → new.registers ≡ old.registers → TermGot old new i r
term_got old new i r code same_types same_registers =
    part_put old new (on.Get i r) [] (r ∷ []) (λ h s. IsNextTerm h s i r) (λ s. s.goals) (λ s. s.head_types)
    (λ h s. s.head_arguments ++ term_in s.now r ∷ []) code same_types same_registers (record { no_own = refl; no_types = refl })
    (λ h later s d a. read_by refl refl refl refl refl a.terms_set refl (ap (λ x. not x) a.next.typed) a.closed refl a.next.in_turn a.known
    (λ rest. refl) refl refl (omega arith))

pub type_got : (old new : Emitter) (j t : ℕ) → new.code.items ≡ old.code.items ++ on.GetType j t ∷ [] → new.types ≡ old.types → new.registers ≡ old.registers → TypeGot old new j t
type_got old new j t code same_types same_registers =
    part_put old new (on.GetType j t) (t ∷ []) [] (λ h s. IsNextType h s j t) (λ s. s.goals) (λ s. s.head_types ++ type_in s.now t ∷ [])
    (λ h s. s.head_arguments) code same_types same_registers (record { no_own = refl; no_types = refl })
    (λ h later s d a. read_by refl refl refl refl a.types_set refl refl refl refl refl a.in_turn a.asked (λ rest. refl) refl refl (omega arith))
