-- The code of an argument of the head, of each form.
use Rattle.std.proofs.Common.{◌≡◌, ◌∙◌, ◌≤◌, ◌<◌, ℕ, ℤ, ◌+◌, ◌-◌, List, [], ◌∷◌, ◌++◌, append_assoc, length, Bool, true, false, Option, Some, None, ap, refl, sym, subst, arith, true≢false, ⊎_elim}
use Rattle.std.specs.Prelude.{nat_eq, nat_le, not, ◌&&◌, ◌||◌, if◌then◌else◌, is_none, is_some, sum_by, unwrap_or}
use Rattle.std.specs.List.{list_any}
use Rattle.std.proofs.lemmas.Bool.{eqb-true, eq-eqb, leb-true, leb-false, le-ltb}
use Rattle.lp_calculus.specs.Types.{Ty, tys}
use Rattle.lp_calculus.specs.Term.{Term, index, atom, abs, app, constant, integer, text, eigen, logic, param}
use Rattle.lp_calculus.specs.Typing.{o_type, int_type, string_type}
use Rattle.lp_code.specs.declared.record.RecordHead.{RecordHead}
use Rattle.lp_code.specs.declared.record.RecordHead.TheVariants.{Const, Register}
use Rattle.lp_code.specs.Length.{length_of}
use Rattle.lp_code.specs.Symbolic.{Built, variable, held, whole, is_closed, equal_types, argument_type, types_in, term_in}
use Rattle.lp_code.specs.States.{State, Home}
use Rattle.lp_code.specs.Steps.{constant_of, own_variables, built_of, head_built}
use Rattle.lp_code.specs.Rules.{has_type, has_count, out_of_turn, is_argument, is_variable_of, stands_in, is_new_variable}
use Rattle.lp_gen.specs.declared.emitter.Emitter.{Emitter}
use Rattle.lp_gen.specs.inner.Running.{TermsStand, AreTypesPut}
use Rattle.lp_gen.specs.inner.Saying.{ConstantGot, IntegerGot, TextGot, TermGot}
use Rattle.lp_gen.specs.Steps.{Seen, Around, at_level, level_in, set_level, if_unset, level_first, first_place}
use Rattle.lp_gen.specs.inner.TermSteps.{made_variable}
use Rattle.lp_gen.specs.inner.TermLaw.{Standing, IsSeen, level_term, with_variables}
use Rattle.lp_gen.specs.inner.Written.{IsWell, TermWritten}
use Rattle.lp_gen.specs.inner.Doing.{Does}
use Rattle.lp_gen.specs.inner.Heading.{VariableGot, AreOwn, HaveStood, PredicateStands, ArgumentGot}
use Rattle.lp_gen.proofs.OwnSet.{plain_both}
use Rattle.lp_gen.proofs.CodeOwned.{none_owned, owns_then, one_owned}
use Rattle.lp_gen.proofs.StepsOwn.{no_types_more}
use Rattle.lp_gen.proofs.Denoting.{or_none, strict_may, room_front, room_behind, none_unset}
use Rattle.lp_gen.proofs.TermPut.{types_held, moved}
use Rattle.lp_gen.proofs.LooseOf.{equal_self, some_same}
use Rattle.lp_gen.proofs.AroundSet.{around_same, around_set, found_set, standing_set}
use Rattle.lp_gen.proofs.TermListed.{has_scheme, is_term}
use Rattle.lp_gen.proofs.TermWritten.{room_goes}
use Rattle.lp_gen.proofs.AtomWritten.{leads_goes, goes_does, turns_does, then_does, does_same, standing_after}

and_false : (t : Bool) → (t && false) ≡ false
and_false true = refl
and_false false = refl

-- lists of which some pass

any_front : {A : Type 0} (f : A → Bool) (xs ys : List A) → list_any f xs ≡ true → list_any f (xs ++ ys) ≡ true
any_front f [] ys e = absurd (true≢false (sym e))
any_front f (x ∷ xs) ys e = go (f x) (any_front f xs ys) e
  where
    go : (t : Bool) → (list_any f xs ≡ true → list_any f (xs ++ ys) ≡ true) → (t || list_any f xs) ≡ true → (t || list_any f (xs ++ ys)) ≡ true
    go true k e = refl
    go false k e = k e

any_last : {A : Type 0} (f : A → Bool) (xs : List A) (y : A) → f y ≡ true → list_any f (xs ++ y ∷ []) ≡ true
any_last f [] y e = ap (λ t. t || false) e
any_last f (x ∷ xs) y e = go (f x) (any_last f xs y e)
  where
    go : (t : Bool) → list_any f (xs ++ y ∷ []) ≡ true → (t || list_any f (xs ++ y ∷ [])) ≡ true
    go true k = refl
    go false k = k

any_none : {A : Type 0} (f : A → Bool) (xs : List A) → ((x : A) → f x ≡ false) → list_any f xs ≡ false
any_none f [] e = refl
any_none f (x ∷ xs) e = or_none (f x) (list_any f xs) (e x) (any_none f xs e)

-- a variable at its first place

some_level : (l m : ℕ) → ◌≡◌ {A = Option ℕ} (Some l) (Some m) → l ≡ m
some_level l m e = cc

some_seen : (v w : Seen) → ◌≡◌ {A = Option Seen} (Some v) (Some w) → v ≡ w
some_seen v w e = cc

abbrev unless : Bool → ℕ → ℕ → Option (ℕ × ℕ)
unless s l r = if s then None else Some (l, r)

no_pair : (p : ℕ × ℕ) → None ≡ Some p → ⊥
no_pair p e = cc

-- the variable of an index, by what is seen of it
pub index_is : (σ : ℕ → Term) (Γ : List Ty) (a : Around) (j : ℕ) (x : IsSeen a Γ j) → with_variables σ a 0 (index j) ≡ σ x.0
index_is σ Γ a j x =
    let back : j - 0 ≡ j = omega arith in
    ap (λ t. if t then index j else level_term σ (level_in a (j - 0))) (le-ltb j 0 (omega arith)) ∙ ap (λ k. level_term σ (level_in a k)) back ∙ ap (level_term σ) x.2

pub seen_at : (Γ : List Ty) (a : Around) (j : ℕ) → IsSeen a Γ (j - 0) → IsSeen a Γ j
seen_at Γ a j x = subst (IsSeen a Γ) (let z : j - 0 ≡ j = omega arith in z) x

first_is : (a : Around) (j l : ℕ) (v : Seen) → level_in a j ≡ Some l → at_level a l ≡ Some v → first_place a (index j) ≡ unless v.is_set l v.register
first_is a j l v e f = ap (level_first a) e ∙ ap (if_unset l) f

first_unset : (s : Bool) (l r : ℕ) (p : ℕ × ℕ) → unless s l r ≡ Some p → (s ≡ false) × (l ≡ p.0) × (r ≡ p.1)
first_unset true l r p e = absurd (no_pair p e)
first_unset false l r p e = (refl, cc, cc)

first_none : (s : Bool) (l r : ℕ) → unless s l r ≡ None → s ≡ true
first_none true l r e = refl
first_none false l r e = absurd (no_pair (l, r) (sym e))

in_turn : (s : State) (i : ℕ) → s.in_body ≡ false → length s.head_arguments ≡ i → out_of_turn s i ≡ false
in_turn s i e f = or_none s.in_body (not (nat_eq i (length s.head_arguments))) e (ap not (eq-eqb i (length s.head_arguments) (sym f)))

-- the variable of a first place
first_found : (a : Around) (j l r : ℕ) → first_place a (index j) ≡ Some (l, r) → (v : Seen) × (at_level a l ≡ Some v) × (v.is_set ≡ false) × (v.register ≡ r)
first_found a j l r e = by_level (level_in a j) e
  where
    by_seen : (m : ℕ) (o : Option Seen) → at_level a m ≡ o → if_unset m o ≡ Some (l, r) → (v : Seen) × (at_level a l ≡ Some v) × (v.is_set ≡ false) × (v.register ≡ r)
    by_seen m None f q = absurd (no_pair (l, r) q)
    by_seen m (Some v) f q = let is = first_unset v.is_set m v.register (l, r) q in (v, ap (at_level a) (sym is.1) ∙ f, is.0, is.2)

    by_level : (o : Option ℕ) → level_first a o ≡ Some (l, r) → (v : Seen) × (at_level a l ≡ Some v) × (v.is_set ≡ false) × (v.register ≡ r)
    by_level None q = absurd (no_pair (l, r) q)
    by_level (Some m) q = by_seen m (at_level a m) refl q

pub first_argument : (K : ℕ → List Ty → Ty) (old new : Emitter) (a : Around) (i l r : ℕ) (F : Ty) (j : ℕ) → VariableGot old new i r → first_place a (index j) ≡ Some (l, r) →
    ArgumentGot K old new a (set_level a l) i F (index j)
first_argument K old new a i l r F j x first = record {
  more = x.more;
  code_is = x.code_is;
  types_grow = let q = x.types_stay in omega (arith, q);
  terms_grow = let q = x.registers_stay in omega (arith, q);
  owns = λ start. let z = first_found a j l r first in one_owned a l z.0 x.more (x.own ∙ ap (λ k. k ∷ []) (sym z.3)) start z.1 z.2;
  no_types = x.no_types;
  denotes = λ h later vars s σ Γ T std asked st te low few before count typed stands well same predicate own stood room.
      let z = seen_at Γ a j (well.seen (omega arith)) in
      let v = z.1 in
      let is = first_unset v.is_set z.0 v.register (l, r) (sym (first_is a j z.0 v z.2 z.3) ∙ first) in
      let here : at_level a l ≡ Some v = ap (at_level a) (sym is.1) ∙ z.3 in
      let of : v.of ≡ T = some_same v.of T (sym z.4 ∙ well.typed) in
      let unmade = stands.unmade l v here is.0 in
      let none : held s.now.terms r ≡ None = ap (held s.now.terms) (sym is.2) ∙ stands.unset l v here is.0 in
      let below : r < old.registers = subst (λ q. q < old.registers) is.2 (stands.low l v here) in
      let stay = x.registers_stay in
      let kinds = x.types_stay in
      let w = x.denotes h later vars s T st te below (omega (arith, few, stay)) before none (in_turn s i before count) typed room in
      let term : whole (variable r h.number) T ≡ whole (with_variables σ a 0 (index j)) T =
      (λ k. whole (variable (sym is.2 k) h.number) T) ∙ (λ k. whole (sym unmade.1 k) T) ∙ (λ k. whole (σ (sym is.1 k)) T) ∙ (λ k. whole (sym (index_is σ Γ a j z) k) T) in
      let next : Standing h vars old.registers s.in_body σ (set_level a l) w.0.now.terms =
      subst (Standing h vars old.registers s.in_body σ (set_level a l)) ((λ k. made_variable h (is.2 k) (of k) s.now.terms) ∙ sym w.2)
      (standing_set h vars old.registers s.in_body σ a s.now.terms l v stands here is.0) in (
        w.0,
        does_same h later vars old.types old.types new.types old.registers old.registers new.registers s w.0 x.more _ _ _ s.goals s.head_types
            (s.head_arguments ++ whole (with_variables σ a 0 (index j)) T ∷ []) (sym kinds) (sym stay) refl refl (λ k. s.head_arguments ++ term k ∷ []) w.1,
        subst (λ n. Standing h vars n s.in_body σ (set_level a l) w.0.now.terms) (sym stay) next,
        around_set a l unmade.2,
        λ m y e le set. ⊎_elim
            (λ q. any_last (λ (b : Built). stands_in y.register h.number b.term) s.head_arguments (whole (with_variables σ a 0 (index j)) T)
            (ap (λ (c : Seen). stands_in c.register h.number (with_variables σ a 0 (index j))) q.1 ∙ (λ k. stands_in v.register h.number ((index_is σ Γ a j z ∙ ap σ is.1 ∙ unmade.1) k))
            ∙ (λ k. (eq-eqb v.register v.register refl k && eq-eqb h.number h.number refl k))))
            (λ q. any_front (λ (b : Built). stands_in y.register h.number b.term) s.head_arguments _
            (stood m y q.1 (subst (λ n. n ≤ m) (around_set a l unmade.2).base le) set)) (found_set a l m v y unmade.2 here e),
      );
}

-- the predicate stays as it was

pub built_same : (h : Home) (n : ℕ) (s t : State) (p : Option RecordHead) → PredicateStands p n s → t.head_types ≡ s.head_types →
    ((r : ℕ) (b : Built) → r < n → held s.now.terms r ≡ Some b → held t.now.terms r ≡ Some b) → built_of h t p ≡ built_of h s p
built_same h n s t None q e k = refl
built_same h n s t (Some (Const c)) q e k = ap (constant_of h.tables c) e
built_same h n s t (Some (Register r)) q e k = ap (λ o. unwrap_or o (record { term = index 0; type = o_type; loose = [] })) (k r q.1 q.0 q.2 ∙ sym q.2)

next_typed : (h : Home) (s t : State) (i : ℕ) (T U : Ty) → head_built h t ≡ head_built h s → argument_type (head_built h s).type i ≡ Some T → U ≡ T → is_argument h t i U ≡ true
next_typed h s t i T U same typed e =
    ap (λ (b : Built). has_type (argument_type b.type i) U) same ∙ ap (λ o. has_type o U) typed ∙ ap (equal_types T) e ∙ equal_self T

stood_more : (h : Home) (a : Around) (bs : List Built) (b : Built) → HaveStood h a bs → HaveStood h a (bs ++ b ∷ [])
stood_more h a bs b x l v e le set = any_front (λ (c : Built). stands_in v.register h.number c.term) bs (b ∷ []) (x l v e le set)

pub integer_argument : (K : ℕ → List Ty → Ty) (old new : Emitter) (a : Around) (i : ℕ) (F : Ty) (z : ℤ) → IntegerGot old new i z → ArgumentGot K old new a a i F (atom (integer z))
integer_argument K old new a i F z x = record {
  more = x.more;
  code_is = x.code_is;
  types_grow = let q = x.types_stay in omega (arith, q);
  terms_grow = let q = x.registers_stay in omega (arith, q);
  owns = λ start. none_owned a x.more x.plain.no_own;
  no_types = x.plain.no_types;
  denotes = λ h later vars s σ Γ T std asked st te low few before count typed stands well same predicate own stood room.
      let of : int_type ≡ T = some_same int_type T well.typed in
      let w = x.denotes h later vars s std st te (record { in_turn = in_turn s i before count; typed = next_typed h s s i T int_type refl typed of })
      (strict_may (s.place + sum_by length_of x.more) s.frames room) in (
        w.0,
        does_same h later vars old.types old.types new.types old.registers old.registers new.registers s w.0 x.more _ _ _ s.goals s.head_types (s.head_arguments ++ whole (atom (integer z)) T ∷ [])
            (sym x.types_stay) (sym x.registers_stay) refl refl (λ k. s.head_arguments ++ whole (atom (integer z)) (of k) ∷ [])
            (turns_does h later vars old.types old.registers s w.0 x.more _ _ _ w.1 room),
        standing_after h vars old.registers new.registers s.in_body s.in_body σ a s w.0 (sym x.registers_stay) refl w.1.now_stays stands,
        around_same a,
        stood_more h a s.head_arguments (whole (atom (integer z)) T) stood,
      );
}

pub text_argument : (K : ℕ → List Ty → Ty) (old new : Emitter) (a : Around) (i : ℕ) (F : Ty) (b : List ℕ) → TextGot old new i b → ArgumentGot K old new a a i F (atom (text b))
text_argument K old new a i F b x = record {
  more = x.more;
  code_is = x.code_is;
  types_grow = let q = x.types_stay in omega (arith, q);
  terms_grow = let q = x.registers_stay in omega (arith, q);
  owns = λ start. none_owned a x.more x.plain.no_own;
  no_types = x.plain.no_types;
  denotes = λ h later vars s σ Γ T std asked st te low few before count typed stands well same predicate own stood room.
      let of : string_type ≡ T = some_same string_type T well.typed in
      let w = x.denotes h later vars s std st te (
        record {
          in_turn = in_turn s i before count;
          typed = next_typed h s s i T string_type refl typed of;
        },
        well.known,
      ) (strict_may (s.place + sum_by length_of x.more) s.frames room) in (
        w.0,
        does_same h later vars old.types old.types new.types old.registers old.registers new.registers s w.0 x.more _ _ _ s.goals s.head_types (s.head_arguments ++ whole (atom (text b)) T ∷ [])
            (sym x.types_stay) (sym x.registers_stay) refl refl (λ k. s.head_arguments ++ whole (atom (text b)) (of k) ∷ [])
            (turns_does h later vars old.types old.registers s w.0 x.more _ _ _ w.1 room),
        standing_after h vars old.registers new.registers s.in_body s.in_body σ a s w.0 (sym x.registers_stay) refl w.1.now_stays stands,
        around_same a,
        stood_more h a s.head_arguments (whole (atom (text b)) T) stood,
      );
}

pub constant_argument : (K : ℕ → List Ty → Ty) (old mid new : Emitter) (a : Around) (i c : ℕ) (F : Ty) (Ts : List Ty) (ts : List ℕ) → AreTypesPut old mid ts Ts → ConstantGot mid new i c ts →
    ArgumentGot K old new a a i F (atom (constant c Ts))
constant_argument K old mid new a i c F Ts ts y x = record {
  more = y.more ++ x.more;
  code_is = x.code_is ∙ ap (λ l. l ++ x.more) y.code_is ∙ append_assoc old.code.items y.more x.more;
  types_grow = let p = y.types_grow in let q = x.types_stay in omega (arith, p, q);
  terms_grow = let p = y.registers_stay in let q = x.registers_stay in omega (arith, p, q);
  owns = λ start. none_owned a (y.more ++ x.more) (plain_both y.more x.more y.plain x.plain).no_own;
  no_types = (plain_both y.more x.more y.plain x.plain).no_types;
  denotes = λ h later vars s σ Γ T std asked st te low few before count typed stands well same predicate own stood room.
      let kinds = x.types_stay in
      let stay = y.registers_stay in
      let w = y.denotes h later vars s st (omega (arith, low, kinds)) well.known (room_front s (y.more ++ x.more) y.more x.more refl room) in
      let te_w : TermsStand h mid.registers w.0 = subst (λ n. TermsStand h n w.0) (sym stay) (moved h later vars old.types mid.types old.registers s w.0 y.more w.1 te).terms_stand in
      let first = leads_goes h later vars old.types mid.types old.registers s w.0 y.more w.1 te in
      let types_are = types_held w.0 ts Ts w.2 in
      let head = built_same h old.registers s w.0 h.self.head predicate w.1.same.head_types (λ r b l e. first.terms_keep r b l e) in
      let of : (constant_of h.tables c (types_in w.0.now ts)).type ≡ T = ap (λ l. (constant_of h.tables c l).type) types_are.0 ∙ ap (λ o. unwrap_or o o_type) well.typed in
      let behind = room_behind h later vars old.types mid.types s w.0 (y.more ++ x.more) y.more x.more w.1 refl room in
      let v = x.denotes h later vars w.0 std w.1.stands te_w (record {
        next = record {
          in_turn = in_turn w.0 i (w.1.same.in_body ∙ before) (ap length w.1.same.head_arguments ∙ count);
          typed = next_typed h s w.0 i T (constant_of h.tables c (types_in w.0.now ts)).type head typed of;
        };
        types_set = none_unset w.0 ts (tys Ts) w.2;
        declared = ap (has_count (h.tables.constants c)) types_are.1 ∙ has_scheme Ts (h.tables.constants c) T well.typed;
        in_terms = is_term c well.positive;
      }) (strict_may (w.0.place + sum_by length_of x.more) w.0.frames behind) in
      let said : constant_of h.tables c (types_in w.0.now ts) ≡ whole (atom (constant c Ts)) T =
      ap (constant_of h.tables c) types_are.0 ∙ ap (λ o. whole (atom (constant c Ts)) (unwrap_or o o_type)) well.typed in
      let all = then_does h later vars old.types mid.types mid.types old.registers old.registers old.registers s w.0 v.0 y.more x.more _ _ _ _ _ _
      (goes_does h later vars old.types mid.types old.registers old.registers s w.0 y.more first)
      (subst (λ n. Does h later vars mid.types mid.types n n w.0 x.more w.0.goals w.0.head_types (w.0.head_arguments ++ constant_of h.tables c (types_in w.0.now ts) ∷ []) v.0) stay
      (turns_does h later vars mid.types mid.registers w.0 v.0 x.more w.0.goals w.0.head_types
      (w.0.head_arguments ++ constant_of h.tables c (types_in w.0.now ts) ∷ []) v.1 behind)) y.types_grow (omega arith) in (
        v.0,
        does_same h later vars old.types mid.types new.types old.registers old.registers new.registers s v.0 (y.more ++ x.more) _ _ _ s.goals s.head_types
            (s.head_arguments ++ whole (atom (constant c Ts)) T ∷ []) (sym kinds) (sym (x.registers_stay ∙ stay)) w.1.same.goals w.1.same.head_types
            (λ k. w.1.same.head_arguments k ++ said k ∷ []) all,
        standing_after h vars old.registers new.registers s.in_body s.in_body σ a w.0 v.0 (sym (x.registers_stay ∙ stay)) refl v.1.now_stays
            (subst (Standing h vars old.registers s.in_body σ a) (sym w.1.same.terms) stands),
        around_same a,
        stood_more h a s.head_arguments (whole (atom (constant c Ts)) T) stood,
      );
}

-- a term in a register is no variable that has stood nowhere

old_variable : (h : Home) (s : State) (q : ℕ) (v : Seen) → list_any (λ (b : Built). stands_in v.register h.number b.term) s.head_arguments ≡ true →
    (is_variable_of (variable v.register h.number) q h.number && not (list_any (λ (b : Built). stands_in q h.number b.term) s.head_arguments)) ≡ false
old_variable h s q v stood = go (nat_eq v.register q) refl
  where
    go : (t : Bool) → nat_eq v.register q ≡ t → ((nat_eq v.register q && nat_eq h.number h.number) && not (list_any (λ (b : Built). stands_in q h.number b.term) s.head_arguments)) ≡ false
    go false e = ap (λ t. (t && nat_eq h.number h.number) && not (list_any (λ (b : Built). stands_in q h.number b.term) s.head_arguments)) e
    go true e =
        let same = eqb-true v.register q e in
        ap (λ t. (nat_eq v.register q && nat_eq h.number h.number) && not t) (ap (λ k. list_any (λ (b : Built). stands_in k h.number b.term) s.head_arguments) (sym same) ∙ stood)
        ∙ and_false (nat_eq v.register q && nat_eq h.number h.number)

not_new : (h : Home) (vars : ℕ) (Γ : List Ty) (s : State) (σ : ℕ → Term) (a : Around) (t : Term) (T : Ty) → IsWell h vars Γ a t T → first_place a t ≡
    None → AreOwn h σ a → HaveStood h a s.head_arguments → (q : ℕ) →
    (is_variable_of (with_variables σ a 0 t) q h.number && not (list_any (λ (b : Built). stands_in q h.number b.term) s.head_arguments)) ≡ false
not_new h vars Γ s σ a (index j) T well first own stood q =
    let z = seen_at Γ a j (well.seen (omega arith)) in
    let set = first_none z.1.is_set z.0 z.1.register (sym (first_is a j z.0 z.1 z.2 z.3) ∙ first) in
    let term = index_is σ Γ a j z in
    ap (λ u. is_variable_of u q h.number && not (list_any (λ (b : Built). stands_in q h.number b.term) s.head_arguments)) term ∙ go z set (nat_le a.base z.0) refl
  where
    go : (z : IsSeen a Γ j) → z.1.is_set ≡ true → (t : Bool) → nat_le a.base z.0 ≡ t →
        (is_variable_of (σ z.0) q h.number && not (list_any (λ (b : Built). stands_in q h.number b.term) s.head_arguments)) ≡ false
    go z set true e =
        let le = leb-true a.base z.0 e in
        ap (λ u. is_variable_of u q h.number && not (list_any (λ (b : Built). stands_in q h.number b.term) s.head_arguments)) (own.own z.0 z.1 z.3 le)
        ∙ old_variable h s q z.1 (stood z.0 z.1 z.3 le set)
    go z set false e = ap (λ t. t && not (list_any (λ (b : Built). stands_in q h.number b.term) s.head_arguments)) (own.others z.0 q z.1 z.3 (leb-false a.base z.0 e))
not_new h vars Γ s σ a (atom (constant c Ts)) T well first own stood q = refl
not_new h vars Γ s σ a (atom (integer k)) T well first own stood q = refl
not_new h vars Γ s σ a (atom (text b)) T well first own stood q = refl
not_new h vars Γ s σ a (atom (eigen k)) T well first own stood q = refl
not_new h vars Γ s σ a (atom (logic x l)) T well first own stood q = absurd well.known
not_new h vars Γ s σ a (atom (param k U)) T well first own stood q = refl
not_new h vars Γ s σ a (abs b) T well first own stood q = refl
not_new h vars Γ s σ a (app t u) T well first own stood q = refl

pub term_argument : (K : ℕ → List Ty → Ty) (old mid new : Emitter) (a b : Around) (i r : ℕ) (F : Ty) (t : Term) → TermWritten K old mid a b r F t → TermGot mid new i r → first_place a t ≡ None →
    ArgumentGot K old new a b i F t
term_argument K old mid new a b i r F t y x first = record {
  more = y.more ++ x.more;
  code_is = x.code_is ∙ ap (λ l. l ++ x.more) y.code_is ∙ append_assoc old.code.items y.more x.more;
  types_grow = let p = y.types_grow in let q = x.types_stay in omega (arith, p, q);
  terms_grow = let p = y.terms_grow in let q = x.registers_stay in omega (arith, p, q);
  owns = owns_then a b b y.more x.more y.owns (λ start. none_owned b x.more x.plain.no_own);
  no_types = no_types_more y.more x.more y.no_types x.plain.no_types;
  denotes = λ h later vars s σ Γ T std asked st te low few before count typed stands well same predicate own stood room.
      let kinds = x.types_stay in
      let stay = x.registers_stay in
      let u = with_variables σ a 0 t in
      let w = y.denotes h later vars s σ Γ T asked st te (omega (arith, low, kinds)) (omega (arith, few, stay)) stands well same (room_front s (y.more ++ x.more) y.more x.more refl room) in
      let at : term_in w.0.now r ≡ whole u T = ap (λ o. unwrap_or o (record { term = index 0; type = o_type; loose = [] })) w.2 in
      let head = built_same h old.registers s w.0 h.self.head predicate w.1.same.head_types w.1.terms_keep in
      let args = w.1.same.head_arguments in
      let new_one : is_new_variable h w.0 r ≡ false = any_none (λ q. is_variable_of (term_in w.0.now r).term q h.number && not
      (list_any (λ (b : Built). stands_in q h.number b.term) w.0.head_arguments))
      (own_variables h.self) (λ q. (λ k. is_variable_of (at k).term q h.number && not
      (list_any (λ (b : Built). stands_in q h.number b.term) (args k))) ∙ not_new h vars Γ s σ a t T well first own stood q) in
      let behind = room_goes h later vars old.types mid.types old.registers mid.registers s w.0 (y.more ++ x.more) y.more x.more w.1 refl room in
      let v = x.denotes h later vars w.0 std w.1.types_stand w.1.terms_stand (record {
        next = record {
          in_turn = in_turn w.0 i (w.1.same.in_body ∙ before) (ap length args ∙ count);
          typed = next_typed h s w.0 i T (term_in w.0.now r).type head typed (ap (λ (d : Built). d.type) at);
        };
        terms_set = or_none (is_none (held w.0.now.terms r)) false (ap is_none w.2) refl;
        closed = or_none (not (is_closed (term_in w.0.now r).loose)) false (ap (λ (d : Built). not (is_closed d.loose)) at) refl;
        known = ap (λ t. is_some h.self.head && t) new_one ∙ and_false (is_some h.self.head);
      }) (strict_may (w.0.place + sum_by length_of x.more) w.0.frames behind) in
      let all = then_does h later vars old.types mid.types mid.types old.registers mid.registers mid.registers s w.0 v.0 y.more x.more _ _ _ _ _ _
      (goes_does h later vars old.types mid.types old.registers mid.registers s w.0 y.more w.1)
      (turns_does h later vars mid.types mid.registers w.0 v.0 x.more _ _ _ v.1 behind) y.types_grow y.terms_grow in (
        v.0,
        does_same h later vars old.types mid.types new.types old.registers mid.registers new.registers s v.0 (y.more ++ x.more) _ _ _ s.goals s.head_types (s.head_arguments ++ whole u T ∷ [])
            (sym kinds) (sym stay) w.1.same.goals w.1.same.head_types (λ k. args k ++ at k ∷ []) all,
        standing_after h vars mid.registers new.registers s.in_body s.in_body σ b w.0 v.0 (sym stay) refl v.1.now_stays w.4,
        w.5,
        λ l c e le set. ⊎_elim (λ q. any_front (λ (d : Built). stands_in c.register h.number d.term) s.head_arguments (whole u T ∷ []) (stood l c q (subst (λ m. m ≤ l) w.5.base le) set))
            (λ q. any_last (λ (d : Built). stands_in c.register h.number d.term) s.head_arguments (whole u T) q) (w.6 l c e set),
      );
}
