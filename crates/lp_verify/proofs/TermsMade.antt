-- What an instruction makes, as it is kept and in the definition: types and loose indices are the same, and it is ill typed in both or in none.
use Rattle.std.proofs.Common.{◌≡◌, ◌∙◌, ◌+◌, ℕ, ℤ, zero, suc, List, [], ◌∷◌, map, drop, length, Bool, true, false, Option, Some, None, ap, refl, sym, subst, arith}
use Rattle.std.specs.Prelude.{MatchOption, option_map, ◌||◌, ◌&&◌, not, nat_eq, is_some, is_none, if◌then◌else◌, unwrap_or, slice_get, filter_map, Vec, Result, Ok, Err, IfOk, OnOk}
use Rattle.std.specs.Global.{Global}
use Rattle.std.specs.List.{list_any}
use Rattle.std.proofs.lemmas.Bool.{ne_eqb, eq-eqb}
use Rattle.lp_lemmas.proofs.Booleans.{or_false_left, or_false_right}
use Rattle.lp_calculus.specs.Types.{Ty, var, param, con, arrow}
use Rattle.lp_calculus.specs.Term.{Term, app, apply}
use Rattle.lp_calculus.specs.Typing.{o_type}
use Rattle.lp_term.specs.declared.node.TypeId.{TypeId}
use Rattle.lp_code.specs.declared.instruction.Instr.{Instr}
use Rattle.lp_code.specs.declared.instruction.Instr.TheVariants as on
use Rattle.lp_code.specs.Operands.{types_read, terms_read}
use Rattle.lp_code.specs.Rules.{has_none, has_type, is_argument, built_types, applies, breaks_type}
use Rattle.lp_code.specs.Steps.{constant_type, built_of, head_built, argument_at}
use Rattle.lp_code.specs.Symbolic.{Built, held, whole, type_in, types_in, term_in, terms_in, outer, innermost, agree, agree_at, all_agree, equal_types, applied_type, argument_type, result_type, abstraction_of, application_of, plain_terms, all_joined, joined}
use Rattle.lp_code.specs.States.{State, Home}
use Rattle.lp_verify.specs.declared.built.Built as kept_built
use Rattle.lp_verify.specs.declared.built.Head.{Head}
use Rattle.lp_verify.specs.declared.built.Head.TheVariants as head
use Rattle.lp_verify.specs.declared.loose.Loose.{Loose}
use Rattle.lp_verify.specs.declared.loose.Lists.{Lists}
use Rattle.lp_verify.specs.declared.record.Work.{Work}
use Rattle.lp_verify.specs.declared.head.HeadSoFar.{HeadSoFar}
use Rattle.lp_verify.specs.declared.types.Types.{Types}
use Rattle.lp_verify.specs.declared.registers.Registers as kept_registers
use Rattle.lp_verify.specs.declared.typing.Typed.{Typed}
use Rattle.lp_verify.specs.declared.typing.Typed.TheVariants as typed
use Rattle.lp_verify.specs.Held.{value_in, is_lacking}
use Rattle.lp_verify.specs.inner.Stack.{Agree}
use Rattle.lp_verify.specs.inner.FirstNumbers.{IsType, AreTypes, TypesGrow, UsesAre, UsesStay, HasBasics, IsArrowAs}
use Rattle.lp_verify.specs.inner.Indices.{entries_in, Store, store, StoreGrows, StandFor, AreJoined}
use Rattle.lp_verify.specs.inner.Handed.{variable_of, variable_in, SameType, SameTerm, IsSame, Alike, no_loose, bare_built, closed_built}
use Rattle.lp_code.specs.declared.record.RecordHead.{RecordHead}
use Rattle.lp_code.specs.declared.record.RecordHead.TheVariants.{Const, Register}
use Rattle.lp_verify.specs.inner.Known.{given_in, IsNoConstant, IsHead, Knows}
use Rattle.lp_verify.specs.inner.Outline.{taken_by}
use Rattle.lp_verify.specs.inner.Reads.{reads_unset}
use Rattle.lp_verify.specs.inner.Made.{nothing_built, type_taken, term_made, MakesTerm, AreAllJoined, is_goal_typed, is_argument_typed, is_ill, IsMadeBy, IsJudged, IsPutBy, built_or}
use Rattle.lp_verify.specs.inner.Told.{loose_entries}
use Rattle.lp_verify.proofs.HandedOn.{alike_read, same_later}
use Rattle.lp_verify.proofs.LooseSeen.{stands_later, nothing_loose, no_entries, grows_same}
use Rattle.lp_verify.proofs.LooseTypes.{equal_is}
use Rattle.lp_verify.proofs.Instructions.{no_term_typed}
use Rattle.lp_verify.proofs.UsedConstants.{types_stay, basics_stay}

-- a term without loose indices
pub bare_same : (l : Store) (T : TypeId) (h : Head) (b : Built) → b.loose ≡ [] → IsType l.types T b.type → variable_in h ≡ variable_of b.term → SameTerm l (bare_built T h) b
bare_same l T h b e t v = (nothing_loose l no_loose b.loose e refl, t, v)

-- what stands in a register
pub type_same : (l : Store) (rs : kept_registers.Registers TypeId) (s : State) (r : ℕ) (T : TypeId) → IsType l.types T o_type → IsSame (SameType l) rs s.now.types → IsType l.types (unwrap_or (value_in rs r) T) (type_in s.now r)
type_same l rs s r T t same = by_value (value_in rs r) (held s.now.types r) (same r)
  where
    by_value : (o : Option TypeId) (p : Option Ty) → Agree (SameType l) o p → IsType l.types (unwrap_or o T) (unwrap_or p o_type)
    by_value None None a = t
    by_value (Some t) None a = absurd a
    by_value None (Some b) a = absurd a
    by_value (Some t) (Some b) a = a

pub term_same : (l : Store) (rs : kept_registers.Registers kept_built.Built) (s : State) (r : ℕ) (T : TypeId) → IsType l.types T o_type → IsSame (SameTerm l) rs s.now.terms → SameTerm l (unwrap_or (value_in rs r) (closed_built T)) (term_in s.now r)
term_same l rs s r T t same = by_value (value_in rs r) (held s.now.terms r) (same r)
  where
    by_value : (o : Option kept_built.Built) (p : Option Built) → Agree (SameTerm l) o p → SameTerm l (unwrap_or o (closed_built T)) (unwrap_or p nothing_built)
    by_value None None a = bare_same l T head.Other nothing_built refl t refl
    by_value (Some t) None a = absurd a
    by_value None (Some b) a = absurd a
    by_value (Some t) (Some b) a = a

-- what is known of registers by their names
pub type_known : (l : Store) (w : Work) (h : Home) (s : State) (r : ℕ) (t : TypeId) → Knows l w h s → t ≡ unwrap_or (value_in w.types r) l.types.proposition → IsType l.types t (type_in s.now r)
type_known l w h s r t k e = subst (λ t. IsType l.types t (type_in s.now r)) (sym e) (type_same l w.types s r l.types.proposition k.of_head.constants.basics.proposition k.types)

pub term_known : (l : Store) (w : Work) (h : Home) (s : State) (r : ℕ) (t : kept_built.Built) → Knows l w h s → t ≡ unwrap_or (value_in w.terms r) (closed_built l.types.proposition) → SameTerm l t (term_in s.now r)
term_known l w h s r t k e = subst (λ t. SameTerm l t (term_in s.now r)) (sym e) (term_same l w.terms s r l.types.proposition k.of_head.constants.basics.proposition k.terms)

-- whether it has a loose index
pub loose_is : (l : Lists) (o : Option kept_built.Built) (T : TypeId) → has_none (entries_in l (unwrap_or o (closed_built T)).loose) ≡ has_none (loose_entries l o)
loose_is l None T = ap has_none (no_entries l no_loose refl)
loose_is l (Some t) T = refl

-- one of the registers that are left has it, or none so far
pub loose_here : (f : ℕ → Bool) (d : ℕ) (ds all left : List ℕ) → left ≡ d ∷ ds → list_any f left ≡ list_any f all → f d ≡ true → true ≡ list_any f all
loose_here f d ds all left e same h = ap (λ b. b || list_any f ds) (sym h) ∙ ap (list_any f) (sym e) ∙ same

pub loose_behind : (f : ℕ → Bool) (d : ℕ) (ds all left : List ℕ) → left ≡ d ∷ ds → list_any f left ≡ list_any f all → f d ≡ false → list_any f ds ≡ list_any f all
loose_behind f d ds all left e same h = ap (λ b. b || list_any f ds) (sym h) ∙ ap (list_any f) (sym e) ∙ same

-- lists that agree place by place
alike_types : (x : Types) (ts : List TypeId) (Ts : List Ty) → Alike (IsType x) ts Ts → AreTypes x ts Ts
alike_types x [] [] a = tt
alike_types x [] (T ∷ Ts) a = absurd (a 0)
alike_types x (t ∷ ts) [] a = absurd (a 0)
alike_types x (t ∷ ts) (T ∷ Ts) a = (a 0, alike_types x ts Ts (λ r. a (suc r)))

pub types_known : (l : Store) (w : Work) (h : Home) (s : State) (ds : List ℕ) (ts : List TypeId) → Knows l w h s → ts ≡ filter_map (value_in w.types) ds → list_any (is_lacking w.types) ds ≡ false → AreTypes l.types ts (types_in s.now ds)
types_known l w h s ds ts k e set = subst (λ ts. AreTypes l.types ts (types_in s.now ds)) (sym e) (alike_types l.types (filter_map (value_in w.types) ds) (types_in s.now ds) (alike_read (SameType l) w.types s.now.types o_type k.types ds set))

pub terms_alike : (l : Store) (rs : kept_registers.Registers kept_built.Built) (s : State) (ds : List ℕ) (ts : List kept_built.Built) → IsSame (SameTerm l) rs s.now.terms → ts ≡ filter_map (value_in rs) ds → list_any (is_lacking rs) ds ≡ false → Alike (SameTerm l) ts (terms_in s.now ds)
terms_alike l rs s ds ts same e set = subst (λ ts. Alike (SameTerm l) ts (terms_in s.now ds)) (sym e) (alike_read (SameTerm l) rs s.now.terms nothing_built same ds set)

abbrev pub ofs : List kept_built.Built → List TypeId
ofs ts = map (λ (t : kept_built.Built). t.of) ts

pub built_same : (l : Store) (ts : List kept_built.Built) (bs : List Built) → Alike (SameTerm l) ts bs → AreTypes l.types (ofs ts) (built_types bs)
built_same l [] [] a = tt
built_same l [] (b ∷ bs) a = absurd (a 0)
built_same l (t ∷ ts) [] a = absurd (a 0)
built_same l (t ∷ ts) (b ∷ bs) a = ((a 0).1, built_same l ts bs (λ r. a (suc r)))

-- lists that agree place by place have the same end
pub as_long : {T B : Type 0} (R : T → B → Type 0) (n : ℕ) (ts : List T) (bs : List B) → Alike R ts bs → drop n ts ≡ [] → drop n bs ≡ []
as_long R ℕ.zero [] [] a h = refl
as_long R ℕ.zero [] (b ∷ bs) a h = absurd (a 0)
as_long R ℕ.zero (t ∷ ts) bs a h = absurd (cc)
as_long R (suc n) [] [] a h = refl
as_long R (suc n) [] (b ∷ bs) a h = absurd (a 0)
as_long R (suc n) (t ∷ ts) [] a h = refl
as_long R (suc n) (t ∷ ts) (b ∷ bs) a h = as_long R n ts bs (λ r. a (suc r)) h

-- an argument more of a function's type
pub argument_at_place : (x : Types) (ts : List kept_built.Built) (Us : List Ty) (n : ℕ) (t : kept_built.Built) → AreTypes x (ofs ts) Us → slice_get ts n ≡ Some t → (U : Ty) × IsType x t.of U × (drop n Us ≡ U ∷ drop (n + 1) Us)
argument_at_place x [] Us n t a e = absurd (cc)
argument_at_place x (u ∷ ts) [] n t a e = absurd a
argument_at_place x (u ∷ ts) (U ∷ Us) zero t a e = (U, subst (λ (t : kept_built.Built). IsType x t.of U) (same u t e) a.0, refl)
  where
    same : (u t : kept_built.Built) → Some u ≡ Some t → u ≡ t
    same u t e = cc
argument_at_place x (u ∷ ts) (U ∷ Us) (suc n) t a e =
    let r = argument_at_place x ts Us n t a.1 e in
    let k : suc n + 1 ≡ suc (n + 1) = omega arith in
    (r.0, r.1, r.2 ∙ ap (λ m. r.0 ∷ drop m (U ∷ Us)) (sym k))

-- the type so far, where the function was applied to n arguments
abbrev pub IsAppliedTo : Types → Ty → List Ty → TypeId → ℕ → Type 0
IsAppliedTo x T Us t n = (R : Ty) × IsType x t R × (applied_type R (drop n Us) ≡ applied_type T Us)

module _ (x : Types) (ts : List kept_built.Built) (T : Ty) (Us : List Ty) (rest : TypeId) (n : ℕ) (t : kept_built.Built)
    (o : Option (TypeId × TypeId)) (all : AreTypes x (ofs ts) Us) (at : slice_get ts n ≡ Some t)
    (arrows : (R : Ty) → IsType x rest R → IsArrowAs x R o) (so_far : IsAppliedTo x T Us rest n) where
  pub applied_none : o ≡ None → Agree (IsType x) None (applied_type T Us)
  applied_none e =
      let u = argument_at_place x ts Us n t all at in
      subst (Agree (IsType x) None) (sym (ap (applied_type so_far.0) u.2) ∙ so_far.2) (by_type so_far.0 u.0 (drop (n + 1) Us) (subst (IsArrowAs x so_far.0) e (arrows so_far.0 so_far.1)))
    where
      by_type : (R U : Ty) (Us : List Ty) → IsArrowAs x R None → Agree (IsType x) None (applied_type R (U ∷ Us))
      by_type (arrow A B) U Us h = absurd h
      by_type (con c Ts) U Us h = tt
      by_type (var i) U Us h = tt
      by_type (param i) U Us h = tt

  pub applied_other : (p q : TypeId) → o ≡ Some (p, q) → (p.0 ≡ t.of.0 → ⊥) → Agree (IsType x) None (applied_type T Us)
  applied_other p q e g =
      let f : nat_eq p.0 t.of.0 ≡ false = ne_eqb p.0 t.of.0 g in
      let u = argument_at_place x ts Us n t all at in
      subst (Agree (IsType x) None) (sym (ap (applied_type so_far.0) u.2) ∙ so_far.2) (by_type so_far.0 u.0 (drop (n + 1) Us) f u.1 (subst (IsArrowAs x so_far.0) e (arrows so_far.0 so_far.1)))
    where
      by_type : (R U : Ty) (Us : List Ty) → nat_eq p.0 t.of.0 ≡ false → IsType x t.of U → IsArrowAs x R (Some (p, q)) → Agree (IsType x) None (applied_type R (U ∷ Us))
      by_type (arrow A B) U Us f k h = subst (λ b. Agree (IsType x) None (if b then applied_type B Us else None)) (sym f ∙ equal_is x p t.of A U h.0 k) tt
      by_type (con c Ts) U Us f k h = absurd h
      by_type (var i) U Us f k h = absurd h
      by_type (param i) U Us f k h = absurd h

  pub applied_more : (p q : TypeId) → o ≡ Some (p, q) → p.0 ≡ t.of.0 → IsAppliedTo x T Us q (n + 1)
  applied_more p q e f =
      let u = argument_at_place x ts Us n t all at in
      let r = by_type so_far.0 u.0 (drop (n + 1) Us) u.1 (subst (IsArrowAs x so_far.0) e (arrows so_far.0 so_far.1)) in
      (r.0, r.1, r.2 ∙ sym (ap (applied_type so_far.0) u.2) ∙ so_far.2)
    where
      by_type : (R U : Ty) (Us : List Ty) → IsType x t.of U → IsArrowAs x R (Some (p, q)) → (S : Ty) × IsType x q S × (applied_type S Us ≡ applied_type R (U ∷ Us))
      by_type (arrow A B) U Us k h = (B, h.1, ap (λ b. if b then applied_type B Us else None) (sym (eq-eqb p.0 t.of.0 f) ∙ equal_is x p t.of A U h.0 k))
      by_type (con c Ts) U Us k h = absurd h
      by_type (var i) U Us k h = absurd h
      by_type (param i) U Us k h = absurd h

types_end : (x : Types) (n : ℕ) (ts : List kept_built.Built) (Us : List Ty) → AreTypes x (ofs ts) Us → drop n ts ≡ [] → drop n Us ≡ []
types_end x zero [] [] a h = refl
types_end x zero [] (U ∷ Us) a h = absurd a
types_end x zero (t ∷ ts) Us a h = absurd (cc)
types_end x (suc n) [] [] a h = refl
types_end x (suc n) [] (U ∷ Us) a h = absurd a
types_end x (suc n) (t ∷ ts) [] a h = absurd a
types_end x (suc n) (t ∷ ts) (U ∷ Us) a h = types_end x n ts Us a.1 h

pub applied_all : (x : Types) (ts : List kept_built.Built) (T : Ty) (Us : List Ty) (rest : TypeId) (n : ℕ) → AreTypes x (ofs ts) Us → drop n ts ≡ [] → IsAppliedTo x T Us rest n → Agree (IsType x) (Some rest) (applied_type T Us)
applied_all x ts T Us rest n all e s = subst (Agree (IsType x) (Some rest)) (sym (ap (applied_type s.0) (types_end x n ts Us all e)) ∙ s.2) s.1

-- tests of a type
pub same_test : (x : Types) (o : Option TypeId) (f t : TypeId) (p : Option Ty) (T : Ty) → o ≡ Some f → Agree (IsType x) o p → IsType x t T → nat_eq f.0 t.0 ≡ has_type p T
same_test x o f t p T e a k = by_type p (subst (λ o. Agree (IsType x) o p) e a)
  where
    by_type : (p : Option Ty) → Agree (IsType x) (Some f) p → nat_eq f.0 t.0 ≡ has_type p T
    by_type None h = absurd h
    by_type (Some U) h = equal_is x f t U T h k

pub no_test : (x : Types) (o : Option TypeId) (p : Option Ty) (T : Ty) → o ≡ None → Agree (IsType x) o p → false ≡ has_type p T
no_test x o p T e a = by_type p (subst (λ o. Agree (IsType x) o p) e a)
  where
    by_type : (p : Option Ty) → Agree (IsType x) None p → false ≡ has_type p T
    by_type None h = refl
    by_type (Some U) h = absurd h

pub other_test : (x : Types) (o : Option TypeId) (f t : TypeId) (p : Option Ty) (T : Ty) → o ≡ Some f → Agree (IsType x) o p → IsType x t T → not (nat_eq f.0 t.0) ≡ not (agree_at p (Some T))
other_test x o f t p T e a k = by_type p (subst (λ o. Agree (IsType x) o p) e a)
  where
    by_type : (p : Option Ty) → Agree (IsType x) (Some f) p → not (nat_eq f.0 t.0) ≡ not (agree_at p (Some T))
    by_type None h = absurd h
    by_type (Some U) h = ap not (equal_is x f t U T h k)

pub no_other : (x : Types) (o : Option TypeId) (p : Option Ty) (T : Ty) → o ≡ None → Agree (IsType x) o p → false ≡ not (agree_at p (Some T))
no_other x o p T e a = by_type p (subst (λ o. Agree (IsType x) o p) e a)
  where
    by_type : (p : Option Ty) → Agree (IsType x) None p → false ≡ not (agree_at p (Some T))
    by_type None h = refl
    by_type (Some U) h = absurd h

-- what comes of an instruction, by whether it is ill typed
pub ill_makes : (m : Store) (p : Bool) (b : Built) → p ≡ true → MakesTerm m p b typed.Ill
ill_makes m p b e = subst (λ p. MakesTerm m p b typed.Ill) (sym e) refl

pub built_makes : (m : Store) (p : Bool) (b : Built) (t : kept_built.Built) → p ≡ false → SameTerm m t b → MakesTerm m p b (typed.Built t)
built_makes m p b t e h = subst (λ p. MakesTerm m p b (typed.Built t)) (sym e) h

-- an abstraction
pub abstraction_same : (x y : Types) (l : Lists) (b t : kept_built.Built) (B : Built) (T : Ty) → TypesGrow x y → SameTerm (store x l) b B →
    ((ts : List (Option Ty)) → StandFor (store x l) b.loose ts → StandFor (store x l) t.loose (outer ts)) → IsType y t.of (arrow T B.type) →
    variable_in t.head ≡ None → SameTerm (store y l) t (abstraction_of B T)
abstraction_same x y l b t B T g h out of none = (stands_later (store x l) (store y l) t.loose (outer B.loose) (grows_same l, g) (out B.loose h.0), of, none)

-- others are joined, one behind the other
abbrev pub IsJoinedSoFar : Store → Loose → ℕ → List (Option Ty) → List Built → Type 0
IsJoinedSoFar m x n ts bs = (us : List (Option Ty)) × StandFor m x us × (all_joined us (drop n bs) ≡ all_joined ts bs) × (all_agree us (drop n bs) ≡ all_agree ts bs)

some_same : {A : Type 0} (x y : A) → Some x ≡ Some y → x ≡ y
some_same x y e = cc

split : (n : ℕ) (bs : List Built) (b : Built) → slice_get bs n ≡ Some b → drop n bs ≡ b ∷ drop (n + 1) bs
split n [] b h = absurd (cc)
split zero (c ∷ bs) b h = ap (λ x. x ∷ bs) (some_same c b h)
split (suc n) (c ∷ bs) b h = split n bs b h ∙ (let k : suc n + 1 ≡ suc (n + 1) = omega arith in ap (λ m. b ∷ drop m (c ∷ bs)) (sym k))

module _ (first old new : Store) (x : Loose) (n : ℕ) (t : kept_built.Built) (others : List kept_built.Built) (ts : List (Option Ty)) (bs : List Built) (at : slice_get others n ≡ Some t) (grow : StoreGrows first old) (alike : Alike (SameTerm first) others bs) (so_far : IsJoinedSoFar old x n ts bs)
    (o : Option Loose) (joins : (ts us : List (Option Ty)) → StandFor old x ts → StandFor old t.loose us → AreJoined new ts us o) where
  here : (b : Built) × SameTerm first t b × (slice_get bs n ≡ Some b)
  here = by_value (slice_get bs n) refl (subst (λ o. Agree (SameTerm first) o (slice_get bs n)) at (alike n))
    where
      by_value : (o : Option Built) → slice_get bs n ≡ o → Agree (SameTerm first) (Some t) o → (b : Built) × SameTerm first t b × (slice_get bs n ≡ Some b)
      by_value None h a = absurd a
      by_value (Some b) h a = (b, a, h)

  joins_here : AreJoined new so_far.0 here.0.loose o
  joins_here = joins so_far.0 here.0.loose so_far.1 (stands_later first old t.loose here.0.loose grow here.1.0)

  pub one_joined : (y : Loose) → o ≡ Some y → IsJoinedSoFar new y (n + 1) ts bs
  one_joined y e =
      let b = here.0 in
      let us = so_far.0 in
      let j : (agree us b.loose ≡ true) × StandFor new y (joined us b.loose) = subst (AreJoined new us b.loose) e joins_here in
      let s = split n bs b here.2 in
      (joined us b.loose, j.1, sym (ap (all_joined us) s) ∙ so_far.2, sym (ap (λ a. a && all_agree (joined us b.loose) (drop (n + 1) bs)) j.0) ∙ sym (ap (all_agree us) s) ∙ so_far.3)

  pub none_joined : o ≡ None → AreAllJoined new ts bs None
  none_joined e =
      let b = here.0 in
      let us = so_far.0 in
      let j : agree us b.loose ≡ false = subst (AreJoined new us b.loose) e joins_here in
      sym so_far.3 ∙ ap (all_agree us) (split n bs b here.2) ∙ ap (λ a. a && all_agree (joined us b.loose) (drop (n + 1) bs)) j

pub every_joined : (m : Store) (x : Loose) (n : ℕ) (ts : List (Option Ty)) (bs : List Built) → drop n bs ≡ [] → IsJoinedSoFar m x n ts bs → AreAllJoined m ts bs (Some x)
every_joined m x n ts bs none s = (sym s.3 ∙ ap (all_agree s.0) none, subst (StandFor m x) (sym (ap (all_joined s.0) none) ∙ s.2) s.1)

-- an application
none_typed : (x : Types) (o : Option TypeId) (p : Option Ty) → o ≡ None → Agree (IsType x) o p → is_some p ≡ false
none_typed x o p e a = by_type p (subst (λ o. Agree (IsType x) o p) e a)
  where
    by_type : (p : Option Ty) → Agree (IsType x) None p → is_some p ≡ false
    by_type None h = refl
    by_type (Some T) h = absurd h

pub some_typed : (x : Types) (o : Option TypeId) (t : TypeId) (p : Option Ty) → o ≡ Some t → Agree (IsType x) o p → (is_some p ≡ true) × IsType x t (unwrap_or p o_type)
some_typed x o t p e a = by_type p (subst (λ o. Agree (IsType x) o p) e a)
  where
    by_type : (p : Option Ty) → Agree (IsType x) (Some t) p → (is_some p ≡ true) × IsType x t (unwrap_or p o_type)
    by_type None h = absurd h
    by_type (Some T) h = (refl, h)

pub ill_function : (x : Types) (o : Option TypeId) (f : Built) (bs : List Built) → o ≡ None → Agree (IsType x) o (applied_type f.type (built_types bs)) → not (applies f bs) ≡ true
ill_function x o f [] e a = refl
ill_function x o f (b ∷ bs) e a = ap (λ k. not (k && all_agree f.loose (b ∷ bs))) (none_typed x o (applied_type f.type (built_types (b ∷ bs))) e a)

both_false : (a b : Bool) → b ≡ false → not (a && b) ≡ true
both_false true b e = ap not e
both_false false b e = refl

pub ill_indices : (m : Store) (o : Option Loose) (f : Built) (bs : List Built) → o ≡ None → AreAllJoined m f.loose bs o → not (applies f bs) ≡ true
ill_indices m o f [] e a = refl
ill_indices m o f (b ∷ bs) e a = both_false (is_some (applied_type f.type (built_types (b ∷ bs)))) (all_agree f.loose (b ∷ bs)) (subst (AreAllJoined m f.loose (b ∷ bs)) e a)

pub no_arguments : (l : Store) (ts : List kept_built.Built) (f : Built) (bs : List Built) → Alike (SameTerm l) ts bs → nat_eq (length ts) 0 ≡ true → not (applies f bs) ≡ true
no_arguments l ts f [] a e = refl
no_arguments l [] f (b ∷ bs) a e = absurd (a 0)
no_arguments l (t ∷ ts) f (b ∷ bs) a e = absurd (let z : false ≡ true = sym (ne_eqb (suc (length ts)) 0 (λ q. omega (arith, q))) ∙ e in cc)

no_variable : (t u : Term) (us : List Term) → variable_of (apply t (u ∷ us)) ≡ None
no_variable t u [] = refl
no_variable t u (v ∷ us) = no_variable (app t u) v us

pub application_same : (l m : Store) (ts : List kept_built.Built) (f : Built) (bs : List Built) (o : Option TypeId) (p : Option Loose)
    (t : kept_built.Built) → Alike (SameTerm l) ts bs → nat_eq (length ts) 0 ≡ false → o ≡ Some t.of → p ≡ Some t.loose → Agree (IsType m.types) o
    (applied_type f.type (built_types bs))
    → AreAllJoined m f.loose bs p → variable_in t.head ≡ None → MakesTerm m (not (applies f bs)) (application_of f bs) (typed.Built t)
application_same l m [] f [] o p t a e x y g h none = absurd (cc)
application_same l m [] f (b ∷ bs) o p t a e x y g h none = absurd (cc)
application_same l m (u ∷ ts) f [] o p t a e x y g h none = absurd (a 0)
application_same l m (u ∷ ts) f (b ∷ bs) o p t a e x y g h none =
    let q = some_typed m.types o t.of (applied_type f.type (built_types (b ∷ bs))) x g in
    let j : (all_agree f.loose (b ∷ bs) ≡ true) × StandFor m t.loose (all_joined f.loose (b ∷ bs)) = subst (AreAllJoined m f.loose (b ∷ bs)) y h in
    built_makes m (not (applies f (b ∷ bs))) (application_of f (b ∷ bs)) t (λ i. not (q.0 i && j.0 i)) (j.1, q.1, none ∙ sym (no_variable f.term b.term (plain_terms bs)))

-- goals
pub both_typed : (x : Types) (t u f : TypeId) (T U F : Ty) → IsType x t T → IsType x u U → IsType x f F → (nat_eq t.0 f.0 && nat_eq u.0 f.0) ≡ (equal_types T F && (equal_types U F && true))
both_typed x t u f T U F a b c = (λ j. equal_is x t f T F a c j && equal_is x u f U F b c j) ∙ ap (λ k. equal_types T F && k) (sym (and_true (equal_types U F)))
  where
    and_true : (b : Bool) → (b && true) ≡ b
    and_true true = refl
    and_true false = refl

pub one_typed : (x : Types) (t f : TypeId) (T F : Ty) → IsType x t T → IsType x f F → nat_eq t.0 f.0 ≡ (equal_types T F && true)
one_typed x t f T F a c = equal_is x t f T F a c ∙ sym (and_true (equal_types T F))
  where
    and_true : (b : Bool) → (b && true) ≡ b
    and_true true = refl
    and_true false = refl

pub fine_makes : (m : Store) (p q : Bool) (b : Built) (t : Typed) → p ≡ q → MakesTerm m (not p) b t → MakesTerm m (not q) b t
fine_makes m p q b t e h = subst (λ p. MakesTerm m (not p) b t) e h

-- an argument of the head
pub head_argument : (x : Types) (w : Work) (h : Home) (s : State) (i : ℕ) (o : Option TypeId) → IsHead x w.head h s →
    ((T : Ty) → IsType x w.head.whole T → IsType x w.head.left (result_type T w.head.arguments) → Agree (IsType x) o (argument_type T i)) → Agree
    (IsType x) o (argument_type (head_built h s).type i)
head_argument x w h s i o k f = let T = (head_built h s).type in f T k.whole (subst (λ n. IsType x w.head.left (result_type T n)) (sym k.arguments) k.left)

pub argument_made : (x : Types) (l : Lists) (w : Work) (h : Home) (s : State) (i : ℕ) (o : Option TypeId) (t : TypeId) (e : Term) (hd : Head) →
    variable_in hd ≡ variable_of e → Agree (IsType x) o (argument_type (head_built h s).type i) → o ≡ Some t → MakesTerm (store x l)
    (is_none (argument_type (head_built h s).type i)) (whole e (argument_at h s i)) (typed.Built (bare_built t hd))
argument_made x l w h s i o t e hd same a is = by_type (argument_type (head_built h s).type i) (subst (λ o. Agree (IsType x) o (argument_type (head_built h s).type i)) is a)
  where
    by_type : (p : Option Ty) → Agree (IsType x) (Some t) p → MakesTerm (store x l) (is_none p) (whole e (unwrap_or p o_type)) (typed.Built (bare_built t hd))
    by_type None k = absurd k
    by_type (Some T) k = bare_same (store x l) t hd (whole e T) refl k same

pub no_argument : (x : Types) (l : Lists) (o : Option TypeId) (p : Option Ty) (b : Built) → Agree (IsType x) o p → o ≡ None → MakesTerm (store x l) (is_none p) b typed.Ill
no_argument x l o p b a is = by_type p (subst (λ o. Agree (IsType x) o p) is a)
  where
    by_type : (p : Option Ty) → Agree (IsType x) None p → MakesTerm (store x l) (is_none p) b typed.Ill
    by_type None k = refl
    by_type (Some T) k = absurd k

-- what is put into the register
put_term : (m : Store) (p : Bool) (t : Typed) (T : TypeId) (b : Built) → IsType m.types T o_type → is_ill t ≡ false → MakesTerm m p b t → SameTerm m (built_or t (closed_built T)) b
put_term m true t T b o sound h = absurd (cc)
put_term m false typed.Ill T b o sound h = absurd h
put_term m false typed.Fine T b o sound h = bare_same m T head.Other b h.0 (subst (IsType m.types T) (sym h.1) o) (sym h.2)
put_term m false (typed.Built t) T b o sound h = h

-- what comes of the arms of an instruction
pub made_at : (old new : Store) (w : Work) (i j : Instr) (t : Typed) → i ≡ j → IsMadeBy old new w j t → IsMadeBy old new w i t
made_at old new w i j t e h = subst (λ i. IsMadeBy old new w i t) (sym e) h

pub at_ok : {A E : Type 0} (P Q : A → Type 0) (r : Result A E) → ((x : A) → P x → Q x) → IfOk r P → IfOk r Q
at_ok P Q (Ok x) f h = f x h
at_ok P Q (Err e) f h = tt

pub read_types : (w : Work) (i : Instr) → reads_unset (is_lacking w.types) (is_lacking w.terms) i ≡ false → list_any (is_lacking w.types) (types_read i) ≡ false
read_types w i h = or_false_left (list_any (is_lacking w.types) (types_read i)) (list_any (is_lacking w.terms) (terms_read i)) h

pub read_terms : (w : Work) (i : Instr) → reads_unset (is_lacking w.types) (is_lacking w.terms) i ≡ false → list_any (is_lacking w.terms) (terms_read i) ≡ false
read_terms w i h = or_false_right (list_any (is_lacking w.types) (types_read i)) (list_any (is_lacking w.terms) (terms_read i)) h

pub read_more_terms : (w : Work) (d f : ℕ) (v : Vec ℕ Global) → reads_unset (is_lacking w.types) (is_lacking w.terms) (on.PutApp d f v) ≡ false → list_any (is_lacking w.terms) v.items ≡ false
read_more_terms w d f v h = or_false_right (is_lacking w.terms f) (list_any (is_lacking w.terms) v.items) (read_terms w (on.PutApp d f v) h)

-- what a function tells of the type of a constant
abbrev pub TellsConstant : (x y : Types) → Work → (c : ℕ) → List ℕ → TypeId → Type 0
TellsConstant x y w c ds of = (l : Lists) (h : Home) (s : State) → Knows (store x l) w h s → list_any (is_lacking w.types) ds ≡ false → IsType y of (constant_type h.tables c (types_in s.now ds)) × UsesAre h.tables y

read_in : (w : Work) (ds es : List ℕ) → ds ≡ es → list_any (is_lacking w.types) es ≡ false → list_any (is_lacking w.types) ds ≡ false
read_in w ds es e h = ap (list_any (is_lacking w.types)) e ∙ h

constant_known : (x y : Types) (l : Lists) (w : Work) (h : Home) (s : State) (c : ℕ) (ds es : List ℕ) (of : TypeId) → ds ≡ es → TellsConstant x y w c
    ds of → Knows (store x l) w h s → list_any (is_lacking w.types) es ≡ false → IsType y of (constant_type h.tables c (types_in s.now es)) × UsesAre
    h.tables y
constant_known x y l w h s c ds es of e m k set = subst (λ ds. IsType y of (constant_type h.tables c (types_in s.now ds)) × UsesAre h.tables y) e (m l h s k (read_in w ds es e set))

pub constant_by : (x y : Types) (l : Lists) (w : Work) (i : Instr) (d c : ℕ) (v : Vec ℕ Global) (ds : List ℕ) (t : kept_built.Built) (of : TypeId) → i
    ≡ on.PutConst d c v → ds ≡ v.items → t ≡ bare_built of head.Other → TellsConstant x y w c ds of → IsMadeBy (store x l) (store y l) w i
    (typed.Built t)
constant_by x y l w i d c v ds t of e n q m =
    made_at (store x l) (store y l) w i (on.PutConst d c v) (typed.Built t) e
    (λ h s k set. let a = constant_known x y l w h s c ds v.items of n m k (read_types w (on.PutConst d c v) set) in (a.1, subst (λ t. SameTerm (store y l) t (term_made h s (on.PutConst d c v))) (sym q) (bare_same (store y l) of head.Other (term_made h s (on.PutConst d c v)) refl a.0 refl)))

pub integer_by : (x : Types) (l : Lists) (w : Work) (i : Instr) (d : ℕ) (z : ℤ) (t : kept_built.Built) → i ≡ on.PutInt d z → t ≡ bare_built x.integer head.Other → IsMadeBy (store x l) (store x l) w i (typed.Built t)
integer_by x l w i d z t e q =
    made_at (store x l) (store x l) w i (on.PutInt d z) (typed.Built t) e (λ h s k set. (
      k.of_head.constants.uses,
      subst (λ t. SameTerm (store x l) t (term_made h s (on.PutInt d z))) (sym q)
          (bare_same (store x l) x.integer head.Other (term_made h s (on.PutInt d z)) refl k.of_head.constants.basics.integer refl),
    ))

pub text_by : (x : Types) (l : Lists) (w : Work) (i : Instr) (d : ℕ) (b : Vec ℕ Global) (t : kept_built.Built) → i ≡ on.PutStr d b → t ≡ bare_built x.text head.Other → IsMadeBy (store x l) (store x l) w i (typed.Built t)
text_by x l w i d b t e q =
    made_at (store x l) (store x l) w i (on.PutStr d b) (typed.Built t) e (λ h s k set. (
      k.of_head.constants.uses,
      subst (λ t. SameTerm (store x l) t (term_made h s (on.PutStr d b))) (sym q)
          (bare_same (store x l) x.text head.Other (term_made h s (on.PutStr d b)) refl k.of_head.constants.basics.text refl),
    ))

-- the head, when types are put
pub head_later : (x y : Types) (p : HeadSoFar) (h : Home) (s : State) → TypesGrow x y → IsHead x p h s → IsHead y p h s
head_later x y p h s g k = record {
  predicate = k.predicate;
  count = k.count;
  types = types_stay x y p.types.items s.head_types g k.types;
  arguments = k.arguments;
  whole = g.stay p.whole (head_built h s).type k.whole;
  left = g.stay p.left (result_type (head_built h s).type (length s.head_arguments)) k.left;
}

pub got_constant_by : (x y : Types) (l : Lists) (w : Work) (i : Instr) (n c : ℕ) (v : Vec ℕ Global) (ds : List ℕ) (of : TypeId) (t : Typed) → i ≡ on.GetConst n c v → ds ≡ v.items → TypesGrow x y → TellsConstant x y w c ds of
    → ((l : Lists) (h : Home) (s : State) (T : Ty) (b : Built) → IsHead y w.head h s → IsType y of T → b.loose ≡ [] → b.type ≡ o_type → variable_of b.term ≡ None → MakesTerm (store y l) (not (is_argument h s n T)) b t) → IsMadeBy (store x l) (store y l) w i t
got_constant_by x y l w i n c v ds of t e same g m a =
    made_at (store x l) (store y l) w i (on.GetConst n c v) t e
    (λ h s k set. let q = constant_known x y l w h s c ds v.items of same m k (read_types w (on.GetConst n c v) set) in (q.1, a l h s (constant_type h.tables c (types_in s.now v.items)) nothing_built (head_later x y w.head h s g k.of_head.head) q.0 refl refl refl))

agree_later : (l m : Store) (o : Option kept_built.Built) (p : Option Built) → StoreGrows l m → Agree (SameTerm l) o p → Agree (SameTerm m) o p
agree_later l m None None g a = tt
agree_later l m (Some t) None g a = absurd a
agree_later l m None (Some b) g a = absurd a
agree_later l m (Some t) (Some b) g a = same_later l m t b g a

pub call_by : (x y : Types) (l : Lists) (w : Work) (i : Instr) (c : ℕ) (v u : Vec ℕ Global) (ds es : List ℕ) (of : TypeId) (t : Typed) → i ≡ on.Call c v u → ds ≡ v.items → es ≡ u.items → TypesGrow x y → TellsConstant x y w c ds of
    → ((l : Lists) (h : Home) (s : State) (T : Ty) (b : Built) → IsSame (SameTerm (store y l)) w.terms s.now.terms → HasBasics y → list_any
    (is_lacking w.terms) es ≡ false → IsType y of T → b.loose ≡ [] → b.type ≡ o_type → variable_of b.term ≡ None → MakesTerm (store y l)
    (not (has_type (applied_type T (built_types (terms_in s.now es))) o_type)) b t)
    → IsMadeBy (store x l) (store y l) w i t
call_by x y l w i c v u ds es of t e same_types same_terms g m a =
    made_at (store x l) (store y l) w i (on.Call c v u) t e
    (λ h s k set.
    let q = constant_known x y l w h s c ds v.items of same_types m k (read_types w (on.Call c v u) set) in
    let T = constant_type h.tables c (types_in s.now v.items) in
    let r = a l h s T nothing_built (λ n. agree_later (store x l) (store y l) (value_in w.terms n) (held s.now.terms n) (grows_same l, g) (k.terms n))
    (basics_stay x y g k.of_head.constants.basics) (ap (list_any (is_lacking w.terms)) same_terms ∙ read_terms w (on.Call c v u) set) q.0 refl
    refl refl in
    (q.1, subst (λ es. MakesTerm (store y l) (not (has_type (applied_type T (built_types (terms_in s.now es))) o_type)) nothing_built t) same_terms r))

pub abs_by : {E : Type 0} (x y : Types) (l : Lists) (w : Work) (i : Instr) (d b u : ℕ) (r : Result Typed E) → i ≡ on.PutAbs d b u → OnOk r (TypesGrow x y × UsesStay x y)
    → IfOk r (λ t. (h : Home) (s : State) → Knows (store x l) w h s → MakesTerm (store y l) (not (agree_at (innermost (term_in s.now b).loose) (Some (type_in s.now u)))) (abstraction_of (term_in s.now b) (type_in s.now u)) t) → IfOk r (IsMadeBy (store x l) (store y l) w i)
abs_by x y l w i d b u (Ok t) e g m = made_at (store x l) (store y l) w i (on.PutAbs d b u) t e (λ h s k set. (g.1 h.tables k.of_head.constants.uses, m h s k))
abs_by x y l w i d b u (Err f) e g m = tt

pub app_by : {E : Type 0} (x : Types) (l m : Lists) (w : Work) (i : Instr) (d f : ℕ) (v : Vec ℕ Global) (ds : List ℕ) (r : Result Typed E) → i ≡ on.PutApp d f v → ds ≡ v.items
    → IfOk r (λ t. (h : Home) (s : State) → Knows (store x l) w h s → list_any (is_lacking w.terms) ds ≡ false → MakesTerm (store x m) (not (applies (term_in s.now f) (terms_in s.now ds))) (application_of (term_in s.now f) (terms_in s.now ds)) t) → IfOk r (IsMadeBy (store x l) (store x m) w i)
app_by x l m w i d f v ds (Ok t) e n a =
    made_at (store x l) (store x m) w i (on.PutApp d f v) t e
    (λ h s k set. (k.of_head.constants.uses, subst (λ ds. MakesTerm (store x m) (not (applies (term_in s.now f) (terms_in s.now ds))) (application_of (term_in s.now f) (terms_in s.now ds)) t) n (a h s k (subst (λ ds. list_any (is_lacking w.terms) ds ≡ false) (sym n) (read_more_terms w d f v set)))))
app_by x l m w i d f v ds (Err g) e n a = tt

pub put_by : (l m : Store) (w : Work) (i : Instr) (t : Typed) (T : TypeId) → ((h : Home) (s : State) → Knows l w h s → IsType m.types T o_type) → IsJudged l m w i t → IsPutBy l m w i (built_or t (closed_built T))
put_by l m w i t T o j = λ h s k set. put_term m (breaks_type h s i) t T (term_made h s i) (o h s k) j.0 (j.1 h s k set).1

-- what is known stays known
pub knows_later : (l m : Store) (w : Work) (h : Home) (s : State) → StoreGrows l m → UsesAre h.tables m.types → Knows l w h s → Knows m w h s
knows_later l m w h s g uses k = record {
  of_head = record {
    number = k.of_head.number;
    constants = record { tables = k.of_head.constants.tables; language = k.of_head.constants.language; basics = basics_stay l.types m.types g.1 k.of_head.constants.basics; uses = uses };
    own = k.of_head.own;
    head = head_later l.types m.types w.head h s g.1 k.of_head.head;
  };
  taken = k.taken;
  types = λ r. type_later l m (value_in w.types r) (held s.now.types r) g (k.types r);
  terms = λ r. agree_later l m (value_in w.terms r) (held s.now.terms r) g (k.terms r);
}
  where
    type_later : (l m : Store) (o : Option TypeId) (p : Option Ty) → StoreGrows l m → Agree (SameType l) o p → Agree (SameType m) o p
    type_later l m None None g a = tt
    type_later l m (Some t) None g a = absurd a
    type_later l m None (Some b) g a = absurd a
    type_later l m (Some t) (Some b) g a = g.1.stay t b a

-- where types are ill, the rule on them is broken, and else it is not
pub ill_broken : (m : Store) (p : Bool) (b : Built) (t : Typed) → is_ill t ≡ true → MakesTerm m p b t → p ≡ true
ill_broken m true b t e h = refl
ill_broken m false b typed.Ill e h = absurd h
ill_broken m false b typed.Fine e h = absurd (cc)
ill_broken m false b (typed.Built v) e h = absurd (cc)

pub not_ill : (m : Store) (p : Bool) (b : Built) (t : Typed) → is_ill t ≡ false → MakesTerm m p b t → p ≡ false
not_ill m true b t e h = absurd (cc)
not_ill m false b t e h = refl

-- the type that is taken for the head
pub taken_known : (l : Store) (w : Work) (h : Home) (s : State) (i : Instr) (t : TypeId) (T : Ty) → Knows l w h s → t ≡ type_taken i w.types l.types.proposition → taken_by s i ≡ T ∷ [] → IsType l.types t T
taken_known l w h s (on.GetType j r) t T k e f = subst (IsType l.types t) (one_head (type_in s.now r) T f) (type_known l w h s r t k e)
  where
    one_head : (T U : Ty) → T ∷ [] ≡ U ∷ [] → T ≡ U
    one_head T U e = cc
taken_known l w h s (on.TyCon x0 x1 x2) u T k e f = absurd (cc)
taken_known l w h s (on.TyArr x0 x1 x2) u T k e f = absurd (cc)
taken_known l w h s (on.TyNew x0) u T k e f = absurd (cc)
taken_known l w h s (on.New x0 x1) u T k e f = absurd (cc)
taken_known l w h s (on.PutConst x0 x1 x2) u T k e f = absurd (cc)
taken_known l w h s (on.PutInt x0 x1) u T k e f = absurd (cc)
taken_known l w h s (on.PutStr x0 x1) u T k e f = absurd (cc)
taken_known l w h s (on.PutIndex x0 x1 x2) u T k e f = absurd (cc)
taken_known l w h s (on.PutAbs x0 x1 x2) u T k e f = absurd (cc)
taken_known l w h s (on.PutApp x0 x1 x2) u T k e f = absurd (cc)
taken_known l w h s (on.GetVar x0 x1) u T k e f = absurd (cc)
taken_known l w h s (on.Get x0 x1) u T k e f = absurd (cc)
taken_known l w h s (on.GetConst x0 x1 x2) u T k e f = absurd (cc)
taken_known l w h s (on.GetInt x0 x1) u T k e f = absurd (cc)
taken_known l w h s (on.GetStr x0 x1) u T k e f = absurd (cc)
taken_known l w h s on.Neck u T k e f = absurd (cc)
taken_known l w h s (on.Call x0 x1 x2) u T k e f = absurd (cc)
taken_known l w h s (on.CallTerm x0) u T k e f = absurd (cc)
taken_known l w h s (on.Equal x0 x1 x2) u T k e f = absurd (cc)
taken_known l w h s (on.Is x0 x1 x2) u T k e f = absurd (cc)
taken_known l w h s (on.Less x0 x1) u T k e f = absurd (cc)
taken_known l w h s (on.Greater x0 x1) u T k e f = absurd (cc)
taken_known l w h s (on.AtMost x0 x1) u T k e f = absurd (cc)
taken_known l w h s (on.AtLeast x0 x1) u T k e f = absurd (cc)
taken_known l w h s on.Cut u T k e f = absurd (cc)
taken_known l w h s (on.Sigma x0 x1) u T k e f = absurd (cc)
taken_known l w h s (on.All x0 x1) u T k e f = absurd (cc)
taken_known l w h s on.EndAll u T k e f = absurd (cc)
taken_known l w h s (on.Assume x0 x1 x2) u T k e f = absurd (cc)
taken_known l w h s on.EndAssume u T k e f = absurd (cc)
taken_known l w h s (on.Either x0) u T k e f = absurd (cc)
taken_known l w h s (on.Jump x0) u T k e f = absurd (cc)
taken_known l w h s on.Proceed u T k e f = absurd (cc)
taken_known l w h s on.Not u T k e f = absurd (cc)
taken_known l w h s on.EndNot u T k e f = absurd (cc)

-- an instruction that builds no term
pub fine_by : (m : Store) (w : Work) (i : Instr) → is_goal_typed i ≡ false → is_argument_typed i ≡ false → ((d t : ℕ) → i ≡ on.New d t → ⊥) →
    ((d c : ℕ) (v : Vec ℕ Global) → i ≡ on.PutConst d c v → ⊥) → ((d : ℕ) (z : ℤ) → i ≡ on.PutInt d z → ⊥) →
    ((d : ℕ) (b : Vec ℕ Global) → i ≡ on.PutStr d b → ⊥) → ((d x t : ℕ) → i ≡ on.PutIndex d x t → ⊥) → ((d b t : ℕ) → i ≡ on.PutAbs d b t → ⊥) →
    ((d f : ℕ) (v : Vec ℕ Global) → i ≡ on.PutApp d f v → ⊥) → ((d t : ℕ) → i ≡ on.Sigma d t → ⊥) → ((d t : ℕ) → i ≡ on.All d t → ⊥) → IsMadeBy m m w
    i typed.Fine
fine_by m w i g a n0 n1 n2 n3 n4 n5 n6 n7 n8 = λ h s k set.
    let n = no_term_typed i g a n0 n1 n2 n3 n4 n5 n6 n7 n8 in
    (k.of_head.constants.uses, subst (λ b. MakesTerm m b (term_made h s i) typed.Fine) (sym (n.0 h s)) (subst (λ b. MakesTerm m false b typed.Fine) (sym (n.1 h s)) (refl, refl, refl)))

-- what is told where nothing was found, and where something was
pub matched_some : {A : Type 0} (P : Type 0) (Q : A → Type 0) (o : Option A) (r : A) → o ≡ Some r → MatchOption o P Q → Q r
matched_some P Q o r e m = subst (λ o. MatchOption o P Q) e m

pub matched_none : {A : Type 0} (P : Type 0) (Q : A → Type 0) (o : Option A) → o ≡ None → MatchOption o P Q → P
matched_none P Q o e m = subst (λ o. MatchOption o P Q) e m

-- the type of a head that is a register, or that is not there
pub head_given : (l : Store) (rs : kept_registers.Registers kept_built.Built) (h : Home) (s : State) (p : Option RecordHead) (of : Option TypeId) → of
    ≡ given_in rs p → HasBasics l.types → IsSame (SameTerm l) rs s.now.terms → IsNoConstant p → IsType l.types (unwrap_or of l.types.proposition)
    (built_of h s p).type
head_given l rs h s p of e basics same n = subst (λ of. IsType l.types (unwrap_or of l.types.proposition) (built_of h s p).type) (sym e) (by_head p n)
  where
    by_value : (o : Option kept_built.Built) (b : Option Built) → Agree (SameTerm l) o b → IsType l.types (unwrap_or (option_map (λ (t : kept_built.Built). t.of) o) l.types.proposition) (unwrap_or b nothing_built).type
    by_value None None a = basics.proposition
    by_value (Some t) None a = absurd a
    by_value None (Some b) a = absurd a
    by_value (Some t) (Some b) a = a.1

    by_head : (p : Option RecordHead) → IsNoConstant p → IsType l.types (unwrap_or (given_in rs p) l.types.proposition) (built_of h s p).type
    by_head None n = basics.proposition
    by_head (Some (Const c)) n = absurd n
    by_head (Some (Register r)) n = by_value (value_in rs r) (held s.now.terms r) (same r)
