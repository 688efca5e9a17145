-- The type of the head so far, behind type arguments and arguments.
use Rattle.std.proofs.Common.{◌≡◌, ◌∙◌, ◌+◌, ◌<◌, ℕ, zero, suc, List, [], ◌∷◌, ◌++◌, length, true, false, Option, Some, None, ap, refl, sym, subst, arith}
use Rattle.std.specs.Global.{Global}
use Rattle.std.specs.Prelude.{ℤ, Vec, ◌-◌, ◌||◌, Bool, not, nat_eq, option_map, unwrap_or}
use Rattle.lp_calculus.specs.Types.{Ty, var, param, con, arrow}
use Rattle.lp_term.specs.declared.node.TypeId.{TypeId}
use Rattle.lp_code.specs.declared.instruction.Instr.{Instr}
use Rattle.lp_code.specs.declared.record.RecordHead.{RecordHead}
use Rattle.lp_code.specs.declared.record.RecordHead.TheVariants.{Const, Register}
use Rattle.lp_code.specs.declared.instruction.Instr.TheVariants as on
use Rattle.lp_code.specs.Rules.{has_none, scheme_count, count_of, head_count, breaks_order}
use Rattle.lp_verify.specs.Scheme.{type_vars_of}
use Rattle.lp_calculus.specs.Typing.{Scheme}
use Rattle.lp_code.specs.Symbolic.{Built, type_in, argument_type, result_type}
use Rattle.lp_code.specs.States.{State, Home}
use Rattle.lp_code.specs.Steps.{constant_of, built_of, head_built}
use Rattle.lp_verify.specs.declared.head.HeadSoFar.{HeadSoFar}
use Rattle.lp_verify.specs.declared.types.Types.{Types}
use Rattle.lp_verify.specs.inner.Stack.{Agree}
use Rattle.lp_verify.specs.inner.FirstNumbers.{IsType, AreTypes, TypesGrow, IsArrowAs, IsLeftAt}
use Rattle.lp_verify.specs.inner.Outline.{with_more, taken_by, arguments_behind}
use Rattle.lp_verify.specs.inner.Known.{constant_in, IsNoConstant, KeepsRegister, TakesType, TakesArgument, FollowsHead, IsHead}
use Rattle.lp_verify.proofs.UsedConstants.{types_stay}

-- what a function takes
pub takes_told : (x : Types) (T : Ty) (o : Option (TypeId × TypeId)) (p q : TypeId) → o ≡ Some (p, q) → IsArrowAs x T o → Agree (IsType x) (Some p) (argument_type T 0)
takes_told x T o p q e h = by_type T (subst (IsArrowAs x T) e h)
  where
    by_type : (T : Ty) → IsArrowAs x T (Some (p, q)) → Agree (IsType x) (Some p) (argument_type T 0)
    by_type (arrow A B) h = h.0
    by_type (con c Ts) h = absurd h
    by_type (var i) h = absurd h
    by_type (param i) h = absurd h

pub takes_none : (x : Types) (T : Ty) (o : Option (TypeId × TypeId)) → o ≡ None → IsArrowAs x T o → Agree (IsType x) None (argument_type T 0)
takes_none x T o e h = by_type T (subst (IsArrowAs x T) e h)
  where
    by_type : (T : Ty) → IsArrowAs x T None → Agree (IsType x) None (argument_type T 0)
    by_type (arrow A B) h = absurd h
    by_type (con c Ts) h = tt
    by_type (var i) h = tt
    by_type (param i) h = tt

-- what is left behind so many arguments
pub left_first : (x : Types) (T : Ty) (t : TypeId) → IsType x t T → IsLeftAt x T 0 (Some t)
left_first x T t h = (T, h, λ i. let z : 0 + i ≡ i = omega arith in ap (argument_type T) z)

pub left_more : (x : Types) (T : Ty) (n : ℕ) (t p q : TypeId) (o : Option (TypeId × TypeId)) → o ≡ Some (p, q) → ((U : Ty) → IsType x t U → IsArrowAs x U o) → IsLeftAt x T n (Some t) → IsLeftAt x T (n + 1) (Some q)
left_more x T n t p q o e arrows h = by_type h.0 h.2 (subst (IsArrowAs x h.0) e (arrows h.0 h.1))
  where
    by_type : (U : Ty) → ((i : ℕ) → argument_type T (n + i) ≡ argument_type U i) → IsArrowAs x U (Some (p, q)) → IsLeftAt x T (n + 1) (Some q)
    by_type (arrow A B) same a = (B, a.1, λ i. let k : (n + 1) + i ≡ n + suc i = omega arith in ap (argument_type T) k ∙ same (suc i))
    by_type (con c Ts) same a = absurd a
    by_type (var i) same a = absurd a
    by_type (param i) same a = absurd a

no_argument : (x : Types) (U : Ty) → IsArrowAs x U None → (i : ℕ) → argument_type U i ≡ None
no_argument x (arrow A B) a i = absurd a
no_argument x (con c Ts) a i = refl
no_argument x (var j) a i = refl
no_argument x (param j) a i = refl

pub left_none : (x : Types) (T : Ty) (n m : ℕ) (t : TypeId) (o : Option (TypeId × TypeId)) → o ≡ None → ((U : Ty) → IsType x t U → IsArrowAs x U o) → n < m → IsLeftAt x T n (Some t) → IsLeftAt x T m None
left_none x T n m t o e arrows l h i =
    let k : m + i ≡ n + (m - n + i) = omega (arith, l) in
    ap (argument_type T) k ∙ h.2 (m - n + i) ∙ no_argument x h.0 (subst (IsArrowAs x h.0) e (arrows h.0 h.1)) (m - n + i)

-- the argument of a number
argument_left : (T : Ty) (n : ℕ) → argument_type (result_type T n) 0 ≡ argument_type T n
argument_left T zero = refl
argument_left (arrow A B) (suc n) = argument_left B n
argument_left (con c Ts) (suc n) = refl
argument_left (var i) (suc n) = refl
argument_left (param i) (suc n) = refl

pub argument_now : (x : Types) (T : Ty) (n m : ℕ) (o : Option TypeId) → n ≡ m → Agree (IsType x) o (argument_type (result_type T m) 0) → Agree (IsType x) o (argument_type T n)
argument_now x T n m o e h = subst (Agree (IsType x) o) (argument_left T m ∙ ap (argument_type T) (sym e)) h

pub argument_there : (x : Types) (T : Ty) (n : ℕ) (l : Option TypeId) (t : TypeId) (o : Option TypeId) → l ≡ Some t → IsLeftAt x T n l → ((U : Ty) → IsType x t U → Agree (IsType x) o (argument_type U 0)) → Agree (IsType x) o (argument_type T n)
argument_there x T n l t o e h f =
    let k : (U : Ty) × IsType x t U × ((i : ℕ) → argument_type T (n + i) ≡ argument_type U i) = subst (IsLeftAt x T n) e h in
    let z : n + 0 ≡ n = omega arith in
    subst (Agree (IsType x) o) (sym (k.2 0) ∙ ap (argument_type T) z) (f k.0 k.1)

pub argument_missing : (x : Types) (T : Ty) (n : ℕ) (l : Option TypeId) → l ≡ None → IsLeftAt x T n l → Agree (IsType x) None (argument_type T n)
argument_missing x T n l e h =
    let k : (i : ℕ) → argument_type T (n + i) ≡ None = subst (IsLeftAt x T n) e h in
    let z : n ≡ n + 0 = omega arith in
    subst (Agree (IsType x) None) (sym (ap (argument_type T) z ∙ k 0)) tt

-- one argument more
pub left_behind : (x : Types) (T : Ty) (n : ℕ) (t p q : TypeId) (o : Option (TypeId × TypeId)) → o ≡ Some (p, q) → ((U : Ty) → IsType x t U → IsArrowAs x U o) → IsType x t (result_type T n) → IsType x q (result_type T (suc n))
left_behind x T n t p q o e arrows h = by_number T n (subst (IsArrowAs x (result_type T n)) e (arrows (result_type T n) h))
  where
    by_number : (T : Ty) (n : ℕ) → IsArrowAs x (result_type T n) (Some (p, q)) → IsType x q (result_type T (suc n))
    by_number (arrow A B) zero a = a.1
    by_number (con c Ts) zero a = absurd a
    by_number (var i) zero a = absurd a
    by_number (param i) zero a = absurd a
    by_number (arrow A B) (suc n) a = by_number B n a
    by_number (con c Ts) (suc n) a = absurd a
    by_number (var i) (suc n) a = absurd a
    by_number (param i) (suc n) a = absurd a

pub left_same : (x : Types) (T : Ty) (n : ℕ) (t : TypeId) (o : Option (TypeId × TypeId)) → o ≡ None → ((U : Ty) → IsType x t U → IsArrowAs x U o) → IsType x t (result_type T n) → IsType x t (result_type T (suc n))
left_same x T n t o e arrows h = subst (IsType x t) (by_number T n (subst (IsArrowAs x (result_type T n)) e (arrows (result_type T n) h))) h
  where
    by_number : (T : Ty) (n : ℕ) → IsArrowAs x (result_type T n) None → result_type T n ≡ result_type T (suc n)
    by_number (arrow A B) zero a = absurd a
    by_number (con c Ts) zero a = refl
    by_number (var i) zero a = refl
    by_number (param i) zero a = refl
    by_number (arrow A B) (suc n) a = by_number B n a
    by_number (con c Ts) (suc n) a = refl
    by_number (var i) (suc n) a = refl
    by_number (param i) (suc n) a = refl

-- the predicate stays where no type argument is taken
predicate_stays : (h : Home) (s t : State) (p : Option RecordHead) → p ≡ h.self.head → t.head_types ≡ s.head_types → KeepsRegister h s t → built_of h t p ≡ built_of h s p
predicate_stays h s t None e types keeps = refl
predicate_stays h s t (Some (Const c)) e types keeps = ap (constant_of h.tables c) types
predicate_stays h s t (Some (Register r)) e types keeps = keeps r (sym e)

pub head_stays : (h : Home) (s t : State) → t.head_types ≡ s.head_types → KeepsRegister h s t → head_built h t ≡ head_built h s
head_stays h s t types keeps = predicate_stays h s t h.self.head refl types keeps

pub no_constant_stays : (h : Home) (s t : State) (p : Option RecordHead) → p ≡ h.self.head → IsNoConstant p → KeepsRegister h s t → head_built h t ≡ head_built h s
no_constant_stays h s t p e n keeps = ap (built_of h t) (sym e) ∙ by_head p e n ∙ ap (built_of h s) e
  where
    by_head : (p : Option RecordHead) → p ≡ h.self.head → IsNoConstant p → built_of h t p ≡ built_of h s p
    by_head None e n = refl
    by_head (Some (Const c)) e n = absurd n
    by_head (Some (Register r)) e n = keeps r (sym e)

-- an argument more was taken
pub argument_taken : (x : Types) (h : Home) (s t : State) (p q : HeadSoFar) → q.predicate ≡ p.predicate → q.count ≡ p.count → q.types ≡ p.types →
    q.whole ≡ p.whole → q.arguments ≡ p.arguments + 1 → ((T : Ty) (n : ℕ) → IsType x p.left (result_type T n) → IsType x q.left
    (result_type T (suc n))) → IsHead x p h s → TakesArgument h s t → IsHead x q h t
argument_taken x h s t p q predicate count types whole arguments left k f =
    let same = head_stays h s t f.0 f.2 in
    let old = k.arguments in
    let more = f.1 in record {
      predicate = predicate ∙ k.predicate;
      count = count ∙ k.count;
      types = subst (AreTypes x q.types.items) (sym f.0) (subst (λ v. AreTypes x v.items s.head_types) (sym types) k.types);
      arguments = omega (arith, arguments, old, more);
      whole = subst (λ w. IsType x w (head_built h t).type) (sym whole) (subst (λ (b : Built). IsType x p.whole b.type) (sym same) k.whole);
      left = subst (λ n. IsType x q.left (result_type (head_built h t).type n)) (sym f.1) (subst (λ (b : Built). IsType x q.left (result_type b.type (suc (length s.head_arguments)))) (sym same) (left (head_built h s).type (length s.head_arguments) k.left));
    }

-- nothing was taken
pub nothing_taken : (x : Types) (h : Home) (s t : State) (p : HeadSoFar) → t.head_types ≡ s.head_types → length t.head_arguments ≡ length s.head_arguments → KeepsRegister h s t → IsHead x p h s → IsHead x p h t
nothing_taken x h s t p types arguments keeps k =
    let same = head_stays h s t types keeps in record {
      predicate = k.predicate;
      count = k.count;
      types = subst (AreTypes x p.types.items) (sym types) k.types;
      arguments = k.arguments ∙ sym arguments;
      whole = subst (λ (b : Built). IsType x p.whole b.type) (sym same) k.whole;
      left = subst (λ n. IsType x p.left (result_type (head_built h t).type n)) (sym arguments) (subst (λ (b : Built). IsType x p.left (result_type b.type (length s.head_arguments))) (sym same) k.left);
    }

-- a type argument more
pub types_more : (x : Types) (ts : List TypeId) (t : TypeId) (Ts : List Ty) (T : Ty) → AreTypes x ts Ts → IsType x t T → AreTypes x (ts ++ t ∷ []) (Ts ++ T ∷ [])
types_more x [] t [] T a h = (h, tt)
types_more x [] t (U ∷ Ts) T a h = absurd a
types_more x (u ∷ ts) t [] T a h = absurd a
types_more x (u ∷ ts) t (U ∷ Ts) T a h = (a.0, types_more x ts t Ts T a.1 h)

-- the head behind type arguments, before the first argument
pub head_put : (x y : Types) (h : Home) (t : State) (p : HeadSoFar) (ts : List TypeId) → TypesGrow x y → p.predicate ≡ h.self.head → p.count ≡
    head_count h → p.types.items ≡ ts → AreTypes x ts t.head_types → p.arguments ≡ 0 → length t.head_arguments ≡ 0 → IsType y p.whole
    (head_built h t).type → p.left ≡ p.whole → IsHead y p h t
head_put x y h t p ts g predicate count items types none first whole left = record {
  predicate = predicate;
  count = count;
  types = subst (λ l. AreTypes y l t.head_types) (sym items) (types_stay x y ts t.head_types g types);
  arguments = none ∙ sym first;
  whole = whole;
  left = subst (λ n. IsType y p.left (result_type (head_built h t).type n)) (sym first) (subst (λ l. IsType y l (head_built h t).type) (sym left) whole);
}

-- what an instruction takes for the head
none_long : {A : Type 0} (xs : List A) → has_none xs ≡ true → length xs ≡ 0
none_long [] e = refl
none_long (x ∷ xs) e = absurd (cc)

last_false : (a b c : Bool) → ((a || b) || not c) ≡ false → c ≡ true
last_false a b true e = refl
last_false true b false e = absurd (cc)
last_false false true false e = absurd (cc)
last_false false false false e = absurd (cc)

pub takes_type : (h : Home) (s t : State) (i : Instr) (j r : ℕ) → i ≡ on.GetType j r → breaks_order s i ≡ false → FollowsHead h s i t → TakesType h s (type_in s.now r) t
takes_type h s t i j r e order f =
    let g : FollowsHead h s (on.GetType j r) t = subst (λ i. FollowsHead h s i t) e f in
    let o : breaks_order s (on.GetType j r) ≡ false = subst (λ i. breaks_order s i ≡ false) e order in
    let none : length s.head_arguments ≡ 0 = none_long s.head_arguments (last_false s.in_body (not (nat_eq j (length s.head_types))) (has_none s.head_arguments) o) in
    (g.types, none, g.arguments ∙ none, g.register)

pub takes_argument : (h : Home) (s t : State) (i j : Instr) → i ≡ j → taken_by s j ≡ [] → arguments_behind j (length s.head_arguments) ≡ suc (length s.head_arguments) → FollowsHead h s i t → TakesArgument h s t
takes_argument h s t i j e none more f =
    let g : FollowsHead h s j t = subst (λ i. FollowsHead h s i t) e f in
    (g.types ∙ ap (with_more s.head_types) none, g.arguments ∙ more, g.register)

pub takes_nothing : (x : Types) (h : Home) (s t : State) (i : Instr) (p : HeadSoFar) → taken_by s i ≡ [] → arguments_behind i (length s.head_arguments) ≡ length s.head_arguments → FollowsHead h s i t → IsHead x p h s → IsHead x p h t
takes_nothing x h s t i p none same f k = nothing_taken x h s t p (f.types ∙ ap (with_more s.head_types) none) (f.arguments ∙ same) f.register k

-- whether the predicate is a constant
pub constant_there : (p : Option RecordHead) (c : ℕ) → constant_in p ≡ Some c → p ≡ Some (Const c)
constant_there None c e = absurd (cc)
constant_there (Some (Const d)) c e = ap (λ c. Some (Const c)) (same d c e)
  where
    same : (d c : ℕ) → Some d ≡ Some c → d ≡ c
    same d c e = cc
constant_there (Some (Register r)) c e = absurd (cc)

pub no_constant_there : (p : Option RecordHead) → constant_in p ≡ None → IsNoConstant p
no_constant_there None e = tt
no_constant_there (Some (Const c)) e = absurd (cc)
no_constant_there (Some (Register r)) e = tt

-- an instruction that takes nothing for the head
abbrev pub TakesNone : Instr → Type 0
TakesNone i = ((s : State) → taken_by s i ≡ []) × ((n : ℕ) → arguments_behind i n ≡ n)

pub takes_none_of : (i : Instr) → ((j t : ℕ) → i ≡ on.GetType j t → ⊥) → ((x d : ℕ) → i ≡ on.GetVar x d → ⊥) → ((x q : ℕ) → i ≡ on.Get x q → ⊥) →
    ((x c : ℕ) (v : Vec ℕ Global) → i ≡ on.GetConst x c v → ⊥) → ((x : ℕ) (z : ℤ) → i ≡ on.GetInt x z → ⊥) →
    ((x : ℕ) (b : Vec ℕ Global) → i ≡ on.GetStr x b → ⊥) → TakesNone i
takes_none_of (on.TyCon d k ts) a b1 c1 d1 e1 f1 = (λ s. refl, λ n. refl)
takes_none_of (on.TyArr d x y) a b1 c1 d1 e1 f1 = (λ s. refl, λ n. refl)
takes_none_of (on.TyNew d) a b1 c1 d1 e1 f1 = (λ s. refl, λ n. refl)
takes_none_of (on.New d t) a b1 c1 d1 e1 f1 = (λ s. refl, λ n. refl)
takes_none_of (on.PutConst d c ts) a b1 c1 d1 e1 f1 = (λ s. refl, λ n. refl)
takes_none_of (on.PutInt d z) a b1 c1 d1 e1 f1 = (λ s. refl, λ n. refl)
takes_none_of (on.PutStr d b) a b1 c1 d1 e1 f1 = (λ s. refl, λ n. refl)
takes_none_of (on.PutIndex d x t) a b1 c1 d1 e1 f1 = (λ s. refl, λ n. refl)
takes_none_of (on.PutAbs d b t) a b1 c1 d1 e1 f1 = (λ s. refl, λ n. refl)
takes_none_of (on.PutApp d g rs) a b1 c1 d1 e1 f1 = (λ s. refl, λ n. refl)
takes_none_of (on.GetType j t) a b1 c1 d1 e1 f1 = absurd (a j t refl)
takes_none_of (on.GetVar x d) a b1 c1 d1 e1 f1 = absurd (b1 x d refl)
takes_none_of (on.Get x q) a b1 c1 d1 e1 f1 = absurd (c1 x q refl)
takes_none_of (on.GetConst x c ts) a b1 c1 d1 e1 f1 = absurd (d1 x c ts refl)
takes_none_of (on.GetInt x z) a b1 c1 d1 e1 f1 = absurd (e1 x z refl)
takes_none_of (on.GetStr x b) a b1 c1 d1 e1 f1 = absurd (f1 x b refl)
takes_none_of on.Neck a b1 c1 d1 e1 f1 = (λ s. refl, λ n. refl)
takes_none_of (on.Call c ts rs) a b1 c1 d1 e1 f1 = (λ s. refl, λ n. refl)
takes_none_of (on.CallTerm q) a b1 c1 d1 e1 f1 = (λ s. refl, λ n. refl)
takes_none_of (on.Equal t l q) a b1 c1 d1 e1 f1 = (λ s. refl, λ n. refl)
takes_none_of (on.Is t l q) a b1 c1 d1 e1 f1 = (λ s. refl, λ n. refl)
takes_none_of (on.Less l q) a b1 c1 d1 e1 f1 = (λ s. refl, λ n. refl)
takes_none_of (on.Greater l q) a b1 c1 d1 e1 f1 = (λ s. refl, λ n. refl)
takes_none_of (on.AtMost l q) a b1 c1 d1 e1 f1 = (λ s. refl, λ n. refl)
takes_none_of (on.AtLeast l q) a b1 c1 d1 e1 f1 = (λ s. refl, λ n. refl)
takes_none_of on.Cut a b1 c1 d1 e1 f1 = (λ s. refl, λ n. refl)
takes_none_of (on.Sigma d t) a b1 c1 d1 e1 f1 = (λ s. refl, λ n. refl)
takes_none_of (on.All d t) a b1 c1 d1 e1 f1 = (λ s. refl, λ n. refl)
takes_none_of on.EndAll a b1 c1 d1 e1 f1 = (λ s. refl, λ n. refl)
takes_none_of (on.Assume ns ts rs) a b1 c1 d1 e1 f1 = (λ s. refl, λ n. refl)
takes_none_of on.EndAssume a b1 c1 d1 e1 f1 = (λ s. refl, λ n. refl)
takes_none_of (on.Either n) a b1 c1 d1 e1 f1 = (λ s. refl, λ n. refl)
takes_none_of (on.Jump n) a b1 c1 d1 e1 f1 = (λ s. refl, λ n. refl)
takes_none_of on.Proceed a b1 c1 d1 e1 f1 = (λ s. refl, λ n. refl)
takes_none_of on.Not a b1 c1 d1 e1 f1 = (λ s. refl, λ n. refl)
takes_none_of on.EndNot a b1 c1 d1 e1 f1 = (λ s. refl, λ n. refl)

-- how many type arguments there are
pub as_many : (x : Types) (ts : List TypeId) (Ts : List Ty) → AreTypes x ts Ts → length ts ≡ length Ts
as_many x [] [] a = refl
as_many x [] (T ∷ Ts) a = absurd a
as_many x (t ∷ ts) [] a = absurd a
as_many x (t ∷ ts) (T ∷ Ts) a = ap (λ n. suc n) (as_many x ts Ts a.1)

some_count : (o : Option Scheme) → unwrap_or (option_map (λ (s : Scheme). s.count) o) 0 ≡ scheme_count o
some_count None = refl
some_count (Some s) = refl

pub count_there : (h : Home) (p : Option RecordHead) (c : ℕ) → p ≡ h.self.head → constant_in p ≡ Some c → unwrap_or (type_vars_of h.tables c) 0 ≡ head_count h
count_there h p c e f = some_count (h.tables.constants c) ∙ ap (count_of h) (sym (constant_there p c f) ∙ e)

pub no_count : (h : Home) (p : Option RecordHead) → p ≡ h.self.head → constant_in p ≡ None → 0 ≡ head_count h
no_count h p e f = by p (no_constant_there p f) ∙ ap (count_of h) e
  where
    by : (p : Option RecordHead) → IsNoConstant p → 0 ≡ count_of h p
    by None n = refl
    by (Some (Const c)) n = absurd n
    by (Some (Register r)) n = refl
