-- What a goal is by the constant at its head and by its arguments.
use Rattle.std.proofs.Common.{◌≡◌, ℕ, ◌<◌, suc, List, [], ◌∷◌, ◌++◌, length, map, refl, sym, ap, ◌∙◌, subst, arith, Option, Some, None, Bool, true, false, if◌then◌else◌, nat_eq, All}
use Rattle.std.specs.Prelude.{IfSome}
use Rattle.std.proofs.lemmas.List.{append-nil, length-map}
use Rattle.std.proofs.lemmas.Bool.Decides.{nat_tests}
use Rattle.lp_lemmas.proofs.Lists.{get_below}
use Rattle.lp_calculus.specs.Types.{Ty}
use Rattle.lp_calculus.specs.Term.{Term, atom, app, apply, constant, eigen}
use Rattle.lp_calculus.specs.Spine.{head_of, arguments_and, arguments}
use Rattle.lp_standard.specs.declared.constant.Constant.{Constant}
use Rattle.lp_standard.specs.declared.constant.Constant.TheVariants as fixed
use Rattle.lp_standard.specs.Constants.{number, numbered, language, reserved}
use Rattle.lp_standard.specs.Connectives.{Connective, connective_at, connective_of}
use Rattle.lp_standard.specs.Connectives as connective
use Rattle.lp_model.proofs.Numbers.{number_back}
use Rattle.lp_model.proofs.Connectives.{told_other}
use Rattle.lp_store.specs.declared.cell.Cell.{Cell}
use Rattle.lp_store.specs.declared.cell.Cell.TheVariants.{TypeVar, TypeCon, TypeArrow, Ref, Const, Int, Text, Eigen, Logic, Index, Abs, App, Susp}
use Rattle.lp_store.specs.declared.cell.CellId.{CellId}
use Rattle.lp_store.specs.declared.cell.Span.{Span}
use Rattle.lp_store.specs.Contents.{Contents, cell_at, span}
use Rattle.lp_store.specs.Reading.{Reads, ReadsType, ReadAll, ReadTypes, no_types, more_types, none, more}
use Rattle.lp_store.specs.Change.{Extends}
use Rattle.lp_store.proofs.Changes.{parts_read}
use Rattle.lp_susp.proofs.Laws.{read_all_kept}
use Rattle.lp_impl.specs.declared.head.Head.TheVariants as head
use Rattle.lp_goal.specs.declared.kind.GoalKind.{GoalKind}
use Rattle.lp_goal.specs.declared.kind.GoalKind.TheVariants as goal
use Rattle.lp_goal.specs.Spines.{IsTop, IsListThere, numbers, argument_cells}
use Rattle.lp_goal.specs.Kinds.{IsCell, IsList, StandsKind, IsKind, IsCall, IsNoConnective, IsNoRelation, IsUnnamed}
use Rattle.lp_goal.specs.inner.ByConstant.{alone_by, quantified_by, related_by, joined_by, kind_by, kind_numbered}

pub head_apply : (t : Term) (us : List Term) → head_of (apply t us) ≡ head_of t
head_apply t [] = refl
head_apply t (u ∷ us) = head_apply (app t u) us

pub arguments_apply : (t : Term) (us ws : List Term) → arguments_and (apply t us) ws ≡ arguments_and t (us ++ ws)
arguments_apply t [] ws = refl
arguments_apply t (u ∷ us) ws = arguments_apply (app t u) us ws

-- a call, by its head and its arguments
abbrev IsCallOn : Term → List Term → Type 0
IsCallOn h us = IsNoConnective (connective_at h us) × IsNoRelation h us

called : (c : ℕ) (ts : List Ty) (us : List Term) → IsCallOn (atom (constant c ts)) us → IsCall (apply (atom (constant c ts)) us)
called c ts us k =
    let h : head_of (apply (atom (constant c ts)) us) ≡ atom (constant c ts) = head_apply (atom (constant c ts)) us in
    let a : arguments (apply (atom (constant c ts)) us) ≡ us = arguments_apply (atom (constant c ts)) us [] ∙ append-nil us in
    subst (λ x. IsCallOn x (arguments (apply (atom (constant c ts)) us))) (sym h) (subst (IsCallOn (atom (constant c ts))) (sym a) k)

eigen_called : (k : ℕ) (us : List Term) → IsCall (apply (atom (eigen k)) us)
eigen_called k us =
    let h : head_of (apply (atom (eigen k)) us) ≡ atom (eigen k) = head_apply (atom (eigen k)) us in
    subst (λ x. IsCallOn x (arguments (apply (atom (eigen k)) us))) (sym h) (tt, tt)

-- a number that is none of a constant
no_number : (n : ℕ) → numbered n ≡ None → n < 26 → ⊥
no_number n e h = let s = get_below (language ++ reserved) n h in let q : None ≡ Some s.0 = sym e ∙ s.1 in cc

no_relation : (c : ℕ) → numbered c ≡ None → (ts : List Ty) (us : List Term) → IsNoRelation (atom (constant c ts)) us
no_relation c e ts [] = tt
no_relation c e ts (a ∷ []) = tt
no_relation c e ts (a ∷ b ∷ []) = (λ q. no_number c e (omega (arith, q)), λ q. no_number c e (omega (arith, q)), λ q. no_number c e (omega (arith, q.1)))
no_relation c e ts (a ∷ b ∷ x ∷ us) = tt

-- what the code tells of the goal is so, and what it tells nothing of is a call
abbrev pub IsTold : Contents → Option GoalKind → Term → Type 0
IsTold s None t = IsCall t
IsTold s (Some k) t = IsKind s k t

alone_told : (s : Contents) (k : Constant) (ts : List Ty) → IsTold s (alone_by k) (atom (constant (number k) ts))
alone_told s fixed.True ts = refl
alone_told s _ ts = (tt, tt)

quantified_told : (s : Contents) (k : Constant) (T : Ty) (f : CellId) (a : Term) → Reads s f.0 a → IsTold s (quantified_by k f) (app (atom (constant (number k) (T ∷ []))) a)
quantified_told s fixed.ForAll T f a p = (T, a, refl, p)
quantified_told s fixed.Exists T f a p = (T, a, refl, p)
quantified_told s _ T f a p = (tt, tt)

one_called : (k : Constant) (a : Term) → IsCall (app (atom (constant (number k) [])) a)
one_called fixed.Not a = (tt, tt)
one_called _ a = (tt, tt)

related_told : (s : Contents) (k : Constant) (T : Ty) (Ts : List Ty) (l r : CellId) (a b : Term) → connective_at (atom (constant (number k) (T ∷ Ts))) (a ∷ b ∷ []) ≡ connective.Atomic → Reads s l.0 a → Reads s r.0 b →
    IsTold s (related_by k l r) (app (app (atom (constant (number k) (T ∷ Ts))) a) b)
related_told s fixed.Equal T Ts l r a b e p q = (T ∷ Ts, a, b, refl, p, q)
related_told s fixed.Is T Ts l r a b e p q = (T ∷ Ts, a, b, refl, p, q)
related_told s fixed.Less T Ts l r a b e p q = (T ∷ Ts, a, b, refl, p, q)
related_told s fixed.Greater T Ts l r a b e p q = (T ∷ Ts, a, b, refl, p, q)
related_told s fixed.AtMost T Ts l r a b e p q = (T ∷ Ts, a, b, refl, p, q)
related_told s fixed.AtLeast T Ts l r a b e p q = (T ∷ Ts, a, b, refl, p, q)
related_told s _ T Ts l r a b e p q = (subst IsNoConnective (sym e) tt, (λ z. omega (arith, z), λ z. omega (arith, z), λ z. omega (arith, z.0, z.1)))

joined_told : (s : Contents) (k : Constant) (l r : CellId) (a b : Term) → Reads s l.0 a → Reads s r.0 b → IsTold s (joined_by k l r) (app (app (atom (constant (number k) [])) a) b)
joined_told s fixed.And l r a b p q = (a, b, refl, p, q)
joined_told s fixed.Or l r a b p q = (a, b, refl, p, q)
joined_told s fixed.Equal l r a b p q = ([], a, b, refl, p, q)
joined_told s fixed.Is l r a b p q = ([], a, b, refl, p, q)
joined_told s fixed.Less l r a b p q = ([], a, b, refl, p, q)
joined_told s fixed.Greater l r a b p q = ([], a, b, refl, p, q)
joined_told s fixed.AtMost l r a b p q = ([], a, b, refl, p, q)
joined_told s fixed.AtLeast l r a b p q = ([], a, b, refl, p, q)
joined_told s _ l r a b p q = (tt, (λ z. omega (arith, z), λ z. omega (arith, z), λ z. omega (arith, z.0, z.1)))

many_called : (c : ℕ) (Ts : List Ty) (a b d : Term) (us : List Term) → IsCallOn (atom (constant c Ts)) (a ∷ b ∷ d ∷ us)
many_called c [] a b d us = (tt, tt)
many_called c (T ∷ []) a b d us = (tt, tt)
many_called c (T ∷ U ∷ Ts) a b d us = (tt, tt)

two_no_one : (n : ℕ) → nat_eq (suc (suc n)) 1 ≡ false
two_no_one n = grind (arith, nat_tests)

two_no_none : (n : ℕ) → nat_eq (suc (suc n)) 0 ≡ false
two_no_none n = grind (arith, nat_tests)

-- by the arguments, which are read
by_arguments : (s : Contents) (k : Constant) (Ts : List Ty) (n : ℕ) → n ≡ length Ts → (ids : List CellId) (us : List Term) → ReadAll s (map (λ t. t.0) ids) us → IsTold s (kind_by k n ids) (apply (atom (constant (number k) Ts)) us)
by_arguments s k Ts n e ids us p = subst (λ m. IsTold s (kind_by k m ids) (apply (atom (constant (number k) Ts)) us)) (sym e) (go Ts ids p)
  where
    go : (Us : List Ty) (js : List CellId) {vs : List Term} → ReadAll s (map (λ t. t.0) js) vs → IsTold s (kind_by k (length Us) js) (apply (atom (constant (number k) Us)) vs)
    go Us [] none = alone_told s k Us
    go [] (f ∷ []) (more {t = a} r none) = one_called k a
    go (T ∷ []) (f ∷ []) (more {t = a} r none) = quantified_told s k T f a r
    go (T ∷ U ∷ Us) (f ∷ []) (more {t = a} r none) = subst (λ t. IsTold s (if t then quantified_by k f else None) (app (atom (constant (number k) (T ∷ U ∷ Us))) a)) (sym (two_no_one (length Us))) (tt, tt)
    go [] (l ∷ m ∷ []) (more {t = a} r (more {t = b} q none)) = joined_told s k l m a b r q
    go (T ∷ []) (l ∷ m ∷ []) (more {t = a} r (more {t = b} q none)) = related_told s k T [] l m a b refl r q
    go (T ∷ U ∷ Us) (l ∷ m ∷ []) (more {t = a} r (more {t = b} q none)) =
        subst (λ t. IsTold s (if t then joined_by k l m else related_by k l m) (app (app (atom (constant (number k) (T ∷ U ∷ Us))) a) b)) (sym (two_no_none (length Us))) (related_told s k T (U ∷ Us) l m a b refl r q)
    go Us (l ∷ m ∷ x ∷ js) (more {t = a} r (more {t = b} q (more {t = d} {ts = vs} o w))) = called (number k) Us (a ∷ b ∷ d ∷ vs) (many_called (number k) Us a b d vs)

pub told : (s : Contents) (c : ℕ) (Ts : List Ty) (n : ℕ) → n ≡ length Ts → (ids : List CellId) (us : List Term) → ReadAll s (map (λ t. t.0) ids) us → IsTold s (kind_numbered (numbered c) n ids) (apply (atom (constant c Ts)) us)
told s c Ts n e ids us p = by_number (numbered c) refl
  where
    by_number : (o : Option Constant) → numbered c ≡ o → IsTold s (kind_numbered o n ids) (apply (atom (constant c Ts)) us)
    by_number None q = called c Ts us (subst IsNoConnective (sym (told_other (atom (constant c Ts)) c Ts us refl q)) tt, no_relation c q Ts us)
    by_number (Some k) q = subst (λ m. IsTold s (kind_by k n ids) (apply (atom (constant m Ts)) us)) (sym (number_back c k q)) (by_arguments s k Ts n e ids us p)

-- a head that is neither a constant nor an eigenconstant
unnamed_apply : (h : Term) (us : List Term) → IsUnnamed (head_of h) → IsUnnamed (head_of (apply h us))
unnamed_apply h us k = subst IsUnnamed (sym (head_apply h us)) k

pub unnamed : (s : Contents) (i : ℕ) (c d : Cell) → c ≡ d → cell_at s i ≡ d → IsTop d → ((n : ℕ) (l : Span) → c ≡ Const n l → ⊥) → ((k : ℕ) → c ≡ Eigen k → ⊥) → (h : Term) (us : List Term) → Reads s i h → IsUnnamed (head_of (apply h us))
unnamed s i c d e g t n m h us p = unnamed_apply h us (top d e g t)
  where
    top : (x : Cell) → c ≡ x → cell_at s i ≡ x → IsTop x → IsUnnamed (head_of h)
    top (Ref to) q o v = absurd v
    top (Susp b ol nl env) q o v = absurd v
    top (App f l) q o v = absurd v
    top (Const k l) q o v = absurd (n k l q)
    top (Eigen k) q o v = absurd (m k q)
    top TypeVar q o v = absurd (parts_read s i TypeVar o p).5
    top (TypeCon x l) q o v = absurd (parts_read s i (TypeCon x l) o p).5
    top (TypeArrow x l) q o v = absurd (parts_read s i (TypeArrow x l) o p).5
    top (Int z) q o v = subst (λ y. IsUnnamed (head_of y)) (sym (parts_read s i (Int z) o p).4) tt
    top (Text l) q o v = subst (λ y. IsUnnamed (head_of y)) (sym (parts_read s i (Text l) o p).4) tt
    top (Logic l) q o v = subst (λ y. IsUnnamed (head_of y)) (sym (parts_read s i (Logic l) o p).4) tt
    top (Index k) q o v = subst (λ y. IsUnnamed (head_of y)) (sym (parts_read s i (Index k) o p).4) tt
    top (Abs b) q o v = subst (λ y. IsUnnamed (head_of y)) (sym (parts_read s i (Abs b) o p).4) tt

-- a head that is a constant, and one that is an eigenconstant
pub constant_read : (s : Contents) (i : ℕ) (n : ℕ) (l : Span) (h : Term) → Const n l ≡ cell_at s i → Reads s i h → (Ts : List Ty) × ReadTypes s (map (λ t. t.0) (span s.items l.from l.count)) Ts × (h ≡ atom (constant n Ts))
constant_read s i n l h e p = let k = parts_read s i (Const n l) (sym e) p in (k.0, k.2, k.4)

pub eigen_read : (s : Contents) (i : ℕ) (k : ℕ) (h : Term) → Eigen k ≡ cell_at s i → Reads s i h → h ≡ atom (eigen k)
eigen_read s i k h e p = (parts_read s i (Eigen k) (sym e) p).4

-- what is told of none is a call
pub not_told : (s : Contents) (o : Option GoalKind) (t : Term) → ((k : GoalKind) → o ≡ Some k → ⊥) → IsTold s o t → IsCall t
not_told s None t h k = k
not_told s (Some x) t h k = absurd (h x refl)

-- as many types as cells
types_length : {s : Contents} {is : List ℕ} {Ts : List Ty} → ReadTypes s is Ts → length is ≡ length Ts
types_length no_types = refl
types_length (more_types r p) = ap suc (types_length p)

pub types_count : (s : Contents) (l : Span) (ids : List CellId) (Ts : List Ty) → ids ≡ span s.items l.from l.count → ReadTypes s (numbers s l) Ts → length ids ≡ length Ts
types_count s l ids Ts e p = ap length e ∙ sym (length-map (span s.items l.from l.count) (λ t. t.0)) ∙ types_length p

-- what is told of stands in the store

constant_stands : (s : Contents) (k : Constant) (n : ℕ) (ids : List CellId) → All (IsCell s) ids → IfSome (kind_by k n ids) (StandsKind s)
constant_stands s k n [] p = alone k
  where
    alone : (k : Constant) → IfSome (alone_by k) (StandsKind s)
    alone fixed.True = tt
    alone _ = tt
constant_stands s k n (f ∷ []) p = one (nat_eq n 1)
  where
    within : IsCell s f
    within = p 0 f (omega arith)

    quantified : (k : Constant) → IfSome (quantified_by k f) (StandsKind s)
    quantified fixed.ForAll = within
    quantified fixed.Exists = within
    quantified _ = tt

    one : (t : Bool) → IfSome (if t then quantified_by k f else None) (StandsKind s)
    one true = quantified k
    one false = tt
constant_stands s k n (l ∷ r ∷ []) p = both (nat_eq n 0)
  where
    within : IsCell s l × IsCell s r
    within = (p 0 l (omega arith), p 1 r (omega arith))

    related : (k : Constant) → IfSome (related_by k l r) (StandsKind s)
    related fixed.Equal = within
    related fixed.Is = within
    related fixed.Less = within
    related fixed.Greater = within
    related fixed.AtMost = within
    related fixed.AtLeast = within
    related _ = tt

    joined : (k : Constant) → IfSome (joined_by k l r) (StandsKind s)
    joined fixed.And = within
    joined fixed.Or = within
    joined fixed.Equal = within
    joined fixed.Is = within
    joined fixed.Less = within
    joined fixed.Greater = within
    joined fixed.AtMost = within
    joined fixed.AtLeast = within
    joined _ = tt

    both : (t : Bool) → IfSome (if t then joined_by k l r else related_by k l r) (StandsKind s)
    both true = joined k
    both false = related k
constant_stands s k n (l ∷ r ∷ x ∷ ids) p = tt

pub kind_stands : (s : Contents) (o : Option Constant) (n : ℕ) (ids : List CellId) → All (IsCell s) ids → IfSome (kind_numbered o n ids) (StandsKind s)
kind_stands s None n ids p = tt
kind_stands s (Some k) n ids p = constant_stands s k n ids p

-- what is put into a store of what was read before

read_types_on : {s z : Contents} → ((i : ℕ) (T : Ty) → ReadsType s i T → ReadsType z i T) → {is : List ℕ} {Ts : List Ty} → ReadTypes s is Ts → ReadTypes z is Ts
read_types_on f no_types = no_types
read_types_on f (more_types {i} {T} r p) = more_types (f i T r) (read_types_on f p)

-- a call whose head is a constant
pub constant_call : (s z : Contents) (n : ℕ) (types list : Span) (cells : List ℕ) → Extends s z → IsList s types → numbers z list ≡ cells → (Ts : List Ty) (us : List Term) → ReadTypes s (numbers s types) Ts → ReadAll s cells us →
    IsCall (apply (atom (constant n Ts)) us) → IsKind z (goal.Call (head.Const n) types list) (apply (atom (constant n Ts)) us)
constant_call s z n types list cells k w e Ts us p q r =
    (Ts, us, refl, subst (λ l. ReadTypes z l Ts) (sym (ap (map (λ t. t.0)) (k.items types.from types.count w))) (read_types_on k.types p), subst (λ l. ReadAll z l us) (sym e) (read_all_kept k q), r)

cells_kept : (s z : Contents) (o : Option Span) → Extends s z → IsListThere s o → argument_cells z o ≡ argument_cells s o
cells_kept s z None k w = refl
cells_kept s z (Some l) k w = ap (map (λ t. t.0)) (k.items l.from l.count w)

-- a call whose head is an eigenconstant, which has no types
pub eigen_call : (s y z : Contents) (level : ℕ) (types list : Span) (o : Option Span) → Extends s y → Extends y z → types.count ≡ 0 → IsListThere s o → numbers z list ≡ argument_cells y o → (us : List Term) → ReadAll s (argument_cells s o) us →
    IsKind z (goal.Call (head.Eigen level) types list) (apply (atom (eigen level)) us)
eigen_call s y z level types list o k m n w e us p =
    let none_there : numbers z types ≡ [] = ap (λ c. map (λ t. t.0) (span z.items types.from c)) n in
    ([], us, refl, subst (λ l. ReadTypes z l []) (sym none_there) no_types, subst (λ l. ReadAll z l us) (sym (e ∙ cells_kept s y o k w)) (read_all_kept m (read_all_kept k p)), eigen_called level us)
