-- Loose indices that have the types of a list agree, and applications of what was built.
use Rattle.std.proofs.Common.{◌≡◌, ◌∙◌, ℕ, zero, suc, List, [], ◌∷◌, ◌++◌, Bool, true, false, Option, Some, None, ap, refl, sym, arith}
use Rattle.std.specs.Prelude.{nat_eq, ◌&&◌, if◌then◌else◌, replicate, slice_get}
use Rattle.std.proofs.lemmas.Bool.{eq-eqb}
use Rattle.std.proofs.lemmas.Option.{slice_get_past}
use Rattle.lp_calculus.specs.Types.{Ty, Tys, var, param as type_param, con, arrow, no_types, types}
use Rattle.lp_calculus.specs.Term.{Term, app, apply}
use Rattle.lp_code.specs.Symbolic.{Built, equal_types, equal_lists, applied_type, agree_at, agree, either_of, joined, all_joined, all_agree, innermost, outer}
use Rattle.lp_gen.specs.inner.TermLaw.{IsOf, AreOf, AllOf}

pub none_some : (T : Ty) → None ≡ Some T → ⊥
none_some T e = cc

pub some_same : (T U : Ty) → ◌≡◌ {A = Option Ty} (Some T) (Some U) → T ≡ U
some_same T U e = cc

pub both_true : (a b : Bool) → a ≡ true → b ≡ true → (a && b) ≡ true
both_true true b e f = f
both_true false b e f = e

mutual
  pub equal_self : (T : Ty) → equal_types T T ≡ true
  equal_self (var i) = eq-eqb i i refl
  equal_self (type_param i) = eq-eqb i i refl
  equal_self (con c ts) = both_true (nat_eq c c) (equal_lists ts ts) (eq-eqb c c refl) (lists_self ts)
  equal_self (arrow a b) = both_true (equal_types a a) (equal_types b b) (equal_self a) (equal_self b)

  lists_self : (ts : Tys) → equal_lists ts ts ≡ true
  lists_self no_types = refl
  lists_self (types t ts) = both_true (equal_types t t) (equal_lists ts ts) (equal_self t) (lists_self ts)

agree_at_of : (o p : Option Ty) (T : Ty) → IsOf o T → IsOf p T → agree_at o p ≡ true
agree_at_of None p T a b = refl
agree_at_of (Some U) None T a b = refl
agree_at_of (Some U) (Some V) T a b = ap (equal_types U) (b ∙ sym a) ∙ equal_self U

agree_of : (C : List Ty) (l m : List (Option Ty)) → AreOf C l → AreOf C m → agree l m ≡ true
agree_of C [] m a b = refl
agree_of C (o ∷ os) [] a b = refl
agree_of [] (o ∷ os) (p ∷ ps) a b = absurd a
agree_of (T ∷ C) (o ∷ os) (p ∷ ps) a b = both_true (agree_at o p) (agree os ps) (agree_at_of o p T a.0 b.0) (agree_of C os ps a.1 b.1)

either_is : (o p : Option Ty) (T : Ty) → IsOf o T → IsOf p T → IsOf (either_of o p) T
either_is None p T a b = b
either_is (Some U) p T a b = a

joined_of : (C : List Ty) (l m : List (Option Ty)) → AreOf C l → AreOf C m → AreOf C (joined l m)
joined_of C [] m a b = b
joined_of C (o ∷ os) [] a b = a
joined_of [] (o ∷ os) (p ∷ ps) a b = absurd a
joined_of (T ∷ C) (o ∷ os) (p ∷ ps) a b = (either_is o p T a.0 b.0, joined_of C os ps a.1 b.1)

pub all_agree_of : (C : List Ty) (l : List (Option Ty)) (bs : List Built) → AreOf C l → AllOf C bs → all_agree l bs ≡ true
all_agree_of C l [] a m = refl
all_agree_of C l (b ∷ bs) a m = both_true (agree l b.loose) (all_agree (joined l b.loose) bs) (agree_of C l b.loose a m.0) (all_agree_of C (joined l b.loose) bs (joined_of C l b.loose a m.0) m.1)

pub all_joined_of : (C : List Ty) (l : List (Option Ty)) (bs : List Built) → AreOf C l → AllOf C bs → AreOf C (all_joined l bs)
all_joined_of C l [] a m = a
all_joined_of C l (b ∷ bs) a m = all_joined_of C (joined l b.loose) bs (joined_of C l b.loose a m.0) m.1

pub all_of_push : (C : List Ty) (bs : List Built) (b : Built) → AllOf C bs → AreOf C b.loose → AllOf C (bs ++ b ∷ [])
all_of_push C [] b m a = (a, tt)
all_of_push C (c ∷ bs) b m a = (m.0, all_of_push C bs b m.1 a)

-- an index that is bound
pub bound_of : (C : List Ty) (i : ℕ) (T : Ty) → slice_get C i ≡ Some T → AreOf C (replicate i None ++ Some T ∷ [])
bound_of [] i T e = absurd (none_some T (sym (slice_get_past [] i (omega arith)) ∙ e))
bound_of (U ∷ C) zero T e = (sym (some_same U T e), tt)
bound_of (U ∷ C) (suc i) T e = (tt, bound_of C i T e)

pub outer_of : (T : Ty) (C : List Ty) (l : List (Option Ty)) → AreOf (T ∷ C) l → AreOf C (outer l)
outer_of T C [] a = tt
outer_of T C (o ∷ os) a = a.1

pub innermost_of : (T : Ty) (C : List Ty) (l : List (Option Ty)) → AreOf (T ∷ C) l → agree_at (innermost l) (Some T) ≡ true
innermost_of T C [] a = refl
innermost_of T C (None ∷ os) a = refl
innermost_of T C (Some U ∷ os) a = ap (λ V. equal_types V T) a.0 ∙ equal_self T

-- one argument more

pub apply_push : (f : Term) (ts : List Term) (u : Term) → apply f (ts ++ u ∷ []) ≡ app (apply f ts) u
apply_push f [] u = refl
apply_push f (t ∷ ts) u = apply_push (app f t) ts u

if_some : (t : Bool) (x y : Option Ty) (A B : Ty) → (x ≡ Some A → y ≡ Some B) → (if t then x else None) ≡ Some A → (if t then y else None) ≡ Some B
if_some true x y A B f e = f e
if_some false x y A B f e = absurd (none_some A e)

one_applied : (T A B : Ty) → T ≡ arrow A B → applied_type T (A ∷ []) ≡ Some B
one_applied T A B e = ap (λ T. applied_type T (A ∷ [])) e ∙ ap (λ t. if t then Some B else None) (equal_self A)

pub applied_more : (T : Ty) (Us : List Ty) (A B : Ty) → applied_type T Us ≡ Some (arrow A B) → applied_type T (Us ++ A ∷ []) ≡ Some B
applied_more T [] A B e = one_applied T A B (some_same T (arrow A B) e)
applied_more (var i) (U ∷ Us) A B e = absurd (none_some (arrow A B) e)
applied_more (type_param k) (U ∷ Us) A B e = absurd (none_some (arrow A B) e)
applied_more (con k ts) (U ∷ Us) A B e = absurd (none_some (arrow A B) e)
applied_more (arrow a b) (U ∷ Us) A B e = if_some (equal_types a U) (applied_type b Us) (applied_type b (Us ++ A ∷ [])) (arrow A B) B (applied_more b Us A B) e
