-- Objects of a module and of what it uses, as long as each is read.
use Rattle.std.specs.Global.{Global}
use Rattle.std.proofs.Common.{◌≡◌, ◌∙◌, ◌++◌, ◌∷◌, [], ◌<◌, ℕ, List, Option, Some, get_or, length, sym, subst, arith}
use Rattle.std.specs.Prelude.{Contains, Vec, Result, Ok, Err, IfErr, slice_get}
use Rattle.std.proofs.lemmas.List.Elements.{All-cons, All-nil}
use Rattle.std.proofs.lemmas.Option.{get_or_from_slice_get}
use Rattle.lp_base.specs.Held.{Held}
use Rattle.lp_code.specs.declared.object.Object.{Object}
use Rattle.lp_lines.specs.declared.refusal.Refusal.{Refusal}
use Rattle.lp_files.specs.Made.{IsHeldObject}
use Rattle.lp_files.specs.Ordered.{IsDue, Reads, reads_none, uses_of}
use Rattle.lp_files.specs.Unlinked.{IsUnlinked, IsUnread, of_object, unopened}
use Rattle.lp_files.specs.Unopened.{IsUnopenedObject}
use Rattle.lp_files.specs.inner.Objects.{AreThere, IsNew, IsNext, left_of}
use Rattle.lp_files.proofs.Ordering.{left_more, one_more, skipped}

-- an object that another one uses
pub used_unread : (told : Option Held) (os : List Object) (name other : List ℕ) (r : Result Object Refusal) → other ≡ name → IfErr r (IsUnopenedObject told other) → IfErr r (IsUnread told os name)
used_unread told os name other (Ok o) same h = tt
used_unread told os name other (Err e) same h = unopened (subst (λ n. IsUnopenedObject told n e) same h)

-- the object that uses it
pub user_is : (os : List Object) (user : ℕ) (name : List ℕ) (o : Object) → IsNew os user name → o ≡ get_or os user o → (slice_get os user ≡ Some o) × Contains (uses_of o) name
user_is os user name o ((p, there, used), fresh) is =
    let same : o ≡ p = is ∙ get_or_from_slice_get os user p o there in
    (subst (λ x. slice_get os user ≡ Some x) (sym same) there, subst (λ x. Contains (uses_of x) name) (sym same) used)

-- the root's is not opened
pub of_root : (told : Option Held) (root : List ℕ) (r : Refusal) → IsUnopenedObject told root r → IsUnlinked told root r
of_root told root r h = of_object [] root (All-nil (IsHeldObject told)) ([], reads_none, λ has. has) (omega arith) (unopened h)

-- the next one that is needed
pub due_next : (root : List ℕ) (os : List Object) (old new : List (ℕ × ℕ)) (user : ℕ) (name : Vec ℕ Global) → Reads [] (root ∷ []) os (left_of os old) → IsNext os old new (Some (user, name)) → IsDue root os name.items
due_next root os old new user name order (next, (used, fresh)) = (left_of os new, skipped order next, fresh)

-- and one more, which waits
pub order_more : (root : List ℕ) (os all : List Object) (old new opened : List (ℕ × ℕ)) (user number : ℕ) (name : Vec ℕ Global) (o : Object) → Reads [] (root ∷ []) os (left_of os old) → IsNext os old new (Some (user, name)) →
    all ≡ os ++ o ∷ [] → o.name.items ≡ name.items → opened ≡ new ++ (number, 0) ∷ [] → length os ≡ number → AreThere os new → Reads [] (root ∷ []) all (left_of all opened)
order_more root os all old new opened user number name o order (next, (used, fresh)) is named pushed count there =
    subst (λ l. Reads [] (root ∷ []) all l) (sym (left_more os all o new opened number is pushed count there))
    (subst (λ x. Reads [] (root ∷ []) x (uses_of o ++ left_of os new)) (sym is) (one_more o (skipped order next) fresh named))

pub order_first : (root : List ℕ) (os : List Object) (o : Object) (waiting : List (ℕ × ℕ)) → os ≡ o ∷ [] → o.name.items ≡ root → waiting ≡ (0, 0) ∷ [] → Reads [] (root ∷ []) os (left_of os waiting)
order_first root os o waiting is named begun =
    subst (λ l. Reads [] (root ∷ []) l (left_of l waiting)) (sym is) (subst (λ w. Reads [] (root ∷ []) (o ∷ []) (left_of (o ∷ []) w)) (sym begun) (one_more o reads_none (λ h. h) named))

pub there_first : (os : List Object) (o : Object) (waiting : List (ℕ × ℕ)) → os ≡ o ∷ [] → waiting ≡ (0, 0) ∷ [] → AreThere os waiting
there_first os o waiting is begun =
    subst (λ l. AreThere l waiting) (sym is) (subst (λ w. AreThere (o ∷ []) w) (sym begun) (All-cons (λ (w : ℕ × ℕ). w.0 < 1) (0, 0) [] (omega arith) (All-nil (λ (w : ℕ × ℕ). w.0 < 1))))
