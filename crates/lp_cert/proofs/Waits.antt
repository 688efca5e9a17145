-- What is left to be written of types and terms, as parts are taken off and put on.
use Rattle.std.proofs.Common.{◌≡◌, ◌≢◌, ℕ, zero, suc, ◌+◌, ◌<◌, ◌≤◌, List, [], ◌∷◌, ◌++◌, length, map, take, reverse, replicate, Option, Some, None, Result, Ok, Err, refl, sym, ap, ◌∙◌, append_assoc, arith}
use Rattle.std.specs.Prelude.{OnOk, slice_get}
use Rattle.std.specs.List.{flat_map}
use Rattle.std.proofs.lemmas.List.{append-nil, length-append, reverse-append, reverse-reverse, map-append, length-map, length-replicate, take_all}
use Rattle.std.proofs.lemmas.Grind.{flat_map-append}
use Rattle.lp_lemmas.proofs.Lists.{reverse_pushed, map_composed, take_suc}
use Rattle.lp_calculus.specs.Types.{Ty, Tys, tys}
use Rattle.lp_calculus.specs.Term.{Term, app, apply}
use Rattle.lp_term.specs.declared.node.TypeId.{TypeId}
use Rattle.lp_term.specs.declared.node.TermId.{TermId}
use Rattle.lp_term.specs.Nodes.{Nodes, tree, type_tree}
use Rattle.lp_term.specs.Node.{TermShape, index_node, const_node, int_node, text_node, eigen_node, logic_node, typed_param_node, abs_node, app_node, TermBelow}
use Rattle.lp_bytes.specs.Numbers.{spelled_four}
use Rattle.lp_bytes.specs.Writing.{more}
use Rattle.lp_bytes.proofs.Lengthened.{more_more, more_then, too_much}
use Rattle.lp_cert.specs.Same.{types_in, terms_in}
use Rattle.lp_cert.specs.Spelling.{spelled_type, spelled_types, spelled_term}
use Rattle.lp_cert.specs.inner.Parts.{types_stacked, terms_stacked}
use Rattle.lp_cert.specs.inner.Waiting.{types_waiting, terms_waiting, HasArguments}
use Rattle.lp_cert.proofs.TypesFound.{spelled_tys}

-- a text is written, and others wait
pub with_rest : (a c : Option (List ℕ)) (text rest : List ℕ) → c ≡ more a text → more c rest ≡ more a (text ++ rest)
with_rest a c text rest e = ap (λ s. more s rest) e ∙ more_more a text rest

pub with_rest_last : {T E : Type 0} (r : Result T E) (a c : Option (List ℕ)) (text rest : List ℕ) → OnOk r (c ≡ more a text) → OnOk r (more c rest ≡ more a (text ++ rest))
with_rest_last (Ok x) a c text rest e = with_rest a c text rest e
with_rest_last (Err x) a c text rest e = tt

pub two_then_rest : {T E : Type 0} (r : Result T E) (a b c : Option (List ℕ)) (t u rest : List ℕ) → b ≡ more a t → OnOk r (c ≡ more b u) → OnOk r (more c rest ≡ more a ((t ++ u) ++ rest))
two_then_rest (Ok x) a b c t u rest e f = with_rest a c (t ++ u) rest (more_then a b c t u e f)
two_then_rest (Err x) a b c t u rest e f = tt

pub three_then_rest : {T E : Type 0} (r : Result T E) (a b c d : Option (List ℕ)) (t u v rest : List ℕ) → b ≡ more a t → c ≡ more b u → OnOk r (d ≡ more c v) → OnOk r (more d rest ≡ more a ((t ++ (u ++ v)) ++ rest))
three_then_rest (Ok x) a b c d t u v rest e f g = with_rest a d (t ++ (u ++ v)) rest (more_then a b d t (u ++ v) e (more_then b c d u v f g))
three_then_rest (Err x) a b c d t u v rest e f g = tt

-- the same where the rest is written in part
pub rest_so : (a c : Option (List ℕ)) (text waits all : List ℕ) → c ≡ more a text → text ++ waits ≡ all → more c waits ≡ more a all
rest_so a c text waits all e f = with_rest a c text waits e ∙ ap (more a) f

pub on_ok_so : {T E : Type 0} (r : Result T E) (P Q : Type 0) → (P → Q) → OnOk r P → OnOk r Q
on_ok_so (Ok x) P Q f h = f h
on_ok_so (Err x) P Q f h = tt

-- the writer is full, the stack is empty, or more was to be written than a file holds
pub full_is : (s a : Option (List ℕ)) (waits all : List ℕ) → s ≡ None → more s waits ≡ more a all → s ≡ more a all
unfolding more
full_is s a waits all e so_far = e ∙ sym (ap (λ r. more r waits) e) ∙ so_far

pub none_waits : (s a : Option (List ℕ)) (waits all : List ℕ) → more s [] ≡ s → waits ≡ [] → more s waits ≡ more a all → s ≡ more a all
none_waits s a waits all room e so_far = sym room ∙ sym (ap (more s) e) ∙ so_far

pub all_too_much : (s a : Option (List ℕ)) (all : List ℕ) → s ≡ None → 16777216 < length all → s ≡ more a all
all_too_much s a all e lt = e ∙ sym (too_much a all lt)

pub two_then_as : {T E : Type 0} (r : Result T E) (a b c : Option (List ℕ)) (t u v rest : List ℕ) → u ≡ v → b ≡ more a t → OnOk r (c ≡ more b u) → OnOk r (more c rest ≡ more a ((t ++ v) ++ rest))
two_then_as (Ok x) a b c t u v rest same e f = with_rest a c (t ++ u) rest (more_then a b c t u e f) ∙ ap (λ w. more a ((t ++ w) ++ rest)) same
two_then_as (Err x) a b c t u v rest same e f = tt

-- what is written, told otherwise
pub written_so : {A : Type 0} (f : A → List ℕ) (a c : Option (List ℕ)) (x y : A) → x ≡ y → c ≡ more a (f x) → c ≡ more a (f y)
written_so f a c x y e h = h ∙ ap (λ z. more a (f z)) e

pub written_last : {T E A : Type 0} (r : Result T E) (f : A → List ℕ) (a c : Option (List ℕ)) (x y : A) → x ≡ y → OnOk r (c ≡ more a (f x)) → OnOk r (c ≡ more a (f y))
written_last (Ok z) f a c x y e h = written_so f a c x y e h
written_last (Err z) f a c x y e h = tt

-- a count, or what was written before it, told otherwise
pub counted_so : (a c : Option (List ℕ)) (f : ℕ → List ℕ) (m n : ℕ) → m ≡ n → c ≡ more a (f m) → c ≡ more a (f n)
counted_so a c f m n e h = h ∙ ap (λ k. more a (f k)) e

pub behind_so : (a b c : Option (List ℕ)) (t : List ℕ) → a ≡ b → c ≡ more a t → c ≡ more b t
behind_so a b c t e h = h ∙ ap (λ s. more s t) e

-- less waits after each part
pub less_waits : (front waits text rest : List ℕ) → front ++ waits ≡ text ++ rest → 0 < length front → length waits < length text + length rest
less_waits front waits text rest e lt =
    let total : length front + length waits ≡ length text + length rest = sym (length-append front waits) ∙ ap length e ∙ length-append text rest in
    omega (arith, total, lt)

pub less_than : (text rest : List ℕ) → 0 < length text → length rest < length text + length rest
less_than text rest lt = omega (arith, lt)

-- a loop over a stack: at first all waits, and each turn leaves less
pub all_waits : (s : Option (List ℕ)) (waits all : List ℕ) → waits ≡ all → (more s waits ≡ more s all) × (0 + length waits ≤ length all)
all_waits s waits all e = let l : length waits ≡ length all = ap length e in (ap (more s) e, omega (arith, l))

pub turn_done : (s now a : Option (List ℕ)) (waits text rest after all : List ℕ) (i : ℕ) → waits ≡ text ++ rest → more now after ≡ more s (text ++ rest) → length after < length text + length rest
    → (more s waits ≡ more a all) × (i + length waits ≤ length all) → (more now after ≡ more a all) × ((i + 1) + length after ≤ length all)
turn_done s now a waits text rest after all i e written less h =
    let l : length waits ≡ length text + length rest = ap length e ∙ length-append text rest in
    (written ∙ sym (ap (more s) e) ∙ h.0, omega (arith, l, less, h.1))

-- one more entry of a list is written
pub entry_written : {A B : Type 0} (f : A → B) (spell : B → List ℕ) (xs : List A) (i : ℕ) (x : A) (s a b : Option (List ℕ)) → slice_get xs i ≡ Some x → a ≡ more s (flat_map spell (map f (take i xs))) → b ≡ more a (spell (f x))
    → b ≡ more s (flat_map spell (map f (take (i + 1) xs)))
entry_written f spell xs i x s a b at e h =
    let k : i + 1 ≡ suc i = omega arith in
    let F = flat_map spell (map f (take i xs)) in
    let front : flat_map spell (map f (take (i + 1) xs)) ≡ F ++ spell (f x) =
    ap (λ n. flat_map spell (map f (take n xs))) k ∙ ap (λ ys. flat_map spell (map f ys)) (take_suc xs i x at) ∙ ap (flat_map spell) (map-append f (take i xs) (x ∷ []))
    ∙ flat_map-append spell (map f (take i xs)) (f x ∷ []) ∙ ap (λ y. F ++ y) (append-nil (spell (f x))) in
    more_then s a b F (spell (f x)) e h ∙ ap (more s) (sym front)

-- all entries are written
pub entries_written : {A B : Type 0} (f : A → B) (spell : B → List ℕ) (xs : List A) (i : ℕ) (s a : Option (List ℕ)) → length xs ≤ i → a ≡ more s (flat_map spell (map f (take i xs))) → a ≡ more s (flat_map spell (map f xs))
entries_written f spell xs i s a le e = e ∙ ap (λ ys. more s (flat_map spell (map f ys))) (take_all i xs le)

-- ---- types

pub type_last : (b : Nodes) (old new : List TypeId) (t : TypeId) → old ≡ new ++ t ∷ [] → types_waiting b old ≡ spelled_type (type_tree b t.0) ++ types_waiting b new
type_last b old new t e = ap (λ ts. flat_map spelled_type (types_in b ts)) (reverse_pushed old new t e)

types_reversed : (b : Nodes) (old new ts : List TypeId) → new ≡ old ++ reverse ts → types_waiting b new ≡ flat_map spelled_type (types_in b ts) ++ types_waiting b old
types_reversed b old new ts e =
    let turned : reverse new ≡ ts ++ reverse old = ap reverse e ∙ reverse-append old (reverse ts) ∙ ap (λ us. us ++ reverse old) (reverse-reverse ts) in
    ap (λ us. flat_map spelled_type (types_in b us)) turned ∙ ap (flat_map spelled_type) (map-append (λ t. type_tree b t.0) ts (reverse old)) ∙ flat_map-append spelled_type (types_in b ts) (types_stacked b old)

pub types_at : (b : Nodes) (ts : List TypeId) → map (type_tree b) (map (λ t. t.0) ts) ≡ types_in b ts
types_at b ts = map_composed (λ t. t.0) (type_tree b) (λ t. type_tree b t.0) (λ t. refl) ts

pub type_alone : (b : Nodes) (stack : List TypeId) (t : TypeId) → stack ≡ [] ++ t ∷ [] → types_waiting b stack ≡ spelled_type (type_tree b t.0)
type_alone b stack t e = type_last b stack [] t e ∙ append-nil (spelled_type (type_tree b t.0))

-- the top of the stack is this type
pub type_top : (b : Nodes) (old new : List TypeId) (t : TypeId) (T : Ty) → old ≡ new ++ t ∷ [] → T ≡ type_tree b t.0 → types_waiting b old ≡ spelled_type T ++ types_waiting b new
type_top b old new t T e same = type_last b old new t e ∙ ap (λ U. spelled_type U ++ types_waiting b new) (sym same)

-- the arguments of a kind wait
pub kind_waits : (b : Nodes) (k : ℕ) (args old new : List TypeId) → new ≡ old ++ reverse args
    → (1 ∷ spelled_four k) ++ types_waiting b new ≡ (1 ∷ spelled_four k ++ spelled_types (tys (map (type_tree b) (map (λ t. t.0) args)))) ++ types_waiting b old
kind_waits b k args old new e =
    let N = 1 ∷ spelled_four k in
    let F = flat_map spelled_type (types_in b args) in
    let W = types_waiting b old in
    ap (λ x. N ++ x) (types_reversed b old new args e) ∙ sym (append_assoc N F W) ∙ ap (λ x. (N ++ x) ++ W) (sym (ap (λ ts. spelled_types (tys ts)) (types_at b args) ∙ spelled_tys (types_in b args)))

pub kind_less : (b : Nodes) (k : ℕ) (args old new : List TypeId) → new ≡ old ++ reverse args
    → length (types_waiting b new) < length (1 ∷ spelled_four k ++ spelled_types (tys (map (type_tree b) (map (λ t. t.0) args)))) + length (types_waiting b old)
kind_less b k args old new e =
    less_waits (1 ∷ spelled_four k) (types_waiting b new) (1 ∷ spelled_four k ++ spelled_types (tys (map (type_tree b) (map (λ t. t.0) args)))) (types_waiting b old) (kind_waits b k args old new e) (omega arith)

-- the two types of an arrow wait
pub arrow_waits : (b : Nodes) (from to : TypeId) (old mid new : List TypeId) → mid ≡ old ++ to ∷ [] → new ≡ mid ++ from ∷ []
    → (2 ∷ []) ++ types_waiting b new ≡ (2 ∷ spelled_type (type_tree b from.0) ++ spelled_type (type_tree b to.0)) ++ types_waiting b old
arrow_waits b from to old mid new e f =
    let A = spelled_type (type_tree b from.0) in
    let B = spelled_type (type_tree b to.0) in
    let W = types_waiting b old in
    ap (λ x. 2 ∷ x) (type_last b new mid from f ∙ ap (λ x. A ++ x) (type_last b mid old to e) ∙ sym (append_assoc A B W))

-- ---- terms

pub term_last : (b : Nodes) (old new : List TermId) (t : TermId) → old ≡ new ++ t ∷ [] → terms_waiting b old ≡ spelled_term (tree b t.0) ++ terms_waiting b new
term_last b old new t e = ap (λ ts. flat_map spelled_term (terms_in b ts)) (reverse_pushed old new t e)

pub term_alone : (b : Nodes) (stack : List TermId) (t : TermId) → stack ≡ [] ++ t ∷ [] → terms_waiting b stack ≡ spelled_term (tree b t.0)
term_alone b stack t e = term_last b stack [] t e ∙ append-nil (spelled_term (tree b t.0))

-- the top of the stack is this term
pub term_top : (b : Nodes) (old new : List TermId) (t : TermId) (T : Term) → old ≡ new ++ t ∷ [] → T ≡ tree b t.0 → terms_waiting b old ≡ spelled_term T ++ terms_waiting b new
term_top b old new t T e same = term_last b old new t e ∙ ap (λ U. spelled_term U ++ terms_waiting b new) (sym same)

terms_reversed : (b : Nodes) (old new ts : List TermId) → new ≡ old ++ reverse ts → terms_waiting b new ≡ flat_map spelled_term (terms_in b ts) ++ terms_waiting b old
terms_reversed b old new ts e =
    let turned : reverse new ≡ ts ++ reverse old = ap reverse e ∙ reverse-append old (reverse ts) ∙ ap (λ us. us ++ reverse old) (reverse-reverse ts) in
    ap (λ us. flat_map spelled_term (terms_in b us)) turned ∙ ap (flat_map spelled_term) (map-append (λ t. tree b t.0) ts (reverse old)) ∙ flat_map-append spelled_term (terms_in b ts) (terms_stacked b old)

terms_at : (b : Nodes) (ts : List TermId) → map (tree b) (map (λ t. t.0) ts) ≡ terms_in b ts
terms_at b ts = map_composed (λ t. t.0) (tree b) (λ t. tree b t.0) (λ t. refl) ts

-- the body of an abstraction waits
pub abstraction_waits : (b : Nodes) (body : TermId) (old new : List TermId) → new ≡ old ++ body ∷ [] → (6 ∷ []) ++ terms_waiting b new ≡ (6 ∷ spelled_term (tree b body.0)) ++ terms_waiting b old
abstraction_waits b body old new e = ap (λ x. 6 ∷ x) (term_last b new old body e)

one_more : (n : ℕ) → replicate {A = ℕ} (suc n) 7 ≡ replicate {A = ℕ} n 7 ++ 7 ∷ []
one_more zero = refl
one_more (suc n) = ap (λ x. 7 ∷ x) (one_more n)

pub one_seven : (n : ℕ) → replicate {A = ℕ} (n + 1) 7 ≡ replicate {A = ℕ} n 7 ++ 7 ∷ []
one_seven n = let k : n + 1 ≡ suc n = omega arith in ap (λ m. replicate {A = ℕ} m 7) k ∙ one_more n

-- a head on arguments: a byte for each argument, the head, and the arguments
pub spelled_apply : (f : Term) (ts : List Term) → spelled_term (apply f ts) ≡ replicate (length ts) 7 ++ (spelled_term f ++ flat_map spelled_term ts)
spelled_apply f [] = sym (append-nil (spelled_term f))
spelled_apply f (t ∷ ts) =
    let S = replicate (length ts) 7 in
    let F = spelled_term f in
    let T = spelled_term t in
    let R = flat_map spelled_term ts in
    spelled_apply (app f t) ts ∙ ap (λ x. S ++ 7 ∷ x) (append_assoc F T R) ∙ sym (append_assoc S (7 ∷ []) (F ++ (T ++ R))) ∙ ap (λ x. x ++ (F ++ (T ++ R))) (sym (one_more (length ts)))

pub application_waits : (b : Nodes) (head : TermId) (args old mid new : List TermId) → mid ≡ old ++ reverse args → new ≡ mid ++ head ∷ []
    → replicate (length args) 7 ++ terms_waiting b new ≡ spelled_term (apply (tree b head.0) (map (tree b) (map (λ t. t.0) args))) ++ terms_waiting b old
application_waits b head args old mid new e f =
    let S = replicate (length args) 7 in
    let F = spelled_term (tree b head.0) in
    let R = flat_map spelled_term (terms_in b args) in
    let W = terms_waiting b old in
    let all : spelled_term (apply (tree b head.0) (map (tree b) (map (λ t. t.0) args))) ≡ S ++ (F ++ R) =
    ap (λ ts. spelled_term (apply (tree b head.0) ts)) (terms_at b args) ∙ spelled_apply (tree b head.0) (terms_in b args) ∙ ap (λ n. replicate n 7 ++ (F ++ R)) (length-map args (λ t. tree b t.0)) in
    ap (λ x. S ++ x) (term_last b new mid head f ∙ ap (λ x. F ++ x) (terms_reversed b old mid args e) ∙ sym (append_assoc F R W)) ∙ sym (append_assoc S (F ++ R) W) ∙ ap (λ x. x ++ W) (sym all)

pub has_arguments : (types terms : ℕ) (n : TermShape) → TermBelow types terms n → HasArguments n
has_arguments types terms (index_node i) h = tt
has_arguments types terms (const_node c ids) h = tt
has_arguments types terms (int_node z) h = tt
has_arguments types terms (text_node s) h = tt
has_arguments types terms (eigen_node k) h = tt
has_arguments types terms (logic_node v level) h = tt
has_arguments types terms (typed_param_node k t) h = tt
has_arguments types terms (abs_node b) h = tt
has_arguments types terms (app_node f ids) h = h.2

pub some_sevens : {A : Type 0} (args : List A) (f : A → ℕ) → map f args ≢ [] → 0 < length (replicate {A = ℕ} (length args) 7)
some_sevens [] f h = absurd (h refl)
some_sevens (a ∷ args) f h = omega (arith, length-replicate {A = ℕ} (length (a ∷ args)) 7)
