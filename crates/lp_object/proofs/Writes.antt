-- What is written, one text behind the other, and what is left to be written of a type.
use Rattle.std.proofs.Common.{◌≡◌, ℕ, suc, ◌+◌, ◌<◌, ◌≤◌, List, [], ◌∷◌, ◌++◌, length, map, take, reverse, Option, Some, None, Result, Ok, Err, sym, ap, ◌∙◌, append_assoc, arith}
use Rattle.std.specs.Prelude.{OnOk, slice_get}
use Rattle.std.specs.List.{flat_map}
use Rattle.std.proofs.lemmas.List.{append-nil, length-append, map-append, take_all}
use Rattle.std.proofs.lemmas.Grind.{flat_map-append}
use Rattle.lp_lemmas.proofs.Lists.{take_suc}
use Rattle.lp_calculus.specs.Types.{Ty, tys}
use Rattle.lp_term.specs.declared.node.TypeId.{TypeId}
use Rattle.lp_term.specs.Nodes.{Nodes, type_tree}
use Rattle.lp_bytes.specs.Writing.{more}
use Rattle.lp_bytes.proofs.Lengthened.{more_more, more_then, too_much}
use Rattle.lp_object.specs.declared.width.Width.{Width}
use Rattle.lp_object.specs.Numbers.{spelled_number}
use Rattle.lp_object.specs.Spelling.{spelled_type, spelled_types}
use Rattle.lp_object.specs.inner.Waiting.{spelled_at, waiting}
use Rattle.lp_object.proofs.Waiting.{types_at, waiting_last, waiting_reversed}

-- a text is written, and others wait
with_rest : (a c : Option (List ℕ)) (text rest : List ℕ) → c ≡ more a text → more c rest ≡ more a (text ++ rest)
with_rest a c text rest e = ap (λ s. more s rest) e ∙ more_more a text rest

pub with_rest_last : {T E : Type 0} (r : Result T E) (a c : Option (List ℕ)) (text rest : List ℕ) → OnOk r (c ≡ more a text) → OnOk r (more c rest ≡ more a (text ++ rest))
with_rest_last (Ok x) a c text rest e = with_rest a c text rest e
with_rest_last (Err x) a c text rest e = tt

-- the same where the rest is written in part
pub rest_so : (a c : Option (List ℕ)) (text waits all : List ℕ) → c ≡ more a text → text ++ waits ≡ all → more c waits ≡ more a all
rest_so a c text waits all e f = with_rest a c text waits e ∙ ap (more a) f

pub on_ok_so : {T E : Type 0} (r : Result T E) (P Q : Type 0) → (P → Q) → OnOk r P → OnOk r Q
on_ok_so (Ok x) P Q f h = f h
on_ok_so (Err x) P Q f h = tt

-- the writer is full, the stack is empty, or more was to be written than a file holds
pub full_is : (s a : Option (List ℕ)) (waits all : List ℕ) → s ≡ None → more s waits ≡ more a all → s ≡ more a all
unfolding more
full_is s a waits all e so_far = e ∙ sym (ap (λ r. more r waits) e) ∙ so_far

pub none_waits : (s a : Option (List ℕ)) (waits all : List ℕ) → more s [] ≡ s → waits ≡ [] → more s waits ≡ more a all → s ≡ more a all
none_waits s a waits all room e so_far = sym room ∙ sym (ap (more s) e) ∙ so_far

pub all_too_much : (s a : Option (List ℕ)) (all : List ℕ) → s ≡ None → 16777216 < length all → s ≡ more a all
all_too_much s a all e lt = e ∙ sym (too_much a all lt)

-- what is written, told otherwise
pub written_so : {A : Type 0} (f : A → List ℕ) (a c : Option (List ℕ)) (x y : A) → x ≡ y → c ≡ more a (f x) → c ≡ more a (f y)
written_so f a c x y e h = h ∙ ap (λ z. more a (f z)) e

pub written_last : {T E A : Type 0} (r : Result T E) (f : A → List ℕ) (a c : Option (List ℕ)) (x y : A) → x ≡ y → OnOk r (c ≡ more a (f x)) → OnOk r (c ≡ more a (f y))
written_last (Ok z) f a c x y e h = written_so f a c x y e h
written_last (Err z) f a c x y e h = tt

pub counted_so : (f : ℕ → List ℕ) (a c : Option (List ℕ)) (m n : ℕ) → m ≡ n → c ≡ more a (f m) → c ≡ more a (f n)
counted_so f a c m n e h = h ∙ ap (λ k. more a (f k)) e

pub behind_so : (a b c : Option (List ℕ)) (t : List ℕ) → a ≡ b → c ≡ more a t → c ≡ more b t
behind_so a b c t e h = h ∙ ap (λ s. more s t) e

-- less waits after each part
less_waits : (front waits text rest : List ℕ) → front ++ waits ≡ text ++ rest → 0 < length front → length waits < length text + length rest
less_waits front waits text rest e lt =
    let total : length front + length waits ≡ length text + length rest = sym (length-append front waits) ∙ ap length e ∙ length-append text rest in
    omega (arith, total, lt)

pub less_than : (text rest : List ℕ) → 0 < length text → length rest < length text + length rest
less_than text rest lt = omega (arith, lt)

-- a loop over a stack: at first all waits, and each turn leaves less
pub all_waits : (s : Option (List ℕ)) (waits all : List ℕ) → waits ≡ all → (more s waits ≡ more s all) × (0 + length waits ≤ length all)
all_waits s waits all e = let l : length waits ≡ length all = ap length e in (ap (more s) e, omega (arith, l))

pub turn_done : (s now a : Option (List ℕ)) (waits text rest after all : List ℕ) (i : ℕ) → waits ≡ text ++ rest → more now after ≡ more s (text ++ rest) → length after < length text + length rest
    → (more s waits ≡ more a all) × (i + length waits ≤ length all) → (more now after ≡ more a all) × ((i + 1) + length after ≤ length all)
turn_done s now a waits text rest after all i e written less h =
    let l : length waits ≡ length text + length rest = ap length e ∙ length-append text rest in
    (written ∙ sym (ap (more s) e) ∙ h.0, omega (arith, l, less, h.1))

-- one more entry of a list is written, and all are
pub entry_of : {A : Type 0} (spell : A → List ℕ) (xs : List A) (i : ℕ) (x : A) (s a b : Option (List ℕ)) → slice_get xs i ≡ Some x → a ≡ more s (flat_map spell (take i xs)) → b ≡ more a (spell x) → b ≡ more s (flat_map spell (take (i + 1) xs))
entry_of spell xs i x s a b at e h =
    let k : i + 1 ≡ suc i = omega arith in
    let F = flat_map spell (take i xs) in
    let front : flat_map spell (take (i + 1) xs) ≡ F ++ spell x =
    ap (λ n. flat_map spell (take n xs)) k ∙ ap (flat_map spell) (take_suc xs i x at) ∙ flat_map-append spell (take i xs) (x ∷ []) ∙ ap (λ y. F ++ y) (append-nil (spell x)) in
    more_then s a b F (spell x) e h ∙ ap (more s) (sym front)

pub entries_of : {A : Type 0} (spell : A → List ℕ) (xs : List A) (i : ℕ) (s a : Option (List ℕ)) → length xs ≤ i → a ≡ more s (flat_map spell (take i xs)) → a ≡ more s (flat_map spell xs)
entries_of spell xs i s a le e = e ∙ ap (λ ys. more s (flat_map spell ys)) (take_all i xs le)

-- the same where the entries are seen by view
pub entry_written : {A B : Type 0} (f : A → B) (spell : B → List ℕ) (xs : List A) (i : ℕ) (x : A) (s a b : Option (List ℕ)) → slice_get xs i ≡ Some x → a ≡ more s (flat_map spell (map f (take i xs))) → b ≡ more a (spell (f x))
    → b ≡ more s (flat_map spell (map f (take (i + 1) xs)))
entry_written f spell xs i x s a b at e h =
    let k : i + 1 ≡ suc i = omega arith in
    let F = flat_map spell (map f (take i xs)) in
    let front : flat_map spell (map f (take (i + 1) xs)) ≡ F ++ spell (f x) =
    ap (λ n. flat_map spell (map f (take n xs))) k ∙ ap (λ ys. flat_map spell (map f ys)) (take_suc xs i x at) ∙ ap (flat_map spell) (map-append f (take i xs) (x ∷ []))
    ∙ flat_map-append spell (map f (take i xs)) (f x ∷ []) ∙ ap (λ y. F ++ y) (append-nil (spell (f x))) in
    more_then s a b F (spell (f x)) e h ∙ ap (more s) (sym front)

pub entries_written : {A B : Type 0} (f : A → B) (spell : B → List ℕ) (xs : List A) (i : ℕ) (s a : Option (List ℕ)) → length xs ≤ i → a ≡ more s (flat_map spell (map f (take i xs))) → a ≡ more s (flat_map spell (map f xs))
entries_written f spell xs i s a le e = e ∙ ap (λ ys. more s (flat_map spell (map f ys))) (take_all i xs le)

-- ---- types

pub type_alone : (w : Width) (b : Nodes) (stack : List TypeId) (t : TypeId) → stack ≡ [] ++ t ∷ [] → waiting w b stack ≡ spelled_type w (type_tree b t.0)
type_alone w b stack t e = waiting_last w b stack [] t e ∙ append-nil (spelled_type w (type_tree b t.0))

pub type_top : (w : Width) (b : Nodes) (old new : List TypeId) (t : TypeId) (T : Ty) → old ≡ new ++ t ∷ [] → T ≡ type_tree b t.0 → waiting w b old ≡ spelled_type w T ++ waiting w b new
type_top w b old new t T e same = waiting_last w b old new t e ∙ ap (λ U. spelled_type w U ++ waiting w b new) (sym same)

-- the arguments of a kind wait
pub kind_waits : (w : Width) (b : Nodes) (k : ℕ) (args old new : List TypeId) → new ≡ old ++ reverse args
    → (1 ∷ spelled_number w k) ++ waiting w b new ≡ (1 ∷ spelled_number w k ++ spelled_types w (tys (map (type_tree b) (map (λ t. t.0) args)))) ++ waiting w b old
kind_waits w b k args old new e =
    let N = 1 ∷ spelled_number w k in
    let F = flat_map (spelled_at w b) args in
    let W = waiting w b old in
    ap (λ x. N ++ x) (waiting_reversed w b old new args e) ∙ sym (append_assoc N F W) ∙ ap (λ x. (N ++ x) ++ W) (sym (types_at w b args))

pub kind_less : (w : Width) (b : Nodes) (k : ℕ) (args old new : List TypeId) → new ≡ old ++ reverse args
    → length (waiting w b new) < length (1 ∷ spelled_number w k ++ spelled_types w (tys (map (type_tree b) (map (λ t. t.0) args)))) + length (waiting w b old)
kind_less w b k args old new e =
    less_waits (1 ∷ spelled_number w k) (waiting w b new) (1 ∷ spelled_number w k ++ spelled_types w (tys (map (type_tree b) (map (λ t. t.0) args)))) (waiting w b old) (kind_waits w b k args old new e) (omega arith)

-- the two types of an arrow wait
pub arrow_waits : (w : Width) (b : Nodes) (from to : TypeId) (old mid new : List TypeId) → mid ≡ old ++ to ∷ [] → new ≡ mid ++ from ∷ []
    → (2 ∷ []) ++ waiting w b new ≡ (2 ∷ spelled_type w (type_tree b from.0) ++ spelled_type w (type_tree b to.0)) ++ waiting w b old
arrow_waits w b from to old mid new e f =
    let A = spelled_at w b from in
    let B = spelled_at w b to in
    let W = waiting w b old in
    ap (λ x. 2 ∷ x) (waiting_last w b new mid from f ∙ ap (λ x. A ++ x) (waiting_last w b mid old to e) ∙ sym (append_assoc A B W))

pub arrow_less : (w : Width) (b : Nodes) (from to : TypeId) (old mid new : List TypeId) → mid ≡ old ++ to ∷ [] → new ≡ mid ++ from ∷ []
    → length (waiting w b new) < length (2 ∷ spelled_type w (type_tree b from.0) ++ spelled_type w (type_tree b to.0)) + length (waiting w b old)
arrow_less w b from to old mid new e f =
    less_waits (2 ∷ []) (waiting w b new) (2 ∷ spelled_type w (type_tree b from.0) ++ spelled_type w (type_tree b to.0)) (waiting w b old) (arrow_waits w b from to old mid new e f) (omega arith)
