-- What the head of a record takes: its types and arguments, one after the other.
use Rattle.std.proofs.Common.{◌≡◌, ◌≢◌, ◌∙◌, ℕ, ℤ, suc, ◌+◌, ◌*◌, ◌<◌, ◌≤◌, List, [], ◌∷◌, ◌++◌, length, take, map, Bor, Some, None, ap, refl, sym, subst, arith}
use Rattle.std.specs.Prelude.{get_or}
use Rattle.std.proofs.lemmas.List.{map-append, take_more, length-take-le}
use Rattle.lp_calculus.specs.Types.{Ty}
use Rattle.lp_calculus.specs.Term.{Term, index, atom, abs, app, apply, constant, integer, text, eigen, logic, param}
use Rattle.lp_calculus.specs.Spine.{head_of, arguments}
use Rattle.lp_term.specs.Spine.{IsNoApplication}
use Rattle.lp_term.specs.Node.{TermBelow}
use Rattle.lp_term.specs.Nodes.{Nodes, tree, type_tree, node_tree}
use Rattle.lp_term.specs.Shapes.{term_shape}
use Rattle.lp_term.specs.declared.node.TypeId.{TypeId}
use Rattle.lp_term.specs.declared.node.TermNode.{TermNode}
use Rattle.lp_term.specs.declared.node.TermNode.TheVariants as node
use Rattle.lp_gen.specs.declared.emitter.Emitter.{Emitter}
use Rattle.lp_gen.specs.declared.fault.RecordRefusal.{RecordRefusal}
use Rattle.lp_gen.specs.declared.fault.RecordRefusal.TheVariants as refusal
use Rattle.lp_gen.specs.Steps.{first_place, Around, set_level, head_type, from_of, to_of}
use Rattle.lp_gen.specs.Registers.{past, Amount, nothing, both, plain_code, type_takes, all_take, behind_term, built_takes, term_got, term_left, argument_by, argument_takes, left_by_first, behind_argument, head_arguments_take, behind_arguments, head_types_take, predicate_types_take, head_takes, behind_head}
use Rattle.lp_gen.specs.inner.Fitting.{IsRefused}
use Rattle.lp_gen.specs.inner.Using.{Uses, for_misfits, Lacks, room, memory}
use Rattle.lp_gen.specs.inner.Written.{left_by}
use Rattle.lp_gen.proofs.AtomWritten.{head_itself, head_apply, arguments_is}
use Rattle.lp_gen.proofs.Courses.{mapped_types}
use Rattle.lp_gen.proofs.LimitsLeft.{past_over, past_within}
use Rattle.lp_gen.proofs.TypeWorks.{map_length}
use Rattle.lp_gen.proofs.TermsUsed.{both_nothing, nothing_both, both_joined, both_first}
use Rattle.lp_gen.proofs.Using.{part_from, same_amount, uses_both, uses_same, lacks_behind}

-- a number that has room, or has not

pub has_place : (e : Emitter) (i : ℕ) → i ≤ 255 → Uses e e (plain_code 0 (past 255 i))
has_place e i l = record { types_are = omega arith; terms_are = omega arith; bytes_are = omega arith; fits = past_within 255 i l }

pub has_no_place : (o : Emitter) (i : ℕ) (e : RecordRefusal) → IsRefused (255 < i) e → Lacks o (plain_code 0 (past 255 i)) e
has_no_place o i refusal.Registers l = let q = past_over 255 i l in room refl (for_misfits (omega (arith, q)))
has_no_place o i refusal.Memory l = memory refl

-- an argument

pub first_takes : (K : ℕ → List Ty → Ty) (a : Around) (F : Ty) (t : Term) (p : ℕ × ℕ) → first_place a t ≡ Some p → argument_takes K a F t ≡ plain_code 4 0
first_takes K a F t p e = ap (argument_by K a F t) e

pub first_left : (K : ℕ → List Ty → Ty) (a : Around) (F : Ty) (t : Term) (p : ℕ × ℕ) → first_place a t ≡ Some p → behind_argument K a F t ≡ set_level a p.0
first_left K a F t p e = ap (left_by_first K a F t) e

pub constant_got_takes : (K : ℕ → List Ty → Ty) (b : Nodes) (a : Around) (F : Ty) (c : ℕ) (ids : List TypeId) (t : Term) → atom (constant c (map (type_tree b) (map (λ i. i.0) ids))) ≡ t →
    (argument_takes K a F t ≡ both (all_take (map (λ i. type_tree b i.0) ids)) (plain_code (5 + 2 * length (map (λ i. type_tree b i.0) ids)) (past 255 (length (map (λ i. type_tree b i.0) ids)))))
    × (behind_argument K a F t ≡ a)
constant_got_takes K b a F c ids t e =
    let Ts = map (λ i. type_tree b i.0) ids in
    let same : atom (constant c Ts) ≡ t = ap (λ l. atom (constant c l)) (sym (mapped_types b ids)) ∙ e in
    (ap (argument_takes K a F) (sym same), ap (behind_argument K a F) (sym same))

-- what is neither a constant, an integer nor a string is built
abbrev IsOther : Term → Type 0
IsOther t = ((c : ℕ) (Ts : List Ty) → t ≡ atom (constant c Ts) → ⊥) × ((z : ℤ) → t ≡ atom (integer z) → ⊥) × ((s : List ℕ) → t ≡ atom (text s) → ⊥)

other_got : (K : ℕ → List Ty → Ty) (a : Around) (F : Ty) (t : Term) → IsOther t → (term_got K a F t ≡ built_takes K a F t) × (term_left K a F t ≡ behind_term K a F t)
other_got K a F (index i) x = (refl, refl)
other_got K a F (atom (constant c Ts)) x = absurd (x.0 c Ts refl)
other_got K a F (atom (integer z)) x = absurd (x.1 z refl)
other_got K a F (atom (text s)) x = absurd (x.2 s refl)
other_got K a F (atom (eigen k)) x = (refl, refl)
other_got K a F (atom (logic y l)) x = (refl, refl)
other_got K a F (atom (param k T)) x = (refl, refl)
other_got K a F (abs b) x = (refl, refl)
other_got K a F (app t u) x = (refl, refl)

pub built_takes_here : (K : ℕ → List Ty → Ty) (a : Around) (F : Ty) (t : Term) → IsOther t → first_place a t ≡ None →
    (argument_takes K a F t ≡ built_takes K a F t) × (behind_argument K a F t ≡ behind_term K a F t)
built_takes_here K a F t x e =
    let w = other_got K a F t x in
    (ap (argument_by K a F t) e ∙ w.0, ap (left_by_first K a F t) e ∙ w.1)

app_other : (t u : Term) (ts : List Term) → IsOther (apply (app t u) ts)
app_other t u [] = (λ c Ts e. cc, λ z e. cc, λ s e. cc)
app_other t u (v ∷ vs) = app_other (app t u) v vs

list_other : (b : Nodes) (f : ℕ) (is : List ℕ) → is ≢ [] → IsOther (apply (tree b f) (map (tree b) is))
list_other b f [] some = absurd (some refl)
list_other b f (i ∷ is) some = app_other (tree b f) (tree b i) (map (tree b) is)

node_other : (b : Nodes) (m k : ℕ) (n : TermNode) → ((c : ℕ) (ids : Bor (List TypeId)) → n ≡ node.Const c ids → ⊥) → ((z : ℤ) → n ≡ node.Int z → ⊥) → ((s : Bor (List ℕ)) → n ≡ node.Text s → ⊥) →
    TermBelow m k (term_shape n) → IsOther (node_tree b (term_shape n))
node_other b m k (node.Index i) x y z low = (λ c Ts e. cc, λ z e. cc, λ s e. cc)
node_other b m k (node.Const d ids) x y z low = absurd (x d ids refl)
node_other b m k (node.Int v) x y z low = absurd (y v refl)
node_other b m k (node.Text s) x y z low = absurd (z s refl)
node_other b m k (node.Eigen j) x y z low = (λ c Ts e. cc, λ z e. cc, λ s e. cc)
node_other b m k (node.Logic i l) x y z low = (λ c Ts e. cc, λ z e. cc, λ s e. cc)
node_other b m k (node.Param j t) x y z low = (λ c Ts e. cc, λ z e. cc, λ s e. cc)
node_other b m k (node.Abs body) x y z low = (λ c Ts e. cc, λ z e. cc, λ s e. cc)
node_other b m k (node.App f ids) x y z low = list_other b f.0 (map (λ t. t.0) ids.now) low.2

pub other_by_node : (b : Nodes) (m k : ℕ) (n : TermNode) (t : Term) → ((c : ℕ) (ids : Bor (List TypeId)) → n ≡ node.Const c ids → ⊥) → ((z : ℤ) → n ≡ node.Int z → ⊥) →
    ((s : Bor (List ℕ)) → n ≡ node.Text s → ⊥) → TermBelow m k (term_shape n) → node_tree b (term_shape n) ≡ t → IsOther t
other_by_node b m k n t x y z low e = subst IsOther e (node_other b m k n x y z low)

-- arguments one after the other

module _ (K : ℕ → List Ty → Ty) where
  abbrev pub next_argument : Around → Ty → List Term → (number : ℕ) → Term → Amount
  next_argument a F ts i u = both (plain_code 0 (past 255 i)) (argument_takes K (behind_arguments K a F ts) (from_of (left_by F (length ts))) u)

  pub arguments_split : (a : Around) (i n : ℕ) (F : Ty) (ts : List Term) (u : Term) (us : List Term) → i + length ts ≡ n →
      head_arguments_take K a i F (ts ++ u ∷ us) ≡ both (head_arguments_take K a i F ts) (both (next_argument a F ts n u)
      (head_arguments_take K (behind_argument K (behind_arguments K a F ts) (from_of (left_by F (length ts))) u) (suc n) (to_of (left_by F (length ts))) us))
  arguments_split a i n F [] u us e =
      let same : i ≡ n = omega (arith, e) in
      (λ j. head_arguments_take K a (same j) F (u ∷ us)) ∙ sym (nothing_both (head_arguments_take K a n F (u ∷ us)))
  arguments_split a i n F (t ∷ ts) u us e =
      ap (both (both (plain_code 0 (past 255 i)) (argument_takes K a (from_of F) t))) (arguments_split (behind_argument K a (from_of F) t) (suc i) n (to_of F) ts u us (omega (arith, e)))
      ∙ sym (both_joined _ _ _)

  pub arguments_pushed : (a : Around) (F : Ty) (ts : List Term) (u : Term) →
      behind_arguments K a F (ts ++ u ∷ []) ≡ behind_argument K (behind_arguments K a F ts) (from_of (left_by F (length ts))) u
  arguments_pushed a F [] u = refl
  arguments_pushed a F (t ∷ ts) u = arguments_pushed (behind_argument K a (from_of F) t) (to_of F) ts u

  module _ {A : Type 0} (f : A → Term) (a : Around) (F : Ty) (xs : List A) (x : A) (i : ℕ) (low : i < length xs) (at : x ≡ get_or xs i x) where
    many : length (map f (take i xs)) ≡ i
    many = map_length f (take i xs) ∙ length-take-le i xs (omega (arith, low))

    next : map f (take (i + 1) xs) ≡ map f (take i xs) ++ f x ∷ []
    next = ap (map f) (take_more xs i x low ∙ ap (λ y. take i xs ++ y ∷ []) (sym at)) ∙ map-append f (take i xs) (x ∷ [])

    pub arguments_use : (o m n : Emitter) → Uses o m (head_arguments_take K a 0 F (map f (take i xs))) → Uses m n (next_argument a F (map f (take i xs)) i (f x)) →
        Uses o n (head_arguments_take K a 0 F (map f (take (i + 1) xs)))
    arguments_use o m n u v =
        uses_same (sym (ap (head_arguments_take K a 0 F) next ∙ arguments_split a 0 i F (map f (take i xs)) (f x) [] (omega (arith, many))
        ∙ ap (both (head_arguments_take K a 0 F (map f (take i xs)))) (both_nothing (next_argument a F (map f (take i xs)) i (f x))))) (uses_both u v)

    pub arguments_left : behind_arguments K a F (map f (take (i + 1) xs)) ≡ behind_argument K (behind_arguments K a F (map f (take i xs))) (from_of (left_by F i)) (f x)
    arguments_left = ap (behind_arguments K a F) next ∙ arguments_pushed a F (map f (take i xs)) (f x) ∙ ap (λ j. behind_argument K (behind_arguments K a F (map f (take i xs))) (from_of (left_by F j)) (f x)) many

    pub next_at : next_argument a F (map f (take i xs)) i (f x) ≡ both (plain_code 0 (past 255 i)) (argument_takes K (behind_arguments K a F (map f (take i xs))) (from_of (left_by F i)) (f x))
    next_at = ap (λ j. both (plain_code 0 (past 255 i)) (argument_takes K (behind_arguments K a F (map f (take i xs))) (from_of (left_by F j)) (f x))) many

    pub arguments_lack : (o m : Emitter) (e : RecordRefusal) → Uses o m (head_arguments_take K a 0 F (map f (take i xs))) → Lacks m (next_argument a F (map f (take i xs)) i (f x)) e →
        Lacks o (head_arguments_take K a 0 F (map f xs)) e
    arguments_lack o m e u p =
        let r = part_from xs i x low at in
        let s = ap (head_arguments_take K a 0 F) (ap (map f) r.1 ∙ map-append f (take i xs) (x ∷ r.0)) ∙ arguments_split a 0 i F (map f (take i xs)) (f x) (map f r.0) (omega (arith, many)) in
        subst (λ k. Lacks o k e) (sym s) (lacks_behind _ u (both_first (head_arguments_take K a 0 F (map f (take i xs))) (next_argument a F (map f (take i xs)) i (f x)) _) p)

-- types one after the other

abbrev pub next_type : ℕ → Ty → Amount
next_type j T = both (type_takes T) (plain_code 4 (past 255 j))

types_split : (j n : ℕ) (Ts : List Ty) (U : Ty) (Us : List Ty) → j + length Ts ≡ n → head_types_take j (Ts ++ U ∷ Us) ≡ both (head_types_take j Ts) (both (next_type n U) (head_types_take (suc n) Us))
types_split j n [] U Us e =
    let same : j ≡ n = omega (arith, e) in
    (λ i. head_types_take (same i) (U ∷ Us)) ∙ sym (nothing_both (head_types_take n (U ∷ Us)))
types_split j n (T ∷ Ts) U Us e = ap (both (next_type j T)) (types_split (suc j) n Ts U Us (omega (arith, e))) ∙ sym (both_joined _ _ _)

module _ {A : Type 0} (f : A → Ty) (xs : List A) (x : A) (i : ℕ) (low : i < length xs) (at : x ≡ get_or xs i x) where
  as_many : length (map f (take i xs)) ≡ i
  as_many = map_length f (take i xs) ∙ length-take-le i xs (omega (arith, low))

  pub types_use : (o m n : Emitter) → Uses o m (head_types_take 0 (map f (take i xs))) → Uses m n (next_type i (f x)) → Uses o n (head_types_take 0 (map f (take (i + 1) xs)))
  types_use o m n u v =
      uses_same (sym (ap (head_types_take 0) (ap (map f) (take_more xs i x low ∙ ap (λ y. take i xs ++ y ∷ []) (sym at)) ∙ map-append f (take i xs) (x ∷ []))
      ∙ types_split 0 i (map f (take i xs)) (f x) [] (omega (arith, as_many)) ∙ ap (both (head_types_take 0 (map f (take i xs)))) (both_nothing (next_type i (f x))))) (uses_both u v)

  pub types_at_lack : (o m : Emitter) (e : RecordRefusal) → Uses o m (head_types_take 0 (map f (take i xs))) → Lacks m (next_type i (f x)) e → Lacks o (head_types_take 0 (map f xs)) e
  types_at_lack o m e u p =
      let r = part_from xs i x low at in
      let s = ap (head_types_take 0) (ap (map f) r.1 ∙ map-append f (take i xs) (x ∷ r.0)) ∙ types_split 0 i (map f (take i xs)) (f x) (map f r.0) (omega (arith, as_many)) in
      subst (λ k. Lacks o k e) (sym s) (lacks_behind _ u (both_first (head_types_take 0 (map f (take i xs))) (next_type i (f x)) _) p)

-- the code that matches a type: its number has room
pub type_matched : {m mid n : Emitter} (i : ℕ) (T : Ty) → Uses m mid (type_takes T) → i ≤ 255 → Uses mid n (plain_code 4 0) → Uses m n (next_type i T)
type_matched {m} {mid} {n} i T u l v =
    let none = past_within 255 i l in
    uses_both u (uses_same (same_amount (plain_code 4 0) (plain_code 4 (past 255 i)) refl refl refl (sym none)) v)

pub type_unmatched : (m mid : Emitter) (i : ℕ) (T : Ty) (e : RecordRefusal) → Uses m mid (type_takes T) → Lacks mid (plain_code 4 0) e → Lacks m (next_type i T) e
type_unmatched m mid i T e u p = lacks_behind (next_type i T) u (record { types = omega arith; terms = omega arith; bytes = omega arith; misfits = omega arith }) p

pub type_has_no_place : (m mid : Emitter) (i : ℕ) (T : Ty) (e : RecordRefusal) → Uses m mid (type_takes T) → IsRefused (255 < i) e → Lacks m (next_type i T) e
type_has_no_place m mid i T e u p = lacks_behind (next_type i T) u (record { types = omega arith; terms = omega arith; bytes = omega arith; misfits = omega arith }) (has_no_place mid i e p)

-- the head by the node of its predicate

pub constant_head_takes : (K : ℕ → List Ty → Ty) (b : Nodes) (a : Around) (c : ℕ) (ids : List TypeId) (head : Term) (ts : List Term) (t : Term) →
    atom (constant c (map (type_tree b) (map (λ i. i.0) ids))) ≡ head → apply head ts ≡ t →
    (head_takes K a t ≡ both (head_types_take 0 (map (λ i. type_tree b i.0) ids)) (head_arguments_take K a 0 (head_type K [] a head) ts)) × (behind_head K a t ≡ behind_arguments K a (head_type K [] a head) ts)
constant_head_takes K b a c ids head ts t is e =
    let Ts = map (λ i. type_tree b i.0) ids in
    let same : atom (constant c Ts) ≡ head = ap (λ l. atom (constant c l)) (sym (mapped_types b ids)) ∙ is in
    let whole : apply (atom (constant c Ts)) ts ≡ t = ap (λ u. apply u ts) same ∙ e in
    let h : head_of t ≡ atom (constant c Ts) = ap head_of (sym whole) ∙ head_apply (atom (constant c Ts)) ts in
    let g : arguments t ≡ ts = ap arguments (sym whole) ∙ arguments_is (atom (constant c Ts)) ts tt in (
      (λ i. both (predicate_types_take (h i)) (head_arguments_take K a 0 (head_type K [] a (h i)) (g i))) ∙ ap (λ u. both (head_types_take 0 Ts) (head_arguments_take K a 0 (head_type K [] a u) ts)) same,
      (λ i. behind_arguments K a (head_type K [] a (h i)) (g i)) ∙ ap (λ u. behind_arguments K a (head_type K [] a u) ts) same,
    )

no_types_taken : (t : Term) → ((c : ℕ) (Ts : List Ty) → t ≡ atom (constant c Ts) → ⊥) → predicate_types_take t ≡ nothing
no_types_taken (index i) x = refl
no_types_taken (atom (constant c Ts)) x = absurd (x c Ts refl)
no_types_taken (atom (integer z)) x = refl
no_types_taken (atom (text s)) x = refl
no_types_taken (atom (eigen k)) x = refl
no_types_taken (atom (logic y l)) x = refl
no_types_taken (atom (param k T)) x = refl
no_types_taken (abs b) x = refl
no_types_taken (app t u) x = refl

pub other_head_takes : (K : ℕ → List Ty → Ty) (a : Around) (head : Term) (ts : List Term) (t : Term) → IsNoApplication head → ((c : ℕ) (Ts : List Ty) → head_of t ≡ atom (constant c Ts) → ⊥) → apply head ts ≡ t →
    (head_takes K a t ≡ head_arguments_take K a 0 (head_type K [] a head) ts) × (behind_head K a t ≡ behind_arguments K a (head_type K [] a head) ts)
other_head_takes K a head ts t none x e =
    let h : head_of t ≡ head = ap head_of (sym e) ∙ head_apply head ts ∙ head_itself head none in
    let g : arguments t ≡ ts = ap arguments (sym e) ∙ arguments_is head ts none in
    let z : predicate_types_take (head_of t) ≡ nothing = no_types_taken (head_of t) x in (
      (λ i. both (z i) (head_arguments_take K a 0 (head_type K [] a (h i)) (g i))) ∙ nothing_both _,
      (λ i. behind_arguments K a (head_type K [] a (h i)) (g i)),
    )
