-- Types that leave what was read as it is leave what is read behind solved type equations.
use Rattle.std.proofs.Common.{◌≡◌, ℕ, List, [], ◌∷◌, ◌++◌, map, Some, refl, sym, ap, ◌∙◌}
use Rattle.lp_calculus.specs.Types.{Ty, var, instance}
use Rattle.lp_calculus.specs.Term.{Term, Atom, atom, index, abs, app, constant, integer, text, eigen, logic, param}
use Rattle.lp_calculus.specs.Instance.{instance_atom, instance_term}
use Rattle.lp_calculus.proofs.TypeLaws.{instance-instance}
use Rattle.lp_term.specs.Nodes.{Nodes, type_tree}
use Rattle.lp_term.specs.declared.node.TypeId.{TypeId}
use Rattle.lp_model.specs.Types.{TypeBinding, one_type, put_types, solved, solve_types}
use Rattle.lp_model.specs.Pair.{Closing, closed, put_type_in, put_types_in}
use Rattle.lp_pattern.specs.Putting.{IsFirm}
use Rattle.lp_pattern.specs.Reading.{type_pairs_of}
use Rattle.lp_pattern.proofs.TypesBound.{Over, same_instance, over_same, over_instance, OverPairs, IsGood, solved_over, solved_good, puts_over, puts_twice}
use Rattle.lp_pattern.proofs.TypesSolved.{put_is}

-- each type variable of a term is among the given ones
abbrev OverAll : (ℕ → Type 0) → List Ty → Type 0
OverAll P [] = Unit {0}
OverAll P (t ∷ ts) = Over P t × OverAll P ts

abbrev OverAtom : (ℕ → Type 0) → Atom → Type 0
OverAtom P (constant c ts) = OverAll P ts
OverAtom P (integer z) = Unit {0}
OverAtom P (text s) = Unit {0}
OverAtom P (eigen k) = Unit {0}
OverAtom P (logic x l) = Unit {0}
OverAtom P (param k t) = Over P t

abbrev OverTerm : (ℕ → Type 0) → Term → Type 0
OverTerm P (index i) = Unit {0}
OverTerm P (atom a) = OverAtom P a
OverTerm P (abs b) = OverTerm P b
OverTerm P (app t u) = OverTerm P t × OverTerm P u

same_all : (P : ℕ → Type 0) (θ : ℕ → Ty) → ((y : ℕ) → P y → θ y ≡ var y) → (ts : List Ty) → OverAll P ts → map (instance θ) ts ≡ ts
same_all P θ f [] k = refl
same_all P θ f (t ∷ ts) k = λ i. same_instance P θ f t k.0 i ∷ same_all P θ f ts k.1 i

same_atom : (P : ℕ → Type 0) (θ : ℕ → Ty) → ((y : ℕ) → P y → θ y ≡ var y) → (a : Atom) → OverAtom P a → instance_atom θ a ≡ a
same_atom P θ f (constant c ts) k = ap (constant c) (same_all P θ f ts k)
same_atom P θ f (integer z) k = refl
same_atom P θ f (text s) k = refl
same_atom P θ f (eigen e) k = refl
same_atom P θ f (logic x l) k = refl
same_atom P θ f (param j t) k = ap (param j) (same_instance P θ f t k)

same_term : (P : ℕ → Type 0) (θ : ℕ → Ty) → ((y : ℕ) → P y → θ y ≡ var y) → (t : Term) → OverTerm P t → instance_term θ t ≡ t
same_term P θ f (index i) k = refl
same_term P θ f (atom a) k = ap atom (same_atom P θ f a k)
same_term P θ f (abs b) k = ap abs (same_term P θ f b k)
same_term P θ f (app t u) k = λ i. app (same_term P θ f t k.0 i) (same_term P θ f u k.1 i)

all_over : (P Q : ℕ → Type 0) (θ : ℕ → Ty) → ((y : ℕ) → P y → Over Q (θ y)) → (ts : List Ty) → OverAll P ts → OverAll Q (map (instance θ) ts)
all_over P Q θ f [] k = tt
all_over P Q θ f (t ∷ ts) k = (over_instance P Q θ f t k.0, all_over P Q θ f ts k.1)

atom_over : (P Q : ℕ → Type 0) (θ : ℕ → Ty) → ((y : ℕ) → P y → Over Q (θ y)) → (a : Atom) → OverAtom P a → OverAtom Q (instance_atom θ a)
atom_over P Q θ f (constant c ts) k = all_over P Q θ f ts k
atom_over P Q θ f (integer z) k = tt
atom_over P Q θ f (text s) k = tt
atom_over P Q θ f (eigen e) k = tt
atom_over P Q θ f (logic x l) k = tt
atom_over P Q θ f (param j t) k = over_instance P Q θ f t k

term_over : (P Q : ℕ → Type 0) (θ : ℕ → Ty) → ((y : ℕ) → P y → Over Q (θ y)) → (t : Term) → OverTerm P t → OverTerm Q (instance_term θ t)
term_over P Q θ f (index i) k = tt
term_over P Q θ f (atom a) k = atom_over P Q θ f a k
term_over P Q θ f (abs b) k = term_over P Q θ f b k
term_over P Q θ f (app t u) k = (term_over P Q θ f t k.0, term_over P Q θ f u k.1)

over_all : (θ : ℕ → Ty) (ts : List Ty) → map (instance θ) ts ≡ ts → OverAll (λ y. θ y ≡ var y) ts
over_all θ [] e = tt
over_all θ (t ∷ ts) e =
    let q : instance θ t ≡ t = cc in
    let r : map (instance θ) ts ≡ ts = cc in
    (over_same θ t q, over_all θ ts r)

over_atom : (θ : ℕ → Ty) (a : Atom) → instance_atom θ a ≡ a → OverAtom (λ y. θ y ≡ var y) a
over_atom θ (constant c ts) e = let q : map (instance θ) ts ≡ ts = cc in over_all θ ts q
over_atom θ (integer z) e = tt
over_atom θ (text s) e = tt
over_atom θ (eigen k) e = tt
over_atom θ (logic x l) e = tt
over_atom θ (param j t) e = let q : instance θ t ≡ t = cc in over_same θ t q

over_term : (θ : ℕ → Ty) (t : Term) → instance_term θ t ≡ t → OverTerm (λ y. θ y ≡ var y) t
over_term θ (index i) e = tt
over_term θ (atom a) e = let q : instance_atom θ a ≡ a = cc in over_atom θ a q
over_term θ (abs b) e = let q : instance_term θ b ≡ b = cc in over_term θ b q
over_term θ (app t u) e =
    let q : instance_term θ t ≡ t = cc in
    let r : instance_term θ u ≡ u = cc in
    (over_term θ t q, over_term θ u r)

-- types put in twice

all_twice : (θ κ : ℕ → Ty) (ts : List Ty) → map (instance κ) (map (instance θ) ts) ≡ map (instance (λ x. instance κ (θ x))) ts
all_twice θ κ [] = refl
all_twice θ κ (t ∷ ts) = λ i. instance-instance θ κ t i ∷ all_twice θ κ ts i

atom_twice : (θ κ : ℕ → Ty) (a : Atom) → instance_atom κ (instance_atom θ a) ≡ instance_atom (λ x. instance κ (θ x)) a
atom_twice θ κ (constant c ts) = ap (constant c) (all_twice θ κ ts)
atom_twice θ κ (integer z) = refl
atom_twice θ κ (text s) = refl
atom_twice θ κ (eigen k) = refl
atom_twice θ κ (logic x l) = refl
atom_twice θ κ (param j t) = ap (param j) (instance-instance θ κ t)

term_twice : (θ κ : ℕ → Ty) (t : Term) → instance_term κ (instance_term θ t) ≡ instance_term (λ x. instance κ (θ x)) t
term_twice θ κ (index i) = refl
term_twice θ κ (atom a) = ap atom (atom_twice θ κ a)
term_twice θ κ (abs b) = ap abs (term_twice θ κ b)
term_twice θ κ (app t u) = λ i. app (term_twice θ κ t i) (term_twice θ κ u i)

term_var : (t : Term) → instance_term var t ≡ t
term_var t = go t
  where
    types : (t : Ty) → instance var t ≡ t
    types t = sym (put_is [] t)

    all : (ts : List Ty) → map (instance var) ts ≡ ts
    all [] = refl
    all (t ∷ ts) = λ i. types t i ∷ all ts i

    of_atom : (a : Atom) → instance_atom var a ≡ a
    of_atom (constant c ts) = ap (constant c) (all ts)
    of_atom (integer z) = refl
    of_atom (text s) = refl
    of_atom (eigen k) = refl
    of_atom (logic x l) = refl
    of_atom (param j t) = ap (param j) (types t)

    go : (t : Term) → instance_term var t ≡ t
    go (index i) = refl
    go (atom a) = ap atom (of_atom a)
    go (abs b) = ap abs (go b)
    go (app t u) = λ i. app (go t i) (go u i)

-- bindings put in a term one after the other are put in at once
pub puts_at_once : (bs : List TypeBinding) (t : Term) → put_types_in bs t ≡ instance_term (λ x. put_types bs (var x)) t
puts_at_once [] t = sym (term_var t)
puts_at_once (b ∷ bs) t =
    puts_at_once bs (put_type_in b t) ∙ term_twice (one_type b) (λ x. put_types bs (var x)) t ∙ (λ i. instance_term (λ x. sym (put_is bs (one_type b x)) i) t)

puts_again : (bs : List TypeBinding) → IsGood bs → (t : Term) → put_types_in bs (put_types_in bs t) ≡ put_types_in bs t
puts_again bs g t =
    puts_at_once bs (put_types_in bs t) ∙ ap (instance_term (λ x. put_types bs (var x))) (puts_at_once bs t) ∙ term_twice (λ x. put_types bs (var x)) (λ x. put_types bs (var x)) t ∙
    (λ i. instance_term (λ x. (sym (put_is bs (put_types bs (var x))) ∙ puts_twice bs g (var x)) i) t) ∙ sym (puts_at_once bs t)

pub puts_behind : (us bs : List TypeBinding) (t : Term) → put_types_in (us ++ bs) t ≡ put_types_in bs (put_types_in us t)
puts_behind [] bs t = refl
puts_behind (u ∷ us) bs t = puts_behind us bs (put_type_in u t)

-- what leaves all that was read as it is

module _ (us : List TypeBinding) (c : Closing) (firm : IsFirm us c) where
  abbrev Kept : ℕ → Type 0
  Kept y = put_types us (var y) ≡ var y

  over_read : (t : Term) → OverTerm Kept (closed c t)
  over_read t = over_term (λ x. put_types us (var x)) (closed c t) (sym (puts_at_once us (closed c t)) ∙ firm t)

  over_type : (t : Ty) → Over Kept (instance c.types t)
  over_type t = over_read (atom (param 0 t))

  over_pairs : (b : Nodes) (ps : List (TypeId × TypeId)) → OverPairs Kept (type_pairs_of b c.types ps)
  over_pairs b [] = tt
  over_pairs b (p ∷ ps) = (over_type (type_tree b p.0.0), over_type (type_tree b p.1.0), over_pairs b ps)

  pub firm_behind : (b : Nodes) (ps : List (TypeId × TypeId)) (n : ℕ) (bs : List TypeBinding) (w : ℕ) → solve_types n (type_pairs_of b c.types ps) [] 0 ≡ Some (solved bs w) → (t : Term) →
      put_types_in (us ++ bs) (put_types_in bs (closed c t)) ≡ put_types_in bs (closed c t)
  firm_behind b ps n bs w d t =
      let over = solved_over Kept n (type_pairs_of b c.types ps) [] 0 bs w d tt (over_pairs b ps) in
      let good = solved_good n (type_pairs_of b c.types ps) [] 0 bs w d tt tt in
      let inner = term_over Kept Kept (λ x. put_types bs (var x)) (λ y k. puts_over Kept bs (var y) over k) (closed c t) (over_read t) in
      let at_once = puts_at_once bs (closed c t) in
      puts_behind us bs (put_types_in bs (closed c t)) ∙
      ap (put_types_in bs) (ap (put_types_in us) at_once ∙ puts_at_once us (instance_term (λ x. put_types bs (var x)) (closed c t)) ∙ same_term Kept (λ x. put_types us (var x)) (λ y k. k) (instance_term (λ x. put_types bs (var x)) (closed c t)) inner ∙ sym at_once) ∙
      puts_again bs good (closed c t)
