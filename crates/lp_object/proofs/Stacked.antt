-- Types that are made of the last ones of a stack.
use Rattle.std.proofs.Common.{◌≡◌, ℕ, zero, suc, ◌+◌, ◌-◌, ◌<◌, ◌≤◌, List, [], ◌∷◌, ◌++◌, length, map, take, drop, reverse, get_or, refl, sym, ap, subst, ◌∙◌, arith, inl, inr}
use Rattle.std.proofs.lemmas.Bool.{cases_lt}
use Rattle.std.proofs.lemmas.List.{reverse-append, take-append-drop, take_at, drop_at, take_all, drop_all, drop-map, length-drop, length-reverse}
use Rattle.lp_lemmas.proofs.Lists.{map_take, reverse_pushed, drop_read}
use Rattle.lp_calculus.specs.Types.{Ty, con, arrow, tys}
use Rattle.lp_term.specs.declared.node.TypeId.{TypeId}
use Rattle.lp_term.specs.Nodes.{Nodes, Extends, type_tree}
use Rattle.lp_term.proofs.Trees.{extends_same, extends-trans}
use Rattle.lp_object.specs.Reading.{kind, an_arrow, with_type_top}
use Rattle.lp_object.specs.inner.Parts.{types_in, types_stacked}

-- both parts of a stack, the last one of each first
pub two_parts : {A : Type 0} (xs : List A) (n start : ℕ) → start ≡ length xs - n → (reverse (drop start xs) ≡ take n (reverse xs)) × (reverse (take start xs) ≡ drop n (reverse xs))
two_parts {A = A} xs n start e =
    let whole : reverse xs ≡ reverse (drop start xs) ++ reverse (take start xs) = ap reverse (sym (take-append-drop start xs)) ∙ reverse-append (take start xs) (drop start xs) in
    let size : length (reverse (drop start xs)) ≡ length xs - start = length-reverse (drop start xs) ∙ length-drop start xs in
    elim (cases_lt (length xs) n) [
      | inl lt ↦
          let none : start ≡ 0 = omega (arith, e, lt) in
          let le : length (reverse xs) ≤ n = omega (arith, length-reverse xs, lt) in
          (ap (λ k. reverse (drop k xs)) none ∙ sym (take_all n (reverse xs) le), ap (λ k. reverse (take k xs)) none ∙ sym (drop_all n (reverse xs) le))
      | inr le ↦
          let l : length (reverse (drop start xs)) ≡ n = omega (arith, size, e, le) in
          (sym (ap (take n) whole ∙ take_at (reverse (drop start xs)) (reverse (take start xs)) n l), sym (ap (drop n) whole ∙ drop_at (reverse (drop start xs)) (reverse (take start xs)) n l))
    ]

-- ---- types

abbrev pub Stand : Nodes → List TypeId → List Ty → Type 0
Stand a stack ts = (b : Nodes) → Extends a b → types_stacked b stack ≡ ts

-- one more on a stack
pub type_on : (a c : Nodes) → Extends a c → (mid new : List TypeId) (made : TypeId) (T : Ty) (rest : List Ty) → new ≡ mid ++ made ∷ [] → made.0 < length c.types → type_tree c made.0 ≡ T → Stand a mid rest → Stand c new (T ∷ rest)
type_on a c x mid new made T rest e lt tree stand b y =
    ap (λ ts. types_in b ts) (reverse_pushed new mid made e) ∙ (λ i. (y.same_types made.0 lt ∙ tree) i ∷ stand b (extends-trans a c b x y) i)

-- a kind on the last n types
pub kind_on : (a c : Nodes) → Extends a c → (old args mid new : List TypeId) (made : TypeId) (k n : ℕ) (ts : List Ty) → args ≡ take n (reverse old) → reverse mid ≡ drop n (reverse old) → new ≡ mid ++ made ∷ []
    → made.0 < length c.types → type_tree c made.0 ≡ con k (tys (types_in a args)) → Stand a old ts → Stand c new (with_type_top (kind k n) ts)
kind_on a c x old args mid new made k n ts e d f lt tree stand =
    let front : types_in a args ≡ take n ts = ap (types_in a) e ∙ map_take (λ t. type_tree a t.0) n (reverse old) ∙ ap (take n) (stand a (extends_same a)) in
    let back : Stand a mid (drop n ts) = λ b y. ap (types_in b) d ∙ sym (drop-map (λ t. type_tree b t.0) n (reverse old)) ∙ ap (drop n) (stand b y) in
    type_on a c x mid new made (con k (tys (take n ts))) (drop n ts) f lt (tree ∙ ap (λ us. con k (tys us)) front) back

-- an arrow of the last two
pub arrow_on : (a c : Nodes) → Extends a c → (old mid rest new : List TypeId) (from to made : TypeId) (ts : List Ty) → old ≡ mid ++ from ∷ [] → mid ≡ rest ++ to ∷ [] → new ≡ rest ++ made ∷ []
    → made.0 < length c.types → type_tree c made.0 ≡ arrow (type_tree a from.0) (type_tree a to.0) → Stand a old ts → Stand c new (with_type_top an_arrow ts)
arrow_on a c x old mid rest new from to made ts e f g lt tree stand =
    let two : (b : Nodes) → types_stacked b old ≡ type_tree b from.0 ∷ type_tree b to.0 ∷ types_stacked b rest = λ b. ap (types_in b) (reverse_pushed old mid from e ∙ ap (λ l. from ∷ l) (reverse_pushed mid rest to f)) in
    let is : ts ≡ type_tree a from.0 ∷ type_tree a to.0 ∷ types_stacked a rest = sym (stand a (extends_same a)) ∙ two a in
    let back : Stand a rest (types_stacked a rest) = λ b y. ap (drop 2) (sym (two b) ∙ stand b y ∙ is) in
    subst (λ us. Stand c new (with_type_top an_arrow us)) (sym is) (type_on a c x rest new made (arrow (type_tree a from.0) (type_tree a to.0)) (types_stacked a rest) g lt tree back)

-- too few for an arrow
pub no_types_on : (a c : Nodes) (old new : List TypeId) (ts : List Ty) → old ≡ [] → new ≡ [] → Stand a old ts → Stand c new (with_type_top an_arrow ts)
no_types_on a c old new ts e f stand b y =
    let is : ts ≡ [] = sym (stand a (extends_same a)) ∙ ap (types_stacked a) e in
    ap (types_stacked b) f ∙ sym (ap (with_type_top an_arrow) is)

pub one_type_on : (a c : Nodes) (old mid new : List TypeId) (from : TypeId) (ts : List Ty) → old ≡ mid ++ from ∷ [] → mid ≡ [] → new ≡ [] → Stand a old ts → Stand c new (with_type_top an_arrow ts)
one_type_on a c old mid new from ts e f g stand b y =
    let is : ts ≡ type_tree a from.0 ∷ [] = sym (stand a (extends_same a)) ∙ ap (types_in a) (reverse_pushed old mid from e ∙ ap (λ l. from ∷ reverse l) f) in
    ap (types_stacked b) g ∙ sym (ap (with_type_top an_arrow) is)

-- ---- parts from the last one on

pub part_before : {A B : Type 0} (f : A → B) (xs : List A) (l n : ℕ) (x d : A) → 0 < l → l ≤ length xs → n ≡ l - 1 → x ≡ get_or xs n d → map f (drop n xs) ≡ f x ∷ map f (drop l xs)
part_before f xs l n x d some le e is =
    let lt : n < length xs = omega (arith, some, le, e) in
    let k : n + 1 ≡ l = omega (arith, some, e) in
    ap (map f) (drop_read xs n x lt (is ∙ same_default xs n d x lt)) ∙ ap (λ m. f x ∷ map f (drop m xs)) k
  where
    same_default : {A : Type 0} (xs : List A) (n : ℕ) (d e : A) → n < length xs → get_or xs n d ≡ get_or xs n e
    same_default [] n d e lt = absurd (omega (arith, lt))
    same_default (x ∷ xs) zero d e lt = refl
    same_default (x ∷ xs) (suc n) d e lt = same_default xs n d e (omega (arith, lt))
