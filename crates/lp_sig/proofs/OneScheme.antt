-- A declared type has one scheme: it does not depend on the numbers that its variables are given.
use Rattle.std.proofs.Common.{◌≡◌, ℕ, zero, suc, ◌<◌, List, [], ◌∷◌, ◌++◌, Bool, true, false, length, map, Option, Some, refl, sym, ap, subst, ◌∙◌, true≢false, arith, inl, inr}
use Rattle.std.specs.Prelude.{nat_eq, if◌then◌else◌, ◌||◌, ◌⊎◌, ◌≢◌, codes}
use Rattle.std.specs.List.{list_any}
use Rattle.std.proofs.lemmas.Bool.{eqb-true, eq-eqb}
use Rattle.std.proofs.lemmas.List.{length-map, get_or_default}
use Rattle.std.proofs.lemmas.Option.{same_Some}
use Rattle.lp_sig.proofs.Heads.{place_below}
use Rattle.indexmap.specs.IndexSet.{insert_key}
use Rattle.lp_base.specs.declared.place.Spot.{Spot}
use Rattle.lp_calculus.specs.Types.{Ty, Tys, var, param, con, arrow, tys, no_types, types, instance, instances}
use Rattle.lp_syntax.specs.declared.text.RawTypeNode.{RawTypeNode}
use Rattle.lp_syntax.specs.declared.text.RawTypeNode.TheVariants as node
use Rattle.lp_sig.specs.Pieces.{spelled}
use Rattle.lp_sig.specs.Rows.{Row}
use Rattle.lp_sig.specs.Said.{Said}
use Rattle.lp_sig.specs.Schemes.{type_variables, types_variables, met, first_variables, place, numbered_type}
use Rattle.lp_sig.specs.Types.{Definition, given_for, on_arguments, by_parameters, IsNode, IsTypeOf, AreTypesOf, a_variable, kind_on, abbreviation_on, an_arrow, no_more, one_more, IsBodyOf, written_body, given_body}
use Rattle.lp_sig.specs.Laws.{HasParameters, Agree}
use Rattle.lp_sig.specs.Constants.{Written, IsVariable, IsNumbering, IsSchemeOf}
use Rattle.lp_sig.specs.Ordering.{in_order}
use Rattle.lp_sig.proofs.OneType.{one_type, same_word}
use Rattle.lp_sig.proofs.InOrder.{in_order_numbers, in_order_some}

module _ (R : ℕ → ℕ → Type 0) where
  -- two types of one shape, their variables related
  abbrev mutual
    pub Renames : Ty → Ty → Type 0
    Renames (var x) (var y) = R x y
    Renames (var x) (param k) = ⊥
    Renames (var x) (con c ts) = ⊥
    Renames (var x) (arrow a b) = ⊥
    Renames (param j) (var y) = ⊥
    Renames (param j) (param k) = j ≡ k
    Renames (param j) (con c ts) = ⊥
    Renames (param j) (arrow a b) = ⊥
    Renames (con c ts) (var y) = ⊥
    Renames (con c ts) (param k) = ⊥
    Renames (con c ts) (con d us) = (c ≡ d) × RenamesAll ts us
    Renames (con c ts) (arrow a b) = ⊥
    Renames (arrow a b) (var y) = ⊥
    Renames (arrow a b) (param k) = ⊥
    Renames (arrow a b) (con c ts) = ⊥
    Renames (arrow a b) (arrow c d) = Renames a c × Renames b d

    pub RenamesAll : Tys → Tys → Type 0
    RenamesAll no_types no_types = Unit {0}
    RenamesAll no_types (types u us) = ⊥
    RenamesAll (types t ts) no_types = ⊥
    RenamesAll (types t ts) (types u us) = Renames t u × RenamesAll ts us

  abbrev Paired : List ℕ → List ℕ → Type 0
  Paired [] [] = Unit {0}
  Paired [] (y ∷ ys) = ⊥
  Paired (x ∷ xs) [] = ⊥
  Paired (x ∷ xs) (y ∷ ys) = R x y × Paired xs ys

  paired_append : (xs ys vs ws : List ℕ) → Paired xs ys → Paired vs ws → Paired (xs ++ vs) (ys ++ ws)
  paired_append [] [] vs ws p q = q
  paired_append [] (y ∷ ys) vs ws p q = absurd p
  paired_append (x ∷ xs) [] vs ws p q = absurd p
  paired_append (x ∷ xs) (y ∷ ys) vs ws p q = (p.0, paired_append xs ys vs ws p.1 q)

  paired_length : (xs ys : List ℕ) → Paired xs ys → length xs ≡ length ys
  paired_length [] [] p = refl
  paired_length [] (y ∷ ys) p = absurd p
  paired_length (x ∷ xs) [] p = absurd p
  paired_length (x ∷ xs) (y ∷ ys) p = ap (λ n. suc n) (paired_length xs ys p.1)

  mutual
    variables_paired : (t u : Ty) → Renames t u → Paired (type_variables t) (type_variables u)
    variables_paired (var x) (var y) r = (r, tt)
    variables_paired (var x) (param k) r = absurd r
    variables_paired (var x) (con c ts) r = absurd r
    variables_paired (var x) (arrow a b) r = absurd r
    variables_paired (param j) (var y) r = absurd r
    variables_paired (param j) (param k) r = tt
    variables_paired (param j) (con c ts) r = absurd r
    variables_paired (param j) (arrow a b) r = absurd r
    variables_paired (con c ts) (var y) r = absurd r
    variables_paired (con c ts) (param k) r = absurd r
    variables_paired (con c ts) (con d us) r = all_paired ts us r.1
    variables_paired (con c ts) (arrow a b) r = absurd r
    variables_paired (arrow a b) (var y) r = absurd r
    variables_paired (arrow a b) (param k) r = absurd r
    variables_paired (arrow a b) (con c ts) r = absurd r
    variables_paired (arrow a b) (arrow c d) r = paired_append (type_variables a) (type_variables c) (type_variables b) (type_variables d) (variables_paired a c r.0) (variables_paired b d r.1)

    all_paired : (ts us : Tys) → RenamesAll ts us → Paired (types_variables ts) (types_variables us)
    all_paired no_types no_types r = tt
    all_paired no_types (types u us) r = absurd r
    all_paired (types t ts) no_types r = absurd r
    all_paired (types t ts) (types u us) r = paired_append (type_variables t) (type_variables u) (types_variables ts) (types_variables us) (variables_paired t u r.0) (all_paired ts us r.1)

  module _ (one : (x y z : ℕ) → R x y → R x z → y ≡ z) (other : (x y z : ℕ) → R x z → R y z → x ≡ y) where
    same_test : (x y v w : ℕ) → R x y → R v w → nat_eq x v ≡ nat_eq y w
    same_test x y v w r s = by (nat_eq x v) refl (nat_eq y w) refl
      where
        by : (t : Bool) → nat_eq x v ≡ t → (u : Bool) → nat_eq y w ≡ u → t ≡ u
        by true e true f = refl
        by true e false f = sym (eq-eqb y w (one v y w (subst (λ x. R x y) (eqb-true x v e) r) s)) ∙ f
        by false e true f = sym e ∙ eq-eqb x v (other x v w (subst (R x) (eqb-true y w f) r) s)
        by false e false f = refl

    any_same : (N M : List ℕ) (x y : ℕ) → Paired N M → R x y → list_any (nat_eq x) N ≡ list_any (nat_eq y) M
    any_same [] [] x y p r = refl
    any_same [] (w ∷ M) x y p r = absurd p
    any_same (v ∷ N) [] x y p r = absurd p
    any_same (v ∷ N) (w ∷ M) x y p r = ap (λ t. t || list_any (nat_eq x) N) (same_test x y v w r p.0) ∙ ap (λ t. nat_eq y w || t) (any_same N M x y p.1 r)

    place_same : (N M : List ℕ) (x y : ℕ) → Paired N M → R x y → place N x ≡ place M y
    place_same [] [] x y p r = refl
    place_same [] (w ∷ M) x y p r = absurd p
    place_same (v ∷ N) [] x y p r = absurd p
    place_same (v ∷ N) (w ∷ M) x y p r = ap (λ t. if t then 0 else suc (place N x)) (same_test x y v w r p.0) ∙ ap (λ n. if nat_eq y w then 0 else suc n) (place_same N M x y p.1 r)

    inserted : (N M : List ℕ) (x y : ℕ) → Paired N M → R x y → Paired (insert_key nat_eq N x) (insert_key nat_eq M y)
    inserted N M x y p r = by (list_any (nat_eq x) N) (list_any (nat_eq y) M) (any_same N M x y p r)
      where
        by : (t u : Bool) → t ≡ u → Paired (if t then N else N ++ x ∷ []) (if u then M else M ++ y ∷ [])
        by true true e = p
        by true false e = absurd (true≢false e)
        by false true e = absurd (true≢false (sym e))
        by false false e = paired_append N M (x ∷ []) (y ∷ []) p (r, tt)

    met_paired : (xs ys N M : List ℕ) → Paired xs ys → Paired N M → Paired (met N xs) (met M ys)
    met_paired [] [] N M p q = q
    met_paired [] (y ∷ ys) N M p q = absurd p
    met_paired (x ∷ xs) [] N M p q = absurd p
    met_paired (x ∷ xs) (y ∷ ys) N M p q = met_paired xs ys (insert_key nat_eq N x) (insert_key nat_eq M y) p.1 (inserted N M x y q p.0)

    module _ (N M : List ℕ) (p : Paired N M) where
      mutual
        numbered_same : (t u : Ty) → Renames t u → instance (λ x. var (place N x)) t ≡ instance (λ y. var (place M y)) u
        numbered_same (var x) (var y) r = ap var (place_same N M x y p r)
        numbered_same (var x) (param k) r = absurd r
        numbered_same (var x) (con c ts) r = absurd r
        numbered_same (var x) (arrow a b) r = absurd r
        numbered_same (param j) (var y) r = absurd r
        numbered_same (param j) (param k) r = ap param r
        numbered_same (param j) (con c ts) r = absurd r
        numbered_same (param j) (arrow a b) r = absurd r
        numbered_same (con c ts) (var y) r = absurd r
        numbered_same (con c ts) (param k) r = absurd r
        numbered_same (con c ts) (con d us) r = ap (con c) (all_numbered ts us r.1) ∙ ap (λ c. con c (instances (λ y. var (place M y)) us)) r.0
        numbered_same (con c ts) (arrow a b) r = absurd r
        numbered_same (arrow a b) (var y) r = absurd r
        numbered_same (arrow a b) (param k) r = absurd r
        numbered_same (arrow a b) (con c ts) r = absurd r
        numbered_same (arrow a b) (arrow c d) r = ap (λ x. arrow x (instance (λ x. var (place N x)) b)) (numbered_same a c r.0) ∙ ap (arrow (instance (λ y. var (place M y)) c)) (numbered_same b d r.1)

        all_numbered : (ts us : Tys) → RenamesAll ts us → instances (λ x. var (place N x)) ts ≡ instances (λ y. var (place M y)) us
        all_numbered no_types no_types r = refl
        all_numbered no_types (types u us) r = absurd r
        all_numbered (types t ts) no_types r = absurd r
        all_numbered (types t ts) (types u us) r = ap (λ x. types x (instances (λ x. var (place N x)) ts)) (numbered_same t u r.0) ∙ ap
            (types (instance (λ y. var (place M y)) u)) (all_numbered ts us r.1)

    pub renamed_same : (t u : Ty) → Renames t u → (length (first_variables t) ≡ length (first_variables u)) × (numbered_type t ≡ numbered_type u)
    unfolding first_variables numbered_type
    renamed_same t u r =
        let p = met_paired (type_variables t) (type_variables u) [] [] (variables_paired t u r) tt in
        (paired_length (met [] (type_variables t)) (met [] (type_variables u)) p, numbered_same (met [] (type_variables t)) (met [] (type_variables u)) p t u r)

  -- arguments for the variables of a body
  given_renames : (ts us : List Ty) (n : ℕ) (d e : Ty) → RenamesAll (tys ts) (tys us) → n < length ts → Renames (given_for ts n d) (given_for us n e)
  given_renames [] us n d e r l = absurd (omega (arith, l))
  given_renames (t ∷ ts) [] n d e r l = absurd r
  given_renames (t ∷ ts) (u ∷ us) zero d e r l = r.0
  given_renames (t ∷ ts) (u ∷ us) (suc n) d e r l = given_renames ts us n d e r.1 (omega (arith, l))

-- a type whose variables are below a number
abbrev mutual
  Below : ℕ → Ty → Type 0
  Below n (var x) = x < n
  Below n (param k) = ⊥
  Below n (con c ts) = AllBelow n ts
  Below n (arrow a b) = Below n a × Below n b

  AllBelow : ℕ → Tys → Type 0
  AllBelow n no_types = Unit {0}
  AllBelow n (types t ts) = Below n t × AllBelow n ts

module _ (R : ℕ → ℕ → Type 0) (ts us : List Ty) (r : RenamesAll R (tys ts) (tys us)) where
  mutual
    fill_renames : (body : Ty) → Below (length ts) body → Renames R (on_arguments ts body) (on_arguments us body)
    fill_renames (var x) b = given_renames R ts us x (var x) (var x) r b
    fill_renames (param k) b = absurd b
    fill_renames (con c bs) b = (refl, all_renames bs b)
    fill_renames (arrow a c) b = (fill_renames a b.0, fill_renames c b.1)

    all_renames : (bs : Tys) → AllBelow (length ts) bs → RenamesAll R (instances (λ n. given_for ts n (var n)) bs) (instances (λ n. given_for us n (var n)) bs)
    all_renames no_types b = tt
    all_renames (types t bs) b = (fill_renames t b.0, all_renames bs b.1)

given_below : (ts : List Ty) (k n : ℕ) (d : Ty) → AllBelow k (tys ts) → n < length ts → Below k (given_for ts n d)
given_below [] k n d b l = absurd (omega (arith, l))
given_below (t ∷ ts) k zero d b l = b.0
given_below (t ∷ ts) k (suc n) d b l = given_below ts k n d b.1 (omega (arith, l))

module _ (ts : List Ty) (k : ℕ) (all : AllBelow k (tys ts)) where
  mutual
    fill_below : (body : Ty) → Below (length ts) body → Below k (on_arguments ts body)
    fill_below (var x) b = given_below ts k x (var x) all b
    fill_below (param k) b = absurd b
    fill_below (con c bs) b = all_fill_below bs b
    fill_below (arrow a c) b = (fill_below a b.0, fill_below c b.1)

    all_fill_below : (bs : Tys) → AllBelow (length ts) bs → AllBelow k (instances (λ n. given_for ts n (var n)) bs)
    all_fill_below no_types b = tt
    all_fill_below (types t bs) b = (fill_below t b.0, all_fill_below bs b.1)

-- where one numbering has one number another has one
linked : (text : List ℕ) (nodes : List RawTypeNode) (ν μ : ℕ → Spot → Option ℕ) → IsNumbering text nodes ν → IsNumbering text nodes μ → (i j : ℕ)
    (s z : Spot) (x a b : ℕ) → IsVariable text nodes i s → IsVariable text nodes j z →
    ν i s ≡ Some x → ν j z ≡ Some x → μ i s ≡ Some a → μ j z ≡ Some b → a ≡ b
linked text nodes ν μ h k i j s z x a b v w e f g l = by (h.apart i j s z x v w e f)
  where
    by : (i ≡ j) ⊎ ((spelled text s ≡ spelled text z) × (spelled text s ≢ codes "_")) → a ≡ b
    by (inl p) =
        let there = subst (λ i. IsNode nodes i (node.Word s v.0)) p v.1 in
        let same : s ≡ z = same_word s z v.0 w.0 (sym there.1 ∙ get_or_default nodes j (node.Word s v.0) (node.Word z w.0) there.0 ∙ w.1.1) in
        same_Some a b (sym g ∙ ap (λ i. μ i s) p ∙ ap (μ j) same ∙ l)
    by (inr p) = same_Some a b (sym (k.same i j s z a v w p.0 p.1 g) ∙ l)

-- the numbers of one word
record IsPair (text : List ℕ) (nodes : List RawTypeNode) (ν : ℕ → Spot → Option ℕ) (x y : ℕ) : Type 0 where
  at : ℕ
  word : Spot
  is : IsVariable text nodes at word
  here : ν at word ≡ Some x
  ordered : in_order text nodes at word ≡ Some y

parameters_below : (text : List ℕ) (ps : List Spot) (i : ℕ) (s : Spot) (n : ℕ) → by_parameters text ps i s ≡ Some n → n < length ps
parameters_below text ps i s n e =
    let l = place_below (spelled text s) (map (λ p. spelled text p) ps) n e in
    let m = length-map ps (λ p. spelled text p) in
    omega (arith, l, m)

module _ (said : List (Row Said)) (defs : List (Row Definition)) (agree : Agree said defs) where
  list_length : (text : List ℕ) (ν : ℕ → Spot → Option ℕ) (nodes : List RawTypeNode) (places : List ℕ) (ts : List Ty) → AreTypesOf said defs text ν nodes places ts → length ts ≡ length places
  list_length text ν nodes places ts (no_more e f) = ap length f ∙ sym (ap length e)
  list_length text ν nodes places ts (one_more i rest t us e f first later) = ap length f ∙ ap (λ n. suc n) (list_length text ν nodes rest us later) ∙ sym (ap length e)

  mutual
    type_below : (text : List ℕ) (ν : ℕ → Spot → Option ℕ) (nodes : List RawTypeNode) (i : ℕ) (t : Ty) (k : ℕ) →
        ((i : ℕ) (s : Spot) (n : ℕ) → ν i s ≡ Some n → n < k) → IsTypeOf said defs text ν nodes i t → Below k t
    type_below text ν nodes i t k f (a_variable s a n at v is e) = subst (Below k) (sym e) (f i s n is)
    type_below text ν nodes i t k f (kind_on s a c ts at v means number parts e) = subst (Below k) (sym e) (list_below text ν nodes a.items ts k f parts)
    type_below text ν nodes i t k f (abbreviation_on s a d body ts at v means declared inner parts e) =
        let inside = body_below d body (length a.items) (agree (spelled text s) d (length a.items) declared means) inner in
        subst (Below k) (sym e) (fill_below ts k (list_below text ν nodes a.items ts k f parts) body
        (subst (λ n. Below n body) (sym (list_length text ν nodes a.items ts parts)) inside))
    type_below text ν nodes i t k f (an_arrow a b x y at left right e) = subst (Below k) (sym e) (type_below text ν nodes a x k f left, type_below text ν nodes b y k f right)

    body_below : (d : Definition) (t : Ty) (n : ℕ) → HasParameters d n → IsBodyOf said defs d t → Below n t
    body_below d t n h (written_body text ps ty e apart is) =
        subst (λ n. Below n t) (subst (λ d. HasParameters d n) e h) (type_below text (by_parameters text ps) ty.nodes.items ty.root t (length ps) (parameters_below text ps) is)
    body_below d t n h (given_body u e f) = absurd (subst (λ d. HasParameters d n) e h)

    list_below : (text : List ℕ) (ν : ℕ → Spot → Option ℕ) (nodes : List RawTypeNode) (places : List ℕ) (ts : List Ty) (k : ℕ) →
        ((i : ℕ) (s : Spot) (n : ℕ) → ν i s ≡ Some n → n < k) → AreTypesOf said defs text ν nodes places ts → AllBelow k (tys ts)
    list_below text ν nodes places ts k f (no_more e g) = subst (λ ts. AllBelow k (tys ts)) (sym g) tt
    list_below text ν nodes places ts k f (one_more i rest t us e g first later) = subst (λ ts. AllBelow k (tys ts)) (sym g)
        (type_below text ν nodes i t k f first, list_below text ν nodes rest us k f later)

  module _ (text : List ℕ) (nodes : List RawTypeNode) (ν : ℕ → Spot → Option ℕ) where
    abbrev Canon : ℕ → Ty → Type 0
    Canon i t = (u : Ty) × IsTypeOf said defs text (in_order text nodes) nodes i u × Renames (IsPair text nodes ν) t u

    abbrev CanonAll : List ℕ → List Ty → Type 0
    CanonAll places ts = (us : List Ty) × AreTypesOf said defs text (in_order text nodes) nodes places us × RenamesAll (IsPair text nodes ν) (tys ts) (tys us)

    mutual
      in_canon : (i : ℕ) (t : Ty) → IsTypeOf said defs text ν nodes i t → Canon i t
      in_canon i t (a_variable s a n at v is e) =
          let m = in_order_some text nodes i s in
          (var m.0, a_variable s a m.0 at v m.1 refl, subst (λ t. Renames (IsPair text nodes ν) t (var m.0)) (sym e) (record { at = i; word = s; is = (a, at, v); here = is; ordered = m.1 }))
      in_canon i t (kind_on s a c ts at v means number parts e) =
          let l = all_in_canon a.items ts parts in
          (con c (tys l.0), kind_on s a c l.0 at v means number l.1 refl, subst (λ t. Renames (IsPair text nodes ν) t (con c (tys l.0))) (sym e) (refl, l.2))
      in_canon i t (abbreviation_on s a d body ts at v means declared inner parts e) =
          let l = all_in_canon a.items ts parts in
          let inside = body_below d body (length a.items) (agree (spelled text s) d (length a.items) declared means) inner in (
            on_arguments l.0 body,
            abbreviation_on s a d body l.0 at v means declared inner l.1 refl,
            subst (λ t. Renames (IsPair text nodes ν) t (on_arguments l.0 body)) (sym e)
                (fill_renames (IsPair text nodes ν) ts l.0 l.2 body (subst (λ n. Below n body) (sym (list_length text ν nodes a.items ts parts)) inside)),
          )
      in_canon i t (an_arrow a b x y at left right e) =
          let l = in_canon a x left in
          let r = in_canon b y right in
          (arrow l.0 r.0, an_arrow a b l.0 r.0 at l.1 r.1 refl, subst (λ t. Renames (IsPair text nodes ν) t (arrow l.0 r.0)) (sym e) (l.2, r.2))

      all_in_canon : (places : List ℕ) (ts : List Ty) → AreTypesOf said defs text ν nodes places ts → CanonAll places ts
      all_in_canon places ts (no_more e f) = ([], no_more e refl, subst (λ ts. RenamesAll (IsPair text nodes ν) (tys ts) no_types) (sym f) tt)
      all_in_canon places ts (one_more i rest t us e f first later) =
          let c = in_canon i t first in
          let l = all_in_canon rest us later in
          (c.0 ∷ l.0, one_more i rest c.0 l.0 e refl c.1 l.1, subst (λ ts. RenamesAll (IsPair text nodes ν) (tys ts) (types c.0 (tys l.0))) (sym f) (c.2, l.2))

  abbrev Ordered : Written → ℕ → Ty → Type 0
  Ordered w n t = (v : Ty) × IsTypeOf said defs w.text (in_order w.text w.raw.nodes.items) w.raw.nodes.items w.raw.root v × (n ≡ length (first_variables v)) × (t ≡ numbered_type v)

  ordered_scheme : (w : Written) (n : ℕ) (t : Ty) → IsSchemeOf said defs w n t → Ordered w n t
  ordered_scheme w n t h =
      let text = w.text in
      let nodes = w.raw.nodes.items in
      let ν = h.number in
      let c = in_canon text nodes ν w.raw.root h.replaced h.is in
      let r = renamed_same (IsPair text nodes ν)
      (λ x y z p q. linked text nodes ν (in_order text nodes) h.numbering (in_order_numbers text nodes) p.at q.at p.word q.word x y z p.is q.is p.here q.here p.ordered q.ordered)
      (λ x y z p q. linked text nodes (in_order text nodes) ν (in_order_numbers text nodes) h.numbering p.at q.at p.word q.word z x y p.is q.is p.ordered q.ordered p.here q.here)
      h.replaced c.0 c.2 in
      (c.0, c.1, h.counted ∙ r.0, h.numbered ∙ r.1)

  pub one_scheme : (w : Written) (n m : ℕ) (t u : Ty) → IsSchemeOf said defs w n t → IsSchemeOf said defs w m u → (n ≡ m) × (t ≡ u)
  one_scheme w n m t u h k =
      let a = ordered_scheme w n t h in
      let b = ordered_scheme w m u k in
      let e = one_type said defs w.text (in_order w.text w.raw.nodes.items) w.raw.nodes.items w.raw.root a.0 b.0 a.1 b.1 in
      (a.2 ∙ ap (λ v. length (first_variables v)) e ∙ sym b.2, a.3 ∙ ap numbered_type e ∙ sym b.3)
