-- What is made of the words of a type has the tree of its node.
use Rattle.std.specs.Global.{Global}
use Rattle.std.proofs.Common.{◌≡◌, ℕ, zero, suc, ◌<◌, min, List, [], ◌∷◌, ◌++◌, length, map, get_or, Bool, true, false, true≢false, Option, Some, None, refl, sym, ap, subst, ◌∙◌, arith, inl, inr}
use mathlib.Core.Path.{fun_ext}
use Rattle.std.specs.Prelude.{nat_eq, ◌⊎◌, if◌then◌else◌, option_map, IfSome, Vec, codes}
use Rattle.std.specs.Str.{bytes_eq}
use Rattle.std.proofs.lemmas.Bool.{eqb-true}
use Rattle.std.proofs.lemmas.List.{get_or_default, map-append}
use Rattle.lp_base.specs.declared.place.Spot.{Spot}
use Rattle.lp_calculus.specs.Types.{Ty, var, con, arrow, tys, instance}
use Rattle.lp_term.specs.Nodes.{Nodes, Extends, type_tree}
use Rattle.lp_term.specs.declared.node.TypeId.{TypeId}
use Rattle.lp_syntax.specs.declared.text.RawTypeNode.{RawTypeNode}
use Rattle.lp_syntax.specs.declared.text.RawTypeNode.TheVariants as node
use Rattle.lp_sig.specs.Pieces.{spelled, begins_variable}
use Rattle.lp_sig.specs.Rows.{Row, found}
use Rattle.lp_sig.specs.Standard.{standard_kinds}
use Rattle.lp_sig.specs.Said.{Said, a_kind, an_abbreviation}
use Rattle.lp_sig.specs.Words.{meaning_of, number_said, on_count}
use Rattle.lp_sig.specs.Knowing.{number_of}
use Rattle.lp_sig.specs.Copying.{picked, filled}
use Rattle.lp_sig.specs.Types.{kind_number_of, one_or, Definition, given_for, on_arguments, by_parameters, IsNode, IsTypeOf, AreTypesOf, a_variable, kind_on, abbreviation_on, an_arrow, no_more, one_more, HasBody}
use Rattle.lp_sig.specs.Holding.{given_number, AreParameters, type_done, body_of, IsTree, AreDone, HoldsBodies, IfType, IsReplaced, IsNumbered}
use Rattle.lp_sig.specs.declared.bodies.Body.{Body}
use Rattle.lp_sig.specs.declared.fault.SigFault.TheVariants as fault
use Rattle.lp_sig.specs.declared.expand.Variables.{Variables}
use Rattle.lp_sig.specs.declared.expand.Made.{Made}
use Rattle.lp_sig.specs.declared.expand.Made.TheVariants as made

-- the number of a kind
pub exact_standard : (name : List ℕ) (said : List (Row Said)) (number count : ℕ) → Some (number, count) ≡ found name standard_kinds → kind_number_of name said ≡ Some number
unfolding kind_number_of
exact_standard name said number count is = ap (λ o. one_or (option_map (λ r. r.0) o) (option_map (λ n. min n 4294967295) (number_said name said))) (sym is)

pub exact_declared : (name : List ℕ) (said : List (Row Said)) (number : ℕ) → None ≡ found name standard_kinds → (k : ℕ) × (number_said name said ≡ Some k) × (number ≡ min k 4294967295) → kind_number_of name said ≡ Some number
unfolding kind_number_of
exact_declared name said number none d = ap (λ o. one_or (option_map (λ r. r.0) o) (option_map (λ n. min n 4294967295) (number_said name said))) (sym none) ∙ ap (option_map (λ n. min n 4294967295)) d.1 ∙ ap (λ n. Some n) (sym d.2)

-- the types for the variables of a body
picked_given : (b : Nodes) (ids : List TypeId) (n : ℕ) (d : Ty) → picked b ids n d ≡ given_for (map (λ t. type_tree b t.0) ids) n d
picked_given b [] n d = refl
picked_given b (t ∷ ts) zero d = refl
picked_given b (t ∷ ts) (suc n) d = picked_given b ts n d

pub filled_on : (b : Nodes) (ids : List TypeId) (t : Ty) → instance (filled b ids) t ≡ on_arguments (map (λ t. type_tree b t.0) ids) t
filled_on b ids t = ap (λ θ. instance θ t) (fun_ext (λ n. picked_given b ids n (var n)))

-- types at places
module _ (b : Nodes) (said : List (Row Said)) (defs : List (Row Definition)) (text : List ℕ) (ν : ℕ → Spot → Option ℕ) (nodes : List RawTypeNode) (done : List (Option TypeId)) (all : AreDone b said defs text ν nodes done) where
  first_type : (o p : Option TypeId) (os ps : List (Option TypeId)) → o ∷ os ≡ p ∷ ps → o ≡ p
  first_type o p os ps e = cc

  rest_types : (o p : Option TypeId) (os ps : List (Option TypeId)) → o ∷ os ≡ p ∷ ps → os ≡ ps
  rest_types o p os ps e = cc

  pub types_at : (places : List ℕ) (ids : List TypeId) → map (type_done done) places ≡ map (λ t. Some t) ids → AreTypesOf said defs text ν nodes places (map (λ t. type_tree b t.0) ids)
  types_at [] [] e = no_more refl refl
  types_at [] (t ∷ ts) e = absurd (cc)
  types_at (i ∷ is) [] e = absurd (cc)
  types_at (i ∷ is) (t ∷ ts) e =
      let f = first_type (type_done done i) (Some t) (map (type_done done) is) (map (λ t. Some t) ts) e in
      let g = rest_types (type_done done i) (Some t) (map (type_done done) is) (map (λ t. Some t) ts) e in
      one_more i is (type_tree b t.0) (map (λ t. type_tree b t.0) ts) refl refl (all i t f).1 (types_at is ts g)

  -- a function type
  pub arrow_made : (now : Nodes) (i from to : ℕ) (l r id : TypeId) → IsNode nodes i (node.Arrow from to) → Some l ≡ type_done done from → Some r ≡ type_done done to → id.0 < length now.types → type_tree now id.0 ≡ arrow (type_tree b l.0) (type_tree b r.0) →
      IsTree now (IsTypeOf said defs text ν nodes i) id
  arrow_made now i from to l r id at e f inside tree = (inside, an_arrow from to (type_tree b l.0) (type_tree b r.0) at (all from l (sym e)).1 (all to r (sym f)).1 tree)

  -- a variable, a kind, an abbreviation
  pub variable_made : (now : Nodes) (i : ℕ) (s : Spot) (args : Vec ℕ Global) (given : List ℕ → Option ℕ) (word : List ℕ) (n : ℕ) (id : TypeId) → IsNode nodes i (node.Word s args) → IsNumbered ν given text i (node.Word s args) → word ≡ spelled text s →
      begins_variable word ≡ true → given word ≡ Some n → id.0 < length now.types → type_tree now id.0 ≡ var n → IsTree now (IsTypeOf said defs text ν nodes i) id
  variable_made now i s args given word n id at numbered same v is inside tree =
      (inside, a_variable s args n at (ap begins_variable (sym same) ∙ v) (numbered n (ap given (sym same) ∙ is)) tree)

  map_twice : (ids : List TypeId) → map (type_tree b) (map (λ t. t.0) ids) ≡ map (λ t. type_tree b t.0) ids
  map_twice [] = refl
  map_twice (t ∷ ts) = ap (λ l. type_tree b t.0 ∷ l) (map_twice ts)

  pub kind_made : (now : Nodes) (i : ℕ) (s : Spot) (args : Vec ℕ Global) (places : List ℕ) (word : List ℕ) (k c : ℕ) (parts ids : List TypeId) (id : TypeId) → IsNode nodes i (node.Word s args) → places ≡ args.items → word ≡ spelled text s → begins_variable word ≡ false →
      Some (a_kind c) ≡ meaning_of word said → length places ≡ c → kind_number_of word said ≡ Some k → map (type_done done) places ≡ map (λ t. Some t) parts → ids ≡ parts → id.0 < length now.types → type_tree now id.0 ≡ con k (tys (map (type_tree b) (map (λ t. t.0) ids))) →
      IsTree now (IsTypeOf said defs text ν nodes i) id
  kind_made now i s args places word k c parts ids id at same spelt name means count number made slice inside tree = (
    inside,
    kind_on s args k (map (λ t. type_tree b t.0) parts) at (ap begins_variable (sym spelt) ∙ name) (ap (λ w. meaning_of w said) (sym spelt) ∙ sym means ∙ ap (λ n. Some (a_kind n)) (sym count ∙ ap length same)) (ap (λ w. kind_number_of w said) (sym spelt) ∙ number)
        (types_at args.items parts (ap (map (type_done done)) (sym same) ∙ made)) (tree ∙ ap (λ ids. con k (tys (map (type_tree b) (map (λ t. t.0) ids)))) slice ∙ ap (λ ts. con k (tys ts)) (map_twice parts)),
  )

  pub abbreviation_made : (now : Nodes) (i : ℕ) (s : Spot) (args : Vec ℕ Global) (places : List ℕ) (word : List ℕ) (m : Said) (p : ℕ) (id : TypeId) → IsNode nodes i (node.Word s args) → places ≡ args.items → word ≡ spelled text s → begins_variable word ≡ false →
      Some m ≡ meaning_of word said → m ≡ an_abbreviation p → None ≡ on_count s (length places) m → IsReplaced b now said defs word done places id → IsTree now (IsTypeOf said defs text ν nodes i) id
  abbreviation_made now i s args places word m p id at same spelt name means is count r = (
    r.inside,
    abbreviation_on s args r.declared.definition r.body (map (λ t. type_tree b t.0) r.parts) at (ap begins_variable (sym spelt) ∙ name)
        (ap (λ w. meaning_of w said) (sym spelt) ∙ sym means ∙ ap (λ m. Some m) is ∙ ap (λ n. Some (an_abbreviation n)) (sym (stands (length places) p (count ∙ ap (on_count s (length places)) is)) ∙ ap length same))
        (ap (λ w. found w defs) (sym spelt) ∙ r.declared.declared) r.declared.is (types_at args.items r.parts (ap (map (type_done done)) (sym same) ∙ r.are)) r.tree,
  )
    where
      stands : (n p : ℕ) → None ≡ on_count s n (an_abbreviation p) → n ≡ p
      stands n p e = by (nat_eq n p) refl e
        where
          by : (t : Bool) → nat_eq n p ≡ t → None ≡ (if t then None else Some (fault.Arity s)) → n ≡ p
          by true t e = eqb-true n p t
          by false t e = absurd (cc)

-- what is made of an abbreviation
pub as_type : (m : Made) (P Q : TypeId → Type 0) → ((id : TypeId) → m ≡ made.Type id → P id → Q id) → IfType m P → IfType m Q
as_type (made.Type id) P Q f h = f id refl h
as_type made.Open P Q f h = tt
as_type made.Unknown P Q f h = tt
as_type made.Arity P Q f h = tt

-- one more node
pub done_before : (b now : Nodes) (said : List (Row Said)) (defs : List (Row Definition)) (text : List ℕ) (ν : ℕ → Spot → Option ℕ) (nodes : List RawTypeNode) (done : List (Option TypeId)) → Extends b now → AreDone b said defs text ν nodes done → AreDone now said defs text ν nodes done
done_before b now said defs text ν nodes done x all = λ i id e.
    let h = all i id e in
    let l = h.0 in
    let m = x.more_types in
    (omega (arith, l, m), subst (IsTypeOf said defs text ν nodes i) (sym (x.same_types id.0 l)) h.1)

type_last : (done : List (Option TypeId)) (o : Option TypeId) (i : ℕ) (id : TypeId) → type_done (done ++ o ∷ []) i ≡ Some id → (type_done done i ≡ Some id) ⊎ ((i ≡ length done) × (o ≡ Some id))
type_last [] o zero id e = inr (refl, e)
type_last [] o (suc i) id e = absurd (cc)
type_last (d ∷ ds) o zero id e = inl e
type_last (d ∷ ds) o (suc i) id e = deeper (type_last ds o i id e)
  where
    deeper : (type_done ds i ≡ Some id) ⊎ ((i ≡ length ds) × (o ≡ Some id)) → (type_done ds i ≡ Some id) ⊎ ((suc i ≡ suc (length ds)) × (o ≡ Some id))
    deeper (inl f) = inl f
    deeper (inr p) = inr (ap (λ n. suc n) p.0, p.1)

pub done_more : (b now : Nodes) (said : List (Row Said)) (defs : List (Row Definition)) (text : List ℕ) (ν : ℕ → Spot → Option ℕ) (nodes : List RawTypeNode) (done new : List (Option TypeId)) (o : Option TypeId) → Extends b now → AreDone b said defs text ν nodes done → new ≡ done ++ o ∷ [] →
    IfSome o (IsTree now (IsTypeOf said defs text ν nodes (length done))) → AreDone now said defs text ν nodes new
done_more b now said defs text ν nodes done new o x all is here = λ i id e. by i id (type_last done o i id (ap (λ l. type_done l i) (sym is) ∙ e))
  where
    some : (o : Option TypeId) (id : TypeId) (P : TypeId → Type 0) → o ≡ Some id → IfSome o P → P id
    some o id P e h = subst (λ o. IfSome o P) e h

    by : (i : ℕ) (id : TypeId) → (type_done done i ≡ Some id) ⊎ ((i ≡ length done) × (o ≡ Some id)) → IsTree now (IsTypeOf said defs text ν nodes i) id
    by i id (inl f) = done_before b now said defs text ν nodes done x all i id f
    by i id (inr p) = subst (λ i. IsTree now (IsTypeOf said defs text ν nodes i) id) (sym p.0) (some o id (IsTree now (IsTypeOf said defs text ν nodes (length done))) p.1 here)

pub nothing_done : (b : Nodes) (said : List (Row Said)) (defs : List (Row Definition)) (text : List ℕ) (ν : ℕ → Spot → Option ℕ) (nodes : List RawTypeNode) (done : List (Option TypeId)) → done ≡ [] → AreDone b said defs text ν nodes done
nothing_done b said defs text ν nodes done none = λ i id e. absurd (empty i id (ap (λ l. type_done l i) (sym none) ∙ e))
  where
    empty : (i : ℕ) (id : TypeId) → None ≡ Some id → ⊥
    empty i id e = absurd (cc)

-- bodies stay while the bank grows
pub bodies_stay : (b now : Nodes) (old new : List Body) (said : List (Row Said)) (defs : List (Row Definition)) → Extends b now → new ≡ old → HoldsBodies b old said defs → HoldsBodies now new said defs
bodies_stay b now old new said defs x same h = λ name place id f e.
    let k = h name place id f (ap (λ l. body_of l place) (sym same) ∙ e) in
    let l = k.0 in
    let m = x.more_types in
    (omega (arith, l, m), subst (HasBody said defs name) (sym (x.same_types id.0 l)) k.1)

-- parameters have the numbers that they are given
pub as_parameters : (v : Variables) (text : List ℕ) (ps : List Spot) (i : ℕ) (n : RawTypeNode) → AreParameters v text ps → IsNumbered (by_parameters text ps) (given_number v) text i n
unfolding given_number
as_parameters v text ps i (node.Word s args) h = λ n e. sym (h.1 (spelled text s)) ∙ sym (ap (λ b. if b then number_of v (spelled text s) else (if bytes_eq (spelled text s) (codes "_") then Some v.next else one_or (number_of v (spelled text s)) (Some v.next))) h.0) ∙ e
as_parameters v text ps i (node.Arrow a b) h = tt

-- the number that a variable is given
module _ (v : Variables) (name : List ℕ) where
  of_open : v.closed ≡ false → (if bytes_eq name (codes "_") then Some v.next else one_or (number_of v name) (Some v.next)) ≡ given_number v name
  unfolding given_number
  of_open h = ap (λ b. if b then number_of v name else (if bytes_eq name (codes "_") then Some v.next else one_or (number_of v name) (Some v.next))) (sym h)

  pub given_closed : (o : Option ℕ) → v.closed ≡ true → o ≡ number_of v name → o ≡ given_number v name
  unfolding given_number
  given_closed o h e = e ∙ ap (λ b. if b then number_of v name else (if bytes_eq name (codes "_") then Some v.next else one_or (number_of v name) (Some v.next))) (sym h)

  pub given_blank : v.closed ≡ false → bytes_eq name (codes "_") ≡ true → Some v.next ≡ given_number v name
  given_blank h e = ap (λ b. if b then Some v.next else one_or (number_of v name) (Some v.next)) (sym e) ∙ of_open h

  pub given_known : (n : ℕ) → v.closed ≡ false → bytes_eq name (codes "_") ≡ false → number_of v name ≡ Some n → Some n ≡ given_number v name
  given_known n h e f = ap (λ o. one_or o (Some v.next)) (sym f) ∙ ap (λ b. if b then Some v.next else one_or (number_of v name) (Some v.next)) (sym e) ∙ of_open h

  pub given_new : (n : ℕ) → v.closed ≡ false → bytes_eq name (codes "_") ≡ false → number_of v name ≡ None → n ≡ v.next → Some n ≡ given_number v name
  given_new n h e f g = ap (λ n. Some n) g ∙ ap (λ o. one_or o (Some v.next)) (sym f) ∙ ap (λ b. if b then Some v.next else one_or (number_of v name) (Some v.next)) (sym e) ∙ of_open h

-- the parameters are never open
pub not_open : (v w : Variables) (text : List ℕ) (ps : List Spot) → v.closed ≡ false → AreParameters v text ps → AreParameters w text ps
not_open v w text ps e h = absurd (true≢false (sym h.0 ∙ e))

-- a type at a place that was looked up
pub found_type : (done : List (Option TypeId)) (place : ℕ) (x : Option TypeId) (id : TypeId) → place < length done → x ≡ get_or done place x → x ≡ Some id → type_done done place ≡ Some id
found_type done place x id h at is = get_or_default done place None x h ∙ sym at ∙ is

pub parts_more : (f : ℕ → Option TypeId) (ys : List ℕ) (y : ℕ) (ts new : List TypeId) (t : TypeId) → map f ys ≡ map (λ t. Some t) ts → f y ≡ Some t → new ≡ ts ++ t ∷ [] → map f (ys ++ y ∷ []) ≡ map (λ t. Some t) new
parts_more f ys y ts new t e g is =
    map-append f ys (y ∷ []) ∙ ap (λ l. l ++ f y ∷ []) e ∙ ap (λ o. map (λ t. Some t) ts ++ o ∷ []) g ∙ sym (map-append (λ t. Some t) ts (t ∷ [])) ∙ ap (map (λ t. Some t)) (sym is)

-- the type of the root, if it is done
pub if_done : (b : Nodes) (said : List (Row Said)) (defs : List (Row Definition)) (text : List ℕ) (ν : ℕ → Spot → Option ℕ) (nodes : List RawTypeNode)
    (done slice : List (Option TypeId)) → AreDone b said defs text ν nodes done → (root : ℕ) (o : Option TypeId) → slice ≡ done → o ≡ type_done slice
    root →
    IfSome o (IsTree b (IsTypeOf said defs text ν nodes root))
if_done b said defs text ν nodes done slice all root None same e = tt
if_done b said defs text ν nodes done slice all root (Some id) same e = all root id (ap (λ l. type_done l root) (sym same) ∙ sym e)
