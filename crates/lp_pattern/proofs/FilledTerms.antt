-- Terms with all bindings put in: what was made of a term's parts, put together, is the term under the bindings.
use Rattle.std.proofs.Common.{◌≡◌, ℕ, ◌<◌, List, [], ◌∷◌, ◌++◌, map, length, Option, Some, None, inl, inr, sym, ap, subst as transport, ◌∙◌, arith, nat_eq, if◌then◌else◌, Vec, Global}
use Rattle.std.specs.Prelude.{All, IfSome}
use Rattle.std.proofs.lemmas.List.{map-append}
use Rattle.std.proofs.lemmas.List.Elements.{All-push}
use Rattle.lp_lemmas.proofs.Elements.{All_push_parts, All_unmap}
use Rattle.std.proofs.lemmas.Bool.{eq-eqb, ne_eqb, cases_eq}
use Rattle.std.specs.Map.{lookup}
use Rattle.indexmap.specs.IndexMap.{IndexMap, get}
use Rattle.lp_calculus.specs.Types.{instance}
use Rattle.lp_calculus.specs.Term.{Term, abs, apply, atom, constant, param}
use Rattle.lp_term.specs.Nodes.{Nodes, Extends, tree, type_tree}
use Rattle.lp_term.specs.declared.node.TermId.{TermId}
use Rattle.lp_term.specs.declared.node.TypeId.{TypeId}
use Rattle.lp_model.specs.Pair.{Closing, closed}
use Rattle.lp_term.specs.Within.{IsTypeOf, AreTypesOf}
use Rattle.lp_term.proofs.Within.{types_later, type_trees_later}
use Rattle.lp_term.proofs.Walks.{map_map}
use Rattle.lp_pattern.specs.declared.bindings.Bindings.{Bindings}
use Rattle.lp_pattern.specs.declared.fill.Shape.{Shape}
use Rattle.lp_pattern.specs.declared.fill.TermsFilled.{TermsFilled}
use Rattle.lp_pattern.specs.declared.fill_types.TypesFilled.{TypesFilled}
use Rattle.lp_pattern.specs.Stripping.{IsShut}
use Rattle.lp_pattern.specs.Under.{AreTypes, IsReading}
use Rattle.lp_pattern.specs.Filling.{AreFilled}
use Rattle.lp_pattern.specs.FillingTerms.{IsFilledTerm, AreAllFilled, TermsBecome, HasShape, IsMade}
use Rattle.lp_pattern.proofs.FilledTypes.{all_later}
use Rattle.lp_pattern.proofs.Looking.{closed_apply}
use Rattle.lp_pattern.proofs.Opening.{body_closed}

pub some_weaker : {A : Type 0} (o : Option A) (P Q : A → Type 0) → ((x : A) → P x → Q x) → IfSome o P → IfSome o Q
some_weaker None P Q f h = h
some_weaker (Some x) P Q f h = f x h

-- a bank that has grown
pub term_later : (b d : Nodes) (c : Closing) (i j : ℕ) → Extends b d → IsFilledTerm b c i j → IsFilledTerm d c i j
term_later b d c i j E F = record {
  known = let m = E.more_terms in let k = F.known in omega arith;
  made = let m = E.more_terms in let k = F.made in omega arith;
  is = E.same_terms j F.made ∙ F.is ∙ ap (closed c) (sym (E.same_terms i F.known));
}

pub types_noted : (b d : Nodes) (c : Closing) (old : TermsFilled) (new : TypesFilled) → Extends b d → AreAllFilled b c old → AreFilled d c.types new → AreAllFilled d c (record { terms = old.terms; types = new })
types_noted b d c old new E F G = record { terms = λ i j g. term_later b d c i j.0 E (F.terms i j g); types = G }

pub terms_later : (b d : Nodes) (c : Closing) (done : TermsFilled) → Extends b d → AreAllFilled b c done → AreAllFilled d c done
terms_later b d c done E F = record { terms = λ i j g. term_later b d c i j.0 E (F.terms i j g); types = all_later b d c.types done.types E F.types }

some_is : (x y : TermId) → Some x ≡ Some y → x ≡ y
some_is x y e = cc

-- one more is filled
pub term_noted : (b d : Nodes) (c : Closing) (old new : TermsFilled) (id made : TermId) → Extends b d → AreAllFilled d c old → new.types ≡ old.types →
    ((i : ℕ) → get nat_eq new.terms i ≡ (if nat_eq id.0 i then Some made else get nat_eq old.terms i)) → id.0 < length b.terms → IsMade b d c id.0 made → AreAllFilled d c new
term_noted b d c old new id made E F q n k M = record {
  terms = λ i j g. elim (cases_eq id.0 i) [
    | inl same ↦
        let f : made ≡ j = some_is made j (sym (ap (λ x. if x then Some made else get nat_eq old.terms i) (eq-eqb id.0 i same)) ∙ sym (n i) ∙ g) in
        let m = E.more_terms in
        let r : IsFilledTerm d c id.0 made.0 = record { known = omega (arith, m, k); made = M.within; is = M.is ∙ ap (closed c) (sym (E.same_terms id.0 k)) } in
        transport (λ t. IsFilledTerm d c i t.0) f (transport (λ x. IsFilledTerm d c x made.0) same r)
    | inr ne ↦ F.terms i j (sym (ap (λ x. if x then Some made else get nat_eq old.terms i) (ne_eqb id.0 i ne)) ∙ sym (n i) ∙ g)
  ];
  types = transport (AreFilled d c.types) (sym q) F.types;
}

-- abstractions
abstraction_is : (c : Closing) (T B M : Term) → IsShut c → T ≡ abs B → M ≡ closed c B → abs M ≡ closed c T
abstraction_is c T B M h e f = ap abs (f ∙ sym (body_closed c h B)) ∙ ap (closed c) (sym e)

pub abstraction_made : (b d : Nodes) (c : Closing) (id body made new : TermId) → IsShut c → IsFilledTerm b c body.0 made.0 → tree b id.0 ≡ abs (tree b body.0) → new.0 < length d.terms → tree d new.0 ≡ abs (tree b made.0) →
    IsMade b d c id.0 new
abstraction_made b d c id body made new h F e l q = record { within = l; is = q ∙ abstraction_is c (tree b id.0) (tree b body.0) (tree b made.0) h e F.is }

pub abstraction_stays : (b : Nodes) (c : Closing) (id body made : TermId) → IsShut c → IsFilledTerm b c body.0 made.0 → tree b id.0 ≡ abs (tree b body.0) → id.0 < length b.terms → made.0 ≡ body.0 → IsMade b b c id.0 id
abstraction_stays b c id body made h F e l same = abstraction_made b b c id body made id h F e l (e ∙ ap (λ i. abs (tree b i)) (sym same))

-- applications
application_is : (c : Closing) (T H M : Term) (As Ms : List Term) → T ≡ apply H As → M ≡ closed c H → Ms ≡ map (closed c) As → apply M Ms ≡ closed c T
application_is c T H M As Ms e f g = (λ i. apply (f i) (g i)) ∙ sym (closed_apply c As H) ∙ ap (closed c) (sym e)

pub application_made : (b d : Nodes) (c : Closing) (id head top new : TermId) (arguments made : List TermId) → IsFilledTerm b c head.0 top.0 → TermsBecome b c arguments made →
    tree b id.0 ≡ apply (tree b head.0) (map (λ t. tree b t.0) arguments) → new.0 < length d.terms → tree d new.0 ≡ apply (tree b top.0) (map (λ t. tree b t.0) made) → IsMade b d c id.0 new
application_made b d c id head top new arguments made F h e l q = record {
  within = l;
  is =
      q ∙
      application_is c (tree b id.0) (tree b head.0) (tree b top.0) (map (λ t. tree b t.0) arguments) (map (λ t. tree b t.0) made) e F.is (h ∙ sym (map_map (closed c) (λ t. tree b t.0) arguments));
}

same_trees : (b : Nodes) (xs ys : List TermId) → map (λ t. t.0) xs ≡ map (λ t. t.0) ys → map (λ t. tree b t.0) xs ≡ map (λ t. tree b t.0) ys
same_trees b xs ys e = sym (map_map (tree b) (λ t. t.0) xs) ∙ ap (map (tree b)) e ∙ map_map (tree b) (λ t. t.0) ys

pub application_stays : (b : Nodes) (c : Closing) (id head top : TermId) (arguments made : List TermId) → IsFilledTerm b c head.0 top.0 → TermsBecome b c arguments made →
    tree b id.0 ≡ apply (tree b head.0) (map (λ t. tree b t.0) arguments) → id.0 < length b.terms → top.0 ≡ head.0 → map (λ t. t.0) made ≡ map (λ t. t.0) arguments → IsMade b b c id.0 id
application_stays b c id head top arguments made F h e l p q =
    let f : tree b head.0 ≡ tree b top.0 = ap (tree b) (sym p) in
    let g : map (λ t. tree b t.0) arguments ≡ map (λ t. tree b t.0) made = same_trees b arguments made (sym q) in
    application_made b b c id head top id arguments made F h e l (e ∙ (λ i. apply (f i) (g i)))

-- types of constants
pub constant_shape : (b : Nodes) (n : ℕ) (xs ys : List TypeId) (T : Term) → atom (constant n (map (type_tree b) (map (λ t. t.0) xs))) ≡ T → All (λ i. i < length b.types) (map (λ t. t.0) xs) → ys ≡ xs →
    AreTypesOf b ys × (T ≡ atom (constant n (map (λ t. type_tree b t.0) ys)))
constant_shape b n xs ys T e a q = (
  transport (AreTypesOf b) (sym q) (All_unmap (λ i. i < length b.types) (λ t. t.0) xs a),
  sym e ∙ ap (λ ts. atom (constant n ts)) (map_map (type_tree b) (λ t. t.0) xs ∙ ap (map (λ t. type_tree b t.0)) (sym q)),
)

pub application_shape : (b : Nodes) (head : TermId) (xs ys : List TermId) (T : Term) → apply (tree b head.0) (map (tree b) (map (λ t. t.0) xs)) ≡ T → ys ≡ xs → T ≡ apply (tree b head.0) (map (λ t. tree b t.0) ys)
application_shape b head xs ys T e q = sym e ∙ ap (apply (tree b head.0)) (map_map (tree b) (λ t. t.0) xs ∙ ap (map (λ t. tree b t.0)) (sym q))

-- one type more has its bindings put in
pub one_type_more : (a b d : Nodes) (s : Bindings) (c : Closing) (done olds news : List TypeId) (of new : TypeId) (before : TermsFilled) (after : TypesFilled) → Extends a b → Extends b d → AreTypes b s c.types → AreTypesOf a (done ++ of ∷ []) →
    (AreTypesOf a done → AreAllFilled b c before × AreTypesOf b olds × (map (λ t. type_tree b t.0) olds ≡ map (λ t. instance c.types (type_tree a t.0)) done)) → news ≡ olds ++ new ∷ [] →
    (AreTypes b s c.types → AreFilled b c.types before.types → AreFilled d c.types after × (new.0 < length d.types) × (type_tree d new.0 ≡ instance c.types (type_tree b of.0))) →
    AreAllFilled d c (record { terms = before.terms; types = after }) × AreTypesOf d news × (map (λ t. type_tree d t.0) news ≡ map (λ t. instance c.types (type_tree a t.0)) (done ++ of ∷ []))
one_type_more a b d s c done olds news of new before after E F A k h e f =
    let q = All_push_parts (IsTypeOf a) done of k in
    let w = h q.0 in
    let r = f A w.0.types in
    let all : map (λ t. type_tree d t.0) olds ≡ map (λ t. instance c.types (type_tree a t.0)) done = type_trees_later b d olds F w.1 ∙ w.2 in
    let one : type_tree d new.0 ≡ instance c.types (type_tree a of.0) = r.2 ∙ ap (instance c.types) (E.same_types of.0 q.1) in (
      types_noted b d c before after F w.0 r.0,
      transport (AreTypesOf d) (sym e) (All-push (IsTypeOf d) olds new (types_later b d olds F w.1) r.1),
      ap (map (λ t. type_tree d t.0)) e ∙ map-append (λ t. type_tree d t.0) olds (new ∷ []) ∙ (λ i. all i ++ one i ∷ []) ∙ sym (map-append (λ t. instance c.types (type_tree a t.0)) done (of ∷ [])),
    )

-- constants
constant_is : (a b : Nodes) (c : Closing) (n : ℕ) (types made : List TypeId) (T : Term) → T ≡ atom (constant n (map (λ t. type_tree a t.0) types)) →
    map (λ t. type_tree b t.0) made ≡ map (λ t. instance c.types (type_tree a t.0)) types → atom (constant n (map (λ t. type_tree b t.0) made)) ≡ closed c T
constant_is a b c n types made T e h =
    ap (λ ts. atom (constant n ts)) (h ∙ sym (map_map (instance c.types) (λ t. type_tree a t.0) types)) ∙ ap (closed c) (sym e)

pub constant_made : (a b d : Nodes) (c : Closing) (n : ℕ) (id new : TermId) (types made : List TypeId) → tree a id.0 ≡ atom (constant n (map (λ t. type_tree a t.0) types)) →
    map (λ t. type_tree b t.0) made ≡ map (λ t. instance c.types (type_tree a t.0)) types → new.0 < length d.terms → tree d new.0 ≡ atom (constant n (map (λ t. type_tree b t.0) made)) → IsMade a d c id.0 new
constant_made a b d c n id new types made e h l q = record { within = l; is = q ∙ constant_is a b c n types made (tree a id.0) e h }

same_type_trees : (b : Nodes) (xs ys : List TypeId) → map (λ t. t.0) xs ≡ map (λ t. t.0) ys → map (λ t. type_tree b t.0) xs ≡ map (λ t. type_tree b t.0) ys
same_type_trees b xs ys e = sym (map_map (type_tree b) (λ t. t.0) xs) ∙ ap (map (type_tree b)) e ∙ map_map (type_tree b) (λ t. t.0) ys

pub constant_stays : (a b : Nodes) (c : Closing) (n : ℕ) (id : TermId) (types made : List TypeId) → Extends a b → id.0 < length a.terms → AreTypesOf a types → tree a id.0 ≡ atom (constant n (map (λ t. type_tree a t.0) types)) →
    map (λ t. type_tree b t.0) made ≡ map (λ t. instance c.types (type_tree a t.0)) types → map (λ t. t.0) made ≡ map (λ t. t.0) types → IsMade a b c id.0 id
constant_stays a b c n id types made E l k e h same =
    let m = E.more_terms in
    constant_made a b b c n id id types made e h (omega (arith, m, l))
    (E.same_terms id.0 l ∙ e ∙ ap (λ ts. atom (constant n ts)) (sym (type_trees_later a b types E k) ∙ same_type_trees b types made (sym same)))

-- parameters
pub parameter_made : (a b d : Nodes) (c : Closing) (n : ℕ) (id new : TermId) (of made : TypeId) → tree a id.0 ≡ atom (param n (type_tree a of.0)) → type_tree b made.0 ≡ instance c.types (type_tree a of.0) →
    new.0 < length d.terms → tree d new.0 ≡ atom (param n (type_tree b made.0)) → IsMade a d c id.0 new
parameter_made a b d c n id new of made e h l q = record { within = l; is = q ∙ ap (λ t. atom (param n t)) h ∙ ap (closed c) (sym e) }

pub parameter_stays : (a b : Nodes) (c : Closing) (n : ℕ) (id : TermId) (of made : TypeId) → Extends a b → id.0 < length a.terms → of.0 < length a.types → tree a id.0 ≡ atom (param n (type_tree a of.0)) →
    type_tree b made.0 ≡ instance c.types (type_tree a of.0) → made.0 ≡ of.0 → IsMade a b c id.0 id
parameter_stays a b c n id of made E l k e h same =
    let m = E.more_terms in
    parameter_made a b b c n id id of made e h (omega (arith, m, l)) (E.same_terms id.0 l ∙ e ∙ ap (λ t. atom (param n t)) (sym (E.same_types of.0 k) ∙ ap (type_tree b) (sym same)))

-- a bound variable is what its value is
pub bound_made : (b : Nodes) (s : Bindings) (c : Closing) (id value made : TermId) (shape : Shape) → shape ≡ Shape.Bound value → HasShape b s id.0 shape → IsReading b s c → IsFilledTerm b c value.0 made.0 → IsMade b b c id.0 made
bound_made b s c id value made shape e h R F = record { within = F.made; is = F.is ∙ sym (transport (HasShape b s id.0) e h c R) }

-- the shapes, over slices of their lists
pub typed_shape : (b : Nodes) (s : Bindings) (i n : ℕ) (shape : Shape) (types : Vec TypeId Global) (ts : List TypeId) → shape ≡ Shape.Typed n types → ts ≡ types.items → HasShape b s i shape →
    AreTypesOf b ts × (tree b i ≡ atom (constant n (map (λ t. type_tree b t.0) ts)))
typed_shape b s i n shape types ts e q h = transport (λ l. AreTypesOf b l × (tree b i ≡ atom (constant n (map (λ t. type_tree b t.0) l)))) (sym q) (transport (HasShape b s i) e h)

pub applied_shape : (b : Nodes) (s : Bindings) (i : ℕ) (head : TermId) (shape : Shape) (arguments : Vec TermId Global) (ts : List TermId) → shape ≡ Shape.Application head arguments → ts ≡ arguments.items → HasShape b s i shape →
    tree b i ≡ apply (tree b head.0) (map (λ t. tree b t.0) ts)
applied_shape b s i head shape arguments ts e q h = transport (λ l. tree b i ≡ apply (tree b head.0) (map (λ t. tree b t.0) l)) (sym q) (transport (HasShape b s i) e h)

-- nothing is filled at the start
pub none_filled : {S : Type 0} (b : Nodes) (c : Closing) (m : IndexMap ℕ TermId S) (i : ℕ) (j : TermId) → m.entries ≡ [] → get nat_eq m i ≡ Some j → IsFilledTerm b c i j.0
none_filled b c m i j e g = let n : get nat_eq m i ≡ None = ap (λ es. lookup (nat_eq i) es) e in absurd (cc)
