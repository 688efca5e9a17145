-- The arguments of variables at numbers of a bank: the eigenconstants to which they come.
use Rattle.std.proofs.Common.{◌≡◌, ℕ, zero, suc, ◌+◌, ◌-◌, ◌<◌, ◌≤◌, List, [], ◌∷◌, ◌++◌, map, length, ◌∙◌, refl, sym, ap, subst as transport, arith, Bool, true, false, Option, Some, None, nat_eq}
use Rattle.std.specs.Prelude.{All, not, ◌&&◌}
use Rattle.std.specs.List.{list_any}
use Rattle.std.proofs.lemmas.List.Elements.{All-nil, All-head, All-tail, All-cons, All-append, All-weaker}
use Rattle.lp_calculus.specs.Term.{Term, index, atom, abs, app, apply, constant, integer, text, eigen, logic, param}
use Rattle.lp_calculus.specs.Convert.{steps}
use Rattle.lp_term.specs.Node.{TermBelow}
use Rattle.lp_term.specs.Nodes.{Nodes, Extends, tree, node_tree}
use Rattle.lp_term.specs.Shapes.{term_shape}
use Rattle.lp_term.specs.declared.node.TermId.{TermId}
use Rattle.lp_term.specs.declared.node.TermNode.{TermNode}
use Rattle.lp_term.specs.declared.reduce.TermRefusal.{TermRefusal}
use Rattle.lp_term.proofs.Frames.{some_of}
use Rattle.lp_term.proofs.Walks.{map_map}
use Rattle.lp_model.specs.Eigens.{beta_normal}
use Rattle.lp_model.specs.Pair.{Closing, closed}
use Rattle.lp_model.specs.Patterns.{member}
use Rattle.lp_model.specs.Look.{weak_step}
use Rattle.lp_pattern.specs.declared.bindings.Bindings.{Bindings}
use Rattle.lp_pattern.specs.declared.look.Head.{Head}
use Rattle.lp_pattern.specs.declared.look.Looked.{Looked}
use Rattle.lp_pattern.specs.declared.patterns.Name.{Name}
use Rattle.lp_pattern.specs.declared.patterns.Wanted.{Wanted}
use Rattle.lp_pattern.specs.Seen.{IsRigid, IsHead, IsLooked, IsReachedWithin, IsDeepWhere}
use Rattle.lp_pattern.specs.Stripping.{IsShut, IsNoAbstraction, Strips, strip, HasForm, HasNoForm, Comes, is_name, name_term, wanted_at, IsNamed}
use Rattle.lp_pattern.specs.Under.{ValueIs, IsReading, under}
use Rattle.lp_pattern.proofs.Names.{kind, node_kind, kind_of}
use Rattle.lp_pattern.proofs.Naming.{IsLeaf}
use Rattle.lp_pattern.proofs.Sides.{member_is}
use Rattle.lp_pattern.proofs.BetaForms.{weak_leftmost}
use Rattle.lp_pattern.proofs.Opening.{body_closed}
use Rattle.lp_pattern.proofs.Looking.{closed_apply}
use Rattle.lp_pattern.proofs.Stripped.{stripped_form, other_count, no_name, named}

-- names of nodes
nameless : (t : Term) → (kind t ≡ 0 → ⊥) → (kind t ≡ 4 → ⊥) → is_name t ≡ false
nameless (index i) f g = absurd (f refl)
nameless (atom (constant c ts)) f g = refl
nameless (atom (integer z)) f g = refl
nameless (atom (text s)) f g = refl
nameless (atom (eigen k)) f g = absurd (g refl)
nameless (atom (logic x l)) f g = refl
nameless (atom (param k t)) f g = refl
nameless (abs b) f g = refl
nameless (app t u) f g = refl

pub no_name_node : (b : Nodes) (n m : ℕ) (t : Term) (x : TermNode) → TermBelow n m (term_shape x) → node_tree b (term_shape x) ≡ t → (node_kind x ≡ 0 → ⊥) → (node_kind x ≡ 4 → ⊥) → is_name t ≡ false
no_name_node b n m t x l e f g = nameless t (λ q. f (sym (kind_of b n m x l) ∙ ap kind e ∙ q)) (λ q. g (sym (kind_of b n m x l) ∙ ap kind e ∙ q))

-- members
pub has_member : (k : ℕ) (ks : List ℕ) (r b : Bool) → r ≡ list_any (λ c. nat_eq c k) ks → r ≡ true → false ≡ (not (member k ks) && b)
has_member k ks r b e h = ap (λ x. not x && b) (sym h ∙ e ∙ member_is k ks)

pub no_member : (k : ℕ) (ks : List ℕ) (r b : Bool) → r ≡ list_any (λ c. nat_eq c k) ks → r ≡ false → b ≡ (not (member k ks) && b)
no_member k ks r b e h = ap (λ x. not x && b) (sym h ∙ e ∙ member_is k ks)

-- arguments that are to come to indices
wanted_snoc : (n : ℕ) (xs : List TermId) (t : TermId) (p : ℕ) → p ≡ n - length xs - 1 → wanted_at n (xs ++ t ∷ []) ≡ wanted_at n xs ++ record { term = t; place = p } ∷ []
wanted_snoc n [] t p q = let z : n - 1 ≡ p = omega (arith, q) in ap (λ k. record { term = t; place = k } ∷ []) z
wanted_snoc n (x ∷ xs) t p q = ap (λ l. record { term = x; place = n - 1 } ∷ l) (wanted_snoc (n - 1) xs t p (omega (arith, q)))

pub wanted_next : (n place : ℕ) (xs : List TermId) (t : TermId) (old left new : List Wanted) (w : Wanted) → place ≡ n - length xs → left ≡ old ++ wanted_at n xs → new ≡ left ++ w ∷ [] → w ≡ record { term = t; place = place - 1 } →
    new ≡ old ++ wanted_at n (xs ++ t ∷ [])
wanted_next n place xs t old left new w p e f q =
    f ∙ (λ i. e i ++ q i ∷ []) ∙ assoc old (wanted_at n xs) (record { term = t; place = place - 1 } ∷ []) ∙ ap (λ l. old ++ l) (sym (wanted_snoc n xs t (place - 1) (omega (arith, p))))
  where
    assoc : (a b c : List Wanted) → (a ++ b) ++ c ≡ a ++ (b ++ c)
    assoc [] b c = refl
    assoc (x ∷ a) b c = ap (λ l. x ∷ l) (assoc a b c)

-- a term that takes more steps than a million has no form in a million
beta_none : (k n : ℕ) (t s : Term) → n ≤ k → steps weak_step k t ≡ Some s → beta_normal n t ≡ None
beta_none k zero t s l e = refl
beta_none zero (suc n) t s l e = absurd (omega (arith, l))
beta_none (suc k) (suc n) t s l e = go (weak_step t) refl e (λ u q. beta_none k n u s (omega (arith, l)) q)
  where
    go : (o : Option Term) → weak_step t ≡ o → (elim o as (λ z. Option Term) [ None ↦ None | Some u ↦ steps weak_step k u ]) ≡ Some s → ((u : Term) → steps weak_step k u ≡ Some s → beta_normal n u ≡ None) → beta_normal (suc n) t ≡ None
    go None p q f = absurd (cc)
    go (Some u) p q f = ap (λ (x : Option Term). elim x as (λ z. Option Term) [ None ↦ Some t | Some y ↦ beta_normal n y ]) (weak_leftmost t u p) ∙ f u q

pub deep_form : (m : ℕ) (t : Term) (e : TermRefusal) → m ≤ 1000000 → IsDeepWhere 1000000 t e → HasNoForm m t e
deep_form m t (TermRefusal.Deep n) l d = let w = some_of (steps weak_step 1000001 t) d in beta_none 1000001 m t w.0 (omega (arith, l)) w.1
deep_form m t TermRefusal.Memory l d = tt

-- leading abstractions
pub strips_start : (n m : ℕ) (t s : Term) → m ≡ 0 + n → Strips n t s → Strips m t s
strips_start n m t s q h = let z : n ≡ m = omega (arith, q) in transport (λ k. Strips k t s) z h

pub strips_no_form : (n m : ℕ) (t s : Term) (e : TermRefusal) → Strips n t s → HasNoForm m s e → HasNoForm m t e
strips_no_form n m t s (TermRefusal.Deep k) h d = go (beta_normal m t) refl
  where
    go : (o : Option Term) → beta_normal m t ≡ o → o ≡ None
    go None q = refl
    go (Some r) q = absurd (let w = stripped_form h m r q in let x : None ≡ Some w.0 = sym d ∙ w.1 in cc)
strips_no_form n m t s TermRefusal.Memory h d = tt

pub no_abstraction : (h : Head) → ((b : TermId) → h ≡ Head.Abstraction b → ⊥) → IsNoAbstraction h
no_abstraction (Head.Abstraction b) f = f b refl
no_abstraction (Head.Variable x l) f = tt
no_abstraction Head.Rigid f = tt

pub abstraction_whole : (b : Nodes) (s : Bindings) (c : Closing) (r : Looked) (body : TermId) → IsShut c → IsLooked b s r → r.head ≡ Head.Abstraction body → under b c r.whole ≡ abs (under b c body)
abstraction_whole b s c r body h i q =
    let w : IsHead b s (Head.Abstraction body) (tree b r.top.0) r.arguments.items = transport (λ y. IsHead b s y (tree b r.top.0) r.arguments.items) q i.head in
    ap (closed c) (i.made ∙ ap (λ l. apply (tree b r.top.0) (map (λ t. tree b t.0) l)) w.2 ∙ w.0) ∙ ap abs (body_closed c h (tree b body.0))

pub one_stripped : (n limit : ℕ) (b d : Nodes) (s : Bindings) (c : Closing) (r : Looked) (t body : TermId) (z : Term) → IsShut c → IsLooked d s r → r.head ≡ Head.Abstraction body → IsReachedWithin limit (under b c t) (under d c r.whole) →
    Strips n (under d c body) z → Strips (suc n) (under b c t) z
one_stripped n limit b d s c r t body z h i q w x = strip w.0 (under d c body) (w.2 ∙ ap (λ y. Some y) (abstraction_whole d s c r body h i q)) x

-- the head and the arguments of a term that is no abstraction
rigid_is_leaf : (c : Closing) (t : Term) → IsRigid t → IsLeaf (closed c t)
rigid_is_leaf c (index i) h = tt
rigid_is_leaf c (atom (constant k us)) h = tt
rigid_is_leaf c (atom (integer z)) h = tt
rigid_is_leaf c (atom (text s)) h = tt
rigid_is_leaf c (atom (eigen k)) h = tt
rigid_is_leaf c (atom (logic x l)) h = absurd h
rigid_is_leaf c (atom (param k u)) h = tt
rigid_is_leaf c (abs b) h = absurd h
rigid_is_leaf c (app t u) h = absurd h

rigid_nameless : (c : Closing) (t : Term) → IsRigid t → is_name t ≡ false → is_name (closed c t) ≡ false
rigid_nameless c (index i) h e = e
rigid_nameless c (atom (constant k us)) h e = refl
rigid_nameless c (atom (integer z)) h e = refl
rigid_nameless c (atom (text s)) h e = refl
rigid_nameless c (atom (eigen k)) h e = e
rigid_nameless c (atom (logic x l)) h e = absurd h
rigid_nameless c (atom (param k u)) h e = refl
rigid_nameless c (abs b) h e = absurd h
rigid_nameless c (app t u) h e = absurd h

pub whole_is : (b : Nodes) (s : Bindings) (c : Closing) (r : Looked) → IsLooked b s r → under b c r.whole ≡ apply (under b c r.top) (map (under b c) r.arguments.items)
whole_is b s c r k =
    ap (closed c) k.made ∙ closed_apply c (map (λ t. tree b t.0) r.arguments.items) (tree b r.top.0) ∙ ap (apply (under b c r.top)) (map_map (closed c) (λ t. tree b t.0) r.arguments.items)

variable_top : (b : Nodes) (s : Bindings) (c : Closing) (x l : ℕ) (t : Term) (args : List TermId) → IsReading b s c → IsHead b s (Head.Variable x l) t args → closed c t ≡ atom (logic x l)
variable_top b s c x l t args i w = let v : ValueIs b c x None = transport (ValueIs b c x) w.1 (i.terms x) in ap (closed c) w.0 ∙ v l

head_leaf : (b : Nodes) (s : Bindings) (c : Closing) (h : Head) (t : Term) (args : List TermId) → IsReading b s c → IsNoAbstraction h → IsHead b s h t args → IsLeaf (closed c t)
head_leaf b s c (Head.Abstraction body) t args i n w = absurd n
head_leaf b s c (Head.Variable x l) t args i n w = transport IsLeaf (sym (variable_top b s c x l t args i w)) tt
head_leaf b s c Head.Rigid t args i n w = rigid_is_leaf c t w

pub top_leaf : (b : Nodes) (s : Bindings) (c : Closing) (r : Looked) → IsReading b s c → IsLooked b s r → IsNoAbstraction r.head → IsLeaf (under b c r.top)
top_leaf b s c r i k n = head_leaf b s c r.head (tree b r.top.0) r.arguments.items i n k.head

head_nameless : (b : Nodes) (s : Bindings) (c : Closing) (h : Head) (t : Term) (args : List TermId) → IsReading b s c → IsNoAbstraction h → IsHead b s h t args → is_name t ≡ false → is_name (closed c t) ≡ false
head_nameless b s c (Head.Abstraction body) t args i n w e = absurd n
head_nameless b s c (Head.Variable x l) t args i n w e = ap is_name (variable_top b s c x l t args i w)
head_nameless b s c Head.Rigid t args i n w e = rigid_nameless c t w e

name_closed : (c : Closing) (n : Name) → closed c (name_term n) ≡ name_term n
name_closed c (Name.Eigen k) = refl
name_closed c (Name.Index i) = refl

module _ (m n : ℕ) (b d : Nodes) (s : Bindings) (c : Closing) (t : TermId) (r : Looked) (k : IsLooked d s r) (i : IsReading d s c) (a : IsNoAbstraction r.head) (h : Strips n (under b c t) (under d c r.whole)) where
  as_spine : Strips n (under b c t) (apply (under d c r.top) (map (under d c) r.arguments.items))
  as_spine = transport (Strips n (under b c t)) (whole_is d s c r k) h

  pub stripped_count : (length r.arguments.items ≡ n → ⊥) → (x : Term) → is_name x ≡ true → Comes m (under b c t) x → ⊥
  stripped_count f x e w =
      other_count m n (under b c t) (under d c r.top) (map (under d c) r.arguments.items) as_spine (top_leaf d s c r i k a) (λ q. f (sym (mapped r.arguments.items) ∙ q)) x e w
    where
      mapped : (ids : List TermId) → length (map (under d c) ids) ≡ length ids
      mapped [] = refl
      mapped (t ∷ ids) = ap suc (mapped ids)

  pub stripped_none : is_name (tree d r.top.0) ≡ false → (x : Term) → is_name x ≡ true → Comes m (under b c t) x → ⊥
  stripped_none f x e w =
      no_name m n (under b c t) (under d c r.top) (map (under d c) r.arguments.items) as_spine (top_leaf d s c r i k a) (head_nameless d s c r.head (tree d r.top.0) r.arguments.items i a k.head f) x e w

  pub stripped_some : (name : Name) → tree d r.top.0 ≡ name_term name → HasForm m (under b c t) → length r.arguments.items ≡ n → IsNamed m (under b c t) d c (name_term name) n (wanted_at n r.arguments.items)
  stripped_some name e f l =
      transport (λ x. IsNamed m (under b c t) d c x n (wanted_at n r.arguments.items)) (ap (closed c) e ∙ name_closed c name)
      (named m n (under b c t) d c (under d c r.top) r.arguments.items f as_spine (top_leaf d s c r i k a) l)

pub wanted_known : (p n : ℕ) (ids : List TermId) → All (λ t. t.0 < p) ids → All (λ w. w.term.0 < p) (wanted_at n ids)
wanted_known p n [] a = All-nil (λ w. w.term.0 < p)
wanted_known p n (t ∷ ids) a = All-cons (λ w. w.term.0 < p) (record { term = t; place = n - 1 }) (wanted_at (n - 1) ids) (All-head (λ t. t.0 < p) t ids a) (wanted_known p (n - 1) ids (All-tail (λ t. t.0 < p) t ids a))

pub more_wanted : (b d : Nodes) (n : ℕ) (ids : List TermId) (old new : List Wanted) → Extends b d → All (λ w. w.term.0 < length b.terms) old → All (λ t. t.0 < length d.terms) ids → new ≡ old ++ wanted_at n ids →
    All (λ w. w.term.0 < length d.terms) new
more_wanted b d n ids old new e a k q =
    transport (All (λ w. w.term.0 < length d.terms)) (sym q)
    (All-append (λ w. w.term.0 < length d.terms) old (wanted_at n ids) (All-weaker (λ w. w.term.0 < length b.terms) (λ w. w.term.0 < length d.terms) (λ w l. omega (arith, l, e.more_terms)) old a) (wanted_known (length d.terms) n ids k))

pub fewer_left : (n place : ℕ) (xs : List TermId) (t : TermId) → place ≡ n - length xs → place - 1 ≡ n - length (xs ++ t ∷ [])
fewer_left n place xs t e = omega (arith, e, longer xs)
  where
    longer : (xs : List TermId) → length (xs ++ t ∷ []) ≡ suc (length xs)
    longer [] = refl
    longer (x ∷ xs) = ap suc (longer xs)
