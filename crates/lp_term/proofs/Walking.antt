-- The moves of the walk.
use Rattle.std.proofs.Common.{◌≡◌, ℕ, suc, ◌<◌, ◌≤◌, List, [], ◌∷◌, ◌++◌, length, map, refl, sym, ap, ◌∙◌, subst as transport, arith, ◌⊎◌, inl, inr, Bool, true, false, Option, Some, None, length-append, Result, Ok, Err}
use Rattle.std.specs.Prelude.{All, if◌then◌else◌, nat_eq, is_some, OnOk}
use Rattle.std.specs.HashMap.{get}
use Rattle.std.proofs.lemmas.List.Elements.{All-nil, All-cons, All-weaker, All-append, All-head, All-map}
use Rattle.std.proofs.lemmas.Bool.{eqb-true}
use Rattle.std.proofs.lemmas.Bool.Decides.{nat_tests}
use Rattle.lp_term.specs.Node.{TypeShape, var_node, param_node, con_node, arrow_node, TermShape, index_node, const_node, int_node, text_node, eigen_node, logic_node, typed_param_node, abs_node, app_node, TypeBelow, TermBelow}
use Rattle.lp_term.specs.Nodes.{Nodes, IsSound, Extends, term_at, type_at}
use Rattle.lp_term.specs.Mapped.{Map, Told, IsMap, TypeIs, TermIs}
use Rattle.lp_term.specs.declared.becomes.TypeChange.{TypeChange}
use Rattle.lp_term.specs.declared.becomes.TermChange.{TermChange}
use Rattle.lp_term.specs.declared.changed.Changed.{Changed}
use Rattle.lp_term.specs.declared.walked.Node.{Node}
use Rattle.lp_term.specs.declared.walked.Task.{Task}
use Rattle.lp_term.specs.inner.Reading.{read_of}
use Rattle.lp_term.specs.inner.Walking.{node_of, same_node, made_of, IsBegun, visits, type_parts, term_parts, type_detour, term_detour, parts, IsIn, IsRight, IsRightAt, AreRight, weight, IsOpen, Walks, waiting, toil, own, IsNoted, IsVisit, IsMove}
use Rattle.lp_term.proofs.Stacks.{visited_last, visited_before, visited_more, open_before, open_last, open_more, open_here, stacked_skipped, stacked_built, stacked_begun, last_parts, heavier, waiting_less, waiting_falls}
use Rattle.lp_term.proofs.Trees.{type_below, term_below, extends_same}
use Rattle.lp_term.proofs.Weights.{parts_lighter}
use Rattle.lp_term.proofs.Walks.{All-front, All-back}

-- nodes
same_is : (n k : Node) → same_node n k ≡ true → n ≡ k
same_is (Node.Term i) (Node.Term j) e = ap (λ x. Node.Term x) (eqb-true i j e)
same_is (Node.Term i) (Node.Type j) e = absurd (cc)
same_is (Node.Type i) (Node.Term j) e = absurd (cc)
same_is (Node.Type i) (Node.Type j) e = ap (λ x. Node.Type x) (eqb-true i j e)

eq_self : (i : ℕ) → nat_eq i i ≡ true
eq_self i = grind (arith, nat_tests)

same_self : (n : Node) → same_node n n ≡ true
same_self (Node.Term i) = eq_self i
same_self (Node.Type i) = eq_self i

is_some_of : {X : Type 0} (o : Option X) → is_some o ≡ true → (x : X) × (o ≡ Some x)
is_some_of None e = absurd (cc)
is_some_of (Some x) e = (x, refl)

some_is : (x y : ℕ) → Some x ≡ Some y → x ≡ y
some_is x y e = cc

-- what has been noted
begun_here : (n : Node) (j : ℕ) (c e : Changed) → IsNoted n j c e → IsBegun e n
begun_here n j c e h = ap is_some (h n ∙ ap (λ t. if t then Some j else made_of c n) (same_self n))

still_begun : (n : Node) (j : ℕ) (c e : Changed) → IsNoted n j c e → (k : Node) → IsBegun c k → IsBegun e k
still_begun n j c e h k b = go (same_node n k) (h k) where
  go : (t : Bool) → made_of e k ≡ (if t then Some j else made_of c k) → IsBegun e k
  go true q = ap is_some q
  go false q = ap is_some q ∙ b

noted_or_old : (n : Node) (j : ℕ) (c e : Changed) → IsNoted n j c e → (k : Node) (i : ℕ) → made_of e k ≡ Some i → ((n ≡ k) × (j ≡ i)) ⊎ (made_of c k ≡ Some i)
noted_or_old n j c e h k i q = go (same_node n k) refl (sym (h k) ∙ q) where
  go : (t : Bool) → same_node n k ≡ t → (if t then Some j else made_of c k) ≡ Some i → ((n ≡ k) × (j ≡ i)) ⊎ (made_of c k ≡ Some i)
  go true s p = inl (same_is n k s, (cc))
  go false s p = inr p

-- more nodes
pub right_later : (m : Map) (b d e : Nodes) → Extends d e → (n : Node) (j : ℕ) → IsRight m b d n j → IsRight m b e n j
right_later m b d e x (Node.Term i) j h = (omega (arith, h.0, x.more_terms), x.same_terms j h.0 ∙ h.1)
right_later m b d e x (Node.Type i) j h = (omega (arith, h.0, x.more_types), x.same_types j h.0 ∙ h.1)

module _ (f : Told) (m : Map) (b d : Nodes) where
  type_later : (e : Nodes) → Extends d e → (T : _) (k : TypeChange) → TypeIs f m b d T k → TypeIs f m b e T k
  type_later e x T (TypeChange.Var y) h = h
  type_later e x T (TypeChange.Is t) h = (omega (arith, h.0, x.more_types), h.1 ∙ sym (x.same_types t.0 h.0))
  type_later e x T (TypeChange.As t) h = h

  term_later : (e : Nodes) → Extends d e → (s u : _) (k : TermChange) → TermIs f m b d s u k → TermIs f m b e s u k
  term_later e x s u TermChange.Stays h = h
  term_later e x s u (TermChange.Is t) h = (omega (arith, h.0, x.more_terms), h.1 ∙ sym (x.same_terms t.0 h.0))
  term_later e x s u (TermChange.As t) h = h

  pub map_later : (e : Nodes) → Extends d e → IsMap f m b d → IsMap f m b e
  map_later e x M = record {
    kinds = M.kinds;
    constants = M.constants;
    types = λ i. type_later e x (m.types i) (f.types i) (M.types i);
    terms = λ i l. term_later e x (m.terms i l) _ (f.terms i) (M.terms i l);
  }

  inside_front : (ts : List Task) (t : Task) → All (λ t. IsIn b (node_of t)) (ts ++ t ∷ []) → All (λ t. IsIn b (node_of t)) ts × IsIn b (node_of t)
  inside_front ts t a = (All-front (λ t. IsIn b (node_of t)) ts (t ∷ []) a, All-head (λ t. IsIn b (node_of t)) t [] (All-back (λ t. IsIn b (node_of t)) ts (t ∷ []) a))

  -- a node that is begun
  pub keeps_passed : (c : Changed) (ts : List Task) (n first : Node) → IsBegun c n → Walks f m b d c (ts ++ Task.Visit n ∷ []) first → Walks f m b d c ts first
  keeps_passed c ts n first k W = record {
    inside = (inside_front ts (Task.Visit n) W.inside).0;
    stacked = stacked_skipped (parts f b) (weight f m b) (IsBegun c) n ts k W.stacked;
    right = λ q j e. elim (W.right q j e) [ inl h ↦ inl h | inr o ↦ inr (open_before q n ts o) ];
    root = elim W.root [ inl h ↦ inl h | inr v ↦ elim (visited_last first n ts v) [ inl e ↦ inl (transport (IsBegun c) e k) | inr w ↦ inr w ] ];
  }

  visits_inside : (ns : List Node) → All (IsIn b) ns → All (λ t. IsIn b (node_of t)) (visits ns)
  visits_inside [] a = All-nil (λ t. IsIn b (node_of t))
  visits_inside (n ∷ ns) a = All-cons (λ t. IsIn b (node_of t)) (Task.Visit n) (visits ns) (All-head (IsIn b) n ns a) (visits_inside ns (λ k q l. a (suc k) q (omega arith)))

  -- a node that is begun now
  pub keeps_begun : (c e : Changed) (ts : List Task) (n first : Node) → IsSound b → IsMap f m b d → All (IsIn b) (parts f b n) → IsNoted n (own n) c e → Walks f m b d c (ts ++ Task.Visit n ∷ []) first →
      Walks f m b d e (ts ++ Task.Build n ∷ visits (parts f b n)) first
  keeps_begun c e ts n first s M a h W =
      let i = inside_front ts (Task.Visit n) W.inside in
      let us = Task.Build n ∷ visits (parts f b n) in
      record {
        inside = All-append (λ t. IsIn b (node_of t)) ts us i.0 (All-cons (λ t. IsIn b (node_of t)) (Task.Build n) (visits (parts f b n)) i.1 (visits_inside (parts f b n) a));
        stacked = stacked_begun (parts f b) (weight f m b) (IsBegun c) (IsBegun e) n ts (begun_here n (own n) c e h) (still_begun n (own n) c e h) (parts_lighter f m b d s M n i.1) W.stacked;
        right = λ q j x. elim (noted_or_old n (own n) c e h q j x) [
          | inl y ↦ inr (transport (λ z. IsOpen z (ts ++ us)) y.0 (open_here n ts (visits (parts f b n))))
          | inr y ↦ elim (W.right q j y) [ inl r ↦ inl r | inr o ↦ inr (open_more q ts us (open_before q n ts o)) ]
        ];
        root = elim W.root [
          | inl k ↦ inl (still_begun n (own n) c e h first k)
          | inr v ↦ elim (visited_last first n ts v) [ inl y ↦ inl (transport (IsBegun e) y (begun_here n (own n) c e h)) | inr u ↦ inr (visited_more first ts us u) ]
        ];
      }

  -- the parts of the node that is built
  part_right : (c : Changed) (ts : List Task) (n first p : Node) → Walks f m b d c (ts ++ Task.Build n ∷ []) first → IsBegun c p → weight f m b p < weight f m b n → IsRightAt m b d p (made_of c p)
  part_right c ts n first p W k l =
      let j = is_some_of (made_of c p) k in
      transport (IsRightAt m b d p) (sym j.1) (elim (W.right p j.0 j.1) [
        | inl r ↦ r
        | inr o ↦ elim (open_last p n ts o) [
          | inl e ↦ let q : weight f m b n ≡ weight f m b p = ap (weight f m b) e in absurd (omega (arith, q, l))
          | inr u ↦ let q = heavier (parts f b) (weight f m b) (IsBegun c) p n ts W.stacked u in absurd (omega (arith, q, l))
        ]
      ])

  both : {P Q R : Node → Type 0} (ns : List Node) → ((p : Node) → P p → Q p → R p) → All P ns → All Q ns → All R ns
  both ns g a q = λ k x l. g _ (a k x l) (q k x l)

  pub parts_right : (c : Changed) (ts : List Task) (n first : Node) → IsSound b → IsMap f m b d → Walks f m b d c (ts ++ Task.Build n ∷ []) first → All (λ p. IsRightAt m b d p (made_of c p)) (parts f b n)
  parts_right c ts n first s M W =
      both (parts f b n) (λ p k l. part_right c ts n first p W k l) (last_parts (parts f b) (weight f m b) (IsBegun c) n ts W.stacked)
      (parts_lighter f m b d s M n (inside_front ts (Task.Build n) W.inside).1)

  -- a node that is built
  pub keeps_built : (d' : Nodes) (c e : Changed) (ts : List Task) (n first : Node) (j : ℕ) → Extends d d' → IsRight m b d' n j → IsNoted n j c e → Walks f m b d c (ts ++ Task.Build n ∷ []) first →
      Walks f m b d' e ts first
  keeps_built d' c e ts n first j x r h W = record {
    inside = (inside_front ts (Task.Build n) W.inside).0;
    stacked = stacked_built (parts f b) (weight f m b) (IsBegun c) (IsBegun e) n ts (still_begun n j c e h) W.stacked;
    right = λ q i y. elim (noted_or_old n j c e h q i y) [
      | inl z ↦ inl (transport (λ k. IsRight m b d' k i) z.0 (transport (λ k. IsRight m b d' n k) z.1 r))
      | inr z ↦ elim (W.right q i z) [
        | inl g ↦ inl (right_later m b d d' x q i g)
        | inr o ↦ elim (open_last q n ts o) [
          | inl w ↦ old_or_new d' c e n j r h q i y w
          | inr u ↦ inr u
        ]
      ]
    ];
    root = elim W.root [ inl k ↦ inl (still_begun n j c e h first k) | inr v ↦ inr (visited_before first n ts v) ];
  }
    where
      old_or_new : (d' : Nodes) (c e : Changed) (n : Node) (j : ℕ) → IsRight m b d' n j → IsNoted n j c e → (q : Node) (i : ℕ) → made_of e q ≡ Some i → n ≡ q → IsRight m b d' q i ⊎ IsOpen q ts
      old_or_new d' c e n j r h q i y w =
          let z : made_of e q ≡ Some j = h q ∙ ap (λ t. if t then Some j else made_of c q) (ap (λ k. same_node k q) w ∙ same_self q) in
          let v : j ≡ i = some_is j i (sym z ∙ y) in
          inl (transport (λ k. IsRight m b d' q k) v (transport (λ k. IsRight m b d' k j) w r))

  -- parts are in the bank
  type_detour_inside : (T : _) (k : TypeChange) → TypeIs f m b d T k → All (IsIn b) (type_detour k)
  type_detour_inside T (TypeChange.Var y) h = All-nil (IsIn b)
  type_detour_inside T (TypeChange.Is t) h = All-nil (IsIn b)
  type_detour_inside T (TypeChange.As t) h = All-cons (IsIn b) (Node.Type t.0) [] h.0 (All-nil (IsIn b))

  term_detour_inside : (s u : _) (k : TermChange) → TermIs f m b d s u k → All (IsIn b) (term_detour k)
  term_detour_inside s u TermChange.Stays h = All-nil (IsIn b)
  term_detour_inside s u (TermChange.Is t) h = All-nil (IsIn b)
  term_detour_inside s u (TermChange.As t) h = All-cons (IsIn b) (Node.Term t.0) [] h.0 (All-nil (IsIn b))

  types_inside : (n : ℕ) (ids : List ℕ) → n ≤ length b.types → All (λ i. i < n) ids → All (IsIn b) (map (λ i. Node.Type i) ids)
  types_inside n ids l a = All-map (IsIn b) (λ i. Node.Type i) ids (All-weaker (λ i. i < n) (λ i. i < length b.types) (λ i h. omega arith) ids a)

  terms_inside : (n : ℕ) (ids : List ℕ) → n ≤ length b.terms → All (λ i. i < n) ids → All (IsIn b) (map (λ i. Node.Term i) ids)
  terms_inside n ids l a = All-map (IsIn b) (λ i. Node.Term i) ids (All-weaker (λ i. i < n) (λ i. i < length b.terms) (λ i h. omega arith) ids a)

  type_parts_inside : IsMap f m b d → (n : ℕ) (x : TypeShape) → n ≤ length b.types → TypeBelow n x → All (IsIn b) (type_parts f x)
  type_parts_inside M n (var_node x) l h = type_detour_inside (m.types x) (f.types x) (M.types x)
  type_parts_inside M n (param_node k) l h = All-nil (IsIn b)
  type_parts_inside M n (con_node k ids) l h = types_inside n ids l h
  type_parts_inside M n (arrow_node s t) l h = All-cons (IsIn b) (Node.Type s) (Node.Type t ∷ []) (omega (arith, h.0)) (All-cons (IsIn b) (Node.Type t) [] (omega (arith, h.1)) (All-nil (IsIn b)))

  term_parts_inside : IsMap f m b d → (n : ℕ) (x : TermShape) → n ≤ length b.terms → TermBelow (length b.types) n x → All (IsIn b) (term_parts f x)
  term_parts_inside M n (index_node i) l h = All-nil (IsIn b)
  term_parts_inside M n (const_node k ids) l h = types_inside (length b.types) ids (omega arith) h
  term_parts_inside M n (int_node z) l h = All-nil (IsIn b)
  term_parts_inside M n (text_node s) l h = All-nil (IsIn b)
  term_parts_inside M n (eigen_node k) l h = All-nil (IsIn b)
  term_parts_inside M n (logic_node x y) l h = term_detour_inside (m.terms x y) _ (f.terms x) (M.terms x y)
  term_parts_inside M n (typed_param_node k t) l h = All-cons (IsIn b) (Node.Type t) [] h (All-nil (IsIn b))
  term_parts_inside M n (abs_node s) l h = All-cons (IsIn b) (Node.Term s) [] (omega arith) (All-nil (IsIn b))
  term_parts_inside M n (app_node s ids) l h = All-cons (IsIn b) (Node.Term s) (map (λ i. Node.Term i) ids) (omega (arith, h.0)) (terms_inside n ids l h.1)

  pub parts_inside : IsSound b → IsMap f m b d → (n : Node) → IsIn b n → All (IsIn b) (parts f b n)
  parts_inside s M (Node.Term i) l = term_parts_inside M i (term_at b i) (omega arith) (term_below b s i l)
  parts_inside s M (Node.Type i) l = type_parts_inside M i (type_at b i) (omega arith) (type_below b s i l)

-- how much is left
some_choice : {X : Type 0} (t : Bool) (x : X) (o : Option X) → is_some (if t then Some x else o) ≡ (if t then true else is_some o)
some_choice true x o = refl
some_choice false x o = refl

abbrev term_marks : Changed → ℕ → Bool
term_marks c i = is_some (get nat_eq c.terms i)

abbrev type_marks : Changed → ℕ → Bool
type_marks c i = is_some (get nat_eq c.types i)

abbrev term_costs : Told → Nodes → ℕ → ℕ
term_costs f b i = suc (length (term_parts f (term_at b i)))

abbrev type_costs : Told → Nodes → ℕ → ℕ
type_costs f b i = suc (length (type_parts f (type_at b i)))

term_marked : (i j : ℕ) (c e : Changed) → IsNoted (Node.Term i) j c e → (k : ℕ) → term_marks e k ≡ (if nat_eq i k then true else term_marks c k)
term_marked i j c e h k = ap is_some (h (Node.Term k)) ∙ some_choice (nat_eq i k) j (get nat_eq c.terms k)

types_unmarked : (i j : ℕ) (c e : Changed) → IsNoted (Node.Term i) j c e → type_marks e ≡ type_marks c
types_unmarked i j c e h = λ z k. is_some (h (Node.Type k) z)

type_marked : (i j : ℕ) (c e : Changed) → IsNoted (Node.Type i) j c e → (k : ℕ) → type_marks e k ≡ (if nat_eq i k then true else type_marks c k)
type_marked i j c e h k = ap is_some (h (Node.Type k)) ∙ some_choice (nat_eq i k) j (get nat_eq c.types k)

terms_unmarked : (i j : ℕ) (c e : Changed) → IsNoted (Node.Type i) j c e → term_marks e ≡ term_marks c
terms_unmarked i j c e h = λ z k. is_some (h (Node.Term k) z)

length_visits : (ns : List Node) → length (visits ns) ≡ length ns
length_visits [] = refl
length_visits (n ∷ ns) = ap suc (length_visits ns)

less_begun : (f : Told) (b : Nodes) (n : Node) (c e : Changed) (ts : List Task) → IsIn b n → is_some (made_of c n) ≡ false → IsNoted n (own n) c e →
    toil f b e (ts ++ Task.Build n ∷ visits (parts f b n)) < toil f b c (ts ++ Task.Visit n ∷ [])
less_begun f b (Node.Term i) c e ts l k h =
    let p = length_visits (parts f b (Node.Term i)) in
    let q = length-append ts (Task.Build (Node.Term i) ∷ visits (parts f b (Node.Term i))) in
    let r = length-append ts (Task.Visit (Node.Term i) ∷ []) in
    let u = waiting_falls (term_marks c) (term_marks e) (term_costs f b) i (length b.terms) (term_marked i i c e h) l k in
    let v = ap (λ g. waiting g (type_costs f b) (length b.types)) (types_unmarked i i c e h) in
    omega (arith, p, q, r, u, v)
less_begun f b (Node.Type i) c e ts l k h =
    let p = length_visits (parts f b (Node.Type i)) in
    let q = length-append ts (Task.Build (Node.Type i) ∷ visits (parts f b (Node.Type i))) in
    let r = length-append ts (Task.Visit (Node.Type i) ∷ []) in
    let u = waiting_falls (type_marks c) (type_marks e) (type_costs f b) i (length b.types) (type_marked i i c e h) l k in
    let v = ap (λ g. waiting g (term_costs f b) (length b.terms)) (terms_unmarked i i c e h) in
    omega (arith, p, q, r, u, v)

less_built : (f : Told) (b : Nodes) (n : Node) (j : ℕ) (c e : Changed) (ts : List Task) → IsNoted n j c e → toil f b e ts < toil f b c (ts ++ Task.Build n ∷ [])
less_built f b (Node.Term i) j c e ts h =
    let r = length-append ts (Task.Build (Node.Term i) ∷ []) in
    let u = waiting_less (term_marks c) (term_marks e) (term_costs f b) i (length b.terms) (term_marked i j c e h) in
    let v = ap (λ g. waiting g (type_costs f b) (length b.types)) (types_unmarked i j c e h) in
    omega (arith, r, u, v)
less_built f b (Node.Type i) j c e ts h =
    let r = length-append ts (Task.Build (Node.Type i) ∷ []) in
    let u = waiting_less (type_marks c) (type_marks e) (type_costs f b) i (length b.types) (type_marked i j c e h) in
    let v = ap (λ g. waiting g (term_costs f b) (length b.terms)) (terms_unmarked i j c e h) in
    omega (arith, r, u, v)

less_passed : (f : Told) (b : Nodes) (c : Changed) (ts : List Task) (t : Task) → toil f b c ts < toil f b c (ts ++ t ∷ [])
less_passed f b c ts t = omega (arith, length-append ts (t ∷ []))

-- the moves
passed_moves : (f : Told) (b d : Nodes) (n : Node) (c : Changed) (ts : List Task) → IsBegun c n ⊎ (IsIn b n → ⊥) → IsMove f b d d c c (ts ++ Task.Visit n ∷ []) ts
passed_moves f b d n c ts (inl k) = record { less = less_passed f b c ts (Task.Visit n); keeps = λ m first M W. keeps_passed f m b d c ts n first k W }
passed_moves f b d n c ts (inr o) = record {
  less = less_passed f b c ts (Task.Visit n);
  keeps = λ m first M W. absurd (o (All-head (λ t. IsIn b (node_of t)) (Task.Visit n) [] (All-back (λ t. IsIn b (node_of t)) ts (Task.Visit n ∷ []) W.inside)));
}

pub visit_moves : (f : Told) (b d : Nodes) (n : Node) (c e : Changed) (ts us : List Task) → IsSound b → IsVisit f b n c e ts us → IsMove f b d d c e (ts ++ Task.Visit n ∷ []) us
visit_moves f b d n c e ts us s (inl p) =
    transport (λ x. IsMove f b d d c x (ts ++ Task.Visit n ∷ []) us) (sym p.made) (transport (λ x. IsMove f b d d c c (ts ++ Task.Visit n ∷ []) x) (sym p.tasks) (passed_moves f b d n c ts p.reason))
visit_moves f b d n c e ts us s (inr p) =
    transport (IsMove f b d d c e (ts ++ Task.Visit n ∷ [])) (sym p.tasks) (record {
      less = less_begun f b n c e ts p.inside p.new p.noted;
      keeps = λ m first M W. keeps_begun f m b d c e ts n first s M (parts_inside f m b d s M n p.inside) p.noted W;
    })

pub build_moves : (f : Told) (b d d' : Nodes) (n : Node) (j : ℕ) (c e : Changed) (ts : List Task) → Extends d d' → IsSound b → IsNoted n j c e →
    ((m : Map) → IsIn b n → IsMap f m b d → All (λ p. IsRightAt m b d p (made_of c p)) (parts f b n) → IsRight m b d' n j) → IsMove f b d d' c e (ts ++ Task.Build n ∷ []) ts
build_moves f b d d' n j c e ts x s h r = record {
  less = less_built f b n j c e ts h;
  keeps = λ m first M W.
      let i = All-head (λ t. IsIn b (node_of t)) (Task.Build n) [] (All-back (λ t. IsIn b (node_of t)) ts (Task.Build n ∷ []) W.inside) in
      keeps_built f m b d d' c e ts n first j x (r m i M (parts_right f m b d c ts n first s M W)) h W;
}

-- the first visit, and the end
pub walk_begins : (f : Told) (m : Map) (b d : Nodes) (c : Changed) (n : Node) (ts : List Task) → ts ≡ Task.Visit n ∷ [] → IsIn b n → AreRight m b d c → Walks f m b d c ts n
walk_begins f m b d c n ts e i r = transport (λ l. Walks f m b d c l n) (sym e) (record {
  inside = All-cons (λ t. IsIn b (node_of t)) (Task.Visit n) [] i (All-nil (λ t. IsIn b (node_of t)));
  stacked = tt;
  right = λ q j g. inl (r q j g);
  root = inr (inl refl);
})

pub walk_ends : (f : Told) (m : Map) (b d : Nodes) (c : Changed) (n : Node) (ts : List Task) → ts ≡ [] → Walks f m b d c ts n → AreRight m b d c × IsBegun c n
walk_ends f m b d c n ts e W =
    let V : Walks f m b d c [] n = transport (λ l. Walks f m b d c l n) e W in (
      λ q j g. elim (V.right q j g) [ inl r ↦ r | inr o ↦ absurd o ],
      elim V.root [ inl k ↦ k | inr v ↦ absurd v ],
    )

pub on_ok : {T E : Type 0} (r : Result T E) (P Q : Type 0) → (P → Q) → OnOk r P → OnOk r Q
on_ok (Ok x) P Q g h = g h
on_ok (Err e) P Q g h = h

pub reading_later : (here : Bool) (a d e : Nodes) → Extends d e → Extends (read_of here a d) (read_of here a e)
reading_later true a d e x = x
reading_later false a d e x = extends_same a
