-- An atom is provable exactly by the candidates: its proof begins with a clause, a clause that serves for it passes their tests, and a candidate that
-- serves begins a proof.
use Rattle.lp_proof_laws.proofs.Uniform.Settings.{IsSetting}
use Rattle.std.proofs.Common.{◌≡◌, ℕ, zero, suc, ◌+◌, ◌≤◌, List, [], ◌∷◌, ◌++◌, map, length, ◌∙◌, refl, sym, ap, subst as transport, arith, inl, inr, Bool, true, false, Some}
use Rattle.std.specs.Prelude.{◌⊎◌, cond, filter, slice_get}
use Rattle.lp_calculus.specs.Types.{Ty}
use Rattle.lp_calculus.specs.Term.{Term, index, atom, abs, app, apply}
use Rattle.lp_calculus.specs.Spine.{head_of, arguments}
use Rattle.lp_lemmas.specs.Each.{AnyOf, EachOf}
use Rattle.lp_model.specs.Pair.{Closing, closed}
use Rattle.lp_model.specs.Search.{candidates, has_head, passes}
use Rattle.lp_model.specs.Flat.{Clause, clause}
use Rattle.lp_model.specs.Flatten.{ClauseFormula}
use Rattle.lp_model.specs.Proofs.{by_failure, Declared, IsFormula, IsAtomHead, Back, RootedBy, trivially, both_sides, left_side, right_side, at_witness, for_all, under_assumption, equally, by_arithmetic, by_clause, Leaves, ProvableBy}
use Rattle.lp_proof_laws.proofs.Uniform.Contexts.{get_front, get_back, get_split}
use Rattle.lp_proof_laws.proofs.Uniform.Forms.{apply_arguments}
use Rattle.lp_proof_laws.proofs.Uniform.Roots.{rooted_by}
use Rattle.lp_search_laws.specs.Holds.{Holds}
use Rattle.lp_search_laws.specs.Clauses.{with_own, Serves, IsInFocus, sentence_of, assumed_as, assumed_at, clauses_at, IsProgramClause, IsAssumedClause}
use Rattle.lp_search_laws.proofs.AssumedLists.{got_assumed, get_assumed}
use Rattle.lp_search_laws.proofs.ClosedClauses.{atom_closed}
use Rattle.lp_search_laws.proofs.ClauseTypes.{sentence_serves, serves_sentence, assumed_serves, serves_assumed}
use Rattle.lp_search_laws.proofs.Meeting.{head_passes, first_passes, and_true}

-- lists

any_front : {X : Type 0} (Q : X → Type 0) (xs ys : List X) → AnyOf Q xs → AnyOf Q (xs ++ ys)
any_front Q [] ys h = absurd h
any_front Q (x ∷ xs) ys h = elim h [ inl q ↦ inl q | inr q ↦ inr (any_front Q xs ys q) ]

any_back : {X : Type 0} (Q : X → Type 0) (xs ys : List X) → AnyOf Q ys → AnyOf Q (xs ++ ys)
any_back Q [] ys h = h
any_back Q (x ∷ xs) ys h = inr (any_back Q xs ys h)

any_split : {X : Type 0} (Q : X → Type 0) (xs ys : List X) → AnyOf Q (xs ++ ys) → AnyOf Q xs ⊎ AnyOf Q ys
any_split Q [] ys h = inr h
any_split Q (x ∷ xs) ys h = elim h [
  | inl q ↦ inl (inl q)
  | inr q ↦ elim (any_split Q xs ys q) [ inl r ↦ inl (inr r) | inr r ↦ inr r ]
]

any_here : {X : Type 0} (Q : X → Type 0) (b : Bool) (x : X) (xs : List X) → b ≡ true → Q x → AnyOf Q (cond b (x ∷ xs) xs)
any_here Q true x xs e q = inl q
any_here Q false x xs e q = absurd (cc)

any_later : {X : Type 0} (Q : X → Type 0) (b : Bool) (x : X) (xs : List X) → AnyOf Q xs → AnyOf Q (cond b (x ∷ xs) xs)
any_later Q true x xs h = inr h
any_later Q false x xs h = h

into_filter : {X : Type 0} (Q : X → Type 0) (p : X → Bool) (xs : List X) (i : ℕ) (x : X) → slice_get xs i ≡ Some x → p x ≡ true → Q x → AnyOf Q (filter p xs)
into_filter Q p [] i x g e q = absurd (cc)
into_filter Q p (y ∷ xs) zero x g e q = let f : y ≡ x = cc in any_here Q (p y) y (filter p xs) (ap p f ∙ e) (transport Q (sym f) q)
into_filter Q p (y ∷ xs) (suc i) x g e q = any_later Q (p y) y (filter p xs) (into_filter Q p xs i x g e q)

-- an element, by its place
record Among {X : Type 0} (Q : X → Type 0) (xs : List X) : Type 0 where
  place : ℕ
  element : X
  is : slice_get xs place ≡ Some element
  holds : Q element

among_later : {X : Type 0} (Q : X → Type 0) (y : X) (xs : List X) → Among Q xs → Among Q (y ∷ xs)
among_later Q y xs h = record { place = suc h.place; element = h.element; is = h.is; holds = h.holds }

out_of_cond : {X : Type 0} (Q : X → Type 0) (b : Bool) (y : X) (xs ys : List X) → AnyOf Q (cond b (y ∷ ys) ys) → (AnyOf Q ys → Among Q xs) → Among Q (y ∷ xs)
out_of_cond Q true y xs ys h f = elim h [
  | inl q ↦ record { place = 0; element = y; is = refl; holds = q }
  | inr q ↦ among_later Q y xs (f q)
]
out_of_cond Q false y xs ys h f = among_later Q y xs (f h)

out_of_filter : {X : Type 0} (Q : X → Type 0) (p : X → Bool) (xs : List X) → AnyOf Q (filter p xs) → Among Q xs
out_of_filter Q p [] h = absurd h
out_of_filter Q p (y ∷ xs) h = out_of_cond Q (p y) y xs (filter p xs) h (λ q. out_of_filter Q p xs q)

each_at : {X : Type 0} (K : X → Type 0) (xs : List X) (i : ℕ) (x : X) → EachOf K xs → slice_get xs i ≡ Some x → K x
each_at K [] i x h g = absurd (cc)
each_at K (y ∷ xs) zero x h g = let f : y ≡ x = cc in transport K f h.0
each_at K (y ∷ xs) (suc i) x h g = each_at K xs i x h.1 g

get_map : {X Y : Type 0} (f : X → Y) (xs : List X) (i : ℕ) (x : X) → slice_get xs i ≡ Some x → slice_get (map f xs) i ≡ Some (f x)
get_map f [] i x g = absurd (cc)
get_map f (y ∷ xs) zero x g = let e : y ≡ x = cc in ap (λ z. Some (f z)) e
get_map f (y ∷ xs) (suc i) x g = get_map f xs i x g

got_map : {X Y : Type 0} (f : X → Y) (xs : List X) (i : ℕ) (y : Y) → slice_get (map f xs) i ≡ Some y → Among (λ x. f x ≡ y) xs
got_map f [] i y g = absurd (cc)
got_map f (x ∷ xs) zero y g = let e : f x ≡ y = cc in record { place = 0; element = x; is = refl; holds = e }
got_map f (x ∷ xs) (suc i) y g = among_later (λ z. f z ≡ y) x xs (got_map f xs i y g)

-- the clause that a proof of an atom begins with
record Begins (L : Leaves) (d : Declared) (E : List Ty) (R : List ClauseFormula) (G : Term) : Type 0 where
  place : ℕ
  clause : ClauseFormula
  is : slice_get R place ≡ Some clause
  focus : IsInFocus L d E R clause G

begins : {L : Leaves} (d : Declared) (E : List Ty) (R : List ClauseFormula) (G : Term) → IsAtomHead (head_of G) → RootedBy L d E R G → Begins L d E R G
begins {L} d E R G i (trivially (inl e)) = let m : 32 ≤ 6 = transport (λ z. IsAtomHead (head_of z)) e i in absurd (omega arith)
begins {L} d E R G i (trivially (inr e)) = let m : 32 ≤ 7 = transport (λ z. IsAtomHead (head_of z)) e i in absurd (omega arith)
begins {L} d E R G i (both_sides X Y e p q) = let m : 32 ≤ 0 = transport (λ z. IsAtomHead (head_of z)) e i in absurd (omega arith)
begins {L} d E R G i (left_side X Y e p) = let m : 32 ≤ 1 = transport (λ z. IsAtomHead (head_of z)) e i in absurd (omega arith)
begins {L} d E R G i (right_side X Y e p) = let m : 32 ≤ 1 = transport (λ z. IsAtomHead (head_of z)) e i in absurd (omega arith)
begins {L} d E R G i (at_witness U r t e w p) = let m : 32 ≤ 5 = transport (λ z. IsAtomHead (head_of z)) e i in absurd (omega arith)
begins {L} d E R G i (for_all U r e p) = let m : 32 ≤ 4 = transport (λ z. IsAtomHead (head_of z)) e i in absurd (omega arith)
begins {L} d E R G i (under_assumption X Y (inl e) p) = let m : 32 ≤ 2 = transport (λ z. IsAtomHead (head_of z)) e i in absurd (omega arith)
begins {L} d E R G i (under_assumption X Y (inr e) p) = let m : 32 ≤ 3 = transport (λ z. IsAtomHead (head_of z)) e i in absurd (omega arith)
begins {L} d E R G i (equally U x y e v) = let m : 32 ≤ 8 = transport (λ z. IsAtomHead (head_of z)) e i in absurd (omega arith)
begins {L} d E R G i (by_arithmetic (inl h)) = let m : 32 ≤ 9 = transport (λ z. IsAtomHead (head_of z)) h.4 i in absurd (omega arith)
begins {L} d E R G i (by_arithmetic (inr h)) = let m : 32 ≤ h.0 = transport (λ z. IsAtomHead (head_of z)) h.7 i in let n = h.6 in absurd (omega (arith, m, n))
begins {L} d E R G i (by_failure K e f h) = let m : 32 ≤ 24 = transport (λ z. IsAtomHead (head_of z)) e i in absurd (omega arith)
begins {L} d E R G i (by_clause j D ts e l k h r) = record { place = j; clause = D; is = e; focus = record { types = ts; long = l; types_closed = k; focus = r } }

atom_begins : {L : Leaves} (d : Declared) → IsSetting L d → (E : List Ty) (R : List ClauseFormula) (G : Term) → IsAtomHead (head_of G) → IsFormula d E G → ProvableBy L d E R G → Begins L d E R G
atom_begins {L} d std E R G i f p = go (head_of G) refl i
  where
    go : (k : Term) → head_of G ≡ k → IsAtomHead k → Begins L d E R G
    go (atom a) e j =
        let q : G ≡ apply (atom a) (arguments G) = sym (apply_arguments G []) ∙ ap (λ k. apply k (arguments G)) e in
        begins d E R G i (transport (RootedBy L d E R) (sym q) (rooted_by L d std.standard E R a (arguments G) (transport (IsFormula d E) q f) (std.converting R) (transport (ProvableBy L d E R) q p)))
    go (index n) e j = absurd j
    go (abs b) e j = absurd j
    go (app u v) e j = absurd j

focus_proves : {L : Leaves} (d : Declared) (E : List Ty) (R : List ClauseFormula) (G : Term) (i : ℕ) (D : ClauseFormula) → IsAtomHead (head_of G) → slice_get R i ≡ Some D → IsInFocus L d E R D G → ProvableBy L d E R G
focus_proves {L} d E R G i D h g r = record { proof = Back i r.types r.focus.focus; holds = (D, g, r.long, r.types_closed, h, r.focus.holds) }

-- what serves passes
serving_has_head : (L : Leaves) (d : Declared) (E : List Ty) (R : List ClauseFormula) (c : Closing) (t : Term) (x : Clause) → IsAssumedClause d E c x → IsAtomHead (head_of t) → Serves L d E R c x (closed c t) → has_head t x ≡ true
serving_has_head L d E R c t (clause k vs h b) p i s = head_passes _ (with_own k s.types c) c h t p.head i s.applies.head

serving_passes : (L : Leaves) (d : Declared) (E : List Ty) (R : List ClauseFormula) (c : Closing) (t : Term) (x : Clause) → IsProgramClause d x → IsAtomHead (head_of t) → Serves L d E R c x (closed c t) → passes t x ≡ true
serving_passes L d E R c t (clause k vs h b) p i s =
    and_true _ _ (head_passes _ (with_own k s.types c) c h t p.head i s.applies.head) (first_passes _ (with_own k s.types c) c h t p.head i s.applies.head)

module _ {L : Leaves} (d : Declared) (std : IsSetting L d) (E : List Ty) (P A : List Clause) (c : Closing) (t : Term) (ps : EachOf (IsProgramClause d) P) (as' : EachOf (IsAssumedClause d E c) A) (i : IsAtomHead (head_of t)) where
  abbrev R : List ClauseFormula
  R = clauses_at P A c

  abbrev G : Term
  G = closed c t

  pub some_candidate : IsFormula d E (closed c t) → Holds L d E (clauses_at P A c) c t → AnyOf (λ x. Serves L d E (clauses_at P A c) c x (closed c t)) (candidates P A t)
  some_candidate f p =
      let b = atom_begins d std E R G (atom_closed c t i) f p in
      elim (get_split (map sentence_of P) (assumed_at c A) b.place b.clause b.is) [
        | inl g ↦
            let x = got_map sentence_of P b.place b.clause g in
            let q = each_at (IsProgramClause d) P x.place x.element ps x.is in
            let s = sentence_serves d std E R c G (atom_closed c t i) x.element q (transport (λ D. IsInFocus L d E R D G) (sym x.holds) b.focus) in
            any_back (λ y. Serves L d E R c y G) (filter (has_head t) A) (filter (passes t) P) (into_filter (λ y. Serves L d E R c y G) (passes t) P x.place x.element x.is (serving_passes _ d E R c t x.element q i s) s)
        | inr g ↦
            let x = got_assumed c A g.0 b.clause g.2 in
            let q = each_at (IsAssumedClause d E c) A x.place x.clause as' x.is in
            let s = assumed_serves d std E R c G (atom_closed c t i) x.clause q (transport (λ D. IsInFocus L d E R D G) (sym x.made) b.focus) in
            any_front (λ y. Serves L d E R c y G) (filter (has_head t) A) (filter (passes t) P) (into_filter (λ y. Serves L d E R c y G) (has_head t) A x.place x.clause x.is (serving_has_head _ d E R c t x.clause q i s) s)
      ]

  pub candidate_proves : AnyOf (λ x. Serves L d E (clauses_at P A c) c x (closed c t)) (candidates P A t) → Holds L d E (clauses_at P A c) c t
  candidate_proves h = elim (any_split (λ x. Serves L d E R c x G) (filter (has_head t) A) (filter (passes t) P) h) [
    | inl r ↦
        let x = out_of_filter (λ y. Serves L d E R c y G) (has_head t) A r in
        let q = each_at (IsAssumedClause d E c) A x.place x.element as' x.is in
        let y = get_assumed c A x.place x.element x.is in
        let g = get_back (map sentence_of P) (assumed_at c A) y.0 ∙ y.1 in
        focus_proves d E R G (length (map sentence_of P) + y.0) (assumed_as c x.element) (atom_closed c t i) g (serves_assumed d std E R c G (atom_closed c t i) x.element q x.holds)
    | inr r ↦
        let x = out_of_filter (λ y. Serves L d E R c y G) (passes t) P r in
        let q = each_at (IsProgramClause d) P x.place x.element ps x.is in
        let g = get_front (map sentence_of P) (assumed_at c A) x.place (sentence_of x.element) (get_map sentence_of P x.place x.element x.is) in
        focus_proves d E R G x.place (sentence_of x.element) (atom_closed c t i) g (serves_sentence d std E R c G (atom_closed c t i) x.element q x.holds)
  ]
