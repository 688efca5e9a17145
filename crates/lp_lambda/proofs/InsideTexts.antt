-- What is accepted inside a term is pattern text.
use Rattle.std.proofs.Common.{◌≡◌, ℕ, zero, suc, ◌<◌, List, [], ◌∷◌, ◌++◌, map, length, Bool, true, false, Some, refl, sym, ap, ◌∙◌, subst as transport, arith}
use Rattle.std.specs.Prelude.{slice_get, nat_eq, nat_lt, not, ◌||◌}
use Rattle.std.proofs.lemmas.Bool.Decides.{nat_tests}
use Rattle.lp_lemmas.proofs.Booleans.{and_true_left, and_true_right}
use Rattle.lp_calculus.specs.Types.{Ty}
use Rattle.lp_calculus.specs.Term.{Term, Atom, index, atom, abs, app, apply, constant, integer, text, eigen, logic, param}
use Rattle.lp_calculus.specs.Closed.{AllAtoms}
use Rattle.lp_calculus.specs.Fill.{Within}
use Rattle.lp_calculus.specs.Normal.{IsHead}
use Rattle.lp_calculus.specs.Spine.{head_of, arguments}
use Rattle.lp_lemmas.specs.Each.{EachOf}
use Rattle.lp_term.specs.Facts.{IsNoAbstraction}
use Rattle.lp_proof_laws.proofs.Uniform.Forms.{apply_arguments}
use Rattle.lp_search_laws.specs.Started.{IsQueryAtom}
use Rattle.lp_search_laws.proofs.AtomsKept.{atoms_apply}
use Rattle.lp_pattern_laws.specs.Binders as around
use Rattle.lp_pattern_laws.specs.Binders.{universal, existential, IsNewIn, IsNewAt, IsPatternIn, index_in, atom_in, abs_in, rigid_in, name_in, IsRigidIn, atom_head, name_head, more_on}
use Rattle.lp_pattern_laws.specs.Goals.{IsTextAtom}
use Rattle.lp_pattern_laws.specs.Parts.{existentials}
use Rattle.lp_pattern_laws.specs.Patterns.{bound, an_index, IsRigidAtom}
use Rattle.lp_pattern_laws.proofs.Parted.{headed_each}
use Rattle.lp_pattern_laws.proofs.PlainTerms.{IsPlain}
use Rattle.lp_lambda.specs.Pattern.{Part, inside, binder_of, is_universal, is_index, is_among, is_name, are_names, is_sigma, only, variable_parts, inside_parts}
use Rattle.lp_lambda.specs.declared.walk.Position.TheVariants.{Inside}
use Rattle.lp_lambda.specs.declared.walk.Binder.{Binder}
use Rattle.lp_lambda.specs.declared.walk.Binder.TheVariants.{Existential, Universal}

abbrev pub as_binder : Binder → around.Binder
as_binder Existential = existential
as_binder Universal = universal

-- what binds the indices of a part, with variables around it
abbrev pub binders_of : List Ty → List Binder → List around.Binder
binders_of Vs bs = map as_binder bs ++ existentials Vs

universal_at : (Vs : List Ty) (bs : List Binder) (i : ℕ) → binder_of bs i ≡ Universal → slice_get (binders_of Vs bs) i ≡ Some universal
universal_at Vs [] i e = absurd (cc)
universal_at Vs (b ∷ bs) zero e = ap (λ x. Some (as_binder x)) e
universal_at Vs (b ∷ bs) (suc i) e = universal_at Vs bs i e

variable_at : (Vs : List Ty) (i : ℕ) → i < length (existentials Vs) → slice_get (existentials Vs) i ≡ Some existential
variable_at [] i l = absurd (omega (arith, l))
variable_at (V ∷ Vs) zero l = refl
variable_at (V ∷ Vs) (suc i) l = variable_at Vs i (omega (arith, l))

existential_at : (Vs : List Ty) (bs : List Binder) (i : ℕ) → i < length (binders_of Vs bs) → binder_of bs i ≡ Existential → slice_get (binders_of Vs bs) i ≡ Some existential
existential_at Vs [] i l e = variable_at Vs i l
existential_at Vs (b ∷ bs) zero l e = ap (λ x. Some (as_binder x)) e
existential_at Vs (b ∷ bs) (suc i) l e = existential_at Vs bs i (omega (arith, l)) e

is_there : (b : Binder) → is_universal b ≡ true → b ≡ Universal
is_there Existential e = absurd (cc)
is_there Universal e = refl

not_true : (b : Bool) → not b ≡ true → b ≡ false
not_true true e = absurd (cc)
not_true false e = refl

or_left : (a b : Bool) → (a || b) ≡ false → a ≡ false
or_left true b e = absurd (cc)
or_left false b e = refl

or_right : (a b : Bool) → (a || b) ≡ false → b ≡ false
or_right true b e = absurd (cc)
or_right false b e = e

none_among : (j : ℕ) (us : List Term) → is_among j us ≡ false → EachOf (λ u. (i : ℕ) → u ≡ index i → j ≡ i → ⊥) us
none_among j [] e = tt
none_among j (u ∷ us) e = (other, none_among j us (or_right (is_index j u) (is_among j us) e))
  where
    other : (i : ℕ) → u ≡ index i → j ≡ i → ⊥
    other i is same =
        let q : nat_eq i j ≡ false = ap (is_index j) (sym is) ∙ or_left (is_index j u) (is_among j us) e in
        let r : nat_eq i j ≡ true = grind (arith, nat_tests) in
        let z : true ≡ false = sym r ∙ q in cc

-- a name of an existential variable
record IsNameOf (bs : List Binder) (i : ℕ) (u : Term) (us : List Term) : Type 0 where
  at : ℕ
  is : u ≡ index at
  below : at < i
  bound_there : binder_of bs at ≡ Universal
  alone : is_among at us ≡ false

name_of : (bs : List Binder) (i : ℕ) (u : Term) (us : List Term) → is_name bs i u us ≡ true → IsNameOf bs i u us
name_of bs i (index j) us e =
    let a = and_true_left (nat_lt j i) _ e in
    let r = and_true_right (nat_lt j i) _ e in
    record {
      at = j;
      is = refl;
      below = grind (arith, nat_tests);
      bound_there = is_there (binder_of bs j) (and_true_left (is_universal (binder_of bs j)) _ r);
      alone = not_true (is_among j us) (and_true_right (is_universal (binder_of bs j)) _ r);
    }
name_of bs i (atom a) us e = absurd (cc)
name_of bs i (abs b) us e = absurd (cc)
name_of bs i (app t u) us e = absurd (cc)

index_same : (i j : ℕ) → index i ≡ index j → i ≡ j
index_same i j e = let q : i ≡ j = cc in q

names_below : (bs : List Binder) (i : ℕ) (us : List Term) → are_names bs i us ≡ true → EachOf (λ u. (j : ℕ) → u ≡ index j → j < i) us
names_below bs i [] e = tt
names_below bs i (u ∷ us) e =
    let n = name_of bs i u us (and_true_left (is_name bs i u us) _ e) in
    ((λ j is. transport (λ x. x < i) (index_same n.at j (sym n.is ∙ is)) n.below), names_below bs i us (and_true_right (is_name bs i u us) _ e))

names_atoms : (P : Atom → Type 0) (bs : List Binder) (i : ℕ) (us : List Term) → are_names bs i us ≡ true → EachOf (AllAtoms P) us
names_atoms P bs i [] e = tt
names_atoms P bs i (u ∷ us) e =
    let n = name_of bs i u us (and_true_left (is_name bs i u us) _ e) in
    (transport (AllAtoms P) (sym n.is) tt, names_atoms P bs i us (and_true_right (is_name bs i u us) _ e))

module _ (Vs : List Ty) (bs : List Binder) where
  abbrev AreNew : Term → List Term → Type 0
  AreNew f us = EachOf (λ u. (j : ℕ) → u ≡ index j → IsNewIn (binders_of Vs bs) (bound j) f) us

  on_names : (i : ℕ) (us : List Term) (f : Term) → are_names bs i us ≡ true → IsPatternIn (binders_of Vs bs) f → AreNew f us → IsPatternIn (binders_of Vs bs) (apply f us)
  on_names i [] f e p new = p
  on_names i (u ∷ us) f e p new =
      let n = name_of bs i u us (and_true_left (is_name bs i u us) _ e) in
      let there = universal_at Vs bs n.at n.bound_there in
      let one : IsPatternIn (binders_of Vs bs) (app f u) = transport (λ x. IsPatternIn (binders_of Vs bs) (app f x)) (sym n.is) (name_in {n = bound n.at} there p (an_index n.at) (new.0 n.at n.is)) in
      on_names i us (app f u) (and_true_right (is_name bs i u us) _ e) one (later n.at n.is there us (none_among n.at us n.alone) new.1)
    where
      later : (k : ℕ) → u ≡ index k → slice_get (binders_of Vs bs) k ≡ Some universal → (vs : List Term) → EachOf (λ v. (j : ℕ) → v ≡ index j → k ≡ j → ⊥) vs → AreNew f vs → AreNew (app f u) vs
      later k is there [] apart w = tt
      later k is there (v ∷ vs) apart w = (
        (λ j at. (w.0 j at, transport (IsNewIn (binders_of Vs bs) (bound j)) (sym is) (transport (λ o. IsNewAt o (bound j) k) (sym there) (apart.0 j at)))),
        later k is there vs apart.1 w.1,
      )

  variable_text : (i : ℕ) (us : List Term) → are_names bs i us ≡ true → slice_get (binders_of Vs bs) i ≡ Some existential → IsPatternIn (binders_of Vs bs) (apply (index i) us)
  variable_text i us e there = on_names i us (index i) e (index_in i there) (first us (names_below bs i us e))
    where
      first : (vs : List Term) → EachOf (λ v. (j : ℕ) → v ≡ index j → j < i) vs → AreNew (index i) vs
      first [] w = tt
      first (v ∷ vs) w = ((λ j at. transport (λ o. IsNewAt o (bound j) i) (sym there) (w.0 j at)), first vs w.1)

  rigid_text : (us : List Term) (h : Term) → IsRigidIn (binders_of Vs bs) h → IsPatternIn (binders_of Vs bs) h → EachOf
      (IsPatternIn (binders_of Vs bs)) us → IsPatternIn (binders_of Vs bs) (apply h us)
  rigid_text [] h r p w = p
  rigid_text (u ∷ us) h r p w = rigid_text us (app h u) (more_on r) (rigid_in r p w.0) w.1

-- what a part inside a term is
module _ (k : ℕ) (Vs : List Ty) where
  abbrev pub IsInsideText : List Binder → Term → Type 0
  IsInsideText bs t = IsPlain t → Within (IsQueryAtom k) (length (binders_of Vs bs)) t → IsPatternIn (binders_of Vs bs) t × AllAtoms IsTextAtom t

  abbrev IsGiven : List Binder → Term → Type 0
  IsGiven bs t = IsPlain t × Within (IsQueryAtom k) (length (binders_of Vs bs)) t

  given_arguments : (bs : List Binder) (t : Term) → IsHead (head_of t) → IsPlain t → Within (IsQueryAtom k) (length (binders_of Vs bs)) t → EachOf (IsGiven bs) (arguments t)
  given_arguments bs t h p w = headed_each (IsGiven bs) (λ f a i q. ((q.0.1, q.1.0), (q.0.2, q.1.1))) t [] h (p, w) tt

  each_pattern : (bs : List Binder) (us : List Term) → EachOf (IsInsideText bs) us → EachOf (IsGiven bs) us → EachOf (IsPatternIn (binders_of Vs bs)) us × EachOf (AllAtoms IsTextAtom) us
  each_pattern bs [] h g = (tt, tt)
  each_pattern bs (u ∷ us) h g = let q = h.0 g.0.0 g.0.1 in let r = each_pattern bs us h.1 g.1 in ((q.0, r.0), (q.1, r.1))

  -- a term on its head
  on_head : (t h : Term) → head_of t ≡ h → apply h (arguments t) ≡ t
  on_head t h e = transport (λ z. apply z (arguments t) ≡ t) e (apply_arguments t [])

  spelt : (bs : List Binder) (t h : Term) → head_of t ≡ h → IsPatternIn (binders_of Vs bs) (apply h (arguments t)) → AllAtoms IsTextAtom
      (apply h (arguments t)) → IsPatternIn (binders_of Vs bs) t × AllAtoms IsTextAtom t
  spelt bs t h e p w = (transport (IsPatternIn (binders_of Vs bs)) (on_head t h e) p, transport (AllAtoms IsTextAtom) (on_head t h e) w)

  head_within : (n : ℕ) (t h : Term) → head_of t ≡ h → Within (IsQueryAtom k) n t → Within (IsQueryAtom k) n h
  head_within n (index i) h e w = transport (Within (IsQueryAtom k) n) e w
  head_within n (atom a) h e w = transport (Within (IsQueryAtom k) n) e w
  head_within n (abs b) h e w = transport (Within (IsQueryAtom k) n) e w
  head_within n (app t u) h e w = head_within n t h e w.0

  plain_abs : (t b : Term) → IsPlain t → head_of t ≡ abs b → t ≡ abs b
  plain_abs (index i) b p e = absurd (cc)
  plain_abs (atom a) b p e = absurd (cc)
  plain_abs (abs c) b p e = e
  plain_abs (app f a) b p e = absurd (transport IsNoAbstraction (plain_abs f b p.1 e) p.0)

  text_constant : (a : Atom) → not (is_sigma a) ≡ true → IsQueryAtom k a → IsTextAtom a
  text_constant (constant c ts) e w = λ q. (let r : nat_eq c 5 ≡ true = grind (arith, nat_tests) in let z : true ≡ false = sym r ∙ not_true (nat_eq c 5) e in cc)
  text_constant (integer z) e w = tt
  text_constant (text s) e w = tt
  text_constant (eigen n) e w = w
  text_constant (logic x l) e w = w
  text_constant (param n T) e w = tt

  rigid_atom : (a : Atom) → IsQueryAtom k a → IsRigidAtom a
  rigid_atom (constant c ts) w = tt
  rigid_atom (integer z) w = tt
  rigid_atom (text s) w = tt
  rigid_atom (eigen n) w = absurd w
  rigid_atom (logic x l) w = absurd w
  rigid_atom (param n T) w = tt

  -- a head on arguments, whose parts are pattern text
  abbrev IsJudgedInside : Part → Type 0
  IsJudgedInside p = p.position ≡ Inside → IsInsideText p.binders p.term

  each_part : (bs : List Binder) (us : List Term) → EachOf IsJudgedInside (map (inside bs) us) → EachOf (IsInsideText bs) us
  each_part bs [] h = tt
  each_part bs (u ∷ us) h = (h.0 refl, each_part bs us h.1)

  only_is : (b : Bool) (qs ps : List Part) → only b qs ≡ Some ps → (b ≡ true) × (qs ≡ ps)
  only_is true qs ps e = let g : qs ≡ ps = cc in (refl, g)
  only_is false qs ps e = absurd (cc)

  given_parts : (bs : List Binder) (us : List Term) (ps : List Part) → map (inside bs) us ≡ ps → EachOf IsJudgedInside ps → EachOf (IsInsideText bs) us
  given_parts bs us ps e h = each_part bs us (transport (EachOf IsJudgedInside) (sym e) h)

  by_binder : (bs : List Binder) (t : Term) (i : ℕ) → head_of t ≡ index i → (b : Binder) → binder_of bs i ≡ b → (ps : List Part) → variable_parts b bs
      i (arguments t) ≡ Some ps → EachOf IsJudgedInside ps → IsInsideText bs t
  by_binder bs t i e Existential is ps q h p w =
      let names = (only_is (are_names bs i (arguments t)) [] ps q).0 in
      spelt bs t (index i) e (variable_text Vs bs i (arguments t) names (existential_at Vs bs i (head_within (length (binders_of Vs bs)) t (index i) e w) is))
      (atoms_apply IsTextAtom (index i) (arguments t) tt (names_atoms IsTextAtom bs i (arguments t) names))
  by_binder bs t i e Universal is ps q h p w =
      let there = universal_at Vs bs i is in
      let parts : map (inside bs) (arguments t) ≡ ps = (let g : map (inside bs) (arguments t) ≡ ps = cc in g) in
      let g = given_arguments bs t (transport IsHead (sym e) tt) p w in
      let r = each_pattern bs (arguments t) (given_parts bs (arguments t) ps parts h) g in
      spelt bs t (index i) e (rigid_text Vs bs (arguments t) (index i) (name_head {n = bound i} there (an_index i)) (index_in i there) r.0)
      (atoms_apply IsTextAtom (index i) (arguments t) tt r.1)

  by_head : (bs : List Binder) (t h : Term) → head_of t ≡ h → (ps : List Part) → inside_parts bs h (arguments t) ≡ Some ps → EachOf IsJudgedInside ps → IsInsideText bs t
  by_head bs t (index i) e ps q h p w = by_binder bs t i e (binder_of bs i) refl ps q h p w
  by_head bs t (atom a) e ps q h p w =
      let o = only_is (not (is_sigma a)) (map (inside bs) (arguments t)) ps q in
      let own = head_within (length (binders_of Vs bs)) t (atom a) e w in
      let r = each_pattern bs (arguments t) (given_parts bs (arguments t) ps o.1 h) (given_arguments bs t (transport IsHead (sym e) tt) p w) in
      spelt bs t (atom a) e (rigid_text Vs bs (arguments t) (atom a) (atom_head a (rigid_atom a own)) (atom_in a) r.0)
      (atoms_apply IsTextAtom (atom a) (arguments t) (text_constant a o.0 own) r.1)
  by_head bs t (abs b) e ps q h p w =
      let is = plain_abs t b p e in
      let parts : inside (Universal ∷ bs) b ∷ map (inside bs) (arguments t) ≡ ps = (let g : inside (Universal ∷ bs) b ∷ map (inside bs) (arguments t) ≡ ps = cc in g) in
      let first = (transport (EachOf IsJudgedInside) (sym parts) h).0 refl in
      let r = first (transport IsPlain is p) (transport (Within (IsQueryAtom k) (length (binders_of Vs bs))) is w) in
      (transport (IsPatternIn (binders_of Vs bs)) (sym is) (abs_in r.0), transport (AllAtoms IsTextAtom) (sym is) r.1)
  by_head bs t (app f a) e ps q h p w = absurd (cc)

  pub inside_judged : (p : Part) (ps : List Part) → inside_parts p.binders (head_of p.term) (arguments p.term) ≡ Some ps → EachOf IsJudgedInside ps → IsInsideText p.binders p.term
  inside_judged p ps q h = by_head p.binders p.term (head_of p.term) refl ps q h
