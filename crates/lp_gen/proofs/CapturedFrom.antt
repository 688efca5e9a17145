-- The variables that are found around clauses stand in them, place by place.
use Rattle.std.proofs.Common.{◌≡◌, ◌∙◌, ◌≤◌, ◌<◌, ◌⊎◌, inl, inr, ⊎_elim, ℕ, suc, ◌+◌, ◌-◌, ◌||◌, nat_eq, List, [], ◌∷◌, ◌++◌, length, map, Bool, Option, Some, Bor, Vec, Global, true, false, if◌then◌else◌, ap, refl, sym, subst, arith}
use Rattle.std.specs.List.{list_any}
use Rattle.std.proofs.lemmas.Bool.{eqb-true}
use Rattle.indexmap.specs.IndexSet.{insert_key}
use Rattle.lp_calculus.specs.Term.{Term, index, abs, app, apply}
use Rattle.lp_term.specs.Nodes.{Nodes, tree, type_tree}
use Rattle.lp_term.specs.declared.node.TermId.{TermId}
use Rattle.lp_term.specs.declared.node.TypeId.{TypeId}
use Rattle.lp_model.specs.declared.clause.Goal as code
use Rattle.lp_model.specs.declared.clause.Goal.{Goal}
use Rattle.lp_model.specs.declared.clause.Clause.{Clause}
use Rattle.lp_model.specs.Flat.{Clauses, Clause as FlatClause, clause, clauses, no_clauses, under_all}
use Rattle.lp_model.specs.Flattened.{goal_of, goals_of, clause_of, clauses_of}
use Rattle.lp_code.specs.States.{member}
use Rattle.lp_gen.specs.declared.captured.Place.{Place}
use Rattle.lp_gen.specs.declared.captured.Place.TheVariants as on
use Rattle.lp_gen.specs.inner.TermLaw.{AllLoose}
use Rattle.lp_gen.specs.inner.Bodies.{IsThrough, AreThrough, AllThrough}
use Rattle.lp_gen.specs.inner.Capturing.{IsDepth, IsSo, TermsHave, PlaceHas, PlacesHave, IsLevelOf, AreFound, Marks, Finds, IsLookedThrough}
use Rattle.lp_gen.proofs.CapturedBy.{under_many, places_back}
use Rattle.lp_gen.proofs.Depths.{is_depth}
use Rattle.lp_gen.proofs.TypeWorks.{map_length}
use Rattle.lp_gen.proofs.Tops.{atom_is, either_is, some_is, all_is, assume_is, not_is, clause_is}

module _ (b : Nodes) (p : ℕ → Bool) where
  places_had : (ps : List Place) (q : Place) → PlacesHave b p (ps ++ q ∷ []) → PlacesHave b p ps × PlaceHas b p q
  places_had [] q h = (tt, h.0)
  places_had (r ∷ rs) q h = let x = places_had rs q h.1 in ((h.0, x.0), x.1)

  pub had_back : (ps ps' : List Place) (q : Place) → ps' ≡ ps ++ q ∷ [] → PlacesHave b p ps' → PlacesHave b p ps × PlaceHas b p q
  had_back ps ps' q e h = places_had ps q (subst (PlacesHave b p) e h)

  places_joined : (ps : List Place) (q : Place) → PlacesHave b p ps → PlaceHas b p q → PlacesHave b p (ps ++ q ∷ [])
  places_joined [] q h x = (x, tt)
  places_joined (r ∷ rs) q h x = (h.0, places_joined rs q h.1 x)

  pub had_more : (ps ps' : List Place) (q : Place) → ps' ≡ ps ++ q ∷ [] → PlacesHave b p ps → PlaceHas b p q → PlacesHave b p ps'
  had_more ps ps' q e h x = subst (PlacesHave b p) (sym e) (places_joined ps q h x)

  -- the parts of an application
  pub application_has : (d : ℕ) (h : Term) (ts : List TermId) → AllLoose (IsSo p) d (apply h (map (tree b) (map (λ t. t.0) ts))) → AllLoose (IsSo p) d h × TermsHave b p d ts
  application_has d h [] x = (x, tt)
  application_has d h (t ∷ ts) x = let y = application_has d (app h (tree b t.0)) ts x in (y.0.0, (y.0.1, y.1))

  -- goals by their tops

  pub atom_has : (o : Option ℕ) (g : Goal) (t : TermId) (ps ps' : List Place) → g ≡ code.Atom t → ps' ≡ ps ++ on.Term t o ∷ [] → PlacesHave b p ps →
      (d : ℕ) → IsDepth d o → IsThrough (AllLoose (IsSo p)) d (goal_of b g) → PlacesHave b p ps'
  atom_has o g t ps ps' is e h d w x = had_more ps ps' (on.Term t o) e h (d, w, subst (IsThrough (AllLoose (IsSo p)) d) (ap (goal_of b) is ∙ atom_is b t) x)

  pub either_has : (o : Option ℕ) (g : Goal) (l r : Vec Goal Global) (ls rs : Bor (List Goal)) (ps mid ps' : List Place) → g ≡ code.Either l r → ls.now ≡ l.items → rs.now ≡ r.items →
      mid ≡ ps ++ on.Goals ls o ∷ [] → ps' ≡ mid ++ on.Goals rs o ∷ [] → PlacesHave b p ps →
      (d : ℕ) → IsDepth d o → IsThrough (AllLoose (IsSo p)) d (goal_of b g) → PlacesHave b p ps'
  either_has o g l r ls rs ps mid ps' is left right m e h d w x =
      let y = subst (IsThrough (AllLoose (IsSo p)) d) (ap (goal_of b) is ∙ either_is b l r) x in
      had_more mid ps' (on.Goals rs o) e (had_more ps mid (on.Goals ls o) m h (d, w, subst (λ l. AreThrough (AllLoose (IsSo p)) d (goals_of b l)) (sym left) y.0))
      (d, w, subst (λ l. AreThrough (AllLoose (IsSo p)) d (goals_of b l)) (sym right) y.1)

  -- goals under a variable more
  under_one : (o u : Option ℕ) (l : Vec Goal Global) (ls : Bor (List Goal)) (ps ps' : List Place) → ls.now ≡ l.items → ((d : ℕ) → IsDepth d o → IsDepth (d + 1) u) →
      ps' ≡ ps ++ on.Goals ls u ∷ [] → PlacesHave b p ps → (d : ℕ) → IsDepth d o → AreThrough (AllLoose (IsSo p)) (suc d) (goals_of b l.items) → PlacesHave b p ps'
  under_one o u l ls ps ps' same more e h d w x =
      let z : suc d ≡ d + 1 = omega arith in
      had_more ps ps' (on.Goals ls u) e h
      (d + 1, more d w, subst (λ l. AreThrough (AllLoose (IsSo p)) (d + 1) (goals_of b l)) (sym same) (subst (λ k. AreThrough (AllLoose (IsSo p)) k (goals_of b l.items)) z x))

  pub some_has : (o u : Option ℕ) (g : Goal) (T : TypeId) (l : Vec Goal Global) (ls : Bor (List Goal)) (ps ps' : List Place) → g ≡ code.Some T l → ls.now ≡ l.items →
      ((d : ℕ) → IsDepth d o → IsDepth (d + 1) u) → ps' ≡ ps ++ on.Goals ls u ∷ [] → PlacesHave b p ps →
      (d : ℕ) → IsDepth d o → IsThrough (AllLoose (IsSo p)) d (goal_of b g) → PlacesHave b p ps'
  some_has o u g T l ls ps ps' is same more e h d w x = under_one o u l ls ps ps' same more e h d w (subst (IsThrough (AllLoose (IsSo p)) d) (ap (goal_of b) is ∙ some_is b T l) x)

  pub all_has : (o u : Option ℕ) (g : Goal) (T : TypeId) (l : Vec Goal Global) (ls : Bor (List Goal)) (ps ps' : List Place) → g ≡ code.All T l → ls.now ≡ l.items →
      ((d : ℕ) → IsDepth d o → IsDepth (d + 1) u) → ps' ≡ ps ++ on.Goals ls u ∷ [] → PlacesHave b p ps →
      (d : ℕ) → IsDepth d o → IsThrough (AllLoose (IsSo p)) d (goal_of b g) → PlacesHave b p ps'
  all_has o u g T l ls ps ps' is same more e h d w x = under_one o u l ls ps ps' same more e h d w (subst (IsThrough (AllLoose (IsSo p)) d) (ap (goal_of b) is ∙ all_is b T l) x)

  pub assume_has : (o : Option ℕ) (g : Goal) (cs : Vec Clause Global) (l : Vec Goal Global) (ds : Bor (List Clause)) (ls : Bor (List Goal)) (ps mid ps' : List Place) → g ≡ code.Assume cs l →
      ds.now ≡ cs.items → ls.now ≡ l.items → mid ≡ ps ++ on.Clauses ds o ∷ [] → ps' ≡ mid ++ on.Goals ls o ∷ [] → PlacesHave b p ps →
      (d : ℕ) → IsDepth d o → IsThrough (AllLoose (IsSo p)) d (goal_of b g) → PlacesHave b p ps'
  assume_has o g cs l ds ls ps mid ps' is left right m e h d w x =
      let y = subst (IsThrough (AllLoose (IsSo p)) d) (ap (goal_of b) is ∙ assume_is b cs l) x in
      had_more mid ps' (on.Goals ls o) e (had_more ps mid (on.Clauses ds o) m h (d, w, subst (λ l. AllThrough (AllLoose (IsSo p)) d (clauses_of b l)) (sym left) y.0))
      (d, w, subst (λ l. AreThrough (AllLoose (IsSo p)) d (goals_of b l)) (sym right) y.1)

  pub not_has : (o : Option ℕ) (g : Goal) (l : Vec Goal Global) (ls : Bor (List Goal)) (ps ps' : List Place) → g ≡ code.Not l → ls.now ≡ l.items → ps' ≡ ps ++ on.Goals ls o ∷ [] →
      PlacesHave b p ps → (d : ℕ) → IsDepth d o → IsThrough (AllLoose (IsSo p)) d (goal_of b g) → PlacesHave b p ps'
  not_has o g l ls ps ps' is same e h d w x =
      had_more ps ps' (on.Goals ls o) e h
      (d, w, subst (λ l. AreThrough (AllLoose (IsSo p)) d (goals_of b l)) (sym same) (subst (IsThrough (AllLoose (IsSo p)) d) (ap (goal_of b) is ∙ not_is b l) x))

  -- clauses

  pub clause_has : (o u : Option ℕ) (c : Clause) (ls : Bor (List Goal)) (ps mid ps' : List Place) → ls.now ≡ c.body.items → ((d : ℕ) → IsDepth d o → IsDepth (d + length c.vars.items) u) →
      mid ≡ ps ++ on.Goals ls u ∷ [] → ps' ≡ mid ++ on.Term c.head u ∷ [] → PlacesHave b p ps → (d : ℕ) → IsDepth d o →
      AllThrough (AllLoose (IsSo p)) d (clauses (clause_of b c) no_clauses) → PlacesHave b p ps'
  clause_has o u c ls ps mid ps' same more m e h d w x =
      let vs = map (λ (T : TypeId). type_tree b T.0) c.vars.items in
      let many = map_length (λ (T : TypeId). type_tree b T.0) c.vars.items in
      let sum = under_many b 0 [] vs d in
      let k = d + length c.vars.items in
      let z : under_all suc vs d ≡ k = omega (arith, many, sum) in
      let y = subst (λ F. AllThrough (AllLoose (IsSo p)) d (clauses F no_clauses)) (clause_is b c) x in
      had_more mid ps' (on.Term c.head u) e
      (had_more ps mid (on.Goals ls u) m h
      (k, more d w, subst (λ l. AreThrough (AllLoose (IsSo p)) k (goals_of b l)) (sym same) (subst (λ k. AreThrough (AllLoose (IsSo p)) k (goals_of b c.body.items)) z y.1)))
      (k, more d w, subst (λ k. AllLoose (IsSo p) k (tree b c.head.0)) z y.0)

  pub first_clause : (d : ℕ) (F : FlatClause) (Fs : Clauses) → AllThrough (AllLoose (IsSo p)) d (clauses F Fs) → AllThrough (AllLoose (IsSo p)) d (clauses F no_clauses) × AllThrough (AllLoose (IsSo p)) d Fs
  first_clause d (clause m vs h body) Fs x = ((x.0, x.1, tt), x.2)

-- no level is new
pub none_found : (n : ℕ) (p : ℕ → Bool) (xs : List ℕ) → AreFound n p xs xs
none_found n p xs k e = inl e

only_member : (k l : ℕ) → member k (l ∷ []) ≡ true → k ≡ l
only_member k l e = go (nat_eq k l) refl e
  where
    go : (c : Bool) → nat_eq k l ≡ c → (c || false) ≡ true → k ≡ l
    go true s f = eqb-true k l s
    go false s f = absurd (cc)

member_split : (k : ℕ) (xs ys : List ℕ) → member k (xs ++ ys) ≡ true → (member k xs ≡ true) ⊎ (member k ys ≡ true)
member_split k [] ys e = inr e
member_split k (x ∷ xs) ys e = go (nat_eq k x) (member_split k xs ys) e
  where
    go : (c : Bool) → (member k (xs ++ ys) ≡ true → (member k xs ≡ true) ⊎ (member k ys ≡ true)) → (c || member k (xs ++ ys)) ≡ true → ((c || member k xs) ≡ true) ⊎ (member k ys ≡ true)
    go true f e = inl refl
    go false f e = f e

-- the level that an index marks
pub level_found : (n : ℕ) (p : ℕ → Bool) (i : ℕ) (xs xs' : List ℕ) → xs' ≡ insert_key nat_eq xs (n - i - 1) → i < n → p i ≡ true → AreFound n p xs xs'
level_found n p i xs xs' is lt so k e = go (list_any (nat_eq l) xs) (sym (ap (member k) is) ∙ e)
  where
    l : ℕ
    l = n - i - 1

    here : member k (l ∷ []) ≡ true → (member k xs ≡ true) ⊎ IsLevelOf n p k
    here m = inr (i, lt, only_member k l m, so)

    go : (c : Bool) → member k (if c then xs else xs ++ l ∷ []) ≡ true → (member k xs ≡ true) ⊎ IsLevelOf n p k
    go true m = inl m
    go false m = ⊎_elim (λ h. inl h) here (member_split k xs (l ∷ []) m)

-- what places a list comes to

module _ (b : Nodes) (n : ℕ) (xs xs' : List ℕ) (ps ps' : List Place) where
  pub nothing_left : (q : Place) → Finds b n xs xs ps ps q
  nothing_left q p h x = (h, none_found n p xs)

  pub clauses_found : (q : Place) (cs rest : Bor (List Clause)) (c : Clause) (o : Option ℕ) (mid : List Place) → q ≡ on.Clauses cs o → cs.now ≡ c ∷ rest.now → mid ≡ ps ++ on.Clauses rest o ∷ [] →
      ((p : ℕ → Bool) → PlacesHave b p mid → (d : ℕ) → IsDepth d o → AllThrough (AllLoose (IsSo p)) d (clauses (clause_of b c) no_clauses) → PlacesHave b p ps') → Finds b n xs xs ps ps' q
  clauses_found q cs rest c o mid is first m f p h x =
      let r = subst (λ (q : Place). PlaceHas b p q) is x in
      let z = first_clause b p r.0 (clause_of b c) (clauses_of b rest.now) (subst (λ l. AllThrough (AllLoose (IsSo p)) r.0 (clauses_of b l)) first r.2) in
      (f p (had_more b p ps mid (on.Clauses rest o) m h (r.0, r.1, z.1)) r.0 r.1 z.0, none_found n p xs)

  pub goals_found : (q : Place) (gs rest : Bor (List Goal)) (g : Goal) (o : Option ℕ) (mid : List Place) → q ≡ on.Goals gs o → gs.now ≡ g ∷ rest.now → mid ≡ ps ++ on.Goals rest o ∷ [] →
      ((p : ℕ → Bool) → PlacesHave b p mid → (d : ℕ) → IsDepth d o → IsThrough (AllLoose (IsSo p)) d (goal_of b g) → PlacesHave b p ps') → Finds b n xs xs ps ps' q
  goals_found q gs rest g o mid is first m f p h x =
      let r = subst (λ (q : Place). PlaceHas b p q) is x in
      let y = subst (λ l. AreThrough (AllLoose (IsSo p)) r.0 (goals_of b l)) first r.2 in
      (f p (had_more b p ps mid (on.Goals rest o) m h (r.0, r.1, y.1)) r.0 r.1 y.0, none_found n p xs)

  pub terms_found : (q : Place) (ts rest : Bor (List TermId)) (t : TermId) (o : Option ℕ) (mid : List Place) → q ≡ on.Terms ts o → ts.now ≡ t ∷ rest.now → mid ≡ ps ++ on.Terms rest o ∷ [] →
      ps' ≡ mid ++ on.Term t o ∷ [] → Finds b n xs xs ps ps' q
  terms_found q ts rest t o mid is first m e p h x =
      let r = subst (λ (q : Place). PlaceHas b p q) is x in
      let y = subst (λ l. TermsHave b p r.0 l) first r.2 in
      (had_more b p mid ps' (on.Term t o) e (had_more b p ps mid (on.Terms rest o) m h (r.0, r.1, y.1)) (r.0, r.1, y.0), none_found n p xs)

  pub same_term : (q : Place) (t : TermId) (o : Option ℕ) → q ≡ on.Term t o → Finds b n xs xs' ps ps' (on.Term t o) → Finds b n xs xs' ps ps' q
  same_term q t o is m = subst (Finds b n xs xs' ps ps') (sym is) m

  -- the forms of a term

  pub free_found : (t : TermId) (o : Option ℕ) (i j : ℕ) → index i ≡ tree b t.0 → ((d : ℕ) → IsDepth d o → (d ≤ i) × (j ≡ i - d)) → ((p : ℕ → Bool) → p j ≡ true → AreFound n p xs xs') →
      Finds b n xs xs' ps ps (on.Term t o)
  free_found t o i j is free f p h x =
      let z = free x.0 x.1 in
      (h, f p (subst (IsSo p) (sym z.1) (subst (AllLoose (IsSo p) x.0) (sym is) x.2 z.0)))

  pub body_found : (t body : TermId) (o u : Option ℕ) → abs (tree b body.0) ≡ tree b t.0 → ((d : ℕ) → IsDepth d o → IsDepth (d + 1) u) → ps' ≡ ps ++ on.Term body u ∷ [] →
      Finds b n xs xs ps ps' (on.Term t o)
  body_found t body o u is more e p h x =
      let z : suc x.0 ≡ x.0 + 1 = omega arith in
      let y = subst (AllLoose (IsSo p) x.0) (sym is) x.2 in
      (had_more b p ps ps' (on.Term body u) e h (x.0 + 1, more x.0 x.1, subst (λ k. AllLoose (IsSo p) k (tree b body.0)) z y), none_found n p xs)

  pub application_found : (t f : TermId) (ids : Bor (List TermId)) (o : Option ℕ) (mid : List Place) → apply (tree b f.0) (map (tree b) (map (λ t. t.0) ids.now)) ≡ tree b t.0 →
      mid ≡ ps ++ on.Terms ids o ∷ [] → ps' ≡ mid ++ on.Term f o ∷ [] → Finds b n xs xs ps ps' (on.Term t o)
  application_found t f ids o mid is m e p h x =
      let y = application_has b p x.0 (tree b f.0) ids.now (subst (AllLoose (IsSo p) x.0) (sym is) x.2) in
      (had_more b p mid ps' (on.Term f o) e (had_more b p ps mid (on.Terms ids o) m h (x.0, x.1, y.1)) (x.0, x.1, y.0), none_found n p xs)

-- the walk

pub walk_has : (b : Nodes) (p : ℕ → Bool) (none all : List Place) (cs : Bor (List Clause)) → none ≡ [] → all ≡ none ++ on.Clauses cs (Some 0) ∷ [] →
    AllThrough (AllLoose (IsSo p)) 0 (clauses_of b cs.now) → PlacesHave b p all
walk_has b p none all cs empty e x = had_more b p none all (on.Clauses cs (Some 0)) e (subst (PlacesHave b p) (sym empty) tt) (0, is_depth 0 (omega arith), x)

pub levels_on : (n : ℕ) (p : ℕ → Bool) (xs ys : List ℕ) → ((k : ℕ) → member k xs ≡ true → IsLevelOf n p k) → AreFound n p xs ys → (k : ℕ) → member k ys ≡ true → IsLevelOf n p k
levels_on n p xs ys old new k e = go (new k e)
  where
    go : (member k xs ≡ true) ⊎ IsLevelOf n p k → IsLevelOf n p k
    go (inl m) = old k m
    go (inr l) = l

pub nothing_marked : (n : ℕ) (p : ℕ → Bool) (xs : List ℕ) → xs ≡ [] → (k : ℕ) → member k xs ≡ true → IsLevelOf n p k
nothing_marked n p xs none k e = absurd (no (ap (member k) (sym none) ∙ e))
  where
    no : false ≡ true → ⊥
    no f = absurd (cc)

-- one place more
pub place_looked_at : (b : Nodes) (cs : List Clause) (n : ℕ) (xs xs' : List ℕ) (all ps ps' : List Place) (q : Place) → all ≡ ps ++ q ∷ [] → IsLookedThrough b cs n xs all →
    Marks b n xs xs' ps ps' q → Finds b n xs xs' ps ps' q → IsLookedThrough b cs n xs' ps'
place_looked_at b cs n xs xs' all ps ps' q e s m f = record {
  marks = λ ks cov h. let x = m ks cov h in s.marks ks x.0 (places_back b n ks ps all q e x.1 x.2);
  has = λ p x. let y = had_back b p ps all q e (s.has p x) in (f p y.0 y.1).0;
  found = λ p x. let y = had_back b p ps all q e (s.has p x) in levels_on n p xs xs' (s.found p x) (f p y.0 y.1).1;
}
