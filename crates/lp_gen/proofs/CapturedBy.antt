-- Which variables around clauses stand in them, place by place.
use Rattle.std.proofs.Common.{◌≡◌, ◌∙◌, ◌≤◌, ◌<◌, ◌≢◌, ℕ, suc, ◌+◌, ◌-◌, ◌*◌, List, [], ◌∷◌, ◌++◌, length, map, Option, Some, Bor, Vec, Global, true, ap, refl, sym, subst, arith}
use Rattle.lp_calculus.specs.Types.{Ty}
use Rattle.lp_calculus.specs.Term.{Term, index, abs, app, apply}
use Rattle.lp_term.specs.Nodes.{Nodes, tree, type_tree, node_tree}
use Rattle.lp_term.specs.Shapes.{term_shape}
use Rattle.lp_term.specs.Walk.{size}
use Rattle.lp_term.specs.declared.node.TermId.{TermId}
use Rattle.lp_term.specs.declared.node.TypeId.{TypeId}
use Rattle.lp_term.specs.declared.node.TermNode.{TermNode}
use Rattle.lp_term.specs.declared.node.TermNode.TheVariants as node
use Rattle.lp_term.proofs.Walks.{map_map}
use Rattle.lp_model.specs.declared.clause.Goal as code
use Rattle.lp_model.specs.declared.clause.Goal.{Goal}
use Rattle.lp_model.specs.declared.clause.Clause.{Clause}
use Rattle.lp_model.specs.Flat.{Clauses, Clause as FlatClause, clause, clauses, no_clauses, under_all}
use Rattle.lp_model.specs.Flattened.{goal_of, goals_of, clause_of, clauses_of}
use Rattle.lp_code.specs.States.{member}
use Rattle.lp_gen.specs.declared.captured.Place.{Place}
use Rattle.lp_gen.specs.declared.captured.Place.TheVariants as on
use Rattle.lp_gen.specs.inner.TermLaw.{AllLoose}
use Rattle.lp_gen.specs.inner.Bodies.{IsThrough, AreThrough, AllThrough}
use Rattle.lp_gen.specs.inner.Capturing.{IsDepth, IsAmong, TermsHold, PlaceHolds, PlacesHold, Marks, place_task, place_work}
use Rattle.lp_gen.proofs.Depths.{is_depth}
use Rattle.lp_gen.proofs.TypeWorks.{map_length}
use Rattle.lp_gen.proofs.Works.{two_more, application_weighs, some_args}
use Rattle.lp_gen.proofs.Tops.{atom_is, cut_is, either_is, some_is, all_is, assume_is, not_is, clause_is}

-- an application whose arguments are looked at one by one
pub marks_application : (b : Nodes) (old mid new : List Place) (head term : TermId) (args : Bor (List TermId)) (o : Option ℕ) → mid ≡ old ++ on.Terms args o ∷ [] → new ≡ mid ++ on.Term head o ∷ [] →
    apply (tree b head.0) (map (tree b) (map (λ t. t.0) args.now)) ≡ tree b term.0 → map (λ t. t.0) args.now ≢ [] → place_work b new + 1 ≤ place_work b old + 4 * size (tree b term.0)
marks_application b old mid new head term args o m e t n =
    let w = two_more (place_task b) old mid new (on.Terms args o) (on.Term head o) m e in
    let a = application_weighs b (tree b head.0) (tree b term.0) args.now (ap (apply (tree b head.0)) (sym (map_map (tree b) (λ t. t.0) args.now)) ∙ t) (some_args (λ t. t.0) args.now n) in
    omega (arith, w, a)

module _ (b : Nodes) (n : ℕ) (ks : List ℕ) where
  places_more : (ps : List Place) (p : Place) → PlacesHold b n ks (ps ++ p ∷ []) → PlacesHold b n ks ps × PlaceHolds b n ks p
  places_more [] p h = (tt, h.0)
  places_more (q ∷ qs) p h = let r = places_more qs p h.1 in ((h.0, r.0), r.1)

  pub places_put : (ps ps' : List Place) (p : Place) → ps' ≡ ps ++ p ∷ [] → PlacesHold b n ks ps' → PlacesHold b n ks ps × PlaceHolds b n ks p
  places_put ps ps' p e h = places_more ps p (subst (PlacesHold b n ks) e h)

  places_join : (ps : List Place) (p : Place) → PlacesHold b n ks ps → PlaceHolds b n ks p → PlacesHold b n ks (ps ++ p ∷ [])
  places_join [] p h x = (x, tt)
  places_join (q ∷ qs) p h x = (h.0, places_join qs p h.1 x)

  pub places_back : (ps ps' : List Place) (p : Place) → ps' ≡ ps ++ p ∷ [] → PlacesHold b n ks ps → PlaceHolds b n ks p → PlacesHold b n ks ps'
  places_back ps ps' p e h x = subst (PlacesHold b n ks) (sym e) (places_join ps p h x)

  -- terms

  pub arguments_hold : (d : ℕ) (h : Term) (ts : List TermId) → AllLoose (IsAmong n ks) d h → TermsHold b n ks d ts → AllLoose (IsAmong n ks) d (apply h (map (tree b) (map (λ t. t.0) ts)))
  arguments_hold d h [] x y = x
  arguments_hold d h (t ∷ ts) x y = arguments_hold d (app h (tree b t.0)) ts (x, y.0) y.1

  other_node : (d : ℕ) (t : TermNode) → ((i : ℕ) → t ≡ node.Index i → ⊥) → ((i : TermId) → t ≡ node.Abs i → ⊥) → ((f : TermId) (ids : Bor (List TermId)) → t ≡ node.App f ids → ⊥) → AllLoose
      (IsAmong n ks) d (node_tree b (term_shape t))
  other_node d (node.Index i) x y z = absurd (x i refl)
  other_node d (node.Const c ids) x y z = tt
  other_node d (node.Int i) x y z = tt
  other_node d (node.Text s) x y z = tt
  other_node d (node.Eigen j) x y z = tt
  other_node d (node.Logic i l) x y z = tt
  other_node d (node.Param j t) x y z = tt
  other_node d (node.Abs body) x y z = absurd (y body refl)
  other_node d (node.App f ids) x y z = absurd (z f ids refl)

  pub other_holds : (d : ℕ) (t : TermNode) (i : ℕ) → ((i : ℕ) → t ≡ node.Index i → ⊥) → ((i : TermId) → t ≡ node.Abs i → ⊥) →
      ((f : TermId) (ids : Bor (List TermId)) → t ≡ node.App f ids → ⊥) → node_tree b (term_shape t) ≡ tree b i →
      AllLoose (IsAmong n ks) d (tree b i)
  other_holds d t i x y z e = subst (AllLoose (IsAmong n ks) d) e (other_node d t x y z)

  -- goals by their tops

  pub atom_holds : (o : Option ℕ) (g : Goal) (t : TermId) (ps ps' : List Place) → g ≡ code.Atom t → ps' ≡ ps ++ on.Term t o ∷ [] → PlacesHold b n ks ps' → PlacesHold b n ks ps × ((d : ℕ) → IsDepth d o →
      IsThrough (AllLoose (IsAmong n ks)) d (goal_of b g))
  atom_holds o g t ps ps' is e h =
      let r = places_put ps ps' (on.Term t o) e h in
      (r.0, λ d w. subst (IsThrough (AllLoose (IsAmong n ks)) d) (sym (ap (goal_of b) is ∙ atom_is b t)) (r.1 d w))

  pub cut_holds : (d : ℕ) (g : Goal) → g ≡ code.Cut → IsThrough (AllLoose (IsAmong n ks)) d (goal_of b g)
  cut_holds d g is = subst (IsThrough (AllLoose (IsAmong n ks)) d) (sym (ap (goal_of b) is ∙ cut_is b)) tt

  pub either_holds : (o : Option ℕ) (g : Goal) (l r : Vec Goal Global) (ls rs : Bor (List Goal)) (ps mid ps' : List Place) → g ≡ code.Either l r → ls.now ≡ l.items → rs.now ≡ r.items →
      mid ≡ ps ++ on.Goals ls o ∷ [] → ps' ≡ mid ++ on.Goals rs o ∷ [] → PlacesHold b n ks ps' → PlacesHold b n ks ps × ((d : ℕ) → IsDepth d o → IsThrough (AllLoose (IsAmong n ks)) d (goal_of b g))
  either_holds o g l r ls rs ps mid ps' is left right m e h =
      let x = places_put mid ps' (on.Goals rs o) e h in
      let y = places_put ps mid (on.Goals ls o) m x.0 in (
        y.0,
        λ d w.
            subst (IsThrough (AllLoose (IsAmong n ks)) d) (sym (ap (goal_of b) is ∙ either_is b l r))
            (subst (λ l. AreThrough (AllLoose (IsAmong n ks)) d (goals_of b l)) left (y.1 d w), subst (λ l. AreThrough (AllLoose (IsAmong n ks)) d (goals_of b l)) right (x.1 d w)),
      )

  -- goals under a variable more
  under_one : (o u : Option ℕ) (l : Vec Goal Global) (ls : Bor (List Goal)) (ps ps' : List Place) → ls.now ≡ l.items → ((d : ℕ) → IsDepth d o → IsDepth (d + 1) u) → ps' ≡ ps ++ on.Goals ls u ∷ [] →
      PlacesHold b n ks ps' → PlacesHold b n ks ps × ((d : ℕ) → IsDepth d o → AreThrough (AllLoose (IsAmong n ks)) (suc d) (goals_of b l.items))
  under_one o u l ls ps ps' same more e h =
      let x = places_put ps ps' (on.Goals ls u) e h in (
        x.0,
        λ d w.
            let z : d + 1 ≡ suc d = omega arith in
            subst (λ k. AreThrough (AllLoose (IsAmong n ks)) k (goals_of b l.items)) z (subst (λ l. AreThrough (AllLoose (IsAmong n ks)) (d + 1) (goals_of b l)) same (x.1 (d + 1) (more d w))),
      )

  pub some_holds : (o u : Option ℕ) (g : Goal) (T : TypeId) (l : Vec Goal Global) (ls : Bor (List Goal)) (ps ps' : List Place) → g ≡ code.Some T l → ls.now ≡ l.items →
      ((d : ℕ) → IsDepth d o → IsDepth (d + 1) u) → ps' ≡ ps ++ on.Goals ls u ∷ [] →
      PlacesHold b n ks ps' → PlacesHold b n ks ps × ((d : ℕ) → IsDepth d o → IsThrough (AllLoose (IsAmong n ks)) d (goal_of b g))
  some_holds o u g T l ls ps ps' is same more e h =
      let x = under_one o u l ls ps ps' same more e h in
      (x.0, λ d w. subst (IsThrough (AllLoose (IsAmong n ks)) d) (sym (ap (goal_of b) is ∙ some_is b T l)) (x.1 d w))

  pub all_holds : (o u : Option ℕ) (g : Goal) (T : TypeId) (l : Vec Goal Global) (ls : Bor (List Goal)) (ps ps' : List Place) → g ≡ code.All T l → ls.now ≡ l.items →
      ((d : ℕ) → IsDepth d o → IsDepth (d + 1) u) → ps' ≡ ps ++ on.Goals ls u ∷ [] →
      PlacesHold b n ks ps' → PlacesHold b n ks ps × ((d : ℕ) → IsDepth d o → IsThrough (AllLoose (IsAmong n ks)) d (goal_of b g))
  all_holds o u g T l ls ps ps' is same more e h =
      let x = under_one o u l ls ps ps' same more e h in
      (x.0, λ d w. subst (IsThrough (AllLoose (IsAmong n ks)) d) (sym (ap (goal_of b) is ∙ all_is b T l)) (x.1 d w))

  pub assume_holds : (o : Option ℕ) (g : Goal) (cs : Vec Clause Global) (l : Vec Goal Global) (ds : Bor (List Clause)) (ls : Bor (List Goal)) (ps mid ps' : List Place) → g ≡ code.Assume cs l →
      ds.now ≡ cs.items → ls.now ≡ l.items → mid ≡ ps ++ on.Clauses ds o ∷ [] → ps' ≡ mid ++ on.Goals ls o ∷ [] → PlacesHold b n ks ps' → PlacesHold b n ks ps × ((d : ℕ) → IsDepth d o →
      IsThrough (AllLoose (IsAmong n ks)) d (goal_of b g))
  assume_holds o g cs l ds ls ps mid ps' is left right m e h =
      let x = places_put mid ps' (on.Goals ls o) e h in
      let y = places_put ps mid (on.Clauses ds o) m x.0 in (
        y.0,
        λ d w.
            subst (IsThrough (AllLoose (IsAmong n ks)) d) (sym (ap (goal_of b) is ∙ assume_is b cs l))
            (subst (λ l. AllThrough (AllLoose (IsAmong n ks)) d (clauses_of b l)) left (y.1 d w), subst (λ l. AreThrough (AllLoose (IsAmong n ks)) d (goals_of b l)) right (x.1 d w)),
      )

  pub not_holds : (o : Option ℕ) (g : Goal) (l : Vec Goal Global) (ls : Bor (List Goal)) (ps ps' : List Place) → g ≡ code.Not l → ls.now ≡ l.items → ps' ≡ ps ++ on.Goals ls o ∷ [] →
      PlacesHold b n ks ps' → PlacesHold b n ks ps × ((d : ℕ) → IsDepth d o → IsThrough (AllLoose (IsAmong n ks)) d (goal_of b g))
  not_holds o g l ls ps ps' is same e h =
      let x = places_put ps ps' (on.Goals ls o) e h in
      (x.0, λ d w. subst (IsThrough (AllLoose (IsAmong n ks)) d) (sym (ap (goal_of b) is ∙ not_is b l)) (subst (λ l. AreThrough (AllLoose (IsAmong n ks)) d (goals_of b l)) same (x.1 d w)))

  -- clauses

  pub under_many : (vs : List Ty) (d : ℕ) → under_all suc vs d ≡ d + length vs
  under_many [] d = omega arith
  under_many (v ∷ vs) d = let z : suc (d + length vs) ≡ d + suc (length vs) = omega arith in ap suc (under_many vs d) ∙ z

  clause_through : (d : ℕ) (c : Clause) (ls : Bor (List Goal)) → ls.now ≡ c.body.items → AllLoose (IsAmong n ks) (d + length c.vars.items) (tree b c.head.0) →
      AreThrough (AllLoose (IsAmong n ks)) (d + length c.vars.items) (goals_of b ls.now) → AllThrough (AllLoose (IsAmong n ks)) d (clauses (clause_of b c) no_clauses)
  clause_through d c ls same x y =
      let u = d + length c.vars.items in
      let vs = map (λ (T : TypeId). type_tree b T.0) c.vars.items in
      let many = map_length (λ (T : TypeId). type_tree b T.0) c.vars.items in
      let sum = under_many vs d in
      let z : u ≡ under_all suc vs d = omega (arith, many, sum) in
      subst (λ F. AllThrough (AllLoose (IsAmong n ks)) d (clauses F no_clauses)) (sym (clause_is b c)) (
        subst (λ k. AllLoose (IsAmong n ks) k (tree b c.head.0)) z x,
        subst (λ k. AreThrough (AllLoose (IsAmong n ks)) k (goals_of b c.body.items)) z (subst (λ l. AreThrough (AllLoose (IsAmong n ks)) u (goals_of b l)) same y),
        tt,
      )

  pub clause_holds : (o u : Option ℕ) (c : Clause) (ls : Bor (List Goal)) (ps mid ps' : List Place) → ls.now ≡ c.body.items → ((d : ℕ) → IsDepth d o → IsDepth (d + length c.vars.items) u) →
      mid ≡ ps ++ on.Goals ls u ∷ [] → ps' ≡ mid ++ on.Term c.head u ∷ [] →
      PlacesHold b n ks ps' → PlacesHold b n ks ps × ((d : ℕ) → IsDepth d o → AllThrough (AllLoose (IsAmong n ks)) d (clauses (clause_of b c) no_clauses))
  clause_holds o u c ls ps mid ps' same more m e h =
      let x = places_put mid ps' (on.Term c.head u) e h in
      let y = places_put ps mid (on.Goals ls u) m x.0 in
      (y.0, λ d w. clause_through d c ls same (x.1 (d + length c.vars.items) (more d w)) (y.1 (d + length c.vars.items) (more d w)))

  -- the next clause of a list
  pub clauses_first : (d : ℕ) (F : FlatClause) (Fs : Clauses) → AllThrough (AllLoose (IsAmong n ks)) d (clauses F no_clauses) → AllThrough (AllLoose (IsAmong n ks)) d Fs → AllThrough
      (AllLoose (IsAmong n ks)) d (clauses F Fs)
  clauses_first d (clause m vs h body) Fs x y = (x.0, x.1, y)

-- what places a list comes to

module _ (b : Nodes) (n : ℕ) (xs xs' : List ℕ) (ps ps' : List Place) where
  pub clauses_none : (p : Place) (cs : Bor (List Clause)) (o : Option ℕ) → p ≡ on.Clauses cs o → cs.now ≡ [] → Marks b n xs xs ps ps p
  clauses_none p cs o is none ks cov h =
      (cov, h, subst (λ (q : Place). PlaceHolds b n ks q) (sym is) (λ d w. subst (λ l. AllThrough (AllLoose (IsAmong n ks)) d (clauses_of b l)) (sym none) tt))

  pub goals_none : (p : Place) (gs : Bor (List Goal)) (o : Option ℕ) → p ≡ on.Goals gs o → gs.now ≡ [] → Marks b n xs xs ps ps p
  goals_none p gs o is none ks cov h =
      (cov, h, subst (λ (q : Place). PlaceHolds b n ks q) (sym is) (λ d w. subst (λ l. AreThrough (AllLoose (IsAmong n ks)) d (goals_of b l)) (sym none) tt))

  pub terms_none : (p : Place) (ts : Bor (List TermId)) (o : Option ℕ) → p ≡ on.Terms ts o → ts.now ≡ [] → Marks b n xs xs ps ps p
  terms_none p ts o is none ks cov h = (cov, h, subst (λ (q : Place). PlaceHolds b n ks q) (sym is) (λ d w. subst (λ l. TermsHold b n ks d l) (sym none) tt))

  pub clauses_some : (p : Place) (cs rest : Bor (List Clause)) (c : Clause) (o : Option ℕ) (mid : List Place) → p ≡ on.Clauses cs o → cs.now ≡ c ∷ rest.now → mid ≡ ps ++ on.Clauses rest o ∷ [] →
      ((n : ℕ) (ks : List ℕ) → PlacesHold b n ks ps' → PlacesHold b n ks mid × ((d : ℕ) → IsDepth d o → AllThrough (AllLoose (IsAmong n ks)) d (clauses (clause_of b c) no_clauses))) → Marks b n xs xs ps ps' p
  clauses_some p cs rest c o mid is first m f ks cov h =
      let x = f n ks h in
      let y = places_put b n ks ps mid (on.Clauses rest o) m x.0 in (
        cov,
        y.0,
        subst (λ (q : Place). PlaceHolds b n ks q) (sym is) (λ d w.
            subst (λ l. AllThrough (AllLoose (IsAmong n ks)) d (clauses_of b l)) (sym first) (clauses_first b n ks d (clause_of b c) (clauses_of b rest.now) (x.1 d w) (y.1 d w))),
      )

  pub goals_some : (p : Place) (gs rest : Bor (List Goal)) (g : Goal) (o : Option ℕ) (mid : List Place) → p ≡ on.Goals gs o → gs.now ≡ g ∷ rest.now → mid ≡ ps ++ on.Goals rest o ∷ [] →
      ((n : ℕ) (ks : List ℕ) → PlacesHold b n ks ps' → PlacesHold b n ks mid × ((d : ℕ) → IsDepth d o → IsThrough (AllLoose (IsAmong n ks)) d (goal_of b g))) → Marks b n xs xs ps ps' p
  goals_some p gs rest g o mid is first m f ks cov h =
      let x = f n ks h in
      let y = places_put b n ks ps mid (on.Goals rest o) m x.0 in
      (cov, y.0, subst (λ (q : Place). PlaceHolds b n ks q) (sym is) (λ d w. subst (λ l. AreThrough (AllLoose (IsAmong n ks)) d (goals_of b l)) (sym first) (x.1 d w, y.1 d w)))

  pub terms_some : (p : Place) (ts rest : Bor (List TermId)) (t : TermId) (o : Option ℕ) (mid : List Place) → p ≡ on.Terms ts o → ts.now ≡ t ∷ rest.now → mid ≡ ps ++ on.Terms rest o ∷ [] →
      ps' ≡ mid ++ on.Term t o ∷ [] → Marks b n xs xs ps ps' p
  terms_some p ts rest t o mid is first m e ks cov h =
      let x = places_put b n ks mid ps' (on.Term t o) e h in
      let y = places_put b n ks ps mid (on.Terms rest o) m x.0 in
      (cov, y.0, subst (λ (q : Place). PlaceHolds b n ks q) (sym is) (λ d w. subst (λ l. TermsHold b n ks d l) (sym first) (x.1 d w, y.1 d w)))

  pub term_same : (p : Place) (t : TermId) (o : Option ℕ) → p ≡ on.Term t o → Marks b n xs xs' ps ps' (on.Term t o) → Marks b n xs xs' ps ps' p
  term_same p t o is m = subst (Marks b n xs xs' ps ps') (sym is) m

  -- the forms of a term

  pub bound_index : (t : TermId) (o : Option ℕ) (i : ℕ) → index i ≡ tree b t.0 → ((d : ℕ) → IsDepth d o → i < d) → Marks b n xs xs ps ps (on.Term t o)
  bound_index t o i is low ks cov h = (cov, h, λ d w. let lt = low d w in subst (AllLoose (IsAmong n ks) d) is (λ le. absurd (omega (arith, le, lt))))

  pub free_index : (t : TermId) (o : Option ℕ) (i j : ℕ) → index i ≡ tree b t.0 → ((d : ℕ) → IsDepth d o → (d ≤ i) × (j ≡ i - d)) → ((k : ℕ) → member k xs ≡ true → member k xs' ≡ true) →
      IsAmong n xs' j → Marks b n xs xs' ps ps (on.Term t o)
  free_index t o i j is free old new ks cov h = (
    λ k e. cov k (old k e),
    h,
    λ d w. subst (AllLoose (IsAmong n ks) d) is (λ le. subst (IsAmong n ks) (free d w).1 (λ lt. cov (n - j - 1) (new lt))),
  )

  pub under_abs : (t body : TermId) (o u : Option ℕ) → abs (tree b body.0) ≡ tree b t.0 → ((d : ℕ) → IsDepth d o → IsDepth (d + 1) u) → ps' ≡ ps ++ on.Term body u ∷ [] → Marks b n xs xs ps ps' (on.Term t o)
  under_abs t body o u is more e ks cov h =
      let x = places_put b n ks ps ps' (on.Term body u) e h in (
        cov,
        x.0,
        λ d w.
            let z : d + 1 ≡ suc d = omega arith in
            subst (AllLoose (IsAmong n ks) d) is (subst (λ k. AllLoose (IsAmong n ks) k (tree b body.0)) z (x.1 (d + 1) (more d w))),
      )

  pub of_application : (t f : TermId) (ids : Bor (List TermId)) (o : Option ℕ) (mid : List Place) → apply (tree b f.0) (map (tree b) (map (λ t. t.0) ids.now)) ≡ tree b t.0 →
      mid ≡ ps ++ on.Terms ids o ∷ [] → ps' ≡ mid ++ on.Term f o ∷ [] → Marks b n xs xs ps ps' (on.Term t o)
  of_application t f ids o mid is m e ks cov h =
      let x = places_put b n ks mid ps' (on.Term f o) e h in
      let y = places_put b n ks ps mid (on.Terms ids o) m x.0 in
      (cov, y.0, λ d w. subst (AllLoose (IsAmong n ks) d) is (arguments_hold b n ks d (tree b f.0) ids.now (x.1 d w) (y.1 d w)))

  pub other_form : (t : TermId) (o : Option ℕ) (v : TermNode) → ((i : ℕ) → v ≡ node.Index i → ⊥) → ((i : TermId) → v ≡ node.Abs i → ⊥) →
      ((f : TermId) (ids : Bor (List TermId)) → v ≡ node.App f ids → ⊥) → node_tree b (term_shape v) ≡ tree b t.0 →
      Marks b n xs xs ps ps (on.Term t o)
  other_form t o v x y z is ks cov h = (cov, h, λ d w. other_holds b n ks d v t.0 x y z is)

-- the walk

pub walk_starts : (b : Nodes) (n : ℕ) (ks : List ℕ) (none all : List Place) (cs : Bor (List Clause)) → none ≡ [] → all ≡ none ++ on.Clauses cs (Some 0) ∷ [] → PlacesHold b n ks all →
    AllThrough (AllLoose (IsAmong n ks)) 0 (clauses_of b cs.now)
walk_starts b n ks none all cs empty e h = (places_put b n ks none all (on.Clauses cs (Some 0)) e h).1 0 (is_depth 0 (omega arith))
