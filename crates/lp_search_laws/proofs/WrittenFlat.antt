-- What flattening collects of goals that are denied, and of clauses that are assumed, stands in them.
use Rattle.std.proofs.Common.{◌≡◌, ℕ, zero, suc, ◌+◌, ◌-◌, List, [], ◌∷◌, ◌++◌, map, Some, Bool, true, false, refl, sym, ap, ◌∙◌, subst as transport, inl, inr, arith}
use Rattle.std.specs.Prelude.{◌&&◌, nat_lt, if◌then◌else◌, option_map}
use Rattle.std.proofs.lemmas.Bool.Decides.{nat_tests}
use Rattle.lp_calculus.specs.Types.{Ty}
use Rattle.lp_calculus.specs.Term.{Term, Atom, index, atom, abs, app, shift}
use Rattle.lp_calculus.specs.Spine.{head_of, arguments}
use Rattle.lp_calculus.proofs.BetaEta.{shift_one}
use Rattle.lp_lemmas.specs.Each.{EachOf}
use Rattle.lp_lemmas.proofs.Each.{each_append, each_map}
use Rattle.lp_lemmas.proofs.Options.{and_then_some, option_map_some}
use Rattle.lp_standard.specs.Connectives.{two, pi_of, body_of, Connective, connective_of}
use Rattle.lp_calculus.specs.Closed.{AllAtoms}
use Rattle.lp_proof_laws.specs.Filled.{IsSourceAtom}
use Rattle.lp_proof_laws.specs.Terms.{IsTermOf, AreTermsOf, AreClausesOf}
use Rattle.lp_proof_laws.proofs.Uniform.Forms.{Shape, form_shape}
use Rattle.lp_search_laws.proofs.AtomsKept.{atoms_raise, atoms_raise_each, atoms_body}
use Rattle.lp_search_laws.proofs.Origins.{source_origin, source_clause_origin}
use Rattle.lp_standard.specs.Connectives as connective
use Rattle.lp_standard.specs.Positive.{are_positive}
use Rattle.lp_model.specs.Flat.{Goal, Atomic, Cut, Either, Exists, Forall, Assume, Not, assuming, denied, Goals, no_goals, goals, Clause, clause, Clauses, no_clauses, clauses, clause_list, add_clauses, raise_goals, under_all, all_of, loose_in, collect_goal, collect_goals, collect_clauses, formula_of_goal, formula_of_goals, formula_of_clause, formula_of_clauses, map_goal, map_goals, map_clauses, same_type}
use Rattle.lp_model.specs.Flatten.{only, is_goal_head, is_clause_head, flat_goal, flat_goal_form, flat_list, flat_clause, flat_clause_form, with_type_vars}
use Rattle.lp_model.specs.Proofs.{Declared}
use Rattle.lp_search_laws.specs.Written.{StandsIn, StandsInOne, AreWrittenGoals, AreWrittenClauses}
use Rattle.lp_search_laws.proofs.TypedFlats.{only_some, some_is}
use Rattle.lp_search_laws.proofs.Written.{raised_goals, each_same}

-- the index that is collected as i below d binders
abbrev Here : ℕ → Term → ℕ → Type 0
Here d t i = StandsIn (index (d + i)) t

within : (d i : ℕ) → EachOf (Here d (index i)) (if nat_lt i d then [] else (i - d) ∷ [])
within d i = go (nat_lt i d) refl
  where
    go : (b : Bool) → nat_lt i d ≡ b → EachOf (Here d (index i)) (if b then [] else (i - d) ∷ [])
    go true e = tt
    go false e = (let x : d + (i - d) ≡ i = grind (arith, nat_tests) in ap index x, tt)

raised : (j : ℕ) → shift 0 1 (index j) ≡ index (suc j)
raised j = shift_one (index j)

below : (d : ℕ) (b : Term) (i : ℕ) → Here (suc d) b i → StandsIn (shift 0 1 (index (d + i))) b
below d b i h =
    let e : suc d + i ≡ suc (d + i) = omega arith in
    transport (λ z. StandsIn z b) (ap index e ∙ sym (raised (d + i))) h

terms : (d : ℕ) (t : Term) → EachOf (Here d t) (loose_in d t)
terms d (index i) = within d i
terms d (atom a) = tt
terms d (abs b) = each_same (Here (suc d) b) (Here d (abs b)) (λ i h. inr (below d b i h)) (loose_in (suc d) b) (terms (suc d) b)
terms d (app t u) = each_append (Here d (app t u)) (loose_in d t) (loose_in d u) (each_same (Here d t) (Here d (app t u)) (λ i h. inr (inl h)) (loose_in d t) (terms d t)) (each_same (Here d u) (Here d (app t u)) (λ i h. inr (inr h)) (loose_in d u) (terms d u))

-- the variables of a clause
below_all : (vs : List Ty) (d : ℕ) (t : Term) (i : ℕ) → Here (under_all suc vs d) t i → Here d (all_of vs t) i
below_all [] d t i h = h
below_all (v ∷ vs) d t i h = below_all vs d (pi_of v (abs t)) i (inr (inr (inr (below (under_all suc vs d) t i h))))

both : (c d : ℕ) (A B : Term) (is js : List ℕ) → EachOf (Here d A) is → EachOf (Here d B) js → EachOf (Here d (two c [] A B)) (is ++ js)
both c d A B is js h k =
    each_append (Here d (two c [] A B)) is js (each_same (Here d A) (Here d (two c [] A B)) (λ i x. inr (inl (inr (inr x)))) is h) (each_same (Here d B) (Here d (two c [] A B)) (λ i x. inr (inr x)) js k)

swapped : (c d : ℕ) (A B : Term) (is js : List ℕ) → EachOf (Here d A) is → EachOf (Here d B) js → EachOf (Here d (two c [] A B)) (js ++ is)
swapped c d A B is js h k =
    each_append (Here d (two c [] A B)) js is (each_same (Here d B) (Here d (two c [] A B)) (λ i x. inr (inr x)) js k) (each_same (Here d A) (Here d (two c [] A B)) (λ i x. inr (inl (inr (inr x)))) is h)

abbrev InOne : ℕ → List Clause → ℕ → Type 0
InOne d cs i = StandsInOne cs (index (d + i))

-- of a clause, by its goals
in_clause : (d n : ℕ) (vs : List Ty) (h : Term) (b : Goals) → EachOf (Here (under_all suc vs d) (formula_of_goals b)) (collect_goals loose_in (under_all suc vs d) b) →
    EachOf (Here d (formula_of_clause (clause n vs h b))) (loose_in (under_all suc vs d) h ++ collect_goals loose_in (under_all suc vs d) b)
in_clause d n vs h no_goals k = each_append (Here d (all_of vs h)) (loose_in (under_all suc vs d) h) [] (each_same (Here (under_all suc vs d) h) (Here d (all_of vs h)) (below_all vs d h) (loose_in (under_all suc vs d) h) (terms (under_all suc vs d) h)) tt
in_clause d n vs h (goals g gs) k =
    let e = under_all suc vs d in
    let G = formula_of_goals (goals g gs) in
    each_same (Here e (two 2 [] G h)) (Here d (all_of vs (two 2 [] G h))) (below_all vs d (two 2 [] G h)) (loose_in e h ++ collect_goals loose_in e (goals g gs)) (swapped 2 e G h (collect_goals loose_in e (goals g gs)) (loose_in e h) k (terms e h))

mutual
  in_goal : (d : ℕ) (g : Goal) → EachOf (Here d (formula_of_goal g)) (collect_goal loose_in d g)
  in_goal d (Atomic t) = terms d t
  in_goal d Cut = tt
  in_goal d (Either l r) = both 1 d (formula_of_goals l) (formula_of_goals r) (collect_goals loose_in d l) (collect_goals loose_in d r) (in_goals d l) (in_goals d r)
  in_goal d (Exists T gs) = each_same (Here (suc d) (formula_of_goals gs)) (Here d (formula_of_goal (Exists T gs))) (λ i h. inr (inr (inr (below d (formula_of_goals gs) i h)))) (collect_goals loose_in (suc d) gs) (in_goals (suc d) gs)
  in_goal d (Forall T gs) = each_same (Here (suc d) (formula_of_goals gs)) (Here d (formula_of_goal (Forall T gs))) (λ i h. inr (inr (inr (below d (formula_of_goals gs) i h)))) (collect_goals loose_in (suc d) gs) (in_goals (suc d) gs)
  in_goal d (Assume w cs gs) = both 2 d (formula_of_clauses cs) (formula_of_goals gs) (collect_clauses loose_in d cs) (collect_goals loose_in d gs) (in_clauses d cs) (in_goals d gs)
  in_goal d (Not w gs) = each_same (Here d (formula_of_goals gs)) (Here d (formula_of_goal (Not w gs))) (λ i h. inr (inr h)) (collect_goals loose_in d gs) (in_goals d gs)

  in_goals : (d : ℕ) (gs : Goals) → EachOf (Here d (formula_of_goals gs)) (collect_goals loose_in d gs)
  in_goals d no_goals = tt
  in_goals d (goals g no_goals) = each_append (Here d (formula_of_goal g)) (collect_goal loose_in d g) [] (in_goal d g) tt
  in_goals d (goals g (goals h gs)) = both 0 d (formula_of_goal g) (formula_of_goals (goals h gs)) (collect_goal loose_in d g) (collect_goals loose_in d (goals h gs)) (in_goal d g) (in_goals d (goals h gs))

  in_clauses : (d : ℕ) (cs : Clauses) → EachOf (Here d (formula_of_clauses cs)) (collect_clauses loose_in d cs)
  in_clauses d no_clauses = tt
  in_clauses d (clauses (clause n vs h b) no_clauses) = each_append (Here d (formula_of_clause (clause n vs h b))) (loose_in (under_all suc vs d) h ++ collect_goals loose_in (under_all suc vs d) b) [] (in_clause d n vs h b (in_goals (under_all suc vs d) b)) tt
  in_clauses d (clauses (clause n vs h b) (clauses e cs)) =
      both 0 d (formula_of_clause (clause n vs h b)) (formula_of_clauses (clauses e cs))
      (loose_in (under_all suc vs d) h ++ collect_goals loose_in (under_all suc vs d) b) (collect_clauses loose_in d (clauses e cs))
      (in_clause d n vs h b (in_goals (under_all suc vs d) b)) (in_clauses d (clauses e cs))

in_each : (d : ℕ) (cs : Clauses) → EachOf (InOne d (clause_list cs)) (collect_clauses loose_in d cs)
in_each d no_clauses = tt
in_each d (clauses (clause n vs h b) cs) =
    let c = clause n vs h b in
    let is = loose_in (under_all suc vs d) h ++ collect_goals loose_in (under_all suc vs d) b in
    let js = collect_clauses loose_in d cs in
    each_append (InOne d (c ∷ clause_list cs)) is js (each_same (Here d (formula_of_clause c)) (InOne d (c ∷ clause_list cs)) (λ i x. inl x) is
    (in_clause d n vs h b (in_goals (under_all suc vs d) b))) (each_same (InOne d (clause_list cs)) (InOne d (c ∷ clause_list cs)) (λ i x. inr x)
    js (in_each d cs))

none_more : (i : ℕ) → 0 + i ≡ i
none_more i = omega arith

denied_terms : (gs : Goals) → EachOf (λ t. StandsIn t (formula_of_goals gs)) (map index (collect_goals loose_in 0 gs))
denied_terms gs = each_map (Here 0 (formula_of_goals gs)) (λ t. StandsIn t (formula_of_goals gs)) index (λ i h. transport (λ z. StandsIn (index z) (formula_of_goals gs)) (none_more i) h) (collect_goals loose_in 0 gs) (in_goals 0 gs)

assumed_terms : (cs : Clauses) → EachOf (StandsInOne (clause_list cs)) (map index (collect_clauses loose_in 0 cs))
assumed_terms cs = each_map (InOne 0 (clause_list cs)) (StandsInOne (clause_list cs)) index (λ i h. transport (λ z. StandsInOne (clause_list cs) (index z)) (none_more i) h) (collect_clauses loose_in 0 cs) (in_each 0 cs)

module _ (P : Atom → Type 0) (source : (a : Atom) → P a → IsSourceAtom a) where
  -- of a source, whose atoms have the property P: it has no logic variable
  abbrev S : Term → Type 0
  S t = AllAtoms P t

  atoms_source : (t : Term) → AllAtoms P t → AllAtoms IsSourceAtom t
  atoms_source (index i) h = tt
  atoms_source (atom a) h = source a h
  atoms_source (abs b) h = atoms_source b h
  atoms_source (app t u) h = (atoms_source t h.0, atoms_source u h.1)

  each_source : (ts : List Term) → EachOf (λ t. AllAtoms P t) ts → EachOf (λ t. AllAtoms IsSourceAtom t) ts
  each_source [] h = tt
  each_source (t ∷ ts) h = (atoms_source t h.0, each_source ts h.1)

  mutual
    goal_source : (g : Goal) → IsTermOf (λ t. AllAtoms P t) g → IsTermOf (λ t. AllAtoms IsSourceAtom t) g
    goal_source (Atomic t) h = atoms_source t h
    goal_source Cut h = tt
    goal_source (Either l r) h = (goals_source l h.0, goals_source r h.1)
    goal_source (Exists T gs) h = goals_source gs h
    goal_source (Forall T gs) h = goals_source gs h
    goal_source (Assume w cs gs) h = (each_source w.terms h.0, clauses_source cs h.1, goals_source gs h.2)
    goal_source (Not w gs) h = (each_source w.terms h.0, goals_source gs h.1)

    goals_source : (gs : Goals) → AreTermsOf (λ t. AllAtoms P t) gs → AreTermsOf (λ t. AllAtoms IsSourceAtom t) gs
    goals_source no_goals h = tt
    goals_source (goals g gs) h = (goal_source g h.0, goals_source gs h.1)

    clauses_source : (cs : Clauses) → AreClausesOf (λ t. AllAtoms P t) cs → AreClausesOf (λ t. AllAtoms IsSourceAtom t) cs
    clauses_source no_clauses h = tt
    clauses_source (clauses (clause n vs x b) cs) h = ((atoms_source x h.0.0, goals_source b h.0.1), clauses_source cs h.1)

  indices : (is : List ℕ) → EachOf S (map index is)
  indices [] = tt
  indices (i ∷ is) = (tt, indices is)

  mutual
    raised_goal : (d : ℕ) (g : Goal) → IsTermOf S g → IsTermOf S (map_goal suc (λ e t. shift e 1 t) same_type d g)
    raised_goal d (Atomic t) h = atoms_raise P d t h
    raised_goal d Cut h = tt
    raised_goal d (Either l r) h = (raised_all d l h.0, raised_all d r h.1)
    raised_goal d (Exists T gs) h = raised_all (suc d) gs h
    raised_goal d (Forall T gs) h = raised_all (suc d) gs h
    raised_goal d (Assume w cs gs) h = (atoms_raise_each P d w.terms h.0, raised_clauses d cs h.1, raised_all d gs h.2)
    raised_goal d (Not w gs) h = (atoms_raise_each P d w.terms h.0, raised_all d gs h.1)

    raised_all : (d : ℕ) (gs : Goals) → AreTermsOf S gs → AreTermsOf S (map_goals suc (λ e t. shift e 1 t) same_type d gs)
    raised_all d no_goals h = tt
    raised_all d (goals g gs) h = (raised_goal d g h.0, raised_all d gs h.1)

    raised_clauses : (d : ℕ) (cs : Clauses) → AreClausesOf S cs → AreClausesOf S (map_clauses suc (λ e t. shift e 1 t) same_type d cs)
    raised_clauses d no_clauses h = tt
    raised_clauses d (clauses (clause n vs x b) cs) h = ((atoms_raise P (under_all suc vs d) x h.0.0, raised_all (under_all suc vs d) b h.0.1), raised_clauses d cs h.1)

  -- what is written stands there, and comes from a source
  abbrev Fine : Goals → Type 0
  Fine gs = AreWrittenGoals gs × AreTermsOf S gs

  abbrev FineClauses : Clauses → Type 0
  FineClauses cs = AreWrittenClauses cs × AreClausesOf S cs

  added : (cs ds : Clauses) → FineClauses cs → FineClauses ds → FineClauses (add_clauses cs ds)
  added no_clauses ds h k = k
  added (clauses c cs) ds h k = let r = added cs ds (h.0.1, h.1.1) k in ((h.0.0, r.0), (h.1.0, r.1))

  module _ (d : Declared) where
    mutual
      goal_flat : (n : ℕ) (B : List Bool) (t : Term) (rest gs : Goals) → flat_goal n d B t rest ≡ Some gs → S t → Fine rest → Fine gs
      goal_flat zero B t rest gs e o r = absurd (cc)
      goal_flat (suc n) B t rest gs e o r = form_flat n B t (connective_of t) (form_shape t) rest gs e o r

      form_flat : (n : ℕ) (B : List Bool) (t : Term) (f : Connective) → Shape f t → (rest gs : Goals) → flat_goal_form n d B t f rest ≡ Some gs → S t → Fine rest → Fine gs
      form_flat zero B t f s rest gs e o r = absurd (cc)
      form_flat (suc n) B t connective.True s rest gs e o r = transport Fine (some_is rest gs e) r
      form_flat (suc n) B t connective.Cut s rest gs e o r = transport Fine (some_is (goals Cut rest) gs e) ((tt, r.0), (tt, r.1))
      form_flat (suc n) B t (connective.And a b) s rest gs e o r =
          let p = transport S s o in
          let q = and_then_some (flat_goal n d B b rest) (flat_goal n d B a) gs e in
          goal_flat n B a q.0 gs q.2 p.0.1 (goal_flat n B b rest q.0 q.1 p.1 r)
      form_flat (suc n) B t (connective.Or a b) s rest gs e o r =
          let p = transport S s o in
          let q = and_then_some (flat_goal n d B a no_goals) (λ l. option_map (λ m. goals (Either l m) rest) (flat_goal n d B b no_goals)) gs e in
          let z = option_map_some (flat_goal n d B b no_goals) (λ m. goals (Either q.0 m) rest) gs q.2 in
          let x = goal_flat n B a no_goals q.0 q.1 p.0.1 (tt, tt) in
          let y = goal_flat n B b no_goals z.0 z.1 p.1 (tt, tt) in
          transport Fine z.2 (((x.0, y.0), r.0), ((x.1, y.1), r.1))
      form_flat (suc n) B t (connective.Implies c g) (inl s) rest gs e o r =
          let p = transport S s o in
          let q = and_then_some (flat_clause n d B c [] []) (λ cs. option_map (λ hs. goals (assuming cs hs) rest) (flat_goal n d B g no_goals)) gs e in
          let z = option_map_some (flat_goal n d B g no_goals) (λ hs. goals (assuming q.0 hs) rest) gs q.2 in
          let x = clause_flat n B c [] [] q.0 q.1 p.0.1 tt in
          let y = goal_flat n B g no_goals z.0 z.1 p.1 (tt, tt) in
          transport Fine z.2 (((assumed_terms q.0, x.0, y.0, source_clause_origin q.0 (clauses_source q.0 x.1)), r.0), ((indices (collect_clauses loose_in 0 q.0), x.1, y.1), r.1))
      form_flat (suc n) B t (connective.Implies c g) (inr s) rest gs e o r =
          let p = transport S s o in
          let q = and_then_some (flat_clause n d B c [] []) (λ cs. option_map (λ hs. goals (assuming cs hs) rest) (flat_goal n d B g no_goals)) gs e in
          let z = option_map_some (flat_goal n d B g no_goals) (λ hs. goals (assuming q.0 hs) rest) gs q.2 in
          let x = clause_flat n B c [] [] q.0 q.1 p.1 tt in
          let y = goal_flat n B g no_goals z.0 z.1 p.0.1 (tt, tt) in
          transport Fine z.2 (((assumed_terms q.0, x.0, y.0, source_clause_origin q.0 (clauses_source q.0 x.1)), r.0), ((indices (collect_clauses loose_in 0 q.0), x.1, y.1), r.1))
      form_flat (suc n) B t (connective.ForAll T b) s rest gs e o r =
          let p = transport S s.1 o in
          let z = option_map_some (flat_goal n d (true ∷ B) b no_goals) (λ hs. goals (Forall T hs) rest) gs e in
          let x = goal_flat n (true ∷ B) b no_goals z.0 z.1 (transport S (sym s.2) (atoms_body P s.0 p.1)) (tt, tt) in
          transport Fine z.2 ((x.0, r.0), (x.1, r.1))
      form_flat (suc n) B t (connective.Exists T b) s rest gs e o r =
          let p = transport S s.1 o in
          let z = option_map_some (flat_goal n d (false ∷ B) b (raise_goals 0 rest)) (λ hs. goals (Exists T hs) no_goals) gs e in
          let x = goal_flat n (false ∷ B) b (raise_goals 0 rest) z.0 z.1 (transport S (sym s.2) (atoms_body P s.0 p.1)) (raised_goals rest r.0, raised_all 0 rest r.1) in
          transport Fine z.2 ((x.0, tt), (x.1, tt))
      form_flat (suc n) B t (connective.Not g) s rest gs e o r =
          let p = transport S s o in
          let z = option_map_some (flat_goal n d B g no_goals) (λ hs. goals (denied hs) rest) gs e in
          let x = goal_flat n B g no_goals z.0 z.1 p.1 (tt, tt) in
          transport Fine z.2 (((denied_terms z.0, x.0, source_origin z.0 (goals_source z.0 x.1)), r.0), ((indices (collect_goals loose_in 0 z.0), x.1), r.1))
      form_flat (suc n) B t connective.Atomic s rest gs e o r = transport Fine (only_some (is_goal_head (head_of t) && are_positive (arguments t)) (goals (Atomic t) rest) gs e).1 ((tt, r.0), (o, r.1))

      list_flat : (n : ℕ) (B : List Bool) (ts : List Term) (gs : Goals) → flat_list n d B ts ≡ Some gs → EachOf S ts → Fine gs
      list_flat zero B ts gs e h = absurd (cc)
      list_flat (suc n) B [] gs e h = transport Fine (some_is no_goals gs e) (tt, tt)
      list_flat (suc n) B (t ∷ ts) gs e h =
          let q = and_then_some (flat_list n d B ts) (flat_goal n d B t) gs e in
          goal_flat n B t q.0 gs q.2 h.0 (list_flat n B ts q.0 q.1 h.1)

      clause_flat : (n : ℕ) (B : List Bool) (c : Term) (vs : List Ty) (ts : List Term) (cs : Clauses) → flat_clause n d B c vs ts ≡ Some cs → S c → EachOf S ts → FineClauses cs
      clause_flat zero B c vs ts cs e o h = absurd (cc)
      clause_flat (suc n) B c vs ts cs e o h = clause_form_flat n B c (connective_of c) (form_shape c) vs ts cs e o h

      clause_form_flat : (n : ℕ) (B : List Bool) (c : Term) (f : Connective) → Shape f c → (vs : List Ty) (ts : List Term) (cs : Clauses) → flat_clause_form n d B c f vs ts ≡ Some cs → S c → EachOf S ts → FineClauses cs
      clause_form_flat zero B c f s vs ts cs e o h = absurd (cc)
      clause_form_flat (suc n) B c connective.True s vs ts cs e o h = absurd (cc)
      clause_form_flat (suc n) B c connective.Cut s vs ts cs e o h = absurd (cc)
      clause_form_flat (suc n) B c (connective.Or a b) s vs ts cs e o h = absurd (cc)
      clause_form_flat (suc n) B c (connective.Not g) s vs ts cs e o h = absurd (cc)
      clause_form_flat (suc n) B c (connective.Exists T b) s vs ts cs e o h = absurd (cc)
      clause_form_flat (suc n) B c (connective.And a b) s vs ts cs e o h =
          let p = transport S s o in
          let q = and_then_some (flat_clause n d B a vs ts) (λ l. option_map (add_clauses l) (flat_clause n d B b vs ts)) cs e in
          let z = option_map_some (flat_clause n d B b vs ts) (add_clauses q.0) cs q.2 in
          transport FineClauses z.2 (added q.0 z.0 (clause_flat n B a vs ts q.0 q.1 p.0.1 h) (clause_flat n B b vs ts z.0 z.1 p.1 h))
      clause_form_flat (suc n) B c (connective.Implies g b) (inl s) vs ts cs e o h = let p = transport S s o in clause_flat n B b vs (ts ++ g ∷ []) cs e p.1 (each_append S ts (g ∷ []) h (p.0.1, tt))
      clause_form_flat (suc n) B c (connective.Implies g b) (inr s) vs ts cs e o h = let p = transport S s o in clause_flat n B b vs (ts ++ g ∷ []) cs e p.0.1 (each_append S ts (g ∷ []) h (p.1, tt))
      clause_form_flat (suc n) B c (connective.ForAll T b) s vs ts cs e o h =
          let p = transport S s.1 o in
          clause_flat n (false ∷ B) b (T ∷ vs) (map (shift 0 1) ts) cs e (transport S (sym s.2) (atoms_body P s.0 p.1)) (atoms_raise_each P 0 ts h)
      clause_form_flat (suc n) B c connective.Atomic s vs ts cs e o h =
          let q = and_then_some (only (is_clause_head d B (head_of c) && are_positive (arguments c)) c) (λ u. option_map (λ gs. clauses (clause 0 vs u gs) no_clauses) (flat_list n d B ts)) cs e in
          let z = option_map_some (flat_list n d B ts) (λ gs. clauses (clause 0 vs q.0 gs) no_clauses) cs q.2 in
          let x = list_flat n B ts z.0 z.1 h in
          transport FineClauses z.2 ((x.0, tt), ((transport S (only_some (is_clause_head d B (head_of c) && are_positive (arguments c)) c q.0 q.1).1 o, x.1), tt))

    pub goals_written : (n : ℕ) (B : List Bool) (t : Term) (gs : Goals) → flat_goal n d B t no_goals ≡ Some gs → AllAtoms P t → AreWrittenGoals gs
    goals_written n B t gs e o = (goal_flat n B t no_goals gs e o (tt, tt)).0

    pub clauses_written : (n : ℕ) (B : List Bool) (c : Term) (cs : Clauses) → flat_clause n d B c [] [] ≡ Some cs → AllAtoms P c → AreWrittenClauses cs
    clauses_written n B c cs e o = (clause_flat n B c [] [] cs e o tt).0

    -- and its terms are those of the source
    pub goals_of : (n : ℕ) (B : List Bool) (t : Term) (gs : Goals) → flat_goal n d B t no_goals ≡ Some gs → AllAtoms P t → AreTermsOf (λ u. AllAtoms P u) gs
    goals_of n B t gs e o = (goal_flat n B t no_goals gs e o (tt, tt)).1

    pub clauses_of : (n : ℕ) (B : List Bool) (c : Term) (cs : Clauses) → flat_clause n d B c [] [] ≡ Some cs → AllAtoms P c → AreClausesOf (λ u. AllAtoms P u) cs
    clauses_of n B c cs e o = (clause_flat n B c [] [] cs e o tt).1

pub counted : (k : ℕ) (cs : Clauses) → AreWrittenClauses cs → AreWrittenClauses (with_type_vars k cs)
counted k no_clauses h = tt
counted k (clauses (clause n vs x b) cs) h = (h.0, counted k cs h.1)
