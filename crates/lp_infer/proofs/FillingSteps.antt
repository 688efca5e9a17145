-- What the parts of a text do to the spines of the terms so far, as trees.
use Rattle.std.proofs.Common.{◌≡◌, ℕ, ◌+◌, List, [], ◌∷◌, ◌++◌, map, reverse, take, drop, get_or, refl, sym, ap, subst, ◌∙◌, Result, Ok, Err}
use Rattle.std.specs.Prelude.{All, IfOk}
use Rattle.std.proofs.lemmas.List.{map-append, reverse-append, drop-drop, take-map, drop-map}
use Rattle.std.proofs.lemmas.List.Elements.{All-nil, All-head, All-tail}
use Rattle.lp_term.proofs.Knowing.{apply_last}
use Rattle.lp_lemmas.proofs.Lists.{cons_head}
use Rattle.lp_lemmas.proofs.Elements.{All_pushed, All_popped}
use Rattle.lp_calculus.specs.Types.{Ty}
use Rattle.lp_calculus.specs.Typing.{Scheme}
use Rattle.lp_calculus.specs.Term.{Term, atom, abs, app, apply, constant}
use Rattle.lp_term.specs.Nodes.{Nodes, tree, type_tree, Extends}
use Rattle.lp_term.specs.declared.node.TermId.{TermId}
use Rattle.lp_term.specs.declared.node.TypeId.{TypeId}
use Rattle.lp_term.proofs.Trees.{extends_same, extends-trans}
use Rattle.lp_infer.specs.Typing.{Raw}
use Rattle.lp_infer.specs.Postfix.{Mark, is_constant, closes, applies, postfix}
use Rattle.lp_term.specs.Within.{IsTermOf, AreTermsOf, AreTypesOf}
use Rattle.lp_infer.specs.Copies.{trees_of}
use Rattle.lp_infer.specs.Filling.{fills, IsTerm, Formed, formed, one_more, abstracted, on_argument, form, form_all, spine_tree, IsSpine, terms_so_far, AreSound, Forms, IsPushed, IsPopped, IsTaken}
use Rattle.lp_infer.specs.declared.lookup.Step.{Step}
use Rattle.lp_infer.specs.declared.terms.Spine.{Spine}
use Rattle.lp_infer.specs.declared.terms.Terms.{Terms}
use Rattle.lp_term.proofs.Within.{term_later, terms_later, trees_later, type_trees_later, types_later}
use Rattle.lp_infer.proofs.Filling.{formed_whole, form_more}

-- lists

reverse_pushed : {X Y : Type 0} (f : X → Y) (xs ys : List X) (x : X) → ys ≡ xs ++ x ∷ [] → reverse (map f ys) ≡ f x ∷ reverse (map f xs)
reverse_pushed f xs ys x e = ap (λ l. reverse (map f l)) e ∙ ap reverse (map-append f xs (x ∷ [])) ∙ reverse-append (map f xs) (f x ∷ [])

formed_same : (ts us : List Term) (Ts Us : List Ty) → ts ≡ us → Ts ≡ Us → formed ts Ts ≡ formed us Us
formed_same ts us Ts Us e f = ap (λ l. formed l Ts) e ∙ ap (formed us) f

-- spines in a bank that grows
module _ (b c : Nodes) (E : Extends b c) where
  spine_stays : (s : Spine) → IsSpine b s → IsSpine c s
  spine_stays s h = (term_later b c s.head E h.0, terms_later b c s.arguments.items E h.1)

  spine_same : (s : Spine) → IsSpine b s → spine_tree c s ≡ spine_tree b s
  spine_same s h = ap (λ t. apply t (map (λ u. tree c u.0) s.arguments.items)) (E.same_terms s.head.0 h.0) ∙ ap (apply (tree b s.head.0)) (trees_later b c s.arguments.items E h.1)

  pub spines_stay : (ss : List Spine) → All (IsSpine b) ss → All (IsSpine c) ss
  spines_stay ss h = λ i d l. spine_stays (get_or ss i d) (h i d l)

  pub spines_same : (ss : List Spine) → All (IsSpine b) ss → map (spine_tree c) ss ≡ map (spine_tree b) ss
  spines_same [] h = refl
  spines_same (s ∷ ss) h =
      let e = spine_same s (All-head (IsSpine b) s ss h) in
      let f = spines_same ss (All-tail (IsSpine b) s ss h) in
      ap (λ t. t ∷ map (spine_tree c) ss) e ∙ ap (λ l. spine_tree b s ∷ l) f

-- one change after another

pub nothing_forms : (b : Nodes) (types : List TypeId) (t : Terms) → Forms b b types t t (λ f. f)
nothing_forms b types t = record { kept = extends_same b; sound = λ s. s; changed = λ s. refl }

pub forms_then : (a b c : Nodes) (types : List TypeId) (old mid new : Terms) (f g : Formed → Formed) → Forms a b types old mid f → Forms b c types mid new g → Forms a c types old new (λ x. g (f x))
forms_then a b c types old mid new f g F G = record {
  kept = extends-trans a b c F.kept G.kept;
  sound = λ s. G.sound (F.sound s);
  changed = λ s. G.changed (F.sound s) ∙ ap g (F.changed s);
}

pub forms_as : (b c : Nodes) (types : List TypeId) (old new : Terms) (f g : Formed → Formed) → ((x : Formed) → f x ≡ g x) → Forms b c types old new f → Forms b c types old new g
forms_as b c types old new f g e F = record { kept = F.kept; sound = F.sound; changed = λ s. F.changed s ∙ e (terms_so_far b types old) }

-- a spine more on spines that were there
module _ (b c : Nodes) (types : List TypeId) (E : Extends b c) (before : List Spine) (new : Terms) (spine : Spine) (e : new.stack.items ≡ before ++ spine ∷ []) (K : AreTypesOf b types) (S : All (IsSpine b) before) where
  more_sound : IsSpine c spine → AreSound c types new
  more_sound h = record { known = types_later b c types E K; spines = All_pushed (IsSpine c) new.stack.items before spine e (spines_stay b c E before S) h }

  more_terms : reverse (map (spine_tree c) new.stack.items) ≡ spine_tree c spine ∷ reverse (map (spine_tree b) before)
  more_terms = reverse_pushed (spine_tree c) before new.stack.items spine e ∙ ap (λ l. spine_tree c spine ∷ reverse l) (spines_same b c E before S)

  more_formed : (t : Term) (Ts : List Ty) → spine_tree c spine ≡ t → drop new.used (trees_of b types) ≡ Ts → terms_so_far c types new ≡ formed (t ∷ reverse (map (spine_tree b) before)) Ts
  more_formed t Ts f g =
      formed_same (reverse (map (spine_tree c) new.stack.items)) (t ∷ reverse (map (spine_tree b) before)) (drop new.used (trees_of c types)) Ts
      (more_terms ∙ ap (λ u. u ∷ reverse (map (spine_tree b) before)) f) (ap (drop new.used) (type_trees_later b c types E K) ∙ g)

-- a bare head

bare_spine : (c : Nodes) (head : TermId) (t : Term) (s : Spine) → s.head ≡ head → s.arguments.items ≡ [] → IsTerm c head t → IsSpine c s × (spine_tree c s ≡ t)
bare_spine c head t s e f h = (
  (subst (IsTermOf c) (sym e) h.0, subst (AreTermsOf c) (sym f) (All-nil (IsTermOf c))),
  ap (λ l. apply (tree c s.head.0) (map (λ u. tree c u.0) l)) f ∙ ap (λ i. tree c i.0) e ∙ h.1,
)

pub head_forms : (b c : Nodes) (types : List TypeId) (old new : Terms) (head : TermId) (t : Term) → Extends b c → IsTerm c head t → IsPushed head old new → Forms b c types old new (one_more t)
head_forms b c types old new head t E h P =
    let s = bare_spine c head t P.spine P.at_head P.bare h in record {
      kept = E;
      sound = λ S. more_sound b c types E old.stack.items new P.spine P.stack S.known S.spines s.0;
      changed = λ S. more_formed b c types E old.stack.items new P.spine P.stack S.known S.spines t (drop old.used (trees_of b types)) s.1 (ap (λ n. drop n (trees_of b types)) P.used);
    }

-- a constant, on the next type arguments

next_types : (b : Nodes) (types arguments : List TypeId) (n k : ℕ) → arguments ≡ take n (drop k types) → trees_of b arguments ≡ take n (drop k (trees_of b types))
next_types b types arguments n k e =
    ap (trees_of b) e ∙ sym (take-map (λ t. type_tree b t.0) n (drop k types)) ∙ ap (take n) (sym (drop-map (λ t. type_tree b t.0) k types))

pub constant_forms : (b c : Nodes) (types arguments : List TypeId) (old mid new : Terms) (number : ℕ) (s : Scheme) (head : TermId) → Extends b c → mid.stack.items ≡ old.stack.items → mid.used ≡ old.used + s.count →
    arguments ≡ take s.count (drop old.used types) → IsTerm c head (atom (constant number (trees_of b arguments))) → IsPushed head mid new → Forms b c types old new (form (is_constant number s))
constant_forms b c types arguments old mid new number s head E e f a h P =
    let t = bare_spine c head (atom (constant number (trees_of b arguments))) P.spine P.at_head P.bare h in
    let stack : new.stack.items ≡ old.stack.items ++ P.spine ∷ [] = P.stack ∙ ap (λ l. l ++ P.spine ∷ []) e in
    let left : drop new.used (trees_of b types) ≡ drop s.count (drop old.used (trees_of b types)) = ap (λ n. drop n (trees_of b types)) (P.used ∙ f) ∙ sym (drop-drop s.count old.used (trees_of b types)) in record {
      kept = E;
      sound = λ S. more_sound b c types E old.stack.items new P.spine stack S.known S.spines t.0;
      changed = λ S. more_formed b c types E old.stack.items new P.spine stack S.known S.spines (atom (constant number (take s.count (drop old.used (trees_of b types))))) (drop s.count (drop old.used (trees_of b types)))
          (t.1 ∙ ap (λ l. atom (constant number l)) (next_types b types arguments s.count old.used a)) left;
    }

-- a part that was taken off

-- the end of an abstraction
pub close_forms : (b m c : Nodes) (types : List TypeId) (old mid new : Terms) (body head : TermId) → Extends b m → Extends m c → IsTaken b m old mid body → IsTerm c head (abs (tree m body.0)) → IsPushed head mid new → Forms b c types old new (form closes)
close_forms b m c types old mid new body head E F T h P =
    let parts : AreSound b types old → All (IsSpine b) mid.stack.items × IsSpine b T.spine = λ S. All_popped (IsSpine b) old.stack.items mid.stack.items T.spine T.popped.stack S.spines in
    let G = extends-trans b m c E F in
    let s = bare_spine c head (abs (tree m body.0)) P.spine P.at_head P.bare h in record {
      kept = G;
      sound = λ S. more_sound b c types G mid.stack.items new P.spine P.stack S.known (parts S).0 s.0;
      changed = λ S.
          more_formed b c types G mid.stack.items new P.spine P.stack S.known (parts S).0 (abs (spine_tree b T.spine)) (drop old.used (trees_of b types)) (s.1 ∙ ap abs (T.is (parts S).1).1) (ap (λ n. drop n (trees_of b types)) (P.used ∙ T.popped.used)) ∙
          sym (ap (λ l. formed (abstracted l) (drop old.used (trees_of b types))) (reverse_pushed (spine_tree b) mid.stack.items old.stack.items T.spine T.popped.stack));
    }

-- an argument more
longer_spine : (b c : Nodes) (E : Extends b c) (argument : TermId) (t : Term) (s longer : Spine) → longer.head ≡ s.head → longer.arguments.items ≡ s.arguments.items ++ argument ∷ [] → IsSpine b s → IsTerm c argument t →
    IsSpine c longer × (spine_tree c longer ≡ app (spine_tree b s) t)
longer_spine b c E argument t s longer e f h k =
    let d = spine_stays b c E s h in (
      (subst (IsTermOf c) (sym e) d.0, All_pushed (IsTermOf c) longer.arguments.items s.arguments.items argument f d.1 k.0),
      ap (λ l. apply (tree c longer.head.0) (map (λ u. tree c u.0) l)) f ∙ ap (λ i. apply (tree c i.0) (map (λ u. tree c u.0) (s.arguments.items ++ argument ∷ []))) e ∙
          ap (apply (tree c s.head.0)) (map-append (λ u. tree c u.0) s.arguments.items (argument ∷ [])) ∙ apply_last (tree c s.head.0) (map (λ u. tree c u.0) s.arguments.items) (tree c argument.0) ∙
          ap (λ u. app u (tree c argument.0)) (spine_same b c E s h) ∙ ap (app (spine_tree b s)) k.1,
    )

pub apply_forms : (b c : Nodes) (types : List TypeId) (old mid rest new : Terms) (argument : TermId) (spine longer : Spine) → Extends b c → IsTaken b c old mid argument → IsPopped mid rest spine → longer.head ≡ spine.head → longer.arguments.items ≡ spine.arguments.items ++ argument ∷ [] →
    new.stack.items ≡ rest.stack.items ++ longer ∷ [] → new.used ≡ rest.used → Forms b c types old new (form applies)
apply_forms b c types old mid rest new argument spine longer E T P e f stack used =
    let first : AreSound b types old → All (IsSpine b) mid.stack.items × IsSpine b T.spine = λ S. All_popped (IsSpine b) old.stack.items mid.stack.items T.spine T.popped.stack S.spines in
    let second : AreSound b types old → All (IsSpine b) rest.stack.items × IsSpine b spine = λ S. All_popped (IsSpine b) mid.stack.items rest.stack.items spine P.stack (first S).0 in
    let long : AreSound b types old → IsSpine c longer × (spine_tree c longer ≡ app (spine_tree b spine) (spine_tree b T.spine)) = λ S. longer_spine b c E argument (spine_tree b T.spine) spine longer e f (second S).1 (T.is (first S).1) in record {
      kept = E;
      sound = λ S. more_sound b c types E rest.stack.items new longer stack S.known (second S).0 (long S).0;
      changed = λ S.
          more_formed b c types E rest.stack.items new longer stack S.known (second S).0 (app (spine_tree b spine) (spine_tree b T.spine)) (drop old.used (trees_of b types)) (long S).1 (ap (λ n. drop n (trees_of b types)) (used ∙ P.used ∙ T.popped.used)) ∙
          sym (ap (λ l. formed (on_argument l) (drop old.used (trees_of b types)))
          (reverse_pushed (spine_tree b) mid.stack.items old.stack.items T.spine T.popped.stack ∙ ap (λ l. spine_tree b T.spine ∷ l) (reverse_pushed (spine_tree b) rest.stack.items mid.stack.items spine P.stack)));
    }

-- the formula of a text
pub formula_formed : (b m c : Nodes) (types : List TypeId) (old mid new : Terms) (id : TermId) (R : Raw) (ms : List Mark) → postfix R ≡ ms → old.stack.items ≡ [] → AreTypesOf b types → Forms b m types old mid (form_all ms) → IsTaken m c mid new id →
    IsTerm c id (fills R (drop old.used (trees_of b types))).0
formula_formed b m c types old mid new id R ms e none known F T =
    let Ts = drop old.used (trees_of b types) in
    let sound : AreSound b types old = record { known = known; spines = subst (All (IsSpine b)) (sym none) (All-nil (IsSpine b)) } in
    let first : terms_so_far b types old ≡ formed [] Ts = ap (λ l. formed (reverse (map (spine_tree b) l)) Ts) none in
    let last : terms_so_far m types mid ≡ formed ((fills R Ts).0 ∷ []) (fills R Ts).1 = F.changed sound ∙ ap (form_all ms) first ∙ ap (λ l. form_all l (formed [] Ts)) (sym e) ∙ formed_whole R Ts in
    let top : spine_tree m T.spine ∷ reverse (map (spine_tree m) new.stack.items) ≡ (fills R Ts).0 ∷ [] = sym (reverse_pushed (spine_tree m) new.stack.items mid.stack.items T.spine T.popped.stack) ∙ ap (λ f. f.terms) last in
    let h = T.is (All_popped (IsSpine m) mid.stack.items new.stack.items T.spine T.popped.stack (F.sound sound).spines).1 in
    (h.0, h.1 ∙ cons_head (spine_tree m T.spine) (fills R Ts).0 (reverse (map (spine_tree m) new.stack.items)) [] top)

-- the newest spine as a term of the bank

pub taken_by : {E : Type 0} (b c : Nodes) (old new : Terms) (spine : Spine) → IsPopped old new spine → (arguments : List TermId) → arguments ≡ spine.arguments.items → (r : Result TermId E) →
    IfOk r (IsTermOf c) → IfOk r (λ id. tree c id.0 ≡ apply (tree b spine.head.0) (map (λ u. tree b u.0) arguments)) → IfOk r (IsTaken b c old new)
taken_by b c old new spine P arguments e (Ok id) w h = record { spine = spine; popped = P; is = λ k. (w, h ∙ ap (λ l. apply (tree b spine.head.0) (map (λ u. tree b u.0) l)) e) }
taken_by b c old new spine P arguments e (Err x) w h = tt

-- all parts of a text, and the formula in the end

pub step_forms : (a b c : Nodes) (types : List TypeId) (old mid new : Terms) (says : Step → Mark) (steps : List Step) (step : Step) → Forms a b types old mid (form_all (map says steps)) → Forms b c types mid new (form (says step)) →
    Forms a c types old new (form_all (map says (steps ++ step ∷ [])))
step_forms a b c types old mid new says steps step F G =
    forms_as a c types old new (λ x. form (says step) (form_all (map says steps) x)) (form_all (map says (steps ++ step ∷ []))) (λ x. sym (ap (λ ms. form_all ms x) (map-append says steps (step ∷ [])) ∙ form_more (map says steps) (says step) x))
    (forms_then a b c types old mid new (form_all (map says steps)) (form (says step)) F G)

pub formula_told : {E : Type 0} (a m c : Nodes) (types : List TypeId) (old mid new : Terms) (says : Nodes → (ℕ → Ty) → Step → Mark) (taken steps : List Step) → taken ≡ steps → old.stack.items ≡ [] → AreTypesOf a types →
    ((b : Nodes) (τ : ℕ → Ty) → Forms a m types old mid (form_all (map (says b τ) taken))) → (r : Result TermId E) → IfOk r (IsTaken m c mid new) →
    IfOk r (λ id. (R : Raw) → (b : Nodes) → (τ : ℕ → Ty) → postfix R ≡ map (says b τ) steps → IsTerm c id (fills R (drop old.used (trees_of a types))).0)
formula_told a m c types old mid new says taken steps e none known F (Ok id) T = λ R b τ f.
    formula_formed a m c types old mid new id R (map (says b τ) taken) (f ∙ ap (map (says b τ)) (sym e)) none known (F b τ) T
formula_told a m c types old mid new says taken steps e none known F (Err x) T = tt
