-- The links around an atom are the variables and the body of its clause, and the sigmas of a list are closed.
use Rattle.std.proofs.Common.{◌≡◌, ℕ, suc, ◌-◌, ◌<◌, ◌≤◌, List, [], ◌∷◌, ◌++◌, length, map, reverse, refl, sym, ap, ◌∙◌, subst, arith, Vec, Global}
use Rattle.std.specs.Prelude.{All}
use Rattle.std.proofs.lemmas.List.{map-append, reverse-reverse, length-reverse}
use Rattle.std.proofs.lemmas.List.Elements.{All-nil, All-head, All-tail, All-push, All-weaker}
use Rattle.lp_calculus.specs.Term.{Term, shift}
use Rattle.lp_calculus.proofs.Plain.{shift-none}
use Rattle.lp_term.specs.Nodes.{Nodes, tree, type_tree}
use Rattle.lp_term.specs.declared.node.TermId.{TermId}
use Rattle.lp_term.specs.declared.node.TypeId.{TypeId}
use Rattle.lp_model.specs.declared.clause.Goal as code
use Rattle.lp_model.specs.declared.clause.Goal.{Goal}
use Rattle.lp_model.specs.Flattened.{goals_of}
use Rattle.lp_model.specs.Flat.{Exists, Goals, no_goals, goals, add_goals}
use Rattle.lp_normal.specs.Flats.{IsFlatGoal, IsFlatList, no_more, one_more}
use Rattle.lp_normal.specs.declared.goals.Waiting.{Waiting}
use Rattle.lp_normal.specs.declared.goals.Opened.{Opened}
use Rattle.lp_normal.specs.declared.clauses.Link.{Link}
use Rattle.lp_normal.specs.declared.clauses.Scope.{Scope}
use Rattle.lp_normal.specs.Within.{AreGoalsIn, IsWaitingIn, IsOpenedIn, IsLinkIn, IsScopeIn}
use Rattle.lp_normal.specs.Making.{Reads, raised_in, Flatten, Closes, vars_in, body_in, IsScopeOf}
use Rattle.lp_normal.proofs.Bounds.{All-last, All-reverse, goals_push, reverse_push}
use Rattle.lp_normal.proofs.Shifts.{shift_more}
use Rattle.lp_normal.proofs.Meanings.{some_is, some_terms, some_types}
use Rattle.lp_normal.proofs.Steps.{reads_push}

pub no_scope : (s : Scope) → s.vars.items ≡ [] → s.body.items ≡ [] → IsScopeOf [] s
no_scope s v w = record {
  vars = λ b. ap (λ z. map (λ T. type_tree b T.0) (reverse z)) v;
  body = λ b. ap (map (raised_in b (length s.vars.items))) w;
  levels = subst (All (λ u. u.level ≤ length s.vars.items)) (sym w) (All-nil (λ u. u.level ≤ length s.vars.items));
  within = λ b a. record { vars = subst (All (λ T. T.0 < length b.types)) (sym v) (All-nil (λ T. T.0 < length b.types)); body = subst (All (IsWaitingIn b (length s.vars.items))) (sym w) (All-nil (IsWaitingIn b (length s.vars.items))) };
}

raised_more : (b : Nodes) (n : ℕ) (ws : List Waiting) → All (λ w. w.level ≤ n) ws → map (raised_in b (suc n)) ws ≡ map (shift 0 1) (map (raised_in b n) ws)
raised_more b n [] a = refl
raised_more b n (w ∷ ws) a =
    let h = All-head (λ u. u.level ≤ n) w ws a in
    let q : suc n - w.level ≡ suc (n - w.level) = omega (arith, h) in
    ap (λ z. z ∷ map (raised_in b (suc n)) ws) (ap (λ k. shift 0 k (tree b w.formula.0)) q ∙ shift_more (n - w.level) (tree b w.formula.0)) ∙
    ap (λ z. shift 0 1 (raised_in b n w) ∷ z) (raised_more b n ws (All-tail (λ u. u.level ≤ n) w ws a))

pub length_push : {X : Type 0} (xs : List X) (x : X) → length (xs ++ x ∷ []) ≡ suc (length xs)
length_push [] x = refl
length_push (y ∷ ys) x = ap suc (length_push ys x)

pub in_variable : (s t : Scope) (around : List Link) (T : TypeId) → t.vars.items ≡ s.vars.items ++ T ∷ [] → t.body ≡ s.body → IsScopeOf around s → IsScopeOf (around ++ Link.Variable T ∷ []) t
in_variable s t around T v w i =
    let n : length t.vars.items ≡ suc (length s.vars.items) = ap length v ∙ length_push s.vars.items T in
    let r : reverse (around ++ Link.Variable T ∷ []) ≡ Link.Variable T ∷ reverse around = reverse_push (around ++ Link.Variable T ∷ []) around (Link.Variable T) refl in
    record {
      vars = λ b. ap (map (λ U. type_tree b U.0)) (reverse_push t.vars.items s.vars.items T v) ∙ ap (λ z. type_tree b T.0 ∷ z) (i.vars b) ∙ sym (ap (vars_in b) r);
      body = λ b.
          ap (λ z. map (raised_in b (length t.vars.items)) z.items) w ∙ ap (λ k. map (raised_in b k) s.body.items) n ∙ raised_more b (length s.vars.items) s.body.items i.levels ∙ ap (map (shift 0 1)) (i.body b) ∙
          sym (ap (body_in b) r);
      levels = subst (λ k. All (λ u. u.level ≤ k) t.body.items) (sym n) (subst (λ z. All (λ u. u.level ≤ suc (length s.vars.items)) z.items) (sym w)
          (All-weaker (λ u. u.level ≤ length s.vars.items) (λ u. u.level ≤ suc (length s.vars.items)) (λ u h. omega (arith, h)) s.body.items i.levels));
      within = λ b a.
          let l = All-last (IsLinkIn b) (around ++ Link.Variable T ∷ []) around (Link.Variable T) refl a in
          let k = i.within b l.0 in
          record {
            vars = subst (All (λ U. U.0 < length b.types)) (sym v) (All-push (λ U. U.0 < length b.types) s.vars.items T k.vars l.1);
            body = subst (λ m. All (IsWaitingIn b m) t.body.items) (sym n) (subst (λ z. All (IsWaitingIn b (suc (length s.vars.items))) z.items) (sym w)
                (All-weaker (IsWaitingIn b (length s.vars.items)) (IsWaitingIn b (suc (length s.vars.items))) (λ u h. record { formula = h.formula; outside = omega (arith, h.outside) }) s.body.items k.body));
          };
    }

pub in_guard : (s t : Scope) (around : List Link) (g : TermId) (n : ℕ) → t.vars ≡ s.vars → n ≡ length s.vars.items → t.body.items ≡ s.body.items ++ record { formula = g; level = n } ∷ [] → IsScopeOf around s → IsScopeOf (around ++ Link.Guard g ∷ []) t
in_guard s t around g n v e w i =
    let u : Waiting = record { formula = g; level = n } in
    let m : length t.vars.items ≡ length s.vars.items = ap (λ z. length z.items) v in
    let z0 : length s.vars.items - n ≡ 0 = omega (arith, e) in
    let r : reverse (around ++ Link.Guard g ∷ []) ≡ Link.Guard g ∷ reverse around = reverse_push (around ++ Link.Guard g ∷ []) around (Link.Guard g) refl in
    record {
      vars = λ b. ap (λ z. map (λ U. type_tree b U.0) (reverse z.items)) v ∙ i.vars b ∙ sym (ap (vars_in b) r);
      body = λ b.
          ap (λ k. map (raised_in b k) t.body.items) m ∙ ap (map (raised_in b (length s.vars.items))) w ∙ map-append (raised_in b (length s.vars.items)) s.body.items (u ∷ []) ∙
          ap (λ z. z ++ raised_in b (length s.vars.items) u ∷ []) (i.body b) ∙ ap (λ z. body_in b (reverse around) ++ z ∷ []) (ap (λ k. shift 0 k (tree b g.0)) z0 ∙ shift-none (tree b g.0)) ∙
          sym (ap (body_in b) r);
      levels = subst (λ k. All (λ x. x.level ≤ k) t.body.items) (sym m) (subst (All (λ x. x.level ≤ length s.vars.items)) (sym w) (All-push (λ x. x.level ≤ length s.vars.items) s.body.items u i.levels (omega (arith, e))));
      within = λ b a.
          let l = All-last (IsLinkIn b) (around ++ Link.Guard g ∷ []) around (Link.Guard g) refl a in
          let k = i.within b l.0 in
          record {
            vars = subst (λ z. All (λ U. U.0 < length b.types) z.items) (sym v) k.vars;
            body = subst (λ x. All (IsWaitingIn b x) t.body.items) (sym m) (subst (All (IsWaitingIn b (length s.vars.items))) (sym w) (All-push (IsWaitingIn b (length s.vars.items)) s.body.items u k.body (record { formula = l.1; outside = omega (arith, e) })));
          };
    }

list_flatten : (b : Nodes) (n : ℕ) (ws : List Waiting) (ts : List Term) (gs : Goals) → ts ≡ map (raised_in b n) ws → IsFlatList ts gs → Flatten b n ws gs
list_flatten b n [] ts gs e (no_more f g) = g
list_flatten b n [] ts gs e (one_more t us rest f p q) = let z : ◌≡◌ {A = List Term} (t ∷ us) [] = sym f ∙ e in absurd (cc)
list_flatten b n (w ∷ ws) ts gs e (no_more f g) = let z : ◌≡◌ {A = List Term} [] (raised_in b n w ∷ map (raised_in b n) ws) = sym f ∙ e in absurd (cc)
list_flatten b n (w ∷ ws) ts gs e (one_more t us rest f p q) =
    let z : t ∷ us ≡ raised_in b n w ∷ map (raised_in b n) ws = sym f ∙ e in
    let z1 : t ≡ raised_in b n w = cc in
    let z2 : us ≡ map (raised_in b n) ws = cc in
    (rest, list_flatten b n ws us rest z2 p, subst (λ x. IsFlatGoal x rest gs) z1 q)

-- the other way round
module _ (s t : Scope) (around : List Link) (v : t.vars.items ≡ reverse s.vars.items) (w : t.body.items ≡ reverse s.body.items) (i : IsScopeOf around s) where
  many : length t.vars.items ≡ length s.vars.items
  many = ap length v ∙ length-reverse s.vars.items

  pub scope_within : (b : Nodes) → All (IsLinkIn b) around → IsScopeIn b t
  scope_within b a =
      let k = i.within b a in
      record {
        vars = subst (All (λ U. U.0 < length b.types)) (sym v) (All-reverse (λ U. U.0 < length b.types) s.vars.items k.vars);
        body = subst (λ m. All (IsWaitingIn b m) t.body.items) (sym many) (subst (All (IsWaitingIn b (length s.vars.items))) (sym w) (All-reverse (IsWaitingIn b (length s.vars.items)) s.body.items k.body));
      }

  pub scope_vars : (b : Nodes) → map (λ T. type_tree b T.0) t.vars.items ≡ vars_in b (reverse around)
  scope_vars b = ap (map (λ T. type_tree b T.0)) v ∙ i.vars b

  pub scope_body : (b : Nodes) (gs : Goals) → IsFlatList (body_in b (reverse around)) gs → Flatten b (length t.vars.items) (reverse t.body.items) gs
  scope_body b gs p =
      subst (λ m. Flatten b m (reverse t.body.items) gs) (sym many)
      (subst (λ z. Flatten b (length s.vars.items) z gs) (sym (ap reverse w ∙ reverse-reverse s.body.items)) (list_flatten b (length s.vars.items) s.body.items (body_in b (reverse around)) gs (sym (i.body b)) p))

-- the innermost sigma is closed
module _ (b : Nodes) (all xs : List Opened) (o : Opened) (now after : Vec Goal Global) (e : all ≡ xs ++ o ∷ []) (f : after.items ≡ o.before.items ++ code.Some o.bound now ∷ []) where
  pub sigma_within : All (IsOpenedIn b) all → AreGoalsIn b now.items → All (IsOpenedIn b) xs × AreGoalsIn b after.items
  sigma_within a i =
      let k = All-last (IsOpenedIn b) all xs o e a in
      (k.0, goals_push b after.items o.before.items (code.Some o.bound now) f k.1.before (omega (arith, i.terms, some_terms o.bound now)) (omega (arith, i.types, k.1.bound, some_types o.bound now)))

  pub sigma_closes : (gs out : Goals) → All (IsOpenedIn b) all → Reads b now.items gs → Closes b (reverse all) gs out → (hs : Goals) × Reads b after.items hs × Closes b (reverse xs) hs out
  sigma_closes gs out a r h =
      let k = All-last (IsOpenedIn b) all xs o e a in
      let c = subst (λ z. Closes b z gs out) (reverse_push all xs o e) h in (
        add_goals c.0 (goals (Exists (type_tree b o.bound.0) gs) no_goals),
        reads_push b after.items o.before.items (code.Some o.bound now) c.0 (Exists (type_tree b o.bound.0) gs) f c.1 (λ later x. some_is later o.bound now ∙ ap (λ z. Exists z (goals_of later now.items)) (x.same_types o.bound.0 k.1.bound) ∙ ap (Exists (type_tree b o.bound.0)) (r later x)),
        c.2,
      )
