-- Type variables are met in the order of their first places, though a type that was seen is passed over.
use Rattle.std.proofs.Common.{◌≡◌, ℕ, suc, ◌<◌, List, [], ◌∷◌, ◌++◌, map, reverse, refl, sym, ap, subst, ◌∙◌, Bool, not, true, false, true≢false, arith, inl, inr}
use Rattle.std.specs.Prelude.{nat_eq, if◌then◌else◌, ◌||◌, ◌⊎◌, All}
use Rattle.std.specs.List.{list_any}
use Rattle.std.proofs.lemmas.List.{append-nil, append_assoc, reverse-append, reverse-reverse}
use Rattle.std.proofs.lemmas.List.Elements.{All-head, All-tail, All-cons, All-nil}
use Rattle.std.proofs.lemmas.Bool.{eqb-true}
use Rattle.lp_lemmas.proofs.Lists.{any_append, any_push}
use Rattle.indexmap.specs.IndexSet.{insert_key}
use Rattle.lp_calculus.specs.Types.{tys}
use Rattle.lp_term.specs.Node.{TypeShape, var_node, param_node, con_node, arrow_node, TypeBelow}
use Rattle.lp_term.specs.Nodes.{Nodes, type_tree, type_node_tree}
use Rattle.lp_term.specs.declared.node.TypeId.{TypeId}
use Rattle.lp_sig.specs.Schemes.{type_variables, types_variables, met, first_variables, AllMet, waiting_variables, WillBeMet, IsOnWay, IsOpened}

keeps : (N : List ℕ) (x : ℕ) → (more : List ℕ) × (insert_key nat_eq N x ≡ N ++ more)
keeps N x = go (list_any (nat_eq x) N) where
  go : (b : Bool) → (more : List ℕ) × ((if b then N else N ++ x ∷ []) ≡ N ++ more)
  go true = ([], sym (append-nil N))
  go false = (x ∷ [], refl)

inserted : (N : List ℕ) (x : ℕ) → list_any (nat_eq x) (insert_key nat_eq N x) ≡ true
inserted N x = go (list_any (nat_eq x) N) refl where
  go : (b : Bool) → list_any (nat_eq x) N ≡ b → list_any (nat_eq x) (if b then N else N ++ x ∷ []) ≡ true
  go true e = e
  go false e = any_push N x

met_grows : (xs N : List ℕ) → (more : List ℕ) × (met N xs ≡ N ++ more)
met_grows [] N = ([], sym (append-nil N))
met_grows (x ∷ xs) N =
    let k = keeps N x in
    let h = met_grows xs (insert_key nat_eq N x) in
    (k.0 ++ h.0, h.1 ∙ ap (λ l. l ++ h.0) k.1 ∙ append_assoc N k.0 h.0)

met_append : (xs ys N : List ℕ) → met N (xs ++ ys) ≡ met (met N xs) ys
met_append [] ys N = refl
met_append (x ∷ xs) ys N = met_append xs ys (insert_key nat_eq N x)

all_more : (N more xs : List ℕ) → AllMet N xs → AllMet (N ++ more) xs
all_more N more [] h = tt
all_more N more (x ∷ xs) h = (any_append N more x h.0, all_more N more xs h.1)

pub all_met : (xs N : List ℕ) → AllMet (met N xs) xs
all_met [] N = tt
all_met (x ∷ xs) N =
    let h = met_grows xs (insert_key nat_eq N x) in
    (subst (λ M. list_any (nat_eq x) M ≡ true) (sym h.1) (any_append (insert_key nat_eq N x) h.0 x (inserted N x)), all_met xs (insert_key nat_eq N x))

met_again : (xs N : List ℕ) → AllMet N xs → met N xs ≡ N
met_again [] N h = refl
met_again (x ∷ xs) N h =
    let e : insert_key nat_eq N x ≡ N = ap (λ b. if b then N else N ++ x ∷ []) h.0 in
    ap (λ M. met M xs) e ∙ met_again xs N h.1

waiting_append : (b : Nodes) (xs ys : List TypeId) → waiting_variables b (xs ++ ys) ≡ waiting_variables b xs ++ waiting_variables b ys
waiting_append b [] ys = refl
waiting_append b (x ∷ xs) ys =
    ap (λ l. type_variables (type_tree b x.0) ++ l) (waiting_append b xs ys) ∙ sym (append_assoc (type_variables (type_tree b x.0)) (waiting_variables b xs) (waiting_variables b ys))

-- behind these types, each of which is older
will_be_behind : (b : Nodes) (x id : ℕ) (parts rest : List TypeId) (found : List ℕ) → All (λ t. t < id) (map (λ t. t.0) parts) → id < suc x → WillBeMet b x (met found (waiting_variables b parts)) rest → WillBeMet b x found (parts ++ rest)
will_be_behind b x id [] rest found all l w = w
will_be_behind b x id (t ∷ ts) rest found all l w =
    let h = All-head (λ t. t < id) t.0 (map (λ t. t.0) ts) all in
    let e = met_append (type_variables (type_tree b t.0)) (waiting_variables b ts) found in
    inr (omega (arith, h, l), will_be_behind b x id ts rest (met found (type_variables (type_tree b t.0))) (All-tail (λ t. t < id) t.0 (map (λ t. t.0) ts) all) l (subst (λ N. WillBeMet b x N rest) e w))

are_met : (b : Nodes) (x : ℕ) (found : List ℕ) (ts : List TypeId) → AllMet found (type_variables (type_tree b x)) → WillBeMet b x found ts
are_met b x found [] h = h
are_met b x found (t ∷ ts) h = inl h

-- a type that was seen is met when it comes up again
comes_up : (b : Nodes) (x : TypeId) (found : List ℕ) (ts : List TypeId) → WillBeMet b x.0 found (x ∷ ts) → AllMet found (type_variables (type_tree b x.0))
comes_up b x found ts (inl h) = h
comes_up b x found ts (inr p) = let l = p.0 in absurd (omega (arith, l))

still : (b : Nodes) (x : ℕ) (t : TypeId) (found : List ℕ) (ts : List TypeId) → AllMet found (type_variables (type_tree b t.0)) → WillBeMet b x found (t ∷ ts) → WillBeMet b x found ts
still b x t found ts all (inl h) = are_met b x found ts h
still b x t found ts all (inr p) = subst (λ N. WillBeMet b x N ts) (met_again (type_variables (type_tree b t.0)) found all) p.1

pub passed_over : (b : Nodes) (found seen now : List ℕ) (t : TypeId) (ts : List TypeId) (all : List ℕ) → list_any (nat_eq t.0) seen ≡ true → now ≡ insert_key nat_eq seen t.0 → IsOnWay b found seen (t ∷ ts) all → IsOnWay b found now ts all
passed_over b found seen now t ts all h is w =
    let same : now ≡ seen = is ∙ ap (λ b. if b then seen else seen ++ t.0 ∷ []) h in
    let m = comes_up b t found ts (w.known t.0 h) in
    record {
      known = λ x e. still b x t found ts m (w.known x (ap (list_any (nat_eq x)) (sym same) ∙ e));
      leads = ap (λ N. met N (waiting_variables b ts)) (sym (met_again (type_variables (type_tree b t.0)) found m)) ∙ sym (met_append (type_variables (type_tree b t.0)) (waiting_variables b ts) found) ∙ w.leads;
    }

-- which were seen, with one more
one_of : (N : List ℕ) (x y : ℕ) → list_any (nat_eq y) (N ++ x ∷ []) ≡ true → (y ≡ x) ⊎ (list_any (nat_eq y) N ≡ true)
one_of [] x y e = go (nat_eq y x) refl e where
  go : (b : Bool) → nat_eq y x ≡ b → (b || false) ≡ true → (y ≡ x) ⊎ (false ≡ true)
  go true f e = inl (eqb-true y x f)
  go false f e = inr e
one_of (z ∷ N) x y e = go (nat_eq y z) e (one_of N x y) where
  go : (b : Bool) → (b || list_any (nat_eq y) (N ++ x ∷ [])) ≡ true → (list_any (nat_eq y) (N ++ x ∷ []) ≡ true → (y ≡ x) ⊎ (list_any (nat_eq y) N ≡ true)) → (y ≡ x) ⊎ ((b || list_any (nat_eq y) N) ≡ true)
  go true e h = inr refl
  go false e h = h e

one_seen : (N : List ℕ) (x y : ℕ) → list_any (nat_eq y) (insert_key nat_eq N x) ≡ true → (y ≡ x) ⊎ (list_any (nat_eq y) N ≡ true)
one_seen N x y = go (list_any (nat_eq x) N) where
  go : (b : Bool) → list_any (nat_eq y) (if b then N else N ++ x ∷ []) ≡ true → (y ≡ x) ⊎ (list_any (nat_eq y) N ≡ true)
  go true e = inr e
  go false e = one_of N x y e

pub opened : (b : Nodes) (old new seen now : List ℕ) (t : TypeId) (before after : List TypeId) (all : List ℕ) → now ≡ insert_key nat_eq seen t.0 → IsOpened b t.0 old new before after → IsOnWay b old seen (t ∷ before) all → IsOnWay b new now after all
opened b old new seen now t before after all is o w = record {
  known = λ x e. subst (WillBeMet b x new) (sym o.waits) (by x (one_seen seen t.0 x (ap (list_any (nat_eq x)) (sym is) ∙ e)));
  leads = ap (λ l. met new (waiting_variables b l)) o.waits ∙ ap (met new) (waiting_append b o.parts before) ∙ met_append (waiting_variables b o.parts) (waiting_variables b before) new ∙ ap (λ N. met N (waiting_variables b before)) o.same
      ∙ sym (met_append (type_variables (type_tree b t.0)) (waiting_variables b before) old) ∙ w.leads;
}
  where
    itself : WillBeMet b t.0 new (o.parts ++ before)
    itself = will_be_behind b t.0 t.0 o.parts before new o.older (omega arith) (are_met b t.0 (met new (waiting_variables b o.parts)) before (subst (λ N. AllMet N (type_variables (type_tree b t.0))) (sym o.same) (all_met (type_variables (type_tree b t.0)) old)))

    other : (x : ℕ) → WillBeMet b x old (t ∷ before) → WillBeMet b x new (o.parts ++ before)
    other x (inl h) = are_met b x new (o.parts ++ before) (subst (λ N. AllMet N (type_variables (type_tree b x))) (sym o.grown) (all_more old o.more (type_variables (type_tree b x)) h))
    other x (inr p) = let l = p.0 in will_be_behind b x t.0 o.parts before new o.older (omega (arith, l)) (subst (λ N. WillBeMet b x N before) (sym o.same) p.1)

    by : (x : ℕ) → (x ≡ t.0) ⊎ (list_any (nat_eq x) seen ≡ true) → WillBeMet b x new (o.parts ++ before)
    by x (inl e) = subst (λ y. WillBeMet b y new (o.parts ++ before)) (sym e) itself
    by x (inr h) = other x (w.known x h)

-- what a node opens
types_of : (b : Nodes) (ids : List TypeId) → types_variables (tys (map (type_tree b) (map (λ t. t.0) ids))) ≡ waiting_variables b ids
types_of b [] = refl
types_of b (t ∷ ts) = ap (λ l. type_variables (type_tree b t.0) ++ l) (types_of b ts)

module _ (b : Nodes) (id : ℕ) (shape : TypeShape) (older : TypeBelow id shape) (tree : type_node_tree b shape ≡ type_tree b id) where
  seen_through : (s : TypeShape) → shape ≡ s → type_variables (type_node_tree b s) ≡ type_variables (type_tree b id)
  seen_through s is = ap (λ s. type_variables (type_node_tree b s)) (sym is) ∙ ap type_variables tree

  pub var_opened : (n : ℕ) (old new : List ℕ) (stack : List TypeId) → shape ≡ var_node n → new ≡ insert_key nat_eq old n → IsOpened b id old new stack stack
  var_opened n old new stack is e = let k = keeps old n in record {
    parts = [];
    older = All-nil (λ t. t < id);
    waits = refl;
    same = e ∙ ap (met old) (seen_through (var_node n) is);
    more = k.0;
    grown = e ∙ k.1;
  }

  pub param_opened : (k : ℕ) (old : List ℕ) (stack : List TypeId) → shape ≡ param_node k → IsOpened b id old old stack stack
  param_opened k old stack is = record {
    parts = [];
    older = All-nil (λ t. t < id);
    waits = refl;
    same = ap (met old) (seen_through (param_node k) is);
    more = [];
    grown = sym (append-nil old);
  }

  pub con_opened : (k : ℕ) (ids : List TypeId) (old : List ℕ) (stack more : List TypeId) → shape ≡ con_node k (map (λ t. t.0) ids) → more ≡ stack ++ reverse ids → IsOpened b id old old (reverse stack) (reverse more)
  con_opened k ids old stack more is e = record {
    parts = ids;
    older = subst (TypeBelow id) is older;
    waits = ap reverse e ∙ reverse-append stack (reverse ids) ∙ ap (λ l. l ++ reverse stack) (reverse-reverse ids);
    same = ap (met old) (sym (types_of b ids) ∙ seen_through (con_node k (map (λ t. t.0) ids)) is);
    more = [];
    grown = sym (append-nil old);
  }

  pub arrow_opened : (f t : TypeId) (old : List ℕ) (stack mid more : List TypeId) → shape ≡ arrow_node f.0 t.0 → mid ≡ stack ++ t ∷ [] → more ≡ mid ++ f ∷ [] → IsOpened b id old old (reverse stack) (reverse more)
  arrow_opened f t old stack mid more is one two = record {
    parts = f ∷ t ∷ [];
    older = (let p = subst (TypeBelow id) is older in All-cons (λ t. t < id) f.0 (t.0 ∷ []) p.0 (All-cons (λ t. t < id) t.0 [] p.1 (All-nil (λ t. t < id))));
    waits = ap reverse two ∙ reverse-append mid (f ∷ []) ∙ ap (λ l. f ∷ l) (ap reverse one ∙ reverse-append stack (t ∷ []));
    same = ap (met old) (ap (λ l. type_variables (type_tree b f.0) ++ l) (append-nil (type_variables (type_tree b t.0))) ∙ seen_through (arrow_node f.0 t.0) is);
    more = [];
    grown = sym (append-nil old);
  }

-- the walk begins, goes on and ends
pub walk_begins : (b : Nodes) (found seen : List ℕ) (stack : List TypeId) (t : TypeId) → found ≡ [] → seen ≡ [] → stack ≡ [] ++ t ∷ [] → IsOnWay b found seen (reverse stack) (first_variables (type_tree b t.0))
unfolding first_variables
walk_begins b found seen stack t none unseen is = record {
  known = λ x h. absurd (true≢false (sym h ∙ ap (list_any (nat_eq x)) unseen));
  leads = ap (λ N. met N (waiting_variables b (reverse stack))) none ∙ ap (λ s. met [] (waiting_variables b (reverse s))) is ∙ ap (met []) (append-nil (type_variables (type_tree b t.0)));
}

pub next_taken : (b : Nodes) (found seen all : List ℕ) (stack rest : List TypeId) (t : TypeId) → stack ≡ rest ++ t ∷ [] → IsOnWay b found seen (reverse stack) all → IsOnWay b found seen (t ∷ reverse rest) all
next_taken b found seen all stack rest t is w = subst (λ s. IsOnWay b found seen s all) (ap reverse is ∙ reverse-append rest (t ∷ [])) w

pub walk_ends : (b : Nodes) (found seen all : List ℕ) (stack : List TypeId) → stack ≡ [] → IsOnWay b found seen (reverse stack) all → found ≡ all
walk_ends b found seen all stack is w = ap (λ s. met found (waiting_variables b (reverse s))) (sym is) ∙ w.leads

pub was_there : (b : Bool) → false ≡ not b → b ≡ true
was_there true e = refl
was_there false e = absurd (true≢false (sym e))
