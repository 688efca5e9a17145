-- What the parts of a text do to the types, the equations and the stack, as trees.
use Rattle.std.proofs.Common.{◌≡◌, ℕ, zero, suc, ◌+◌, ◌-◌, ◌<◌, ◌≤◌, List, [], ◌∷◌, ◌++◌, map, reverse, length, get_or, refl, sym, ap, subst, ◌∙◌, Option, Some, None, arith}
use Rattle.std.specs.Prelude.{All}
use Rattle.std.proofs.lemmas.List.{map-append, reverse-append, length-map, length-reverse, get_or-reverse, append-nil, reverse-reverse}
use Rattle.indexmap.proofs.ReorderLemmas.{map-reverse}
use Rattle.std.proofs.lemmas.List.Elements.{All-append, All-cons, All-nil, All-head, All-tail}
use Rattle.lp_sig.proofs.Instances.{two_sides}
use Rattle.lp_lemmas.proofs.Lists.{map_agree_on}
use Rattle.lp_calculus.specs.Types.{Ty, var, arrow, instance}
use Rattle.lp_calculus.specs.Typing.{Scheme, type_at, o_type}
use Rattle.lp_type_laws.specs.Equations.{Equation, equation}
use Rattle.lp_term.specs.Nodes.{Nodes, type_tree, Extends}
use Rattle.lp_term.specs.declared.node.TypeId.{TypeId}
use Rattle.lp_term.proofs.Trees.{extends_same, extends-trans}
use Rattle.lp_type_unify.specs.declared.bindings.Pair.{Pair}
use Rattle.lp_type_unify.specs.Reading.{IsPair}
use Rattle.lp_infer.specs.Generate.{fresh, given_equation}
use Rattle.lp_sig.specs.declared.signature.Signature.{Signature}
use Rattle.lp_infer.specs.Postfix.{Mark, is_constant, opens, closes, applies, mark, IsStep}
use Rattle.lp_infer.specs.declared.lookup.Step.{Step}
use Rattle.lp_infer.specs.declared.lookup.Step.TheVariants as step
use Rattle.lp_infer.proofs.Visiting.{step_more}
use Rattle.lp_infer.specs.Running.{Sofar, sofar, act, run, pushed, closed, applied}
use Rattle.lp_term.specs.Within.{IsTypeOf, AreTypesOf}
use Rattle.lp_lemmas.proofs.Elements.{All_pushed, All_popped}
use Rattle.lp_infer.specs.Copies.{trees_of, IsType}
use Rattle.lp_infer.specs.Making.{held, state, IsSound, Acts, Makes, MakesFresh, IsConstant, IsEquated, HasVariables, IsEnded, IsGenerated}
use Rattle.lp_infer.specs.declared.generate.Typing.{Typing}
use Rattle.lp_term.proofs.Within.{type_trees_later, types_later}
use Rattle.lp_infer.proofs.Copying.{type_stays, get_number}

-- lists of types

pub trees_append : (b : Nodes) (xs ys : List TypeId) → trees_of b (xs ++ ys) ≡ trees_of b xs ++ trees_of b ys
trees_append b xs ys = map-append (λ t. type_tree b t.0) xs ys

pub trees_pushed : (b : Nodes) (xs ys : List TypeId) (x : TypeId) → ys ≡ xs ++ x ∷ [] → reverse (trees_of b ys) ≡ type_tree b x.0 ∷ reverse (trees_of b xs)
trees_pushed b xs ys x e = ap (λ l. reverse (trees_of b l)) e ∙ ap reverse (trees_append b xs (x ∷ [])) ∙ reverse-append (trees_of b xs) (type_tree b x.0 ∷ [])

pub types_pushed : (b : Nodes) (xs ys : List TypeId) (x : TypeId) → ys ≡ xs ++ x ∷ [] → AreTypesOf b xs → x.0 < length b.types → AreTypesOf b ys
types_pushed b xs ys x e k h = All_pushed (IsTypeOf b) ys xs x e k h

pub types_popped : (b : Nodes) (xs ys : List TypeId) (x : TypeId) → ys ≡ xs ++ x ∷ [] → AreTypesOf b ys → AreTypesOf b xs × (x.0 < length b.types)
types_popped b xs ys x e k = All_popped (IsTypeOf b) ys xs x e k

-- pairs

held_same : (b c : Nodes) → Extends b c → (p : Pair) → IsPair (length b.types) p → held c p ≡ held b p
held_same b c E p h = let l = E.same_types p.left.0 h.0 in let r = E.same_types p.right.0 h.1 in cc

pub helds_stay : (b c : Nodes) → Extends b c → (ps : List Pair) → All (IsPair (length b.types)) ps → map (held c) ps ≡ map (held b) ps
helds_stay b c E [] h = refl
helds_stay b c E (p ∷ ps) h =
    let e = held_same b c E p (All-head (IsPair (length b.types)) p ps h) in
    let f = helds_stay b c E ps (All-tail (IsPair (length b.types)) p ps h) in
    cc

pub pairs_stay : (b c : Nodes) → Extends b c → (ps : List Pair) → All (IsPair (length b.types)) ps → All (IsPair (length c.types)) ps
pairs_stay b c E ps h = λ i d l. let k = h i d l in let m = E.more_types in (omega (arith, k.0, m), omega (arith, k.1, m))

pub pairs_pushed : (n : ℕ) (ps qs : List Pair) (l r : TypeId) → qs ≡ ps ++ (record { left = l; right = r }) ∷ [] → All (IsPair n) ps → l.0 < n → r.0 < n → All (IsPair n) qs
pairs_pushed n ps qs l r e h a b =
    subst (All (IsPair n)) (sym e) (All-append (IsPair n) ps ((record { left = l; right = r }) ∷ []) h (All-cons (IsPair n) (record { left = l; right = r }) [] (a, b) (All-nil (IsPair n))))

pub helds_pushed : (b : Nodes) (ps qs : List Pair) (l r : TypeId) → qs ≡ ps ++ (record { left = l; right = r }) ∷ [] → map (held b) qs ≡ map (held b) ps ++ equation (type_tree b l.0) (type_tree b r.0) ∷ []
helds_pushed b ps qs l r e = ap (map (held b)) e ∙ map-append (held b) ps ((record { left = l; right = r }) ∷ [])

-- states

pub sofar_same : (C D : List Ty) (n m : ℕ) (es fs : List Equation) (as_ bs st uv : List Ty) → C ≡ D → n ≡ m → es ≡ fs → as_ ≡ bs → st ≡ uv → sofar C n es as_ st ≡ sofar D m fs bs uv
sofar_same C D n m es fs as_ bs st uv a b c d e =
    ap (λ l. sofar l n es as_ st) a ∙ ap (λ k. sofar D k es as_ st) b ∙ ap (λ l. sofar D m l as_ st) c ∙ ap (λ l. sofar D m fs l st) d ∙ ap (sofar D m fs bs) e

pub acts_then : (a b c : Typing) (f g : Sofar → Sofar) → Acts a b f → Acts b c g → Acts a c (λ s. g (f s))
acts_then a b c f g F G = record {
  kept = extends-trans a.types b.types c.types F.kept G.kept;
  sound = λ s. G.sound (F.sound s);
  state = λ s. G.state (F.sound s) ∙ ap g (F.state s);
}

-- what stays where only the bank has grown
module _ (old new : Typing) (E : Extends old.types new.types) (S : IsSound old) where
  pub contexts : (xs : List TypeId) → xs ≡ old.context.items → reverse (trees_of new.types xs) ≡ reverse (trees_of old.types old.context.items)
  contexts xs e = ap (λ l. reverse (trees_of new.types l)) e ∙ ap reverse (type_trees_later old.types new.types old.context.items E S.context)

  pub equations : (ps : List Pair) → ps ≡ old.pairs.items → map (held new.types) ps ≡ map (held old.types) old.pairs.items
  equations ps e = ap (map (held new.types)) e ∙ helds_stay old.types new.types E old.pairs.items S.pairs

  pub wanteds : (xs : List TypeId) → xs ≡ old.wanted.items → trees_of new.types xs ≡ trees_of old.types old.wanted.items
  wanteds xs e = ap (trees_of new.types) e ∙ type_trees_later old.types new.types old.wanted.items E S.wanted

  pub stacks : (xs : List TypeId) → xs ≡ old.stack.items → reverse (trees_of new.types xs) ≡ reverse (trees_of old.types old.stack.items)
  stacks xs e = ap (λ l. reverse (trees_of new.types l)) e ∙ ap reverse (type_trees_later old.types new.types old.stack.items E S.stack)

  pub known_context : (xs : List TypeId) → xs ≡ old.context.items → AreTypesOf new.types xs
  known_context xs e = subst (AreTypesOf new.types) (sym e) (types_later old.types new.types old.context.items E S.context)

  pub known_pairs : (ps : List Pair) → ps ≡ old.pairs.items → All (IsPair (length new.types.types)) ps
  known_pairs ps e = subst (All (IsPair (length new.types.types))) (sym e) (pairs_stay old.types new.types E old.pairs.items S.pairs)

  pub known_wanted : (xs : List TypeId) → xs ≡ old.wanted.items → AreTypesOf new.types xs
  known_wanted xs e = subst (AreTypesOf new.types) (sym e) (types_later old.types new.types old.wanted.items E S.wanted)

  pub known_stack : (xs : List TypeId) → xs ≡ old.stack.items → AreTypesOf new.types xs
  known_stack xs e = subst (AreTypesOf new.types) (sym e) (types_later old.types new.types old.stack.items E S.stack)

-- one type more on the stack
pub push_acts : (old new : Typing) (id : TypeId) (T : Ty) → Extends old.types new.types → new.context.items ≡ old.context.items → new.next ≡ old.next → new.pairs.items ≡ old.pairs.items → new.wanted.items ≡ old.wanted.items →
    new.stack.items ≡ old.stack.items ++ id ∷ [] → (IsSound old → IsType new.types id T) → Acts old new (pushed T)
push_acts old new id T E context next pairs wanted stack is = record {
  kept = E;
  sound = λ S. record {
    context = known_context old new E S new.context.items context;
    pairs = known_pairs old new E S new.pairs.items pairs;
    wanted = known_wanted old new E S new.wanted.items wanted;
    stack = types_pushed new.types old.stack.items new.stack.items id stack (types_later old.types new.types old.stack.items E S.stack) (is S).0;
  };
  state = λ S.
      sofar_same _ _ _ _ _ _ _ _ _ _ (contexts old new E S new.context.items context) next (equations old new E S new.pairs.items pairs) (wanteds old new E S new.wanted.items wanted)
      (trees_pushed new.types old.stack.items new.stack.items id stack ∙ ap (λ l. type_tree new.types id.0 ∷ l) (stacks old new E S old.stack.items refl) ∙ ap (λ U. U ∷ reverse (trees_of old.types old.stack.items)) (is S).1);
}

-- the type of an index

past_all : (Ts : List Ty) (i : ℕ) → length Ts ≤ i → type_at Ts i ≡ o_type
past_all [] i h = refl
past_all (T ∷ Ts) zero h = absurd (omega (arith, h))
past_all (T ∷ Ts) (suc i) h = past_all Ts i (omega (arith, h))

trees_length : (b : Nodes) (xs : List TypeId) → length (trees_of b xs) ≡ length xs
trees_length b xs = length-map xs (λ t. type_tree b t.0)

pub index_type : (b : Nodes) (xs : List TypeId) (i : ℕ) (id : TypeId) → i < length xs → id ≡ get_or xs (length xs - 1 - i) id → type_at (reverse (trees_of b xs)) i ≡ type_tree b id.0
index_type b xs i id h e =
    let l = trees_length b xs in
    get_or-reverse (trees_of b xs) i o_type (omega (arith, h, l)) ∙ ap (λ n. type_at (trees_of b xs) (n - 1 - i)) l ∙ get_number b xs (length xs - 1 - i) id e (omega (arith, h))

pub index_past : (b : Nodes) (xs : List TypeId) (i : ℕ) → length xs ≤ i → type_at (reverse (trees_of b xs)) i ≡ o_type
index_past b xs i h =
    let l = trees_length b xs in
    let r = length-reverse (trees_of b xs) in
    past_all (reverse (trees_of b xs)) i (omega (arith, h, l, r))

-- a constant at new type variables
pub constant_acts : (before mid new : Typing) (arguments : List TypeId) (id : TypeId) (scheme : Scheme) (number : ℕ) → IsConstant before mid arguments id scheme → new.types ≡ mid.types → new.context ≡ mid.context → new.next ≡ mid.next → new.pairs ≡ mid.pairs →
    new.wanted.items ≡ mid.wanted.items ++ arguments → new.stack.items ≡ mid.stack.items ++ id ∷ [] → Acts before new (act (is_constant number scheme))
constant_acts before mid new arguments id scheme number C types context next pairs wanted stack =
    let E : Extends before.types new.types = subst (Extends before.types) (sym types) C.grown.kept in
    let is : IsType new.types id (instance (type_at (fresh scheme.count before.next)) scheme.body) = subst (λ b. IsType b id (instance (type_at (fresh scheme.count before.next)) scheme.body)) (sym types) C.is in
    let known : AreTypesOf new.types arguments = subst (λ b. AreTypesOf b arguments) (sym types) C.known in
    let are : trees_of new.types arguments ≡ fresh scheme.count before.next = ap (λ b. trees_of b arguments) types ∙ C.are in
    let more : new.wanted.items ≡ before.wanted.items ++ arguments = wanted ∙ ap (λ v. v.items ++ arguments) C.grown.wanted in
    let higher : new.stack.items ≡ before.stack.items ++ id ∷ [] = stack ∙ ap (λ v. v.items ++ id ∷ []) C.grown.stack in
    record {
      kept = E;
      sound = λ S. record {
        context = known_context before new E S new.context.items (ap (λ v. v.items) (context ∙ C.grown.context));
        pairs = known_pairs before new E S new.pairs.items (ap (λ v. v.items) (pairs ∙ C.grown.pairs));
        wanted = subst (AreTypesOf new.types) (sym more)
            (All-append (IsTypeOf new.types) before.wanted.items arguments (types_later before.types new.types before.wanted.items E S.wanted) known);
        stack = types_pushed new.types before.stack.items new.stack.items id higher (types_later before.types new.types before.stack.items E S.stack) is.0;
      };
      state = λ S.
          sofar_same _ _ _ _ _ _ _ _ _ _ (contexts before new E S new.context.items (ap (λ v. v.items) (context ∙ C.grown.context))) (next ∙ C.grown.next)
          (equations before new E S new.pairs.items (ap (λ v. v.items) (pairs ∙ C.grown.pairs)))
          (ap (trees_of new.types) more ∙ trees_append new.types before.wanted.items arguments ∙ ap (λ l. l ++ trees_of new.types arguments) (wanteds before new E S before.wanted.items refl) ∙ ap (λ l. trees_of before.types before.wanted.items ++ l) are)
          (trees_pushed new.types before.stack.items new.stack.items id higher ∙ ap (λ l. type_tree new.types id.0 ∷ l) (stacks before new E S before.stack.items refl) ∙ ap (λ U. U ∷ reverse (trees_of before.types before.stack.items)) is.1);
    }

-- the beginning of an abstraction
module _ (old mid new : Typing) (from : TypeId) (M : Makes old mid (suc old.next) (var old.next) from) (context : new.context.items ≡ mid.context.items ++ from ∷ []) (types : new.types ≡ mid.types) (next : new.next ≡ mid.next) (wanted : new.wanted ≡ mid.wanted) (stack : new.stack ≡ mid.stack) where
  grew : Extends old.types new.types
  grew = subst (Extends old.types) (sym types) M.grown.kept

  is_var : IsType new.types from (var old.next)
  is_var = subst (λ b. IsType b from (var old.next)) (sym types) M.is

  deeper : new.context.items ≡ old.context.items ++ from ∷ []
  deeper = context ∙ ap (λ v. v.items ++ from ∷ []) M.grown.context

  opens_with : (given : Option Ty) → (IsSound old → All (IsPair (length new.types.types)) new.pairs.items) → (IsSound old → map (held new.types) new.pairs.items ≡ map (held old.types) old.pairs.items ++ given_equation given (var old.next)) → Acts old new (act (opens given))
  opens_with given sound is = record {
    kept = grew;
    sound = λ S. record {
      context = types_pushed new.types old.context.items new.context.items from deeper (types_later old.types new.types old.context.items grew S.context) is_var.0;
      pairs = sound S;
      wanted = known_wanted old new grew S new.wanted.items (ap (λ v. v.items) (wanted ∙ M.grown.wanted));
      stack = known_stack old new grew S new.stack.items (ap (λ v. v.items) (stack ∙ M.grown.stack));
    };
    state = λ S.
        sofar_same _ _ _ _ _ _ _ _ _ _ (trees_pushed new.types old.context.items new.context.items from deeper ∙ ap (λ l. type_tree new.types from.0 ∷ l) (contexts old new grew S old.context.items refl) ∙ ap (λ U. U ∷ reverse (trees_of old.types old.context.items)) is_var.1)
        (next ∙ M.grown.next) (is S) (wanteds old new grew S new.wanted.items (ap (λ v. v.items) (wanted ∙ M.grown.wanted))) (stacks old new grew S new.stack.items (ap (λ v. v.items) (stack ∙ M.grown.stack)));
  }

  pub opens_plain : new.pairs ≡ mid.pairs → Acts old new (act (opens None))
  opens_plain pairs =
      let same : new.pairs.items ≡ old.pairs.items = ap (λ v. v.items) (pairs ∙ M.grown.pairs) in
      opens_with None (λ S. known_pairs old new grew S new.pairs.items same) (λ S. equations old new grew S new.pairs.items same ∙ sym (append-nil (map (held old.types) old.pairs.items)))

  pub opens_given : (id : TypeId) → id.0 < length old.types.types → new.pairs.items ≡ mid.pairs.items ++ (record { left = from; right = id }) ∷ [] → Acts old new (act (opens (Some (type_tree old.types id.0))))
  opens_given id known pairs =
      let more : new.pairs.items ≡ old.pairs.items ++ (record { left = from; right = id }) ∷ [] = pairs ∙ ap (λ v. v.items ++ (record { left = from; right = id }) ∷ []) M.grown.pairs in
      opens_with (Some (type_tree old.types id.0))
      (λ S. pairs_pushed (length new.types.types) old.pairs.items new.pairs.items from id more (pairs_stay old.types new.types grew old.pairs.items S.pairs) is_var.0 (let m = grew.more_types in omega (arith, known, m)))
      (λ S.
      helds_pushed new.types old.pairs.items new.pairs.items from id more ∙ ap (λ l. l ++ equation (type_tree new.types from.0) (type_tree new.types id.0) ∷ []) (equations old new grew S old.pairs.items refl) ∙
      ap (λ U. map (held old.types) old.pairs.items ++ equation U (type_tree new.types id.0) ∷ []) is_var.1 ∙ ap (λ U. map (held old.types) old.pairs.items ++ equation (var old.next) U ∷ []) (grew.same_types id.0 known))

-- the end of an abstraction
pub close_acts : (old new : Typing) (from to id : TypeId) (C st : List TypeId) → old.context.items ≡ C ++ from ∷ [] → old.stack.items ≡ st ++ to ∷ [] → Extends old.types new.types → IsType new.types id (arrow (type_tree old.types from.0) (type_tree old.types to.0)) →
    new.context.items ≡ C → new.stack.items ≡ st ++ id ∷ [] → new.next ≡ old.next → new.pairs ≡ old.pairs → new.wanted ≡ old.wanted → Acts old new (act closes)
close_acts old new from to id C st c s E is context stack next pairs wanted = record {
  kept = E;
  sound = λ S. record {
    context = subst (AreTypesOf new.types) (sym context) (types_later old.types new.types C E (types_popped old.types C old.context.items from c S.context).0);
    pairs = known_pairs old new E S new.pairs.items (ap (λ v. v.items) pairs);
    wanted = known_wanted old new E S new.wanted.items (ap (λ v. v.items) wanted);
    stack = types_pushed new.types st new.stack.items id stack (types_later old.types new.types st E (types_popped old.types st old.stack.items to s S.stack).0) is.0;
  };
  state = λ S.
      let P = type_tree old.types from.0 in
      let T = type_tree old.types to.0 in
      let below = reverse (trees_of old.types C) in
      let rest = reverse (trees_of old.types st) in
      sofar_same _ _ _ _ _ _ _ _ _ _ (ap (λ l. reverse (trees_of new.types l)) context ∙ ap reverse (type_trees_later old.types new.types C E (types_popped old.types C old.context.items from c S.context).0)) next
      (equations old new E S new.pairs.items (ap (λ v. v.items) pairs)) (wanteds old new E S new.wanted.items (ap (λ v. v.items) wanted))
      (trees_pushed new.types st new.stack.items id stack ∙ ap (λ U. U ∷ reverse (trees_of new.types st)) is.1 ∙ ap (λ l. arrow P T ∷ reverse l) (type_trees_later old.types new.types st E (types_popped old.types st old.stack.items to s S.stack).0)) ∙
      sym (ap (λ l. closed old.next (map (held old.types) old.pairs.items) (trees_of old.types old.wanted.items) l (reverse (trees_of old.types old.stack.items))) (trees_pushed old.types C old.context.items from c) ∙
      ap (closed old.next (map (held old.types) old.pairs.items) (trees_of old.types old.wanted.items) (P ∷ below)) (trees_pushed old.types st old.stack.items to s));
}

-- an application
pub apply_acts : (old mid new : Typing) (head argument id arrow_id : TypeId) (st more : List TypeId) → old.stack.items ≡ more ++ argument ∷ [] → more ≡ st ++ head ∷ [] → Extends old.types mid.types → IsType mid.types id (var old.next) → Extends mid.types new.types →
    IsType new.types arrow_id (arrow (type_tree mid.types argument.0) (type_tree mid.types id.0)) → new.pairs.items ≡ old.pairs.items ++ (record { left = head; right = arrow_id }) ∷ [] → new.stack.items ≡ st ++ id ∷ [] → new.context ≡ old.context → new.next ≡ suc old.next → new.wanted ≡ old.wanted →
    Acts old new (act applies)
apply_acts old mid new head argument id arrow_id st more s t E v F is pairs stack context next wanted =
    let G : Extends old.types new.types = extends-trans old.types mid.types new.types E F in
    let w : IsType new.types id (var old.next) = type_stays mid.types new.types F id (var old.next) v in
    record {
      kept = G;
      sound = λ S.
          let first = types_popped old.types more old.stack.items argument s S.stack in
          let second = types_popped old.types st more head t first.0 in
          record {
            context = known_context old new G S new.context.items (ap (λ v. v.items) context);
            pairs = pairs_pushed (length new.types.types) old.pairs.items new.pairs.items head arrow_id pairs (pairs_stay old.types new.types G old.pairs.items S.pairs) (let m = G.more_types in let h = second.1 in omega (arith, h, m)) is.0;
            wanted = known_wanted old new G S new.wanted.items (ap (λ v. v.items) wanted);
            stack = types_pushed new.types st new.stack.items id stack (types_later old.types new.types st G second.0) w.0;
          };
      state = λ S.
          let first = types_popped old.types more old.stack.items argument s S.stack in
          let second = types_popped old.types st more head t first.0 in
          let U = type_tree old.types argument.0 in
          let T = type_tree old.types head.0 in
          let es = map (held old.types) old.pairs.items in
          let C = reverse (trees_of old.types old.context.items) in
          let as_ = trees_of old.types old.wanted.items in
          let rest = reverse (trees_of old.types st) in
          sofar_same _ _ _ _ _ _ _ _ _ _ (contexts old new G S new.context.items (ap (λ v. v.items) context)) next
          (helds_pushed new.types old.pairs.items new.pairs.items head arrow_id pairs ∙ ap (λ l. l ++ equation (type_tree new.types head.0) (type_tree new.types arrow_id.0) ∷ []) (equations old new G S old.pairs.items refl) ∙
          ap (λ A. es ++ equation A (type_tree new.types arrow_id.0) ∷ []) (G.same_types head.0 second.1) ∙ ap (λ A. es ++ equation T A ∷ []) (is.1 ∙ two_sides _ _ _ _ (E.same_types argument.0 first.1) v.1))
          (wanteds old new G S new.wanted.items (ap (λ v. v.items) wanted))
          (trees_pushed new.types st new.stack.items id stack ∙ ap (λ A. A ∷ reverse (trees_of new.types st)) w.1 ∙ ap (λ l. var old.next ∷ reverse l) (type_trees_later old.types new.types st G second.0)) ∙
          sym (ap (applied C old.next es as_) (trees_pushed old.types more old.stack.items argument s ∙ ap (λ l. U ∷ l) (trees_pushed old.types st more head t)));
    }

-- the same, said otherwise
pub acts_as : (a b : Typing) (f g : Sofar → Sofar) → (IsSound a → g (state a) ≡ f (state a)) → Acts a b f → Acts a b g
acts_as a b f g e F = record { kept = F.kept; sound = F.sound; state = λ S. F.state S ∙ sym (e S) }

-- only the bank has grown
pub grow_acts : (old new : Typing) → Extends old.types new.types → new.context ≡ old.context → new.next ≡ old.next → new.pairs ≡ old.pairs → new.wanted ≡ old.wanted → new.stack ≡ old.stack → Acts old new (λ s. s)
grow_acts old new E context next pairs wanted stack = record {
  kept = E;
  sound = λ S. record {
    context = known_context old new E S new.context.items (ap (λ v. v.items) context);
    pairs = known_pairs old new E S new.pairs.items (ap (λ v. v.items) pairs);
    wanted = known_wanted old new E S new.wanted.items (ap (λ v. v.items) wanted);
    stack = known_stack old new E S new.stack.items (ap (λ v. v.items) stack);
  };
  state = λ S.
      sofar_same _ _ _ _ _ _ _ _ _ _ (contexts old new E S new.context.items (ap (λ v. v.items) context)) next (equations old new E S new.pairs.items (ap (λ v. v.items) pairs))
      (wanteds old new E S new.wanted.items (ap (λ v. v.items) wanted)) (stacks old new E S new.stack.items (ap (λ v. v.items) stack));
}

-- so many new type variables

fresh_pushed : (n i : ℕ) → fresh (suc n) i ≡ fresh n i ++ var (i + n) ∷ []
fresh_pushed zero i = let e : i ≡ i + 0 = omega arith in ap (λ k. var k ∷ []) e
fresh_pushed (suc n) i = let e : suc i + n ≡ i + suc n = omega arith in ap (λ l. var i ∷ l) (fresh_pushed n (suc i) ∙ ap (λ k. fresh n (suc i) ++ var k ∷ []) e)

pub no_fresh : (t : Typing) (ids : List TypeId) → ids ≡ [] → MakesFresh t t 0 ids
no_fresh t ids e = record {
  grown = record { kept = extends_same t.types; context = refl; pairs = refl; wanted = refl; stack = refl; next = (let f : t.next ≡ t.next + 0 = omega arith in f) };
  known = subst (AreTypesOf t.types) (sym e) (All-nil (IsTypeOf t.types));
  are = ap (trees_of t.types) e;
}

pub more_fresh : (a b c : Typing) (n : ℕ) (ids more : List TypeId) (id : TypeId) → MakesFresh a b n ids → Makes b c (suc b.next) (var b.next) id → more ≡ ids ++ id ∷ [] → MakesFresh a c (n + 1) more
more_fresh a b c n ids more id F M e =
    let G = F.grown in
    let H = M.grown in
    let k : n + 1 ≡ suc n = omega arith in
    record {
      grown = record {
        kept = extends-trans a.types b.types c.types G.kept H.kept;
        context = H.context ∙ G.context;
        pairs = H.pairs ∙ G.pairs;
        wanted = H.wanted ∙ G.wanted;
        stack = H.stack ∙ G.stack;
        next = (let g = G.next in let h = H.next in omega (arith, g, h));
      };
      known = types_pushed c.types ids more id e (types_later b.types c.types ids H.kept F.known) M.is.0;
      are = ap (trees_of c.types) e ∙ trees_append c.types ids (id ∷ []) ∙ ap (λ l. l ++ type_tree c.types id.0 ∷ []) (type_trees_later b.types c.types ids H.kept F.known ∙ F.are) ∙ ap (λ T. fresh n a.next ++ T ∷ []) (M.is.1 ∙ ap var G.next) ∙
          sym (fresh_pushed n a.next) ∙ ap (λ m. fresh m a.next) (sym k);
    }

pub fresh_as : (a b : Typing) (n m : ℕ) (ids : List TypeId) → n ≡ m → MakesFresh a b n ids → MakesFresh a b m ids
fresh_as a b n m ids e F = subst (λ k. MakesFresh a b k ids) e F

-- a constant's type was made
pub constant_made : (before mid now : Typing) (count : ℕ) (ids arguments : List TypeId) (id : TypeId) (scheme : Scheme) (T : Ty) → MakesFresh before mid count ids → arguments ≡ ids → count ≡ scheme.count → Extends mid.types now.types →
    now.context ≡ mid.context → now.pairs ≡ mid.pairs → now.wanted ≡ mid.wanted → now.stack ≡ mid.stack → now.next ≡ mid.next → IsType now.types id T → T ≡ instance (type_at (trees_of mid.types arguments)) scheme.body → IsConstant before now arguments id scheme
constant_made before mid now count ids arguments id scheme T F same many E context pairs wanted stack next is e =
    let G = F.grown in
    let are : trees_of mid.types arguments ≡ fresh scheme.count before.next = ap (trees_of mid.types) same ∙ F.are ∙ ap (λ n. fresh n before.next) many in
    let known : AreTypesOf mid.types arguments = subst (AreTypesOf mid.types) (sym same) F.known in
    record {
      grown = record { kept = extends-trans before.types mid.types now.types G.kept E; context = context ∙ G.context; pairs = pairs ∙ G.pairs; wanted = wanted ∙ G.wanted; stack = stack ∙ G.stack; next = next ∙ G.next ∙ ap (λ n. before.next + n) many };
      known = types_later mid.types now.types arguments E known;
      are = type_trees_later mid.types now.types arguments E known ∙ are;
      is = (is.0, is.1 ∙ e ∙ ap (λ Ts. instance (type_at Ts) scheme.body) are);
    }

-- the variables of a text

trees_reverse : (b : Nodes) (xs : List TypeId) → trees_of b (reverse xs) ≡ reverse (trees_of b xs)
trees_reverse b xs = map-reverse (λ t. type_tree b t.0) xs

types_reverse : (b : Nodes) (xs : List TypeId) → AreTypesOf b xs → AreTypesOf b (reverse xs)
types_reverse b [] k = k
types_reverse b (x ∷ xs) k =
    types_pushed b (reverse xs) (reverse (x ∷ xs)) x (reverse-append (x ∷ []) xs) (types_reverse b xs (All-tail (IsTypeOf b) x xs k)) (All-head (IsTypeOf b) x xs k)

types_append : (b : Nodes) (xs ys zs : List TypeId) → zs ≡ xs ++ ys → AreTypesOf b xs → AreTypesOf b ys → AreTypesOf b zs
types_append b xs ys zs e h k =
    subst (AreTypesOf b) (sym e) (All-append (IsTypeOf b) xs ys h k)

pub variables_made : (old mid new : Typing) (count : ℕ) (ids other : List TypeId) → MakesFresh old mid count ids → other ≡ reverse ids → new.types ≡ mid.types → new.context.items ≡ mid.context.items ++ other → new.wanted.items ≡ mid.wanted.items ++ other →
    new.pairs ≡ mid.pairs → new.stack ≡ mid.stack → new.next ≡ mid.next → HasVariables count old new
variables_made old mid new count ids other F same types context wanted pairs stack next =
    let G = F.grown in
    let E : Extends old.types new.types = subst (Extends old.types) (sym types) G.kept in
    let known : AreTypesOf new.types other = subst (λ b. AreTypesOf b other) (sym types) (subst (AreTypesOf mid.types) (sym same) (types_reverse mid.types ids F.known)) in
    let are : trees_of new.types other ≡ reverse (fresh count old.next) = ap (λ b. trees_of b other) types ∙ ap (trees_of mid.types) same ∙ trees_reverse mid.types ids ∙ ap reverse F.are in
    let c : new.context.items ≡ old.context.items ++ other = context ∙ ap (λ v. v.items ++ other) G.context in
    let w : new.wanted.items ≡ old.wanted.items ++ other = wanted ∙ ap (λ v. v.items ++ other) G.wanted in
    record {
      kept = E;
      sound = λ S. record {
        context = types_append new.types old.context.items other new.context.items c (types_later old.types new.types old.context.items E S.context) known;
        pairs = known_pairs old new E S new.pairs.items (ap (λ v. v.items) (pairs ∙ G.pairs));
        wanted = types_append new.types old.wanted.items other new.wanted.items w (types_later old.types new.types old.wanted.items E S.wanted) known;
        stack = known_stack old new E S new.stack.items (ap (λ v. v.items) (stack ∙ G.stack));
      };
      state = λ a b d e.
          sofar_same _ _ _ _ _ _ _ _ _ _ (ap (λ l. reverse (trees_of new.types l)) (c ∙ ap (λ l. l ++ other) a) ∙ ap reverse are ∙ reverse-reverse (fresh count old.next)) (next ∙ G.next)
          (ap (map (held new.types)) (ap (λ v. v.items) (pairs ∙ G.pairs) ∙ b)) (ap (trees_of new.types) (w ∙ ap (λ l. l ++ other) d) ∙ are) (ap (λ l. reverse (trees_of new.types l)) (ap (λ v. v.items) (stack ∙ G.stack) ∙ e));
    }

-- the end
pub end_made : (old mid new : Typing) (has goal : TypeId) (others : List TypeId) → old.stack.items ≡ others ++ has ∷ [] → Extends old.types mid.types
    → IsType mid.types goal o_type → mid.context ≡ old.context → mid.pairs ≡ old.pairs → mid.wanted ≡ old.wanted → mid.stack.items ≡ others →
    IsEquated has goal mid new →
    IsEnded old new
end_made old mid new has goal others s E is context pairs wanted stack Q =
    let F : Extends old.types new.types = subst (Extends old.types) (sym Q.types) E in
    let g : IsType new.types goal o_type = subst (λ b. IsType b goal o_type) (sym Q.types) is in
    let more : new.pairs.items ≡ old.pairs.items ++ (record { left = has; right = goal }) ∷ [] = Q.pairs ∙ ap (λ v. v.items ++ (record { left = has; right = goal }) ∷ []) pairs in
    record {
      kept = F;
      sound = λ S.
          let popped = types_popped old.types others old.stack.items has s S.stack in
          record {
            context = known_context old new F S new.context.items (ap (λ v. v.items) (Q.context ∙ context));
            pairs = pairs_pushed (length new.types.types) old.pairs.items new.pairs.items has goal more (pairs_stay old.types new.types F old.pairs.items S.pairs) (let m = F.more_types in let h = popped.1 in omega (arith, h, m)) g.0;
            wanted = known_wanted old new F S new.wanted.items (ap (λ v. v.items) (Q.wanted ∙ wanted));
            stack = subst (AreTypesOf new.types) (sym (ap (λ v. v.items) Q.stack ∙ stack)) (types_later old.types new.types others F popped.0);
          };
      has = has;
      others = others;
      stack = s;
      equations = λ S.
          helds_pushed new.types old.pairs.items new.pairs.items has goal more ∙ ap (λ l. l ++ equation (type_tree new.types has.0) (type_tree new.types goal.0) ∷ []) (equations old new F S old.pairs.items refl) ∙
          ap (λ T. map (held old.types) old.pairs.items ++ equation T (type_tree new.types goal.0) ∷ []) (F.same_types has.0 (types_popped old.types others old.stack.items has s S.stack).1) ∙
          ap (λ T. map (held old.types) old.pairs.items ++ equation (type_tree old.types has.0) T ∷ []) g.1;
      wanted = λ S. wanteds old new F S new.wanted.items (ap (λ v. v.items) (Q.wanted ∙ wanted));
    }

-- the parts of a text, one after the other

mark_types : (sig : Signature) (text : List ℕ) (count : ℕ) (b c : Nodes) → Extends b c → (s : Step) → IsStep (length b.types) s → mark text sig.bank count (type_tree c) s ≡ mark text sig.bank count (type_tree b) s
mark_types sig text count b c E (step.Bound i) k = refl
mark_types sig text count b c E (step.Variable d i) k = refl
mark_types sig text count b c E (step.Standard i) k = refl
mark_types sig text count b c E (step.Declared i v id) k = refl
mark_types sig text count b c E (step.Integer z) k = refl
mark_types sig text count b c E (step.Text s) k = refl
mark_types sig text count b c E (step.Open None) k = refl
mark_types sig text count b c E (step.Open (Some id)) k = ap (λ T. opens (Some T)) (E.same_types id.0 k)
mark_types sig text count b c E step.Close k = refl
mark_types sig text count b c E step.Apply k = refl

pub run_append : (ms ns : List Mark) (s : Sofar) → run (ms ++ ns) s ≡ run ns (run ms s)
run_append [] ns s = refl
run_append (m ∷ ms) ns s = run_append ms ns (act m s)

pub nothing_acts : (t : Typing) → Acts t t (run [])
nothing_acts t = record { kept = extends_same t.types; sound = λ S. S; state = λ S. refl }

pub step_acts : (sig : Signature) (text : List ℕ) (count : ℕ) (old mid new : Typing) (ms more : List Mark) (s : Step) → Acts old mid (run ms) → IsStep (length old.types.types) s → more ≡ ms ++ mark text sig.bank count (type_tree old.types) s ∷ [] →
    (IsStep (length mid.types.types) s → Acts mid new (act (mark text sig.bank count (type_tree mid.types) s))) → Acts old new (run more)
step_acts sig text count old mid new ms more s F k e G =
    acts_as old new (λ st. act (mark text sig.bank count (type_tree mid.types) s) (run ms st)) (run more)
    (λ S. ap (λ l. run l (state old)) e ∙ run_append ms (mark text sig.bank count (type_tree old.types) s ∷ []) (state old) ∙ ap (λ m. act m (run ms (state old))) (sym (mark_types sig text count old.types mid.types F.kept s k)))
    (acts_then old mid new (run ms) (act (mark text sig.bank count (type_tree mid.types) s)) F (G (step_more (length old.types.types) (length mid.types.types) F.kept.more_types s k)))

-- the whole
pub generated_all : (sig : Signature) (text : List ℕ) (steps : List Step) (count : ℕ) (start first last end : Typing) → start.context.items ≡ [] → start.pairs.items ≡ [] → start.wanted.items ≡ [] → start.stack.items ≡ [] → HasVariables count start first →
    Acts first last (run (map (mark text sig.bank count (type_tree first.types)) steps)) → All (IsStep (length start.types.types)) steps → IsEnded last end → IsGenerated sig text steps count start.types start.next end
generated_all sig text steps count start first last end a b d e V A k N =
    let none : IsSound start = record {
      context = subst (AreTypesOf start.types) (sym a) (All-nil (IsTypeOf start.types));
      pairs = subst (All (IsPair (length start.types.types))) (sym b) (All-nil (IsPair (length start.types.types)));
      wanted = subst (AreTypesOf start.types) (sym d) (All-nil (IsTypeOf start.types));
      stack = subst (AreTypesOf start.types) (sym e) (All-nil (IsTypeOf start.types));
    } in
    let S = V.sound none in
    let L = A.sound S in
    let begins = sofar (fresh count start.next) (start.next + count) [] (reverse (fresh count start.next)) [] in
    let ms = map (mark text sig.bank count (type_tree start.types)) steps in
    let same : map (mark text sig.bank count (type_tree first.types)) steps ≡ ms = map_agree_on (IsStep (length start.types.types)) _ _ (λ s h. mark_types sig text count start.types first.types V.kept s h) steps k in
    let z : state last ≡ run ms begins = A.state S ∙ ap (λ l. run l (state first)) same ∙ ap (run ms) (V.state a b d e) in
    let E = N.sound L in
    record {
      kept = extends-trans start.types first.types end.types V.kept (extends-trans first.types last.types end.types A.kept N.kept);
      pairs = E.pairs;
      wanted = E.wanted;
      has = type_tree last.types N.has.0;
      others = reverse (trees_of last.types N.others);
      stack = sym (ap (λ s. s.stack) z) ∙ trees_pushed last.types N.others last.stack.items N.has N.stack;
      equations = N.equations L ∙ ap (λ s. s.equations ++ equation (type_tree last.types N.has.0) o_type ∷ []) z;
      arguments = N.wanted L ∙ ap (λ s. s.arguments) z;
    }
